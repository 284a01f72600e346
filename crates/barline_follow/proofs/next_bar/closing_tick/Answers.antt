use Rattle.std.proofs.Common.{◌≡◌, ◌+◌, ◌++◌, ◌<◌, ◌∷◌, ◌^◌, [], ℕ, suc, List, get_or, length, take, sym, ap, ◌∙◌, arith, rules, subst}
use Rattle.std.proofs.Math.Seq.{take-suc}
use Rattle.std.specs.Prelude.{All, max, nat_le, not}
use Rattle.std.specs.List.{list_any}
use Rattle.edit_laws.specs.Edits.{is_past}
use Rattle.rhythm_base.specs.declared.note.Note.{Note}
use Rattle.rhythm_base.specs.NoteBlocks.{Block, notes_of}
use Rattle.rhythm_base.proofs.NoteBlocks.{notes_push, parted}
use Rattle.barline_follow.proofs.NextBarLemmas.{all_inside, closed_more}
use Rattle.barline_follow.proofs.next_bar.closing_tick.Goals as goal

pub closing_within-requires : goal.closing_within-requires
closing_within-requires c =
    let blocks : List Block = c.blocks-block-items.result.now in
    let i : ℕ = c.blocks-2.block-index in
    let b : Block = c.block-item.result in
    let at : b ≡ get_or blocks i b = c.block-item.is in
    let lt : i < length blocks = search rules in
    let own = c.notes.ensures ∙ ap (λ (x : Block). x.notes) at in
    let all : All (λ n. n.onset < 2 ^ 63) (notes_of blocks) = subst (λ (l : List Note). All (λ n. n.onset < 2 ^ 63) l) (sym c.blocks-block-items.ensures) c.requires in
    subst (λ (l : List Note). All (λ n. n.onset < 2 ^ 63) l) (sym own)
    (all_inside (λ n. n.onset < 2 ^ 63) (notes_of (take i blocks)) (get_or blocks i b).notes _
    (subst (λ (l : List Note). All (λ n. n.onset < 2 ^ 63) l) (parted blocks i b lt) all))

pub blocks-2-preserved : goal.blocks-2-preserved
blocks-2-preserved c = λ end.
    let blocks : List Block = c.blocks-block-items.result.now in
    let i : ℕ = c.blocks-2.block-index in
    let b : Block = c.block-item.result in
    let at : b ≡ get_or blocks i b = c.block-item.is in
    let lt : i < length blocks = search rules in
    let next : i + 1 ≡ suc i = omega arith in
    let one_more : take (i + 1) blocks ≡ take i blocks ++ b ∷ [] =
    ap (λ k. take k blocks) next ∙ take-suc blocks i b lt ∙ ap (λ x. take i blocks ++ x ∷ []) (sym at) in
    let more : notes_of (take (i + 1) blocks) ≡ notes_of (take i blocks) ++ b.notes = ap notes_of one_more ∙ notes_push (take i blocks) b in
    let own = ap (λ (l : List Note). not (list_any (is_past end) l)) (sym c.notes.ensures) ∙ c.closing_within.ensures end in
    let top : c.max-tick.result ≡ max c.blocks-2.tick c.closing_within.result = search rules in
    ap (λ (l : List Note). not (list_any (is_past end) l)) more
    ∙ closed_more end c.blocks-2.tick c.closing_within.result (notes_of (take i blocks)) b.notes (c.blocks-2.invariant end) own
    ∙ ap (λ t. nat_le t end) (sym top)
