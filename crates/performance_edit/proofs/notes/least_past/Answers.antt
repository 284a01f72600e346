use Rattle.std.proofs.Common.{◌≡◌, ◌+◌, ◌++◌, ◌<◌, ◌∷◌, [], ℕ, suc, List, get_or, length, take, sym, ap, ◌∙◌, arith, rules}
use Rattle.std.proofs.Math.Seq.{take-suc}
use Rattle.std.specs.List.{reduce}
use Rattle.std.specs.Prelude.{min}
use Rattle.edit_laws.specs.Edits.{onsets_past}
use Rattle.rhythm_base.specs.declared.note.Note.{Note}
use Rattle.rhythm_base.specs.NoteBlocks.{Block, notes_of}
use Rattle.rhythm_base.proofs.NoteBlocks.{notes_push}
use Rattle.performance_edit.specs.OnlyPlaces.{lesser}
use Rattle.performance_edit.proofs.Searches.{least-parts}
use Rattle.performance_edit.proofs.notes.least_past.Goals as goal

pub blocks-2-preserved : goal.blocks-2-preserved
blocks-2-preserved c =
    let tick : ℕ = c.args.tick in
    let blocks : List Block = c.blocks-block-items.result.now in
    let i : ℕ = c.blocks-2.block-index in
    let b : Block = c.block-item.result in
    let at : b ≡ get_or blocks i b = c.block-item.is in
    let lt : i < length blocks = search rules in
    let next : i + 1 ≡ suc i = omega arith in
    let one_more : take (i + 1) blocks ≡ take i blocks ++ b ∷ [] =
    ap (λ k. take k blocks) next ∙ take-suc blocks i b lt ∙ ap (λ x. take i blocks ++ x ∷ []) (sym at) in
    let own = c.least_within.ensures ∙ ap (λ (l : List Note). reduce min (onsets_past tick l)) c.notes.ensures in
    c.lesser-least.ensures ∙ (λ j. lesser (c.blocks-2.invariant j) (own j))
    ∙ least-parts tick (notes_of (take i blocks)) b.notes
    ∙ ap (λ l. reduce min (onsets_past tick l)) (sym (notes_push (take i blocks) b) ∙ ap notes_of (sym one_more))
