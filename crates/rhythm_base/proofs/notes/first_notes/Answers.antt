use Rattle.std.proofs.Common.{◌≤◌, ◌≡◌, ◌++◌, ◌+◌, ◌-◌, ◌<◌, ℕ, List, [], ◌∷◌, take, length, get_or, ap, sym, ◌∙◌, arith, rules, append_assoc, suc}
use Rattle.std.specs.Prelude.{min}
use Rattle.std.proofs.Math.Seq.{take-length, take-suc}
use Rattle.rhythm_base.proofs.notes.first_notes.Goals.{else-blocks-2-test, then-blocks-2-test+then-room-eq0}
use Rattle.rhythm_base.specs.declared.note.Note.{Note}
use Rattle.rhythm_base.specs.NoteBlocks.{Block, notes_of}
use Rattle.rhythm_base.proofs.NoteBlocks.{enough, notes_push, take_more, take_within}
use Rattle.rhythm_base.proofs.notes.first_notes.Goals as goal

pub blocks-2-preserved : goal.blocks-2-preserved
blocks-2-preserved c =
    let most : ℕ = c.args.most in
    let first : List Note = c.args.first.now in
    let later : List Block = c.args.later.now in
    let i : ℕ = c.blocks-2.block-index in
    let b : Block = c.block-item.result in
    let before : List Note = first ++ notes_of (take i later) in
    let at : b ≡ get_or later i b = c.block-item.is in
    let lt : i < length later = search rules in
    let next : i + 1 ≡ suc i = omega arith in
    let one_more : take (i + 1) later ≡ take i later ++ b ∷ [] =
    ap (λ k. take k later) next ∙ take-suc later i b lt ∙ ap (λ x. take i later ++ x ∷ []) (sym at) in
    let more : c.notes-more.result.now ≡ b.notes = c.notes-more.ensures in
    let count : c.len.result ≡ length c.blocks-2.notes.items = search rules in
    let room : c.saturating_sub-room.result ≡ most - length (take most before) =
    c.saturating_sub-room.ensures ∙ ap (λ n. most - n) (count ∙ ap length c.blocks-2.invariant) in
    let few : c.min-in-blocks-2.result ≡ min (length b.notes) (most - length (take most before)) =
    c.min-in-blocks-2.ensures ∙ (λ j. min (length (more j)) (room j)) in
    let added : c.extend_from_slice-in-blocks-2.new.self.items ≡ c.blocks-2.notes.items ++ take (most - length (take most before)) b.notes =
    c.in_ok-extend_from_slice-2.ensures.items
    ∙ ap (λ l. c.blocks-2.notes.items ++ l) ((λ j. take (few j) (more j)) ∙ take_within (most - length (take most before)) b.notes) in
    added ∙ ap (λ l. l ++ take (most - length (take most before)) b.notes) c.blocks-2.invariant
    ∙ take_more most before b.notes
    ∙ ap (take most) (append_assoc first (notes_of (take i later)) b.notes ∙ ap (λ l. first ++ l) (sym (notes_push (take i later) b) ∙ ap notes_of (sym one_more)))

pub returns : goal.returns
returns c =
    let most : ℕ = c.args.most in
    let first : List Note = c.args.first.now in
    let later : List Block = c.args.later.now in
    let i : ℕ = c.blocks-2.block-index in
    elim c.blocks-2-test.branch [
      | else-blocks-2-test w ↦ (
          let end : i ≤ length later = c.blocks-2.auto.block-index-end in
          let all : i ≡ length later = omega (arith, end, w.blocks-2-test.false) in
          c.blocks-2.invariant ∙ ap (λ l. take most (first ++ notes_of l)) (ap (λ k. take k later) all ∙ take-length later))
      | then-blocks-2-test+then-room-eq0 w ↦ (
          let count : w.len.result ≡ length c.blocks-2.notes.items = search rules in
          let full : most ≤ length c.blocks-2.notes.items = omega (arith, w.saturating_sub-room.ensures, w.if-room-eq0.true, count) in
          enough most i first later c.blocks-2.notes.items c.blocks-2.invariant full)
    ]
