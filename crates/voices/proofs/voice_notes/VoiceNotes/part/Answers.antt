use Rattle.std.proofs.Common.{◌≡◌, ◌+◌, ◌-◌, ℕ, List, length, ap, sym, subst, ◌∙◌, arith, IfOk}
use Rattle.std.specs.List.{between}
use Rattle.rhythm_base.specs.declared.note.Note.{Note}
use Rattle.std.proofs.lemmas.List.Edits.{length-between}
use Rattle.voices.proofs.VoiceParts.{part_of_part}
use Rattle.voices.proofs.voice_notes.VoiceNotes.part.Goals as goal

pub overflow_add-self-inside : goal.overflow_add-self-inside
overflow_add-self-inside c =
    let h = c.self.invariant in
    let long : length c.args.self.now ≡ c.self.inside.up_to - c.self.inside.from =
    ap length (sym c.self.view_is) ∙ length-between c.self.inside.notes.now c.self.inside.from c.self.inside.up_to h.1 in
    omega (arith, h.0, h.1, h.2, long, c.requires.from, c.requires.up_to)

pub overflow_add-self-inside-2 : goal.overflow_add-self-inside-2
overflow_add-self-inside-2 c =
    let h = c.self.invariant in
    let long : length c.args.self.now ≡ c.self.inside.up_to - c.self.inside.from =
    ap length (sym c.self.view_is) ∙ length-between c.self.inside.notes.now c.self.inside.from c.self.inside.up_to h.1 in
    omega (arith, h.0, h.1, h.2, long, c.requires.from, c.requires.up_to)

pub range-requires-clause-from : goal.range-requires-clause-from
range-requires-clause-from c = omega (arith, c.requires.from)

pub range-requires-clause-up_to : goal.range-requires-clause-up_to
range-requires-clause-up_to c =
    let h = c.self.invariant in
    let long : length c.args.self.now ≡ c.self.inside.up_to - c.self.inside.from =
    ap length (sym c.self.view_is) ∙ length-between c.self.inside.notes.now c.self.inside.from c.self.inside.up_to h.1 in
    omega (arith, h.0, h.1, long, c.requires.up_to)

pub returns : goal.returns
returns c =
    let notes : List Note = c.self.inside.notes.now in
    let from : ℕ = c.self.inside.from in
    let up_to : ℕ = c.self.inside.up_to in
    let h = c.self.invariant in
    let long : length c.args.self.now ≡ up_to - from = ap length (sym c.self.view_is) ∙ length-between notes from up_to h.1 in
    let is : between (from + c.args.from) (from + c.args.up_to) notes ≡ between c.args.from c.args.up_to c.args.self.now =
    part_of_part notes from up_to c.args.from c.args.up_to c.requires.from (omega (arith, long, c.requires.up_to)) h.0 h.1
    ∙ ap (λ (l : List Note). between c.args.from c.args.up_to l) c.self.view_is in
    subst (λ (l : List Note). IfOk c.range.result (λ v. v.items ≡ l)) is c.range.ensures
