use Rattle.std.proofs.Common.{◌≡◌, ◌-◌, List, length, ap, sym, ◌∙◌, arith}
use Rattle.std.specs.Prelude.{slice_get}
use Rattle.rhythm_base.specs.declared.note.Note.{Note}
use Rattle.std.proofs.lemmas.List.Edits.{length-between}
use Rattle.std.proofs.lemmas.Option.{slice_get_past}
use Rattle.voices.proofs.VoiceParts.{get_part}
use Rattle.voices.proofs.voice_notes.VoiceNotes.get.Goals as goal

pub overflow_add-self-inside : goal.overflow_add-self-inside
overflow_add-self-inside c =
    let h = c.self.invariant in
    let long : length c.args.self.now ≡ c.self.inside.up_to - c.self.inside.from =
    ap length (sym c.self.view_is) ∙ length-between c.self.inside.notes.now c.self.inside.from c.self.inside.up_to h.1 in
    omega (arith, h.0, h.1, h.2, long, c.if-number-len.true, c.len.ensures.value)

pub returns-then-number-len : goal.returns-then-number-len
returns-then-number-len c =
    let h = c.self.invariant in
    let long : length c.args.self.now ≡ c.self.inside.up_to - c.self.inside.from =
    ap length (sym c.self.view_is) ∙ length-between c.self.inside.notes.now c.self.inside.from c.self.inside.up_to h.1 in
    c.get.ensures ∙ get_part c.self.inside.notes.now c.self.inside.from c.self.inside.up_to c.args.number (omega (arith, long, c.if-number-len.true, c.len.ensures.value))
    ∙ ap (λ (l : List Note). slice_get l c.args.number) c.self.view_is

pub returns-else-number-len : goal.returns-else-number-len
returns-else-number-len c = sym (slice_get_past c.args.self.now c.args.number (omega (arith, c.if-number-len.false, c.len.ensures.value)))
