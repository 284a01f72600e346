use Rattle.std.proofs.Common.{◌≡◌, ◌↔◌, ◌*◌, ◌-◌, IsTrue, nat_lt, ap, sym, subst, ◌∙◌, arith}
use Rattle.rhythm_base.specs.declared.note.Note.{Note}
use Rattle.rhythm_base.specs.Time.{time}
use Rattle.voices.specs.Breaks.{IsBreak}
use Rattle.voices.proofs.NoteBreaks.{break_test}
use Rattle.voices.proofs.breaks.is_break.Goals as goal

pub returns : goal.returns
returns c =
    let d : Note = record { channel = 0; key = 0; onset = 0; end = 0 } in
    let wide : c.from.result * c.from-2.result ≡ c.args.window * c.args.division = ap (λ k. k * c.from-2.result) c.from.ensures ∙ ap (λ k. c.args.window * k) c.from-2.ensures in
    let tempos = c.args.map.now.tempos in
    let notes = c.args.notes.now in
    subst (λ n. IsTrue (nat_lt (c.from.result * c.from-2.result) n) ↔ IsBreak tempos c.args.division c.args.window notes c.args.place) (sym c.saturating_sub.ensures)
    (break_test tempos c.args.division c.args.window notes c.args.place d c.time-before.result c.time.result (c.from.result * c.from-2.result)
    c.requires (λ none. omega (arith, none, c.if-place-eq0.false)) (omega (arith, c.if-place-len.false)) (c.time-before.ensures ∙ ap (time tempos) (c.onset.ensures d)) (c.time.ensures ∙ ap (time tempos) (c.onset-2.ensures d)) wide)

pub time-before-requires : goal.time-before-requires
time-before-requires c =
    let d : Note = record { channel = 0; key = 0; onset = 0; end = 0 } in
    let at = c.onset.ensures d in
    let sounded = c.requires.each (c.args.place - 1) d (omega (arith, c.if-place-eq0.false, c.if-place-len.false, c.len.ensures.value)) in
    omega (arith, at, sounded.onset)

pub time-requires : goal.time-requires
time-requires c =
    let d : Note = record { channel = 0; key = 0; onset = 0; end = 0 } in
    let at = c.onset-2.ensures d in
    let sounded = c.requires.each c.args.place d (omega (arith, c.if-place-len.false, c.len.ensures.value)) in
    omega (arith, at, sounded.onset)
