use Rattle.std.proofs.Common.{◌≡◌, ◌-◌, ℕ, List, drop, length, ap, sym, ◌∙◌, subst, arith}
use Rattle.rhythm_base.specs.declared.note.Bar.{Bar}
use Rattle.rhythm_base.specs.declared.note.Note.{Note}
use Rattle.rhythm_base.specs.Barlines.{barline}
use Rattle.edit_session.specs.Spans.{IsBarEnd, IsFirstBar, IsNotePart}
use Rattle.edit_session.proofs.BarStarts.{earlier_bar, later_end}
use Rattle.edit_session.proofs.SameSides.{begin_alike, end_alike}
use Rattle.edit_session.proofs.span.span_of.Goals as goal

pub returns : goal.returns
returns c =
    let tempos = c.args.tempo_map.now.tempos in
    let window = c.args.window in
    let before = c.args.before.now in
    let after = c.args.after.now in
    let q = c.args.performance.now in
    let division : ℕ = c.division-division.result in
    let one : ℕ = c.first_bar_of-first.result in
    let first : ℕ = c.min-first_bar.result in
    let another : ℕ = c.bar_end_of-end.result in
    let end : ℕ = c.max-bar_end.result in
    let note : ℕ = c.part_of-part.result.first in
    let note_end : ℕ = c.part_of-part.result.end in
    let low : c.barline_at-low.result ≡ barline q.bars q.last first = c.barline_at-low.ensures ∙ (λ i. barline (c.bars-bars.ensures.value i) (c.last-last.ensures i) first) in
    let high : c.barline_at-high.result ≡ barline q.bars q.last end = c.barline_at-high.ensures ∙ (λ i. barline (c.bars-bars.ensures.value i) (c.last-last.ensures i) end) in
    let first_is : IsFirstBar tempos q.division window before after q.bars q.last one =
    subst (λ d. IsFirstBar tempos d window before after q.bars q.last one) c.division-division.ensures.value
    (subst (λ (bs : List Bar). IsFirstBar tempos division window before after bs q.last one) c.bars-bars.ensures.value (c.first_bar_of-first.ensures q.last)) in
    let end_is : IsBarEnd tempos q.division window before after q.bars q.last another =
    subst (λ d. IsBarEnd tempos d window before after q.bars q.last another) c.division-division.ensures.value
    (subst (λ (bs : List Bar). IsBarEnd tempos division window before after bs q.last another) c.bars-bars.ensures.value (c.bar_end_of-end.ensures q.last)) in
    record {
      first = earlier_bar tempos q.division window before after q.bars q.last one first (omega (arith, c.min-first_bar.ensures)) first_is;
      end = later_end tempos q.division window before after q.bars q.last another end (omega (arith, c.max-bar_end.ensures)) (omega (arith, c.max-bar_end.ensures, end_is.within, c.requires.end)) end_is;
      part = subst (λ d. IsNotePart tempos d window after (barline q.bars q.last first) (barline q.bars q.last end) note note_end) c.division-division.ensures.value
          (subst (λ l. IsNotePart tempos division window after l (barline q.bars q.last end) note note_end) low
          (subst (λ h. IsNotePart tempos division window after c.barline_at-low.result h note note_end) high c.part_of-part.ensures));
      from = omega (arith, c.min-first_bar.ensures);
      up_to = omega (arith, c.max-bar_end.ensures);
    }

-- ---- how many are the same

pub first_bar_of-first-requires-clause-same : goal.first_bar_of-first-requires-clause-same
first_bar_of-first-requires-clause-same c =
    let found = c.count_before-front.ensures in
    (begin_alike c.args.before.now c.args.after.now c.requires.before c.requires.after c.args.known.low c.count_before-front.result c.requires.early found.within found.front found.back).0

pub first_bar_of-first-requires-clause-within_after : goal.first_bar_of-first-requires-clause-within_after
first_bar_of-first-requires-clause-within_after c =
    let found = c.count_before-front.ensures in
    (begin_alike c.args.before.now c.args.after.now c.requires.before c.requires.after c.args.known.low c.count_before-front.result c.requires.early found.within found.front found.back).1

pub bar_end_of-end-requires-clause-same : goal.bar_end_of-end-requires-clause-same
bar_end_of-end-requires-clause-same c =
    let before : List Note = c.args.before.now in
    let after : List Note = c.args.after.now in
    let found = c.count_before.ensures in
    let long : length before - c.count_before.result ≡ c.len.result - c.count_before.result = ap (λ k. k - c.count_before.result) (sym c.len.ensures.value) in
    subst (λ k. drop (length before - k) before ≡ drop (length after - k) after) long
    (end_alike before after c.requires.before c.requires.after c.args.known.high c.count_before.result c.requires.late found.within found.front found.back).0

pub bar_end_of-end-requires-clause-within_after : goal.bar_end_of-end-requires-clause-within_after
bar_end_of-end-requires-clause-within_after c =
    let before : List Note = c.args.before.now in
    let after : List Note = c.args.after.now in
    let found = c.count_before.ensures in
    let both = end_alike before after c.requires.before c.requires.after c.args.known.high c.count_before.result c.requires.late found.within found.front found.back in
    omega (arith, both.1, c.len.ensures.value)
