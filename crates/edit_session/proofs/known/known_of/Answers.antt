use Rattle.std.proofs.Common.{◌≡◌, ◌⊎◌, ◌<◌, ◌≤◌, ℕ, filter, length, sym, ap, ◌∙◌, subst, arith}
use Rattle.rhythm_base.specs.Performance.{Performance}
use Rattle.rhythm_base.specs.Pins.{pin_of}
use Rattle.edit_laws.specs.Edits.{performance_after}
use Rattle.edit_session.specs.Spans.{IsKnown, IsSameBar}
use Rattle.edit_session.specs.Touched.{LeavesBar, LeavesPin, touched_from, touched_up_to}
use Rattle.edit_session.proofs.OtherVoices.{times}
use Rattle.edit_session.proofs.SameSides.{is_early, is_late}
use Rattle.edit_session.proofs.TouchedBars.{bars_after}
use Rattle.edit_session.proofs.TouchedNotes.{early_after, late_after, pins_after}
use Rattle.edit_session.proofs.known.known_of.Goals as goal

pub returns-clause-known : goal.returns-clause-known
returns-clause-known c =
    let p = c.args.before.now in
    let edit = c.args.edit.now in
    let ticks = c.touched_ticks-low.ensures in
    let bars = c.touched_bars-first_bar.ensures in
    let first : ℕ = c.touched_bars-first_bar.result.0 in
    let end : ℕ = c.touched_bars-first_bar.result.1 in
    let of_edit : (q : Performance) → q ≡ performance_after p edit → first ≤ length q.bars → end ≤ length q.bars
    → ((bar : ℕ) → bar < length q.bars → (bar < first) ⊎ (end ≤ bar) → LeavesBar edit (length q.bars) bar)
    → ((channel bar : ℕ) → bar < length q.bars → (bar < first) ⊎ (end ≤ bar) → LeavesPin edit channel bar)
    → IsKnown p q (touched_from edit) (touched_up_to edit) first end =
    λ q is few few_end leaves pins. record {
      early = ap (λ (r : Performance). filter (is_early (touched_from edit)) r.notes) is ∙ early_after p c.requires.formed edit;
      late = ap (λ (r : Performance). filter (is_late (touched_up_to edit)) r.notes) is ∙ late_after p c.requires.formed edit;
      pins = λ channel bar lt out.
          let count : bar < length (performance_after p edit).bars = omega (arith, lt, ap (λ (r : Performance). length r.bars) is) in
          ap (λ (r : Performance). pin_of r.pins channel bar) is ∙ pins_after p c.requires.formed channel bar edit count (pins channel bar lt out);
      tempos = ap (λ (r : Performance). r.tempos) is ∙ (times p edit).0;
      division = ap (λ (r : Performance). r.division) is ∙ (times p edit).1;
      first = few;
      end = few_end;
      bars = λ bar lt out.
          let count : length q.bars ≡ length (performance_after p edit).bars = ap (λ (r : Performance). length r.bars) is in
          subst (λ (r : Performance). IsSameBar p r bar) (sym is)
          (bars_after p bar edit (omega (arith, lt, count)) (subst (λ n. LeavesBar edit n bar) count (leaves bar lt out)));
    } in
    subst (λ t. IsKnown p c.args.after.now t c.touched_ticks-low.result.1 first end) (sym ticks.from)
    (subst (λ t. IsKnown p c.args.after.now (touched_from edit) t first end) (sym ticks.up_to)
    (of_edit c.args.after.now c.requires.after bars.first bars.end bars.bars bars.pins))
