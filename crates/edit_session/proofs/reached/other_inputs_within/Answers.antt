use Rattle.std.proofs.Common.{rules, ℕ, List, ◌+◌, ◌≡◌, ◌++◌, ◌∷◌, [], map, max, refl, ap, sym, ◌∙◌, subst, arith, Vec, Global}
use Rattle.std.specs.Prelude.{Some, slice_get}
use Rattle.bar_cut.specs.Cuts.{inputs}
use Rattle.rhythm_base.specs.BarInput.{BarInput}
use Rattle.edit_session.specs.declared.reached.CellPlace.{CellPlace}
use Rattle.edit_session.specs.ReachedCells.{AreOtherInputs, place_pair}
use Rattle.edit_session.proofs.OtherInputs.{other_pushed, same_more}
use Rattle.edit_session.proofs.reached.other_inputs_within.Goals as goal
use Rattle.edit_session.proofs.reached.other_inputs_within.Goals.{then-has_other_input+in_ok-input+in_ok-push+in_ok-push-2, else-has_other_input}

pub bars-preserved : goal.bars-preserved
bars-preserved c =
    let g = c.args.grammar.now in
    let p = c.args.performance.now in
    let chords = c.args.chords.now in
    let number : ℕ = c.bars.number in
    let k : BarInput = c.section_of-section.result in
    let same : inputs g c.pins-pins.result.now c.args.channel c.last-last.result c.bars-bars.result.now chords ≡ inputs g p.pins c.args.channel p.last p.bars chords =
    λ i. inputs g (c.pins-pins.ensures i) c.args.channel (c.last-last.ensures i) (c.bars-bars.ensures.value i) chords in
    let there : slice_get (inputs g p.pins c.args.channel p.last p.bars chords) number ≡ Some k = ap (λ (l : List BarInput). slice_get l number) (sym same) ∙ c.section_of-section.ensures in
    elim c.if-has_other_input.branch [
      | then-has_other_input+in_ok-input+in_ok-push+in_ok-push-2 w ↦
          let x : CellPlace = record { channel = c.args.channel; bar = number } in
          let cell : w.push-then-has_other_input.new.self.items ≡ c.bars.cells.items ++ x ∷ [] = search rules in
          let inside : w.push.new.self.items ≡ c.bars.others.items ++ w.in_ok-input.field-0 ∷ [] = search rules in
          let copy : w.in_ok-input.field-0 ≡ k = w.in_ok-input.ensures in
          record {
            low = omega (arith, c.bars.invariant.low);
            high = omega (arith, c.bars-test.true);
            found = λ all agree start.
                let at : slice_get all number ≡ Some k = agree number c.bars.invariant.low c.bars-test.true ∙ there in
                other_pushed c.args.channel all c.args.tables.now number c.bars.cells.items c.if-has_other_input.cells.items c.bars.others.items c.if-has_other_input.others.items x k
                (ap (λ (v : Vec CellPlace Global). v.items) w.cells-is ∙ cell) refl
                (ap (λ (v : Vec BarInput Global). v.items) w.others-is ∙ inside ∙ ap (λ l. c.bars.others.items ++ l ∷ []) copy)
                ((c.has_other_input.ensures all at).0 (search rules)) at (c.bars.invariant.found all agree start);
          }
      | else-has_other_input w ↦ record {
        low = omega (arith, c.bars.invariant.low);
        high = omega (arith, c.bars-test.true);
        found = λ all agree start.
            let at : slice_get all number ≡ Some k = agree number c.bars.invariant.low c.bars-test.true ∙ there in
            subst (λ (v : Vec CellPlace Global). AreOtherInputs c.args.channel all c.args.tables.now (number + 1) (map place_pair v.items) c.if-has_other_input.others.items) (sym w.cells-is)
            (subst (λ (v : Vec BarInput Global). AreOtherInputs c.args.channel all c.args.tables.now (number + 1) (map place_pair c.bars.cells.items) v.items) (sym w.others-is)
            (same_more c.args.channel all c.args.tables.now number (map place_pair c.bars.cells.items) c.bars.others.items
            (λ other. let wrong = (w.if-has_other_input.ensures all at).1 other in absurd (cc)) (c.bars.invariant.found all agree start)));
      }
    ]

pub returns : goal.returns
returns c = λ all agree start.
    let end : c.bars.number ≡ max c.args.span.first_bar c.args.span.bar_end = omega (arith, c.bars.invariant.low, c.bars.invariant.high, c.bars-test.false) in
    subst (λ n. AreOtherInputs c.args.channel all c.args.tables.now n (map place_pair c.bars.cells.items) c.bars.others.items) end (c.bars.invariant.found all agree start)
