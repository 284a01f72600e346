use Rattle.std.proofs.Common.{rules, ◌≡◌, ◌<◌, ◌≤◌, List, get_or, length, slice_set, sym, ap, ◌∙◌, arith}
use Rattle.rhythm_base.specs.declared.note.Bar.{Bar}
use Rattle.edit_laws.specs.Edits.{with_start}
use Rattle.edit_laws.proofs.BarEdits.{unchanged}
use Rattle.performance_edit.proofs.OtherBarlines.{with_barline-set}
use Rattle.performance_edit.proofs.bars.with_barline.Goals as goal
use Rattle.performance_edit.proofs.bars.with_barline.Goals.{then-number-len, else-number-len}

pub returns : goal.returns
returns c =
    let bars : List Bar = c.args.bars.now in
    let k = c.args.number in
    let same : c.in_ok-bars.bars.items ≡ bars = search rules in
    elim c.if-number-len.branch [
      | then-number-len w ↦ (
          let b : Bar = w.index_mut.result.now in
          let lt : k < length bars = omega (arith, w.if-number-len.true, c.len.ensures, ap length same) in
          ap (λ v. v.items) w.bars-is
          ∙ ap (λ (x : Bar). slice_set c.in_ok-bars.bars.items k (with_start c.args.tick x)) w.index_mut.ensures.value
          ∙ ap (λ (l : List Bar). slice_set l k (with_start c.args.tick (get_or l k b))) same
          ∙ with_barline-set k c.args.tick bars b lt)
      | else-number-len w ↦ (
          let le : length bars ≤ k = omega (arith, w.if-number-len.false, c.len.ensures, ap length same) in
          ap (λ v. v.items) w.bars-is ∙ same ∙ sym (unchanged k c.args.tick bars le))
    ]
