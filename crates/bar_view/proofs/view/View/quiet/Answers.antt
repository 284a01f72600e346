use Rattle.std.proofs.Common.{◌≡◌, ◌<◌, ◌≤◌, ◌+◌, length, get_or, sym, subst, ap, ◌∙◌, arith}
use Rattle.bar_view.specs.Units.{IsQuietFrom, IsStretch, IsWhole}
use Rattle.bar_view.proofs.Narrower.{stretch-first}
use Rattle.bar_view.proofs.view.View.quiet.Goals.{else-place-stretch-via-then-place-stretch+else-width-stretch, else-place-stretch-via-else-place-stretch}
use Rattle.bar_view.proofs.view.View.quiet.Goals as goal

pub returns-then-width-stretch : goal.returns-then-width-stretch
returns-then-width-stretch c = λ g units.
    let k = c.args.input.now in
    let p = c.args.place in
    let s = c.index-stretch.result.now in
    let low : p < length c.args.self.now.units.quiet.items = omega (arith, c.requires.view.units.alike, c.requires.view.whole, c.requires.within) in
    let is : get_or c.args.self.now.units.quiet.items p s ≡ s
    = ap (λ i. get_or c.args.self.now.units.quiet.items i s) (sym c.from.ensures) ∙ sym c.index-stretch.ensures in
    let own : IsStretch k p s = subst (IsQuietFrom k p) is (c.requires.view.units.quiet p s low) c.if-place-stretch.true in
    stretch-first k p c.args.width s own c.if-width-stretch.true g units

pub returns-else-place-stretch : goal.returns-else-place-stretch
returns-else-place-stretch c = λ g units q wide quiet.
    let k = c.args.input.now in
    let p = c.args.place in
    let s = c.index-stretch.result.now in
    let low : p < length c.args.self.now.units.quiet.items = omega (arith, c.requires.view.units.alike, c.requires.view.whole, c.requires.within) in
    let is : get_or c.args.self.now.units.quiet.items p s ≡ s
    = ap (λ i. get_or c.args.self.now.units.quiet.items i s) (sym c.from.ensures) ∙ sym c.index-stretch.ensures in
    let all : p + c.args.width ≤ s.until = (subst (IsWhole k p) is (c.requires.view.units.whole p s low)) g q c.args.width units wide c.requires.within quiet in
    elim c.else-place-stretch.branch [
      | else-place-stretch-via-then-place-stretch+else-width-stretch w ↦ absurd (omega (arith, all, w.if-width-stretch.false))
      | else-place-stretch-via-else-place-stretch w ↦ absurd (omega (arith, all, wide, w.if-place-stretch.false))
    ]
