use Rattle.std.proofs.Common.{rules, arith, subst, ◌≡◌, ◌-◌, ◌+◌}
use Rattle.rhythm_base.specs.Line.{Rising}
use Rattle.bar_cut.specs.Cuts.{AreInside, moved_all}
use Rattle.bar_cut.proofs.Passes.{inner-moved, rises-moved}
use Rattle.bar_cut.proofs.section.Section.of.Goals as goal

pub invariant_of-result : goal.invariant_of-result
invariant_of-result c =
    let start = c.args.bar.start in
    let length = c.args.end - start in
    let whole : c.args.end ≡ start + length = omega (arith, c.requires.bar.some_tick) in
    let units : c.grammar.inside.resolution ≡ c.args.grammar.now.resolution = search rules in
    let zero : start - start ≡ 0 = omega arith in
    record {
      some_unit = omega (arith, units, c.requires.grammar.some_unit);
      few_units = omega (arith, units, c.requires.grammar.few_units);
      signature = c.requires.bar.signature;
      some_tick = omega (arith, c.requires.bar.some_tick);
      few_ticks = omega (arith, c.requires.bar.few_ticks);
      rising = subst (λ n. Rising n (moved_all start length c.args.own.now)) zero (rises-moved start length start c.args.own.now (omega arith) c.requires.bar.rise);
      chords = inner-moved start length c.args.own.now (subst (λ e. AreInside start e c.args.own.now) whole c.requires.bar.inside);
      before = omega (arith, c.cut_end.ensures);
    }
