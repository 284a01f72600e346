use Rattle.std.proofs.Common.{rules, ℕ, ◌≡◌, ◌+◌, ◌-◌, ◌*◌, ◌<◌, ◌≤◌, ◌^◌, ◌∙◌, ap, length, arith}
use Rattle.std.proofs.Math.Nat.{mul-le-mul}
use Rattle.rhythm_base.specs.Lists.{last_end}
use Rattle.rhythm_base.specs.Performance.{IsWellFormed}
use Rattle.barline_follow.specs.Bars.{barlines_of}
use Rattle.barline_follow.proofs.Further.{last_below, last_of_all, length-barlines, length-lengthened}
use Rattle.barline_follow.proofs.script.follow_script.Goals as goal

pub lengthened-requires : goal.lengthened-requires
lengthened-requires c =
    let formed : IsWellFormed c.args.performance.now = c.bars.ensures.formed in
    let at : c.as_slice.result.now ≡ barlines_of c.args.performance.now = c.as_slice.ensures.value ∙ c.in_ok-ticks.ensures.value in
    let last : last_end 0 c.as_slice.result.now ≡ c.args.performance.now.last = ap (last_end 0) at ∙ last_of_all c.args.performance.now in
    let early : c.args.performance.now.last ≤ 2000000000 = formed.last_barline in
    let short : c.whole_bar-bar.result < 134217728 = c.whole_bar-bar.ensures.short in
    let most : length c.args.goal.now ≤ 8193 = c.requires.few in
    let long : length c.args.goal.now * c.whole_bar-bar.result ≤ 8193 * 134217728 = mul-le-mul {m₂ = 134217728} most (omega (arith, short)) in
    omega (arith, last, early, long)

pub lengthened-requires-2 : goal.lengthened-requires-2
lengthened-requires-2 c =
    let formed : IsWellFormed c.args.performance.now = c.bars.ensures.formed in
    let at : length c.in_ok-ticks.ticks.items ≡ length c.args.performance.now.bars + 1 =
    ap length c.in_ok-ticks.ensures.value ∙ length-barlines c.args.performance.now in
    let len : c.len.result ≡ length c.in_ok-ticks.ticks.items = search rules in
    let few : length c.args.performance.now.bars ≤ 4096 = formed.few_bars in
    let most : c.len.result ≤ 4097 = omega (arith, len, at, few) in
    let short : c.whole_bar-bar.result < 134217728 = c.whole_bar-bar.ensures.short in
    let long : c.len.result * c.whole_bar-bar.result ≤ 4097 * 134217728 = mul-le-mul {m₂ = 134217728} most (omega (arith, short)) in
    let last : last_end 0 c.args.goal.now ≤ 2 ^ 32 = last_below (2 ^ 32) c.args.goal.now c.requires.ticks in
    omega (arith, last, long)

pub push_stages-requires-clause-few : goal.push_stages-requires-clause-few
push_stages-requires-clause-few c =
    let formed : IsWellFormed c.args.performance.now = c.bars.ensures.formed in
    let bar : ℕ = c.whole_bar-bar.result in
    let at : length c.as_slice.result.now ≡ length c.args.performance.now.bars + 1 =
    ap length (c.as_slice.ensures.value ∙ c.in_ok-ticks.ensures.value) ∙ length-barlines c.args.performance.now in
    let few : length c.args.performance.now.bars ≤ 4096 = formed.few_bars in
    let most : length c.args.goal.now ≤ 8193 = c.requires.few in
    let is : length c.as_slice-2.result.now ≡ length c.as_slice.result.now + (length c.args.goal.now - length c.as_slice.result.now) =
    ap length (c.as_slice-2.ensures.value ∙ c.in_ok-from.ensures) ∙ length-lengthened bar (length c.args.goal.now) c.as_slice.result.now in
    omega (arith, at, few, most, is)
