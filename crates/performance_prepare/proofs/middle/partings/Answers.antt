use Rattle.std.proofs.Common.{arith, ℕ, ◌≡◌, ◌+◌, ◌-◌, ◌∷◌, ◌++◌, [], List, ap, refl, ◌∙◌, map, subst}
use Rattle.std.specs.Prelude.{nat_lt, slice_index}
use Rattle.rhythm_base.proofs.ListParts.{filter_few}
use Rattle.performance_prepare.specs.Middle.{inner_borders, keys_below, parting}
use Rattle.performance_prepare.specs.Sides.{IsSide}
use Rattle.performance_prepare.proofs.Middles.{no_more, one_more}
use Rattle.performance_prepare.proofs.SidesCounted.{below_part, side_more, side_next, side_none}
use Rattle.performance_prepare.proofs.middle.partings.Goals as goal

pub borders-init : goal.borders-init
borders-init c = record {
  list = ap (λ xs. xs ++ map (parting c.args.keys.now) inner_borders) c.new-list.ensures.items;
  below = side_none c.args.keys.now;
}

pub with_keys-below-requires-clause-few : goal.with_keys-below-requires-clause-few
with_keys-below-requires-clause-few c =
    let keys : List ℕ = c.args.keys.now in
    let b : ℕ = c.borders.border in
    let at = c.counts_of-counts.ensures (b - 1) (omega (arith, c.borders-test.true)) in
    let more = side_more (b - 1) keys c.borders.below.count c.borders.below.sum (slice_index c.counts_of-counts.result (b - 1))
    c.borders.invariant.below at in
    let few = filter_few (λ k. nat_lt k (b - 1 + 1)) keys in
    omega (arith, more.all, few, c.requires.few)

pub with_keys-below-requires-clause-side : goal.with_keys-below-requires-clause-side
with_keys-below-requires-clause-side c =
    let part = below_part c.args.keys.now (c.borders.border - 1) c.borders.below.count c.borders.below.sum c.sum_of.result c.requires.keys
    c.sum_of.ensures.sum c.borders.invariant.below in
    record { few = omega (arith, part.few, c.requires.few); low = part.low }

pub parting_within-requires-clause-part : goal.parting_within-requires-clause-part
parting_within-requires-clause-part c =
    let at = c.counts_of-counts.ensures (c.borders.border - 1) (omega (arith, c.borders-test.true)) in
    let side = side_next c.args.keys.now c.borders.border c.borders.below.count c.borders.below.sum
    (slice_index c.counts_of-counts.result (c.borders.border - 1)) c.with_keys-below.result.count c.with_keys-below.result.sum
    c.borders.auto.border
    c.borders.invariant.below at c.with_keys-below.ensures.count c.with_keys-below.ensures.sum in
    below_part c.args.keys.now c.borders.border c.with_keys-below.result.count c.with_keys-below.result.sum c.sum_of.result c.requires.keys
    c.sum_of.ensures.sum side

pub borders-preserved : goal.borders-preserved
borders-preserved c =
    let keys : List ℕ = c.args.keys.now in
    let b : ℕ = c.borders.border in
    let at = c.counts_of-counts.ensures (b - 1) (omega (arith, c.borders-test.true)) in
    let side : IsSide (keys_below b keys) c.with_keys-below.result.count c.with_keys-below.result.sum =
    side_next keys b c.borders.below.count c.borders.below.sum (slice_index c.counts_of-counts.result (b - 1))
    c.with_keys-below.result.count c.with_keys-below.result.sum c.borders.auto.border
    c.borders.invariant.below at c.with_keys-below.ensures.count c.with_keys-below.ensures.sum in
    let value : c.parting_within.result ≡ parting keys b =
    c.parting_within.ensures keys b side (record { all = refl; value = c.sum_of.ensures.sum }) in
    let pushed : c.push.new.self.items ≡ c.borders.list.items ++ parting keys b ∷ [] = c.in_ok-push.ensures.items
    ∙ ap (λ v. c.borders.list.items ++ v ∷ []) value in
    let same : b ≡ b + 1 - 1 = omega arith in
    record {
      list = one_more (parting keys) c.borders.list.items c.push.new.self.items (map (parting keys) inner_borders) b 128 c.borders-test.true
          pushed c.borders.invariant.list;
      below = subst (λ n. IsSide (keys_below n keys) c.with_keys-below.result.count c.with_keys-below.result.sum) same side;
    }

pub returns : goal.returns
returns c = no_more (parting c.args.keys.now) c.borders.list.items (map (parting c.args.keys.now) inner_borders) c.borders.border 128
    c.borders-test.false c.borders.invariant.list
