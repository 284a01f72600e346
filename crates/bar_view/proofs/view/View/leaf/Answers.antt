use Rattle.std.proofs.Common.{rules, ◌≡◌, ℕ, ◌+◌, ◌-◌, ◌*◌, ◌≤◌, ◌<◌, true, false, take, drop, length, ap, ap₂, ◌∙◌, arith, inl, inr}
use Rattle.std.specs.Prelude.{nat_le}
use Rattle.std.proofs.Math.Nat.{mul-le-mul_right}
use Rattle.std.proofs.lemmas.Bool.{cases_lt}
use Rattle.tree_laws.proofs.Ticks.{le_from, le_tells}
use Rattle.rhythm_base.specs.declared.inner.Inner.{Inner}
use Rattle.bar_view.specs.Displaced.{displacements}
use Rattle.bar_view.specs.Units.{SplitsAt, end_of_earlier}
use Rattle.bar_view.proofs.Leaves.{crowd, next-count, ordered, own-count}
use Rattle.bar_view.proofs.LookUps.{halves-left, halves-right, leaf-known, sounds-off, sounds-on, split-read}
use Rattle.bar_view.proofs.view.View.leaf.Goals.{then-right-first-gt4-via-then-right-first-gt4, then-right-first-gt4-via-else-right-first-gt4+then-after-right-gt4}
use Rattle.bar_view.proofs.view.View.leaf.Goals as goal

no-chord : Inner
no-chord = record { onset = 0; end = 0 }

not_le : (a b : ℕ) → nat_le a b ≡ false → b < a
not_le a b h = elim (cases_lt b a) [ inl less ↦ less | inr le ↦ let on = le_from a b le in absurd (cc) ]

pub overflow_sub-after : goal.overflow_sub-after
overflow_sub-after c =
    let k = c.args.input.now in
    let p = c.args.place in
    let w = c.args.width in
    let first : SplitsAt k p c.index.result.now = split-read k c.args.self.now c.requires.view p c.from.result c.index.result.now (omega (arith, c.requires.within)) c.from.ensures c.index.ensures in
    let last : SplitsAt k (p + w) c.index-2.result.now = split-read k c.args.self.now c.requires.view (p + w) c.from-2.result c.index-2.result.now c.requires.within c.from-2.ensures c.index-2.ensures in
    ordered k p w c.index.result.now c.index-2.result.now first last

pub right-right-requires-clause-order : goal.right-right-requires-clause-order
right-right-requires-clause-order c =
    let k = c.args.input.now in
    let p = c.args.place in
    let w = c.args.width in
    let first : SplitsAt k p c.index.result.now = split-read k c.args.self.now c.requires.view p c.from.result c.index.result.now (omega (arith, c.requires.within)) c.from.ensures c.index.ensures in
    let last : SplitsAt k (p + w) c.index-2.result.now = split-read k c.args.self.now c.requires.view (p + w) c.from-2.result c.index-2.result.now c.requires.within c.from-2.ensures c.index-2.ensures in
    ordered k p w c.index.result.now c.index-2.result.now first last

pub returns-then-after-first-gt8 : goal.returns-then-after-first-gt8
returns-then-after-first-gt8 c =
    let k = c.args.input.now in
    let p = c.args.place in
    let w = c.args.width in
    let first : SplitsAt k p c.index.result.now = split-read k c.args.self.now c.requires.view p c.from.result c.index.result.now (omega (arith, c.requires.within)) c.from.ensures c.index.ensures in
    let last : SplitsAt k (p + w) c.index-2.result.now = split-read k c.args.self.now c.requires.view (p + w) c.from-2.result c.index-2.result.now c.requires.within c.from-2.ensures c.index-2.ensures in
    crowd k p w c.index.result.now c.index-2.result.now first last c.if-after-first-gt8.true

pub returns-then-right-first-gt4 : goal.returns-then-right-first-gt4
returns-then-right-first-gt4 c =
    let k = c.args.input.now in
    let v = c.args.self.now in
    let p = c.args.place in
    let w = c.args.width in
    let a = c.index.result.now in
    let b = c.index-2.result.now in
    let m = c.right-right.result in
    let first : SplitsAt k p a = split-read k v c.requires.view p c.from.result a (omega (arith, c.requires.within)) c.from.ensures c.index.ensures in
    let last : SplitsAt k (p + w) b = split-read k v c.requires.view (p + w) c.from-2.result b c.requires.within c.from-2.ensures c.index-2.ensures in
    let within : b ≤ length k.chords = last.within in
    let left = halves-left k v c.requires.view a m (2 * p + w) (omega (arith, within, c.right-right.ensures.high)) c.right-right.ensures.own in
    let right = halves-right k v c.requires.view c.requires.ready.cell m b (2 * p + w) within c.right-right.ensures.next in
    let own = own-count k p w a b first last m c.right-right.ensures.low c.right-right.ensures.high left right in
    let next = next-count k p w a b first last m c.right-right.ensures.low c.right-right.ensures.high left right in
    elim c.then-right-first-gt4.branch [
      | then-right-first-gt4-via-then-right-first-gt4 x ↦ inl (omega (arith, own, x.if-right-first-gt4.true))
      | then-right-first-gt4-via-else-right-first-gt4+then-after-right-gt4 x ↦ inr (omega (arith, next, x.if-after-right-gt4.true))
    ]

pub returns : goal.returns
returns c =
    let k = c.args.input.now in
    let g = c.args.grammar.now in
    let v = c.args.self.now in
    let p = c.args.place in
    let w = c.args.width in
    let a = c.index.result.now in
    let b = c.index-2.result.now in
    let m = c.right-right.result in
    let first : SplitsAt k p a = split-read k v c.requires.view p c.from.result a (omega (arith, c.requires.within)) c.from.ensures c.index.ensures in
    let last : SplitsAt k (p + w) b = split-read k v c.requires.view (p + w) c.from-2.result b c.requires.within c.from-2.ensures c.index-2.ensures in
    let within : b ≤ length k.chords = last.within in
    let left = halves-left k v c.requires.view a m (2 * p + w) (omega (arith, within, c.right-right.ensures.high)) c.right-right.ensures.own in
    let right = halves-right k v c.requires.view c.requires.ready.cell m b (2 * p + w) within c.right-right.ensures.next in
    let inside : m ≤ length k.chords = omega (arith, within, c.right-right.ensures.high) in
    let middle : ℕ = 2 * p + w in
    let y : ℕ = c.index-3.result.now in
    let late : c.displaced-late.result ≡ displacements k p (take (m - a) (drop a k.chords))
    = c.displaced-late.ensures.value ∙ ap (λ xs. displacements k p (take (m - a) (drop a xs))) c.onsets-chords.ensures in
    let early : c.displaced-early.result ≡ displacements k (p + w) (take (b - m) (drop m k.chords))
    = c.displaced-early.ensures.value ∙ ap (λ xs. displacements k (p + w) (take (b - m) (drop m xs))) c.onsets-chords.ensures in
    let late_weight : c.from-3.result ≡ g.late = search rules in
    let early_weight : c.from-4.result ≡ g.early = search rules in
    let late_light : g.late ≤ 1000 = c.requires.ready.readable.ranges.late in
    let early_light : g.early ≤ 1000 = c.requires.ready.readable.ranges.early in
    let late_most : c.from-3.result * c.displaced-late.result ≤ 1000 * c.displaced-late.result = mul-le-mul_right c.displaced-late.result (omega (arith, late_weight, late_light)) in
    let early_most : c.from-4.result * c.displaced-early.result ≤ 1000 * c.displaced-early.result = mul-le-mul_right c.displaced-early.result (omega (arith, early_weight, early_light)) in
    let on : nat_le middle y ≡ true → middle * k.length ≤ 2 * (end_of_earlier k m no-chord * k.resolution)
    = λ h. sounds-on k v c.requires.view m middle y no-chord inside c.index-3.ensures (le_tells middle y h) in
    let off : nat_le middle y ≡ false → 2 * (end_of_earlier k m no-chord * k.resolution) < middle * k.length
    = λ h. sounds-off k v c.requires.view m middle y no-chord inside c.index-3.ensures (not_le middle y h) in (
      leaf-known g k p w a b m c.requires.ready.units first last c.right-right.ensures.low c.right-right.ensures.high left right c.if-right-first-gt4.false c.if-after-right-gt4.false _ no-chord on off _
          c.displaced-late.result c.displaced-early.result (ap₂ (λ s t. s * c.displaced-late.result + t * c.displaced-early.result) late_weight early_weight) late early,
      omega (arith, late_most, early_most, c.displaced-late.ensures.small, c.displaced-early.ensures.small),
    )
