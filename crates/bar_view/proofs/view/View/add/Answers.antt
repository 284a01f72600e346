use Rattle.std.proofs.Common.{inr, [], ◌∷◌, ◌++◌, ◌≡◌, ℕ, ◌<◌, ◌≤◌, ◌+◌, ◌*◌, ◌↔◌, length, max, get_or, sym, subst, subst₂, arith}
use Rattle.rhythm_base.specs.declared.inner.Inner.{Inner}
use Rattle.rhythm_base.specs.BarInput.{BarInput, IsBarInput, IsInner}
use Rattle.bar_view.specs.Points.{IsPoint}
use Rattle.bar_view.specs.Views.{AreHalves}
use Rattle.bar_view.proofs.Adding.{halves-on, past-on, splits-on, unit-within}
use Rattle.bar_view.proofs.view.View.add.Goals as goal

no-chord : Inner
no-chord = record { onset = 0; end = 0 }

inner-of : (k : BarInput) (n : ℕ) (chord : Inner) → IsBarInput k → n < length k.chords → ((d : Inner) → get_or k.chords n d ≡ chord) → IsInner k.length chord
inner-of k n chord cell more is = subst (IsInner k.length) (is no-chord) (cell.chords n no-chord more)

pub of-onset-requires-clause-within : goal.of-onset-requires-clause-within
of-onset-requires-clause-within c =
    let inner = inner-of c.args.input.now c.args.count c.args.chord c.requires.cell c.requires.more c.requires.chord in
    omega (arith, inner.onset, c.length-length.ensures)

pub of-over-requires-clause-within : goal.of-over-requires-clause-within
of-over-requires-clause-within c =
    let inner = inner-of c.args.input.now c.args.count c.args.chord c.requires.cell c.requires.more c.requires.chord in
    omega (arith, inner.end, c.length-length.ensures)

pub go_on-requires-clause-split : goal.go_on-requires-clause-split
go_on-requires-clause-split c = λ u low high.
    let k = c.args.input.now in
    let point : IsPoint k.length (c.args.chord.onset * k.resolution) c.of-onset.result
    = subst₂ (λ l r. IsPoint l (c.args.chord.onset * r) c.of-onset.result) c.length-length.ensures c.resolution-resolution.ensures c.of-onset.ensures in
    let own : IsPoint k.length ((get_or k.chords c.args.count no-chord).onset * k.resolution) c.of-onset.result
    = subst (λ (x : Inner). IsPoint k.length (x.onset * k.resolution) c.of-onset.result) (sym (c.requires.chord no-chord)) point in
    splits-on k c.requires.cell c.args.count c.args.self.now c.requires.view c.requires.more no-chord c.of-onset.result own u low high

pub go_on-requires-clause-within : goal.go_on-requires-clause-within
go_on-requires-clause-within c =
    let k = c.args.input.now in
    let inner = inner-of k c.args.count c.args.chord c.requires.cell c.requires.more c.requires.chord in
    let point : IsPoint k.length (c.args.chord.onset * k.resolution) c.of-onset.result
    = subst₂ (λ l r. IsPoint l (c.args.chord.onset * r) c.of-onset.result) c.length-length.ensures c.resolution-resolution.ensures c.of-onset.ensures in
    let less = unit-within c.args.chord.onset k.resolution k.length c.of-onset.result point inner.onset c.requires.cell.some_unit in
    omega (arith, less)

pub go_on-requires-clause-next : goal.go_on-requires-clause-next
go_on-requires-clause-next c =
    let k = c.args.input.now in
    let point : IsPoint k.length (c.args.chord.onset * k.resolution) c.of-onset.result
    = subst₂ (λ l r. IsPoint l (c.args.chord.onset * r) c.of-onset.result) c.length-length.ensures c.resolution-resolution.ensures c.of-onset.ensures in
    let sum : (c.of-onset.result.unit + 1) * k.length ≡ c.of-onset.result.unit * k.length + k.length = grind arith in
    let near : c.args.chord.onset * k.resolution < (c.of-onset.result.unit + 1) * k.length = omega (arith, point.sum, point.inside, sum) in
    inr (c.requires.more, λ d. subst (λ (x : Inner). x.onset * k.resolution < (c.of-onset.result.unit + 1) * k.length) (sym (c.requires.chord d)) near)

pub returns-clause-view : goal.returns-clause-view
returns-clause-view c =
    let k = c.args.input.now in
    let v = c.args.self.now in
    let inner = inner-of k c.args.count c.args.chord c.requires.cell c.requires.more c.requires.chord in
    let units = c.resolution-resolution.ensures in
    let point : IsPoint k.length (c.args.chord.onset * k.resolution) c.of-onset.result
    = subst₂ (λ l r. IsPoint l (c.args.chord.onset * r) c.of-onset.result) c.length-length.ensures units c.of-onset.ensures in
    let own : IsPoint k.length ((get_or k.chords c.args.count no-chord).onset * k.resolution) c.of-onset.result
    = subst (λ (x : Inner). IsPoint k.length (x.onset * k.resolution) c.of-onset.result) (sym (c.requires.chord no-chord)) point in
    let less = unit-within c.args.chord.onset k.resolution k.length c.of-onset.result point inner.onset c.requires.cell.some_unit in
    let long : length c.go_on.new.self.below.items ≡ max (length v.units.below.items) (c.of-onset.result.unit + 1) = c.in_ok-go_on.ensures.long in
    let x = c.half_after.result in
    let y = c.half_before.result in
    let halves : AreHalves k (c.args.count + 1) (v.halves.items ++ x ∷ []) (v.sounding.items ++ y ∷ [])
    = halves-on k c.requires.cell c.args.count v c.requires.view c.requires.more no-chord c.args.chord (c.requires.chord no-chord) x y
    (λ half. subst₂ (λ l r. (x ≤ half) ↔ (2 * (c.args.chord.onset * r) ≤ half * l)) c.length-length.ensures units (c.half_after.ensures (c.args.chord.onset * c.resolution-resolution.result) c.of-onset.ensures half))
    (λ half. subst₂ (λ l r. (half ≤ y) ↔ (half * l ≤ 2 * (c.args.chord.end * r))) c.length-length.ensures units (c.half_before.ensures (c.args.chord.end * c.resolution-resolution.result) c.of-over.ensures half)) c.requires.chord in
    record {
      units = c.in_ok-go_on.ensures.units;
      within = omega (arith, long, less, c.requires.view.within);
      past = past-on k c.requires.cell c.args.count v c.requires.view no-chord c.of-onset.result (length c.go_on.new.self.below.items) own c.requires.more long;
      halves = subst₂ (AreHalves k (c.args.count + 1)) (sym c.in_ok-push.ensures.items) (sym c.in_ok-push-2.ensures.items) halves;
    }
