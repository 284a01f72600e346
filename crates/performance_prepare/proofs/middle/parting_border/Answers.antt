use Rattle.std.proofs.Common.{arith, ℕ, List, ap, sym, ◌∙◌, ◌≡◌, map}
use Rattle.rhythm_base.specs.Lists.{greatest, least_of}
use Rattle.performance_prepare.specs.Middle.{best_borders, best_parting, inner_borders, parting}
use Rattle.performance_prepare.proofs.Middles.{border_midway, border_usual, borders_best, greatest_best, least_best, length_partings}
use Rattle.performance_prepare.proofs.middle.parting_border.Goals as goal

pub returns-then-best-eq0-clause-border : goal.returns-then-best-eq0-clause-border
returns-then-best-eq0-clause-border c =
    let keys : List ℕ = c.args.keys.now in
    let slice : c.deref.result.now ≡ map (parting keys) inner_borders = c.deref.ensures.value ∙ c.in_ok-partings.ensures in
    border_usual keys (sym (ap greatest slice) ∙ sym c.greatest_of-best.ensures ∙ c.if-best-eq0.true)

pub borders_at-requires : goal.borders_at-requires
borders_at-requires c = length_partings c.args.keys.now _ (c.deref-2.ensures.value ∙ c.in_ok-partings.ensures)

pub overflow_add-result : goal.overflow_add-result
overflow_add-result c =
    let keys : List ℕ = c.args.keys.now in
    let second : c.deref-2.result.now ≡ map (parting keys) inner_borders = c.deref-2.ensures.value ∙ c.in_ok-partings.ensures in
    let first : c.deref.result.now ≡ c.deref-2.result.now = c.deref.ensures.value ∙ sym c.deref-2.ensures.value in
    let top : c.greatest_of-best.result ≡ greatest c.deref-2.result.now = c.greatest_of-best.ensures ∙ ap greatest first in
    let best : c.in_ok-borders.borders.items ≡ best_borders keys = c.in_ok-borders.ensures
    ∙ borders_best keys c.deref-2.result.now c.greatest_of-best.result second top in
    let low : c.least_number.result ≡ least_of (best_borders keys) = c.least_number.ensures
    ∙ ap least_of (c.deref-3.ensures.value ∙ best) in
    let high : c.greatest_of.result ≡ greatest (best_borders keys) = c.greatest_of.ensures ∙ ap greatest (c.deref-4.ensures.value ∙ best) in
    let one = least_best keys in
    let other = greatest_best keys in
    omega (arith, low, high, one, other)

pub returns-clause-border : goal.returns-clause-border
returns-clause-border c =
    let keys : List ℕ = c.args.keys.now in
    let second : c.deref-2.result.now ≡ map (parting keys) inner_borders = c.deref-2.ensures.value ∙ c.in_ok-partings.ensures in
    let first : c.deref.result.now ≡ c.deref-2.result.now = c.deref.ensures.value ∙ sym c.deref-2.ensures.value in
    let top : c.greatest_of-best.result ≡ greatest c.deref-2.result.now = c.greatest_of-best.ensures ∙ ap greatest first in
    let best : c.in_ok-borders.borders.items ≡ best_borders keys = c.in_ok-borders.ensures
    ∙ borders_best keys c.deref-2.result.now c.greatest_of-best.result second top in
    let low : c.least_number.result ≡ least_of (best_borders keys) = c.least_number.ensures
    ∙ ap least_of (c.deref-3.ensures.value ∙ best) in
    let high : c.greatest_of.result ≡ greatest (best_borders keys) = c.greatest_of.ensures ∙ ap greatest (c.deref-4.ensures.value ∙ best) in
    let some : best_parting keys ≡ 0 → ⊥ = λ none. c.if-best-eq0.false (top ∙ ap greatest second ∙ none) in
    border_midway keys c.least_number.result c.greatest_of.result some low high

pub returns-clause-low : goal.returns-clause-low
returns-clause-low c =
    let keys : List ℕ = c.args.keys.now in
    let second : c.deref-2.result.now ≡ map (parting keys) inner_borders = c.deref-2.ensures.value ∙ c.in_ok-partings.ensures in
    let first : c.deref.result.now ≡ c.deref-2.result.now = c.deref.ensures.value ∙ sym c.deref-2.ensures.value in
    let top : c.greatest_of-best.result ≡ greatest c.deref-2.result.now = c.greatest_of-best.ensures ∙ ap greatest first in
    let best : c.in_ok-borders.borders.items ≡ best_borders keys = c.in_ok-borders.ensures
    ∙ borders_best keys c.deref-2.result.now c.greatest_of-best.result second top in
    let low : c.least_number.result ≡ least_of (best_borders keys) = c.least_number.ensures
    ∙ ap least_of (c.deref-3.ensures.value ∙ best) in
    let high : c.greatest_of.result ≡ greatest (best_borders keys) = c.greatest_of.ensures ∙ ap greatest (c.deref-4.ensures.value ∙ best) in
    let one = least_best keys in
    let other = greatest_best keys in
    omega (arith, low, high, one, other)
