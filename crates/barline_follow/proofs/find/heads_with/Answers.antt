use Rattle.std.proofs.Common.{◌<◌, ℕ, ◌++◌, ◌∷◌, [], List, length, map, ap, sym, ◌∙◌, arith}
use Rattle.std.specs.Prelude.{Option}
use Rattle.std.proofs.lemmas.List.{map-append}
use Rattle.barline_follow.specs.declared.heads.Heads.{Heads}
use Rattle.least_cost.specs.declared.costs.BarCosts.{BarCosts}
use Rattle.barline_follow.specs.Costs.{costs_with_bar}
use Rattle.barline_follow.proofs.Searching.{joined_more, zip_short}
use Rattle.barline_follow.proofs.find.heads_with.Goals as goal

abbrev costs_of : Heads → List (Option ℕ)
costs_of h = h.costs

abbrev longer_costs : Heads × BarCosts → List (Option ℕ)
longer_costs pair = costs_with_bar pair.0.costs pair.1.costs

pub voices-preserved : goal.voices-preserved
voices-preserved c =
    let heads : List Heads = c.args.heads.now in
    let bars : List BarCosts = c.args.costs.now in
    let i : ℕ = c.voices.voice in
    let low : i < length heads = omega (arith, c.voices-test.true, c.min-count.ensures) in
    let high : i < length bars = omega (arith, c.voices-test.true, c.min-count.ensures) in
    let own = c.with_bar.ensures in
    ap (map costs_of) c.in_ok-push.ensures.items
    ∙ map-append costs_of c.voices.longer.items (c.with_bar.result ∷ [])
    ∙ (λ k. c.voices.invariant k ++ (own k ∷ []))
    ∙ sym (joined_more longer_costs heads bars i _ _ low high)

pub returns : goal.returns
returns c = c.voices.invariant ∙ ap (map longer_costs) (zip_short c.args.heads.now c.args.costs.now c.voices.voice (omega (arith, c.voices-test.false, c.min-count.ensures)))
