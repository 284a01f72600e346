use Rattle.std.proofs.Common.{◌≡◌, ◌∙◌, ℕ, List, [], ◌∷◌, ap}
use Rattle.std.specs.Prelude.{Option}
use Rattle.rhythm_base.specs.Ranked.{five, ranked}
use Rattle.rhythm_base.specs.declared.best.Best.{Best}
use Rattle.best_trees.specs.Grids.{first_keys}
use Rattle.best_trees.proofs.least.bests_of.Goals as goal

pub returns : goal.returns
returns c =
    let keys = first_keys c.args.grid.now in
    let bests : ℕ → List (Option Best) = λ a. five (λ b. ranked (keys a) (keys a b)) in
    let one : c.bests_from.result ≡ bests 0 = c.bests_from.ensures ∙ ap bests c.of.ensures in
    let two : c.bests_from-2.result ≡ bests 1 = c.bests_from-2.ensures ∙ ap bests c.of-2.ensures in
    let three : c.bests_from-3.result ≡ bests 2 = c.bests_from-3.ensures ∙ ap bests c.of-3.ensures in
    let four : c.bests_from-4.result ≡ bests 3 = c.bests_from-4.ensures ∙ ap bests c.of-4.ensures in
    let last : c.bests_from-5.result ≡ bests 4 = c.bests_from-5.ensures ∙ ap bests c.of-5.ensures in
    λ i. one i ∷ two i ∷ three i ∷ four i ∷ last i ∷ []
