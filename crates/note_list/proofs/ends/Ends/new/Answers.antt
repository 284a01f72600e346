use Rattle.std.proofs.Common.{◌≡◌, ℕ, List, refl, sym, subst}
use Rattle.std.specs.Prelude.{All}
use Rattle.std.proofs.lemmas.List.Elements.{All-replicate}
use Rattle.note_list.proofs.ends.Ends.new.Goals as goal

pub returns-clause-last : goal.returns-clause-last
returns-clause-last c =
    let P : List ℕ → Type 0 = All (λ t. t ≡ c.args.last) in
    subst P (sym (c.in_ok-vec.ensures.items_if_clones_equal (λ y e. e))) (All-replicate (λ t. t ≡ c.args.last) 2048 c.args.last refl)
