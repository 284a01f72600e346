use Rattle.tree_laws.proofs.ForestLemmas.{beside-least, least-rows_apart, least-rows_parse}
use Rattle.path_laws.proofs.Products.{product_is}
use Rattle.std.proofs.Common.{[], ◌∷◌}
use Rattle.tree_laws.specs.Forests.{first_shape}
use Rattle.tree_laws.proofs.laws.least_forests_are_of_the_least.Goals as goal

pub returns : goal.returns
returns c = record {
  least = λ d p q qs s first others ground wide f o. beside-least d ground p q qs wide s first others f o;
  tables = λ d p q s first others f. product_is first others (least-rows_parse d (first_shape s) p (q ∷ []) first f) (least-rows_apart d (first_shape s) p (q ∷ []) first f);
}
