-- The laws of products.
use Rattle.std.specs.Prelude.{◌≡◌}
use Rattle.rhythm_base.specs.Paths.{IsRanked}
use Rattle.rhythm_base.specs.Ranked.{CarryMatrix, identity_entries, product_of}

-- products associate, ranks included
abbrev pub ProductsAssociate : Type 0
ProductsAssociate = (a b c : CarryMatrix) → IsRanked a → IsRanked b → IsRanked c → product_of (product_of a b) c ≡ product_of a (product_of b c)

-- the identity changes no matrix, from either side
abbrev pub IdentityIsNeutral : Type 0
IdentityIsNeutral = (a : CarryMatrix) → IsRanked a → (product_of identity_entries a ≡ a) × (product_of a identity_entries ≡ a)
