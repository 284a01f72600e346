-- Worked cases of the candidates.
use Rattle.std.proofs.Common.{◌≡◌, [], ◌∷◌, refl}
use Rattle.barline_fit.specs.Candidates.{candidates}

-- a step meets the highest
meets : candidates 1880 1920 20 ≡ 1880 ∷ 1900 ∷ 1920 ∷ []
meets = refl

-- no step meets it
misses : candidates 1880 1920 30 ≡ 1880 ∷ 1910 ∷ []
misses = refl

-- one tick alone
alone : candidates 7 7 5 ≡ 7 ∷ []
alone = refl
