-- A line of leaves read from left to right, handing on a count of chords and the latest end.
use Rattle.std.specs.Prelude.{◌≡◌, ℕ, ◌+◌, ◌≤◌, Bool, true, false, ◌&&◌, not, List, [], ◌∷◌, length, filter, map}
use Rattle.rhythm_base.specs.Lists.{last_end}
use Rattle.rhythm_base.specs.declared.inner.Inner.{Inner}
use Rattle.rhythm_base.specs.Line.{agrees, Looks}

-- the ends of the chords of the left half of a leaf, which are attached to it
abbrev pub lefts : {X : Type 0} → Looks X → X → List Inner → List ℕ
lefts K x cs = map (λ c. c.end) (filter (λ c. K.lies x c.onset && K.left x c.onset) cs)

-- the ends of the chords of its right half, which are attached to the next leaf
abbrev pub rights : {X : Type 0} → Looks X → X → List Inner → List ℕ
rights K x cs = map (λ c. c.end) (filter (λ c. K.lies x c.onset && not (K.left x c.onset)) cs)

-- all leaves agree, where f chords are carried to the first and e is the latest end before
abbrev pub runs : {X : Type 0} → Looks X → List Inner → ℕ → ℕ → List X → Bool
runs K cs e f [] = true
runs K cs e f (x ∷ xs) =
    agrees (K.ending x) (f + length (lefts K x cs)) (K.sounds x (last_end e (lefts K x cs)))
    && runs K cs (last_end (last_end e (lefts K x cs)) (rights K x cs)) (length (rights K x cs)) xs

-- the number of chords that leave the line
abbrev pub leaving : {X : Type 0} → Looks X → List Inner → ℕ → List X → ℕ
leaving K cs f [] = f
leaving K cs f (x ∷ xs) = leaving K cs (length (rights K x cs)) xs

-- the latest end at the end of the line
abbrev pub ending : {X : Type 0} → Looks X → List Inner → ℕ → List X → ℕ
ending K cs e [] = e
ending K cs e (x ∷ xs) = ending K cs (last_end (last_end e (lefts K x cs)) (rights K x cs)) xs

-- s tells which onsets the leaf's start reaches, z which its end reaches
pub record IsStep {X : Type 0} (K : Looks X) (s : ℕ → Bool) (x : X) (z : ℕ → Bool) : Type 0 where
  pub inside : (t : ℕ) → K.lies x t ≡ s t && not (z t)
  pub back : (t : ℕ) → z t ≡ true → s t ≡ true
  pub later : (t u : ℕ) → t ≤ u → z t ≡ true → z u ≡ true
  pub halves : (t u : ℕ) → t ≤ u → K.left x u ≡ true → K.left x t ≡ true
  pub silent : K.sounds x 0 ≡ false

-- the leaves stand side by side from the start s to the end z
abbrev pub IsLine : {X : Type 0} → Looks X → (ℕ → Bool) → List X → (ℕ → Bool) → Type 0
IsLine K s [] z = s ≡ z
IsLine K s (x ∷ xs) z = (m : ℕ → Bool) × IsStep K s x m × IsLine K m xs z
