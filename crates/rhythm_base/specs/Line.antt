-- Attachment and fit over any line of leaves, left to right: the leaves of a whole voice, or those of one bar.
use Rattle.std.specs.Prelude.{⊤, ℕ, ◌+◌, ◌≤◌, Bool, true, false, ◌&&◌, ◌==◌, not, nat_lt, if◌then◌else◌, List, [], ◌∷◌, ◌++◌, length, filter, map}
use Rattle.std.proofs.Common.{suc}
use Rattle.rhythm_base.specs.declared.inner.Inner.{Inner}
use Rattle.rhythm_base.specs.declared.rule.Ending.{Ending}
use Rattle.rhythm_base.specs.declared.rule.Ending.TheVariants.{Note, Short, Tie, Rest, Grace}

-- the onsets rise strictly, and none is below low
abbrev pub Rising : ℕ → List Inner → Type 0
Rising low [] = ⊤
Rising low (c ∷ cs) = (low ≤ c.onset) × Rising (c.onset + 1) cs

-- what is asked of a leaf: does an onset lie in it, is the onset not after its middle, does an end sound in it, and how does its rule end it
pub record Looks (X : Type 0) : Type 0 where
  pub lies : X → ℕ → Bool
  pub left : X → ℕ → Bool
  pub sounds : X → ℕ → Bool
  pub ending : X → Ending

-- ---- attachment

-- the number of the leaf that an onset is attached to: the leaf that it lies in, or the next. The number of leaves where it is past the last
abbrev pub seat : {X : Type 0} → Looks X → List X → ℕ → ℕ
seat K [] t = 0
seat K (x ∷ xs) t = if K.lies x t then (if K.left x t then 0 else 1) else suc (seat K xs t)

-- each chord's leaf and its end. Chords with the ends `carried` are attached to the first leaf, before the line's own
abbrev pub placements : {X : Type 0} → Looks X → List X → List ℕ → List Inner → List (ℕ × ℕ)
placements K xs carried cs = map (λ e. (0, e)) carried ++ map (λ c. (seat K xs c.onset, c.end)) cs

-- the ends of the chords attached to leaf i
abbrev pub ends_at : ℕ → List (ℕ × ℕ) → List ℕ
ends_at i ps = map (λ q. q.1) (filter (λ q. q.0 == i) ps)

-- the ends of the chords attached to a leaf before i
abbrev pub ends_before : ℕ → List (ℕ × ℕ) → List ℕ
ends_before i ps = map (λ q. q.1) (filter (λ q. nat_lt q.0 i) ps)

-- ---- fit

-- there is a latest chord, and it sounds
abbrev pub last_sounds : (ℕ → Bool) → List ℕ → Bool
last_sounds s [] = false
last_sounds s (e ∷ []) = s e
last_sounds s (e ∷ d ∷ ds) = last_sounds s (d ∷ ds)

-- how a rule ends its leaf agrees with the number n of the chords that are attached to the leaf, where the latest chord of these
-- and of those attached to earlier leaves sounds in it or not: a note or a short begins one chord, a tie or a rest none, and
-- a grace leaf its m grace chords and one more, with m from 1 to 3
abbrev pub agrees : Ending → ℕ → Bool → Bool
agrees Note n sounds = (n == 1) && sounds
agrees Short n sounds = (n == 1) && not sounds
agrees Tie n sounds = (n == 0) && sounds
agrees Rest n sounds = (n == 0) && not sounds
agrees (Grace m) n sounds = (nat_lt 0 m && nat_lt m 4) && (n == m + 1)

-- it agrees with the ends of the chords attached to the leaf, `here`, and of those attached to earlier leaves, `before`
abbrev pub agrees_with : Ending → (ℕ → Bool) → List ℕ → List ℕ → Bool
agrees_with ending s here before = agrees ending (length here) (last_sounds s (before ++ here))

-- the leaves from number i on agree. Chords with the ends `prior` are attached to leaves before the line
abbrev pub agree_from : {X : Type 0} → Looks X → List ℕ → List (ℕ × ℕ) → ℕ → List X → Bool
agree_from K prior ps i [] = true
agree_from K prior ps i (x ∷ xs) = agrees_with (K.ending x) (K.sounds x) (ends_at i ps) (prior ++ ends_before i ps) && agree_from K prior ps (suc i) xs

-- each leaf of the line agrees
abbrev pub agree : {X : Type 0} → Looks X → List ℕ → List ℕ → List Inner → List X → Bool
agree K prior carried cs xs = agree_from K prior (placements K xs carried cs) 0 xs

-- how many chords are attached past the last leaf
abbrev pub past : {X : Type 0} → Looks X → List ℕ → List Inner → List X → ℕ
past K carried cs xs = length (ends_at (length xs) (placements K xs carried cs))
