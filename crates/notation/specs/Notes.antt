-- The notes of a group: its tokens, each as one value or several under the bracket of the group.
use Rattle.std.specs.Prelude.{◌≡◌, ℕ, ◌-◌, ◌*◌, ◌/◌, ◌<◌, ◌≤◌, ◌==◌, Bool, true, false, ◌&&◌, ◌||◌, not, if◌then◌else◌, List, [], ◌∷◌, ◌++◌, All}
use Rattle.std.specs.Int.{◌∣◌, IsPowerOfTwo}
use Rattle.durations.specs.declared.value.Value.{Value}
use Rattle.durations.specs.Value.{width}
use Rattle.durations.specs.Values.{AreValues}
use Rattle.notation.specs.declared.note.Ratio.{Ratio}
use Rattle.notation.specs.Places.{is_halved, whole_of}
use Rattle.notation.specs.Rests.{joined_from, last_number}
use Rattle.notation.specs.Tokens.{Token, is_silent, may_go_on}

-- A note, a chord or a rest: how many parts it lasts; the value by which it is written within its bracket; its keys, of a rest none; the grace chords
-- before it; whether it is marked short; and whether a tie comes to it, and one goes on from it
pub record Note : Type 0 where
  pub duration : ℕ
  pub value : Value
  pub keys : ℕ
  pub graces : List (ℕ)
  pub short : Bool
  pub comes : Bool
  pub goes : Bool

-- The notes under one bracket: so many in the time of so many. Of 1 in the time of 1 there is no bracket
pub record Group : Type 0 where
  pub ratio : Ratio
  pub notes : List Note

-- ---- the ratio of a group

-- the greatest number of parts in which the places of a group count, as a divisor of the odd part of the resolution
pub record IsGrid (odd : ℕ) (tokens : List Token) (grid : ℕ) : Type 0 where
  pub odd_part : grid ∣ odd
  pub places : All (λ t. (grid ∣ t.start) × (grid ∣ t.end)) tokens
  pub greatest : (d : ℕ) → d ∣ odd → All (λ t. (d ∣ t.start) × (d ∣ t.end)) tokens → d ∣ grid

-- the greatest power of two that is at most a number
abbrev pub IsGreatestPower : ℕ → ℕ → Type 0
IsGreatestPower number power = IsPowerOfTwo power × (power ≤ number) × (number < 2 * power)

-- a whole note as it is spelled within the bracket, in parts of the grid
abbrev pub spelled_whole : ℕ → ℕ → ℕ → ℕ
spelled_whole resolution odd normal = whole_of resolution / odd * normal

-- ---- joined ties

-- the ends of the tokens after one, each tied to the one before it
abbrev pub tied_ends : Bool → List Token → List ℕ
tied_ends goes [] = []
tied_ends goes (t ∷ ts) = if goes && t.comes then t.end ∷ tied_ends (may_go_on t) ts else []

-- what is from one place to another is a value without dots, in parts of the grid
abbrev pub is_plain_value : ℕ → ℕ → ℕ → ℕ → Bool
is_plain_value grid whole start end = is_halved whole ((end - start) / grid)

-- under a bracket a token with keys takes as many that follow it, each tied to the one before, as make together a value without dots, of
-- all such numbers the greatest
abbrev pub ties_taken : ℕ → ℕ → Token → List Token → ℕ
ties_taken grid whole t more = last_number (is_plain_value grid whole t.start) (tied_ends (may_go_on t) more)

-- without a bracket nothing is joined: there a tie shows a beat
abbrev pub joined_ties : ℕ → ℕ → ℕ → List Token → List Token
joined_ties actual grid whole tokens = if actual == 1 then tokens else joined_from (ties_taken grid whole) 0 tokens

-- ---- notes

-- a value of a token, which is its first or not, and its last or not
abbrev pub note : ℕ → ℕ → Token → Bool → Bool → Value → Note
note grid whole t first last v = record {
  duration = width whole v * grid;
  value = v;
  keys = t.keys;
  graces = if first then t.graces else [];
  short = t.short && first;
  comes = not (is_silent t) && (not first || t.comes);
  goes = not (is_silent t) && (not last || t.goes);
}

abbrev pub is_empty : {X : Type 0} → List X → Bool
is_empty [] = true
is_empty (x ∷ xs) = false

-- the notes of a token by its values
abbrev pub token_notes : ℕ → ℕ → Token → Bool → List Value → List Note
token_notes grid whole t first [] = []
token_notes grid whole t first (v ∷ vs) = note grid whole t first (is_empty vs) v ∷ token_notes grid whole t false vs

-- the notes of tokens, each by the values of its length within the bracket
abbrev pub AreNotes : ℕ → ℕ → List Token → List Note → Type 0
AreNotes grid whole [] notes = notes ≡ []
AreNotes grid whole (t ∷ ts) notes =
    (values : List Value) × (others : List Note) × AreValues ((t.end - t.start) / grid) whole values
    × AreNotes grid whole ts others × (notes ≡ token_notes grid whole t true values ++ others)

-- The group of tokens. What counts in the grid is an odd number of parts finer than halves, quarters, eighths ..: so many are written in the time of the greatest power of two
-- below
pub record IsGroup (resolution odd : ℕ) (tokens : List Token) (group : Group) : Type 0 where
  pub grid : ℕ
  pub is_grid : IsGrid odd tokens grid
  pub actual : odd ≡ group.ratio.actual * grid
  pub normal : IsGreatestPower group.ratio.actual group.ratio.normal
  pub notes : AreNotes grid (spelled_whole resolution odd group.ratio.normal)
      (joined_ties group.ratio.actual grid (spelled_whole resolution odd group.ratio.normal) tokens) group.notes
