-- The name of a key is its letter, and `es` or `is` where it is black.
use Rattle.std.proofs.Common.{◌≡◌, ℕ, ◌<◌, Bool, true, false, List, [], ◌∷◌, ◌++◌, append_assoc, refl, sym, ap, ◌∙◌, arith}
use Rattle.std.specs.Prelude.{codes, if◌then◌else◌, slice_index, slice_index_or}
use Rattle.std.specs.Str.{bytes_eq}
use Rattle.std.proofs.lemmas.Slice.Eq.{bytes_eq-Decides}
use Rattle.durations.specs.Pitch.{is_black, letters}
use Rattle.lily_writer.specs.Pitches.{names}
use Rattle.rhythm_base.proofs.NumbersBelow.{one_below, all_below}

abbrev pub built_name : Bool → ℕ → List ℕ
built_name flats k = slice_index (letters flats) k ∷ (if is_black k then (if flats then codes "es" else codes "is") else [])

abbrev is_named : Bool → ℕ → Bool
is_named flats k = bytes_eq (built_name flats k) (slice_index_or (names flats) k [])

all_named : (flats : Bool) → all_below (is_named flats) 12 ≡ true
all_named true = refl
all_named false = refl

pub name_is : (flats : Bool) (k : ℕ) → k < 12 → built_name flats k ≡ slice_index_or (names flats) k []
name_is flats k within =
    (bytes_eq-Decides (built_name flats k) (slice_index_or (names flats) k [])).0 (one_below (is_named flats) 12 k (all_named flats) within)

-- after a text
pub black_name : (flats : Bool) (k : ℕ) (text letter new : List ℕ) → k < 12 → is_black k ≡ true
    → letter ≡ text ++ slice_index (letters flats) k ∷ []
    → new ≡ letter ++ (if flats then codes "es" else codes "is") → new ≡ text ++ slice_index_or (names flats) k []
black_name flats k text letter new within black first second =
    second ∙ ap (λ t. t ++ (if flats then codes "es" else codes "is")) first
    ∙ append_assoc text (slice_index (letters flats) k ∷ []) (if flats then codes "es" else codes "is")
    ∙ ap (λ b. text ++ slice_index (letters flats) k ∷ (if b then (if flats then codes "es" else codes "is") else [])) (sym black)
    ∙ ap (λ t. text ++ t) (name_is flats k within)

pub white_name : (flats : Bool) (k : ℕ) (text new : List ℕ) → k < 12 → is_black k ≡ false → new ≡ text ++ slice_index (letters flats) k ∷ []
    → new ≡ text ++ slice_index_or (names flats) k []
white_name flats k text new within white first =
    first ∙ ap (λ b. text ++ slice_index (letters flats) k ∷ (if b then (if flats then codes "es" else codes "is") else [])) (sym white)
    ∙ ap (λ t. text ++ t) (name_is flats k within)
