-- One token more in a column, in the middle of a bar.
use Rattle.std.proofs.Common.{◌≡◌, ℕ, ◌+◌, ◌<◌, ◌≤◌, ◌==◌, Bool, true, false, List, [], ◌∷◌, refl, ap, arith, Option, Some, None}
use Rattle.text_words.specs.declared.time_signature.TimeSignature.{TimeSignature}
use Rattle.std.specs.List.{flat_map}
use Rattle.std.specs.Prelude.{IsSome, cond}
use Rattle.std.proofs.lemmas.Bool.{false≢true}
use Rattle.std.proofs.lemmas.Bool.Decides.{nat_tests}
use Rattle.kern_reader.specs.declared.token.Token.{Token}
use Rattle.kern_reader.specs.declared.token.Token.TheVariants as token
use Rattle.kern_reader.specs.Columns.{has_value, open_keys, place, waiting, grace_keys}
use Rattle.kern_reader.specs.Faults.{is_grace, is_null}
use Rattle.kern_reader.proofs.SpineLemmas.{spine_next, waiting_chord, waiting_rest, is_apart, take_while-stops}
use Rattle.kern_laws.proofs.ScoreLines.{Said, said_at}
use Rattle.kern_laws.proofs.PlaceParts.{Fits, Frame, next_place, saids_after, token_width}

-- ---- columns

pub place_null : (grid : ℕ) (column : List Token) → place grid (token.Null ∷ column) ≡ place grid column
place_null grid column = ap (λ s. s.place) (spine_next grid token.Null column)

pub place_grace : (grid keys : ℕ) (column : List Token) → place grid (token.Grace keys ∷ column) ≡ place grid column
place_grace grid keys column = ap (λ s. s.place) (spine_next grid (token.Grace keys) column)

pub place_value : (grid : ℕ) (t : Token) (column : List Token) → has_value t ≡ true → place grid (t ∷ column) ≡ token_width grid t + place grid column
place_value grid (token.Bar signature) column e = absurd (false≢true e)
place_value grid token.Null column e = absurd (false≢true e)
place_value grid (token.Rest value) column e = ap (λ s. s.place) (spine_next grid (token.Rest value) column)
place_value grid (token.Grace keys) column e = absurd (false≢true e)
place_value grid (token.Chord writing keys) column e = ap (λ s. s.place) (spine_next grid (token.Chord writing keys) column)

pub waiting_bar : (signature : TimeSignature) (column : List Token) → waiting (token.Bar signature ∷ column) ≡ []
waiting_bar signature column = ap (flat_map grace_keys) (take_while-stops is_apart (token.Bar signature) column refl)

pub waiting_value : (t : Token) (column : List Token) → has_value t ≡ true → waiting (t ∷ column) ≡ []
waiting_value (token.Bar signature) column e = absurd (false≢true e)
waiting_value token.Null column e = absurd (false≢true e)
waiting_value (token.Rest value) column e = waiting_rest value column
waiting_value (token.Grace keys) column e = absurd (false≢true e)
waiting_value (token.Chord writing keys) column e = waiting_chord writing keys column

pub open_value : (t : Token) (column : List Token) → has_value t ≡ true → open_keys (t ∷ column) ≡ open_keys (t ∷ [])
open_value (token.Bar signature) column e = absurd (false≢true e)
open_value token.Null column e = absurd (false≢true e)
open_value (token.Rest value) column e = refl
open_value (token.Grace keys) column e = absurd (false≢true e)
open_value (token.Chord writing keys) column e = refl

pub not_null : (t : Token) → has_value t ≡ true → is_null t ≡ false
not_null (token.Bar signature) e = refl
not_null token.Null e = absurd (false≢true e)
not_null (token.Rest value) e = refl
not_null (token.Grace keys) e = refl
not_null (token.Chord writing keys) e = refl

pub not_grace : (t : Token) → has_value t ≡ true → is_grace t ≡ false
not_grace (token.Bar signature) e = refl
not_grace token.Null e = refl
not_grace (token.Rest value) e = refl
not_grace (token.Grace keys) e = absurd (false≢true e)
not_grace (token.Chord writing keys) e = refl

-- ---- what is said at a place

pub fits_within : (f : Frame) (tied : Option ℕ) (saids : List Said) → Fits f tied saids → next_place f saids ≤ f.end
fits_within f tied [] fits = omega arith
fits_within f tied (s ∷ saids) (fit, next, rest) = let more = fits_within f (open_keys (s.main ∷ [])) saids rest in omega (arith, next, more, fit.wide)

-- it is not before the next value, and before the end
pub said_within : (f : Frame) (tied : Option ℕ) (saids : List Said) (x : ℕ) → Fits f tied saids → IsSome (said_at x saids) → (next_place f saids ≤ x) × (x < f.end)
said_within f tied [] x fits some = absurd (false≢true some)
said_within f tied (s ∷ saids) x (fit, next, rest) some = go (s.place == x) refl some (said_within f (open_keys (s.main ∷ [])) saids x rest)
  where
    more : next_place f saids ≤ f.end
    more = fits_within f (open_keys (s.main ∷ [])) saids rest

    go : (b : Bool) → (s.place == x) ≡ b → IsSome (cond b (Some s) (said_at x saids)) → (IsSome (said_at x saids) → (next_place f saids ≤ x) × (x < f.end)) → (s.place ≤ x) × (x < f.end)
    go true e some later = let same : s.place ≡ x = grind (arith, nat_tests, e) in (omega (arith, same), omega (arith, same, next, more, fit.wide))
    go false e some later = let (low, high) = later some in (omega (arith, low, next), high)

said_none : (o : Option Said) → (IsSome o → ⊥) → o ≡ None
said_none None none = refl
said_none (Some s) none = absurd (none refl)

-- nothing is said before the next value
pub said_later : (f : Frame) (tied : Option ℕ) (saids : List Said) (x : ℕ) → Fits f tied saids → x < next_place f saids → said_at x saids ≡ None
said_later f tied saids x fits before = said_none (said_at x saids) (λ some. let low = (said_within f tied saids x fits some).0 in omega (arith, low, before))

-- ---- cases: the next value is at the place, or it is later

pub data AtPlace (f : Frame) (saids : List Said) (x : ℕ) : Type 0 where
  here : (s : Said) (rest : List Said) → saids ≡ s ∷ rest → s.place ≡ x → said_at x saids ≡ Some s → saids_after x saids ≡ rest → AtPlace f saids x
  later : x < next_place f saids → said_at x saids ≡ None → saids_after x saids ≡ saids → AtPlace f saids x

pub at_place : (f : Frame) (tied : Option ℕ) (saids : List Said) (x : ℕ) → Fits f tied saids → x ≤ next_place f saids → x < f.end → AtPlace f saids x
at_place f tied [] x fits low within = later (omega (arith, within)) refl refl
at_place f tied (s ∷ saids) x fits low within = go (s.place == x) refl
  where
    go : (b : Bool) → (s.place == x) ≡ b → AtPlace f (s ∷ saids) x
    go true e = here s saids refl (grind (arith, nat_tests, e)) (rw e refl) (rw e refl)
    go false e = let more : x < s.place = grind (arith, nat_tests, e, low) in later more (said_later f tied (s ∷ saids) x fits more) (rw e refl)
