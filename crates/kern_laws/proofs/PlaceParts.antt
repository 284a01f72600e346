-- What the voices say in a bar, and what is known of a column in the middle of it.
use Rattle.std.specs.Prelude.{◌≡◌, ℕ, ◌+◌, ◌-◌, ◌*◌, ◌≤◌, ◌==◌, Bool, true, false, not, if◌then◌else◌, List, [], ◌∷◌, All, filter, length, take, Option, ⊤}
use Rattle.durations.specs.Value.{width}
use Rattle.kern_reader.specs.declared.token.Token.{Token}
use Rattle.kern_reader.specs.declared.token.Token.TheVariants as token
use Rattle.kern_reader.specs.Columns.{has_value, open_keys, place, token_values, waiting}
use Rattle.kern_reader.specs.Faults.{is_grace_wrong, is_null, is_tie_wrong, stands}
use Rattle.kern_reader.specs.Score.{Counts}
use Rattle.kern_reader.specs.Tokens.{IsWellToken}
use Rattle.kern_laws.proofs.ScoreLines.{Said, graces_or_none, said_at}

-- A bar: the grid in which all values count, how many of its parts are one of 1/whole of a whole note, and where the bar ends,
-- in these
pub record Frame : Type 0 where
  pub grid : ℕ
  pub times : ℕ
  pub whole : ℕ
  pub end : ℕ

-- what a voice still says in the bar, what it says in each bar, and what its column comes to
pub record Part : Type 0 where
  pub saids : List Said
  pub voice : List (List Said)
  pub target : List Token

-- what has to hold of a voice and its target, with the keys of an open tie and the tokens so far, last first
abbrev pub Ahead : Type 1
Ahead = List (List Said) → List Token → Option ℕ → List Token → Type 0

-- ---- what is said

abbrev pub token_width : ℕ → Token → ℕ
token_width grid (token.Bar signature) = 0
token_width grid token.Null = 0
token_width grid (token.Rest value) = width grid value
token_width grid (token.Grace keys) = 0
token_width grid (token.Chord writing keys) = width grid writing.value

-- it can stand while a tie of these keys is open, or none
pub record IsFit (f : Frame) (tied : Option ℕ) (s : Said) : Type 0 where
  pub valued : has_value s.main ≡ true
  pub wide : 1 ≤ token_width f.whole s.main
  pub finer : token_width f.grid s.main ≡ f.times * token_width f.whole s.main
  pub tie : is_tie_wrong s.main tied ≡ false
  pub grace : is_grace_wrong s.main (length s.graces) ≡ false
  pub few : length s.graces ≤ 3
  pub well : IsWellToken s.main
  pub counts : All (Counts f.grid) (token_values s.main)

abbrev pub next_place : Frame → List Said → ℕ
next_place f [] = f.end
next_place f (s ∷ saids) = s.place

abbrev pub Fits : Frame → Option ℕ → List Said → Type 0
Fits f tied [] = ⊤
Fits f tied (s ∷ saids) = IsFit f tied s × (s.place + token_width f.whole s.main ≡ next_place f saids) × Fits f (open_keys (s.main ∷ [])) saids

abbrev pub open_after : Option ℕ → List Said → Option ℕ
open_after tied [] = tied
open_after tied (s ∷ saids) = open_after (open_keys (s.main ∷ [])) saids

-- the tokens of what is said after others, last first
abbrev pub graced : List ℕ → List Token → List Token
graced [] before = before
graced (keys ∷ graces) before = graced graces (token.Grace keys ∷ before)

abbrev pub spelled : List Said → List Token → List Token
spelled [] before = before
spelled (s ∷ saids) before = spelled saids (s.main ∷ graced s.graces before)

-- without the dots of places at which the voice says nothing
abbrev pub clean : List Token → List Token
clean column = filter (λ t. not (is_null t)) column

-- ---- columns

-- before the lines of a place
pub record IsAt (f : Frame) (Later : Ahead) (p : Part) (column : List Token) : Type 0 where
  pub here : place f.grid column ≡ f.times * next_place f p.saids
  pub fits : Fits f (open_keys column) p.saids
  pub waits : length (waiting column) ≡ 0
  pub later : Later p.voice p.target (open_after (open_keys column) p.saids) (spelled p.saids (clean column))

abbrev pub graces_at : ℕ → Part → List ℕ
graces_at x p = graces_or_none (said_at x p.saids)

-- with so many grace lines still to come at place x
pub record IsGracing (f : Frame) (Later : Ahead) (x left : ℕ) (p : Part) (column : List Token) : Type 0 where
  pub here : place f.grid column ≡ f.times * next_place f p.saids
  pub fits : Fits f (open_keys column) p.saids
  pub waits : length (waiting column) ≡ length (graces_at x p) - left
  pub before : List Token
  pub heard : clean column ≡ graced (take (length (graces_at x p) - left) (graces_at x p)) before
  pub later : Later p.voice p.target (open_after (open_keys column) p.saids) (spelled p.saids before)

-- a token that may stand in the column in a line at place `least`, which has graces or not
pub record IsHeard (grid least : ℕ) (graces : Bool) (t : Token) (column : List Token) : Type 0 where
  pub stands : stands graces least t (place grid column) ≡ true
  pub grace : is_grace_wrong t (length (waiting column)) ≡ false
  pub tie : is_tie_wrong t (open_keys column) ≡ false
  pub well : IsWellToken t
  pub counts : All (Counts grid) (token_values t)

abbrev pub saids_after : ℕ → List Said → List Said
saids_after x [] = []
saids_after x (s ∷ saids) = if s.place == x then saids else s ∷ saids

abbrev pub part_after : ℕ → Part → Part
part_after x p = record p { saids = saids_after x p.saids }
