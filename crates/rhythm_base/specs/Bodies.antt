-- The body of a rule in two views: how it cuts its interval, and how it ends it. One of the two is none. And how what ends an
-- interval sounds.
use Rattle.std.proofs.Common.{◌≡◌, inl, inr, refl}
use Rattle.std.specs.Prelude.{◌⊎◌, ◌≤◌, ⊤, ℕ, ◌+◌, ◌*◌, ◌/◌, ◌%◌, Bool, true, ◌&&◌, ◌==◌, nat_lt, List, [], ◌∷◌, length, map, max, Option, Some, None}
use Rattle.std.specs.List.{list_all}
use Rattle.rhythm_base.specs.declared.rule.Body.{Body}
use Rattle.rhythm_base.specs.declared.rule.Body.TheVariants.{Split, Parts, Note, Short, Tie, Rest, Grace}
use Rattle.rhythm_base.specs.declared.rule.Ending.{Ending}
use Rattle.rhythm_base.specs.declared.rule.Ending.TheVariants as endings
use Rattle.rhythm_base.specs.declared.sound.SoundKind.{SoundKind}
use Rattle.rhythm_base.specs.declared.sound.SoundKind.TheVariants as kinds

-- equal parts of these symbols, or parts of these sizes and symbols, first to last
pub data Cut : Type 0 where
  equal : List ℕ → Cut
  unequal : List (ℕ × ℕ) → Cut

abbrev pub cut_of : Body → Option Cut
cut_of (Split symbols) = Some (equal symbols)
cut_of (Parts parts) = Some (unequal parts)
cut_of Note = None
cut_of Short = None
cut_of Tie = None
cut_of Rest = None
cut_of (Grace m) = None

abbrev pub ending_of : Body → Option Ending
ending_of (Split symbols) = None
ending_of (Parts parts) = None
ending_of Note = Some endings.Note
ending_of Short = Some endings.Short
ending_of Tie = Some endings.Tie
ending_of Rest = Some endings.Rest
ending_of (Grace m) = Some (endings.Grace m)

-- a grace leaf has 1 to 3 grace chords
abbrev pub IsLeafEnding : Ending → Type 0
IsLeafEnding endings.Note = ⊤
IsLeafEnding endings.Short = ⊤
IsLeafEnding endings.Tie = ⊤
IsLeafEnding endings.Rest = ⊤
IsLeafEnding (endings.Grace m) = (1 ≤ m) × (m ≤ 3)

-- how a leaf sounds: with grace chords it is a beginning too
abbrev pub sound_kind : Ending → SoundKind
sound_kind endings.Note = kinds.Begin
sound_kind endings.Short = kinds.Short
sound_kind endings.Tie = kinds.Tie
sound_kind endings.Rest = kinds.Rest
sound_kind (endings.Grace m) = kinds.Begin

-- ---- how it cuts

-- the sum of the sizes of unequal parts
abbrev pub sizes : List (ℕ × ℕ) → ℕ
sizes [] = 0
sizes (q ∷ qs) = q.0 + sizes qs

-- the widths and symbols of the parts of a node of width w, first to last: none of a leaf
abbrev pub parts_of_cut : Option Cut → ℕ → List (ℕ × ℕ)
parts_of_cut None w = []
parts_of_cut (Some (equal symbols)) w = map (λ s. (w / max 1 (length symbols), s)) symbols
parts_of_cut (Some (unequal parts)) w = map (λ q. (q.0 * (w / max 1 (sizes parts)), q.1)) parts

-- a cut has two parts or more, of sizes above 0, and their number, or the sum of their sizes, divides the width
abbrev pub divides : Option Cut → ℕ → Bool
divides None w = true
divides (Some (equal symbols)) w = nat_lt 1 (length symbols) && (w % max 1 (length symbols) == 0)
divides (Some (unequal parts)) w = nat_lt 1 (length parts) && (list_all (λ q. nat_lt 0 q.0) parts && (w % max 1 (sizes parts) == 0))

abbrev pub children : Body → ℕ → List (ℕ × ℕ)
children body w = parts_of_cut (cut_of body) w

abbrev pub can_cut : Body → ℕ → Bool
can_cut body w = divides (cut_of body) w

-- a body cuts its interval or ends it
pub cuts_or_ends : (b : Body) → ((c : Cut) × (cut_of b ≡ Some c) × (ending_of b ≡ None)) ⊎ ((e : Ending) × (cut_of b ≡ None) × (ending_of b ≡ Some e))
cuts_or_ends (Split symbols) = inl (_, refl, refl)
cuts_or_ends (Parts parts) = inl (_, refl, refl)
cuts_or_ends Note = inr (_, refl, refl)
cuts_or_ends Short = inr (_, refl, refl)
cuts_or_ends Tie = inr (_, refl, refl)
cuts_or_ends Rest = inr (_, refl, refl)
cuts_or_ends (Grace m) = inr (_, refl, refl)
