-- Joined dots within one bar: leaves that are written together as one value with dots, and where each value begins.
use Rattle.std.specs.Prelude.{◌≡◌, ℕ, zero, suc, ◌+◌, ◌*◌, ◌%◌, ◌≤◌, Bool, true, false, ◌==◌, ◌&&◌, if◌then◌else◌, List, [], ◌∷◌, ◌++◌, slice_get, Option, Some, None, ⊤}
use Rattle.rhythm_base.specs.declared.sound.SoundKind.{SoundKind}
use Rattle.rhythm_base.specs.declared.sound.SoundKind.TheVariants.{Begin, Short, Tie, Rest}
use Rattle.rhythm_base.specs.SoundKinds.{is_tie}
use Rattle.durations.specs.declared.value.Recip.TheVariants.{Of}
use Rattle.durations.specs.declared.value.Value.{Value}
use Rattle.durations.specs.declared.joined.Timed.{Timed}
use Rattle.durations.specs.declared.joined.Written.{Written}
use Rattle.durations.specs.Value.{width}
use Rattle.durations.specs.Values.{AreValues}

-- a leaf has some length, at most 64 whole notes
pub record IsTimedLeaf (whole : ℕ) (leaf : Timed) : Type 0 where
  pub some : 1 ≤ leaf.len
  pub few : leaf.len ≤ 64 * whole

abbrev pub begins_or_ties : SoundKind → Bool
begins_or_ties Begin = true
begins_or_ties Short = false
begins_or_ties Tie = true
begins_or_ties Rest = false

-- a leaf may be joined where it begins a chord or is a tie, and is 1/n of a whole note for a whole n
abbrev pub may_join : ℕ → Timed → Bool
may_join whole leaf = begins_or_ties leaf.kind && (whole % leaf.len == 0)

-- there is such a leaf, and it is a tie of the k-th part of a length
abbrev pub is_tie_of : ℕ → ℕ → Option Timed → Bool
is_tie_of len k None = false
is_tie_of len k (Some leaf) = is_tie leaf.kind && (k * leaf.len == len)

-- the next leaf makes a dot where it is a tie of half the length, and then the following one where it is a tie of a quarter
abbrev pub dots_after : ℕ → List Timed → ℕ
dots_after len more = if is_tie_of len 2 (slice_get more 0) then (if is_tie_of len 4 (slice_get more 1) then 2 else 1) else 0

-- the dots that a leaf takes from those after it: as many of these are joined to it
abbrev pub dots : ℕ → Timed → List Timed → ℕ
dots whole leaf more = if may_join whole leaf then dots_after leaf.len more else 0

-- the values of a leaf with those that are joined to it: without dots those of its length, else one value with so many dots
abbrev pub AreValuesOf : ℕ → Timed → ℕ → List Value → Type 0
AreValuesOf whole leaf zero vs = AreValues leaf.len whole vs
AreValuesOf whole leaf (suc j) vs = (n : ℕ) × (n * leaf.len ≡ whole) × (vs ≡ record { recip = Of n; dots = suc j } ∷ [])

-- values of the leaf number i, of which the first begins at this place and each other where the one before it ends
abbrev pub value_places : ℕ → ℕ → ℕ → List Value → List Written
value_places whole i place [] = []
value_places whole i place (v ∷ vs) = record { leaf = i; from = place; value = v } ∷ value_places whole i (place + width whole v) vs

-- The values of the leaves from number i on, the first of which begins at this place, from left to right. So many of the
-- first leaves are joined to an earlier one: they are not looked at again. Places count in parts of 1/whole of a whole note
abbrev pub AreWrittenFrom : ℕ → ℕ → ℕ → ℕ → List Timed → List Written → Type 0
AreWrittenFrom whole joined i place [] ws = ws ≡ []
AreWrittenFrom whole zero i place (leaf ∷ more) ws =
    (vs : List Value) × (rest : List Written) × AreValuesOf whole leaf (dots whole leaf more) vs × (ws ≡ value_places whole i place vs ++ rest)
    × AreWrittenFrom whole (dots whole leaf more) (i + 1) (place + leaf.len) more rest
AreWrittenFrom whole (suc joined) i place (leaf ∷ more) ws = AreWrittenFrom whole joined (i + 1) (place + leaf.len) more ws

-- the values of the leaves of one bar
abbrev pub AreWritten : ℕ → List Timed → List Written → Type 0
AreWritten whole leaves ws = AreWrittenFrom whole 0 0 0 leaves ws

-- the first value begins at this place, and each other where the one before it ends
abbrev pub ArePlaced : ℕ → ℕ → List Written → Type 0
ArePlaced whole place [] = ⊤
ArePlaced whole place (w ∷ ws) = (w.from ≡ place) × ArePlaced whole (place + width whole w.value) ws
