-- The place of the voice that is asked for, and the tests of what is asked of a cell.
use Rattle.std.proofs.Common.{◌≡◌, ℕ, zero, suc, ◌+◌, ◌<◌, ◌≤◌, ◌||◌, ◌==◌, Bool, true, false, not, cond, List, [], ◌∷◌, length, get_or, refl, sym, ap, ◌∙◌, subst, arith, Some, None}
use Rattle.std.specs.List.{list_any, position, position_or_len}
use Rattle.std.specs.Prelude.{if◌then◌else◌}
use Rattle.std.proofs.lemmas.Bool.Decides.{nat_tests}
use Rattle.std.proofs.lemmas.List.Quantifiers.{position-Some}
use Rattle.rhythm_base.proofs.Positions.{position-missing, position-within}
use Rattle.rhythm_base.specs.declared.edit_fault.EditFault.TheVariants.{NoVoice, NoBar}
use Rattle.edit_laws.specs.Edits.{cell_tests, first_refusal, lacks_bar}
use Rattle.rhythm_base.specs.Grammar.{Grammar}
use Rattle.rhythm_base.specs.Lists.{Each}
use Rattle.rhythm_base.specs.Performance.{Performance}
use Rattle.edit_session.specs.Kept.{AreTablesOfVoice, IsKeptVoice}
use Rattle.edit_session.specs.VoiceTables.{VoiceTables}
use Rattle.edit_session.proofs.EachRuns.{Each-at, Each-length}

module _ {X : Type 0} (p : X → Bool) where
  none_passes : (xs : List X) → length xs ≤ position_or_len p xs → list_any p xs ≡ false
  none_passes [] none = refl
  none_passes (x ∷ xs) none = at (p x) refl none (none_passes xs)
    where
      at : (b : Bool) → p x ≡ b → length (x ∷ xs) ≤ cond (not b) (1 + position_or_len p xs) 0 → (length xs ≤ position_or_len p xs → list_any p xs ≡ false)
          → (b || list_any p xs) ≡ false
      at true e less rest = absurd (omega arith)
      at false e less rest = rest (omega arith)

  one_passes : (xs : List X) (i : ℕ) (d : X) → i < length xs → p (get_or xs i d) ≡ true → list_any p xs ≡ true
  one_passes [] i d lt is = absurd (omega (arith, lt))
  one_passes (x ∷ xs) zero d lt is = ap (λ b. b || list_any p xs) is
  one_passes (x ∷ xs) (suc i) d lt is = at (p x) (one_passes xs i d (omega (arith, lt)) is)
    where
      at : (b : Bool) → list_any p xs ≡ true → (b || list_any p xs) ≡ true
      at true rest = refl
      at false rest = rest

abbrev PlaceOf : List ℕ → ℕ → ℕ → Type 0
PlaceOf channels channel k = position (λ c. c == channel) channels ≡ Some k

channel_there : (channels : List ℕ) (channel k d : ℕ) → PlaceOf channels channel k → (k < length channels) × (get_or channels k d ≡ channel)
channel_there channels channel k d e =
    let found = position-Some (λ c. c == channel) channels k d e in
    (found.0, let is = found.1 in grind (arith, nat_tests))

module _ (p : Performance) (channel bar : ℕ) where
  pub no_voice : position (λ c. c == channel) p.channels ≡ None → first_refusal (cell_tests p channel bar) ≡ Some (NoVoice channel)
  no_voice e =
      let none = none_passes (λ c. c == channel) p.channels (position-missing (λ c. c == channel) p.channels e) in
      ap (λ b. if not b then Some (NoVoice channel) else first_refusal ((lacks_bar p bar, NoBar bar) ∷ [])) none

  voice_there : (k : ℕ) → PlaceOf p.channels channel k → first_refusal (cell_tests p channel bar) ≡ first_refusal ((lacks_bar p bar, NoBar bar) ∷ [])
  voice_there k e =
      let found = position-Some (λ c. c == channel) p.channels k channel e in
      let some = one_passes (λ c. c == channel) p.channels k channel found.0 found.1 in
      ap (λ b. if not b then Some (NoVoice channel) else first_refusal ((lacks_bar p bar, NoBar bar) ∷ [])) some

  pub no_bar : (k : ℕ) → PlaceOf p.channels channel k → length p.bars ≤ bar → first_refusal (cell_tests p channel bar) ≡ Some (NoBar bar)
  no_bar k e le =
      let is : lacks_bar p bar ≡ true = grind (arith, nat_tests) in
      voice_there k e ∙ ap (λ b. if b then Some (NoBar bar) else None) is

  pub no_refusal : (k : ℕ) → PlaceOf p.channels channel k → bar < length p.bars → first_refusal (cell_tests p channel bar) ≡ None
  no_refusal k e lt =
      let is : lacks_bar p bar ≡ false = grind (arith, nat_tests) in
      voice_there k e ∙ ap (λ b. if b then Some (NoBar bar) else None) is

-- the place that is found of a channel, and the tables there
module _ (g : Grammar) (p : Performance) (room : ℕ) (voices : List VoiceTables) (kept : Each (IsKeptVoice g p room) p.channels voices) (channel k : ℕ)
    (channels : List ℕ) (are : channels ≡ p.channels) (found : Some k ≡ position (λ c. c == channel) channels) where
  pub place_found : PlaceOf p.channels channel k
  place_found = sym (found ∙ ap (position (λ c. c == channel)) are)

  pub place_within : k < length voices
  place_within =
      let lt = position-within (λ c. c == channel) p.channels k place_found in
      omega (arith, lt, Each-length (IsKeptVoice g p room) p.channels voices kept)

  -- the tables at the place of a channel are those of its voice
  pub tables_there : (others : List VoiceTables) (v : VoiceTables) → others ≡ voices → v ≡ get_or others k v → AreTablesOfVoice g p channel v.tables
  tables_there others v same is =
      let at = channel_there p.channels channel k channel place_found in
      let here = Each-at (IsKeptVoice g p room) p.channels voices k channel v at.0 kept in
      let there : v ≡ get_or voices k v = is ∙ ap (λ (vs : List VoiceTables). get_or vs k v) same in
      subst (λ d. AreTablesOfVoice g p d v.tables) at.1 (subst (λ (u : VoiceTables). AreTablesOfVoice g p (get_or p.channels k channel) u.tables) (sym there) here.tables)
