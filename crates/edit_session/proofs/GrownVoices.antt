-- Voices with more memory keep what they kept.
use Rattle.std.proofs.Common.{◌≡◌, ℕ, zero, suc, ◌<◌, ◌≤◌, List, [], ◌∷◌, ◌++◌, length, get_or, take, drop, refl, sym, ap, ◌∙◌, subst, arith}
use Rattle.std.proofs.Math.Seq.{take-append_seam}
use Rattle.std.specs.Prelude.{All, IsSome, max, slice_set}
use Rattle.rhythm_base.specs.BarTables.{BarTable}
use Rattle.rhythm_base.specs.Grammar.{Grammar}
use Rattle.rhythm_base.specs.Lists.{Each}
use Rattle.rhythm_base.specs.Performance.{Performance}
use Rattle.rhythm_base.proofs.OrderedLists.{all_head, all_tail}
use Rattle.edit_session.specs.Kept.{AreTablesOfVoice, IsKeptVoice}
use Rattle.edit_session.specs.VoiceTables.{IsGrown, VoiceTables, path_cost}

-- what is written through a slice of a whole list is the whole list
pub written_back : {X : Type 0} (n : ℕ) (xs ys : List X) → n ≡ length xs → length ys ≡ length xs → take n (ys ++ drop (length ys) xs) ≡ ys
written_back n xs ys all long = ap (λ m. take m (ys ++ drop (length ys) xs)) (all ∙ sym long) ∙ take-append_seam ys (drop (length ys) xs)

pub grown_same : (xs : List VoiceTables) → Each IsGrown xs xs
grown_same [] = refl
grown_same (x ∷ xs) = (record { tables = refl; memory = omega arith }, grown_same xs)

grown_through : (x y z : VoiceTables) → IsGrown x y → IsGrown y z → IsGrown x z
grown_through x y z h k = record { tables = k.tables ∙ h.tables; memory = omega (arith, h.memory, k.memory) }

pub grown_set : (xs ys : List VoiceTables) (n : ℕ) (x d : VoiceTables) → n < length ys → Each IsGrown xs ys → IsGrown (get_or ys n d) x → Each IsGrown xs (slice_set ys n x)
grown_set [] ys n x d lt h k = let none : length ys ≡ 0 = (λ i. length (h i)) in absurd (omega (arith, none, lt))
grown_set (a ∷ xs) [] n x d lt h k = absurd h
grown_set (a ∷ xs) (b ∷ ys) zero x d lt h k = (grown_through a b x h.0 k, h.1)
grown_set (a ∷ xs) (b ∷ ys) (suc n) x d lt h k = (h.0, grown_set xs ys n x d (omega (arith, lt)) h.1 k)

pub grown_kept : (g : Grammar) (p : Performance) (room : ℕ) (channels : List ℕ) (xs ys : List VoiceTables) → Each (IsKeptVoice g p room) channels xs → Each IsGrown xs ys
    → Each (IsKeptVoice g p room) channels ys
grown_kept g p room [] xs ys h k = let P : List VoiceTables → Type 0 = λ l. Each IsGrown l ys in subst P h k
grown_kept g p room (c ∷ channels) [] ys h k = absurd h
grown_kept g p room (c ∷ channels) (x ∷ xs) [] h k = absurd k
grown_kept g p room (c ∷ channels) (x ∷ xs) (y ∷ ys) h k = (
  record {
    tables = subst (AreTablesOfVoice g p c) (sym k.0.tables) h.0.tables;
    path = subst (λ (ts : List BarTable). IsSome (path_cost ts)) (sym k.0.tables) h.0.path;
    memory = omega (arith, h.0.memory, k.0.memory);
  },
  grown_kept g p room channels xs ys h.1 k.1,
)

pub raised_kept : (g : Grammar) (p : Performance) (room bars raised : ℕ) (channels : List ℕ) (ys : List VoiceTables) → raised ≡ max room bars → Each (IsKeptVoice g p room) channels ys
    → All (λ voice. bars ≤ voice.room) ys → Each (IsKeptVoice g p raised) channels ys
raised_kept g p room bars raised [] ys is h k = h
raised_kept g p room bars raised (c ∷ channels) [] is h k = absurd h
raised_kept g p room bars raised (c ∷ channels) (y ∷ ys) is h k = (
  record { tables = h.0.tables; path = h.0.path; memory = omega (arith, is, h.0.memory, all_head (λ (v : VoiceTables). bars ≤ v.room) y ys k) },
  raised_kept g p room bars raised channels ys is h.1 (all_tail (λ (v : VoiceTables). bars ≤ v.room) y ys k),
)
