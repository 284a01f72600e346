-- The notes of a chord, one after another.
use Rattle.std.proofs.Common.{◌≡◌, ℕ, ◌^◌, true, false, List, ◌∷◌, Option, Some, None, refl}
use Rattle.std.specs.List.{slice_split}
use Rattle.std.specs.Option.{option_map}
use Rattle.std.specs.Prelude.{◌==◌, bit_or, if◌then◌else◌}
use Rattle.kern_reader.specs.declared.token.Note.{Note}
use Rattle.kern_reader.specs.declared.token.Style.{Style}
use Rattle.kern_reader.specs.declared.token.Token.{Token}
use Rattle.text_words.specs.Steps.{◌>>=◌}
use Rattle.kern_reader.specs.Tokens.{all_notes, token_chord, chord_of_notes, chord_token, follows, keys_with, note_of, rising_notes}

-- what a chord comes to from here on, where the last note is given and the keys so far
abbrev pub chord_on : Style → Note → ℕ → List (List ℕ) → Option Token
chord_on style last keys texts = all_notes texts >>= λ notes. if rising_notes last notes then Some (chord_token style (keys_with keys notes)) else None

pub chord_none : (text first : List ℕ) (rest : List (List ℕ)) → slice_split (λ b. b == 32) text ≡ first ∷ rest → note_of first ≡ None → None ≡ token_chord text
unfolding token_chord
chord_none text first rest pieces none = rw (pieces, none) refl

pub chord_begins : (text first : List ℕ) (rest : List (List ℕ)) (n : Note) → slice_split (λ b. b == 32) text ≡ first ∷ rest → note_of first ≡ Some n
    → chord_on n.style n (2 ^ n.key) rest ≡ token_chord text
unfolding token_chord
chord_begins text first rest n pieces some = rw (pieces, some) (at (all_notes rest))
  where
    at : (o : Option (List Note)) → (o >>= λ notes. if rising_notes n notes then Some (chord_token n.style (keys_with (2 ^ n.key) notes)) else None)
        ≡ (option_map (λ notes. n ∷ notes) o >>= chord_of_notes)
    at None = refl
    at (Some notes) = refl

pub chord_stops : (style : Style) (last : Note) (keys : ℕ) (first : List ℕ) (rest : List (List ℕ)) → note_of first ≡ None → None ≡ chord_on style last keys (first ∷ rest)
chord_stops style last keys first rest none = rw none refl

pub chord_breaks : (style : Style) (last : Note) (keys : ℕ) (first : List ℕ) (rest : List (List ℕ)) (n : Note) → note_of first ≡ Some n → follows last n ≡ false
    → None ≡ chord_on style last keys (first ∷ rest)
chord_breaks style last keys first rest n some breaks = rw some (at (all_notes rest))
  where
    at : (o : Option (List Note)) → None ≡ (option_map (λ notes. n ∷ notes) o >>= λ notes. if rising_notes last notes then Some (chord_token style (keys_with keys notes)) else None)
    at None = refl
    at (Some notes) = rw breaks refl

pub chord_goes : (style : Style) (last : Note) (keys : ℕ) (first : List ℕ) (rest : List (List ℕ)) (n : Note) → note_of first ≡ Some n → follows last n ≡ true
    → chord_on style n (bit_or keys (2 ^ n.key)) rest ≡ chord_on style last keys (first ∷ rest)
chord_goes style last keys first rest n some goes = rw some (at (all_notes rest))
  where
    at : (o : Option (List Note)) → (o >>= λ notes. if rising_notes n notes then Some (chord_token style (keys_with (bit_or keys (2 ^ n.key)) notes)) else None)
        ≡ (option_map (λ notes. n ∷ notes) o >>= λ notes. if rising_notes last notes then Some (chord_token style (keys_with keys notes)) else None)
    at None = refl
    at (Some notes) = rw goes refl
