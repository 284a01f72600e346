-- The search for a word that asks.
use Rattle.std.proofs.Common.{◌≡◌, ◌∙◌, ℕ, suc, ◌<◌, ◌+◌, Bool, ◌⊎◌, inl, inr, ◌||◌, ◌&&◌, not, true, false, refl, ap, arith, List, [], ◌∷◌, ◌≤◌, ◌-◌, get_or, length, take, drop, map, add-one, drop-cons, Bor}
use Rattle.std.specs.List.{before_first, list_all, position_or_len}
use Rattle.std.proofs.lemmas.List.{take_rest}
use Rattle.command_line.specs.Requests.{has_free, has_short_names, is_dashes, is_short_name, takes_next}
use Rattle.command_line.proofs.Rows.{Text}

-- the search over the words from a place on
abbrev pub asked_from : (Text → Bool) → Bool → List (Bor Text) → ℕ → Bool
asked_from test follows words i = has_free test follows (before_first is_dashes (map (λ s. s.now) (drop i words)))

at_word : (test : Text → Bool) (follows : Bool) (word : Text) (words : List Text) → is_dashes word ≡ false
    → has_free test follows (before_first is_dashes (word ∷ words)) ≡ ((test word && not follows) || has_free test (takes_next word) (before_first is_dashes words))
at_word test follows word words e = rw (e, one_more) refl
  where
    one_more : 1 + position_or_len is_dashes words ≡ suc (position_or_len is_dashes words)
    one_more = omega arith

-- the words from a place on, for the word that a loop reads there
here : (words : List (Bor Text)) (i : ℕ) (d : Bor Text) → i < length words
    → map (λ s. s.now) (drop i words) ≡ (get_or words i d).now ∷ map (λ s. s.now) (drop (i + 1) words)
here words i d lt = rw (add-one, drop-cons words i d lt) refl

-- at `--` the search ends
pub dashes_end : (test : Text → Bool) (follows : Bool) (words : List (Bor Text)) (i : ℕ) (d : Bor Text) → i < length words
    → is_dashes (get_or words i d).now ≡ true → asked_from test follows words i ≡ false
dashes_end test follows words i d lt e = rw (here words i d lt, e) refl

asked_more : (test : Text → Bool) (follows : Bool) (words : List (Bor Text)) (i : ℕ) (d : Bor Text) → i < length words
    → is_dashes (get_or words i d).now ≡ false
    → asked_from test follows words i ≡ ((test (get_or words i d).now && not follows) || asked_from test (takes_next (get_or words i d).now) words (i + 1))
asked_more test follows words i d lt e =
    rw (here words i d lt) (at_word test follows (get_or words i d).now (map (λ s. s.now) (drop (i + 1) words)) e)

-- a free word that passes is found
pub found_here : (test : Text → Bool) (follows : Bool) (words : List (Bor Text)) (i : ℕ) (d : Bor Text) → i < length words
    → is_dashes (get_or words i d).now ≡ false → test (get_or words i d).now ≡ true → follows ≡ false → asked_from test follows words i ≡ true
found_here test follows words i d lt other passes free = asked_more test follows words i d lt other ∙ rw (passes, free) refl

-- and else the search goes on with the next word
pub goes_on : (test : Text → Bool) (follows : Bool) (words : List (Bor Text)) (i : ℕ) (d : Bor Text) → i < length words
    → is_dashes (get_or words i d).now ≡ false
    → ((test (get_or words i d).now ≡ true) × (follows ≡ true)) ⊎ (test (get_or words i d).now ≡ false)
    → asked_from test follows words i ≡ asked_from test (takes_next (get_or words i d).now) words (i + 1)
goes_on test follows words i d lt other (inl both) = asked_more test follows words i d lt other ∙ rw (both.0, both.1) refl
goes_on test follows words i d lt other (inr fails) = asked_more test follows words i d lt other ∙ rw fails refl

-- ---- short names

pub names_after : (word : Text) → 1 ≤ length word → get_or word 0 0 ≡ 45 → list_all is_short_name (take (length word - 1) (drop 1 word)) ≡ has_short_names word
names_after [] some first = absurd (omega (arith, some))
names_after (byte ∷ letters) some first = ap (list_all is_short_name) (take_rest (byte ∷ letters) 1) ∙ rw first refl
