-- What `clap`'s rows say of the option and of the words, after one more use of either.
use Rattle.std.proofs.Common.{◌≡◌, ℕ, Bool, ◌||◌, true, false, refl, ap, List, [], ◌∷◌, ◌++◌, Some, None, codes}
use Rattle.std.specs.Prelude.{find, unwrap_or}
use Rattle.std.specs.List.{list_all}
use Rattle.std.proofs.lemmas.Bool.{and_parts}
use Rattle.std.specs.Cmp.Derive.{both_true}
use Rattle.std.specs.Str.{bytes_eq}
use Rattle.std.proofs.lemmas.Slice.Eq.{bytes_eq-Decides}
use Rattle.clap.specs.Walk.{Row, all_of, at_row, first_of, has_row, with_values, without}
use Rattle.clap.specs.declared.builder.value_parser.Reading.{Reading}
use Rattle.clap.specs.declared.parser.matches.ValueSource.TheVariants.{CommandLine}
use Rattle.rhythm_base.proofs.Booleans.{or_false}

abbrev pub Text : Type 0
Text = List ℕ

-- the rows after one more word, and after the word of the option
abbrev pub with_word : Reading → Text → List Row → List Row
with_word how word rows = with_values (codes "words") how CommandLine (word ∷ []) rows

abbrev pub with_option : Reading → Text → List Row → List Row
with_option how word rows = with_values (codes "workers") how CommandLine (word ∷ []) (without (codes "workers") rows)

-- the words so far
abbrev pub words_so_far : List Row → List Text
words_so_far rows = unwrap_or (all_of (codes "words") rows) []

-- a row of the words is none of the option
not_both : (id : Text) → bytes_eq id (codes "words") ≡ true → bytes_eq id (codes "workers") ≡ false
not_both id e = let same : id ≡ codes "words" = (bytes_eq-Decides id (codes "words")).0 e in rw same refl

pub words-with_word : (how : Reading) (word : Text) (rows : List Row) → words_so_far (with_word how word rows) ≡ words_so_far rows ++ word ∷ []
words-with_word how word [] = refl
words-with_word how word (r ∷ rows) = go (bytes_eq r.id (codes "words")) refl (words-with_word how word rows)
  where
    go : (b : Bool) → bytes_eq r.id (codes "words") ≡ b → words_so_far (with_word how word rows) ≡ words_so_far rows ++ word ∷ []
        → words_so_far (with_word how word (r ∷ rows)) ≡ words_so_far (r ∷ rows) ++ word ∷ []
    go true e h = rw (e, e) refl
    go false e h = rw (e, e) h

pub option-with_word : (how : Reading) (word : Text) (rows : List Row) → first_of (codes "workers") (with_word how word rows) ≡ first_of (codes "workers") rows
option-with_word how word [] = refl
option-with_word how word (r ∷ rows) = go (bytes_eq r.id (codes "words")) refl (option-with_word how word rows)
  where
    other : (b : Bool) → bytes_eq r.id (codes "workers") ≡ b → bytes_eq r.id (codes "words") ≡ false
        → first_of (codes "workers") (with_word how word rows) ≡ first_of (codes "workers") rows
        → first_of (codes "workers") (with_word how word (r ∷ rows)) ≡ first_of (codes "workers") (r ∷ rows)
    other true here e h = rw (e, here) refl
    other false here e h = rw (e, here) h

    go : (b : Bool) → bytes_eq r.id (codes "words") ≡ b → first_of (codes "workers") (with_word how word rows) ≡ first_of (codes "workers") rows
        → first_of (codes "workers") (with_word how word (r ∷ rows)) ≡ first_of (codes "workers") (r ∷ rows)
    go true e h = let no = not_both r.id e in rw (e, no) refl
    go false e h = other (bytes_eq r.id (codes "workers")) refl e h

pub no_option-with_word : (how : Reading) (word : Text) (rows : List Row) → has_row (codes "workers") rows ≡ false → has_row (codes "workers") (with_word how word rows) ≡ false
no_option-with_word how word [] none = refl
no_option-with_word how word (r ∷ rows) none =
    go (bytes_eq r.id (codes "words")) refl (or_false (bytes_eq r.id (codes "workers")) (has_row (codes "workers") rows) none) (no_option-with_word how word rows)
  where
    go : (b : Bool) → bytes_eq r.id (codes "words") ≡ b → (bytes_eq r.id (codes "workers") ≡ false) × (has_row (codes "workers") rows ≡ false)
        → (has_row (codes "workers") rows ≡ false → has_row (codes "workers") (with_word how word rows) ≡ false)
        → has_row (codes "workers") (with_word how word (r ∷ rows)) ≡ false
    go true e h later = rw (e, h.0) h.1
    go false e h later = rw (e, h.0) (later h.1)

pub option-with_option : (how : Reading) (word : Text) (rows : List Row) → has_row (codes "workers") rows ≡ false
    → (first_of (codes "workers") (with_option how word rows) ≡ Some word) × (words_so_far (with_option how word rows) ≡ words_so_far rows)
option-with_option how word [] none = (refl, refl)
option-with_option how word (r ∷ rows) none =
    let h = or_false (bytes_eq r.id (codes "workers")) (has_row (codes "workers") rows) none in
    go (bytes_eq r.id (codes "words")) refl h.0 (option-with_option how word rows h.1)
  where
    Says : List Row → Type 0
    Says rs = (first_of (codes "workers") (with_option how word rs) ≡ Some word) × (words_so_far (with_option how word rs) ≡ words_so_far rs)

    first : bytes_eq r.id (codes "workers") ≡ false → Says rows → first_of (codes "workers") (with_option how word (r ∷ rows)) ≡ Some word
    first other later = rw (other, other, other) later.0

    go : (b : Bool) → bytes_eq r.id (codes "words") ≡ b → bytes_eq r.id (codes "workers") ≡ false → Says rows → Says (r ∷ rows)
    go true e other later = (first other later, rw (other, other, e) refl)
    go false e other later = (first other later, rw (other, other, e) later.1)

-- ---- rows of nothing else

-- a row of the option, or of the words
abbrev pub is_plain_row : Row → Bool
is_plain_row r = bytes_eq r.id (codes "workers") || bytes_eq r.id (codes "words")

abbrev pub ArePlainRows : List Row → Type 0
ArePlainRows rows = list_all is_plain_row rows ≡ true

pub plain-with_word : (how : Reading) (word : Text) (rows : List Row) → ArePlainRows rows → ArePlainRows (with_word how word rows)
plain-with_word how word [] plain = refl
plain-with_word how word (r ∷ rows) plain =
    let both = and_parts (is_plain_row r) (list_all is_plain_row rows) plain in go (bytes_eq r.id (codes "words")) refl both.0 both.1 (plain-with_word how word rows both.1)
  where
    go : (b : Bool) → bytes_eq r.id (codes "words") ≡ b → is_plain_row r ≡ true → ArePlainRows rows → ArePlainRows (with_word how word rows)
        → ArePlainRows (with_word how word (r ∷ rows))
    go true e first others more = rw e (both_true first others)
    go false e first others more = rw e (both_true first more)

plain-without : (rows : List Row) → ArePlainRows rows → ArePlainRows (without (codes "workers") rows)
plain-without [] plain = refl
plain-without (r ∷ rows) plain =
    let both = and_parts (is_plain_row r) (list_all is_plain_row rows) plain in go (bytes_eq r.id (codes "workers")) refl both.0 both.1 (plain-without rows both.1)
  where
    go : (b : Bool) → bytes_eq r.id (codes "workers") ≡ b → is_plain_row r ≡ true → ArePlainRows rows → ArePlainRows (without (codes "workers") rows)
        → ArePlainRows (without (codes "workers") (r ∷ rows))
    go true e first others more = rw e others
    go false e first others more = rw e (both_true first more)

plain-with_value : (how : Reading) (word : Text) (rows : List Row) → ArePlainRows rows
    → ArePlainRows (with_values (codes "workers") how CommandLine (word ∷ []) rows)
plain-with_value how word [] plain = refl
plain-with_value how word (r ∷ rows) plain =
    let both = and_parts (is_plain_row r) (list_all is_plain_row rows) plain in
    go (bytes_eq r.id (codes "workers")) refl both.0 both.1 (plain-with_value how word rows both.1)
  where
    go : (b : Bool) → bytes_eq r.id (codes "workers") ≡ b → is_plain_row r ≡ true → ArePlainRows rows
        → ArePlainRows (with_values (codes "workers") how CommandLine (word ∷ []) rows)
        → ArePlainRows (with_values (codes "workers") how CommandLine (word ∷ []) (r ∷ rows))
    go true e first others more = rw e (both_true first others)
    go false e first others more = rw e (both_true first more)

pub plain-with_option : (how : Reading) (word : Text) (rows : List Row) → ArePlainRows rows → ArePlainRows (with_option how word rows)
plain-with_option how word rows plain = plain-with_value how word (without (codes "workers") rows) (plain-without rows plain)

-- another id than those of plain rows
pub record IsOther (id : Text) : Type 0 where
  pub no_option : bytes_eq (codes "workers") id ≡ false
  pub no_words : bytes_eq (codes "words") id ≡ false

-- plain rows have none of it
pub none_plain : (id : Text) (rows : List Row) → IsOther id → ArePlainRows rows → (find (λ r. bytes_eq r.id id) rows ≡ None) × (has_row id rows ≡ false)
none_plain id [] other plain = (refl, refl)
none_plain id (r ∷ rows) other plain =
    let both = and_parts (is_plain_row r) (list_all is_plain_row rows) plain in
    let more = none_plain id rows other both.1 in
    let miss = missed (bytes_eq r.id (codes "workers")) refl both.0 in (rw miss more.0, rw miss more.1)
  where
    missed : (b : Bool) → bytes_eq r.id (codes "workers") ≡ b → (b || bytes_eq r.id (codes "words")) ≡ true → bytes_eq r.id id ≡ false
    missed true e first = let same : r.id ≡ codes "workers" = (bytes_eq-Decides r.id (codes "workers")).0 e in rw same other.no_option
    missed false e first = let same : r.id ≡ codes "words" = (bytes_eq-Decides r.id (codes "words")).0 first in rw same other.no_words

-- ---- one row more

-- a row that is none of these is added at the end
pub at_row-missing : (id : Text) (change : Row → List Row) (missing rows : List Row) → has_row id rows ≡ false → at_row id change missing rows ≡ rows ++ missing
at_row-missing id change missing [] none = refl
at_row-missing id change missing (r ∷ rows) none =
    let h = or_false (bytes_eq r.id id) (has_row id rows) none in rw h.0 (ap (λ (rs : List Row). r ∷ rs) (at_row-missing id change missing rows h.1))
