-- What plain words say.
use Rattle.std.proofs.Common.{◌≡◌, ◌∙◌, ◌≤◌, ◌+◌, ◌==◌, ℕ, zero, suc, take, Bool, ◌||◌, ◌&&◌, true, false, refl, sym, ap, subst, arith, List, [], ◌∷◌, ◌++◌, Option, Some, None, codes}
use Rattle.std.specs.List.{count_by, fold, list_all, position_or_len}
use Rattle.std.specs.Prelude.{if◌then◌else◌, option_and_then, option_map, slice_get, unwrap_or}
use Rattle.std.specs.Option.{option_or}
use Rattle.rhythm_base.proofs.Booleans.{or_false}
use Rattle.performance_prepare.specs.declared.options.Options.{Options}
use Rattle.std.specs.Str.{bytes_eq}
use Rattle.std.proofs.lemmas.Bool.{and_parts, not-true}
use Rattle.std.specs.Cmp.Derive.{both_true}
use Rattle.std.proofs.lemmas.List.Sums.{sum_by-cons}
use Rattle.std.proofs.lemmas.Slice.Eq.{bytes_eq-Decides}
use Rattle.clap.specs.Walk.{Row, first_of, settled_rows, with_default}
use Rattle.clap.specs.Faults.{fault_of, settle_fault}
use Rattle.clap.specs.Simple.{matches_of}
use Rattle.command_line.specs.CommandLines.{command_line_of, invocation_of, line_matches, line_said, words_given}
use Rattle.command_line.specs.FlatCommand.{line_app}
use Rattle.command_line.specs.PlainWords.{ArePlainWords, begins_with_hyphen, is_workers, other_words, word_of_workers}
use Rattle.command_line.specs.Numbers.{workers_of}
use Rattle.command_line.specs.Preparing.{◌>>=◌, options_of, word_in}
use Rattle.command_line.specs.Requests.{asks, has_free, is_dashes, is_help, is_version, takes_next}
use Rattle.command_line.specs.declared.invocation.Invocation.TheVariants.{Command}
use Rattle.performance_prepare.specs.Laws.{no_options}
use Rattle.command_line.specs.declared.invocation.CommandLine.{CommandLine}
use Rattle.command_line.proofs.Defaults.{all_defaulted, default_of, or_none, row_of}
use Rattle.command_line.proofs.Rows.{ArePlainRows, Text, none_plain, words_so_far}
use Rattle.command_line.proofs.Taking.{faultless, no_defaults}
use Rattle.command_line.proofs.Walks.{WalkEnds, IsFree, Pending, a_word, an_option, is_after_option, is_hyphenless, is_plain, nothing, pending_of, walk_at, rows_with, built_shape, walk_ends}

-- ---- after the walk

-- rows with all defaults
abbrev AreSettled : List Row → List Row → Type 0
AreSettled rows settled = (id : Text) → row_of id settled ≡ option_or (row_of id rows) (default_of id built_shape.rules)

-- what is pending is no fault
settles : (p : Pending) (rows : List Row) → IsFree p rows → settle_fault built_shape.rules false (walk_at p rows).held ≡ []
settles nothing rows free = refl
settles (a_word word) rows free = refl
settles (an_option word) rows free = rw free refl

settled_is : (p : Pending) (rows : List Row) → settled_rows built_shape.rules (pending_of p) rows ≡ rows_with p rows
settled_is nothing rows = refl
settled_is (a_word word) rows = refl
settled_is (an_option word) rows = refl

no_fault : (words said : List Text) (option_word : Option Text) → WalkEnds nothing [] words said option_word → fault_of line_app words ≡ []
no_fault words said option_word e = rw (e.walks, e.passes, settles e.last e.found e.free, settled_is e.last e.found, no_defaults (rows_with e.last e.found)) refl

rows_are : (words said : List Text) (option_word : Option Text) (e : WalkEnds nothing [] words said option_word)
    → matches_of line_app words ≡ fold with_default (rows_with e.last e.found) built_shape.rules
rows_are words said option_word e = rw (e.walks, settled_is e.last e.found) refl

are_settled : (words said : List Text) (option_word : Option Text) (e : WalkEnds nothing [] words said option_word)
    → AreSettled (rows_with e.last e.found) (matches_of line_app words)
are_settled words said option_word e id =
    ap (row_of id) (rows_are words said option_word e) ∙ all_defaulted id built_shape.rules (rows_with e.last e.found)

-- ---- what the rows say

-- the word of an id by its row
abbrev word_by : Option Row → Option Text
word_by row = option_and_then (λ (r : Row). slice_get r.values 0) row

abbrev is_plain_id : Text → Bool
is_plain_id id = bytes_eq (codes "workers") id || bytes_eq (codes "words") id

-- of all other options the defaults tell
others_say : (rows settled : List Row) → ArePlainRows rows → AreSettled rows settled → (id : Text)
    → word_in settled id ≡ (if is_plain_id id then word_in settled id else word_by (default_of id built_shape.rules))
others_say rows settled plain is id = go (is_plain_id id) refl
  where
    go : (b : Bool) → is_plain_id id ≡ b
        → word_in settled id ≡ (if b then word_in settled id else word_by (default_of id built_shape.rules))
    go true e = refl
    go false e =
        let other = or_false (bytes_eq (codes "workers") id) (bytes_eq (codes "words") id) e in
        let none = (none_plain id rows (record { no_option = other.0; no_words = other.1 }) plain).0 in
        ap word_by (is id ∙ ap (λ (o : Option Row). option_or o (default_of id built_shape.rules)) none)

-- nothing is told of a take
nothing_told : (rows settled : List Row) → ArePlainRows rows → AreSettled rows settled
    → options_of (word_in settled) ≡ Some no_options
nothing_told rows settled plain is = ap options_of (λ i id. others_say rows settled plain is id i) ∙ refl

line_is : (rows settled : List Row) (said : List Text) (option_word : Option Text)
    → ArePlainRows rows → AreSettled rows settled → words_so_far rows ≡ said → first_of (codes "workers") rows ≡ option_word
    → line_said settled
    ≡ option_map (λ (n : ℕ). record { workers = n; options = no_options; script = []; words = said }) (workers_of option_word)
line_is rows settled said option_word plain is words_are option_is =
    let words : words_given settled ≡ said =
    ap (λ (r : Option Row). unwrap_or (option_map (λ (r : Row). r.values) r) [])
    (is (codes "words") ∙ sym (or_none (row_of (codes "words") rows)))
    ∙ words_are in
    let workers : word_in settled (codes "workers") ≡ option_word =
    ap word_by (is (codes "workers") ∙ sym (or_none (row_of (codes "workers") rows))) ∙ option_is in
    let script : word_in settled (codes "script") ≡ None = others_say rows settled plain is (codes "script") in
    rw (workers, nothing_told rows settled plain is, script, words) (by (workers_of option_word))
  where
    of_words : ℕ → Options → CommandLine
    of_words n told = record { workers = n; options = told; script = []; words = said }

    by : (o : Option ℕ)
        → (o >>= (λ (n : ℕ). Some no_options >>= (λ (told : Options). Some (of_words n told))))
        ≡ option_map (λ (n : ℕ). of_words n no_options) o
    by None = refl
    by (Some n) = refl

pub plain_line : (words : List Text) → is_plain words ≡ true
    → command_line_of words ≡ option_map (λ (n : ℕ). record { workers = n; options = no_options; script = []; words = other_words words }) (workers_of (word_of_workers words))
unfolding line_matches
plain_line words plain =
    let e = walk_ends words plain nothing [] [] tt refl refl refl refl in
    let taken = (faultless words).1 (no_fault words _ _ e) in
    rw taken
    (line_is (rows_with e.last e.found) (matches_of line_app words) (other_words words) (word_of_workers words) e.plain
    (are_settled words _ _ e) e.words_are e.option_is)

-- ---- plain words by a test

-- how often the option stands, from the first word on
counted : (word : Text) (words : List Text) → count_by is_workers (word ∷ words) ≡ (if is_workers word then 1 else 0) + count_by is_workers words
counted word words = sum_by-cons (λ w. if is_workers w then 1 else 0) word words

-- where none of the words is the option, none begins with `-`
all_hyphenless : (words : List Text) → count_by is_workers words ≤ 0 → list_all (λ word. is_workers word || is_hyphenless word) words ≡ true
    → list_all is_hyphenless words ≡ true
all_hyphenless [] few others = refl
all_hyphenless (word ∷ words) few others =
    let both = and_parts (is_workers word || is_hyphenless word) (list_all (λ w. is_workers w || is_hyphenless w) words) others in
    go (is_workers word) (omega (arith, few, counted word words)) both.0 (λ less. all_hyphenless words less both.1)
  where
    go : (b : Bool) → (if b then 1 else 0) + count_by is_workers words ≤ 0 → (b || is_hyphenless word) ≡ true
        → (count_by is_workers words ≤ 0 → list_all is_hyphenless words ≡ true) → (is_hyphenless word && list_all is_hyphenless words) ≡ true
    go true few first later = absurd (omega (arith, few))
    go false few first later = both_true first (later (omega (arith, few)))

plain_test : (words : List Text) → ArePlainWords words → is_plain words ≡ true
plain_test [] plain = refl
plain_test (word ∷ words) plain =
    let both = and_parts (is_workers word || is_hyphenless word) (list_all (λ w. is_workers w || is_hyphenless w) words) plain.others in
    go (is_workers word) refl words (omega (arith, plain.once, counted word words)) plain.followed both.0 both.1
    (λ few followed. plain_test words (record { once = few; followed = followed; others = both.1 }))
  where
    go : (b : Bool) → is_workers word ≡ b → (ws : List Text) → (if b then 1 else 0) + count_by is_workers ws ≤ 1
        → ((before : List Text) → word ∷ ws ≡ before ++ codes "--workers" ∷ [] → ⊥)
        → (b || is_hyphenless word) ≡ true → list_all (λ w. is_workers w || is_hyphenless w) ws ≡ true
        → (count_by is_workers ws ≤ 1 → ((before : List Text) → ws ≡ before ++ codes "--workers" ∷ [] → ⊥) → is_plain ws ≡ true)
        → (if b then is_after_option ws else (is_hyphenless word && is_plain ws)) ≡ true
    go true e [] once followed first others later = absurd (followed [] (ap (λ (w : Text). w ∷ []) ((bytes_eq-Decides word (codes "--workers")).0 e)))
    go true e (n ∷ ws) once followed first others later = all_hyphenless (n ∷ ws) (omega (arith, once)) others
    go false e ws once followed first others later =
        both_true first (later (omega (arith, once)) (λ before same. followed (word ∷ before) (ap (λ (rest : List Text). word ∷ rest) same)))

-- ---- plain words ask for nothing

-- the test passes for words alone that begin with `-` and are not the option
abbrev IsOfFlags : (Text → Bool) → Type 0
IsOfFlags test = (word : Text) → (is_workers word || is_hyphenless word) ≡ true → test word ≡ false

none_free : (test : Text → Bool) → IsOfFlags test → (n : ℕ) (follows : Bool) (words : List Text)
    → list_all (λ word. is_workers word || is_hyphenless word) words ≡ true → has_free test follows (take n words) ≡ false
none_free test flags zero follows words plain = refl
none_free test flags (suc n) follows [] plain = refl
none_free test flags (suc n) follows (word ∷ words) plain =
    let both = and_parts (is_workers word || is_hyphenless word) (list_all (λ w. is_workers w || is_hyphenless w) words) plain in
    rw (flags word both.0) (none_free test flags n (takes_next word) words both.1)

flags_of : (test : Text → Bool) → test (codes "--workers") ≡ false → ((word : Text) → begins_with_hyphen word ≡ false → test word ≡ false) → IsOfFlags test
flags_of test not_option not_plain word e = go (is_workers word) refl e
  where
    go : (b : Bool) → is_workers word ≡ b → (b || is_hyphenless word) ≡ true → test word ≡ false
    go true same e = subst (λ (w : Text). test w ≡ false) (sym ((bytes_eq-Decides word (codes "--workers")).0 same)) not_option
    go false same e = not_plain word (not-true (begins_with_hyphen word) e)

no_help : (word : Text) → begins_with_hyphen word ≡ false → is_help word ≡ false
no_help [] e = refl
no_help (b ∷ bs) e = let miss : (b == 45) ≡ false = e in rw miss refl

no_version : (word : Text) → begins_with_hyphen word ≡ false → is_version word ≡ false
no_version [] e = refl
no_version (b ∷ bs) e = let miss : (b == 45) ≡ false = e in rw miss refl

-- ---- the law

pub plain_words : (words : List Text) → ArePlainWords words
    → invocation_of words ≡ option_map (λ (n : ℕ). Command (record { workers = n; options = no_options; script = []; words = other_words words })) (workers_of (word_of_workers words))
plain_words words plain =
    let no_help_asked : asks is_help words ≡ false =
    none_free is_help (flags_of is_help refl no_help) (position_or_len is_dashes words) false words plain.others in
    let no_version_asked : asks is_version words ≡ false =
    none_free is_version (flags_of is_version refl no_version) (position_or_len is_dashes words) false words plain.others in
    rw (no_help_asked, no_version_asked, plain_line words (plain_test words plain)) (by (workers_of (word_of_workers words)))
  where
    by : (o : Option ℕ)
        → option_map Command (option_map (λ (n : ℕ). record { workers = n; options = no_options; script = []; words = other_words words }) o)
        ≡ option_map (λ (n : ℕ). Command (record { workers = n; options = no_options; script = []; words = other_words words })) o
    by None = refl
    by (Some n) = refl
