-- `clap`'s walk over plain words.
use Rattle.std.proofs.Common.{◌≡◌, ◌∙◌, ◌==◌, Bool, ◌&&◌, not, true, false, true≢false, refl, sym, ap, subst, List, [], ◌∷◌, ◌++◌, append_assoc, append-nil, Option, Some, None, codes}
use Rattle.std.specs.List.{fold, list_all}
use Rattle.std.specs.Prelude.{⊤, drop, if◌then◌else◌, slice_get}
use Rattle.std.proofs.lemmas.Bool.{and_parts, not-true}
use Rattle.std.proofs.lemmas.Slice.Eq.{bytes_eq-Decides}
use Rattle.clap.specs.Walk.{Row, Waiting, Walk, first_of, has_row, idle, option, positional, walked}
use Rattle.clap.specs.Simple.{Shape, built}
use Rattle.clap.specs.Faults.{walk_fault}
use Rattle.clap.specs.declared.builder.value_parser.Reading.TheVariants.{AsWritten}
use Rattle.command_line.specs.FlatCommand.{line_app}
use Rattle.command_line.specs.PlainWords.{begins_with_hyphen, is_workers, other_words, word_of_workers}
use Rattle.command_line.proofs.Rows.{ArePlainRows, Text, plain-with_option, plain-with_word, no_option-with_word, option-with_option, option-with_word, with_option, with_word, words-with_word, words_so_far}

-- the command as it is built
abbrev pub built_shape : Shape
built_shape = (built line_app).top

-- what is pending: nothing, a word, or the word of the option
pub data Pending : Type 0 where
  nothing : Pending
  a_word : Text → Pending
  an_option : Text → Pending

abbrev pub pending_of : Pending → Option (Text × List Text)
pending_of nothing = None
pending_of (a_word word) = Some (codes "words", word ∷ [])
pending_of (an_option word) = Some (codes "workers", word ∷ [])

-- the rows once what is pending is counted
abbrev pub rows_with : Pending → List Row → List Row
rows_with nothing rows = rows
rows_with (a_word word) rows = with_word AsWritten word rows
rows_with (an_option word) rows = with_option AsWritten word rows

abbrev pub waiting_of : Pending → Waiting
waiting_of nothing = idle
waiting_of (a_word word) = positional
waiting_of (an_option word) = idle

-- where the walk stands between two words
abbrev pub walk_at : Pending → List Row → Walk
walk_at p rows = record {
  held = record { rows = rows; pending = pending_of p; skip = 0 };
  waiting = waiting_of p;
  position = 1;
  is_trailing = false;
  stopped = None;
}

-- after the option, before its word
abbrev pub walk_at_option : List Row → Walk
walk_at_option rows = record {
  held = record { rows = rows; pending = Some (codes "workers", []); skip = 0 };
  waiting = option (codes "workers");
  position = 1;
  is_trailing = false;
  stopped = None;
}

-- a step, and that it is no fault
abbrev pub Steps : Walk → Text → Walk → Type 0
Steps w word next = (walked built_shape.rules [] w word ≡ next) × ((rest : List Text) → walk_fault built_shape [] w (word ∷ rest) ≡ walk_fault built_shape [] next rest)

-- what is pending may be counted: the option was not given before
abbrev pub IsFree : Pending → List Row → Type 0
IsFree nothing rows = ⊤
IsFree (a_word word) rows = ⊤
IsFree (an_option word) rows = has_row (codes "workers") rows ≡ false

step_value : (rows : List Row) (n : Text) → begins_with_hyphen n ≡ false → Steps (walk_at_option rows) n (walk_at (an_option n) rows)
unfolding walked walk_fault
step_value rows [] e = (refl, λ rest. refl)
step_value rows (b ∷ bs) e = let miss : (b == 45) ≡ false = e in rw (miss, miss) (refl, λ rest. refl)

step_option : (p : Pending) (rows : List Row) → IsFree p rows → Steps (walk_at p rows) (codes "--workers") (walk_at_option (rows_with p rows))
unfolding walked walk_fault
step_option nothing rows free = (refl, λ rest. refl)
step_option (a_word w) rows free = (refl, λ rest. refl)
step_option (an_option w) rows free = (refl, λ rest. rw free refl)

pub step_word : (p : Pending) (rows : List Row) (word : Text) → IsFree p rows → begins_with_hyphen word ≡ false
    → Steps (walk_at p rows) word (walk_at (a_word word) (rows_with p rows))
unfolding walked walk_fault
step_word nothing rows [] free e = (refl, λ rest. refl)
step_word (a_word w) rows [] free e = (refl, λ rest. refl)
step_word (an_option w) rows [] free e = (refl, λ rest. rw free refl)
step_word nothing rows (b ∷ bs) free e = let miss : (b == 45) ≡ false = e in rw (miss, miss) (refl, λ rest. refl)
step_word (a_word w) rows (b ∷ bs) free e = let miss : (b == 45) ≡ false = e in rw (miss, miss) (refl, λ rest. refl)
step_word (an_option w) rows (b ∷ bs) free e = let miss : (b == 45) ≡ false = e in rw (miss, miss) (refl, λ rest. rw free refl)

-- ---- the walk

-- where the walk ends, no word is refused, and the rows say the words and the word of the option
pub record WalkEnds (p : Pending) (rows : List Row) (words said : List Text) (option_word : Option Text) : Type 0 where
  pub last : Pending
  pub found : List Row
  pub walks : fold (walked built_shape.rules []) (walk_at p rows) words ≡ walk_at last found
  pub passes : walk_fault built_shape [] (walk_at p rows) words ≡ []
  pub free : IsFree last found
  pub words_are : words_so_far (rows_with last found) ≡ said
  pub option_is : first_of (codes "workers") (rows_with last found) ≡ option_word
  pub plain : ArePlainRows (rows_with last found)

abbrev pub is_hyphenless : Text → Bool
is_hyphenless word = not (begins_with_hyphen word)

-- no fault where no word is left
no_words : (w : Walk) → walk_fault built_shape [] w [] ≡ []
unfolding walk_fault
no_words w = refl

-- the walk over words none of which begins with `-`
plain_walk : (words : List Text) → list_all is_hyphenless words ≡ true → (p : Pending) (rows : List Row) (said : List Text) (option_word : Option Text)
    → IsFree p rows → ArePlainRows (rows_with p rows) → words_so_far (rows_with p rows) ≡ said
    → first_of (codes "workers") (rows_with p rows) ≡ option_word → WalkEnds p rows words (said ++ words) option_word
plain_walk [] plain p rows said option_word free rows_plain words_are option_is = record {
  last = p;
  found = rows;
  walks = refl;
  passes = no_words (walk_at p rows);
  free = free;
  words_are = words_are ∙ sym (append-nil said);
  option_is = option_is;
  plain = rows_plain;
}
plain_walk (word ∷ words) plain p rows said option_word free rows_plain words_are option_is =
    let both = and_parts (is_hyphenless word) (list_all is_hyphenless words) plain in
    let step = step_word p rows word free (not-true (begins_with_hyphen word) both.0) in
    let rest = plain_walk words both.1 (a_word word) (rows_with p rows) (said ++ word ∷ []) option_word tt
    (plain-with_word AsWritten word (rows_with p rows) rows_plain)
    (words-with_word AsWritten word (rows_with p rows) ∙ ap (λ (ws : List Text). ws ++ word ∷ []) words_are)
    (option-with_word AsWritten word (rows_with p rows) ∙ option_is) in
    record {
      last = rest.last;
      found = rest.found;
      walks = ap (λ (w : Walk). fold (walked built_shape.rules []) w words) step.0 ∙ rest.walks;
      passes = step.1 words ∙ rest.passes;
      free = rest.free;
      words_are = rest.words_are ∙ append_assoc said (word ∷ []) words;
      option_is = rest.option_is;
      plain = rest.plain;
    }

-- the words after the option: there is one, and none begins with `-`
abbrev pub is_after_option : List Text → Bool
is_after_option [] = false
is_after_option (word ∷ words) = list_all is_hyphenless (word ∷ words)

-- no word but the option begins with `-`, and the option stands at most once
abbrev pub is_plain : List Text → Bool
is_plain [] = true
is_plain (word ∷ words) = if is_workers word then is_after_option words else (is_hyphenless word && is_plain words)

-- the walk over the option and what follows it
option_walk : (words : List Text) → is_after_option words ≡ true → (p : Pending) (rows : List Row) (said : List Text)
    → IsFree p rows → ArePlainRows (rows_with p rows) → has_row (codes "workers") (rows_with p rows) ≡ false
    → words_so_far (rows_with p rows) ≡ said → WalkEnds p rows (codes "--workers" ∷ words) (said ++ drop 1 words) (slice_get words 0)
option_walk [] plain p rows said free rows_plain none words_are = absurd (true≢false (sym plain))
option_walk (n ∷ words) plain p rows said free rows_plain none words_are =
    let both = and_parts (is_hyphenless n) (list_all is_hyphenless words) plain in
    let first = step_option p rows free in
    let second = step_value (rows_with p rows) n (not-true (begins_with_hyphen n) both.0) in
    let says = option-with_option AsWritten n (rows_with p rows) none in
    let rest = plain_walk words both.1 (an_option n) (rows_with p rows) said (Some n) none (plain-with_option AsWritten n (rows_with p rows) rows_plain) (says.1 ∙ words_are) says.0 in
    record {
      last = rest.last;
      found = rest.found;
      walks = ap (λ (w : Walk). fold (walked built_shape.rules []) w (n ∷ words)) first.0 ∙ ap (λ (w : Walk). fold (walked built_shape.rules []) w words) second.0 ∙ rest.walks;
      passes = first.1 (n ∷ words) ∙ second.1 words ∙ rest.passes;
      free = rest.free;
      words_are = rest.words_are;
      option_is = rest.option_is;
      plain = rest.plain;
    }

-- the walk over plain words
pub walk_ends : (words : List Text) → is_plain words ≡ true → (p : Pending) (rows : List Row) (said : List Text)
    → IsFree p rows → ArePlainRows (rows_with p rows) → has_row (codes "workers") (rows_with p rows) ≡ false
    → words_so_far (rows_with p rows) ≡ said → first_of (codes "workers") (rows_with p rows) ≡ None → WalkEnds p rows words (said ++ other_words words) (word_of_workers words)
walk_ends [] plain p rows said free rows_plain none words_are option_is = plain_walk [] refl p rows said None free rows_plain words_are option_is
walk_ends (word ∷ words) plain p rows said free rows_plain none words_are option_is =
    go (is_workers word) refl plain (λ e. option_walk words e p rows said free rows_plain none words_are)
    (λ hyphenless more.
    let step = step_word p rows word free hyphenless in
    let rest = walk_ends words more (a_word word) (rows_with p rows) (said ++ word ∷ []) tt
    (plain-with_word AsWritten word (rows_with p rows) rows_plain)
    (no_option-with_word AsWritten word (rows_with p rows) none)
    (words-with_word AsWritten word (rows_with p rows) ∙ ap (λ (ws : List Text). ws ++ word ∷ []) words_are)
    (option-with_word AsWritten word (rows_with p rows) ∙ option_is) in
    record {
      last = rest.last;
      found = rest.found;
      walks = ap (λ (w : Walk). fold (walked built_shape.rules []) w words) step.0 ∙ rest.walks;
      passes = step.1 words ∙ rest.passes;
      free = rest.free;
      words_are = rest.words_are ∙ append_assoc said (word ∷ []) (other_words words);
      option_is = rest.option_is;
      plain = rest.plain;
    })
  where
    After : Type 0
    After = is_after_option words ≡ true → WalkEnds p rows (codes "--workers" ∷ words) (said ++ drop 1 words) (slice_get words 0)

    Before : Type 0
    Before = begins_with_hyphen word ≡ false → is_plain words ≡ true → WalkEnds p rows (word ∷ words) (said ++ word ∷ other_words words) (word_of_workers words)

    go : (b : Bool) → is_workers word ≡ b → (if b then is_after_option words else (is_hyphenless word && is_plain words)) ≡ true → After → Before
        → WalkEnds p rows (word ∷ words) (said ++ (if b then drop 1 words else word ∷ other_words words)) (if b then slice_get words 0 else word_of_workers words)
    go true e plain after before =
        let same : codes "--workers" ≡ word = sym ((bytes_eq-Decides word (codes "--workers")).0 e) in
        subst (λ (w : Text). WalkEnds p rows (w ∷ words) (said ++ drop 1 words) (slice_get words 0)) same (after plain)
    go false e plain after before =
        let both = and_parts (is_hyphenless word) (is_plain words) plain in before (not-true (begins_with_hyphen word) both.0) both.1
