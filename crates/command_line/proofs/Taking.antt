-- `clap` takes words exactly where it finds no fault in them.
use Rattle.std.proofs.Common.{◌≡◌, ◌∙◌, ℕ, ◌==◌, zero, suc, Bool, ◌||◌, ◌&&◌, true, false, true≢false, not, refl, sym, subst, ap, ap₂, arith, List, [], ◌∷◌, ◌++◌, length, map, drop, Option, Some, None}
use Rattle.std.specs.Prelude.{◌↔◌, find, is_some, encode_utf8, if◌then◌else◌, nat_le, slice_get}
use Rattle.std.specs.Str.{bytes_eq, chars}
use Rattle.std.specs.Option.{option_map_or}
use Rattle.std.proofs.lemmas.Bool.Decides.{nat_tests}
use Rattle.clap.specs.Kinds.{Kinds, or_else}
use Rattle.clap.specs.Lexer.{long_of, short_of}
use Rattle.clap.specs.Walk.{Held, Row, Rule, Step, Waiting, Walk, arg_by_id, arg_by_long, has_long, has_row, idle, is_empty, is_pending, next, option, positional, settled, nothing_held, subcommand, takes_values, trailing, value, walk, walk_from, walked, with_default, word_met}
use Rattle.clap.specs.Simple.{filled, filled_from, index_after, with_index}
use Rattle.clap.specs.Faults.{bundle_fault, bundle_step_fault, default_fault, defaults_fault, flags_fault, flag_word_fault, given_default_fault, long_fault, option_fault, other_fault, react_fault, fault_of, settle_fault, step_fault, turn_fault, use_fault, walk_fault, word_fault}
use Rattle.clap.specs.Takes.{bundle_passes, bundle_step_passes, flags_pass, flag_word_passes, long_passes, option_passes, other_passes, react_passes, takes, settle_passes, step_passes, turn_passes, use_passes, walk_passes, word_passes}
use Rattle.command_line.specs.FlatCommand.{flag_rule, line_app, option_rule, rule_by, value_rule, words_rule}
use Rattle.command_line.specs.OptionTable.{OptionRow, options}
use Rattle.clap.specs.declared.error.kind.ErrorKind.TheVariants.{TooManyValues}
use Rattle.command_line.proofs.Rows.{Text}
use Rattle.command_line.proofs.Walks.{built_shape}

-- no fault stands
abbrev pub is_passed : Kinds → Bool
is_passed [] = true
is_passed (fault ∷ faults) = false

passed-or_else : (a b : Kinds) → is_passed (or_else a b) ≡ (is_passed a && is_passed b)
passed-or_else [] b = refl
passed-or_else (k ∷ ks) b = refl

-- where both steps agree, so do they together
both_agree : (a b : Kinds) (p q : Bool) → is_passed a ≡ p → is_passed b ≡ q → is_passed (or_else a b) ≡ (p && q)
both_agree a b p q e f = passed-or_else a b ∙ ap₂ (λ (x y : Bool). x && y) e f

-- ---- one use

abbrev UseAgrees : Rule → Type 0
UseAgrees a = (values : List Text) (rows : List Row) → is_passed (use_fault false a values rows) ≡ use_passes false a values rows

not_none : (n : ℕ) → (suc (suc n) == 0) ≡ false
not_none n = grind (arith, nat_tests)

not_one : (n : ℕ) → (1 == suc (suc n)) ≡ false
not_one n = grind (arith, nat_tests)

some : (n : ℕ) → nat_le 1 (suc (suc n)) ≡ true
some n = grind (arith, nat_tests)

too_many : (n : ℕ) → nat_le (suc (suc n)) 1 ≡ false
too_many n = grind (arith, nat_tests)

never : (n : ℕ) → (0 == suc n) ≡ false
never n = grind (arith, nat_tests)

least : (n : ℕ) → nat_le 0 (suc n) ≡ true
least n = grind (arith, nat_tests)

above : (n : ℕ) → nat_le (suc n) 0 ≡ false
above n = grind (arith, nat_tests)

-- an option with a word
value_use : (name : Text) → UseAgrees (with_index 1 (filled (value_rule name)))
value_use name [] rows = refl
value_use name (v ∷ []) rows = go (has_row name rows) refl
  where
    go : (b : Bool) → has_row name rows ≡ b
        → is_passed (use_fault false (with_index 1 (filled (value_rule name))) (v ∷ []) rows) ≡ use_passes false (with_index 1 (filled (value_rule name))) (v ∷ []) rows
    go true e = rw e refl
    go false e = rw e refl
value_use name (v ∷ w ∷ vs) rows = rw (not_none (length vs), not_one (length vs), some (length vs), too_many (length vs)) refl

-- an option without one
flag_use : (name : Text) → UseAgrees (with_index 1 (filled (flag_rule name)))
flag_use name [] rows = go (has_row name rows) refl
  where
    go : (b : Bool) → has_row name rows ≡ b
        → is_passed (use_fault false (with_index 1 (filled (flag_rule name))) [] rows) ≡ use_passes false (with_index 1 (filled (flag_rule name))) [] rows
    go true e = rw e refl
    go false e = rw e refl
flag_use name (v ∷ vs) rows = rw (never (length vs), least (length vs), above (length vs)) refl

abbrev word_rule : Rule
word_rule = with_index 1 (filled words_rule)

-- the positional
word_use : UseAgrees (with_index 1 (filled words_rule))
word_use [] rows = refl
word_use (v ∷ []) rows = refl
word_use (v ∷ w ∷ vs) rows = rw (not_none (length vs), not_one (length vs), some (length vs), too_many (length vs)) refl

-- ---- all rules

-- it holds of each rule, one after another
abbrev pub OfEach : (Rule → Type 0) → List Rule → Type 0
OfEach P [] = Unit {0}
OfEach P (a ∷ rules) = P a × OfEach P rules

-- what holds of each holds of the first that passes a test
found_has : (P : Rule → Type 0) (p : Rule → Bool) (rules : List Rule) (a : Rule) → OfEach P rules → find p rules ≡ Some a → P a
found_has P p [] a each e = absurd (cc)
found_has P p (r ∷ rules) a each e = go (p r) e (λ later. found_has P p rules a each.1 later)
  where
    go : (b : Bool) → (if b then Some r else find p rules) ≡ Some a → (find p rules ≡ Some a → P a) → P a
    go true e later = let same : r ≡ a = cc in subst P same each.0
    go false e later = later e

-- no option of the table is a positional
no_place : (word : Option Text) (name : Text) → index_after 1 (rule_by word name) ≡ 1
no_place None name = refl
no_place (Some word) name = refl

-- what holds of each option and of the positional holds of each rule, whatever options there are
of_rules : (P : Rule → Type 0) → ((word : Option Text) (name : Text) → P (with_index 1 (filled (rule_by word name))))
    → P (with_index 1 (filled words_rule)) → (rows : List OptionRow) → OfEach P (filled_from 1 (map option_rule rows ++ words_rule ∷ []))
of_rules P each last [] = (last, tt)
of_rules P each last (row ∷ rows) =
    (each row.word row.name, rw (no_place row.word row.name) (of_rules P each last rows))

option_use : (word : Option Text) (name : Text) → UseAgrees (with_index 1 (filled (rule_by word name)))
option_use None name = flag_use name
option_use (Some word) name = value_use name

all_agree : OfEach UseAgrees built_shape.rules
all_agree = of_rules UseAgrees option_use word_use options

-- what is pending, with any rows
settle : (h : Held) → is_passed (settle_fault built_shape.rules false h) ≡ settle_passes built_shape.rules false h
settle h = go h.pending refl
  where
    go : (p : Option (Text × List Text)) → h.pending ≡ p → is_passed (settle_fault built_shape.rules false h) ≡ settle_passes built_shape.rules false h
    go None e = rw e refl
    go (Some p) e = rw e (by (arg_by_id built_shape.rules p.0) refl)
      where
        by : (o : Option Rule) → arg_by_id built_shape.rules p.0 ≡ o
            → is_passed (option_map_or (λ (a : Rule). use_fault false a p.1 h.rows) o []) ≡ option_map_or (λ (a : Rule). use_passes false a p.1 h.rows) o true
        by None e = refl
        by (Some a) e = found_has UseAgrees (λ r. bytes_eq r.id p.0) built_shape.rules a all_agree e p.1 h.rows

-- ---- one word

-- a bundle of short options: there is none
flags : (k : ℕ) (text : Text) (skip : ℕ) (h : Held) → is_passed (flags_fault built_shape.rules false k text skip h) ≡ flags_pass built_shape.rules false k text skip h
unfolding flags_fault flags_pass
flags zero text skip h = refl
flags (suc k) text skip h = go (slice_get (chars text) 0) skip (λ rest less. flags k rest less h)
  where
    go : (first : Option ℕ) (skip : ℕ)
        → ((rest : Text) (less : ℕ) → is_passed (flags_fault built_shape.rules false k rest less h) ≡ flags_pass built_shape.rules false k rest less h)
        → is_passed (bundle_step_fault built_shape.rules false first text skip h (flags_fault built_shape.rules false k))
        ≡ bundle_step_passes built_shape.rules false first text skip h (flags_pass built_shape.rules false k)
    go None skip later = refl
    go (Some x) zero later = refl
    go (Some x) (suc less) later = later (drop (length (encode_utf8 x)) text) less

long : (name : Text) (v : Option Text) (h : Held)
    → is_passed (long_fault built_shape.rules false (arg_by_long built_shape.rules name) v h) ≡ long_passes built_shape.rules false (arg_by_long built_shape.rules name) v h
long name v h = go (arg_by_long built_shape.rules name) refl
  where
    Says : Option Rule → Type 0
    Says o = is_passed (long_fault built_shape.rules false o v h) ≡ long_passes built_shape.rules false o v h

    -- the option is met, with these values
    met : (a : Rule) → UseAgrees a → (values : List Text)
        → is_passed (react_fault built_shape.rules false a values h) ≡ react_passes built_shape.rules false a values h
    met a agrees values =
        both_agree (settle_fault built_shape.rules false h) (use_fault false a values (settled built_shape.rules h).rows) _ _ (settle h)
        (agrees values (settled built_shape.rules h).rows)

    by_values : (a : Rule) → UseAgrees a → (takes_some : Bool) → takes_values a ≡ takes_some → (v : Option Text)
        → is_passed (if takes_some then option_fault built_shape.rules false a v h else (if is_some v then TooManyValues ∷ [] else react_fault built_shape.rules false a [] h))
        ≡ (if takes_some then option_passes built_shape.rules false a v h else (not (is_some v) && react_passes built_shape.rules false a [] h))
    by_values a agrees true e None = settle h
    by_values a agrees true e (Some w) = met a agrees (w ∷ [])
    by_values a agrees false e None = met a agrees []
    by_values a agrees false e (Some w) = refl

    go : (o : Option Rule) → arg_by_long built_shape.rules name ≡ o → Says o
    go None e = refl
    go (Some a) e =
        by_values a (found_has UseAgrees (λ r. not (is_some r.index) && has_long r name) built_shape.rules a all_agree e) (takes_values a) refl v

flag_word : (l : Option (Text × Option Text)) (word : Text) (h : Held)
    → is_passed (flag_word_fault built_shape.rules false l word h) ≡ flag_word_passes built_shape.rules false l word h
flag_word (Some p) word h = long p.0 p.1 h
flag_word None word h = go (short_of word)
  where
    go : (s : Option Text) → is_passed (option_map_or (λ text. bundle_fault built_shape.rules false text h) s []) ≡ option_map_or (λ text. bundle_passes built_shape.rules false text h) s true
    go None = refl
    go (Some text) = flags (length text) text h.skip (record h { skip = 0 })

other : (word : Text) (h : Held) → is_passed (other_fault built_shape None word h) ≡ other_passes built_shape None word h
other word h = go (bytes_eq word (45 ∷ 45 ∷ [])) (flag_word (long_of word) word h)
  where
    go : (b : Bool) → is_passed (flag_word_fault built_shape.rules false (long_of word) word h) ≡ flag_word_passes built_shape.rules false (long_of word) word h
        → is_passed (if b then [] else flag_word_fault built_shape.rules false (long_of word) word h) ≡ (b || flag_word_passes built_shape.rules false (long_of word) word h)
    go true e = refl
    go false e = e

one_word : (is_trailing : Bool) (waiting : Waiting) (word : Text) (h : Held)
    → is_passed (word_fault built_shape [] is_trailing waiting word h) ≡ word_passes built_shape [] is_trailing waiting word h
one_word true waiting word h = refl
one_word false idle word h = other word h
one_word false (option id) word h = other word h
one_word false positional word h = other word h

-- the step that a word takes
step : (place : ℕ) (h : Held) (s : Step) → is_passed (step_fault built_shape place h s) ≡ step_passes built_shape place h s
step place h value = go (1 == place) refl (is_pending word_rule h.pending) refl
  where
    go : (a : Bool) → (1 == place) ≡ a → (b : Bool) → is_pending word_rule h.pending ≡ b
        → is_passed (step_fault built_shape place h value) ≡ step_passes built_shape place h value
    go false e b f = rw e refl
    go true e true f = rw (e, f) (settle h)
    go true e false f = rw (e, f) (settle h)
step place h (next waiting) = refl
step place h (trailing p) = refl
step place h (subcommand name) = refl

turn : (w : Walk) (word : Text) → is_passed (turn_fault built_shape [] w word) ≡ turn_passes built_shape [] w word
turn w word = go (is_some w.stopped)
  where
    met : Held × Step
    met = word_met built_shape.rules [] w.is_trailing w.waiting w.position word w.held

    go : (b : Bool) → is_passed (if b then [] else or_else (word_fault built_shape [] w.is_trailing w.waiting word w.held) (step_fault built_shape w.position met.0 met.1))
        ≡ (b || (word_passes built_shape [] w.is_trailing w.waiting word w.held && step_passes built_shape w.position met.0 met.1))
    go true = refl
    go false = both_agree (word_fault built_shape [] w.is_trailing w.waiting word w.held) (step_fault built_shape w.position met.0 met.1) _ _
        (one_word w.is_trailing w.waiting word w.held) (step w.position met.0 met.1)

walks : (w : Walk) (words : List Text) → is_passed (walk_fault built_shape [] w words) ≡ walk_passes built_shape [] w words
unfolding walk_fault walk_passes
walks w [] = refl
walks w (word ∷ words) = both_agree (turn_fault built_shape [] w word) (walk_fault built_shape [] (walked built_shape.rules [] w word) words) _ _ (turn w word) (walks (walked built_shape.rules [] w word) words)

-- ---- the whole line

-- no default is refused
abbrev IsDefaultTaken : Rule → Type 0
IsDefaultTaken a = given_default_fault a a.defaults ≡ []

option_default : (word : Option Text) (name : Text) → IsDefaultTaken (with_index 1 (filled (rule_by word name)))
option_default None name = refl
option_default (Some word) name = refl

all_taken : OfEach IsDefaultTaken built_shape.rules
all_taken = of_rules IsDefaultTaken option_default refl options

default_taken : (rows : List Row) (a : Rule) → IsDefaultTaken a → default_fault rows a ≡ []
default_taken rows a taken = go (has_row a.id rows || is_empty a.defaults)
  where
    go : (b : Bool) → (if b then [] else given_default_fault a a.defaults) ≡ []
    go true = refl
    go false = taken

defaults_taken : (rows : List Row) (rules : List Rule) → OfEach IsDefaultTaken rules → defaults_fault rows rules ≡ []
unfolding defaults_fault
defaults_taken rows [] each = refl
defaults_taken rows (a ∷ rules) each = rw (default_taken rows a each.0) (defaults_taken (with_default rows a) rules each.1)

pub no_defaults : (rows : List Row) → defaults_fault rows built_shape.rules ≡ []
no_defaults rows = defaults_taken rows built_shape.rules all_taken

pub takes_is : (words : List Text) → is_passed (fault_of line_app words) ≡ takes line_app words
takes_is words = go end.stopped refl
  where
    end : Walk
    end = walk built_shape.rules [] nothing_held words

    rest : Kinds
    rest = or_else (defaults_fault (settled built_shape.rules end.held).rows built_shape.rules) []

    last : is_passed rest ≡ true
    last = rw (no_defaults (settled built_shape.rules end.held).rows) refl

    whole : is_passed (or_else (walk_fault built_shape [] (walk_from nothing_held) words) (or_else (settle_fault built_shape.rules false end.held) rest))
        ≡ (walk_passes built_shape [] (walk_from nothing_held) words && (settle_passes built_shape.rules false end.held && true))
    whole = both_agree (walk_fault built_shape [] (walk_from nothing_held) words) (or_else (settle_fault built_shape.rules false end.held) rest) _ _
        (walks (walk_from nothing_held) words) (both_agree (settle_fault built_shape.rules false end.held) rest _ _ (settle end.held) last)

    go : (o : Option (Text × List Text)) → end.stopped ≡ o → is_passed (fault_of line_app words) ≡ takes line_app words
    go None e = rw e whole
    go (Some p) e = rw e whole

pub faultless : (words : List Text) → (takes line_app words ≡ true) ↔ (fault_of line_app words ≡ [])
faultless words = (λ taken. none (fault_of line_app words) (takes_is words ∙ taken), λ e. sym (takes_is words) ∙ ap is_passed e)
  where
    none : (kinds : Kinds) → is_passed kinds ≡ true → kinds ≡ []
    none [] e = refl
    none (k ∷ ks) e = absurd (true≢false (sym e))
