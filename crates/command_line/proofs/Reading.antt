-- What a command line is read by.
use Rattle.std.proofs.Common.{◌≡◌, ◌≢◌, ◌∙◌, ℕ, ◌<◌, ◌≤◌, ◌+◌, ◌^◌, true, false, get_or, Some, None, Result, Ok, List, [], ◌∷◌, ◌++◌, length, map, take, arith, refl, sym, ap, inl, inr, Bor}
use Rattle.std.specs.Prelude.{slice_get}
use Rattle.std.specs.Result.{result_ok}
use Rattle.std.specs.Char.{is_ascii_digit}
use Rattle.std.specs.List.{list_all}
use Rattle.std.specs.Str.Parse.{ParsesUnsigned, digits_value}
use Rattle.std.proofs.lemmas.Str.Parse.{digits_value_short, parse_gives}
use Rattle.std.proofs.lemmas.List.{map-append, take_more}
use Rattle.std.proofs.lemmas.Option.{get_or_from_slice_get, slice_get-get_or, slice_get_within}
use Rattle.rhythm_base.proofs.Numerals.{numerals}
use Rattle.clap.specs.Matches.{found_of}
use Rattle.clap.specs.Simple.{HasMatchesOf, matches_of}
use Rattle.clap.specs.Walk.{rows_of}
use Rattle.clap.specs.Faults.{fault_of}
use Rattle.clap.specs.Takes.{takes}
use Rattle.clap.specs.Kinds.{HasKind, IsAmong, Kinds}
use Rattle.clap.specs.Values.{kind_of}
use Rattle.clap.specs.declared.error.Error.{Error}
use Rattle.clap.specs.declared.error.kind.ErrorKind.{ErrorKind}
use Rattle.clap.specs.declared.error.kind.ErrorKind.TheVariants.{OutOfMemory}
use Rattle.clap.specs.declared.parser.matches.ArgMatches.{ArgMatches}
use Rattle.command_line.specs.CommandLines.{line_matches, words_fault}
use Rattle.command_line.specs.declared.invocation.WordsFault.TheVariants.{Memory, Refused}
use Rattle.command_line.specs.FlatCommand.{line_app}
use Rattle.command_line.proofs.Rows.{Text}
use Rattle.command_line.proofs.Taking.{faultless, is_passed, takes_is}

-- one to ten digits are read as a number
pub digits_read : {E : Type 0} (word : Text) (r : Result ℕ E) → ParsesUnsigned 64 10 word r → 0 < length word → length word ≤ 10
    → list_all is_ascii_digit word ≡ true → result_ok r ≡ None → ⊥
digits_read word r parses some few digits e =
    let small : digits_value 10 word < 10 ^ 10 = digits_value_short numerals word 10 digits few in
    let is : r ≡ Ok (digits_value 10 word) = parse_gives numerals 64 word r parses digits some (omega (arith, small)) in
    let bad : Some (digits_value 10 word) ≡ None = sym (ap result_ok is) ∙ e in cc

-- one more word of a list
pub one_more_word : (words : List Text) (i : ℕ) (list more : List (Bor Text)) (word : Bor Text) → more ≡ list ++ word ∷ []
    → map (λ s. s.now) list ≡ take i words → Some word.now ≡ slice_get words i → map (λ s. s.now) more ≡ take (i + 1) words
one_more_word words i list more word grown is here =
    ap (map (λ (s : Bor Text). s.now)) grown ∙ map-append (λ (s : Bor Text). s.now) list (word ∷ []) ∙ ap (λ (ws : List Text). ws ++ word.now ∷ []) is
    ∙ sym (take_more words i word.now (slice_get_within words i word.now (sym here))
    ∙ ap (λ (w : Text). take i words ++ w ∷ []) (get_or_from_slice_get words i word.now word.now (sym here)))

-- and there is one at each place
pub word_there : (words : List Text) (i : ℕ) → i < length words → slice_get words i ≡ None → ⊥
word_there words i lt e = let some : slice_get words i ≡ Some (get_or words i []) = slice_get-get_or words i [] lt in let bad : Some (get_or words i []) ≡ None = sym some ∙ e in cc

-- where `clap` gives matches, they are those of the words
pub matches_are : (words : List Text) (m : ArgMatches) → fault_of line_app words ≡ [] → HasMatchesOf line_app words m
    → line_matches words ≡ Some (rows_of (found_of m))
unfolding line_matches
matches_are words m passes has =
    let rows : rows_of (found_of m) ≡ matches_of line_app words = (has refl).0 in
    let taken : takes line_app words ≡ true = (faultless words).1 passes in rw (taken, rows) refl

-- words are refused for no want of memory
pub other_kind : (kind : ErrorKind) → words_fault kind ≡ Refused → kind ≢ OutOfMemory
other_kind kind refused is =
    let bad : Memory ≡ Refused = sym (ap words_fault is) ∙ refused in cc

-- an error that is not for memory refuses the words
pub refusal_is : (words : List Text) (e : Error) → HasKind (fault_of line_app words) e → kind_of e ≢ OutOfMemory → line_matches words ≡ None
unfolding line_matches
refusal_is words e (inl memory) other = absurd (other memory)
refusal_is words e (inr among) other =
    let refused : takes line_app words ≡ false = sym (takes_is words) ∙ some_kind (fault_of line_app words) among in rw refused refl
  where
    some_kind : (kinds : Kinds) → IsAmong (kind_of e) kinds → is_passed kinds ≡ false
    some_kind [] among = absurd among
    some_kind (k ∷ kinds) among = refl
