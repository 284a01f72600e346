-- A line without a fault has a token for each spine.
use Rattle.std.proofs.Common.{◌≡◌, ℕ, suc, ◌≤◌, ◌==◌, ◌&&◌, Bool, true, false, not, List, [], ◌∷◌, length, refl, sym, ap, ◌∙◌, subst, arith, Option, Some, None}
use Rattle.std.specs.Prelude.{if◌then◌else◌, nat_le, codes, drop}
use Rattle.std.specs.Char.{is_ascii_digit}
use Rattle.std.specs.List.{list_all, list_any}
use Rattle.std.specs.Option.{option_map}
use Rattle.std.specs.Str.{bytes_eq}
use Rattle.std.proofs.lemmas.Bool.{leb-true}
use Rattle.std.proofs.lemmas.Bool.Decides.{nat_tests}
use Rattle.kern_reader.specs.declared.fault.KernWhat.{KernWhat}
use Rattle.kern_reader.specs.declared.fault.KernWhat.TheVariants as what
use Rattle.kern_reader.specs.declared.line.KernLine.{KernLine}
use Rattle.kern_reader.specs.declared.line.KernLine.TheVariants.{Heading, Other, Ending, Barline, LastBarline, Unread}
use Rattle.kern_reader.specs.declared.line.Stage.{Stage}
use Rattle.kern_reader.specs.declared.line.Stage.TheVariants as stage
use Rattle.kern_reader.specs.declared.spine.Spine.{Spine}
use Rattle.text_words.specs.declared.time_signature.TimeSignature.{TimeSignature}
use Rattle.kern_reader.specs.declared.token.Token.{Token}
use Rattle.kern_reader.specs.Faults.{first_fault, has_no_grid, has_no_head, has_wrong_grace, has_wrong_tie, has_wrong_width, is_misplaced, is_wrong_bar, is_out_of_turn, is_unread, said_tests, text_tests}
use Rattle.kern_reader.specs.Lines.{all_are, barline_said, begins_signature, data_line, interpretation, is_ending, is_heading, is_refused_word, line_of, other_line, signature_line, signature_of}
use Rattle.kern_reader.specs.Reading.{HasWidth}
use Rattle.text_words.specs.Lines.{begins_with}
use Rattle.kern_reader.specs.Text.{columns}
use Rattle.text_words.specs.Steps.{◌>>=◌}
use Rattle.kern_reader.specs.Tokens.{all_tokens, token_chord, note_of, token_of, value_of}

-- a test before the others does not hold
pub passes : (x : Bool × KernWhat) (xs : List (Bool × KernWhat)) → first_fault (x ∷ xs) ≡ None → (x.0 ≡ false) × (first_fault xs ≡ None)
passes (b, what) xs none = at b none
  where
    at : (t : Bool) → (if t then Some what else first_fault xs) ≡ None → (t ≡ false) × (first_fault xs ≡ None)
    at true e = cc
    at false e = (refl, e)

if_wide : (b : Bool) (x y : KernLine) (n : ℕ) → HasWidth x n → HasWidth y n → HasWidth (if b then x else y) n
if_wide true x y n h k = h
if_wide false x y n h k = k

signature_wide : (o : Option TimeSignature) (n : ℕ) → HasWidth (signature_line o) n
signature_wide None n = tt
signature_wide (Some signature) n = tt

interpretation_wide : (first : List ℕ) (texts : List (List ℕ)) (n : ℕ) → HasWidth (interpretation first texts) n
interpretation_wide first texts n =
    if_wide (list_any is_refused_word texts) Unread _ n tt
    (if_wide (list_any begins_signature texts) (if all_are first texts then signature_line (signature_of first) else Unread) Other n
    (if_wide (all_are first texts) (signature_line (signature_of first)) Unread n (signature_wide (signature_of first) n) tt) tt)

barline_wide : (first : List ℕ) (texts : List (List ℕ)) (n : ℕ) → HasWidth (barline_said first texts) n
barline_wide first texts n =
    if_wide (all_are first texts) (if bytes_eq first (codes "==") then LastBarline else if list_all is_ascii_digit (drop 1 first) then Barline else Unread) Unread n
    (if_wide (bytes_eq first (codes "==")) LastBarline (if list_all is_ascii_digit (drop 1 first) then Barline else Unread) n tt
    (if_wide (list_all is_ascii_digit (drop 1 first)) Barline Unread n tt tt)) tt

counted : (texts : List (List ℕ)) (ts : List Token) → all_tokens texts ≡ Some ts → length ts ≡ length texts
counted [] ts e = let same : [] ≡ ts = cc in ap length (sym same)
counted (text ∷ texts) ts e = first (token_of text) (all_tokens texts) (counted texts) ts e
  where
    first : (o : Option Token) (more : Option (List Token)) → ((others : List Token) → more ≡ Some others → length others ≡ length texts)
        → (ts : List Token) → (o >>= λ t. option_map (λ ts. t ∷ ts) more) ≡ Some ts → length ts ≡ suc (length texts)
    first None more rest ts e = cc
    first (Some t) None rest ts e = cc
    first (Some t) (Some others) rest ts e = let same : t ∷ others ≡ ts = cc in ap length (sym same) ∙ ap suc (rest others refl)

as_many : (texts : List (List ℕ)) (n : ℕ) → length texts ≡ n → HasWidth (data_line (all_tokens texts)) n
as_many texts n count = at (all_tokens texts) refl
  where
    at : (o : Option (List Token)) → all_tokens texts ≡ o → HasWidth (data_line o) n
    at None e = tt
    at (Some ts) e = counted texts ts e ∙ count

equal_widths : (spines b : ℕ) (text : List ℕ) → (not (length (b ∷ text) == 0) && not (length (columns (b ∷ text)) == spines)) ≡ false → length (columns (b ∷ text)) ≡ spines
equal_widths spines b text e = grind (arith, nat_tests)

other_wide : (texts : List (List ℕ)) (n : ℕ) → length texts ≡ n → HasWidth (other_line texts) n
unfolding other_line
other_wide [] n count = tt
other_wide (first ∷ more) n count =
    if_wide (begins_with 42 first) (interpretation first (first ∷ more)) _ n (interpretation_wide first (first ∷ more) n)
    (if_wide (begins_with 61 first) (barline_said first (first ∷ more)) (data_line (all_tokens (first ∷ more))) n (barline_wide first (first ∷ more) n) (as_many (first ∷ more) n count))

empty_wide : (n : ℕ) → HasWidth (other_line (columns [])) n
unfolding other_line token_of token_chord note_of value_of
empty_wide n = tt

heading_few : (at : Stage) (text : List ℕ) → is_heading text ≡ true → has_no_head at text ≡ false → is_unread at (Heading (length (columns text))) ≡ false
    → length (columns text) ≤ 16
unfolding has_no_head is_unread
heading_few stage.Head text heading head read = few (nat_le (length (columns text)) 16) refl (rw heading at head)
  where
    few : (b : Bool) → nat_le (length (columns text)) 16 ≡ b → not b ≡ false → length (columns text) ≤ 16
    few true e h = leb-true (length (columns text)) 16 e
    few false e h = cc
heading_few stage.Body text heading head read = cc
heading_few stage.Last text heading head read = cc
heading_few stage.Over text heading head read = cc

other_as_wide : (at : Stage) (spines : ℕ) (text : List ℕ) → is_heading text ≡ false → has_no_head at text ≡ false → has_wrong_width at spines text ≡ false
    → HasWidth (other_line (columns text)) spines
unfolding has_no_head has_wrong_width
other_as_wide stage.Head spines text heading head width = let no = rw heading at head in cc
other_as_wide stage.Body spines [] heading head width = empty_wide spines
other_as_wide stage.Body spines (b ∷ text) heading head width = other_wide (columns (b ∷ text)) spines (equal_widths spines b text width)
other_as_wide stage.Last spines [] heading head width = empty_wide spines
other_as_wide stage.Last spines (b ∷ text) heading head width = other_wide (columns (b ∷ text)) spines (equal_widths spines b text width)
other_as_wide stage.Over spines [] heading head width = empty_wide spines
other_as_wide stage.Over spines (b ∷ text) heading head width = other_wide (columns (b ∷ text)) spines (equal_widths spines b text width)

line_wide : (at : Stage) (spines : ℕ) (text : List ℕ) → has_no_head at text ≡ false → has_wrong_width at spines text ≡ false → is_unread at (line_of text) ≡ false → HasWidth (line_of text) spines
unfolding line_of
line_wide at spines text head width read = by (is_heading text) refl read
  where
    by : (b : Bool) → is_heading text ≡ b → is_unread at (if b then Heading (length (columns text)) else if is_ending text then Ending else other_line (columns text)) ≡ false
        → HasWidth (if b then Heading (length (columns text)) else if is_ending text then Ending else other_line (columns text)) spines
    by true e read = heading_few at text e head read
    by false e read = if_wide (is_ending text) Ending (other_line (columns text)) spines tt (other_as_wide at spines text e head width)

pub wide : (at : Stage) (spines : ℕ) (text : List ℕ) (line : KernLine) (grid : ℕ) (bar next : Option TimeSignature) (known : List Spine) → line ≡ line_of text
    → first_fault (text_tests at spines text) ≡ None → first_fault (said_tests at grid bar next known line) ≡ None → HasWidth line spines
wide at spines text line grid bar next known is none said =
    let second = (is_out_of_turn at text, what.End) ∷ (has_wrong_width at spines text, what.Width) ∷ [] in
    let third = (has_wrong_width at spines text, what.Width) ∷ [] in
    let one = passes (has_no_head at text, what.Head) second none in
    let two = passes (is_out_of_turn at text, what.End) third one.1 in
    let three = passes (has_wrong_width at spines text, what.Width) [] two.1 in
    let rest =
    (has_no_grid grid line, what.Grid) ∷ (is_misplaced bar known line, what.Place) ∷ (has_wrong_grace known line, what.Grace)
    ∷ (is_wrong_bar grid bar next known line, what.Bar) ∷ (has_wrong_tie known line, what.Tie) ∷ [] in
    let read = passes (is_unread at line, what.Token) rest said in
    subst (λ l. HasWidth l spines) (sym is) (line_wide at spines text one.0 three.0 (ap (is_unread at) (sym is) ∙ read.0))
