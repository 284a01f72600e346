-- The words of commands: their numbers are in range, and they are those of one command at most.
use Rattle.std.proofs.Common.{◌≡◌, ◌==◌, ℕ, if◌then◌else◌, List, [], ◌∷◌, get_or, length, map, refl, sym, ap, ap₂, ◌∙◌, arith, Some, None}
use Rattle.std.specs.List.{join_with_byte}
use Rattle.std.specs.Prelude.{Option, codes, ⊤}
use Rattle.std.specs.Str.{bytes_eq}
use Rattle.std.specs.Str.Parse.{digits_value}
use Rattle.std.proofs.lemmas.List.Splits.{length-slice_split}
use Rattle.edit_script.specs.declared.command.Command.{Command}
use Rattle.edit_script.specs.declared.command.Command.TheVariants.{Change, Score, Alternatives, Quit}
use Rattle.rhythm_base.specs.declared.edit.Edit.{Edit}
use Rattle.rhythm_base.specs.declared.edit.Edit.TheVariants.{Add, Drop, Move, Barline, Pin, Unpin, AddBar, DropBar}
use Rattle.rhythm_base.specs.EditRanges.{IsEditInRange}
use Rattle.rhythm_base.specs.Shape.{Shape, end}
use Rattle.edit_script.specs.ScriptLines.{Are, AreCommand, AreEdit, Is, IsBarWord, IsCommandInRange, IsChannelWord, IsCountWord, IsKeyWord, IsTickWord, SaysCommand, trimmed, script_words}
use Rattle.rhythm_base.proofs.OneShape.{one_shape}

-- ---- ranges

-- each thing that is asked of a word holds of some word
abbrev EachHolds : List (List ℕ → Type 0) → Type 0
EachHolds [] = ⊤
EachHolds (Asked ∷ more) = ((word : List ℕ) × Asked word) × EachHolds more

each_holds : (asked : List (List ℕ → Type 0)) (words : List (List ℕ)) → Are asked words → EachHolds asked
each_holds [] words are = tt
each_holds (Asked ∷ more) [] are = absurd are
each_holds (Asked ∷ more) (word ∷ words) are = ((word, are.0), each_holds more words are.1)

-- the edit that words say is in range
pub edit_in_range : (edit : Edit) (words : List (List ℕ)) → AreEdit edit words → IsEditInRange edit
edit_in_range (Add channel key onset until) words are =
    let h = each_holds (Is (codes "add") ∷ IsChannelWord channel ∷ IsKeyWord key ∷ IsTickWord onset ∷ IsTickWord until ∷ []) words are in
    (omega (arith, h.1.0.1.high), omega (arith, h.1.1.0.1.high), h.1.1.1.0.1.high, h.1.1.1.1.0.1.high)
edit_in_range (Drop channel key onset) words are =
    let h = each_holds (Is (codes "drop") ∷ IsChannelWord channel ∷ IsKeyWord key ∷ IsTickWord onset ∷ []) words are in
    (omega (arith, h.1.0.1.high), omega (arith, h.1.1.0.1.high), h.1.1.1.0.1.high)
edit_in_range (Move channel key onset to) words are =
    let h = each_holds (Is (codes "move") ∷ IsChannelWord channel ∷ IsKeyWord key ∷ IsTickWord onset ∷ IsTickWord to ∷ []) words are in
    (omega (arith, h.1.0.1.high), omega (arith, h.1.1.0.1.high), h.1.1.1.0.1.high, h.1.1.1.1.0.1.high)
edit_in_range (Barline bar tick) words are =
    let h = each_holds (Is (codes "barline") ∷ IsBarWord bar ∷ IsTickWord tick ∷ []) words are in (h.1.0.1.high, h.1.1.0.1.high)
edit_in_range (Pin channel bar shape) [] are = absurd are
edit_in_range (Pin channel bar shape) (name ∷ []) are = absurd are
edit_in_range (Pin channel bar shape) (name ∷ first ∷ []) are = absurd are
edit_in_range (Pin channel bar shape) (name ∷ first ∷ second ∷ rest) are = (omega (arith, are.1.high), are.2.high, are.3.shape)
edit_in_range (Unpin channel bar) words are =
    let h = each_holds (Is (codes "unpin") ∷ IsChannelWord channel ∷ IsBarWord bar ∷ []) words are in (omega (arith, h.1.0.1.high), h.1.1.0.1.high)
edit_in_range AddBar words are = tt
edit_in_range DropBar words are = tt

request_in_range : (channel bar count : ℕ) (words : List (List ℕ)) → AreCommand (Alternatives channel bar count) words
    → IsCommandInRange (Alternatives channel bar count)
request_in_range channel bar count words are =
    let h = each_holds (Is (codes "alt") ∷ IsChannelWord channel ∷ IsBarWord bar ∷ IsCountWord count ∷ []) words are in
    (omega (arith, h.1.0.1.high), h.1.1.0.1.high, h.1.1.1.0.1.1, h.1.1.1.0.1.0.high)

-- the command that words say is in range
pub command_in_range : (command : Command) (words : List (List ℕ)) → AreCommand command words → IsCommandInRange command
command_in_range (Change edit) words are = edit_in_range edit words are
command_in_range Score words are = tt
command_in_range (Alternatives channel bar count) words are = request_in_range channel bar count words are
command_in_range Quit words are = tt

-- ---- one command

-- what is asked of each word tells the number that it is
abbrev AllTell : List (List ℕ → Type 0) → List ℕ → Type 0
AllTell [] [] = ⊤
AllTell (Asked ∷ more) (n ∷ ns) = ((word : List ℕ) → Asked word → digits_value 10 word ≡ n) × AllTell more ns
AllTell _ _ = ⊥

abbrev values : List (List ℕ) → List ℕ
values words = map (digits_value 10) words

values_are : (asked : List (List ℕ → Type 0)) (ns : List ℕ) (words : List (List ℕ)) → AllTell asked ns → Are asked words → values words ≡ ns
values_are [] [] [] tell are = refl
values_are [] [] (word ∷ words) tell are = absurd are
values_are [] (n ∷ ns) words tell are = absurd tell
values_are (Asked ∷ more) [] words tell are = absurd tell
values_are (Asked ∷ more) (n ∷ ns) [] tell are = absurd are
values_are (Asked ∷ more) (n ∷ ns) (word ∷ words) tell are = ap₂ ◌∷◌ (tell.0 word are.0) (values_are more ns words tell.1 are.1)

abbrev nth : List ℕ → ℕ → ℕ
nth ns i = get_or ns i 0

-- the command of a first word, of the numbers after it, and for a pin of a shape
abbrev commanded : List ℕ → List ℕ → Shape → Option Command
commanded name ns shape =
    if bytes_eq name (codes "add") then Some (Change (Add (nth ns 0) (nth ns 1) (nth ns 2) (nth ns 3)))
    else if bytes_eq name (codes "drop") then Some (Change (Drop (nth ns 0) (nth ns 1) (nth ns 2)))
    else if bytes_eq name (codes "move") then Some (Change (Move (nth ns 0) (nth ns 1) (nth ns 2) (nth ns 3)))
    else if bytes_eq name (codes "barline") then Some (Change (Barline (nth ns 0) (nth ns 1)))
    else if bytes_eq name (codes "pin") then Some (Change (Pin (nth ns 0) (nth ns 1) shape))
    else if bytes_eq name (codes "unpin") then Some (Change (Unpin (nth ns 0) (nth ns 1)))
    else if bytes_eq name (codes "addbar") then Some (Change AddBar)
    else if bytes_eq name (codes "dropbar") then Some (Change DropBar)
    else if bytes_eq name (codes "score") then Some Score
    else if bytes_eq name (codes "alt") then Some (Alternatives (nth ns 0) (nth ns 1) (nth ns 2))
    else if bytes_eq name (codes "quit") then Some Quit
    else None

-- the command, where it is a pin, has this shape
abbrev HasShape : Shape → Command → Type 0
HasShape x (Change (Pin channel bar shape)) = shape ≡ x
HasShape x _ = ⊤

-- words are the command of their first word and their numbers
module _ (x : Shape) (name : List ℕ) (rest : List (List ℕ)) where
  abbrev Commands : Command → Type 0
  Commands c = HasShape x c → AreCommand c (name ∷ rest) → commanded name (values rest) x ≡ Some c

  by_numbers : (spelling : List ℕ) (asked : List (List ℕ → Type 0)) (ns : List ℕ) → AllTell asked ns → name ≡ spelling → Are asked rest
      → commanded name (values rest) x ≡ commanded spelling ns x
  by_numbers spelling asked ns tell spelled are = ap₂ (λ w l. commanded w l x) spelled (values_are asked ns rest tell are)

  is_commanded : (c : Command) → Commands c
  is_commanded (Change (Add channel key onset until)) = λ shape are.
      by_numbers (codes "add") (IsChannelWord channel ∷ IsKeyWord key ∷ IsTickWord onset ∷ IsTickWord until ∷ []) (channel ∷ key ∷ onset ∷ until ∷ [])
      (λ w is. is.value, (λ w is. is.value, (λ w is. is.value, (λ w is. is.value, tt)))) are.0 are.1
  is_commanded (Change (Drop channel key onset)) = λ shape are.
      by_numbers (codes "drop") (IsChannelWord channel ∷ IsKeyWord key ∷ IsTickWord onset ∷ []) (channel ∷ key ∷ onset ∷ [])
      (λ w is. is.value, (λ w is. is.value, (λ w is. is.value, tt))) are.0 are.1
  is_commanded (Change (Move channel key onset to)) = λ shape are.
      by_numbers (codes "move") (IsChannelWord channel ∷ IsKeyWord key ∷ IsTickWord onset ∷ IsTickWord to ∷ []) (channel ∷ key ∷ onset ∷ to ∷ [])
      (λ w is. is.value, (λ w is. is.value, (λ w is. is.value, (λ w is. is.value, tt)))) are.0 are.1
  is_commanded (Change (Barline bar tick)) = λ shape are.
      by_numbers (codes "barline") (IsBarWord bar ∷ IsTickWord tick ∷ []) (bar ∷ tick ∷ []) (λ w is. is.value, (λ w is. is.value, tt)) are.0 are.1
  is_commanded (Change (Pin channel bar shape)) = of rest
    where
      of : (rest : List (List ℕ)) → shape ≡ x → AreCommand (Change (Pin channel bar shape)) (name ∷ rest)
          → commanded name (values rest) x ≡ Some (Change (Pin channel bar shape))
      of [] same are = absurd are
      of (first ∷ []) same are = absurd are
      of (first ∷ second ∷ more) same are =
          ap (λ w. commanded w (digits_value 10 first ∷ digits_value 10 second ∷ values more) x) are.0
          ∙ ap₂ (λ m n. Some (Change (Pin m n x))) are.1.value are.2.value
          ∙ ap (λ s. Some (Change (Pin channel bar s))) (sym same)
  is_commanded (Change (Unpin channel bar)) = λ shape are.
      by_numbers (codes "unpin") (IsChannelWord channel ∷ IsBarWord bar ∷ []) (channel ∷ bar ∷ []) (λ w is. is.value, (λ w is. is.value, tt)) are.0 are.1
  is_commanded (Change AddBar) = λ shape are. by_numbers (codes "addbar") [] [] tt are.0 are.1
  is_commanded (Change DropBar) = λ shape are. by_numbers (codes "dropbar") [] [] tt are.0 are.1
  is_commanded Score = λ shape are. by_numbers (codes "score") [] [] tt are.0 are.1
  is_commanded (Alternatives channel bar count) = λ shape are.
      by_numbers (codes "alt") (IsChannelWord channel ∷ IsBarWord bar ∷ IsCountWord count ∷ []) (channel ∷ bar ∷ count ∷ [])
      (λ w is. is.value, (λ w is. is.value, (λ w is. is.0.value, tt))) are.0 are.1
  is_commanded Quit = λ shape are. by_numbers (codes "quit") [] [] tt are.0 are.1

-- two pins of the same words have one shape
pins_alike : (words : List (List ℕ)) (channel bar : ℕ) (shape : Shape) (b : Command) → AreCommand (Change (Pin channel bar shape)) words → AreCommand b words
    → HasShape shape b
pins_alike [] channel bar shape (Change (Pin c n x)) says other = absurd says
pins_alike (name ∷ []) channel bar shape (Change (Pin c n x)) says other = absurd says
pins_alike (name ∷ first ∷ []) channel bar shape (Change (Pin c n x)) says other = absurd says
pins_alike (name ∷ first ∷ second ∷ rest) channel bar shape (Change (Pin c n x)) says other = one_shape (join_with_byte 32 rest) x shape other.3 says.3
pins_alike words channel bar shape _ says other = tt

-- a shape that both commands have
shape_of_both : (words : List (List ℕ)) (a b : Command) → AreCommand a words → AreCommand b words → (x : Shape) × HasShape x a × HasShape x b
shape_of_both words (Change (Pin channel bar shape)) b says other = (shape, refl, pins_alike words channel bar shape b says other)
shape_of_both words _ (Change (Pin channel bar shape)) says other = (shape, tt, refl)
shape_of_both words _ _ says other = (end, tt, tt)

same_words : (words : List (List ℕ)) (a b : Command) → (words ≡ [] → ⊥) → AreCommand a words → AreCommand b words → a ≡ b
same_words [] a b some says other = absurd (some refl)
same_words (name ∷ rest) a b some says other =
    let x = shape_of_both (name ∷ rest) a b says other in
    let this = is_commanded x.0 name rest a x.1 says in
    let that = is_commanded x.0 name rest b x.2 other in
    cc

-- a line says one command at most
pub one_command : (line : List ℕ) (a b : Command) → SaysCommand line a → SaysCommand line b → a ≡ b
one_command line a b says other =
    let some : script_words line ≡ [] → ⊥ = λ none. absurd (omega (arith, length-slice_split (λ x. x == 32) (trimmed line), ap length none)) in
    same_words (script_words line) a b some says other
