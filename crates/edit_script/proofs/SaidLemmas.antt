-- What a line says by its keyword and the words after it.
use Rattle.std.proofs.Common.{◌≡◌, ℕ, true, false, List, [], ◌∷◌, Some, None, Result, Ok, Err, IfOk, IfErr, drop, refl, sym, ap, ap₂, ◌∙◌, subst, IsTrue}
use Rattle.std.specs.Prelude.{Option, IsErr, IsErrAnd, codes, nat_eq, slice_get, ok_or}
use Rattle.std.specs.List.{starts_with}
use Rattle.edit_script.specs.declared.command.Command.{Command}
use Rattle.edit_script.specs.declared.command.Command.TheVariants.{Change, Score, Alternatives, Quit}
use Rattle.rhythm_base.specs.declared.edit.Edit.TheVariants.{Add, Drop, Move, Barline, Pin, Unpin, AddBar, DropBar}
use Rattle.edit_script.specs.ScriptLines.{AreCommand, ArePinWords, IsCommandInRange, script_words}
use Rattle.edit_script.proofs.CommandWords.{command_in_range}
use Rattle.edit_script.specs.After.{BeginsPinned, SaysAfter, SaysPin}
use Rattle.edit_script.specs.Finds.{Finds}
use Rattle.edit_script.specs.Keywords.{spelling}
use Rattle.edit_script.specs.Reads.{Reads}
use Rattle.edit_script.specs.declared.keyword.Keyword.{Keyword}
use Rattle.edit_script.specs.declared.keyword.Keyword.TheVariants as keyword
use Rattle.edit_script.specs.declared.line_fault.LineFault.{LineFault}
use Rattle.edit_script.specs.declared.line_fault.LineFault.TheVariants.{BadLine, Memory}
use Rattle.edit_script.proofs.LineLemmas.{begins_pin}
use Rattle.edit_script.proofs.KeywordLemmas.{same_keyword}

-- a command and the keyword of its words
pub record HasKeyword (command : Command) (name : List ℕ) (rest : List (List ℕ)) : Type 0 where
  pub keyword : Keyword
  pub spelled : name ≡ spelling keyword
  pub says : SaysAfter keyword rest command

pub keyword_in : (command : Command) (name : List ℕ) (rest : List (List ℕ)) → AreCommand command (name ∷ rest) → HasKeyword command name rest
keyword_in (Change (Add channel key onset end)) name rest are = record { keyword = keyword.Add; spelled = are.0; says = ((channel, key, onset, end), refl, are.1) }
keyword_in (Change (Drop channel key onset)) name rest are = record { keyword = keyword.Drop; spelled = are.0; says = ((channel, key, onset), refl, are.1) }
keyword_in (Change (Move channel key onset to)) name rest are = record { keyword = keyword.Move; spelled = are.0; says = ((channel, key, onset, to), refl, are.1) }
keyword_in (Change (Barline bar tick)) name rest are = record { keyword = keyword.Barline; spelled = are.0; says = ((bar, tick), refl, are.1) }
keyword_in (Change (Pin channel bar shape)) name [] are = absurd are
keyword_in (Change (Pin channel bar shape)) name (first ∷ []) are = absurd are
keyword_in (Change (Pin channel bar shape)) name (first ∷ second ∷ rest) are =
    record { keyword = keyword.Pin; spelled = are.0; says = (channel, bar, shape, refl, are.1, are.2, are.3) }
keyword_in (Change (Unpin channel bar)) name rest are = record { keyword = keyword.Unpin; spelled = are.0; says = ((channel, bar), refl, are.1) }
keyword_in (Change AddBar) name rest are = record { keyword = keyword.AddBar; spelled = are.0; says = (refl, are.1) }
keyword_in (Change DropBar) name rest are = record { keyword = keyword.DropBar; spelled = are.0; says = (refl, are.1) }
keyword_in Score name rest are = record { keyword = keyword.Score; spelled = are.0; says = (refl, are.1) }
keyword_in (Alternatives channel bar count) name rest are = record { keyword = keyword.Alt; spelled = are.0; says = ((channel, bar, count), refl, are.1) }
keyword_in Quit name rest are = record { keyword = keyword.Quit; spelled = are.0; says = (refl, are.1) }

pin_said : (name : List ℕ) (rest : List (List ℕ)) (command : Command) → name ≡ codes "pin" → SaysPin rest command → AreCommand command (name ∷ rest)
pin_said name [] command spelled (channel, bar, shape, is, first, second, text) = absurd first
pin_said name (a ∷ []) command spelled (channel, bar, shape, is, first, second, text) = absurd second
pin_said name (a ∷ b ∷ rest) command spelled (channel, bar, shape, is, first, second, text) =
    subst (λ (c : Command). AreCommand c (name ∷ a ∷ b ∷ rest)) (sym is) (spelled, first, second, text)

-- the words after a keyword say the command of all words
pub said : (k : Keyword) (name : List ℕ) (rest : List (List ℕ)) (command : Command) → name ≡ spelling k → SaysAfter k rest command → AreCommand command (name ∷ rest)
said keyword.Add name rest command spelled (n, is, are) = subst (λ (c : Command). AreCommand c (name ∷ rest)) (sym is) (spelled, are)
said keyword.Drop name rest command spelled (n, is, are) = subst (λ (c : Command). AreCommand c (name ∷ rest)) (sym is) (spelled, are)
said keyword.Move name rest command spelled (n, is, are) = subst (λ (c : Command). AreCommand c (name ∷ rest)) (sym is) (spelled, are)
said keyword.Barline name rest command spelled (n, is, are) = subst (λ (c : Command). AreCommand c (name ∷ rest)) (sym is) (spelled, are)
said keyword.Pin name rest command spelled says = pin_said name rest command spelled says
said keyword.Unpin name rest command spelled (n, is, are) = subst (λ (c : Command). AreCommand c (name ∷ rest)) (sym is) (spelled, are)
said keyword.AddBar name rest command spelled (is, are) = subst (λ (c : Command). AreCommand c (name ∷ rest)) (sym is) (spelled, are)
said keyword.DropBar name rest command spelled (is, are) = subst (λ (c : Command). AreCommand c (name ∷ rest)) (sym is) (spelled, are)
said keyword.Score name rest command spelled (is, are) = subst (λ (c : Command). AreCommand c (name ∷ rest)) (sym is) (spelled, are)
said keyword.Alt name rest command spelled (n, is, are) = subst (λ (c : Command). AreCommand c (name ∷ rest)) (sym is) (spelled, are)
said keyword.Quit name rest command spelled (is, are) = subst (λ (c : Command). AreCommand c (name ∷ rest)) (sym is) (spelled, are)

-- what was found, read
pub reads_found : (k : Keyword) (words : List (List ℕ)) (May : Type 0) (this : Keyword) (o : Option Command) (r : Result Command LineFault) → k ≡ this
    → Finds (SaysAfter this words) o → r ≡ ok_or o BadLine → Reads (SaysAfter k words) May r
reads_found k words May this o r same found is =
    subst (λ (r : Result Command LineFault). Reads (SaysAfter k words) May r) (sym is) (subst (λ (k : Keyword). Reads (SaysAfter k words) May (ok_or o BadLine)) (sym same) (of o found))
  where
    of : (o : Option Command) → Finds (SaysAfter this words) o → Reads (SaysAfter this words) May (ok_or o BadLine)
    of (Some x) found = found
    of None found = found

-- a word that is no number, where one is asked for
pub no_number : {N T : Type 0} (IsN : N → Type 0) (Is : T → Type 0) (May : Type 0) (found : Option N) (fault : LineFault) (r : Result T LineFault) → Finds IsN found
    → Err fault ≡ ok_or found BadLine → IsErr r × IsErrAnd r (λ e. e ≡ fault) → (((n : N) → IsN n → ⊥) → (x : T) → Is x → ⊥) → Reads Is May r
no_number IsN Is May (Some n) fault r finds e is none = cc
no_number IsN Is May None fault (Ok x) finds e is none = let wrong : false ≡ true = is.0 in cc
no_number IsN Is May None fault (Err BadLine) finds e is none = none finds
no_number IsN Is May None fault (Err Memory) finds e is none = let same : Memory ≡ fault = is.1 in cc

-- a pin, read
pub reads_pin : (k : Keyword) (words : List (List ℕ)) (r : Result Command LineFault) → k ≡ keyword.Pin → Reads (SaysPin words) (BeginsPinned words) r
    → Reads (SaysAfter k words) ((k ≡ keyword.Pin) × BeginsPinned words) r
reads_pin k words (Ok command) same reads = subst (λ (k : Keyword). SaysAfter k words command) (sym same) reads
reads_pin k words (Err BadLine) same reads = subst (λ (k : Keyword). (command : Command) → SaysAfter k words command → ⊥) (sym same) reads
reads_pin k words (Err Memory) same reads = (same, reads)

-- the first word and those after it
pub words_are : (words all : List (List ℕ)) (word : List ℕ) (rest : List (List ℕ)) → words ≡ all → Some word ≡ slice_get words 0 → rest ≡ drop 1 words → all ≡ word ∷ rest
words_are [] all word rest same first after = cc
words_are (w ∷ words) all word rest same first after = let e : word ≡ w = cc in sym same ∙ ap₂ ◌∷◌ (sym e) (sym after)

-- a first word that is no keyword
pub no_keyword : (words : List (List ℕ)) (word : List ℕ) (rest : List (List ℕ)) → words ≡ word ∷ rest → ((k : Keyword) → word ≡ spelling k → ⊥)
    → (command : Command) → AreCommand command words → ⊥
no_keyword words word rest are none command says =
    let has = keyword_in command word rest (subst (AreCommand command) are says) in
    none has.keyword has.spelled

module _ (words : List (List ℕ)) (word : List ℕ) (rest : List (List ℕ)) (k : Keyword) (are : words ≡ word ∷ rest) (known : word ≡ spelling k) where
  said_after : (command : Command) → AreCommand command words → SaysAfter k rest command
  said_after command says =
      let has = keyword_in command word rest (subst (AreCommand command) are says) in
      let same = same_keyword has.keyword k (sym has.spelled ∙ known) in
      subst (λ (k : Keyword). SaysAfter k rest command) same has.says

  -- a command of the words after the keyword is that of all words, and where there is none the line says none
  pub read_ok : (May : Type 0) (r : Result Command LineFault) → Reads (SaysAfter k rest) May r → IfOk r (λ command. AreCommand command words)
  read_ok May (Ok command) reads = subst (AreCommand command) (sym are) (said k word rest command known reads)
  read_ok May (Err fault) reads = tt

  pub read_bad : (May : Type 0) (r : Result Command LineFault) → Reads (SaysAfter k rest) May r
      → IfErr r (λ fault. fault ≡ BadLine → (command : Command) → AreCommand command words → ⊥)
  read_bad May (Ok command) reads = tt
  read_bad May (Err BadLine) reads = λ e command says. reads command (said_after command says)
  read_bad May (Err Memory) reads = λ e. cc

-- `pin` with a channel and a bar after it
pin_words : (word : List ℕ) (rest : List (List ℕ)) → word ≡ codes "pin" → BeginsPinned rest → ArePinWords (word ∷ rest)
pin_words word [] known (channel, bar, first, second) = absurd first
pin_words word (a ∷ []) known (channel, bar, first, second) = absurd second
pin_words word (a ∷ b ∷ rest) known (channel, bar, first, second) = (known, (channel, first), (bar, second))

-- want of memory may come only where a channel and a bar stand after `pin`
pub read_shape : (words : List (List ℕ)) (word : List ℕ) (rest : List (List ℕ)) (k : Keyword) → words ≡ word ∷ rest → word ≡ spelling k
    → (r : Result Command LineFault) → Reads (SaysAfter k rest) ((k ≡ keyword.Pin) × BeginsPinned rest) r
    → IfErr r (λ fault. fault ≡ Memory → ArePinWords words)
read_shape words word rest k are known (Ok command) reads = tt
read_shape words word rest k are known (Err BadLine) reads = λ e. cc
read_shape words word rest k are known (Err Memory) reads =
    λ e. subst ArePinWords (sym are) (pin_words word rest (known ∙ ap spelling reads.0) reads.1)

-- such a line begins with `pin` and a space
pub read_memory : (line : List ℕ) (r : Result Command LineFault) → IfErr r (λ fault. fault ≡ Memory → ArePinWords (script_words line))
    → IfErr r (λ fault. fault ≡ Memory → IsTrue (starts_with nat_eq line (codes "pin ")))
read_memory line (Ok command) shape = tt
read_memory line (Err fault) shape = λ e. begun (script_words line) refl (shape e)
  where
    begun : (words : List (List ℕ)) → script_words line ≡ words → ArePinWords words → IsTrue (starts_with nat_eq line (codes "pin "))
    begun [] are begins = absurd begins
    begun (name ∷ []) are begins = absurd begins
    begun (name ∷ first ∷ []) are begins = absurd begins
    begun (name ∷ first ∷ second ∷ rest) are begins =
        begins_pin line first (second ∷ rest) (are ∙ ap (λ w. w ∷ first ∷ second ∷ rest) begins.0)

-- a command that was read is in range
pub read_range : (words : List (List ℕ)) (r : Result Command LineFault) → IfOk r (λ command. AreCommand command words) → IfOk r IsCommandInRange
read_range words (Ok command) are = command_in_range command words are
read_range words (Err fault) are = tt
