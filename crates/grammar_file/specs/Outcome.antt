-- What reading comes to: a value, or a fault.
use Rattle.std.specs.Prelude.{◌≡◌, ◌≢◌, ℕ, IfErr, Result, Ok, Err}
use Rattle.grammar_file.specs.Content.{IsLineNumber}
use Rattle.grammar_file.specs.declared.fault.GrammarFault.{GrammarFault}
use Rattle.grammar_file.specs.declared.fault.GrammarWhat.{GrammarWhat}
use Rattle.grammar_file.specs.declared.fault.GrammarWhat.TheVariants.{Memory}

-- readers one after the other: the next takes what the one before it read, and after a fault nothing is read
infixl 10 ◌>>=◌
abbrev pub ◌>>=◌ : {A B E : Type 0} → Result A E → (A → Result B E) → Result B E
(Ok x) >>= next = next x
(Err fault) >>= next = Err fault

-- what a line came to, with the line's number at its fault
abbrev pub on_line : {A : Type 0} → ℕ → Result A GrammarWhat → Result A GrammarFault
on_line number (Ok x) = Ok x
on_line number (Err what) = Err (record { line = number; what = what })

-- what a line's reader returned is what the line comes to, unless memory ran out
abbrev pub GivesGrammar : {A : Type 0} → Result A GrammarWhat → Result A GrammarWhat → Type 0
GivesGrammar (Ok x) outcome = outcome ≡ Ok x
GivesGrammar (Err what) outcome = what ≢ Memory → outcome ≡ Err what

-- a fault stands at a line up to the end
abbrev pub FailsWithin : {A : Type 0} → ℕ → Result A GrammarFault → Type 0
FailsWithin end result = IfErr result (λ fault. IsLineNumber end fault.line)

-- what was read, seen as a contract sees it
abbrev pub seen_grammar : {A B E : Type 0} → (A → B) → Result A E → Result B E
seen_grammar view (Ok x) = Ok (view x)
seen_grammar view (Err fault) = Err fault

-- the same of a reader of lines, whose faults have their lines
abbrev pub GivesAt : {A : Type 0} → Result A GrammarFault → Result A GrammarFault → Type 0
GivesAt (Ok x) outcome = outcome ≡ Ok x
GivesAt (Err fault) outcome = fault.what ≢ Memory → outcome ≡ Err fault
