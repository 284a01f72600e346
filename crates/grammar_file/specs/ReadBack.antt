-- What a grammar is printed with says that grammar.
use Rattle.std.specs.Prelude.{◌≡◌, ℕ, List, Ok, Err}
use Rattle.rhythm_base.specs.Grammar.{Grammar}
use Rattle.grammar_file.specs.Grammar.{grammar_of}
use Rattle.grammar_file.specs.Printed.{printed}
use Rattle.grammar_file.specs.declared.fault.GrammarFault.{GrammarFault}

-- the text says this grammar
abbrev pub SaysGrammar : List ℕ → Grammar → Type 0
SaysGrammar text g = grammar_of text ≡ Ok g

-- this is the text's fault
abbrev pub HasFault : List ℕ → GrammarFault → Type 0
HasFault text fault = grammar_of text ≡ Err fault

-- the printed text says the grammar and no other, and has no fault
pub record IsReadBack (g : Grammar) : Type 0 where
  pub says : SaysGrammar (printed g) g
  pub no_other : (h : Grammar) → SaysGrammar (printed g) h → h ≡ g
  pub no_fault : (fault : GrammarFault) → HasFault (printed g) fault → ⊥
