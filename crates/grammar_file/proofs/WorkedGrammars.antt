-- Texts and what they say or where their fault is, each by computing alone.
use Rattle.std.proofs.Common.{◌≡◌, ℕ, List, [], ◌∷◌, ◌++◌, Result, Ok, Err, refl}
use Rattle.std.specs.List.{flat_map}
use Rattle.std.specs.Prelude.{codes}
use Rattle.rhythm_base.specs.Grammar.{Grammar}
use Rattle.rhythm_base.specs.declared.rule.Body.TheVariants.{Parts, Note}
use Rattle.grammar_file.specs.Content.{content_from}
use Rattle.grammar_file.specs.Endings.{ending_word_of}
use Rattle.grammar_file.specs.Grammar.{grammar_of}
use Rattle.grammar_file.specs.Header.{header_of}
use Rattle.grammar_file.specs.Names.{is_name, is_name_byte}
use Rattle.grammar_file.specs.Numbers.{is_numeral}
use Rattle.grammar_file.specs.Said.{kind_of, said_by}
use Rattle.grammar_file.specs.declared.fault.GrammarFault.{GrammarFault}
use Rattle.grammar_file.specs.declared.fault.GrammarWhat.{GrammarWhat}
use Rattle.grammar_file.specs.declared.fault.GrammarWhat.TheVariants.{Header, Line, Number, UnknownName}

-- the text of lines that newlines end
abbrev text : List (List ℕ) → List ℕ
text lines = flat_map (λ line. line ++ 10 ∷ []) lines

abbrev fault : ℕ → GrammarWhat → Result Grammar GrammarFault
fault line what = Err (record { line = line; what = what })

-- a bar that is cut into a dotted half note and a quarter note, in version 2
dotted : grammar_of (text (codes "rhythm 2" ∷ codes "resolution 4" ∷ codes "window 0" ∷ codes "onset 3 1" ∷ codes "start 4/4 B" ∷ codes "B 0 parts 3 H 1 H" ∷ codes "H 0 note" ∷ []))
    ≡ Ok (record {
      version = 2;
      resolution = 4;
      window = 0;
      early = 3;
      late = 1;
      names = codes "B" ∷ codes "H" ∷ [];
      starts = record { num = 4; den = 4; symbol = 0 } ∷ [];
      rules = record { lhs = 0; weight = 0; body = Parts ((3, 1) ∷ (1, 1) ∷ []) } ∷ record { lhs = 1; weight = 0; body = Note } ∷ [];
    })
unfolding grammar_of header_of content_from is_numeral is_name is_name_byte kind_of ending_word_of said_by
dotted = refl

-- no text, and a text of one line
empty : grammar_of [] ≡ fault 1 Header
unfolding grammar_of header_of content_from
empty = refl

one_line : grammar_of (codes "rhythm 1") ≡ fault 2 Header
unfolding grammar_of header_of content_from is_numeral
one_line = refl

-- the number of the first line with an unknown name, comments and empty lines counted
unknown : grammar_of (text (codes "rhythm 1" ∷ codes "# units" ∷ codes "resolution 1" ∷ codes "window 0" ∷ [] ∷ codes "onset 1" ∷ codes "B 0 note" ∷ codes "B 0 split B X" ∷ []))
    ≡ fault 8 UnknownName
unfolding grammar_of header_of content_from is_numeral is_name is_name_byte kind_of ending_word_of said_by
unknown = refl

-- a later line of no form comes first
later_line : grammar_of (text (codes "rhythm 1" ∷ codes "resolution 1" ∷ codes "window 0" ∷ codes "onset 1" ∷ codes "B 0 split B X" ∷ codes "B 9999999 foo" ∷ []))
    ≡ fault 6 Line
unfolding grammar_of header_of content_from is_numeral is_name is_name_byte kind_of ending_word_of said_by
later_line = refl

-- the first number that is out of its range
first_number : grammar_of (text (codes "rhythm 2" ∷ codes "resolution 97" ∷ codes "window 1000001" ∷ [])) ≡ fault 2 (Number 96)
unfolding grammar_of header_of content_from is_numeral
first_number = refl

-- a carriage return before a newline is dropped, and one at the end of a line that no newline ends is not
ended : grammar_of (text (codes "rhythm 1" ∷ codes "resolution 1" ∷ codes "window 0" ∷ []) ++ codes "onset 1" ++ 13 ∷ 10 ∷ [])
    ≡ Ok (record { version = 1; resolution = 1; window = 0; early = 1; late = 1; names = []; starts = []; rules = [] })
unfolding grammar_of header_of content_from is_numeral
ended = refl

unended : grammar_of (text (codes "rhythm 1" ∷ codes "resolution 1" ∷ codes "window 0" ∷ []) ++ codes "onset 1" ++ 13 ∷ []) ≡ fault 4 Line
unfolding grammar_of header_of content_from is_numeral
unended = refl
