-- The grammar of a text, part by part.
use Rattle.std.proofs.Common.{◌≡◌, ℕ, List, [], drop, Ok, Err, refl}
use Rattle.grammar_file.specs.Content.{content_of}
use Rattle.grammar_file.specs.Grammar.{grammar_of, grammar_of_lines}
use Rattle.grammar_file.specs.Header.{header_of}
use Rattle.grammar_file.specs.Statements.{in_turn, spoken_after}
use Rattle.grammar_file.specs.declared.draft.Spoken.{Spoken}
use Rattle.grammar_file.specs.declared.fault.GrammarFault.{GrammarFault}
use Rattle.grammar_file.specs.declared.header.Header.{Header}

module _ (text : List ℕ) where
  pub grammar_1 : (fault : GrammarFault) → header_of (content_of text) ≡ Err fault → grammar_of text ≡ Err fault
  unfolding grammar_of
  grammar_1 fault e = rw e refl

  pub grammar_2 : (fault : GrammarFault) (header : Header) → header_of (content_of text) ≡ Ok header
      → in_turn (spoken_after header.version) [] (drop 4 (content_of text).lines) ≡ Err fault → grammar_of text ≡ Err fault
  unfolding grammar_of
  grammar_2 fault header h e = rw (h, e) refl

  pub grammar_3 : (header : Header) (spoken : List Spoken) → header_of (content_of text) ≡ Ok header
      → in_turn (spoken_after header.version) [] (drop 4 (content_of text).lines) ≡ Ok spoken → grammar_of text ≡ grammar_of_lines header spoken
  unfolding grammar_of
  grammar_3 header spoken h s = rw (h, s) refl
