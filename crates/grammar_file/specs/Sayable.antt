-- The grammars that grammar files say.
use Rattle.std.specs.Prelude.{All, IsTrue}
use Rattle.rhythm_base.specs.Readable.{IsReadable}
use Rattle.rhythm_base.specs.Grammar.{Grammar}
use Rattle.grammar_file.specs.Names.{is_name}

-- the grammar is readable, and its names are spelled as names
pub record IsSayable (g : Grammar) : Type 0 where
  pub readable : IsReadable g
  pub names : All (λ name. IsTrue (is_name name)) g.names
