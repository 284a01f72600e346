-- The keywords of the commands.
use Rattle.std.specs.Prelude.{ℕ, List, codes}
use Rattle.edit_script.specs.declared.keyword.Keyword.{Keyword}
use Rattle.edit_script.specs.declared.keyword.Keyword.TheVariants as keyword

-- how a keyword is spelled
abbrev pub spelling : Keyword → List ℕ
spelling keyword.Add = codes "add"
spelling keyword.Drop = codes "drop"
spelling keyword.Move = codes "move"
spelling keyword.Barline = codes "barline"
spelling keyword.Pin = codes "pin"
spelling keyword.Unpin = codes "unpin"
spelling keyword.AddBar = codes "addbar"
spelling keyword.DropBar = codes "dropbar"
spelling keyword.Score = codes "score"
spelling keyword.Alt = codes "alt"
spelling keyword.Quit = codes "quit"
