-- The inputs of a command on a MIDI file and a grammar: the names of its files, and what is told of the performance.
use Rattle.std.specs.Prelude.{ℕ, List, [], Option, option_map, unwrap_or}
use Rattle.std.specs.Borrow.{Bor}
use Rattle.performance_prepare.specs.declared.options.Options.{Options}
use Rattle.rhythm_app.specs.declared.request.Inputs as request
use Rattle.rhythm_ports.specs.Files.{File, file_of}

pub record Inputs : Type 0 where
  -- the MIDI file and the grammar file, by their names
  pub midi : List ℕ
  pub grammar : List ℕ
  -- how the take of the MIDI file is prepared
  pub options : Options
  -- the script file whose edits are made first, where one is given
  pub script : Option (List ℕ)

-- the name of a file, where one is given, as contracts see it
abbrev pub shown_name : Option (Bor (List ℕ)) → Option (List ℕ)
shown_name name = option_map (λ s. s.now) name

-- inputs as contracts see them
abbrev pub shown_inputs : request.Inputs → Inputs
shown_inputs i = record { midi = i.midi.now; grammar = i.grammar.now; options = i.options; script = shown_name i.script }

-- the bytes under a name, none where there is no such file
abbrev pub file_content : List File → List ℕ → List ℕ
file_content files name = unwrap_or (file_of files name) []
