-- The names of inputs.
use Rattle.std.proofs.Common.{◌≢◌, List, ◌∷◌, None}
use Rattle.rhythm_app.specs.Commands.{HaveNames, Named, input_files, named, script_file}
use Rattle.rhythm_app.specs.Inputs.{Inputs}
use Rattle.rhythm_app.specs.declared.stop.Kind.TheVariants as kind
use Rattle.rhythm_base.proofs.OrderedLists.{all_head, all_tail}
use Rattle.rhythm_ports.specs.Files.{File, file_of}

module _ (i : Inputs) (files : List File) (names : HaveNames files (input_files i)) where
  abbrev IsThere : Named → Type 0
  IsThere it = file_of files it.name ≢ None

  abbrev after_midi : List Named
  after_midi = named kind.Grammar i.grammar ∷ script_file i.script

  pub midi_there : file_of files i.midi ≢ None
  midi_there = all_head IsThere (named kind.Midi i.midi) after_midi names

  others : HaveNames files after_midi
  others = all_tail IsThere (named kind.Midi i.midi) after_midi names

  pub grammar_there : file_of files i.grammar ≢ None
  grammar_there = all_head IsThere (named kind.Grammar i.grammar) (script_file i.script) others

  pub script_there : HaveNames files (script_file i.script)
  script_there = all_tail IsThere (named kind.Grammar i.grammar) (script_file i.script) others
