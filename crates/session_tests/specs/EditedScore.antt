-- The score of a MIDI file by a grammar file, after an edit.
use Rattle.std.specs.Prelude.{◌≡◌, ℕ, ◌≤◌, List, length, Ok}
use Rattle.edit_laws.specs.Edits.{edited}
use Rattle.edit_session.specs.Opening.{CanOpen}
use Rattle.grammar_file.specs.Grammar.{grammar_of}
use Rattle.kern_writer.specs.PerformanceText.{IsTextOf}
use Rattle.performance_load.specs.Loading.{IsLoaded}
use Rattle.rhythm_base.specs.Grammar.{Grammar}
use Rattle.rhythm_base.specs.Performance.{Performance}
use Rattle.rhythm_base.specs.declared.edit.Edit.{Edit}
use Rattle.rhythm_base.specs.declared.limits.TheConstants.{LONGEST_SCORE}
use Rattle.smf_reader.specs.Played.{Smf}
use Rattle.smf_reader.specs.SmfFile.{smf}

-- what the MIDI file says, its performance, and the grammar that the other file says; a session can be opened on both; the
-- performance after the edit, and the text of its score by the grammar
pub record IsEditedScore (midi grammar : List ℕ) (edit : Edit) (text : List ℕ) : Type 0 where
  pub file : Smf
  pub performance : Performance
  pub rules : Grammar
  pub next : Performance
  pub read : smf midi ≡ Ok file
  pub loaded : IsLoaded file performance
  pub understood : grammar_of grammar ≡ Ok rules
  pub opened : CanOpen rules performance
  pub made : edited performance edit ≡ Ok next
  pub written : IsTextOf rules next text
  pub short : length text ≤ LONGEST_SCORE
