-- What the answers to edits rest on holds by every grammar of a unit or more.
use Rattle.std.proofs.Common.{◌≤◌}
use Rattle.rhythm_base.specs.Grammar.{Grammar}
use Rattle.rhythm_base.specs.Leaves.{soundings}
use Rattle.rhythm_base.specs.Voices.{voice_bars}
use Rattle.performance_laws.proofs.OneVoices.{dead_has_none, one_cost_of, one_dead_voice}
use Rattle.tree_laws.proofs.OneAlternatives.{one_alternatives}
use Rattle.edit_laws.proofs.OneReached.{one_reached}
use Rattle.script_laws.specs.OneAnswers.{AnswersOfEditsAreOne}

pub answers_are_one : (g : Grammar) → 1 ≤ g.resolution → AnswersOfEditsAreOne g
answers_are_one g some = record {
  dead = λ p channel bar channel' bar' formed. one_dead_voice g p some formed channel bar channel' bar';
  none = λ p channel bar formed. dead_has_none g p some formed channel bar;
  costs = λ p sum sum' formed. one_cost_of g p sum sum';
  reached = λ p q cells cells' formed formed'. one_reached g p q cells cells';
  alternatives = λ p channel bar count chords list list' formed are. one_alternatives g (voice_bars g p channel) (soundings chords) bar count list list';
}
