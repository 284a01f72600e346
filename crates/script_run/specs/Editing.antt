-- A desk as its lines are answered one after another.
use Rattle.std.specs.Prelude.{◌≡◌, ℕ, ◌+◌, List}
use Rattle.script_laws.specs.Script.{Run}
use Rattle.script_run.specs.Answers.{Quits}
use Rattle.script_run.specs.Desk.{AnswersOn, Desk}

-- the desk as edited so far, and how many cells were built for the edits
pub record Editing : Type 0 where
  pub desk : Desk
  pub built : ℕ

abbrev pub begun_on : Desk → Editing
begun_on desk = record { desk = desk; built = 0 }

-- what a line may do
abbrev pub IsLineAnswer : Editing → List ℕ → List ℕ → Editing → Type 0
IsLineAnswer old line reply new = (n : ℕ) × AnswersOn old.desk line reply n new.desk × (new.built ≡ old.built + n)

-- the replies to lines, up to one that says `quit`
abbrev pub AreAnswers : Editing → List (List ℕ) → List ℕ → Editing → Type 0
AreAnswers old lines replies last = Run IsLineAnswer Quits old lines replies last
