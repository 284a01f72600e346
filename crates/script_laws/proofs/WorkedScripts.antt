-- The lines of scripts, and the run of a script whose lines need no derivation.
use Rattle.std.specs.Prelude.{◌≡◌, ℕ, List, [], ◌∷◌, codes, refl, Result}
use Rattle.std.proofs.Common.{inl, inr}
use Rattle.edit_script.specs.declared.command.Command.TheVariants.{Change, Score, Alternatives, Quit}
use Rattle.rhythm_base.specs.declared.edit.Edit.TheVariants.{Add, Drop, Move, Barline, Pin, Unpin, AddBar, DropBar}
use Rattle.rhythm_base.specs.declared.edit_fault.EditFault.TheVariants.{OneBar}
use Rattle.rhythm_base.specs.Performance.{Performance}
use Rattle.rhythm_base.specs.Grammar.{Grammar}
use Rattle.script_laws.specs.Script.{ScriptRun, IsLineStep}
use Rattle.edit_laws.specs.EditOutcomes.{refused}
use Rattle.edit_script.specs.ScriptLines.{SaysCommand, SaysNothing, script_lines}

no_line : script_lines [] ≡ []
no_line = refl

empty_line : script_lines (codes "\n") ≡ [] ∷ []
empty_line = refl

no_newline : script_lines (codes "quit") ≡ codes "quit" ∷ []
no_newline = refl

one_newline : script_lines (codes "quit\n") ≡ codes "quit" ∷ []
one_newline = refl

two_newlines : script_lines (codes "score\n\nquit") ≡ codes "score" ∷ [] ∷ codes "quit" ∷ []
two_newlines = refl

-- a carriage return stays
carriage_return : script_lines (codes "quit\r\n\r") ≡ codes "quit\r" ∷ codes "\r" ∷ []
carriage_return = refl

-- ---- a run over one bar, by any grammar and whatever the score is

abbrev one_bar : Performance
one_bar = record {
  division = 480;
  tempos = [];
  key_marks = [];
  bars = record { start = 0; num = 4; den = 4 } ∷ [];
  last = 1920;
  channels = 0 ∷ [];
  notes = [];
  pins = [];
}

-- no command has an empty word
says_nothing : SaysNothing []
says_nothing (Change (Add channel key onset until)) says = let wrong : [] ≡ codes "add" = says.0 in absurd (cc)
says_nothing (Change (Drop channel key onset)) says = let wrong : [] ≡ codes "drop" = says.0 in absurd (cc)
says_nothing (Change (Move channel key onset to)) says = let wrong : [] ≡ codes "move" = says.0 in absurd (cc)
says_nothing (Change (Barline bar tick)) says = let wrong : [] ≡ codes "barline" = says.0 in absurd (cc)
says_nothing (Change (Pin channel bar shape)) says = says
says_nothing (Change (Unpin channel bar)) says = let wrong : [] ≡ codes "unpin" = says.0 in absurd (cc)
says_nothing (Change AddBar) says = let wrong : [] ≡ codes "addbar" = says.0 in absurd (cc)
says_nothing (Change DropBar) says = let wrong : [] ≡ codes "dropbar" = says.0 in absurd (cc)
says_nothing Score says = let wrong : [] ≡ codes "score" = says.0 in absurd (cc)
says_nothing (Alternatives channel bar count) says = let wrong : [] ≡ codes "alt" = says.0 in absurd (cc)
says_nothing Quit says = let wrong : [] ≡ codes "quit" = says.0 in absurd (cc)

module _ (S : Performance → Result (List ℕ) ℕ → Type 0) (g : Grammar) where
  drops_no_bar : IsLineStep S g one_bar (codes "dropbar") (codes "refused OneBar\n") one_bar
  drops_no_bar = inl (Change DropBar, (refl, tt), (refused OneBar, (inl refl, refl), refl))

  empty_is_bad : IsLineStep S g one_bar [] (codes "refused Line\n") one_bar
  empty_is_bad = inr (inl (says_nothing, refl, refl))

  quits : IsLineStep S g one_bar (codes "quit") (codes "bye\n") one_bar
  quits = inl (Quit, (refl, tt), (refl, refl))

  goes_on : SaysCommand (codes "dropbar") Quit → ⊥
  goes_on says = let wrong : codes "dropbar" ≡ codes "quit" = says.0 in absurd (cc)

  -- nothing is answered to a line after `quit`
  run_to_quit : ScriptRun S g one_bar (script_lines (codes "dropbar\n\nquit\naddbar\n")) (codes "refused OneBar\nrefused Line\nbye\n") one_bar
  run_to_quit = (
    codes "refused OneBar\n",
    one_bar,
    drops_no_bar,
    inr (
      goes_on,
      (
        codes "refused Line\nbye\n",
        (
          codes "refused Line\n",
          one_bar,
          empty_is_bad,
          inr (
            says_nothing Quit,
            (
              codes "bye\n",
              (
                codes "bye\n",
                one_bar,
                quits,
                inl ((refl, tt), refl, refl),
              ),
              refl,
            ),
          ),
        ),
        refl,
      ),
    ),
  )

  run_of_nothing : ScriptRun S g one_bar (script_lines []) [] one_bar
  run_of_nothing = (refl, refl)
