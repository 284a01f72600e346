-- What an edit script does: which reply each line may have, and the performance after it. S says what the score of a
-- performance is: its text, or the number of the record that would pass its limit.
use Rattle.std.specs.Prelude.{◌≡◌, ◌≢◌, ℕ, ◌⊎◌, List, [], ◌∷◌, ◌++◌, IsTrue, codes, map, Some, None, Result, Ok, Err, nat_eq}
use Rattle.std.specs.List.{starts_with}
use Rattle.edit_script.specs.declared.command.Command.{Command}
use Rattle.edit_script.specs.declared.command.Command.TheVariants.{Change, Score, Alternatives, Quit}
use Rattle.rhythm_base.specs.declared.edit_fault.EditFault.{EditFault}
use Rattle.rhythm_base.specs.declared.edit_fault.EditFault.TheVariants.{Memory}
use Rattle.edit_laws.specs.Edits.{cell_tests, first_refusal}
use Rattle.rhythm_base.specs.Forest.{Tree, preorder_of}
use Rattle.rhythm_base.specs.Performance.{Performance}
use Rattle.edit_script.specs.Replies.{Shown, alternatives_text, bad_line_text, bye_text, done_text, long_score_text, refused_text, score_text}
use Rattle.rhythm_base.specs.Grammar.{Grammar}
use Rattle.edit_script.specs.ScriptLines.{SaysCommand, SaysNothing}
use Rattle.rhythm_base.specs.ShapeText.{shape_text}
use Rattle.rhythm_base.specs.Trees.{shape_of}
use Rattle.edit_laws.specs.EditOutcomes.{EditOutcome, IsOutcome, made, refused}
use Rattle.tree_laws.specs.Alternatives.{AreBestOfBar}

-- ---- edits

abbrev pub outcome_text : EditOutcome → List ℕ
outcome_text (refused fault) = refused_text fault
outcome_text (made built cost) = done_text built cost

-- ---- alternatives

abbrev pub shown_alternative : ℕ × Tree → Shown
shown_alternative a = record { total = a.0; shape = shape_text (shape_of a.1.kids); rules = preorder_of a.1 }

-- ---- replies

-- the replies that a command may have and the performance after it. Want of memory is another matter
abbrev pub Answers : (Performance → Result (List ℕ) ℕ → Type 0) → Grammar → Performance → Command → List ℕ → Performance → Type 0
Answers S g p (Change edit) reply next = (outcome : EditOutcome) × IsOutcome g p edit outcome next × (reply ≡ outcome_text outcome)
Answers S g p Score reply next =
    (next ≡ p)
    × (((text : List ℕ) × S p (Ok text) × (reply ≡ score_text text))
    ⊎ ((record_number : ℕ) × S p (Err record_number) × (reply ≡ long_score_text record_number)))
Answers S g p (Alternatives channel bar count) reply next =
    (next ≡ p)
    × (((fault : EditFault) × (first_refusal (cell_tests p channel bar) ≡ Some fault) × (reply ≡ refused_text fault))
    ⊎ ((list : List (ℕ × Tree)) × (first_refusal (cell_tests p channel bar) ≡ None)
    × AreBestOfBar g p channel bar count list × (reply ≡ alternatives_text (map shown_alternative list))))
Answers S g p Quit reply next = (next ≡ p) × (reply ≡ bye_text)

-- the line says a command that may want memory, or begins like a pin
abbrev pub MayWantMemory : List ℕ → Type 0
MayWantMemory line = IsTrue (starts_with nat_eq line (codes "pin ")) ⊎ ((command : Command) × SaysCommand line command × (command ≢ Quit))

-- what a line may do: what its command does; where it says no command, a reply that says so; or want of memory, the only
-- free answer
abbrev pub IsLineStep : (Performance → Result (List ℕ) ℕ → Type 0) → Grammar → Performance → List ℕ → List ℕ → Performance → Type 0
IsLineStep S g p line reply next =
    ((command : Command) × SaysCommand line command × Answers S g p command reply next)
    ⊎ (SaysNothing line × (reply ≡ bad_line_text) × (next ≡ p))
    ⊎ (MayWantMemory line × (reply ≡ refused_text Memory) × (next ≡ p))

-- ---- runs

-- A run of any machine that takes lines: the lines in their order, up to one that ends the run, and all replies in one text.
-- `Steps` says which reply a line may have in a state, and the state after it; `Ends` says which lines end the run.
abbrev pub Run : {State : Type 0} → (State → List ℕ → List ℕ → State → Type 0) → (List ℕ → Type 0) → State → List (List ℕ) → List ℕ → State → Type 0
Run Steps Ends state [] replies last = (replies ≡ []) × (last ≡ state)
Run {State} Steps Ends state (line ∷ lines) replies last =
    (reply : List ℕ) × (next : State) × Steps state line reply next
    × ((Ends line × (replies ≡ reply) × (last ≡ next))
    ⊎ ((Ends line → ⊥) × ((more : List ℕ) × Run Steps Ends next lines more last × (replies ≡ reply ++ more))))

-- the run of an edit script: up to a line that says `quit`
abbrev pub ScriptRun : (Performance → Result (List ℕ) ℕ → Type 0) → Grammar → Performance → List (List ℕ) → List ℕ → Performance → Type 0
ScriptRun S g p lines replies last = Run (IsLineStep S g) (λ line. SaysCommand line Quit) p lines replies last
