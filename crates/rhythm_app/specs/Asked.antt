-- What the words of a command line ask for.
use Rattle.rhythm_base.specs.declared.limits.TheConstants.{LATEST_TICK, MOST_BARS}
use Rattle.std.specs.Prelude.{◌≡◌, ℕ, ◌+◌, ◌-◌, ◌/◌, ◌<◌, nat_eq, nat_le, List, [], ◌∷◌, ◌++◌, codes, if◌then◌else◌, map, Option, Some, None, option_and_then, option_map, IsSome, length, drop, slice_get, ◌≤◌, ⊤}
use Rattle.std.specs.Borrow.{Bor}
use Rattle.std.specs.Cmp.Lexicographic.{pointwise}
use Rattle.barline_fit.specs.declared.candidates.Candidates.{Candidates}
use Rattle.barline_fit.specs.declared.candidates.TheConstants.{MOST_CANDIDATES}
use Rattle.command_line.specs.CommandLines.{invocation_of}
use Rattle.command_line.specs.Numbers.{number_in}
use Rattle.command_line.specs.declared.invocation.Invocation.{Invocation}
use Rattle.command_line.specs.declared.invocation.Invocation.TheVariants as invocation
use Rattle.performance_prepare.specs.Laws.{no_options}
use Rattle.performance_prepare.specs.Ranges.{AreInRange, is_told}
use Rattle.performance_prepare.specs.declared.options.Options.{Options}
use Rattle.rhythm_app.specs.Inputs.{Inputs, shown_inputs, shown_name}
use Rattle.rhythm_app.specs.declared.learn.TheConstants.{MOST_FILES}
use Rattle.rhythm_app.specs.declared.request.Form.{Form}
use Rattle.rhythm_app.specs.declared.request.Form.TheVariants as form
use Rattle.rhythm_app.specs.declared.request.Inputs as code
use Rattle.rhythm_app.specs.declared.request.Request.{Request}
use Rattle.rhythm_app.specs.declared.request.Request.TheVariants as request
use Rattle.rhythm_app.specs.declared.request.Talk.{Talk}
use Rattle.rhythm_app.specs.declared.request.Talk.TheVariants as talk
use Rattle.weight_learning.specs.declared.weights.TheConstants.{HEAVIEST_BIT}

-- the help, the version, or a command with the names of its files and its numbers: one that writes a text of the session on MIDI and
-- GRAMMAR, one that answers a script over it, `fit MIDI GRAMMAR BAR LOW HIGH STEP`, `learn BIT GRAMMAR MIDI...`, `follow MIDI GRAMMAR`,
-- `notes MIDI`, `events KERN`, `generate NUMBER BARS` or `drill NUMBER GRAMMAR`. A fit of too many candidates asks for no file, nor does
-- learning from too many files
pub data Asked : Type 0 where
  help : Asked
  version : Asked
  write : Form → Inputs → Asked
  answer : Talk → Inputs → Asked
  fit : Inputs → Candidates → Asked
  too_many_candidates : ℕ → Asked
  learn : ℕ → List ℕ → List (List ℕ) → Asked
  too_many_files : ℕ → Asked
  follow : Inputs → Asked
  notes : List ℕ → Options → Asked
  events : List ℕ → Asked
  generate : ℕ → ℕ → Asked
  drill : ℕ → List ℕ → Asked

-- a word and one more
abbrev pub of_one : (List ℕ → Option Asked) → List (List ℕ) → Option Asked
of_one make [] = None
of_one make (a ∷ []) = make a
of_one make (a ∷ b ∷ more) = None

-- a word and two more
abbrev pub of_two : (List ℕ → List ℕ → Option Asked) → List (List ℕ) → Option Asked
of_two make [] = None
of_two make (a ∷ []) = None
of_two make (a ∷ b ∷ []) = make a b
of_two make (a ∷ b ∷ c ∷ more) = None

-- the names of a MIDI file and a grammar, how the take is prepared, and the script file
abbrev pub inputs_named : Options → Option (List ℕ) → List ℕ → List ℕ → Inputs
inputs_named o script midi grammar = record { midi = midi; grammar = grammar; options = o; script = script }

-- a word and these names
abbrev pub of_inputs : (Inputs → Asked) → Options → Option (List ℕ) → List (List ℕ) → Option Asked
of_inputs make o script = of_two (λ midi grammar. Some (make (inputs_named o script midi grammar)))

-- a command without a script file
abbrev pub unscripted : Option (List ℕ) → Option Asked → Option Asked
unscripted None asked = asked
unscripted (Some name) asked = None

-- a command for which nothing is told of a take, and without a script file
abbrev pub untold : Options → Option (List ℕ) → Option Asked → Option Asked
untold o script asked = unscripted script (option_and_then (λ (a : Asked). if is_told o then None else Some a) asked)

-- a word and six more
abbrev pub of_six : (List ℕ → List ℕ → List ℕ → List ℕ → List ℕ → List ℕ → Option Asked) → List (List ℕ) → Option Asked
of_six make (a ∷ b ∷ c ∷ d ∷ e ∷ f ∷ []) = make a b c d e f
of_six make _ = None

-- the number of a piece, 0 to 65,534, and how many bars it has, 1 to 2,000
abbrev pub generate_by : List ℕ → List ℕ → Option Asked
generate_by number bars = option_and_then (λ (n : ℕ). option_map (λ (b : ℕ). generate n b) (number_in 1 2000 bars)) (number_in 0 65534 number)

-- the number of a piece, and a file
abbrev pub drill_by : List ℕ → List ℕ → Option Asked
drill_by number grammar = option_map (λ (n : ℕ). drill n grammar) (number_in 0 65534 number)

-- so many ticks are tried: one more than whole steps from the lowest to the highest
abbrev pub candidate_count : Candidates → ℕ
candidate_count c = (c.high - c.low) / c.step + 1

-- the candidates, where the lowest tick is no later than the highest
abbrev pub in_order : Candidates → Option Candidates
in_order c = if nat_le c.low c.high then Some c else None

-- the number of a barline, 0 to 4,096, the lowest and the highest tick, 0 to 2,000,000,000, and the step, 1 to 2,000,000,000
abbrev pub candidates_by : List ℕ → List ℕ → List ℕ → List ℕ → Option Candidates
candidates_by bar low high step =
    option_and_then (λ (b : ℕ). option_and_then (λ (l : ℕ). option_and_then (λ (h : ℕ). option_and_then (λ (s : ℕ).
    in_order (record { bar = b; low = l; high = h; step = s })) (number_in 1 LATEST_TICK step)) (number_in 0 LATEST_TICK high))
    (number_in 0 LATEST_TICK low)) (number_in 0 MOST_BARS bar)

-- at most 256 candidates are tried
abbrev pub fit_of : Inputs → Candidates → Asked
fit_of i c = if nat_le (candidate_count c) MOST_CANDIDATES then fit i c else too_many_candidates (candidate_count c)

-- two files, and the candidates of a barline
abbrev pub fit_by : Options → Option (List ℕ) → List ℕ → List ℕ → List ℕ → List ℕ → List ℕ → List ℕ → Option Asked
fit_by o script midi grammar bar low high step =
    option_map (λ (c : Candidates). fit_of (inputs_named o script midi grammar) c) (candidates_by bar low high step)

-- weights are learned from at most 256 files
abbrev pub learn_of : ℕ → List ℕ → List (List ℕ) → Asked
learn_of bit grammar midis = if nat_le (length midis) MOST_FILES then learn bit grammar midis else too_many_files (length midis)

-- how much more a rule costs that is used half as often, 1 to 10,000, a file, and one more file or several
abbrev pub learn_by : List (List ℕ) → Option Asked
learn_by (bit ∷ grammar ∷ midi ∷ more) = option_map (λ (b : ℕ). learn_of b grammar (midi ∷ more)) (number_in 1 HEAVIEST_BIT bit)
learn_by _ = None

-- how a command is called: its word, what the words after it are, and what these ask for by what is told of a take and the script file
pub record Call : Type 0 where
  pub word : List ℕ
  pub after : List ℕ
  pub asked : Options → Option (List ℕ) → List (List ℕ) → Option Asked

abbrev pub call : List ℕ → List ℕ → (Options → Option (List ℕ) → List (List ℕ) → Option Asked) → Call
call word after asked = record { word = word; after = after; asked = asked }

-- the words of what a session is written as
abbrev pub forms : List (List ℕ × Form)
forms =
    (codes "transcribe", form.Score)
    ∷ (codes "lily", form.LilyPond)
    ∷ (codes "page", form.Page)
    ∷ (codes "musicxml", form.MusicXml)
    ∷ (codes "render", form.Rendered)
    ∷ []

-- the command that writes a session on MIDI and GRAMMAR in a form
abbrev pub form_call : List ℕ × Form → Call
form_call named = call named.0 (codes "MIDI GRAMMAR") (of_inputs (write named.1))

-- the commands that write no session
abbrev pub other_calls : List Call
other_calls =
    call (codes "edit") (codes "MIDI GRAMMAR") (of_inputs (answer talk.Editing))
    ∷ call (codes "studio") (codes "MIDI GRAMMAR") (of_inputs (answer talk.Studio))
    ∷ call (codes "fit") (codes "MIDI GRAMMAR BAR LOW HIGH STEP, with BAR from 0 to 4096, LOW and HIGH from 0 to 2000000000, LOW no more than HIGH, and STEP from 1 to 2000000000") (λ o script. of_six (fit_by o script))
    ∷ call (codes "follow") (codes "MIDI GRAMMAR") (of_inputs follow)
    ∷ call (codes "learn") (codes "BIT GRAMMAR MIDI..., with BIT from 1 to 10000, and 1 to 256 MIDI files") (λ o script words. untold o script (learn_by words))
    ∷ call (codes "notes") (codes "MIDI") (λ o script words. unscripted script (of_one (λ a. Some (notes a o)) words))
    ∷ call (codes "events") (codes "KERN") (λ o script words. untold o script (of_one (λ a. Some (events a)) words))
    ∷ call (codes "generate") (codes "NUMBER BARS, with NUMBER from 0 to 65534 and BARS from 1 to 2000") (λ o script words. untold o script (of_two generate_by words))
    ∷ call (codes "drill") (codes "NUMBER GRAMMAR, with NUMBER from 0 to 65534") (λ o script words. untold o script (of_two drill_by words))
    ∷ []

-- the commands
abbrev pub calls : List Call
calls = map form_call forms ++ other_calls

-- what the call of this word has
abbrev pub at_word : {X : Type 0} → (Call → Option X) → List ℕ → List Call → Option X
at_word f word [] = None
at_word f word (c ∷ more) = if pointwise nat_eq word c.word then f c else at_word f word more

-- the command of the words that are no option, by what is told of a take and the script file
abbrev pub command_by : Options → Option (List ℕ) → List (List ℕ) → Option Asked
command_by o script [] = None
command_by o script (word ∷ more) = at_word (λ c. c.asked o script more) word calls

-- what the words after this one are, where it is the word of a command
abbrev pub words_after : List ℕ → Option (List ℕ)
words_after word = at_word (λ c. Some c.after) word calls

-- the word, with some words after it, is a command
abbrev pub IsCommandWord : List ℕ → Type 0
IsCommandWord word = (more : List (List ℕ)) × IsSome (command_by no_options None (word ∷ more))

-- what is asked for, whatever the number of workers is
abbrev pub asked_of : Invocation → Option Asked
asked_of invocation.Help = Some help
asked_of invocation.Version = Some version
asked_of (invocation.Command line) = command_by line.options (slice_get line.script 0) line.words

-- the number of workers that the words say, 1 to 16: that of the option, and 1 without it
abbrev pub workers_asked : Invocation → ℕ
workers_asked invocation.Help = 1
workers_asked invocation.Version = 1
workers_asked (invocation.Command line) = line.workers

-- what the words ask for. Where they are plain they are never refused by `clap`, so nothing is asked for exactly where the number of
-- workers is none of 1 to 16 or the words without the option are no command. What is told of a take is told only to the commands that
-- read one MIDI file
unfoldable pub asked_by : List (List ℕ) → Option Asked
asked_by words = option_and_then asked_of (invocation_of words)

-- a request as contracts see it
abbrev pub shown_request : Request → Asked
shown_request request.Help = help
shown_request request.Version = version
shown_request (request.Write form inputs) = write form (shown_inputs inputs)
shown_request (request.Answer talk inputs) = answer talk (shown_inputs inputs)
shown_request (request.Fit inputs among) = fit (shown_inputs inputs) among
shown_request (request.TooManyCandidates count) = too_many_candidates count
shown_request (request.Learn bit grammar words) = learn bit grammar.now (drop 3 words.now)
shown_request (request.TooManyFiles count) = too_many_files count
shown_request (request.Follow inputs) = follow (shown_inputs inputs)
shown_request (request.Notes midi options) = notes midi.now options
shown_request (request.Events kern) = events kern.now
shown_request (request.Generate number bars) = generate number bars
shown_request (request.Drill number grammar) = drill number grammar.now

-- the same, where there is one
abbrev pub shown_asked : Option Request → Option Asked
shown_asked asked = option_map shown_request asked

-- a text is asked for, and no answer to a script
abbrev pub AsksForText : Request → Type 0
AsksForText (request.Answer talk inputs) = ⊥
AsksForText _ = ⊤

-- the words ask for this request, by what is told of a take and the script file
abbrev pub AsksBy : Options → Option (Bor (List ℕ)) → List (Bor (List ℕ)) → Option Request → Type 0
AsksBy o script words asked = shown_asked asked ≡ command_by o (shown_name script) (map (λ w. w.now) words)

-- so do the word of a command on inputs, their names, and more words
abbrev pub AsksOn : code.Inputs → Bor (List ℕ) → List (Bor (List ℕ)) → Option Request → Type 0
AsksOn i word more = AsksBy i.options i.script (word ∷ i.midi ∷ i.grammar ∷ more)

-- the ticks from the lowest to the highest, by a step, are ticks of a performance
pub record AreTicks (c : Candidates) : Type 0 where
  pub order : c.low ≤ c.high
  pub high : c.high ≤ LATEST_TICK
  pub step : 1 ≤ c.step

-- the candidates of a barline that are tried
pub record AreCandidates (c : Candidates) : Type 0 where
  pub order : c.low ≤ c.high
  pub high : c.high ≤ LATEST_TICK
  pub step : 1 ≤ c.step
  pub few : (c.high - c.low) / c.step < MOST_CANDIDATES

-- the numbers of a request lie in their ranges
abbrev pub IsRequestInRange : Request → Type 0
IsRequestInRange (request.Write form inputs) = AreInRange inputs.options
IsRequestInRange (request.Answer talk inputs) = AreInRange inputs.options
IsRequestInRange (request.Fit inputs among) = AreInRange inputs.options × AreCandidates among
IsRequestInRange (request.Follow inputs) = AreInRange inputs.options
IsRequestInRange (request.Notes midi options) = AreInRange options
IsRequestInRange (request.Generate number bars) = (number ≤ 65534) × (1 ≤ bars) × (bars ≤ 2000)
IsRequestInRange (request.Drill number grammar) = number ≤ 65534
IsRequestInRange (request.Learn bit grammar words) = (1 ≤ bit) × (bit ≤ HEAVIEST_BIT) × (length words.now ≤ MOST_FILES + 3)
IsRequestInRange _ = ⊤
