-- By how much a run raises the counter of builds.
use Rattle.std.specs.Prelude.{◌≡◌, ℕ, ◌≤◌, ◌⊎◌, List, [], ◌∷◌, Result, Ok, Err, Option, Vec, ⊤}
use Rattle.std.specs.Option.{ForSome}
use Rattle.barline_fit.specs.Builds.{AreReachedAt, AreWithinReach}
use Rattle.barline_fit.specs.Candidates.{ticks_of}
use Rattle.barline_fit.specs.Fitted.{IsFitted}
use Rattle.barline_fit.specs.declared.candidates.Candidates.{Candidates}
use Rattle.barline_fit.specs.declared.fitted.Fitted.{Fitted}
use Rattle.barline_follow.specs.Searched.{AreBuiltToFollow}
use Rattle.barline_follow.specs.Builds.{AreMostBuilt}
use Rattle.drill_run.specs.Ends.{HasDrilled, IsDrillBrokenOff}
use Rattle.drill_run.specs.declared.drill_stop.DrillStop.{DrillStop}
use Rattle.drill_run.specs.declared.drill_stop.DrillStop.TheVariants as drill
use Rattle.edit_script.specs.ScriptLines.{script_lines}
use Rattle.edit_session.specs.Opening.{cells_of}
use Rattle.edit_session.specs.Prepared.{RisesBy}
use Rattle.edit_session.specs.Session.{Session}
use Rattle.rhythm_app.specs.Commands.{Cells, no_cells, cells_in, cells_fitted, cells_followed, cells_learned, cells_drilled}
use Rattle.rhythm_app.specs.Inputs.{Inputs, file_content}
use Rattle.rhythm_app.specs.Learning.{AreCellsBuilt, HasLearnedOf}
use Rattle.rhythm_app.specs.Outcome.{AreInputs, AreLoaded, IsPieceOf, IsUnderstood, Loaded}
use Rattle.rhythm_app.specs.Scripted.{AreLinesMade, MayHaveBuilt, Opened, Refused, opened_on}
use Rattle.rhythm_app.specs.declared.stop.Kind.TheVariants as kind
use Rattle.rhythm_app.specs.declared.stop.Stop.{Stop}
use Rattle.rhythm_app.specs.declared.stop.Stop.TheVariants.{FileTooLong, LineTooLong, NoDerivation, Read, ScoreTooLong, RenderTooLong, NoBarline, NoCandidate, ScriptLine, Write, Memory}
use Rattle.rhythm_base.specs.Counter.{risen}
use Rattle.rhythm_base.specs.Grammar.{Grammar}
use Rattle.rhythm_base.specs.Performance.{Performance}
use Rattle.rhythm_base.specs.declared.edit_fault.EditFault.{EditFault}
use Rattle.rhythm_ports.specs.Files.{File}

-- the files of inputs say this, and P holds of it
abbrev pub ForLoaded : Inputs → List File → (Loaded → Type 0) → Type 0
ForLoaded i files P = (x : Loaded) × AreLoaded i files (Ok x) × P x

-- inputs say this performance, after the edits of their script file, and P holds of it
abbrev pub ForInputs : Inputs → List File → (Opened → Type 0) → Type 0
ForInputs i files P = (o : Opened) × AreInputs i files (Ok o) × P o

-- the cells that a barline reaches at its candidates were built, one candidate after another
abbrev pub HasTried : Candidates → Grammar → Performance → ℕ → ℕ → Type 0
HasTried c g p old new = RisesBy old new (AreReachedAt g p c.bar (ticks_of c))

-- and then, for the score, those that it reaches at the fitted tick
abbrev pub HasFitted : Candidates → Grammar → Performance → ℕ → ℕ → Type 0
HasFitted c g p old new =
    (x : Fitted) × (mid : ℕ) × IsFitted g p c.bar (ticks_of c) x × HasTried c g p old mid × RisesBy mid new (AreReachedAt g p c.bar (x.tick ∷ []))

-- the same over a session
abbrev pub HasFittedAll : Candidates → Session → ℕ → ℕ → Type 0
HasFittedAll c s old new = HasFitted c s.grammar s.performance old new

-- no more of these were built
abbrev pub HasPartlyFitted : Candidates → Grammar → Performance → ℕ → ℕ → Type 0
HasPartlyFitted c g p old new =
    RisesBy old new (AreWithinReach g p c.bar (ticks_of c))
    ⊎ ((x : Fitted) × (mid : ℕ) × IsFitted g p c.bar (ticks_of c) x × HasTried c g p old mid × RisesBy mid new (AreWithinReach g p c.bar (x.tick ∷ [])))

-- the tables of the search for barlines that follow the player were built, and those of the trial of its script
abbrev pub HasFollowed : Grammar → Performance → ℕ → ℕ → Type 0
HasFollowed g p old new = RisesBy old new (AreBuiltToFollow g p)

-- the same over a session
abbrev pub HasFollowedOver : Session → ℕ → ℕ → Type 0
HasFollowedOver s old new = HasFollowed s.grammar s.performance old new

-- no more of these were built than there are at most
abbrev pub HasPartlyFollowed : Grammar → Performance → ℕ → ℕ → Type 0
HasPartlyFollowed g p old new = RisesBy old new (λ n. (most : ℕ) → AreMostBuilt g p most → n ≤ most)

-- the same over a session
abbrev pub HasPartlyFollowedOver : Session → ℕ → ℕ → Type 0
HasPartlyFollowedOver s old new = HasPartlyFollowed s.grammar s.performance old new

-- a grammar file and the number of a piece say this grammar and this performance, and P holds of them
abbrev pub ForPiece : List ℕ → ℕ → (Grammar → Performance → Type 0) → Type 0
ForPiece bytes number P = (g : Grammar) × (p : Performance) × IsUnderstood bytes (Ok g) × IsPieceOf number p × P g p

-- all cells of a piece were built, each once, and then those for the edits of its drill, which comes to this
abbrev pub AreDrilled : List ℕ → ℕ → Result (List ℕ) ℕ → ℕ → ℕ → Type 0
AreDrilled bytes number said old new = ForPiece bytes number (λ g p. HasDrilled g number p said (risen old (cells_of p)) new)

-- all cells of the command's performance were built, and then those for the edits of its script file. A fit builds, besides, those for its candidates, barlines that follow the player those
-- of the search for them, and a drill those for its edits. A command that has no cells leaves the counter as it was
abbrev pub HasBuiltAll : Cells → List File → ℕ → ℕ → Type 0
HasBuiltAll no_cells files old new = new ≡ old
HasBuiltAll (cells_in i) files old new = ForInputs i files (λ o. new ≡ risen old o.built)
HasBuiltAll (cells_fitted i c) files old new = ForInputs i files (λ o. HasFitted c o.grammar o.performance (risen old o.built) new)
HasBuiltAll (cells_followed i) files old new = ForInputs i files (λ o. HasFollowed o.grammar o.performance (risen old o.built) new)
HasBuiltAll (cells_learned midis) files old new = AreCellsBuilt files midis old new
HasBuiltAll (cells_drilled number grammar) files old new = (text : List ℕ) × AreDrilled (file_content files grammar) number (Ok text) old new

-- what holds of the cells by the stop: all of them are built where only a derivation is wanting, or the score or its MIDI file is too
-- long; some of them may be where memory is wanting; and none before any other stop. Where something was written before, more is known
-- by what was written
abbrev pub MatchBuilds : Type 0 → Type 0 → Type 0 → Stop → Type 0
MatchBuilds all some none (NoDerivation _ _) = all
MatchBuilds all some none (ScoreTooLong _) = all
MatchBuilds all some none (RenderTooLong _) = all
MatchBuilds all some none Memory = some
MatchBuilds all some none Write = ⊤
MatchBuilds all some none (Read kind.Script) = ⊤
MatchBuilds all some none (FileTooLong kind.Script _) = ⊤
MatchBuilds all some none (LineTooLong _) = ⊤
MatchBuilds all some none _ = none

-- the same of a performance on which a session is opened
abbrev pub HasBuiltFor : Performance → ℕ → ℕ → Stop → Type 0
HasBuiltFor p old new = MatchBuilds (new ≡ risen old (cells_of p)) (new ≤ risen old (cells_of p)) (new ≡ old)

-- ---- the cells of inputs

-- inputs say what P holds of, where the files are told
abbrev pub OfLoaded : Inputs → Option (List File) → (Loaded → Type 0) → Type 0
OfLoaded i files P = ForSome files (λ files. ForLoaded i files P)

abbrev pub OfInputs : Inputs → Option (List File) → (Opened → Type 0) → Type 0
OfInputs i files P = ForSome files (λ files. ForInputs i files P)

-- the cells of the performance as it is loaded were built, and no more
abbrev pub AreLoadedBuilt : ℕ → ℕ → Loaded → Type 0
AreLoadedBuilt old new x = new ≡ risen old (cells_of x.performance)

-- these, those for the edits of the lines before this one, which is refused, and those that its edit would have reached
abbrev pub AreBuiltToLine : ℕ → Option EditFault → ℕ → ℕ → Loaded → Type 0
AreBuiltToLine line fault old new x =
    (r : Refused) × AreLinesMade 1 (opened_on x.grammar x.performance) (script_lines x.script) (Err r) × (line ≡ r.line) × (fault ≡ r.fault) × (new ≡ risen old r.built)

-- some of the cells of the performance were built, or all of them and some of those for the edits
abbrev pub ArePartlyBuilt : ℕ → ℕ → Loaded → Type 0
ArePartlyBuilt old new x =
    (new ≤ risen old (cells_of x.performance)) ⊎ RisesBy old new (MayHaveBuilt (opened_on x.grammar x.performance) (script_lines x.script))

-- all cells were built of the performance that inputs say, and those for the edits of their script file
abbrev pub AreInputsBuilt : ℕ → ℕ → Opened → Type 0
AreInputsBuilt old new o = new ≡ risen old o.built

-- what holds of the cells of inputs by the stop: those of the performance are built where a derivation is wanting; those for the edits too,
-- up to a line that is refused, or all where the score or its MIDI file is too long; some where memory is wanting; and none before any other
-- stop. Where something was written before, more is known by what was written
abbrev pub MatchInputs : Type 0 → (ℕ → Option EditFault → Type 0) → Type 0 → Type 0 → Type 0 → Stop → Type 0
MatchInputs loaded line all some none (NoDerivation _ _) = loaded
MatchInputs loaded line all some none (ScriptLine n fault) = line n fault
MatchInputs loaded line all some none (ScoreTooLong _) = all
MatchInputs loaded line all some none (RenderTooLong _) = all
MatchInputs loaded line all some none Memory = some
MatchInputs loaded line all some none Write = ⊤
MatchInputs loaded line all some none (Read kind.Script) = ⊤
MatchInputs loaded line all some none (FileTooLong kind.Script _) = ⊤
MatchInputs loaded line all some none (LineTooLong _) = ⊤
MatchInputs loaded line all some none _ = none

-- the cells of inputs
abbrev pub HasBuiltOf : Inputs → Option (List File) → ℕ → ℕ → Stop → Type 0
HasBuiltOf i files old new =
    MatchInputs (OfLoaded i files (AreLoadedBuilt old new)) (λ n fault. OfLoaded i files (AreBuiltToLine n fault old new))
    (OfInputs i files (AreInputsBuilt old new)) ((new ≡ old) ⊎ OfLoaded i files (ArePartlyBuilt old new)) (new ≡ old)

-- what holds of the cells of a fit by the stop: as of those of inputs; all of these are built where the barline is wanting, and those
-- for the candidates too where no candidate is fitted; where the score is too long, those for it, too
abbrev pub MatchFitted : Type 0 → (ℕ → Option EditFault → Type 0) → Type 0 → Type 0 → Type 0 → Type 0 → Type 0 → Stop → Type 0
MatchFitted loaded line all tried fitted some none (NoDerivation _ _) = loaded
MatchFitted loaded line all tried fitted some none (ScriptLine n fault) = line n fault
MatchFitted loaded line all tried fitted some none (NoBarline _) = all
MatchFitted loaded line all tried fitted some none NoCandidate = tried
MatchFitted loaded line all tried fitted some none (ScoreTooLong _) = fitted
MatchFitted loaded line all tried fitted some none Memory = some
MatchFitted loaded line all tried fitted some none Write = ⊤
MatchFitted loaded line all tried fitted some none _ = none

-- the same of the fit of a barline over a session
abbrev pub HasFittedOver : Candidates → Session → ℕ → ℕ → Stop → Type 0
HasFittedOver c s old new =
    MatchFitted ⊥ (λ n fault. ⊥) (new ≡ old) (HasTried c s.grammar s.performance old new) (HasFitted c s.grammar s.performance old new)
    (HasPartlyFitted c s.grammar s.performance old new) ⊥

-- and of inputs, on which a session is opened
abbrev pub HasFittedOf : Inputs → Option (List File) → Candidates → ℕ → ℕ → Stop → Type 0
HasFittedOf i files c old new =
    MatchFitted (OfLoaded i files (AreLoadedBuilt old new)) (λ n fault. OfLoaded i files (AreBuiltToLine n fault old new))
    (OfInputs i files (AreInputsBuilt old new)) (OfInputs i files (λ o. HasTried c o.grammar o.performance (risen old o.built) new))
    (OfInputs i files (λ o. HasFitted c o.grammar o.performance (risen old o.built) new))
    ((new ≡ old) ⊎ OfLoaded i files (ArePartlyBuilt old new) ⊎ OfInputs i files (λ o. HasPartlyFitted c o.grammar o.performance (risen old o.built) new))
    (new ≡ old)

-- the same of barlines that follow the player
abbrev pub HasFollowedOf : Inputs → Option (List File) → ℕ → ℕ → Stop → Type 0
HasFollowedOf i files old new =
    MatchInputs (OfLoaded i files (AreLoadedBuilt old new)) (λ n fault. OfLoaded i files (AreBuiltToLine n fault old new))
    (OfInputs i files (AreInputsBuilt old new))
    ((new ≡ old) ⊎ OfLoaded i files (ArePartlyBuilt old new) ⊎ OfInputs i files (λ o. HasPartlyFollowed o.grammar o.performance (risen old o.built) new))
    (new ≡ old)

-- ---- the cells of a drill

-- what holds of the cells of a drill by the stop: as of those of a file, but where the last score is too long, those for the edits are
-- built, too; and where memory is wanting, some of these may be
abbrev pub MatchDrilled : Type 0 → (ℕ → Type 0) → Type 0 → Type 0 → Stop → Type 0
MatchDrilled all long some none (NoDerivation _ _) = all
MatchDrilled all long some none (ScoreTooLong line) = long line
MatchDrilled all long some none Memory = some
MatchDrilled all long some none Write = ⊤
MatchDrilled all long some none _ = none

-- some of the cells of a performance were built, or all of them and some of those for the edits of its drill
abbrev pub AreSomeDrilled : Grammar → ℕ → Performance → ℕ → ℕ → Type 0
AreSomeDrilled g number p old new = (new ≤ risen old (cells_of p)) ⊎ IsDrillBrokenOff g number p (risen old (cells_of p)) new

-- the drill of a number over a session came to this summary, and the cells for its edits were built
abbrev pub HasSummary : {A : Type 0} → Session → ℕ → ℕ → ℕ → Vec ℕ A → Type 0
HasSummary s number old new text = HasDrilled s.grammar number s.performance (Ok text.items) old new

-- its last score is too long, by this line of it, and the cells for its edits were built
abbrev pub HasLongScore : Session → ℕ → ℕ → ℕ → ℕ → Type 0
HasLongScore s number old new line = HasDrilled s.grammar number s.performance (Err line) old new

-- memory is wanting, and some of the cells for its edits were built
abbrev pub PartlyDrills : Session → ℕ → ℕ → ℕ → Type 0
PartlyDrills s number old new = IsDrillBrokenOff s.grammar number s.performance old new

-- a drill ends by a last score that is too long, by a line of which this holds
abbrev pub IfLongScore : {T : Type 0} → Result T DrillStop → (ℕ → Type 0) → Type 0
IfLongScore result P = (line : ℕ) → result ≡ Err (drill.ScoreTooLong line) → P line

-- all cells of a performance were built, and then those for the edits of its drill, which comes to this
abbrev pub HasDrilledAll : Grammar → ℕ → Performance → Result (List ℕ) ℕ → ℕ → ℕ → Type 0
HasDrilledAll g number p said old new = HasDrilled g number p said (risen old (cells_of p)) new

-- the drill of a performance came to this summary, and all its cells were built, and then those for the edits
abbrev pub HasSummaryOf : {A : Type 0} → Grammar → ℕ → Performance → ℕ → ℕ → Vec ℕ A → Type 0
HasSummaryOf g number p old new text = HasDrilledAll g number p (Ok text.items) old new

-- what holds of the cells of a drill of a performance by the stop
abbrev pub HasDrilledFor : Grammar → ℕ → Performance → ℕ → ℕ → Stop → Type 0
HasDrilledFor g number p old new =
    MatchDrilled (new ≡ risen old (cells_of p)) (λ line. HasDrilledAll g number p (Err line) old new) (AreSomeDrilled g number p old new) (new ≡ old)

-- the same of the cells of a drill by a grammar file
abbrev pub HasDrilledOf : Option (List File) → ℕ → List ℕ → ℕ → ℕ → Stop → Type 0
HasDrilledOf files number grammar old new =
    MatchDrilled (ForSome files (λ files. ForPiece (file_content files grammar) number (λ g p. new ≡ risen old (cells_of p))))
    (λ line. ForSome files (λ files. AreDrilled (file_content files grammar) number (Err line) old new))
    ((new ≡ old) ⊎ ForSome files (λ files. ForPiece (file_content files grammar) number (λ g p. AreSomeDrilled g number p old new))) (new ≡ old)

-- how many cells had been built when a run stopped: none by a command that has none
abbrev pub HasBuilt : Cells → Option (List File) → ℕ → ℕ → Stop → Type 0
HasBuilt no_cells files old new = λ stop. new ≡ old
HasBuilt (cells_in i) files old new = HasBuiltOf i files old new
HasBuilt (cells_fitted i c) files old new = HasFittedOf i files c old new
HasBuilt (cells_followed i) files old new = HasFollowedOf i files old new
HasBuilt (cells_learned midis) files old new = HasLearnedOf files midis old new
HasBuilt (cells_drilled number grammar) files old new = HasDrilledOf files number grammar old new
