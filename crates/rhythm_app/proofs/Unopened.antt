-- What is built of the cells of inputs where no session is had on them, and where one is.
use Rattle.std.proofs.Common.{◌≡◌, ◌⊎◌, ℕ, List, inl, inr, subst, sym, Option, Some, Result, Ok, Err}
use Rattle.edit_script.specs.ScriptLines.{script_lines}
use Rattle.rhythm_app.proofs.Scripting.{made_may}
use Rattle.rhythm_app.proofs.Stops.{early_inputs}
use Rattle.rhythm_app.specs.Builds.{AreInputsBuilt, ArePartlyBuilt, ForInputs, ForLoaded, HasBuiltOf, OfLoaded}
use Rattle.rhythm_app.specs.Inputs.{Inputs}
use Rattle.rhythm_app.specs.Outcome.{AreInputs, Loaded, refused_stop, stopped}
use Rattle.rhythm_app.specs.Scripted.{AreLinesMade, MayHaveBuilt, Opened, Refused, opened_on}
use Rattle.rhythm_app.specs.Stages.{IsBuiltUnopened, IsOpeningScripted}
use Rattle.rhythm_app.specs.declared.stop.Stop.{Stop}
use Rattle.rhythm_ports.specs.Files.{File}

-- no session is had
pub unopened_inputs : (i : Inputs) (fs : Option (List File)) (old new : ℕ) (s : Stop) → IsBuiltUnopened (OfLoaded i fs) old new s → HasBuiltOf i fs old new s
unopened_inputs i fs old new s (inl (early, same)) = early_inputs _ _ _ _ old new same s early
unopened_inputs i fs old new s (inr (inl (channel, bar, e, h))) = subst (HasBuiltOf i fs old new) (sym e) h
unopened_inputs i fs old new s (inr (inr (inl (line, fault, e, h)))) = subst (HasBuiltOf i fs old new) (sym e) h
unopened_inputs i fs old new s (inr (inr (inr (e, h)))) = subst (HasBuiltOf i fs old new) (sym e) (inr h)

-- edits that are all made
pub all_are_made : (o : Opened) (edits : Result Opened Refused) → ◌≡◌ {A = Result Opened Stop} (Ok o) (stopped refused_stop edits) → edits ≡ Ok o
all_are_made o (Ok x) e = cc
all_are_made o (Err x) e = absurd (cc)

-- after them as many cells are built as may be
pub scripted_partly : (x : Loaded) (o : Opened) (old new : ℕ) → IsOpeningScripted x (Ok o) → AreInputsBuilt old new o → ArePartlyBuilt old new x
scripted_partly x o old new (start, (can, is), (edits, made, e)) built =
    let same = all_are_made o edits e in
    let here : AreLinesMade 1 (opened_on x.grammar x.performance) (script_lines x.script) (Ok o) =
    subst (λ (s : Opened). AreLinesMade 1 s (script_lines x.script) (Ok o)) is (subst (λ (r : Result Opened Refused). AreLinesMade 1 start (script_lines x.script) r) same made) in
    inr (o.built, built, made_may 1 (opened_on x.grammar x.performance) (script_lines x.script) o here)

pub inputs_partly : (i : Inputs) (files : List File) (old new : ℕ) → ForInputs i files (AreInputsBuilt old new) → ForLoaded i files (ArePartlyBuilt old new)
inputs_partly i files old new (o, (x, loads, scripted), built) = (x, loads, scripted_partly x o old new scripted built)
