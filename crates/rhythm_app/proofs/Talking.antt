-- The answering of a script over what is lent.
use Rattle.std.proofs.Common.{◌≡◌, ◌≤◌, ◌∙◌, ap, arith, inr, refl, sym, subst, IfErr, OnOk, Some, Result, Ok, Err}
use Rattle.edit_session.specs.Session.{Session}
use Rattle.rhythm_app.specs.Asked.{Asked, answer}
use Rattle.rhythm_app.specs.Ends.{IsBrokenOff, IsTalkDone, IsPerformed, IsErrUntouched, IsUntouched, KeepsRest, desk_of}
use Rattle.rhythm_app.specs.Inputs.{Inputs}
use Rattle.rhythm_app.specs.Lent.{Lent}
use Rattle.rhythm_app.specs.Stages.{HasSession}
use Rattle.rhythm_app.specs.Stops.{script_stop}
use Rattle.rhythm_app.specs.declared.request.Talk.{Talk}
use Rattle.rhythm_app.specs.declared.stop.Stop.{Stop}
use Rattle.rhythm_app.specs.declared.stop.Stop.TheVariants as stop
use Rattle.rhythm_app.proofs.Performing.{kept_rest, silent_alone, untouched}
use Rattle.rhythm_app.proofs.Stops.{script_built, script_cause, script_known, script_risen, script_taken}
use Rattle.rhythm_app.proofs.Unopened.{inputs_partly}
use Rattle.rhythm_base.specs.Counter.{risen}
use Rattle.rhythm_base.specs.Grammar.{Grammar}
use Rattle.rhythm_base.specs.Performance.{Performance}
use Rattle.rhythm_ports.specs.Causes.{Rose}
use Rattle.script_run.specs.Desk.{Desk}
use Rattle.script_run.specs.Editing.{Editing, begun_on}
use Rattle.script_run.specs.Ends as script
use Rattle.script_run.specs.declared.script_stop.ScriptStop.{ScriptStop}
use Rattle.script_run.specs.declared.script_stop.ScriptStop.TheVariants as stops

not_stopped : {T : Type 0} (x : T) → ◌≡◌ {A = Result T Stop} (Ok x) (Err stop.Usage) → ⊥
not_stopped x e = cc

same_stop : {T : Type 0} (s : Stop) → ◌≡◌ {A = Result T Stop} (Err s) (Err stop.Usage) → s ≡ stop.Usage
same_stop s e = cc

module _ {S O E : Type 0} where
  module _ (seen old new : Lent S O E) (t : Talk) (g : Grammar) (p : Performance) (desk : Desk) (same : seen ≡ old) (is : desk ≡ desk_of t g p) where
    pub done_seen : {T F : Type 0} (r : Result T F)
        → OnOk r ((last : Editing) × script.IsDone desk seen.rest new.rest seen.taken new.taken last × (new.built ≡ risen seen.built last.built))
        → OnOk r ((last : Editing) × IsTalkDone old new t g p last × (new.built ≡ risen old.built last.built))
    done_seen (Ok x) h =
        subst (λ (l : Lent S O E). (last : Editing) × IsTalkDone l new t g p last × (new.built ≡ risen l.built last.built)) same
        (subst (λ (d : Desk). (last : Editing) × script.IsDone d seen.rest new.rest seen.taken new.taken last × (new.built ≡ risen seen.built last.built)) is h)
    done_seen (Err e) h = tt

    pub broken_seen : {T : Type 0} (r : Result T ScriptStop)
        → IfErr r (λ end. (last : Editing) × script.IsScriptStopped end desk seen.rest new.rest seen.taken new.taken last × (new.built ≡ risen seen.built last.built))
        → IfErr r (λ end. (last : Editing) × IsBrokenOff end old new t g p last × (new.built ≡ risen old.built last.built))
    broken_seen (Ok x) h = tt
    broken_seen (Err end) h =
        subst (λ (l : Lent S O E). (last : Editing) × IsBrokenOff end l new t g p last × (new.built ≡ risen l.built last.built)) same
        (subst (λ (d : Desk). (last : Editing) × script.IsScriptStopped end d seen.rest new.rest seen.taken new.taken last × (new.built ≡ risen seen.built last.built)) is h)

  -- there is not enough memory for what answers the script
  pub no_desk : (l : Lent S O E) (t : Talk) (g : Grammar) (p : Performance) (end : ScriptStop) → end ≡ stops.Memory
      → (last : Editing) × IsBrokenOff end l l t g p last × (l.built ≡ risen l.built last.built)
  no_desk l t g p end is =
      subst (λ (x : ScriptStop). (last : Editing) × IsBrokenOff x l l t g p last × (l.built ≡ risen l.built last.built)) (sym is)
      (begun_on (desk_of t g p), (refl, refl, refl), omega arith)

  -- after the session is had, a script is answered: what holds of the files, the counters and err
  module _ (t : Talk) (i : Inputs) (old mid new : Lent S O E) (s : Session) (h : HasSession t i old mid (Ok s)) where
    abbrev asked : Asked
    asked = answer t i

    answered_rest : (new.files ≡ mid.files) × (new.strays ≡ mid.strays) × (new.shelf_faults ≡ mid.shelf_faults) → mid.built ≤ new.built → mid.multiplied ≤ new.multiplied
        → KeepsRest (Some asked) old new
    answered_rest files built multiplied =
        let kept = kept_rest (Some asked) old mid (Ok s) h.before in
        record {
          files = files.0 ∙ kept.files;
          strays = λ fs are names. files.1 ∙ kept.strays fs are names;
          script = λ none. absurd none;
          built = omega (arith, built, kept.built);
          multiplied = omega (arith, multiplied, kept.multiplied);
        }

    -- the script and what out has taken are as they were when the session was had
    abbrev mid_told : Type 0
    mid_told = (mid.rest ≡ old.rest) × (mid.taken ≡ old.taken)

    told : mid_told
    told = (ap (λ (l : Lent S O E). l.rest) h.before.alone, ap (λ (l : Lent S O E). l.taken) h.before.alone)

    from_old : (P : Lent S O E → Type 0) → P mid → P (record old { strays = mid.strays; shelf_faults = mid.shelf_faults; built = mid.built; multiplied = mid.multiplied })
    from_old P x = subst P h.before.alone x

    done_old : (last : Editing) → IsTalkDone mid new t s.grammar s.performance last → IsTalkDone old new t s.grammar s.performance last
    done_old last done = from_old (λ l. IsTalkDone l new t s.grammar s.performance last) done

    broken_old : (e : ScriptStop) (last : Editing) → IsBrokenOff e mid new t s.grammar s.performance last → IsBrokenOff e old new t s.grammar s.performance last
    broken_old e last broken = from_old (λ l. IsBrokenOff e l new t s.grammar s.performance last) broken

    -- the script is answered to its end, or to `quit`
    pub answered : {T : Type 0} (x : T) → ((last : Editing) × IsTalkDone mid new t s.grammar s.performance last × (new.built ≡ risen mid.built last.built))
        → (new.files ≡ mid.files) × (new.strays ≡ mid.strays) × (new.shelf_faults ≡ mid.shelf_faults) → mid.built ≤ new.built → mid.multiplied ≤ new.multiplied → IsErrUntouched mid new
        → IsPerformed (Some asked) old new {T = T} (Ok x)
    answered {T} x (last, done, more) files built multiplied err = record {
      known = λ e. absurd (not_stopped {T = T} x e);
      done = λ fs are. inr (
        t,
        s.grammar,
        s.performance,
        last,
        h.ready fs are,
        done_old last done,
        (mid.built, h.all fs are, more),
      );
      stopped = tt;
      rest = answered_rest files built multiplied;
      err = let none = silent_alone old mid h.before.alone in (err.0 ∙ none.0, err.1 ∙ none.1, err.2 ∙ none.2);
    }

    -- the answering stopped
    pub broken_off : {T : Type 0} (e : ScriptStop) → ((last : Editing) × IsBrokenOff e mid new t s.grammar s.performance last × (new.built ≡ risen mid.built last.built))
        → (e ≡ stops.Read → Rose mid.script_faults new.script_faults) → (e ≡ stops.Write → Rose mid.out_faults new.out_faults) → (e ≡ stops.Memory → IsUntouched mid new)
        → (new.files ≡ mid.files) × (new.strays ≡ mid.strays) × (new.shelf_faults ≡ mid.shelf_faults) → mid.built ≤ new.built → mid.multiplied ≤ new.multiplied → IsErrUntouched mid new
        → IsPerformed (Some asked) old new {T = T} (Err (script_stop e))
    broken_off {T} e (last, broken, more) read write memory files built multiplied err = record {
      known = λ is. absurd (script_known e (same_stop {T = T} (script_stop e) is));
      done = tt;
      stopped = record {
        cause = λ fs are. script_cause asked fs t s.grammar s.performance e (h.ready fs are);
        risen = script_risen old new e (λ is. subst (λ n. Rose n new.script_faults) (ap (λ (l : Lent S O E). l.script_faults) h.before.alone) (read is))
            (λ is. subst (λ n. Rose n new.out_faults) (ap (λ (l : Lent S O E). l.out_faults) h.before.alone) (write is));
        took = script_taken old new (Some asked) e (λ fs are. (
          e,
          refl,
          (
            t,
            s.grammar,
            s.performance,
            last,
            h.ready fs are,
            broken_old e last broken,
            (mid.built, h.all fs are, more),
          ),
        )) (λ is. let none = memory is in let first = untouched old mid h.before.alone in (none.0 ∙ first.0, none.1 ∙ first.1));
        nothing = λ none _. absurd none;
        built = script_built old.built mid new old.files i t s.grammar s.performance e last more broken (λ fs are. inputs_partly i fs old.built mid.built (h.all fs are));
      };
      rest = answered_rest files built multiplied;
      err = let none = silent_alone old mid h.before.alone in (err.0 ∙ none.0, err.1 ∙ none.1, err.2 ∙ none.2);
    }
