use Rattle.std.proofs.Common.{◌≡◌, Ok, refl, ap, subst, sym, arith}
use Rattle.std.specs.Prelude.{Err, IsOk}
use Rattle.edit_laws.proofs.EditedCounts.{edited_cells, edited_notes, edited_starts}
use Rattle.edit_laws.specs.Edits.{edit_tests, edited, first_refusal, performance_after}
use Rattle.edit_laws.proofs.Edited.{made}
use Rattle.rhythm_base.specs.Voices.{HasStarts}
use Rattle.edit_session.specs.ChangedVoices.{LeavesOthers, changed_channel}
use Rattle.edit_session.specs.Session.{Session}
use Rattle.edit_session.proofs.EditEffects.{unprepared_memory, vain_memory, vain_none}
use Rattle.edit_session.proofs.OtherVoices.{edited_leaves, edited_times}
use Rattle.edit_session.proofs.session.Session.prepare.Goals as goal

pub prepare_next-requires-clause-starts : goal.prepare_next-requires-clause-starts
prepare_next-requires-clause-starts g c κs within =
    subst (λ (s : Session). HasStarts s.grammar c.in-Ok.next.bars) c.self.view_is
    (edited_starts c.self.inside.grammar c.self.inside.performance c.in-Ok.next c.args.edit.now c.in-Ok.ensures.ok c.self.invariant.starts)

pub prepare_next-requires-clause-few_cells : goal.prepare_next-requires-clause-few_cells
prepare_next-requires-clause-few_cells g c κs within = edited_cells c.self.inside.performance c.in-Ok.next c.args.edit.now c.in-Ok.ensures.ok c.self.invariant.few_cells

pub prepare_next-requires-clause-few_notes : goal.prepare_next-requires-clause-few_notes
prepare_next-requires-clause-few_notes g c κs within = edited_notes c.self.inside.performance c.in-Ok.next c.args.edit.now c.in-Ok.ensures.ok c.self.invariant.few_notes

-- ---- it is not made ready

pub returns-in-Err-clause-refused : goal.returns-in-Err-clause-refused
returns-in-Err-clause-refused g c = record {
  refused = λ other. subst (λ (s : Session). edited s.performance c.args.edit.now ≡ Err c.in-Err.fault) c.self.view_is (c.in-Err.ensures.refused c.in-Err.fault refl other);
  memory = λ e. subst (λ (s : Session). IsOk (edited s.performance c.args.edit.now)) c.self.view_is (c.in-Err.ensures.memory (ap Err e));
}

pub returns-in-Err-clause-built : goal.returns-in-Err-clause-built
returns-in-Err-clause-built g c =
    let s : Session = c.args.self.now in (
      0,
      omega arith,
      vain_none s.grammar s.performance c.args.edit.now c.in-Err.fault
          (λ other. subst (λ (t : Session). edited t.performance c.args.edit.now ≡ Err c.in-Err.fault) c.self.view_is (c.in-Err.ensures.refused c.in-Err.fault refl other)),
    )

pub returns-in-Err-prepare_next-clause-refused : goal.returns-in-Err-prepare_next-clause-refused
returns-in-Err-prepare_next-clause-refused g c =
    let s : Session = c.args.self.now in
    let is : edited s.performance c.args.edit.now ≡ Ok c.in-Ok.next = subst (λ (t : Session). edited t.performance c.args.edit.now ≡ Ok c.in-Ok.next) c.self.view_is c.in-Ok.ensures.ok in
    unprepared_memory s.performance c.in-Ok.next c.args.edit.now is

pub returns-in-Err-prepare_next-clause-built : goal.returns-in-Err-prepare_next-clause-built
returns-in-Err-prepare_next-clause-built g c =
    let s : Session = c.args.self.now in
    let is : edited s.performance c.args.edit.now ≡ Ok c.in-Ok.next = subst (λ (t : Session). edited t.performance c.args.edit.now ≡ Ok c.in-Ok.next) c.self.view_is c.in-Ok.ensures.ok in
    let most = c.prepare_next.ensures.most in
    (most.0, most.1, vain_memory s.grammar s.performance c.args.edit.now c.in-Ok.next most.0 is most.2)

-- ---- what is asked of the performance after it

pub prepare_next-requires-clause-after : goal.prepare_next-requires-clause-after
prepare_next-requires-clause-after g c κs within =
    let p = c.self.inside.performance in
    let edit = c.args.edit.now in
    let after = made (performance_after p edit) c.in-Ok.next (first_refusal (edit_tests p edit)) c.in-Ok.ensures.ok in
    subst (λ (s : Session). c.in-Ok.next ≡ performance_after s.performance edit) c.self.view_is (sym after.1)

pub prepare_next-requires-clause-others : goal.prepare_next-requires-clause-others
prepare_next-requires-clause-others g c κs within =
    let kept = edited_leaves c.self.inside.performance c.in-Ok.next c.args.edit.now c.self.invariant.formed c.in-Ok.ensures.ok in
    subst (λ (s : Session). LeavesOthers (changed_channel c.args.edit.now) s.performance c.in-Ok.next) c.self.view_is kept

pub prepare_next-requires-clause-tempos : goal.prepare_next-requires-clause-tempos
prepare_next-requires-clause-tempos g c κs within =
    subst (λ (s : Session). c.in-Ok.next.tempos ≡ s.performance.tempos) c.self.view_is (edited_times c.self.inside.performance c.in-Ok.next c.args.edit.now c.in-Ok.ensures.ok).0

pub prepare_next-requires-clause-division : goal.prepare_next-requires-clause-division
prepare_next-requires-clause-division g c κs within =
    subst (λ (s : Session). c.in-Ok.next.division ≡ s.performance.division) c.self.view_is (edited_times c.self.inside.performance c.in-Ok.next c.args.edit.now c.in-Ok.ensures.ok).1
