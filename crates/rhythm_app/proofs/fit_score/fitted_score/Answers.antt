use Rattle.std.proofs.Common.{rules, ◌∷◌, [], IfOk, subst}
use Rattle.kern_writer.specs.PerformanceText.{HasTooLongText, IsTextOf}
use Rattle.rhythm_base.specs.Grammar.{Grammar}
use Rattle.rhythm_base.specs.declared.edit.Edit.TheVariants.{Barline}
use Rattle.barline_fit.proofs.Settable.{room_enough, set_in_range}
use Rattle.barline_fit.proofs.Tries.{back_again, back_lives, back_well, both_ok, built_by, built_some, built_within, stays}
use Rattle.rhythm_app.proofs.fit_score.fitted_score.Goals as goal

pub make_edit-requires : goal.make_edit-requires
make_edit-requires g c =
    let accepted = c.requires.accepted.1 in
    let range = set_in_range c.args.session.now.performance accepted.next c.args.candidate.bar c.args.candidate.tick c.performance-before.ensures.formed accepted.made in
    search (rules, range)

-- ---- the barline is set and taken back

pub take_back-back-requires-clause-suits : goal.take_back-back-requires-clause-suits
take_back-back-requires-clause-suits g c κs within = c.in-Ok.ensures.way_back.suits

pub take_back-back-requires-clause-formed : goal.take_back-back-requires-clause-formed
take_back-back-requires-clause-formed g c κs within =
    back_well c.args.session.now c.make_edit.new.self c.in-Ok.made.back c.in-Ok.ensures.way_back c.performance-before.ensures.formed

pub take_back-back-requires-clause-derivations : goal.take_back-back-requires-clause-derivations
take_back-back-requires-clause-derivations g c κs within =
    back_lives c.args.session.now c.make_edit.new.self (Barline c.args.candidate.bar c.args.candidate.tick) c.in-Ok.made.applied c.in-Ok.made.back c.in-Ok.ensures.made c.in-Ok.ensures.way_back
    c.performance-before.ensures.derivations

pub take_back-back-requires-clause-room : goal.take_back-back-requires-clause-room
take_back-back-requires-clause-room g c κs within = c.in-Ok.ensures.way_back.room

pub returns-in-Ok-clause-same : goal.returns-in-Ok-clause-same
returns-in-Ok-clause-same g c =
    back_again c.args.session.now c.make_edit.new.self c.take_back-back.new.self (Barline c.args.candidate.bar c.args.candidate.tick) c.in-Ok.made.applied c.in-Ok.made.back
    c.take_back-back.result c.in-Ok.ensures.made c.in-Ok.ensures.way_back c.take_back-back.ensures.made
    (room_enough c.args.session.now c.args.candidate.bar c.args.candidate.tick c.performance-before.ensures.room)

pub returns-in-Ok-clause-text : goal.returns-in-Ok-clause-text
returns-in-Ok-clause-text g c =
    let made = c.in-Ok.ensures.made in
    let text = subst (λ (x : Grammar). IfOk c.score-score.result (λ v. IsTextOf x c.make_edit.new.self.performance v.items)) made.still.grammar c.score-score.ensures.text in
    both_ok c.score-score.result _ _ _ (λ v is short. (c.make_edit.new.self.performance, made.made.1.made, (is, short))) text c.score-score.ensures.short

pub returns-in-Ok-clause-too_long : goal.returns-in-Ok-clause-too_long
returns-in-Ok-clause-too_long g c = λ line is.
    let made = c.in-Ok.ensures.made in
    let long = c.score-score.ensures.too_long line is in (
      c.make_edit.new.self.performance,
      made.made.1.made,
      subst (λ (x : Grammar). HasTooLongText x c.make_edit.new.self.performance line) made.still.grammar long,
    )

pub returns-in-Ok-clause-builds : goal.returns-in-Ok-clause-builds
returns-in-Ok-clause-builds g c = λ some_memory.
    built_by c.args.session.now c.args.candidate.bar c.args.candidate.tick c.make_edit.new.self c.in-Ok.made.applied c.args.builds.now c.make_edit.new.builds c.in-Ok.ensures.made c.in-Ok.ensures.builds

pub returns-in-Ok-clause-most : goal.returns-in-Ok-clause-most
returns-in-Ok-clause-most g c =
    built_within c.args.session.now.grammar c.args.session.now.performance c.args.candidate.bar (c.args.candidate.tick ∷ []) c.args.builds.now c.make_edit.new.builds
    (built_by c.args.session.now c.args.candidate.bar c.args.candidate.tick c.make_edit.new.self c.in-Ok.made.applied c.args.builds.now c.make_edit.new.builds c.in-Ok.ensures.made c.in-Ok.ensures.builds)

-- ---- memory is wanting

pub returns-in-Memory-clause-same : goal.returns-in-Memory-clause-same
returns-in-Memory-clause-same g c =
    stays c.args.session.now c.make_edit.new.self (Barline c.args.candidate.bar c.args.candidate.tick) c.in-Err.fault c.in-Err.ensures.rejected
    (room_enough c.args.session.now c.args.candidate.bar c.args.candidate.tick c.performance-before.ensures.room)

pub returns-in-Memory-clause-most : goal.returns-in-Memory-clause-most
returns-in-Memory-clause-most g c =
    built_some c.args.session.now c.args.candidate.bar c.args.candidate.tick c.in-Err.fault c.args.builds.now c.make_edit.new.builds c.in-Err.ensures.built

pub unreachable-requires : goal.unreachable-requires
unreachable-requires g c =
    let accepted = c.requires.accepted.1 in
    c.in-Err.ensures.rejected.never c.in_default.not-Memory accepted.next accepted.made accepted.derivations
