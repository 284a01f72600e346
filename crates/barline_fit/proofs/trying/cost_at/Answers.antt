use Rattle.std.proofs.Common.{◌∷◌, [], arith}
use Rattle.edit_session.proofs.SessionProducts.{memory_idles}
use Rattle.rhythm_base.specs.declared.edit.Edit.TheVariants.{Barline}
use Rattle.barline_fit.proofs.Settable.{room_enough}
use Rattle.barline_fit.proofs.Tries.{accepted_by, back_again, back_lives, back_well, built_by, built_in_vain, built_some, built_within, stays, tried_in_vain}
use Rattle.barline_fit.proofs.trying.cost_at.Goals as goal

-- ---- the barline is set and taken back

pub take_back-back-requires-clause-suits : goal.take_back-back-requires-clause-suits
take_back-back-requires-clause-suits g c κs within = c.in-Ok.ensures.way_back.suits

pub take_back-back-requires-clause-formed : goal.take_back-back-requires-clause-formed
take_back-back-requires-clause-formed g c κs within = back_well c.args.session.now c.make_edit.new.self c.in-Ok.made.back c.in-Ok.ensures.way_back c.requires.formed

pub take_back-back-requires-clause-derivations : goal.take_back-back-requires-clause-derivations
take_back-back-requires-clause-derivations g c κs within =
    back_lives c.args.session.now c.make_edit.new.self (Barline c.args.candidate.bar c.args.candidate.tick) c.in-Ok.made.applied c.in-Ok.made.back c.in-Ok.ensures.made c.in-Ok.ensures.way_back c.requires.derivations

pub take_back-back-requires-clause-room : goal.take_back-back-requires-clause-room
take_back-back-requires-clause-room g c κs within = c.in-Ok.ensures.way_back.room

pub returns-in-Ok-clause-cost : goal.returns-in-Ok-clause-cost
returns-in-Ok-clause-cost g c = accepted_by c.args.session.now c.args.candidate.bar c.args.candidate.tick c.make_edit.new.self c.in-Ok.made.applied c.in-Ok.ensures.made

pub returns-in-Ok-clause-same : goal.returns-in-Ok-clause-same
returns-in-Ok-clause-same g c =
    back_again c.args.session.now c.make_edit.new.self c.take_back-back.new.self (Barline c.args.candidate.bar c.args.candidate.tick) c.in-Ok.made.applied c.in-Ok.made.back
    c.take_back-back.result c.in-Ok.ensures.made c.in-Ok.ensures.way_back c.take_back-back.ensures.made
    (room_enough c.args.session.now c.args.candidate.bar c.args.candidate.tick c.requires.room)

pub returns-in-Ok-clause-builds : goal.returns-in-Ok-clause-builds
returns-in-Ok-clause-builds g c =
    built_by c.args.session.now c.args.candidate.bar c.args.candidate.tick c.make_edit.new.self c.in-Ok.made.applied c.args.builds.now c.make_edit.new.builds c.in-Ok.ensures.made c.in-Ok.ensures.builds

pub returns-in-Ok-clause-most : goal.returns-in-Ok-clause-most
returns-in-Ok-clause-most g c =
    built_within c.args.session.now.grammar c.args.session.now.performance c.args.candidate.bar (c.args.candidate.tick ∷ []) c.args.builds.now c.make_edit.new.builds
    (built_by c.args.session.now c.args.candidate.bar c.args.candidate.tick c.make_edit.new.self c.in-Ok.made.applied c.args.builds.now c.make_edit.new.builds c.in-Ok.ensures.made c.in-Ok.ensures.builds)

pub returns-in-Ok-clause-products : goal.returns-in-Ok-clause-products
returns-in-Ok-clause-products g c =
    let there = c.in-Ok.ensures.products.rises in
    let back = c.take_back-back.ensures.products.rises in
    (omega (arith, there, back), tt)

-- ---- the edit is refused

pub returns-in-Memory-clause-memory : goal.returns-in-Memory-clause-memory
returns-in-Memory-clause-memory g c = c.in-Err.ensures.rejected.memory c.in-Memory.is

pub returns-in-Memory-clause-same : goal.returns-in-Memory-clause-same
returns-in-Memory-clause-same g c =
    stays c.args.session.now c.make_edit.new.self (Barline c.args.candidate.bar c.args.candidate.tick) c.in-Err.fault c.in-Err.ensures.rejected
    (room_enough c.args.session.now c.args.candidate.bar c.args.candidate.tick c.requires.room)

pub returns-in-Memory-clause-most : goal.returns-in-Memory-clause-most
returns-in-Memory-clause-most g c =
    built_some c.args.session.now c.args.candidate.bar c.args.candidate.tick c.in-Err.fault c.args.builds.now c.make_edit.new.builds c.in-Err.ensures.built

pub returns-in-Memory-clause-products : goal.returns-in-Memory-clause-products
returns-in-Memory-clause-products g c =
    let is = c.in-Err.ensures.products in (is.rises, memory_idles c.in-Err.fault c.in-Memory.is is)

pub returns-clause-cost : goal.returns-clause-cost
returns-clause-cost g c =
    tried_in_vain c.args.session.now c.args.candidate.bar c.args.candidate.tick c.make_edit.new.self c.in-Err.fault c.in_default.not-Memory c.in-Err.ensures.rejected

pub returns-clause-same : goal.returns-clause-same
returns-clause-same g c =
    stays c.args.session.now c.make_edit.new.self (Barline c.args.candidate.bar c.args.candidate.tick) c.in-Err.fault c.in-Err.ensures.rejected
    (room_enough c.args.session.now c.args.candidate.bar c.args.candidate.tick c.requires.room)

pub returns-clause-builds : goal.returns-clause-builds
returns-clause-builds g c =
    built_in_vain c.args.session.now c.args.candidate.bar c.args.candidate.tick c.in-Err.fault c.args.builds.now c.make_edit.new.builds c.in_default.not-Memory c.in-Err.ensures.built

pub returns-clause-most : goal.returns-clause-most
returns-clause-most g c =
    built_some c.args.session.now c.args.candidate.bar c.args.candidate.tick c.in-Err.fault c.args.builds.now c.make_edit.new.builds c.in-Err.ensures.built

pub returns-clause-products : goal.returns-clause-products
returns-clause-products g c = (c.in-Err.ensures.products.rises, tt)
