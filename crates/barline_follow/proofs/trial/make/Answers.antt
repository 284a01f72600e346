use Rattle.std.proofs.Common.{[], ◌∷◌, refl}
use Rattle.edit_session.proofs.SessionProducts.{memory_idles}
use Rattle.barline_follow.proofs.Trials.{accepted, made_reached, only, refused, some_reached, step_back, vain_reached}
use Rattle.barline_follow.proofs.ReachedInTurn.{built_out, built_within}
use Rattle.barline_follow.proofs.trial.make.Goals as goal

-- ---- it is out of range

pub returns-then-not-is_in_range-clause-tried : goal.returns-then-not-is_in_range-clause-tried
returns-then-not-is_in_range-clause-tried g c = (refl, λ bars next accepts. c.is_in_range.ensures.no c.if-not-is_in_range.true bars accepts.0)

pub returns-then-not-is_in_range-clause-reached : goal.returns-then-not-is_in_range-clause-reached
returns-then-not-is_in_range-clause-reached g c bars =
    built_out c.args.session.now.grammar c.args.session.now.performance c.args.edit.now c.args.builds.now (c.is_in_range.ensures.no c.if-not-is_in_range.true (only c.args.edit.now bars))

pub returns-then-not-is_in_range-clause-most : goal.returns-then-not-is_in_range-clause-most
returns-then-not-is_in_range-clause-most g c bars =
    built_within c.args.session.now.grammar c.args.session.now.performance (c.args.edit.now ∷ []) c.args.builds.now c.args.builds.now
    (built_out c.args.session.now.grammar c.args.session.now.performance c.args.edit.now c.args.builds.now (c.is_in_range.ensures.no c.if-not-is_in_range.true (only c.args.edit.now bars)))

-- ---- it is made

pub returns-in-Ok-clause-kept : goal.returns-in-Ok-clause-kept
returns-in-Ok-clause-kept g c = (let still = c.in-Ok.ensures.made.still in record { grammar = still.grammar; room = still.room })

pub returns-in-Ok-clause-tried : goal.returns-in-Ok-clause-tried
returns-in-Ok-clause-tried g c =
    let range = c.is_in_range.ensures.yes c.if-not-is_in_range.false in (
      accepted c.args.session.now c.make_edit.new.self c.args.edit.now c.in-Ok.made.applied range c.in-Ok.ensures.made,
      step_back c.args.session.now c.make_edit.new.self c.args.edit.now c.in-Ok.made.applied c.in-Ok.made.back c.in-Ok.ensures.made c.in-Ok.ensures.way_back
          c.performance-before.ensures.formed c.performance-before.ensures.derivations,
      c.in-Ok.ensures.way_back.next,
    )

pub returns-in-Ok-clause-reached : goal.returns-in-Ok-clause-reached
returns-in-Ok-clause-reached g c bars =
    made_reached c.args.session.now c.make_edit.new.self c.args.edit.now c.in-Ok.made.applied (c.is_in_range.ensures.yes c.if-not-is_in_range.false) c.in-Ok.ensures.made
    c.args.builds.now c.make_edit.new.builds c.in-Ok.ensures.builds

pub returns-in-Ok-clause-most : goal.returns-in-Ok-clause-most
returns-in-Ok-clause-most g c bars =
    built_within c.args.session.now.grammar c.args.session.now.performance (c.args.edit.now ∷ []) c.args.builds.now c.make_edit.new.builds
    (made_reached c.args.session.now c.make_edit.new.self c.args.edit.now c.in-Ok.made.applied (c.is_in_range.ensures.yes c.if-not-is_in_range.false) c.in-Ok.ensures.made
    c.args.builds.now c.make_edit.new.builds c.in-Ok.ensures.builds)

pub returns-in-Ok-clause-products : goal.returns-in-Ok-clause-products
returns-in-Ok-clause-products g c = (c.in-Ok.ensures.products.rises, tt)

-- ---- memory is wanting

pub returns-in-Memory-clause-kept : goal.returns-in-Memory-clause-kept
returns-in-Memory-clause-kept g c = (let still = c.in-Err.ensures.rejected.still in record { grammar = still.grammar; room = still.room })

pub returns-in-Memory-clause-memory : goal.returns-in-Memory-clause-memory
returns-in-Memory-clause-memory g c = (c.in-Err.ensures.rejected.performance, c.in-Err.ensures.rejected.memory c.in-Memory.is)

pub returns-in-Memory-clause-most : goal.returns-in-Memory-clause-most
returns-in-Memory-clause-most g c bars =
    some_reached c.args.session.now c.args.edit.now c.in-Err.fault (c.is_in_range.ensures.yes c.if-not-is_in_range.false) c.args.builds.now c.make_edit.new.builds c.in-Err.ensures.built

pub returns-in-Memory-clause-products : goal.returns-in-Memory-clause-products
returns-in-Memory-clause-products g c =
    let is = c.in-Err.ensures.products in (is.rises, memory_idles c.in-Err.fault c.in-Memory.is is)

-- ---- it is refused

pub returns-in_default-clause-kept : goal.returns-in_default-clause-kept
returns-in_default-clause-kept g c = (let still = c.in-Err.ensures.rejected.still in record { grammar = still.grammar; room = still.room })

pub returns-in_default-clause-tried : goal.returns-in_default-clause-tried
returns-in_default-clause-tried g c =
    (c.in-Err.ensures.rejected.performance, λ bars. refused c.args.session.now c.make_edit.new.self c.args.edit.now c.in-Err.fault c.in_default.not-Memory c.in-Err.ensures.rejected)

pub returns-in_default-clause-reached : goal.returns-in_default-clause-reached
returns-in_default-clause-reached g c bars =
    vain_reached c.args.session.now c.make_edit.new.self c.args.edit.now c.in-Err.fault (c.is_in_range.ensures.yes c.if-not-is_in_range.false) c.in_default.not-Memory c.in-Err.ensures.rejected
    c.args.builds.now c.make_edit.new.builds c.in-Err.ensures.built

pub returns-in_default-clause-most : goal.returns-in_default-clause-most
returns-in_default-clause-most g c bars =
    some_reached c.args.session.now c.args.edit.now c.in-Err.fault (c.is_in_range.ensures.yes c.if-not-is_in_range.false) c.args.builds.now c.make_edit.new.builds c.in-Err.ensures.built

pub returns-in_default-clause-products : goal.returns-in_default-clause-products
returns-in_default-clause-products g c = (c.in-Err.ensures.products.rises, tt)
