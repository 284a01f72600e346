use Rattle.std.proofs.Common.{◌∙◌, arith, refl}
use Rattle.edit_session.proofs.SessionProducts.{memory_idles}
use Rattle.rhythm_gen.specs.DrillEdit.{drill_edit}
use Rattle.drill_run.proofs.Tries.{accepted_step, any_allowed, any_edit, reached_few, refused_step}
use Rattle.drill_run.proofs.drill.Drill.step.Goals as goal

pub overflow_add-self-in-Ok : goal.overflow_add-self-in-Ok
overflow_add-self-in-Ok g c =
    let session = c.args.self.now.session in
    let is = c.drill_edit-edit.ensures.value ∙ (λ i. drill_edit (c.number.ensures.is i) c.args.index (c.performance.ensures.value i)) in
    let few = reached_few session.grammar c.args.self.now.number c.args.index session.performance c.apply.new.self.performance c.drill_edit-edit.result is c.args.self.now.accepted c.args.self.now.built
    c.in-Ok.applied.built c.in-Ok.applied.cost c.performance.ensures.formed c.in-Ok.ensures.made.made in
    omega (arith, few, c.requires.built, c.requires.ready.among)

pub returns-in-Ok-clause-step : goal.returns-in-Ok-clause-step
returns-in-Ok-clause-step g c =
    let session = c.args.self.now.session in
    let is = c.drill_edit-edit.ensures.value ∙ (λ i. drill_edit (c.number.ensures.is i) c.args.index (c.performance.ensures.value i)) in
    let step = accepted_step session.grammar c.args.self.now.number c.args.index session.performance c.apply.new.self.performance c.drill_edit-edit.result is c.args.self.now.accepted c.args.self.now.built
    c.in-Ok.applied.built c.in-Ok.applied.cost c.in-Ok.ensures.made.made in
    (c.in-Ok.applied.built, 0, step, refl, omega (arith, c.in-Ok.ensures.builds))

pub returns-in-Ok-clause-built : goal.returns-in-Ok-clause-built
returns-in-Ok-clause-built g c =
    let session = c.args.self.now.session in
    let is = c.drill_edit-edit.ensures.value ∙ (λ i. drill_edit (c.number.ensures.is i) c.args.index (c.performance.ensures.value i)) in
    let few = reached_few session.grammar c.args.self.now.number c.args.index session.performance c.apply.new.self.performance c.drill_edit-edit.result is c.args.self.now.accepted c.args.self.now.built
    c.in-Ok.applied.built c.in-Ok.applied.cost c.performance.ensures.formed c.in-Ok.ensures.made.made in
    omega (arith, few, c.requires.built)

pub returns-clause-step : goal.returns-clause-step
returns-clause-step g c =
    let session = c.args.self.now.session in
    let is = c.drill_edit-edit.ensures.value ∙ (λ i. drill_edit (c.number.ensures.is i) c.args.index (c.performance.ensures.value i)) in
    let built = c.in-Err.ensures.built in
    let rejected = c.in-Err.ensures.rejected in
    let step = refused_step session.grammar c.args.self.now.number c.args.index session.performance c.apply.new.self.performance c.drill_edit-edit.result is c.args.self.now.accepted c.args.self.now.built
    c.in-Err.fault built.0 (rejected.refused c.in_default.not-Memory, rejected.performance) built.2.most in
    let rises = built.1 in
    (0, built.0, step, omega arith, omega (arith, rises))

-- ---- memory is wanting

pub returns-in-Memory-clause-stopped : goal.returns-in-Memory-clause-stopped
returns-in-Memory-clause-stopped g c =
    let session = c.args.self.now.session in
    let is = c.drill_edit-edit.ensures.value ∙ (λ i. drill_edit (c.number.ensures.is i) c.args.index (c.performance.ensures.value i)) in
    let built = c.in-Err.ensures.built in
    let rejected = c.in-Err.ensures.rejected in (
      built.0,
      built.1,
      record {
        within = any_edit session.grammar c.args.self.now.number c.args.index session.performance c.apply.new.self.performance c.drill_edit-edit.result is c.args.self.now.accepted c.args.self.now.built
            built.0 built.2.most;
        allowed = any_allowed session.grammar c.args.self.now.number c.args.index session.performance c.apply.new.self.performance c.drill_edit-edit.result is c.args.self.now.accepted c.args.self.now.built
            (rejected.memory c.in-Memory.is);
      },
    )

pub returns-in-Ok-clause-products : goal.returns-in-Ok-clause-products
returns-in-Ok-clause-products g c = (c.in-Ok.ensures.products.rises, tt)

pub returns-in-Memory-clause-products : goal.returns-in-Memory-clause-products
returns-in-Memory-clause-products g c = (let is = c.in-Err.ensures.products in (is.rises, memory_idles c.in-Err.fault c.in-Memory.is is))

pub returns-clause-products : goal.returns-clause-products
returns-clause-products g c = (c.in-Err.ensures.products.rises, tt)
