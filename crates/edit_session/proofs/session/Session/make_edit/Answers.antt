use Rattle.std.proofs.Common.{◌≡◌, ◌∙◌, ℕ, length, ap, ap₂, subst₂, arith}
use Rattle.std.specs.Prelude.{max}
use Rattle.std.proofs.lemmas.Result.{err_from_is_err_and}
use Rattle.rhythm_base.specs.Grammar.{Grammar}
use Rattle.rhythm_base.specs.Performance.{Performance}
use Rattle.edit_session.specs.declared.committed.Committed.{Committed}
use Rattle.edit_session.specs.Products.{AreProductsOf}
use Rattle.edit_session.specs.Session.{Session}
use Rattle.edit_session.proofs.EditEffects.{applied, dead, rejected, rejected_memory, vain_ready, way_back}
use Rattle.edit_session.proofs.SessionProducts.{dead_edit, idle_edit, made_edit}
use Rattle.edit_session.proofs.session.Session.make_edit.Goals as goal

abbrev grammar_of : Session → Grammar
grammar_of s = s.grammar

abbrev performance_of : Session → Performance
performance_of s = s.performance

abbrev workers_of : Session → ℕ
workers_of s = s.workers

abbrev room_of : Session → ℕ
room_of s = s.room

pub reserve-requires : goal.reserve-requires
reserve-requires g c = omega (arith, c.bars.ensures.formed.few_bars, ap length c.bars.ensures.value)

-- ---- it is made

pub returns-in-Ok-clause-made : goal.returns-in-Ok-clause-made
returns-in-Ok-clause-made g c =
    let x = c.in_ok-prepared.prepared in
    let bars : length c.bars.result.now ≡ length x.next.bars = ap length c.bars.ensures.value ∙ ap (λ (p : Performance). length p.bars) c.next.ensures in
    let raised : c.reserve.new.self.room ≡ max c.args.self.now.room (length x.next.bars) = c.in_default.ensures.ok ∙ ap₂ max (ap room_of c.keep_places.ensures) bars in
    applied c.args.self.now c.reserve.new.self c.commit.new.self c.args.edit.now x c.in_ok-prepared.ensures.next (c.reserve.ensures.grammar ∙ ap grammar_of c.keep_places.ensures) (c.reserve.ensures.workers ∙ ap workers_of c.keep_places.ensures)
    (c.reserve.ensures.performance ∙ ap performance_of c.keep_places.ensures) raised c.in-Ok.committed c.in_ok-prepared.ensures.suits c.in-Ok.ensures.made

pub returns-in-Ok-clause-way_back : goal.returns-in-Ok-clause-way_back
returns-in-Ok-clause-way_back g c =
    let x = c.in_ok-prepared.prepared in
    let bars : length c.bars.result.now ≡ length x.next.bars = ap length c.bars.ensures.value ∙ ap (λ (p : Performance). length p.bars) c.next.ensures in
    let raised : c.reserve.new.self.room ≡ max c.args.self.now.room (length x.next.bars) = c.in_default.ensures.ok ∙ ap₂ max (ap room_of c.keep_places.ensures) bars in
    way_back c.args.self.now c.reserve.new.self c.commit.new.self c.args.edit.now x c.in_ok-prepared.ensures.next (c.reserve.ensures.grammar ∙ ap grammar_of c.keep_places.ensures) (c.reserve.ensures.workers ∙ ap workers_of c.keep_places.ensures)
    (c.reserve.ensures.performance ∙ ap performance_of c.keep_places.ensures) raised c.in-Ok.committed c.in-Ok.ensures.made

pub returns-in-Ok-clause-builds : goal.returns-in-Ok-clause-builds
returns-in-Ok-clause-builds g c = (let built = c.in-Ok.ensures.made.built in let is = c.in_ok-prepared.ensures.builds in omega (arith, built, is))

-- ---- it is refused

pub returns-in_err-prepared-clause-rejected : goal.returns-in_err-prepared-clause-rejected
returns-in_err-prepared-clause-rejected g c =
    let p = err_from_is_err_and c.from_residual.result c.from_residual.ensures.1 in
    rw (p.1, p.2) (rejected c.args.self.now c.args.edit.now c.in_err-prepared.field-0.0 c.in_err-prepared.ensures.refused)

pub returns-in-Err-clause-rejected : goal.returns-in-Err-clause-rejected
returns-in-Err-clause-rejected g c =
    rejected_memory c.args.self.now c.reserve.new.self c.args.edit.now c.in_ok-prepared.prepared.next c.in_ok-prepared.ensures.next (c.reserve.ensures.grammar ∙ ap grammar_of c.keep_places.ensures) (c.reserve.ensures.workers ∙ ap workers_of c.keep_places.ensures)
    (c.reserve.ensures.performance ∙ ap performance_of c.keep_places.ensures) (c.in-Err.ensures.err ∙ ap room_of c.keep_places.ensures)

pub returns-in-Err-clause-built : goal.returns-in-Err-clause-built
returns-in-Err-clause-built g c =
    let x = c.in_ok-prepared.prepared in
    (length x.tables, c.in_ok-prepared.ensures.builds, vain_ready c.args.self.now.grammar c.args.self.now.performance c.args.edit.now x _ c.in_ok-prepared.ensures.next c.in_ok-prepared.ensures.suits)

pub returns-in-Err-commit-clause-rejected : goal.returns-in-Err-commit-clause-rejected
returns-in-Err-commit-clause-rejected g c =
    let x = c.in_ok-prepared.prepared in
    let bars : length c.bars.result.now ≡ length x.next.bars = ap length c.bars.ensures.value ∙ ap (λ (p : Performance). length p.bars) c.next.ensures in
    let raised : c.reserve.new.self.room ≡ max c.args.self.now.room (length x.next.bars) = c.in_default.ensures.ok ∙ ap₂ max (ap room_of c.keep_places.ensures) bars in
    dead c.args.self.now c.reserve.new.self c.commit.new.self c.args.edit.now x c.in_ok-prepared.ensures.next (c.reserve.ensures.grammar ∙ ap grammar_of c.keep_places.ensures) (c.reserve.ensures.workers ∙ ap workers_of c.keep_places.ensures)
    (c.reserve.ensures.performance ∙ ap performance_of c.keep_places.ensures) raised c.in-Err-commit.dead c.in-Err-commit.ensures.unchanged c.in-Err-commit.ensures.given_up

pub returns-in-Err-commit-clause-built : goal.returns-in-Err-commit-clause-built
returns-in-Err-commit-clause-built g c =
    let x = c.in_ok-prepared.prepared in
    (length x.tables, c.in_ok-prepared.ensures.builds, vain_ready c.args.self.now.grammar c.args.self.now.performance c.args.edit.now x _ c.in_ok-prepared.ensures.next c.in_ok-prepared.ensures.suits)

-- ---- products

pub returns-in_err-prepared-clause-products : goal.returns-in_err-prepared-clause-products
returns-in_err-prepared-clause-products g c = idle_edit c.args.self.now.grammar c.args.self.now.performance c.args.edit.now c.args.products.now

pub returns-in-Err-clause-products : goal.returns-in-Err-clause-products
returns-in-Err-clause-products g c = idle_edit c.args.self.now.grammar c.args.self.now.performance c.args.edit.now c.args.products.now

pub returns-in-Err-commit-clause-products : goal.returns-in-Err-commit-clause-products
returns-in-Err-commit-clause-products g c =
    let x = c.in_ok-prepared.prepared in
    let s = c.args.self.now in
    dead_edit s.grammar s.performance x.next c.args.edit.now c.args.products.now c.commit.new.products c.in_ok-prepared.ensures.next {A = Committed} c.in-Err-commit.dead.channel c.in-Err-commit.dead.bar
    (subst₂ (λ h p. AreProductsOf 2 h p x.next c.args.products.now c.commit.new.products) (c.reserve.ensures.grammar ∙ ap grammar_of c.keep_places.ensures) (c.reserve.ensures.performance ∙ ap performance_of c.keep_places.ensures) c.in-Err-commit.ensures.products)

pub returns-in-Ok-clause-products : goal.returns-in-Ok-clause-products
returns-in-Ok-clause-products g c =
    let x = c.in_ok-prepared.prepared in
    let s = c.args.self.now in
    made_edit s.grammar s.performance x.next c.args.edit.now c.args.products.now c.commit.new.products c.in_ok-prepared.ensures.next c.in-Ok.committed
    (subst₂ (λ h p. AreProductsOf 1 h p x.next c.args.products.now c.commit.new.products) (c.reserve.ensures.grammar ∙ ap grammar_of c.keep_places.ensures) (c.reserve.ensures.performance ∙ ap performance_of c.keep_places.ensures) c.in-Ok.ensures.products)
