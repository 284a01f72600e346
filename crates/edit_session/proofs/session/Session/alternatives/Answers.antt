use Rattle.std.proofs.Common.{◌≡◌, ◌==◌, None, Some, ap, arith, length, subst, sym, ◌∙◌}
use Rattle.std.proofs.lemmas.Result.{err_from_is_err_and}
use Rattle.std.specs.List.{position}
use Rattle.rhythm_base.specs.declared.edit_fault.EditFault.TheVariants.{NoBar, NoVoice}
use Rattle.edit_laws.specs.Edits.{cell_tests, first_refusal}
use Rattle.tree_laws.specs.Alternatives.{AreBestOfBar}
use Rattle.edit_session.specs.Session.{Session}
use Rattle.edit_session.proofs.AskedCells.{no_bar, no_refusal, no_voice, place_found, place_within, tables_there}
use Rattle.edit_session.proofs.LeastSounds.{tables_in}
use Rattle.edit_session.proofs.Tables.{voice_long}
use Rattle.edit_session.proofs.session.Session.alternatives.Goals as goal

-- ---- the tests

pub returns-in_default-clause-fault : goal.returns-in_default-clause-fault
returns-in_default-clause-fault g c =
    let none = sym (c.in_default.ensures ∙ ap (position (λ d. d == c.args.channel)) c.channels.ensures) in
    subst (λ (s : Session). first_refusal (cell_tests s.performance c.args.channel c.args.bar) ≡ Some (NoVoice c.args.channel)) c.self.view_is
    (no_voice c.self.inside.performance c.args.channel c.args.bar none)

pub returns-then-number-bars-clause-fault : goal.returns-then-number-bars-clause-fault
returns-then-number-bars-clause-fault g c =
    let found = place_found c.self.inside.grammar c.self.inside.performance c.self.inside.room c.self.inside.voices.items c.self.invariant.each c.args.channel c.in-Some.place c.channels.result.now c.channels.ensures c.in-Some.ensures in
    subst (λ (s : Session). first_refusal (cell_tests s.performance c.args.channel c.args.bar) ≡ Some (NoBar c.args.bar)) c.self.view_is
    (no_bar c.self.inside.performance c.args.channel c.args.bar c.in-Some.place found (omega (arith, c.if-number-bars.true, ap length c.bars.ensures.value)))

pub returns-in_err-list-clause-fault : goal.returns-in_err-list-clause-fault
returns-in_err-list-clause-fault g c =
    let found = place_found c.self.inside.grammar c.self.inside.performance c.self.inside.room c.self.inside.voices.items c.self.invariant.each c.args.channel c.in-Some.place c.channels.result.now c.channels.ensures c.in-Some.ensures in
    let there = subst (λ (s : Session). first_refusal (cell_tests s.performance c.args.channel c.args.bar) ≡ None) c.self.view_is
    (no_refusal c.self.inside.performance c.args.channel c.args.bar c.in-Some.place found (omega (arith, c.if-number-bars.false, ap length c.bars.ensures.value))) in
    let p = err_from_is_err_and c.from_residual.result c.from_residual.ensures.1 in
    rw (p.1, p.2) there

pub returns-clause-there : goal.returns-clause-there
returns-clause-there g c =
    let found = place_found c.self.inside.grammar c.self.inside.performance c.self.inside.room c.self.inside.voices.items c.self.invariant.each c.args.channel c.in-Some.place c.channels.result.now c.channels.ensures c.in-Some.ensures in
    subst (λ (s : Session). first_refusal (cell_tests s.performance c.args.channel c.args.bar) ≡ None) c.self.view_is
    (no_refusal c.self.inside.performance c.args.channel c.args.bar c.in-Some.place found (omega (arith, c.if-number-bars.false, ap length c.bars.ensures.value)))

-- ---- the tables of the voice

pub bounds-voices-place : goal.bounds-voices-place
bounds-voices-place g c =
    let within = place_within c.self.inside.grammar c.self.inside.performance c.self.inside.room c.self.inside.voices.items c.self.invariant.each c.args.channel c.in-Some.place c.channels.result.now c.channels.ensures c.in-Some.ensures in
    omega (arith, within, ap length c.as_slice-voices.ensures.value)

pub alternatives_of-requires-clause-tables : goal.alternatives_of-requires-clause-tables
alternatives_of-requires-clause-tables g c κs within =
    let tables = tables_there c.self.inside.grammar c.self.inside.performance c.self.inside.room c.self.inside.voices.items c.self.invariant.each c.args.channel c.in-Some.place c.channels.result.now c.channels.ensures c.in-Some.ensures
    c.as_slice-voices.result.now c.index-voices-place.result c.as_slice-voices.ensures.value c.index-voices-place.is in
    tables_in c.self.inside.grammar c.self.inside.performance c.args.channel c.index-voices-place.result.tables tables

pub alternatives_of-requires-clause-few : goal.alternatives_of-requires-clause-few
alternatives_of-requires-clause-few g c κs within =
    let tables = tables_there c.self.inside.grammar c.self.inside.performance c.self.inside.room c.self.inside.voices.items c.self.invariant.each c.args.channel c.in-Some.place c.channels.result.now c.channels.ensures c.in-Some.ensures
    c.as_slice-voices.result.now c.index-voices-place.result c.as_slice-voices.ensures.value c.index-voices-place.is in
    let long = voice_long c.self.inside.grammar c.self.inside.performance c.args.channel c.index-voices-place.result.tables tables in
    omega (arith, long, c.self.invariant.formed.few_bars)

pub alternatives_of-requires-clause-bar : goal.alternatives_of-requires-clause-bar
alternatives_of-requires-clause-bar g c κs within =
    let tables = tables_there c.self.inside.grammar c.self.inside.performance c.self.inside.room c.self.inside.voices.items c.self.invariant.each c.args.channel c.in-Some.place c.channels.result.now c.channels.ensures c.in-Some.ensures
    c.as_slice-voices.result.now c.index-voices-place.result c.as_slice-voices.ensures.value c.index-voices-place.is in
    let long = voice_long c.self.inside.grammar c.self.inside.performance c.args.channel c.index-voices-place.result.tables tables in
    omega (arith, long, c.if-number-bars.false, ap length c.bars.ensures.value)

pub returns-in_err-list-clause-products : goal.returns-in_err-list-clause-products
returns-in_err-list-clause-products g c =
    let tables = tables_there c.self.inside.grammar c.self.inside.performance c.self.inside.room c.self.inside.voices.items c.self.invariant.each c.args.channel c.in-Some.place c.channels.result.now c.channels.ensures c.in-Some.ensures
    c.as_slice-voices.result.now c.index-voices-place.result c.as_slice-voices.ensures.value c.index-voices-place.is in
    let long = voice_long c.self.inside.grammar c.self.inside.performance c.args.channel c.index-voices-place.result.tables tables in
    (c.alternatives_of.ensures.products.0, λ d few. c.alternatives_of.ensures.products.1 d (omega (arith, long, few, ap (λ (s : Session). length s.performance.bars) c.self.view_is)))

pub returns-clause-products : goal.returns-clause-products
returns-clause-products g c =
    let tables = tables_there c.self.inside.grammar c.self.inside.performance c.self.inside.room c.self.inside.voices.items c.self.invariant.each c.args.channel c.in-Some.place c.channels.result.now c.channels.ensures c.in-Some.ensures
    c.as_slice-voices.result.now c.index-voices-place.result c.as_slice-voices.ensures.value c.index-voices-place.is in
    let long = voice_long c.self.inside.grammar c.self.inside.performance c.args.channel c.index-voices-place.result.tables tables in
    (c.alternatives_of.ensures.products.0, λ d few. c.alternatives_of.ensures.products.1 d (omega (arith, long, few, ap (λ (s : Session). length s.performance.bars) c.self.view_is)))

pub returns-clause-best : goal.returns-clause-best
returns-clause-best g c =
    let tables = tables_there c.self.inside.grammar c.self.inside.performance c.self.inside.room c.self.inside.voices.items c.self.invariant.each c.args.channel c.in-Some.place c.channels.result.now c.channels.ensures c.in-Some.ensures
    c.as_slice-voices.result.now c.index-voices-place.result c.as_slice-voices.ensures.value c.index-voices-place.is in
    subst (λ (s : Session). AreBestOfBar s.grammar s.performance c.args.channel c.args.bar c.args.count c.in_ok-list.list.items) c.self.view_is
    (c.in_ok-list.ensures.best c.self.inside.performance c.args.channel c.self.invariant.formed tables)
