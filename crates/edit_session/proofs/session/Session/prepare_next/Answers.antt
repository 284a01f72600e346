use Rattle.std.proofs.Common.{rules, List, ℕ, ◌≡◌, ◌-◌, ◌∙◌, length, map, ap, sym, subst}
use Rattle.std.specs.Prelude.{All, vec_capacity}
use Rattle.bar_pool.specs.Pool.{AreTablesOf}
use Rattle.rhythm_base.specs.Voices.{HasStarts}
use Rattle.rhythm_base.specs.Counter.{risen}
use Rattle.rhythm_base.specs.Lists.{Each}
use Rattle.edit_laws.specs.Reached.{AreReached}
use Rattle.edit_session.specs.Kept.{AreTablesOfVoice, IsKeptVoice}
use Rattle.edit_session.specs.Prepared.{Prepared, Suits, bar_table_of}
use Rattle.edit_session.specs.ReachedCells.{place_pair}
use Rattle.edit_session.specs.Session.{Session}
use Rattle.edit_session.specs.VoiceTables.{VoiceTables}
use Rattle.edit_session.proofs.EachRuns.{Each-length}
use Rattle.edit_session.proofs.SuitingTables.{cells_units, inputs_count, reached_number, suits, tables_number}
use Rattle.edit_session.proofs.Rises.{rises_within}
use Rattle.edit_session.proofs.Voices.{all_tables}
use Rattle.edit_session.proofs.session.Session.prepare_next.Goals as goal

pub reached_cells-requires-clause-tables : goal.reached_cells-requires-clause-tables
reached_cells-requires-clause-tables g c =
    let kept = c.self.inside in
    subst (λ vs. Each (λ d (v : VoiceTables). AreTablesOfVoice kept.grammar kept.performance d v.tables) kept.performance.channels vs) (sym c.as_slice-voices.ensures.value)
    (all_tables kept.grammar kept.performance kept.room kept.performance.channels kept.voices.items c.self.invariant.each)

pub reached_tables-requires-clause-units : goal.reached_tables-requires-clause-units
reached_tables-requires-clause-units g c κs within =
    subst (λ (s : Session). All (λ k. k.resolution ≡ s.grammar.resolution) c.in_ok-reached.reached.inputs.items) c.self.view_is
    (cells_units c.self.inside.grammar c.args.next (map place_pair c.in_ok-reached.reached.cells.items)
    c.in_ok-reached.reached.inputs.items c.in_ok-reached.ensures.each)

pub reached_tables-requires-clause-inputs : goal.reached_tables-requires-clause-inputs
reached_tables-requires-clause-inputs g c κs within =
    inputs_count c.self.inside.grammar c.self.inside.performance c.args.next c.in_ok-reached.reached.cells.items c.in_ok-reached.reached.inputs.items c.in_ok-reached.ensures

pub returns-in_err-tables-clause-most : goal.returns-in_err-tables-clause-most
returns-in_err-tables-clause-most g c =
    let number = λ (cells : List (ℕ × ℕ)) (h : AreReached c.args.self.now.grammar c.args.self.now.performance c.args.next cells).
    (let inside = subst (λ (s : Session). AreReached s.grammar s.performance c.args.next cells) (sym c.self.view_is) h in
    reached_number c.self.inside.grammar c.self.inside.performance c.args.next c.in_ok-reached.reached.cells.items c.in_ok-reached.reached.inputs.items cells c.in_ok-reached.ensures inside) in
    rises_within c.args.builds.now c.reached_tables.new.builds (length c.in_ok-reached.reached.cells.items) c.reached_tables.ensures.most.0 c.reached_tables.ensures.most.1
    (λ cells. AreReached c.args.self.now.grammar c.args.self.now.performance c.args.next cells) number

pub returns-in_err-place-clause-most : goal.returns-in_err-place-clause-most
returns-in_err-place-clause-most g c =
    let number = λ (cells : List (ℕ × ℕ)) (h : AreReached c.args.self.now.grammar c.args.self.now.performance c.args.next cells).
    (let inside = subst (λ (s : Session). AreReached s.grammar s.performance c.args.next cells) (sym c.self.view_is) h in
    reached_number c.self.inside.grammar c.self.inside.performance c.args.next c.in_ok-reached.reached.cells.items c.in_ok-reached.reached.inputs.items cells c.in_ok-reached.ensures inside) in
    rises_within c.args.builds.now c.reached_tables.new.builds (length c.in_ok-reached.reached.cells.items) c.reached_tables.ensures.most.0 c.reached_tables.ensures.most.1
    (λ cells. AreReached c.args.self.now.grammar c.args.self.now.performance c.args.next cells) number

pub returns-clause-suits : goal.returns-clause-suits
returns-clause-suits g c =
    let kept = c.self.inside in
    let number = Each-length (IsKeptVoice kept.grammar kept.performance kept.room) kept.performance.channels kept.voices.items c.self.invariant.each in
    let many : length c.as_slice-voices.result.now ≡ length kept.performance.channels = ap length c.as_slice-voices.ensures.value ∙ sym number in
    let less : c.saturating_sub-lost.result ≡ length kept.performance.bars - length c.args.next.bars = c.saturating_sub-lost.ensures ∙ (λ i. length (c.bars-bars.ensures.value i) - length (c.bars.ensures.value i)) in
    let count : c.len.result ≡ length c.in_ok-tables.tables.items = search rules in
    let channels = subst (λ (s : Session). c.args.next.channels ≡ s.performance.channels) (sym c.self.view_is) c.requires.channels in
    let starts = subst (λ (s : Session). HasStarts s.grammar c.args.next.bars) (sym c.self.view_is) c.requires.starts in
    let tables =
    subst (λ (s : Session). AreTablesOf s.grammar c.in_ok-reached.reached.inputs.items (map bar_table_of c.in_ok-tables.tables.items))
    (sym c.self.view_is) c.in_ok-tables.ensures.tables in
    let inside = suits kept.grammar kept.performance c.args.next c.in_ok-reached.reached.cells.items c.in_ok-reached.reached.inputs.items c.in_ok-tables.tables.items (vec_capacity c.in_ok-place.place)
    c.saturating_sub-lost.result (length c.as_slice-voices.result.now) c.len.result c.in_ok-reached.ensures c.in_ok-tables.ensures.cells tables channels starts c.requires.few_cells c.requires.few_notes
    count many less c.in_ok-place.ensures.memory in
    subst (Suits c.args.self.now.grammar c.args.self.now.performance) (sym c.of.ensures)
    (subst (λ (s : Session). Suits s.grammar s.performance (record { next = c.args.next; tables = c.in_ok-tables.tables.items; place = vec_capacity c.in_ok-place.place })) c.self.view_is inside)

pub returns-clause-builds : goal.returns-clause-builds
returns-clause-builds g c =
    let number : length c.in_ok-tables.tables.items ≡ length c.in_ok-reached.reached.cells.items = tables_number c.in_ok-reached.reached.cells.items c.in_ok-tables.tables.items c.in_ok-tables.ensures.cells in
    let built : c.reached_tables.new.builds ≡ risen c.args.builds.now (length c.in_ok-reached.reached.cells.items) = c.in_ok-tables.ensures.builds in
    built ∙ ap (risen c.args.builds.now) (sym number) ∙ sym (ap (λ (x : Prepared). risen c.args.builds.now (length x.tables)) c.of.ensures)

pub returns-clause-most : goal.returns-clause-most
returns-clause-most g c =
    let number = λ (cells : List (ℕ × ℕ)) (h : AreReached c.args.self.now.grammar c.args.self.now.performance c.args.next cells).
    (let inside = subst (λ (s : Session). AreReached s.grammar s.performance c.args.next cells) (sym c.self.view_is) h in
    reached_number c.self.inside.grammar c.self.inside.performance c.args.next c.in_ok-reached.reached.cells.items c.in_ok-reached.reached.inputs.items cells c.in_ok-reached.ensures inside) in
    rises_within c.args.builds.now c.reached_tables.new.builds (length c.in_ok-reached.reached.cells.items) c.reached_tables.ensures.most.0 c.reached_tables.ensures.most.1
    (λ cells. AreReached c.args.self.now.grammar c.args.self.now.performance c.args.next cells) number
