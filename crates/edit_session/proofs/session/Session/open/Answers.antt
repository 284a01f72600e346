use Rattle.std.proofs.Common.{◌≡◌, ◌*◌, length, get_or, subst, sym, ap, ap₂, ◌∙◌, arith}
use Rattle.std.specs.Prelude.{All}
use Rattle.std.proofs.lemmas.Option.{slice_get_within}
use Rattle.std.proofs.lemmas.Result.{err_from_is_err_and}
use Rattle.rhythm_base.specs.Counter.{risen}
use Rattle.rhythm_base.specs.Lists.{Each}
use Rattle.rhythm_base.specs.Voices.{IsDeadVoice}
use Rattle.edit_session.specs.Kept.{AreTablesOfVoice, IsKeptVoice}
use Rattle.edit_session.specs.Opening.{cells_of}
use Rattle.edit_session.specs.VoiceTables.{HasPath, IsFirstDead, VoiceTables}
use Rattle.edit_session.proofs.Tables.{opened, tables_cheap, tables_count}
use Rattle.edit_session.proofs.Voices.{all_derivations, are_kept, dead_voice}
use Rattle.edit_session.proofs.session.Session.open.Goals as goal
use Rattle.edit_session.proofs.session.Session.open.Given.{Over}
use Rattle.edit_session.proofs.session.Session.open.Goals.{In_ok-standing}

pub voices_of-requires-clause-tables : goal.voices_of-requires-clause-tables
voices_of-requires-clause-tables g c κs within =
    let cells = c.in_ok-opening.ensures.tables in
    tables_count c.args.grammar c.args.performance cells.inputs c.in_ok-opening.opening.tables.items cells.are_inputs cells.are
    ∙ sym (ap₂ (λ m n. m * n) (ap length c.channels-count.ensures) (ap length c.bars-bars.ensures.value))

pub voices_of-requires-clause-cheap : goal.voices_of-requires-clause-cheap
voices_of-requires-clause-cheap g c κs within =
    let cells = c.in_ok-opening.ensures.tables in
    tables_cheap c.args.grammar cells.inputs c.in_ok-opening.opening.tables.items cells.are

pub returns-in_err-voices-clause-built : goal.returns-in_err-voices-clause-built
returns-in_err-voices-clause-built g c =
    let p = err_from_is_err_and c.from_residual-in_err-voices.result c.from_residual-in_err-voices.ensures.1 in
    let built : c.cell_tables.new.builds ≡ risen c.args.builds.now (cells_of c.args.performance) = c.in_ok-opening.ensures.builds in
    rw (p.1, p.2) (omega (arith, built), omega (arith, built))

pub bounds-channels-dead : goal.bounds-channels-dead
bounds-channels-dead g c =
    let lt = slice_get_within c.as_slice.result.now c.in-Some.dead.voice c.in-Some.ensures.dead.it c.in-Some.ensures.dead.there in
    omega (arith, lt, ap length c.as_slice.ensures.value, c.in_ok-voices.ensures.voices, ap length c.channels-count.ensures, ap length c.channels.ensures)

pub returns-in-Some-clause-fault : goal.returns-in-Some-clause-fault
returns-in-Some-clause-fault g c =
    let g = c.args.grammar in
    let p = c.args.performance in
    let tables : Each (λ d (v : VoiceTables). AreTablesOfVoice g p d v.tables) p.channels c.in_ok-voices.voices.items =
    opened g p c.in_ok-opening.opening.tables.items c.in_ok-voices.voices.items (length c.channels-count.result.now) (length c.bars-bars.result.now) c.in_ok-opening.ensures.tables
    (ap length c.channels-count.ensures) (ap length c.bars-bars.ensures.value) c.in_ok-voices.ensures.voices c.in_ok-voices.ensures.bars c.in_ok-voices.ensures.tables in
    let first : IsFirstDead c.in_ok-voices.voices.items c.in-Some.dead.voice c.in-Some.dead.bar = subst (λ vs. IsFirstDead vs c.in-Some.dead.voice c.in-Some.dead.bar) c.as_slice.ensures.value c.in-Some.ensures.dead in
    let dead = dead_voice g p c.requires.readable c.in_ok-opening.ensures.formed c.in_ok-opening.ensures.starts c.in_ok-voices.voices.items c.in-Some.dead.voice c.in-Some.dead.bar 0 tables first in
    (c.in_ok-opening.ensures.few, subst (λ cs. IsDeadVoice g p (get_or cs c.in-Some.dead.voice 0) c.in-Some.dead.bar) (sym c.channels.ensures) dead)

-- the voices are kept, since over the tables of each a path leads
kept : (g : Over) (c : In_ok-standing g) → Each (IsKeptVoice c.args.grammar c.args.performance (length c.bars-bars.result.now)) c.args.performance.channels c.in_ok-voices.voices.items
kept g c =
    let tables = opened c.args.grammar c.args.performance c.in_ok-opening.opening.tables.items c.in_ok-voices.voices.items (length c.channels-count.result.now) (length c.bars-bars.result.now)
    c.in_ok-opening.ensures.tables (ap length c.channels-count.ensures) (ap length c.bars-bars.ensures.value) c.in_ok-voices.ensures.voices c.in_ok-voices.ensures.bars c.in_ok-voices.ensures.tables in
    let paths = subst (All HasPath) c.as_slice.ensures.value (c.first_dead_voice.ensures.none c.in_default.is) in
    are_kept c.args.grammar c.args.performance (length c.bars-bars.result.now) c.args.performance.channels c.in_ok-voices.voices.items tables paths c.in_ok-voices.ensures.bars

pub invariant_of-result : goal.invariant_of-result
invariant_of-result g c = record {
  readable = c.requires.readable;
  planned = c.in_ok-opening.ensures.plan;
  formed = c.in_ok-opening.ensures.formed;
  few_notes = c.requires.few_notes;
  few_cells = c.in_ok-opening.ensures.few;
  starts = c.in_ok-opening.ensures.starts;
  some_worker = c.requires.some_worker;
  few_workers = c.requires.few_workers;
  each = kept g c;
  memory = omega (arith, ap length c.bars-bars.ensures.value);
}

pub returns-clause-opened : goal.returns-clause-opened
returns-clause-opened g c = record {
  cells = c.in_ok-opening.ensures.few;
  starts = c.in_ok-opening.ensures.starts;
  derivations = all_derivations c.args.grammar c.args.performance c.requires.readable c.in_ok-opening.ensures.formed c.in_ok-opening.ensures.starts (length c.bars-bars.result.now) c.args.performance.channels
      c.in_ok-voices.voices.items (kept g c);
}
