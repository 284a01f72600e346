use Rattle.std.proofs.Common.{sym, ap, ◌∙◌, subst, arith}
use Rattle.std.specs.Prelude.{All}
use Rattle.rhythm_base.specs.Lists.{Each}
use Rattle.kern_writer.specs.Ahead.{AreTokensAhead, AreTokensRead, IsFilled, laters}
use Rattle.kern_writer.specs.Columns.{RiseFrom}
use Rattle.kern_writer.proofs.AllRecords.{columns_exist, columns_rise}
use Rattle.kern_writer.proofs.Merging.{are_records, bar_records, data_exist}
use Rattle.kern_writer.proofs.ReadBars.{on_ok, read_filled, read_laters, read_tokens}
use Rattle.voice_values.proofs.TimedSounds.{some_whole}
use Rattle.kern_writer.proofs.Writing.{memory_handed}
use Rattle.kern_writer.proofs.bar.write_bar.Goals as goal

pub returns-in_err-read_bars-clause-records : goal.returns-in_err-read_bars-clause-records
returns-in_err-read_bars-clause-records c =
    let bar = c.args.bar.now in
    let whole = some_whole c.args.resolution bar (omega (arith, c.count-units.ensures.is, c.count-units.ensures.some)) c.requires.bar in
    let columns = columns_exist c.args.resolution bar c.args.number (laters c.args.ahead.now) whole in
    let rows = data_exist columns.0 (columns_rise c.args.resolution bar c.args.number (laters c.args.ahead.now) columns.0 whole columns.1) in
    let own = bar_records c.args.before bar c.args.number columns.0 rows.0 in
    (own, (columns.0, columns.1, are_records c.args.before bar c.args.number columns.0 rows.0 rows.1), memory_handed c.args.text.now c.args.text.now own c.from_residual.result c.from_residual.ensures)

pub columns_of-requires-clause-full : goal.columns_of-requires-clause-full
columns_of-requires-clause-full c =
    subst (All (IsFilled c.args.resolution)) (sym c.in_ok-read_bars.ensures) (read_filled c.args.resolution c.args.number c.args.ahead.now c.requires.full)

pub returns-in_err-columns-clause-records : goal.returns-in_err-columns-clause-records
returns-in_err-columns-clause-records c =
    let bar = c.args.bar.now in
    let whole = some_whole c.args.resolution bar (omega (arith, c.count-units.ensures.is, c.count-units.ensures.some)) c.requires.bar in
    let columns = columns_exist c.args.resolution bar c.args.number (laters c.args.ahead.now) whole in
    let rows = data_exist columns.0 (columns_rise c.args.resolution bar c.args.number (laters c.args.ahead.now) columns.0 whole columns.1) in
    let own = bar_records c.args.before bar c.args.number columns.0 rows.0 in
    (own, (columns.0, columns.1, are_records c.args.before bar c.args.number columns.0 rows.0 rows.1), memory_handed c.args.text.now c.args.text.now own c.from_residual-in_err-columns.result c.from_residual-in_err-columns.ensures)

pub write_columns-requires-clause-columns : goal.write_columns-requires-clause-columns
write_columns-requires-clause-columns c =
    let bar = c.args.bar.now in
    let n = c.args.number in
    let voices = c.args.ahead.now in
    let whole = some_whole c.args.resolution bar (omega (arith, c.count-units.ensures.is, c.count-units.ensures.some)) c.requires.bar in
    let tokens = read_tokens c.args.resolution bar n voices c.in_ok-columns.columns.items
    (subst (λ read. Each (AreTokensRead c.args.resolution bar) read c.in_ok-columns.columns.items) c.in_ok-read_bars.ensures c.in_ok-columns.ensures) in
    subst (All (RiseFrom 0)) (sym c.deref_mut.ensures.value) (columns_rise c.args.resolution bar n (laters voices) c.in_ok-columns.columns.items whole tokens)

pub returns-clause-records : goal.returns-clause-records
returns-clause-records c =
    let bar = c.args.bar.now in
    let n = c.args.number in
    let voices = c.args.ahead.now in
    let tokens = read_tokens c.args.resolution bar n voices c.in_ok-columns.columns.items
    (subst (λ read. Each (AreTokensRead c.args.resolution bar) read c.in_ok-columns.columns.items) c.in_ok-read_bars.ensures c.in_ok-columns.ensures) in
    let own = c.write_columns.ensures in
    (own.0, (c.deref_mut.result.now, subst (Each (AreTokensAhead c.args.resolution bar n) (laters voices)) (sym c.deref_mut.ensures.value) tokens, own.1), own.2)

pub returns-clause-rest : goal.returns-clause-rest
returns-clause-rest c = on_ok c.write_columns.result (ap laters c.in_ok-read_bars.ensures ∙ read_laters c.args.number c.args.ahead.now)
