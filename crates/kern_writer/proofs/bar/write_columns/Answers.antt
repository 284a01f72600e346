use Rattle.std.proofs.Common.{[], ◌∷◌, ◌++◌, length, map, refl, subst}
use Rattle.std.proofs.lemmas.List.{append_assoc}
use Rattle.kern_writer.specs.Changes.{changes}
use Rattle.kern_writer.specs.Records.{alike, barline_record}
use Rattle.kern_writer.specs.Writing.{WritesRecords}
use Rattle.kern_writer.proofs.Merging.{are_records, bar_records, data_exist}
use Rattle.kern_writer.proofs.Writing.{fault_handed, nothing_written, past_among, writes_after, written_after}
use Rattle.kern_writer.proofs.bar.write_columns.Goals as goal

pub returns-in_err-write_changes : goal.returns-in_err-write_changes
returns-in_err-write_changes c =
    let columns = c.args.columns.now in
    let front = map (alike (length columns)) (changes c.args.before c.args.bar.now) in
    let barline = barline_record (length columns) c.args.number in
    let rows = data_exist columns c.requires.columns in
    let all = bar_records c.args.before c.args.bar.now c.args.number columns rows.0 in
    let e = c.in_err-write_changes.field-0.0 in (
      all,
      are_records c.args.before c.args.bar.now c.args.number columns rows.0 rows.1,
      fault_handed c.args.text.now c.write_changes.new.text all c.from_residual.result e c.from_residual.ensures
          (past_among c.args.text.now c.args.text.now [] front (barline ∷ rows.0) all e (nothing_written c.args.text.now c.requires.text) refl c.in_err-write_changes.ensures),
    )

pub returns-in_err-write_shared : goal.returns-in_err-write_shared
returns-in_err-write_shared c =
    let columns = c.args.columns.now in
    let front = map (alike (length columns)) (changes c.args.before c.args.bar.now) in
    let barline = barline_record (length columns) c.args.number in
    let rows = data_exist columns c.requires.columns in
    let all = bar_records c.args.before c.args.bar.now c.args.number columns rows.0 in
    let e = c.in_err-write_shared.field-0.0 in (
      all,
      are_records c.args.before c.args.bar.now c.args.number columns rows.0 rows.1,
      fault_handed c.args.text.now c.write_shared.new.text all c.from_residual-in_err-write_shared.result e c.from_residual-in_err-write_shared.ensures
          (past_among c.args.text.now c.write_changes.new.text front (barline ∷ []) rows.0 all e c.in_ok-write_changes.ensures refl c.in_err-write_shared.ensures),
    )

pub returns : goal.returns
returns c =
    let columns = c.args.columns.now in
    let front = map (alike (length columns)) (changes c.args.before c.args.bar.now) in
    let barline = barline_record (length columns) c.args.number in
    let rows = c.write_data.ensures in
    let two = written_after c.args.text.now c.write_changes.new.text c.write_shared.new.text front (barline ∷ []) c.in_ok-write_changes.ensures c.in_ok-write_shared.ensures in
    let all = writes_after c.args.text.now c.write_shared.new.text c.write_data.new.text (front ++ barline ∷ []) rows.0 c.write_data.result two rows.2 in (
      bar_records c.args.before c.args.bar.now c.args.number columns rows.0,
      are_records c.args.before c.args.bar.now c.args.number columns rows.0 rows.1,
      subst (λ rs. WritesRecords rs c.args.text.now c.write_data.result c.write_data.new.text) (append_assoc front (barline ∷ []) rows.0) all,
    )
