use Rattle.std.proofs.Common.{ℕ, List, [], ◌∷◌, ◌++◌, length, refl, subst}
use Rattle.std.proofs.lemmas.List.{append_assoc}
use Rattle.std.specs.Prelude.{codes}
use Rattle.kern_writer.specs.Records.{AreOfAllBars, Record, alike, head, tail}
use Rattle.derivation.specs.Score.{Score}
use Rattle.kern_writer.specs.Writing.{WritesRecords}
use Rattle.kern_writer.proofs.AllRecords.{bars_exist, score_records}
use Rattle.kern_writer.proofs.Writing.{fault_handed, nothing_written, past_among, writes_after, written_after}
use Rattle.kern_writer.proofs.kern.write_records.Goals as goal

all_records : ℕ → List Record → List Record
all_records voices records = head voices ∷ (records ++ tail voices)

pub returns-in_err-write_shared : goal.returns-in_err-write_shared
returns-in_err-write_shared c =
    let s : Score = record { resolution = c.args.resolution; bars = c.args.bars.now; voices = c.args.voices.now } in
    let bars = bars_exist s c.requires.score in
    let n = length s.voices in
    let all = head n ∷ (bars.1 ++ tail n) in
    let e = c.in_err-write_shared.field-0.0 in (
      all,
      score_records s bars.1 bars.0 bars.2 bars.3,
      fault_handed c.args.text.now c.write_shared.new.text all c.from_residual.result e c.from_residual.ensures
          (past_among c.args.text.now c.args.text.now [] (head n ∷ []) (bars.1 ++ tail n) all e (nothing_written c.args.text.now c.requires.text) refl c.in_err-write_shared.ensures),
    )

pub returns-in_err-write_bars : goal.returns-in_err-write_bars
returns-in_err-write_bars c =
    let s : Score = record { resolution = c.args.resolution; bars = c.args.bars.now; voices = c.args.voices.now } in
    let bars = c.in_err-write_bars.ensures in
    let are = subst (λ r. AreOfAllBars r s.bars s.voices bars.0) c.of.ensures bars.1 in
    let n = length s.voices in
    let all = head n ∷ (bars.0 ++ tail n) in
    let e = c.in_err-write_bars.field-0.0 in (
      all,
      score_records s bars.0 are.0 are.1 are.2,
      fault_handed c.args.text.now c.write_bars.new.text all c.from_residual-in_err-write_bars.result e c.from_residual-in_err-write_bars.ensures
          (past_among c.args.text.now c.write_shared.new.text (head n ∷ []) bars.0 (tail n) all e c.in_ok-write_shared.ensures refl bars.2),
    )

pub returns-in_err-write_shared-2 : goal.returns-in_err-write_shared-2
returns-in_err-write_shared-2 c =
    let s : Score = record { resolution = c.args.resolution; bars = c.args.bars.now; voices = c.args.voices.now } in
    let bars = c.in_ok-write_bars.ensures in
    let are = subst (λ r. AreOfAllBars r s.bars s.voices bars.0) c.of.ensures bars.1 in
    let n = length s.voices in
    let all = head n ∷ (bars.0 ++ tail n) in
    let e = c.in_err-write_shared-2.field-0.0 in
    let done = written_after c.args.text.now c.write_shared.new.text c.write_bars.new.text (head n ∷ []) bars.0 c.in_ok-write_shared.ensures bars.2 in (
      all,
      score_records s bars.0 are.0 are.1 are.2,
      fault_handed c.args.text.now c.write_shared-2.new.text all c.from_residual-in_err-write_shared-2.result e c.from_residual-in_err-write_shared-2.ensures
          (past_among c.args.text.now c.write_bars.new.text (head n ∷ [] ++ bars.0) (alike n (codes "==") ∷ []) (alike n (codes "*-") ∷ []) all e done refl c.in_err-write_shared-2.ensures),
    )

pub returns : goal.returns
returns c =
    let s : Score = record { resolution = c.args.resolution; bars = c.args.bars.now; voices = c.args.voices.now } in
    let bars = c.in_ok-write_bars.ensures in
    let are = subst (λ r. AreOfAllBars r s.bars s.voices bars.0) c.of.ensures bars.1 in
    let n = length s.voices in
    let front = head n ∷ [] ++ bars.0 in
    let done = written_after c.args.text.now c.write_shared.new.text c.write_bars.new.text (head n ∷ []) bars.0 c.in_ok-write_shared.ensures bars.2 in
    let barline = alike n (codes "==") ∷ [] in
    let end = alike n (codes "*-") ∷ [] in
    let more = written_after c.args.text.now c.write_bars.new.text c.write_shared-2.new.text front barline done c.in_ok-write_shared-2.ensures in
    let all = writes_after c.args.text.now c.write_shared-2.new.text c.write_shared-3.new.text (front ++ barline) end c.write_shared-3.result more c.write_shared-3.ensures in (
      head n ∷ (bars.0 ++ tail n),
      score_records s bars.0 are.0 are.1 are.2,
      subst (λ rs. WritesRecords rs c.args.text.now c.write_shared-3.result c.write_shared-3.new.text) (append_assoc front barline end) all,
    )
