use Rattle.std.proofs.Common.{◌≡◌, ℕ, List, ◌∙◌, subst}
use Rattle.rhythm_base.specs.declared.sound.Sound.{Sound}
use Rattle.derivation.specs.declared.score.ScoreBar.{ScoreBar}
use Rattle.kern_writer.specs.Records.{AreRecords}
use Rattle.derivation.specs.Score.{Score}
use Rattle.kern_writer.specs.Writing.{EndsPast}
use Rattle.kern_writer.proofs.Writing.{fault_is, too_long}
use Rattle.kern_writer.proofs.kern.write_kern.Goals as goal

same_score : (r : ℕ) (bars bars' : List ScoreBar) (voices voices' : List (List Sound)) → bars ≡ bars' → voices ≡ voices'
    → ◌≡◌ {A = Score} (record { resolution = r; bars = bars; voices = voices }) (record { resolution = r; bars = bars'; voices = voices' })
same_score r bars bars' voices voices' e f = λ i. record { resolution = r; bars = e i; voices = f i }

pub returns-in_err-write_records-clause-too_long : goal.returns-in_err-write_records-clause-too_long
returns-in_err-write_records-clause-too_long c line same =
    let h = c.in_err-write_records.ensures in
    let past = fault_is (EndsPast c.new-text.result h.0) c.from_residual.result c.in_err-write_records.field-0.0 line c.from_residual.ensures same h.2 in
    let r = c.score.inside.resolution in
    let are = subst (λ (s : Score). AreRecords s h.0) (same_score r c.deref.result.now c.score.inside.bars.items c.deref-2.result.now c.score.inside.voices.items c.deref.ensures.value c.deref-2.ensures.value ∙ c.score.view_is) h.1 in
    too_long c.args.score.now c.new-text.result h.0 line c.new-text.ensures.bytes c.new-text.ensures.lines are past
