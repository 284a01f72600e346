use Rattle.std.proofs.Common.{Result, Ok, Err}
use Rattle.std.specs.Prelude.{IfOk, OnOk}
use Rattle.least_rows.specs.Choices.{AreSettled}
use Rattle.least_rows.specs.declared.state.RowSpan.{RowSpan}
use Rattle.least_rows.proofs.Settling.{settled-alone}
use Rattle.least_rows.proofs.settled.settle.Goals as goal

both : {E : Type 0} (r : Result RowSpan E) (P : Type 0) (Q R : RowSpan → Type 0) → OnOk r P → IfOk r Q → ((span : RowSpan) → P → Q span → R span) → IfOk r R
both (Ok span) P Q R p q f = f span p q
both (Err e) P Q R p q f = tt

pub returns-in-Some : goal.returns-in-Some
returns-in-Some c =
    both c.settle_one.result _ _ (AreSettled c.args.best.now c.args.entries.now.items c.settle_one.new.entries.items) c.settle_one.ensures.items c.settle_one.ensures.span
    (λ span added at. settled-alone c.args.best.now c.settle_one.array_long c.in-Some.entry c.in-Some.ensures c.args.entries.now.items c.settle_one.new.entries.items span added at.0 at.1)
