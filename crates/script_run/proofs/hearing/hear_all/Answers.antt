use Rattle.std.proofs.Common.{◌++◌, ◌+◌, arith, ap, Ok, ◌∙◌}
use Rattle.rhythm_base.specs.Counter.{risen}
use Rattle.script_run.specs.Hearing.{QuitsThere, StopsThere}
use Rattle.script_run.proofs.Hearings.{heard_more, heard_up_to, risen_more, took_more}
use Rattle.script_run.proofs.hearing.hear_all.Goals as goal

pub bytes-preserved : goal.bytes-preserved
bytes-preserved g c =
    let before = c.bytes.invariant.0 in
    let one = c.in-Ok-false.ensures.on (ap Ok c.in-Ok-false.field-0-test) in (
      (
        before.0 ++ one.0,
        before.1 + one.1,
        heard_more c.args.listener.now c.bytes.listener c.hear.new.listener c.args.piece.now c.bytes.byte-index _ before.0 one.0 before.1 one.1 c.bytes-test.true before.2 one.2,
        took_more (g.O.Sink.taken c.args.out.now) (g.O.Sink.taken c.bytes.out) (g.O.Sink.taken c.hear.new.out) c.args.builds.now c.bytes.builds c.hear.new.builds before.0 one.0 before.1 one.1
            before.3 one.3,
      ),
      omega (arith, c.bytes.invariant.1, c.hear.ensures.later),
      omega (arith, c.bytes.invariant.2, c.hear.ensures.products),
    )

pub returns-in-Ok-true-clause-end : goal.returns-in-Ok-true-clause-end
returns-in-Ok-true-clause-end g c = λ e.
    let before = c.bytes.invariant.0 in
    let one = c.in-Ok-true.ensures.end (ap Ok c.in-Ok-true.field-0-test) in (
      before.1 + one.1,
      heard_up_to c.args.listener.now c.bytes.listener c.args.piece.now c.bytes.byte-index _ before.0 one.0 before.1 one.1 (g.O.Sink.taken c.args.out.now) (g.O.Sink.taken c.bytes.out)
          (g.O.Sink.taken c.hear.new.out) (QuitsThere c.hear.new.listener.desk) c.bytes-test.true before.2 before.3.0 one.2 one.3.0,
      one.3.1 ∙ ap (λ m. risen m one.1) before.3.1 ∙ risen_more c.args.builds.now before.1 one.1,
    )

pub returns-in-Err-clause-stop : goal.returns-in-Err-clause-stop
returns-in-Err-clause-stop g c =
    let before = c.bytes.invariant.0 in
    let one = c.in-Err.ensures.stop in (
      before.1 + one.1,
      heard_up_to c.args.listener.now c.bytes.listener c.args.piece.now c.bytes.byte-index _ before.0 one.0 before.1 one.1 (g.O.Sink.taken c.args.out.now) (g.O.Sink.taken c.bytes.out)
          (g.O.Sink.taken c.hear.new.out) (StopsThere c.in-Err.stop c.hear.new.listener.desk) c.bytes-test.true before.2 before.3.0 one.2 one.3.0,
      one.3.1 ∙ ap (λ m. risen m one.1) before.3.1 ∙ risen_more c.args.builds.now before.1 one.1,
    )
