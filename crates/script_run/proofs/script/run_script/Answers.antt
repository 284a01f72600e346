use Rattle.std.proofs.Common.{rules, ◌≤◌, ◌++◌, ◌+◌, arith, ap, Ok, sym, subst}
use Rattle.rhythm_base.specs.declared.limits.TheConstants.{LONGEST_SCRIPT}
use Rattle.rhythm_ports.specs.Causes.{Rose}
use Rattle.script_run.specs.Desk.{shown}
use Rattle.script_run.specs.Hearing.{Heard}
use Rattle.std.specs.Io.KnownBytes.{IsAtEnd}
use Rattle.std.proofs.KnownBytes.{Consumes-trans}
use Rattle.script_run.proofs.Hearings.{hears_all_append, took_more}
use Rattle.script_run.proofs.Scripts.{broken_off, closed, closed_rose, quit_among, reads_on, rose_more, some_taken, stopped_among, write_closed, written}
use Rattle.script_run.proofs.script.run_script.Goals as goal

pub returns-in-Ok-eq0-clause-done : goal.returns-in-Ok-eq0-clause-done
returns-in-Ok-eq0-clause-done g c =
    let inv = c.pieces.invariant.0 in
    let end : IsAtEnd (g.S.Source.rest c.read.new.self) = c.in-Ok-eq0.ensures.bytes.1 c.in-Ok-eq0.field-0-test (search rules) in
    closed (shown c.args.desk) c.in-Ok.listener c.pieces.listener c.in-Ok.ensures inv.0 inv.1 inv.2 inv.3 (g.S.Source.rest c.args.script.now)
    (g.S.Source.rest c.pieces.script) (g.O.Sink.taken c.args.out.now) (g.O.Sink.taken c.pieces.out) c.args.builds.now c.pieces.builds inv.4 inv.5 (g.S.Source.rest c.read.new.self)
    c.in-Ok-eq0.field-0 c.read.new.buf c.in-Ok-eq0.field-0-test c.in-Ok-eq0.ensures.bytes.0 end c.close.result (g.O.Sink.taken c.close.new.out) c.close.new.builds
    c.close.new.listener.desk c.close.ensures.ok

pub returns-in-Ok-eq0-clause-stopped : goal.returns-in-Ok-eq0-clause-stopped
returns-in-Ok-eq0-clause-stopped g c =
    let inv = c.pieces.invariant.0 in
    let end : IsAtEnd (g.S.Source.rest c.read.new.self) = c.in-Ok-eq0.ensures.bytes.1 c.in-Ok-eq0.field-0-test (search rules) in
    write_closed (shown c.args.desk) c.in-Ok.listener c.pieces.listener c.in-Ok.ensures inv.0 inv.1 inv.2 inv.3 (g.S.Source.rest c.args.script.now)
    (g.S.Source.rest c.pieces.script) (g.O.Sink.taken c.args.out.now) (g.O.Sink.taken c.pieces.out) c.args.builds.now c.pieces.builds inv.4 inv.5 (g.S.Source.rest c.read.new.self)
    c.in-Ok-eq0.field-0 c.read.new.buf c.in-Ok-eq0.field-0-test c.in-Ok-eq0.ensures.bytes.0 end c.close.result (g.O.Sink.taken c.close.new.out) c.close.new.builds
    c.close.new.listener.desk (Rose (g.O.Sink.faults c.pieces.out) (g.O.Sink.faults c.close.new.out)) c.close.ensures.cut

pub returns-in-Ok-eq0-clause-write : goal.returns-in-Ok-eq0-clause-write
returns-in-Ok-eq0-clause-write g c = λ e.
    rose_more (g.O.Sink.faults c.args.out.now) (g.O.Sink.faults c.pieces.out) (g.O.Sink.faults c.close.new.out) c.pieces.invariant.2
    (closed_rose c.close.result (Rose (g.O.Sink.faults c.pieces.out) (g.O.Sink.faults c.close.new.out)) _ c.close.ensures.cut e)

pub returns-in-Ok-true-clause-done : goal.returns-in-Ok-true-clause-done
returns-in-Ok-true-clause-done g c =
    let inv = c.pieces.invariant.0 in
    let end = c.in-Ok-true.ensures.end (ap Ok c.in-Ok-true.field-0-test) in
    quit_among (shown c.args.desk) c.in-Ok.listener c.pieces.listener c.in-Ok.ensures inv.0 inv.1 inv.2 inv.3 (g.S.Source.rest c.args.script.now)
    (g.S.Source.rest c.pieces.script) (g.O.Sink.taken c.args.out.now) (g.O.Sink.taken c.pieces.out) c.args.builds.now c.pieces.builds inv.4 inv.5 c.read.new.buf c.in-Ok-read.count
    (g.S.Source.rest c.read.new.self) (g.O.Sink.taken c.hear_all.new.out) c.hear_all.new.builds end.0 c.in-Ok-read.ensures.bytes.0 (search rules) end.2 c.hear_all.new.listener.desk end.1

pub returns-in-Err-hear_all-clause-stopped : goal.returns-in-Err-hear_all-clause-stopped
returns-in-Err-hear_all-clause-stopped g c =
    let inv = c.pieces.invariant.0 in
    let end = c.in-Err-hear_all.ensures.stop in
    stopped_among (shown c.args.desk) c.in-Ok.listener c.pieces.listener c.in-Ok.ensures inv.0 inv.1 inv.2 inv.3 (g.S.Source.rest c.args.script.now)
    (g.S.Source.rest c.pieces.script) (g.O.Sink.taken c.args.out.now) (g.O.Sink.taken c.pieces.out) c.args.builds.now c.pieces.builds inv.4 inv.5 c.read.new.buf c.in-Ok-read.count
    (g.S.Source.rest c.read.new.self) (g.O.Sink.taken c.hear_all.new.out) c.hear_all.new.builds end.0 c.in-Ok-read.ensures.bytes.0 (search rules) end.2 c.hear_all.new.listener.desk
    c.in-Err-hear_all.stop end.1

pub returns-in-Err-hear_all-clause-write : goal.returns-in-Err-hear_all-clause-write
returns-in-Err-hear_all-clause-write g c = λ e.
    rose_more (g.O.Sink.faults c.args.out.now) (g.O.Sink.faults c.pieces.out) (g.O.Sink.faults c.hear_all.new.out) c.pieces.invariant.2 (c.in-Err-hear_all.ensures.cause (written c.in-Err-hear_all.stop e))

pub returns-in-Err-clause-stopped : goal.returns-in-Err-clause-stopped
returns-in-Err-clause-stopped g c =
    let inv = c.pieces.invariant.0 in
    broken_off (shown c.args.desk) c.in-Ok.listener c.pieces.listener c.in-Ok.ensures inv.0 inv.1 inv.2 inv.3 (g.S.Source.rest c.args.script.now)
    (g.S.Source.rest c.pieces.script) (g.O.Sink.taken c.args.out.now) (g.O.Sink.taken c.pieces.out) c.args.builds.now c.pieces.builds inv.4 inv.5 (g.S.Source.rest c.read.new.self) c.in-Err.ensures.bytes

pub returns-in-Err-clause-read : goal.returns-in-Err-clause-read
returns-in-Err-clause-read g c = λ e.
    rose_more (g.S.Source.faults c.args.script.now) (g.S.Source.faults c.pieces.script) (g.S.Source.faults c.read.new.self) c.pieces.invariant.1 c.in-Err.ensures.cause.failed

pub pieces-preserved : goal.pieces-preserved
pieces-preserved g c =
    let inv = c.pieces.invariant.0 in
    let one = c.in-Ok-false.ensures.on (ap Ok c.in-Ok-false.field-0-test) in (
      (
        inv.0 ++ _,
        inv.1 ++ one.0,
        inv.2 + one.1,
        hears_all_append c.in-Ok.listener c.pieces.listener c.hear_all.new.listener inv.0 _ inv.1 one.0 inv.2 one.1 inv.3 one.2,
        Consumes-trans (g.S.Source.rest c.args.script.now) (g.S.Source.rest c.pieces.script) (g.S.Source.rest c.read.new.self) inv.0 _ inv.4 c.in-Ok-read.ensures.bytes.0,
        took_more (g.O.Sink.taken c.args.out.now) (g.O.Sink.taken c.pieces.out) (g.O.Sink.taken c.hear_all.new.out) c.args.builds.now c.pieces.builds c.hear_all.new.builds inv.1 one.0 inv.2 one.1
            inv.5 one.3,
      ),
      omega (arith, c.pieces.invariant.1, c.read.ensures.cause.later),
      omega (arith, c.pieces.invariant.2, c.hear_all.ensures.later),
      omega (arith, c.pieces.invariant.3, c.hear_all.ensures.products),
    )

pub pieces-smaller : goal.pieces-smaller
pieces-smaller g c =
    let inv = c.pieces.invariant.0 in
    let one = c.in-Ok-false.ensures.on (ap Ok c.in-Ok-false.field-0-test) in
    reads_on c.in-Ok.listener c.pieces.listener c.hear_all.new.listener inv.0 inv.1 _ one.0 inv.2 one.1
    (subst (λ (h : Heard). h.read ≤ LONGEST_SCRIPT) (sym c.in-Ok.ensures) (omega arith)) inv.3 one.2
    (some_taken c.in-Ok-read.count c.read.new.buf c.in-Ok-read.count-test.1 c.in-Ok-read.ensures.bound.0)
