use Rattle.std.proofs.Common.{[], arith, ap, false, true, sym, subst}
use Rattle.std.proofs.KnownBytes.{Appends-nil}
use Rattle.script_run.specs.Hearing.{Heard, Replies}
use Rattle.script_run.proofs.Hearings.{byte_heard, newline_heard, same_bool}
use Rattle.script_run.proofs.hearing.hear.Goals as goal

pub returns-in-Ok-clause-on : goal.returns-in-Ok-clause-on
returns-in-Ok-clause-on g c = λ e.
    let ok = c.in-Ok.ensures.ok in
    let same = c.in-Ok.ensures.same in
    let said = ok.1 in (
      said.0,
      said.1,
      newline_heard c.args.listener.now c.answer.new.self c.pass_newline.new.self c.args.byte c.in-Ok.ends said.0 said.1 same.0 same.1 c.pass_newline.ensures
          c.if-byte-eq10.true c.if-is_full.ensures ok.0 (same_bool c.in-Ok.ends false e) said.2,
      (said.3, said.4),
    )

pub returns-in-Ok-clause-end : goal.returns-in-Ok-clause-end
returns-in-Ok-clause-end g c = λ e.
    let ok = c.in-Ok.ensures.ok in
    let said = ok.1 in
    let ends = ok.0.0 (same_bool c.in-Ok.ends true e) in
    let replies = subst (Replies c.args.listener.now said.0 said.1) (sym (ap (λ (h : Heard). h.desk) c.pass_newline.ensures)) said.2 in
    (said.0, said.1, (c.if-byte-eq10.true, c.if-is_full.ensures, ends, replies), (said.3, said.4))

pub returns-clause-on : goal.returns-clause-on
returns-clause-on g c = λ e. (
  [],
  0,
  byte_heard c.args.listener.now c.join.new.self c.args.byte c.join.ensures c.if-byte-eq10.false c.if-is_full.ensures c.if-has_long_line.ensures,
  (Appends-nil (g.O.Sink.taken c.args.out.now), omega arith),
)
