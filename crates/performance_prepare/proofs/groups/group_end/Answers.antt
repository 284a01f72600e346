use Rattle.std.proofs.Common.{rules, arith, ◌≡◌, true, false, sym, ◌∙◌}
use Rattle.rhythm_base.specs.declared.note.Note.{Note}
use Rattle.performance_prepare.specs.Groups.{begins_near}
use Rattle.performance_prepare.proofs.Cutting.{parts_begin, parts_first, parts_last, parts_more}
use Rattle.performance_prepare.proofs.groups.group_end.Goals as goal

abbrev none : Note
none = record { channel = 0; key = 0; onset = 0; end = 0 }

pub notes-init : goal.notes-init
notes-init c = parts_begin (λ group last n. begins_near c.args.map.now.tempos c.args.division c.args.within last n) c.args.notes.now
    c.args.start none c.requires.start

pub returns-then-not-begins_near-clause-group : goal.returns-then-not-begins_near-clause-group
returns-then-not-begins_near-clause-group c =
    let apart : c.begins_near.result ≡ false = search (rules, c.if-not-begins_near.true) in
    parts_first (λ group last n. begins_near c.args.map.now.tempos c.args.division c.args.within last n) c.args.notes.now c.args.start
    c.notes.end none c.notes-test.true (sym c.begins_near.ensures ∙ apart) c.notes.invariant

pub notes-preserved : goal.notes-preserved
notes-preserved c =
    let one : c.begins_near.result ≡ true = search (rules, c.if-not-begins_near.false) in
    parts_more (λ group last n. begins_near c.args.map.now.tempos c.args.division c.args.within last n) c.args.notes.now c.args.start
    c.notes.end none (omega arith) c.notes-test.true (sym c.begins_near.ensures ∙ one) c.notes.invariant

pub returns-clause-group : goal.returns-clause-group
returns-clause-group c =
    parts_last (λ group last n. begins_near c.args.map.now.tempos c.args.division c.args.within last n) c.args.notes.now c.args.start
    c.notes.end none c.notes-test.false c.notes.invariant
