use Rattle.std.proofs.Common.{◌≡◌, ◌+◌, ◌-◌, ◌<◌, ◌≤◌, ◌∷◌, drop, length, arith}
use Rattle.rhythm_base.specs.Notes.{begun}
use Rattle.note_list.proofs.Keeping.{again, all_gone, are_kept, are_too_many, begun_here, going_by, going_on, passed, pushed, rising_here}
use Rattle.note_list.proofs.kept.kept.Goals as goal

pub events-preserved-in-Continue-branch-3 : goal.events-preserved-in-Continue-branch-3
events-preserved-in-Continue-branch-3 c =
    let s = c.events in
    let n = c.in-Some.note in
    let later = drop s.place c.args.events.now in
    let begins : begun c.args.last (drop (s.place - 1) c.args.events.now) ≡ n ∷ begun c.args.last later = begun_here c.args.last c.args.events.now s.place _ s.ends n c.events-test.true s.auto.place c.requires.events s.invariant.ends c.in-Some.ensures.note in
    let rise = rising_here c.args.last c.args.events.now s.place n c.requires.order begins in
    let room : length s.notes.items < 65536 = omega (arith, c.if-len-lt-MOST_NOTES.true, c.len.ensures, s.notes.ok) in
    let held = pushed n (begun c.args.last later) s.onsets s.notes.items s.count c.in-Some.ensures.channel c.in-Some.ensures.key rise s.invariant.held (c.insert.ensures.new.0 c.if-insert.true) room in
    rw (c.in_ok-push.ensures.items, c.insert.ensures.onsets) (going_on c.args.last c.args.events.now s.place _ s.ends c.take.new.self n s.onsets _ s.notes.items _ s.count (s.count + 1) c.events-test.true s.auto.place c.requires.events s.invariant c.take.ensures.ends begins held (omega arith))

pub events-preserved-else-len-lt-MOST_NOTES : goal.events-preserved-else-len-lt-MOST_NOTES
events-preserved-else-len-lt-MOST_NOTES c =
    let s = c.events in
    let n = c.in-Some.note in
    let later = drop s.place c.args.events.now in
    let begins : begun c.args.last (drop (s.place - 1) c.args.events.now) ≡ n ∷ begun c.args.last later = begun_here c.args.last c.args.events.now s.place _ s.ends n c.events-test.true s.auto.place c.requires.events s.invariant.ends c.in-Some.ensures.note in
    let rise = rising_here c.args.last c.args.events.now s.place n c.requires.order begins in
    let full : 65536 ≤ length s.notes.items = omega (arith, c.if-len-lt-MOST_NOTES.false, c.len.ensures, s.notes.ok) in
    let held = passed n (begun c.args.last later) s.onsets s.notes.items s.count c.in-Some.ensures.channel c.in-Some.ensures.key rise s.invariant.held (c.insert.ensures.new.0 c.if-insert.true) full in
    rw (c.insert.ensures.onsets) (going_on c.args.last c.args.events.now s.place _ s.ends c.take.new.self n s.onsets _ s.notes.items s.notes.items s.count (s.count + 1) c.events-test.true s.auto.place c.requires.events s.invariant c.take.ensures.ends begins held (omega arith))

pub events-preserved-else-insert : goal.events-preserved-else-insert
events-preserved-else-insert c =
    let s = c.events in
    let n = c.in-Some.note in
    let later = drop s.place c.args.events.now in
    let begins : begun c.args.last (drop (s.place - 1) c.args.events.now) ≡ n ∷ begun c.args.last later = begun_here c.args.last c.args.events.now s.place _ s.ends n c.events-test.true s.auto.place c.requires.events s.invariant.ends c.in-Some.ensures.note in
    let held = again n (begun c.args.last later) s.onsets s.notes.items s.count c.in-Some.ensures.channel c.in-Some.ensures.key s.invariant.held (λ q. let yes = c.insert.ensures.new.1 q in let no = c.if-insert.false in absurd (cc)) in
    rw (c.insert.ensures.onsets) (going_on c.args.last c.args.events.now s.place _ s.ends c.take.new.self n s.onsets _ s.notes.items s.notes.items s.count s.count c.events-test.true s.auto.place c.requires.events s.invariant c.take.ensures.ends begins held (omega arith))

pub events-preserved : goal.events-preserved
events-preserved c =
    let s = c.events in
    going_by c.args.last c.args.events.now s.place _ s.ends c.take.new.self s.onsets s.notes.items s.count c.events-test.true s.auto.place c.requires.events s.invariant c.in_default.ensures.note c.take.ensures.ends

pub returns-then-count-clause-fault : goal.returns-then-count-clause-fault
returns-then-count-clause-fault c =
    let s = c.events in
    let gone = all_gone c.args.last c.args.events.now s.place s.ends s.onsets s.notes.items s.count s.invariant (omega (arith, c.events-test.false)) in
    are_too_many c.args.last c.args.events.now s.ends s.onsets s.notes.items s.count c.requires.order c.requires.events gone c.if-count.true

pub returns-clause-notes : goal.returns-clause-notes
returns-clause-notes c =
    let s = c.events in
    let gone = all_gone c.args.last c.args.events.now s.place s.ends s.onsets s.notes.items s.count s.invariant (omega (arith, c.events-test.false)) in
    are_kept c.args.last c.args.events.now s.ends s.onsets s.notes.items s.count c.requires.order c.requires.events gone (omega (arith, c.if-count.false))
