use Rattle.std.proofs.Common.{ℕ, ◌≡◌, ◌+◌, ◌-◌, ◌*◌, List, get_or, sym, ap, subst, arith}
use Rattle.std.proofs.lemmas.List.{get_or_default}
use Rattle.rhythm_base.specs.declared.event.Tempo.{Tempo}
use Rattle.tempo_map.proofs.Elapsed.{Counted, counted_none, counted_more, counted_late, counted_small}
use Rattle.tempo_map.proofs.tempo_map.elapsed_of.Goals as goal

pub loop-tempo-init : goal.loop-tempo-init
loop-tempo-init c =
    let P : List ℕ → Type 0 = λ l. Counted c.args.tempos.now l 0 0 500000 0 in
    subst P (sym c.in_ok-elapsed.ensures.items) (counted_none c.args.tempos.now)

pub returns-then-tempo-gt-LATEST_TICK : goal.returns-then-tempo-gt-LATEST_TICK
returns-then-tempo-gt-LATEST_TICK c =
    let s = c.loop-tempo in
    let x : Tempo = get_or c.args.tempos.now s.tempo-index (record { tick = 0; micros = 0 }) in
    let is : x ≡ get_or c.args.tempos.now s.tempo-index x = get_or_default c.args.tempos.now s.tempo-index _ x c.loop-tempo-test.true in
    counted_late c.args.tempos.now s.elapsed.items s.tempo-index s.last.tick s.last.micros s.time x c.requires s.invariant c.loop-tempo-test.true is c.if-tempo-gt-LATEST_TICK.true

pub overflow_mul-time : goal.overflow_mul-time
overflow_mul-time c =
    let s = c.loop-tempo in
    let x : Tempo = get_or c.args.tempos.now s.tempo-index (record { tick = 0; micros = 0 }) in
    let is : x ≡ get_or c.args.tempos.now s.tempo-index x = get_or_default c.args.tempos.now s.tempo-index _ x c.loop-tempo-test.true in
    let small = counted_small c.args.tempos.now s.elapsed.items s.tempo-index s.last.tick s.last.micros s.time x s.invariant c.loop-tempo-test.true is c.if-tempo-gt-LATEST_TICK.false (omega arith) in
    let same : (x.tick - s.last.tick) * c.from.result ≡ (x.tick - s.last.tick) * s.last.micros = ap (λ m. (x.tick - s.last.tick) * m) c.from.ensures in
    omega (arith, small, same)

pub overflow_add-time : goal.overflow_add-time
overflow_add-time c =
    let s = c.loop-tempo in
    let x : Tempo = get_or c.args.tempos.now s.tempo-index (record { tick = 0; micros = 0 }) in
    let is : x ≡ get_or c.args.tempos.now s.tempo-index x = get_or_default c.args.tempos.now s.tempo-index _ x c.loop-tempo-test.true in
    let small = counted_small c.args.tempos.now s.elapsed.items s.tempo-index s.last.tick s.last.micros s.time x s.invariant c.loop-tempo-test.true is c.if-tempo-gt-LATEST_TICK.false (omega arith) in
    let same : (x.tick - s.last.tick) * c.from.result ≡ (x.tick - s.last.tick) * s.last.micros = ap (λ m. (x.tick - s.last.tick) * m) c.from.ensures in
    omega (arith, small, same)

pub loop-tempo-preserved : goal.loop-tempo-preserved
loop-tempo-preserved c =
    let s = c.loop-tempo in
    let x : Tempo = get_or c.args.tempos.now s.tempo-index (record { tick = 0; micros = 0 }) in
    let is : x ≡ get_or c.args.tempos.now s.tempo-index x = get_or_default c.args.tempos.now s.tempo-index _ x c.loop-tempo-test.true in
    let v = s.time + (x.tick - s.last.tick) * c.from.result in
    let P : List ℕ → Type 0 = λ l. Counted c.args.tempos.now l (s.tempo-index + 1) x.tick x.micros v in
    subst P (sym c.in_ok-push.ensures.items)
    (counted_more c.args.tempos.now s.elapsed.items s.tempo-index s.last.tick s.last.micros s.time v x c.requires s.invariant c.loop-tempo-test.true is c.if-tempo-gt-LATEST_TICK.false (omega arith) (ap (λ m. s.time + (x.tick - s.last.tick) * m) c.from.ensures))
