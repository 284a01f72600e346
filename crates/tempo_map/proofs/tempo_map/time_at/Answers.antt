use Rattle.std.proofs.Common.{ℕ, ◌≡◌, ◌+◌, ◌-◌, ◌*◌, get_or, ◌∙◌, ap, arith}
use Rattle.std.proofs.lemmas.List.{get_or_default}
use Rattle.rhythm_base.specs.declared.event.Tempo.{Tempo}
use Rattle.tempo_map.proofs.Elapsed.{counts_on, from_zero}
use Rattle.tempo_map.proofs.tempo_map.time_at.Goals as goal

pub returns-then-count-eq0 : goal.returns-then-count-eq0
returns-then-count-eq0 c =
    let usual : c.args.tick * c.from.result ≡ c.args.tick * 500000 = ap (λ m. c.args.tick * m) c.from.ensures in
    let zero = from_zero c.args.tempos.now _ c.args.tick c.if-count-eq0.true c.tempos_up_to-count.ensures in
    omega (arith, usual, zero)

pub bounds-elapsed-count : goal.bounds-elapsed-count
bounds-elapsed-count c =
    let n = c.tempos_up_to-count.result in
    let x : Tempo = get_or c.args.tempos.now (n - 1) (record { tick = 0; micros = 0 }) in
    let is : x ≡ get_or c.args.tempos.now (n - 1) x = get_or_default c.args.tempos.now (n - 1) _ x (omega (arith, c.tempos_up_to-count.ensures.within)) in
    (counts_on c.args.tempos.now c.args.elapsed.now n c.args.tick x c.if-count-eq0.false c.requires.tick c.requires.order c.requires.elapsed c.tempos_up_to-count.ensures is).there

pub returns : goal.returns
returns c =
    let n = c.tempos_up_to-count.result in
    let x : Tempo = get_or c.args.tempos.now (n - 1) (record { tick = 0; micros = 0 }) in
    let is : x ≡ get_or c.args.tempos.now (n - 1) x = get_or_default c.args.tempos.now (n - 1) _ x (omega (arith, c.tempos_up_to-count.ensures.within)) in
    let counts = counts_on c.args.tempos.now c.args.elapsed.now n c.args.tick x c.if-count-eq0.false c.requires.tick c.requires.order c.requires.elapsed c.tempos_up_to-count.ensures is in
    let e : ℕ = get_or c.args.elapsed.now (n - 1) 0 in
    ap (λ m. e + (c.args.tick - x.tick) * m) c.from-2.ensures ∙ counts.value e (get_or_default c.args.elapsed.now (n - 1) 0 e counts.there)
