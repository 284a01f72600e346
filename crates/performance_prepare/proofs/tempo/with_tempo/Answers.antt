use Rattle.std.proofs.Common.{rules, arith, ◌∙◌, ap, ◌≡◌, ◌≤◌, ◌*◌, Err}
use Rattle.performance_prepare.specs.Shift.{shifted_take, unless_late}
use Rattle.rhythm_base.specs.Time.{tempo_at}
use Rattle.performance_load.specs.Take.{Take}
use Rattle.performance_prepare.specs.Tempo.{bar_parts, division_of, fine_division, fineness, finer_shift, new_division}
use Rattle.performance_prepare.proofs.Answered.{meant_answers, tempo_answers}
use Rattle.performance_prepare.proofs.Fineness.{IsFine, fineness_fine, finer_few}
use Rattle.performance_prepare.proofs.tempo.with_tempo.Goals as goal

pub take-requires-clause-shift : goal.take-requires-clause-shift
take-requires-clause-shift c =
    let t : Take = c.args.take in
    let fine : IsFine t.division (fineness t.division) = fineness_fine t.division c.requires.formed.division_low in
    let few = finer_few t.division (fineness t.division) c.requires.formed.division_low fine in
    let division : c.of-coarse.result ≡ t.division = search rules in
    let times : c.fineness-times.result ≡ fineness t.division = c.fineness-times.ensures ∙ ap fineness division in
    record { some = omega (arith, fine.some, times); few = omega (arith, few, times); near = omega arith }

pub returns-in-Err : goal.returns-in-Err
returns-in-Err c =
    let t : Take = c.args.take in
    let division : c.of-coarse.result ≡ t.division = search rules in
    let times : c.fineness-times.result ≡ fineness t.division = c.fineness-times.ensures ∙ ap fineness division in
    let old : c.finer-old.result ≡ fine_division t = c.finer-old.ensures ∙ (λ i. division i * times i) in
    let first : c.first_tempo-first.result ≡ tempo_at t.tempos 0 = search rules in
    let signatures : c.deref-2.result.now ≡ t.signatures = search rules in
    let parts : bar_parts c.deref-2.result.now ≡ bar_parts t.signatures = ap bar_parts signatures in
    let new : c.new_division-division.result ≡ new_division c.args.quarters t = c.new_division-division.ensures
    ∙ (λ i. division_of (old i) (parts i) c.args.quarters (first i)) in
    let some : new_division c.args.quarters t ≡ 0 → ⊥ = λ none. c.if-division-eq0.false (new ∙ none) in
    let few : new_division c.args.quarters t ≤ 32767 = omega (arith, new, c.if-division-from.false, c.from.ensures) in
    let shifted : c.in_ok-shifted.shifted ≡ shifted_take (finer_shift t) t = c.in_ok-shifted.ensures
    ∙ (λ i. shifted_take (record { times = times i; later = 0; earlier = 0 }) t) in
    tempo_answers c.args.quarters t (Err c.in-Err.fault) (Err c.in-Err.fault) some few (c.in-Err.ensures
    ∙ ap unless_late shifted) (meant_answers (Err c.in-Err.fault))
