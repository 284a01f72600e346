use Rattle.std.proofs.Common.{◌≡◌, ◌+◌, ◌*◌, ◌/◌, ◌++◌, ◌∷◌, [], true, false, length, Ok, sym, ap, ◌∙◌, subst, arith}
use Rattle.std.specs.Prelude.{Some}
use Rattle.std.proofs.lemmas.Result.{err_from_is_err_and}
use Rattle.rhythm_base.specs.declared.note.Bar.{Bar}
use Rattle.rhythm_base.specs.Bars.{AreEnough, fault_at, nominal_at}
use Rattle.tempo_map.specs.Laying.{IsBarAt}
use Rattle.tempo_map.proofs.BarByBar.{Laying, laying_more, are_bars, is_fault, lays_fault}
use Rattle.tempo_map.proofs.laid.lay_bars.Goals as goal

pub returns-in_err-bar-clause-laid : goal.returns-in_err-bar-clause-laid
returns-in_err-bar-clause-laid c =
    let s = c.bars in
    let more : (h : AreEnough c.args.last_onset c.args.last_end s.bars.items s.end) → ⊥ = λ h. absurd (
    let yes' : c.are_enough.result ≡ true = c.are_enough.ensures.1 (subst (λ l. AreEnough c.args.last_onset c.args.last_end l s.end) (sym c.as_slice.ensures.value) h) in
    let no' : c.are_enough.result ≡ false = c.bars-test.true in
    cc) in
    let p = err_from_is_err_and c.from_residual.result c.from_residual.ensures.1 in
    let count : c.len.result ≡ length s.bars.items = omega (arith, c.len.ensures, s.bars.ok) in
    let at : fault_at c.args.division c.args.signatures.now (length s.bars.items) s.end ≡ Some c.in_err-bar.field-0.0 = subst (λ n. fault_at c.args.division c.args.signatures.now n s.end ≡ Some c.in_err-bar.field-0.0) count c.in_err-bar.ensures in
    rw (p.1, p.2) (lays_fault c.args.division c.args.signatures.now c.args.last_onset c.args.last_end c.in_err-bar.field-0.0
    (is_fault c.args.division c.args.signatures.now c.args.last_onset c.args.last_end s.bars.items s.end c.in_err-bar.field-0.0 s.invariant more at))

pub bars-preserved : goal.bars-preserved
bars-preserved c =
    let s = c.bars in
    let bar : Bar = c.in_ok-bar.bar in
    let d = c.args.division in
    let sigs = c.args.signatures.now in
    let more : (h : AreEnough c.args.last_onset c.args.last_end s.bars.items s.end) → ⊥ = λ h. absurd (
    let yes' : c.are_enough.result ≡ true = c.are_enough.ensures.1 (subst (λ l. AreEnough c.args.last_onset c.args.last_end l s.end) (sym c.as_slice.ensures.value) h) in
    let no' : c.are_enough.result ≡ false = c.bars-test.true in
    cc) in
    let count : c.len.result ≡ length s.bars.items = omega (arith, c.len.ensures, s.bars.ok) in
    let at : IsBarAt d sigs (length s.bars.items) s.end (Ok bar) = subst (λ n. IsBarAt d sigs n s.end (Ok bar)) count c.in_ok-bar.ensures in
    let next = laying_more d sigs c.args.last_onset c.args.last_end s.bars.items s.end bar c.requires.few_ticks c.requires.onset c.requires.end s.invariant more at in
    let beats : 4 * d * bar.num / bar.den ≡ nominal_at d sigs s.end = ap (λ (b : Bar). 4 * d * b.num / b.den) at.1 in
    subst (λ l. Laying d sigs c.args.last_onset c.args.last_end l (s.end + c.nominal-end.result)) (sym c.in_ok-push.ensures.items)
    (subst (λ n. Laying d sigs c.args.last_onset c.args.last_end (s.bars.items ++ bar ∷ []) (s.end + n)) (sym (c.nominal-end.ensures ∙ beats)) next)

pub returns-clause-formed : goal.returns-clause-formed
returns-clause-formed c =
    let s = c.bars in
    let enough : AreEnough c.args.last_onset c.args.last_end s.bars.items s.end = subst (λ l. AreEnough c.args.last_onset c.args.last_end l s.end) c.as_slice.ensures.value (c.are_enough.ensures.0 c.bars-test.false) in
    are_bars c.args.division c.args.signatures.now c.args.last_onset c.args.last_end s.bars.items s.end c.requires.some_tick s.invariant enough
