use Rattle.std.proofs.Common.{List, ◌+◌, ◌<◌, ◌≤◌, ◌≡◌, ◌∷◌, length, take, drop, get_or, ℕ, ◌-◌, ap, ◌∙◌, subst, arith}
use Rattle.std.proofs.lemmas.Result.{err_from_is_err_and}
use Rattle.rhythm_base.specs.ShapeReading.{HeadAfter1, StopsWith}
use Rattle.rhythm_base.proofs.ShapeStops
use Rattle.rhythm_base.proofs.ShapeTexts.{first_and_rest}
use mathlib.Core.Logic.{⊎_elim}
use Rattle.std.proofs.lemmas.Bool.Decides.{nat_tests}
use Rattle.rhythm_base.proofs.shape_parse.head_after_1.Goals as goal

pub returns-in_err-byte-in-len1-up-clause-err : goal.returns-in_err-byte-in-len1-up-clause-err
returns-in_err-byte-in-len1-up-clause-err c =
    let p = err_from_is_err_and c.from_residual.result c.from_residual.ensures.1 in
    let text : List ℕ = c.args.text.now in
    let digit : ℕ = get_or text 0 0 in
    let rest : List ℕ = take (length text - 1) (drop 1 text) in
    let range = c.if-contains.ensures.cases in
    let low : 48 ≤ digit = grind (arith, nat_tests, range.0, c.new.ensures.start) in
    let high : digit ≤ 54 = grind (arith, nat_tests, range.1, c.new.ensures.end) in
    let value : digit ≡ 38 + (digit - 38) = omega arith in
    let is : text ≡ (38 + (digit - 38)) ∷ rest = first_and_rest 0 text c.in-len1-up.len_at_least ∙ ap (λ d. d ∷ rest) value in
    ShapeStops.stopped c.from_residual.result _ p.0 p.1 p.2 c.in_err-byte-in-len1-up.ensures.err
    (λ left stop. ShapeStops.second_then_bracket (digit - 38) rest text left (omega arith) (omega arith) is stop)

pub returns-in-empty-clause-err : goal.returns-in-empty-clause-err
returns-in-empty-clause-err c =
    let text : List ℕ = c.args.text.now in
    let none : length text ≡ 0 = omega (arith, c.in-empty.len_below) in
    subst (λ n. StopsWith HeadAfter1 text n) none (ShapeStops.no_second text (λ low high. omega (arith, high, ShapeStops.nothing_next text none)))

pub returns-else-contains-clause-err : goal.returns-else-contains-clause-err
returns-else-contains-clause-err c =
    let range = c.if-contains.ensures.cases in
    let text : List ℕ = c.args.text.now in
    let next = ShapeStops.next_is text c.in-len1-up.len_at_least in
    ShapeStops.no_second text (λ low high.
    let below : 48 ≤ get_or text 0 0 = omega (arith, low, next) in
    let above : get_or text 0 0 ≤ 54 = omega (arith, high, next) in
    ⊎_elim (λ h. let wrong : get_or text 0 0 < 48 = grind (arith, nat_tests, h, c.new.ensures.start) in omega (arith, wrong, below))
    (λ h. let wrong : 54 < get_or text 0 0 = grind (arith, nat_tests, h, c.new.ensures.end) in omega (arith, wrong, above)) range)
