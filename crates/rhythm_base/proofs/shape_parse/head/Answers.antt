use Rattle.std.proofs.Common.{List, ◌+◌, ◌<◌, ◌≤◌, ◌≡◌, ◌∷◌, ◌++◌, length, take, drop, get_or, ℕ, ◌-◌, sym, ap, ◌∙◌, subst, arith, inl, inr}
use Rattle.std.proofs.lemmas.Result.{err_from_is_err_and, IfOk-weaker}
use Rattle.rhythm_base.specs.ShapeReading.{HeadText, IsHead, StopsWith, head_text}
use Rattle.rhythm_base.proofs.ShapeStops
use Rattle.rhythm_base.proofs.ShapeTexts.{first_and_rest}
use mathlib.Core.Logic.{⊎_elim}
use Rattle.std.proofs.lemmas.Bool.Decides.{nat_tests}
use Rattle.rhythm_base.proofs.shape_parse.head.Goals as goal

pub returns-in-empty-clause-err : goal.returns-in-empty-clause-err
returns-in-empty-clause-err c =
    let text : List ℕ = c.args.text.now in
    let none : length text ≡ 0 = omega (arith, c.in-empty.len_below) in
    let next = ShapeStops.nothing_next text none in
    subst (λ n. StopsWith (HeadText c.args.levels) text n) none
    (ShapeStops.no_head c.args.levels text (λ h. omega (arith, h, next)) (inr (inr (omega (arith, next)))))

pub returns-in_err-byte-clause-err : goal.returns-in_err-byte-clause-err
returns-in_err-byte-clause-err c =
    let p = err_from_is_err_and c.from_residual.result c.from_residual.ensures.1 in
    let text : List ℕ = c.args.text.now in
    let digit : ℕ = get_or text 0 0 in
    let rest : List ℕ = take (length text - 1) (drop 1 text) in
    let range = c.if-contains.ensures.cases in
    let low : 50 ≤ digit = grind (arith, nat_tests, range.0, c.new.ensures.start) in
    let high : digit ≤ 57 = grind (arith, nat_tests, range.1, c.new.ensures.end) in
    let value : digit ≡ 48 + (digit - 48) = omega arith in
    let is : text ≡ (48 + (digit - 48)) ∷ rest = first_and_rest 0 text c.in-len1-up.len_at_least ∙ ap (λ d. d ∷ rest) value in
    ShapeStops.stopped c.from_residual.result _ p.0 p.1 p.2 c.in_err-byte.ensures.err
    (λ left stop. ShapeStops.digit_then_bracket c.args.levels (digit - 48) rest text left (omega (arith, c.if-levels-eq0.false)) (omega arith) (omega arith) is stop)

pub returns-then-levels-eq0-clause-err : goal.returns-then-levels-eq0-clause-err
returns-then-levels-eq0-clause-err c =
    let text : List ℕ = c.args.text.now in
    let next = ShapeStops.next_is text c.in-len1-up.len_at_least in
    ShapeStops.no_head c.args.levels text (λ h. c.if-first-eq46.false (sym next ∙ h)) (inl c.if-levels-eq0.true)

pub returns-then-first-eq49-clause-ok : goal.returns-then-first-eq49-clause-ok
returns-then-first-eq49-clause-ok c =
    let text : List ℕ = c.args.text.now in
    let rest : List ℕ = take (length text - 1) (drop 1 text) in
    let is : text ≡ 49 ∷ rest = first_and_rest 0 text c.in-len1-up.len_at_least ∙ ap (λ d. d ∷ rest) c.if-first-eq49.true in
    IfOk-weaker c.head_after_1.result _ _ (λ r w.
    let can = ShapeStops.can_be r.0 (omega (arith, w.0)) w.1 in (
      record { can = can; low = λ none. absurd (c.if-levels-eq0.false none) },
      is ∙ ap (λ l. 49 ∷ l) w.2 ∙ ap (λ l. l ++ r.1.now) (sym (ShapeStops.head_great r.0 w.0 can)),
    )) c.head_after_1.ensures.ok

pub returns-then-first-eq49-clause-err : goal.returns-then-first-eq49-clause-err
returns-then-first-eq49-clause-err c =
    let text : List ℕ = c.args.text.now in
    let rest : List ℕ = take (length text - 1) (drop 1 text) in
    let is : text ≡ 49 ∷ rest = first_and_rest 0 text c.in-len1-up.len_at_least ∙ ap (λ d. d ∷ rest) c.if-first-eq49.true in
    ShapeStops.turned c.head_after_1.result c.head_after_1.ensures.err
    (λ left stop. ShapeStops.one_then_digit c.args.levels rest text left (omega (arith, c.if-levels-eq0.false)) is stop)

pub returns-in_ok-byte-clause-ok : goal.returns-in_ok-byte-clause-ok
returns-in_ok-byte-clause-ok c =
    let text : List ℕ = c.args.text.now in
    let digit : ℕ = get_or text 0 0 in
    let rest : List ℕ = take (length text - 1) (drop 1 text) in
    let range = c.if-contains.ensures.cases in
    let low : 50 ≤ digit = grind (arith, nat_tests, range.0, c.new.ensures.start) in
    let high : digit ≤ 57 = grind (arith, nat_tests, range.1, c.new.ensures.end) in
    let n : c.from.result ≡ digit - 48 = c.from.ensures in
    let small : 2 ≤ digit - 48 = omega arith in
    let great : digit - 48 ≤ 9 = omega arith in
    let can = ShapeStops.can_be (digit - 48) small (omega arith) in
    let value : digit ≡ 48 + (digit - 48) = omega arith in
    let whole : text ≡ head_text (digit - 48) ++ c.in_ok-byte.field-0.now =
    first_and_rest 0 text c.in-len1-up.len_at_least ∙ ap (λ d. d ∷ rest) value ∙ ap (λ l. (48 + (digit - 48)) ∷ l) c.in_ok-byte.ensures.ok
    ∙ ap (λ l. l ++ c.in_ok-byte.field-0.now) (sym (ShapeStops.head_small (digit - 48) small great can)) in
    subst (λ k. IsHead c.args.levels k × (text ≡ head_text k ++ c.in_ok-byte.field-0.now)) (sym n)
    (record { can = can; low = λ none. absurd (c.if-levels-eq0.false none) }, whole)

pub returns-else-contains-clause-err : goal.returns-else-contains-clause-err
returns-else-contains-clause-err c =
    let text : List ℕ = c.args.text.now in
    let next = ShapeStops.next_is text c.in-len1-up.len_at_least in
    ShapeStops.no_head c.args.levels text (λ h. c.if-first-eq46.false (sym next ∙ h)) (inr
    (⊎_elim (λ h. let wrong : get_or text 0 0 < 50 = grind (arith, nat_tests, h, c.new.ensures.start) in inl (omega (arith, wrong, next, c.if-first-eq49.false)))
    (λ h. let wrong : 57 < get_or text 0 0 = grind (arith, nat_tests, h, c.new.ensures.end) in inr (omega (arith, wrong, next))) c.if-contains.ensures.cases))
