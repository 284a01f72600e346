use Rattle.std.proofs.Common.{◌≡◌, ℕ, zero, suc, ◌+◌, ◌-◌, ◌<◌, List, [], ◌∷◌, ◌++◌, sym, ap, ap₂, ◌∙◌, subst, arith}
use Rattle.std.proofs.lemmas.List.{append-nil, append_assoc}
use Rattle.kern_writer.specs.Records.{grace_record, grace_records, grace_records_at, main_record, records_at}
use Rattle.kern_writer.specs.Tokens.{Token}
use Rattle.kern_writer.specs.Writing.{HasWritten}
use Rattle.kern_writer.proofs.Writing.{fault_handed, past_among, writes_after, written_after}
use Rattle.kern_writer.proofs.data.write_place.Goals as goal

graces_next : (place : ℕ) (columns : List (List Token)) (left : ℕ) → 0 < left → grace_records place columns left ≡ grace_record place columns (left - 1 + 1) ∷ grace_records place columns (left - 1)
graces_next place columns zero some = absurd (omega arith)
graces_next place columns (suc n) some =
    let e : n ≡ suc n - 1 = omega arith in
    let own : suc n ≡ suc n - 1 + 1 = omega arith in
    ap₂ (λ a k. grace_record place columns a ∷ grace_records place columns k) own e

pub returns-in_err-write_graces : goal.returns-in_err-write_graces
returns-in_err-write_graces c =
    let p = c.args.place in
    let columns = c.args.columns.now in
    let left = c.graces.left in
    let h = c.graces.invariant in
    let main = main_record p columns ∷ [] in
    let now = grace_record p columns (left - 1 + 1) ∷ [] in
    let rest = grace_records p columns (left - 1) in
    let next : h.0 ++ (now ++ (rest ++ main)) ≡ records_at columns p =
    sym (append_assoc h.0 (now ++ rest) main)
    ∙ ap (λ t. (h.0 ++ t) ++ main) (sym (graces_next p columns left c.graces-test.true)) ∙ ap (λ t. t ++ main) h.2 in
    fault_handed c.args.text.now c.write_graces.new.text (records_at columns p) c.from_residual.result c.in_err-write_graces.field-0.0 c.from_residual.ensures
    (past_among c.args.text.now c.graces.text h.0 now (rest ++ main) (records_at columns p) c.in_err-write_graces.field-0.0 h.1 next c.in_err-write_graces.ensures)

pub graces-preserved : goal.graces-preserved
graces-preserved c =
    let p = c.args.place in
    let columns = c.args.columns.now in
    let left = c.graces.left in
    let h = c.graces.invariant in
    let now = grace_record p columns (left - 1 + 1) ∷ [] in
    let rest = grace_records p columns (left - 1) in
    let all = written_after c.args.text.now c.graces.text c.write_graces.new.text h.0 now h.1 c.in_ok-write_graces.ensures in
    (h.0 ++ now, all, append_assoc h.0 now rest ∙ ap (λ t. h.0 ++ t) (sym (graces_next p columns left c.graces-test.true)) ∙ h.2)

pub returns : goal.returns
returns c =
    let p = c.args.place in
    let columns = c.args.columns.now in
    let h = c.graces.invariant in
    let main = main_record p columns ∷ [] in
    let none : c.graces.left ≡ 0 = omega (arith, c.graces-test.false) in
    let done : h.0 ≡ grace_records p columns (grace_records_at p columns) = sym (append-nil h.0) ∙ ap (λ n. h.0 ++ grace_records p columns n) (sym none) ∙ h.2 in
    let first = subst (HasWritten c.args.text.now c.graces.text) done h.1 in
    writes_after c.args.text.now c.graces.text c.write_main.new.text (grace_records p columns (grace_records_at p columns)) main c.write_main.result first c.write_main.ensures
