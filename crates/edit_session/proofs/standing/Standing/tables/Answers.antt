use Rattle.std.proofs.Common.{◌≡◌, ◌+◌, ◌++◌, ◌∷◌, [], arith, length, map, take, sym, ap, subst, refl, ◌∙◌, Bor}
use Rattle.std.proofs.lemmas.List.{map_push}
use Rattle.std.proofs.Math.Seq.{take-length}
use Rattle.bar_pool.proofs.EachLemmas.{Each-more}
use Rattle.bar_pool.specs.Pool.{AreTablesOf, IsTableOf}
use Rattle.rhythm_base.specs.BarInput.{BarInput}
use Rattle.rhythm_base.specs.BarTables.{BarTable}
use Rattle.edit_session.proofs.standing.Standing.tables.Goals as goal

abbrev now_of : Bor BarTable → BarTable
now_of t = t.now

pub inputs-init : goal.inputs-init
inputs-init c = λ grammar stand. subst (λ ts. AreTablesOf grammar [] (map now_of ts)) (sym c.in_ok-found.ensures.items) refl

pub inputs-preserved : goal.inputs-preserved
inputs-preserved c = λ grammar stand.
    let inputs = c.args.inputs.now in
    let n = c.inputs.number in
    let found = c.inputs.found.items in
    let input = c.index-inputs-number.result in
    let table = c.in-Some.table in
    let of : IsTableOf grammar input table.now = c.in-Some.ensures grammar stand in
    let there = subst (λ (k : BarInput). IsTableOf grammar k table.now) c.index-inputs-number.is of in
    subst (AreTablesOf grammar (take (n + 1) inputs)) (sym (ap (map now_of) c.in_ok-push-in-Some.ensures.items ∙ map_push now_of found table))
    (Each-more (IsTableOf grammar) inputs (map now_of found) n input table.now c.inputs-test.true (c.inputs.invariant grammar stand) there)

pub returns : goal.returns
returns c = λ grammar stand.
    let inputs = c.args.inputs.now in
    let end : c.inputs.number ≡ length inputs = omega (arith, c.inputs-test.false, c.inputs.auto.number-end) in
    subst (λ l. AreTablesOf grammar l (map now_of c.inputs.found.items)) (ap (λ n. take n inputs) end ∙ take-length inputs) (c.inputs.invariant grammar stand)
