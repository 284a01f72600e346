use Rattle.std.proofs.Common.{◌≡◌, ◌∙◌, length, map, ap, arith, sym, subst, subst₂}
use Rattle.std.proofs.lemmas.List.{length-map}
use Rattle.std.proofs.lemmas.Result.{IfOk-weaker}
use Rattle.bar_pool.specs.Pool.{AreTablesOf, IsTableOf, RisesWithin}
use Rattle.edit_session.specs.Prepared.{bar_table_of}
use Rattle.edit_session.specs.Session.{Session}
use Rattle.edit_session.proofs.EachRuns.{Each-length}
use Rattle.edit_session.proofs.StandingTables.{found_long, found_tables, now_of}
use Rattle.edit_session.proofs.session.Session.reached_tables.Goals as goal

-- ---- all of them stand

pub returns-in_err-tables-clause-most : goal.returns-in_err-tables-clause-most
returns-in_err-tables-clause-most g c =
    let voices = c.self.inside.voices.items in
    let inputs = c.as_slice-inputs.result.now in
    let of = found_tables c.self.inside.grammar c.self.inside.performance c.self.inside.room voices c.as_slice-voices.result.now c.self.invariant.each c.as_slice-voices.ensures.value
    inputs c.in_ok-found.field-0 c.in-Some.found c.in-Some.is c.in_ok-found.ensures in
    let long = found_long c.self.inside.grammar inputs c.in-Some.found.items of in
    let cells : length c.as_slice.result.now ≡ length c.args.reached.now.cells.items =
    ap length c.as_slice.ensures.value ∙ long ∙ ap length c.as_slice-inputs.ensures.value ∙ c.requires.inputs in
    subst (λ n. RisesWithin c.args.builds.now c.taken_over.new.builds n) cells c.in_err-tables.ensures.most

pub placed_tables-requires : goal.placed_tables-requires
placed_tables-requires g c =
    let voices = c.self.inside.voices.items in
    let inputs = c.as_slice-inputs.result.now in
    let of = found_tables c.self.inside.grammar c.self.inside.performance c.self.inside.room voices c.as_slice-voices.result.now c.self.invariant.each c.as_slice-voices.ensures.value
    inputs c.in_ok-found.field-0 c.in-Some.found c.in-Some.is c.in_ok-found.ensures in
    let long = found_long c.self.inside.grammar inputs c.in-Some.found.items of in
    let cells : length c.as_slice.result.now ≡ length c.args.reached.now.cells.items =
    ap length c.as_slice.ensures.value ∙ long ∙ ap length c.as_slice-inputs.ensures.value ∙ c.requires.inputs in
    ap length c.in_ok-tables.ensures.tables ∙ length-map c.as_slice.result.now now_of ∙ cells ∙ sym (ap length c.as_slice-in-Some.ensures.value)

pub returns-in-Some-clause-most : goal.returns-in-Some-clause-most
returns-in-Some-clause-most g c =
    let voices = c.self.inside.voices.items in
    let inputs = c.as_slice-inputs.result.now in
    let of = found_tables c.self.inside.grammar c.self.inside.performance c.self.inside.room voices c.as_slice-voices.result.now c.self.invariant.each c.as_slice-voices.ensures.value
    inputs c.in_ok-found.field-0 c.in-Some.found c.in-Some.is c.in_ok-found.ensures in
    let long = found_long c.self.inside.grammar inputs c.in-Some.found.items of in
    let cells : length c.as_slice.result.now ≡ length c.args.reached.now.cells.items =
    ap length c.as_slice.ensures.value ∙ long ∙ ap length c.as_slice-inputs.ensures.value ∙ c.requires.inputs in
    subst (λ n. RisesWithin c.args.builds.now c.taken_over.new.builds n) cells c.in_ok-tables.ensures.most

pub returns-in-Some-clause-tables : goal.returns-in-Some-clause-tables
returns-in-Some-clause-tables g c =
    let voices = c.self.inside.voices.items in
    let inputs = c.as_slice-inputs.result.now in
    let of = found_tables c.self.inside.grammar c.self.inside.performance c.self.inside.room voices c.as_slice-voices.result.now c.self.invariant.each c.as_slice-voices.ensures.value
    inputs c.in_ok-found.field-0 c.in-Some.found c.in-Some.is c.in_ok-found.ensures in
    let grammar = c.args.self.now.grammar in
    let same = ap (λ (s : Session). s.grammar) c.self.view_is in
    let own = subst₂ (λ h ks. AreTablesOf h ks (map now_of c.in-Some.found.items)) same c.as_slice-inputs.ensures.value of in
    let taken = c.in_ok-tables.ensures.tables ∙ ap (map now_of) c.as_slice.ensures.value in
    IfOk-weaker c.placed_tables.result (λ v. map bar_table_of v.items ≡ c.in_ok-tables.tables.items) (λ v. AreTablesOf grammar c.args.reached.now.inputs.items (map bar_table_of v.items))
    (λ v are. subst (AreTablesOf grammar c.args.reached.now.inputs.items) (sym (are ∙ taken)) own) c.placed_tables.ensures.tables

-- ---- they are built

pub placed_tables-requires-2 : goal.placed_tables-requires-2
placed_tables-requires-2 g c =
    omega (
      arith,
      Each-length (IsTableOf c.self.inside.grammar) c.as_slice-inputs.result.now c.in_ok-tables-2.tables.items c.in_ok-tables-2.ensures.tables,
      ap length c.as_slice-inputs.ensures.value,
      ap length c.as_slice-2.ensures.value,
      c.requires.inputs,
    )
