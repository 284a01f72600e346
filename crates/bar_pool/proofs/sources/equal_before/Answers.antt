use Rattle.std.proofs.Common.{rules, ◌≡◌, length, refl}
use Rattle.std.specs.Prelude.{Some, slice_get}
use Rattle.std.proofs.lemmas.Option.{slice_get_read}
use Rattle.bar_pool.specs.Sources.{IsBare}
use Rattle.bar_pool.proofs.KnownInputs.{knows_bare, knows_more, source_is}
use Rattle.bar_pool.proofs.sources.equal_before.Goals as goal

pub returns-then-is_bare-clause-known : goal.returns-then-is_bare-clause-known
returns-then-is_bare-clause-known c =
    let inputs = c.args.inputs.now in
    let input = c.index-inputs-number.result in
    let at : slice_get inputs c.args.number ≡ Some input = slice_get_read inputs (length inputs) c.args.number input refl c.requires.within c.index-inputs-number.is in
    let bare : IsBare input = search rules in
    knows_bare inputs c.args.number c.args.known.now c.requires.known input at bare

pub returns-clause-source : goal.returns-clause-source
returns-clause-source c =
    let inputs = c.args.inputs.now in
    let input = c.index-inputs-number.result in
    let at : slice_get inputs c.args.number ≡ Some input = slice_get_read inputs (length inputs) c.args.number input refl c.requires.within c.index-inputs-number.is in
    let full : IsBare input → ⊥ = search rules in
    source_is inputs c.args.number c.args.known.now c.requires.known (record { input = record { ref_ptr = c.args.inputs.ref_ptr; now = input } }) at full c.in_ok-insert.field-0 c.in_ok-insert.ensures.old

pub returns-clause-known : goal.returns-clause-known
returns-clause-known c =
    let inputs = c.args.inputs.now in
    let input = c.index-inputs-number.result in
    let at : slice_get inputs c.args.number ≡ Some input = slice_get_read inputs (length inputs) c.args.number input refl c.requires.within c.index-inputs-number.is in
    knows_more inputs c.args.number c.args.known.now c.requires.known (record { input = record { ref_ptr = c.args.inputs.ref_ptr; now = input } }) at c.insert.new.self c.in_ok-insert.ensures.updates.0
