use Rattle.std.proofs.Common.{rules, ◌≡◌, ◌<◌, ◌∙◌, ℕ, zero, suc, [], ◌∷◌, length, refl, subst, arith}
use Rattle.std.specs.Prelude.{Some, None, slice_index_or}
use Rattle.std.proofs.lemmas.Option.{get_or_from_slice_get}
use Rattle.grammar_plan.specs.declared.seat.Seat.{Seat}
use Rattle.least_rows.specs.States.{IsState}
use Rattle.least_rows.specs.Steps.{IsLeafAt}
use Rattle.least_rows.specs.declared.rows.Rows.{Rows}
use Rattle.least_rows.specs.declared.state.RowSpan.{RowSpan}
use Rattle.least_rows.specs.declared.state.State.{State}
use Rattle.least_rows.proofs.Known.{add-grows, add-known, add-state}
use Rattle.least_rows.proofs.rows.Rows.add_state.Goals as goal

no-rows : (b : ℕ) (span : RowSpan) → b < 5 → slice_index_or (None ∷ None ∷ None ∷ None ∷ None ∷ []) b None ≡ Some span → ⊥
no-rows zero span h e = absurd (cc)
no-rows (suc zero) span h e = absurd (cc)
no-rows (suc (suc zero)) span h e = absurd (cc)
no-rows (suc (suc (suc zero))) span h e = absurd (cc)
no-rows (suc (suc (suc (suc zero)))) span h e = absurd (cc)
no-rows (suc (suc (suc (suc (suc b))))) span h e = absurd (omega arith)

pub returns-clause-known : goal.returns-clause-known
returns-clause-known c =
    let bar = c.args.search.now in
    let new : Rows = record { table = c.write_slot.new.table; states = c.push.new.self; entries = c.args.self.now.entries } in
    let x : State = record { seat = c.args.seat; place = c.args.place; leaf = c.leaf-leaf.result; rows = None ∷ None ∷ None ∷ None ∷ None ∷ [] } in
    let s : Seat = c.requires.place.0 in
    let one : c.index.result.now ≡ s = c.index.ensures ∙ get_or_from_slice_get bar.plan.now.seats.items c.args.seat s c.index.result.now c.requires.place.1 in
    let leaf : IsLeafAt bar.grammar.now bar.input.now c.args.place s.width c.leaf-leaf.result = subst (λ (s : Seat). IsLeafAt bar.grammar.now bar.input.now c.args.place s.width c.leaf-leaf.result) one c.leaf-leaf.ensures in
    let own : IsState bar c.args.self.now.entries.items x = record { seat = s; at = c.requires.place.1; within = c.requires.place.2; leaf = leaf; rows = λ a span low e. absurd (no-rows a span low e) } in
    add-known c.args.self.now new x c.in_ok-push.ensures.items refl bar c.requires.known own

pub returns-clause-grows : goal.returns-clause-grows
returns-clause-grows c =
    let new : Rows = record { table = c.write_slot.new.table; states = c.push.new.self; entries = c.args.self.now.entries } in
    let x : State = record { seat = c.args.seat; place = c.args.place; leaf = c.leaf-leaf.result; rows = None ∷ None ∷ None ∷ None ∷ None ∷ [] } in
    add-grows c.args.self.now new x c.in_ok-push.ensures.items refl

pub returns-clause-state : goal.returns-clause-state
returns-clause-state c =
    let new : Rows = record { table = c.write_slot.new.table; states = c.push.new.self; entries = c.args.self.now.entries } in
    let x : State = record { seat = c.args.seat; place = c.args.place; leaf = c.leaf-leaf.result; rows = None ∷ None ∷ None ∷ None ∷ None ∷ [] } in
    let e : c.in_ok-number.number ≡ length c.args.self.now.states.items = search rules in
    add-state c.args.self.now new x c.in_ok-push.ensures.items refl c.in_ok-number.number c.args.seat c.args.place e refl refl
