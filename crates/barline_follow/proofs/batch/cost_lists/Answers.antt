use Rattle.std.proofs.Common.{◌≡◌, ◌+◌, ◌-◌, ◌*◌, ℕ, List, length, ap, sym, subst, ◌∙◌, arith}
use Rattle.std.specs.Prelude.{All}
use Rattle.std.specs.List.{flat_map}
use Rattle.std.proofs.Math.Nat.{mul-le-mul_right}
use Rattle.bar_pool.specs.Costs.{AreAllCosts}
use Rattle.bar_pool.specs.Pool.{RisesWithin}
use Rattle.bar_pool.specs.declared.order.AskedCell.{AskedCell}
use Rattle.least_cost.specs.declared.costs.BarCosts.{BarCosts}
use Rattle.rhythm_base.specs.Counter.{risen}
use Rattle.barline_follow.specs.Longer.{Longer}
use Rattle.barline_follow.specs.PassedOver.{IsWeighed, cells_in}
use Rattle.barline_follow.proofs.Batches.{cells_few, rises_on, rises_to, risen_voice, room_on, same_long, units_in}
use Rattle.barline_follow.proofs.batch.cost_lists.Goals as goal

pub build_all_costs-requires-clause-units : goal.build_all_costs-requires-clause-units
build_all_costs-requires-clause-units g c κs within =
    let next = c.args.next.now in
    subst (λ (l : List AskedCell). All (λ (k : AskedCell). k.input.resolution ≡ next.grammar.now.resolution) l)
    (sym (c.as_slice-asked.ensures.value ∙ c.in_ok-cells.ensures.cells)) (units_in next c.voices.voice c.voice_cells.new.lists)

pub returns-in_err-costs-clause-most : goal.returns-in_err-costs-clause-most
returns-in_err-costs-clause-most g c =
    let next = c.args.next.now in
    let v : ℕ = c.voices.voice in
    let n : ℕ = length c.args.lists.now in
    let ls : List Longer = c.voice_cells.new.lists in
    let long : length ls ≡ n = same_long ls c.args.lists.now (c.in_ok-cells.ensures.drafts ∙ c.voices.invariant.1) in
    let cells_are = ap length (c.as_slice-asked.ensures.value ∙ c.in_ok-cells.ensures.cells) in
    let few = cells_few next v ls in
    rises_on c.args.builds.now c.voices.builds c.build_all_costs.new.builds (v * n) (length c.as_slice-asked.result.now) (length next.voices.now * n)
    c.voices.invariant.2 c.build_all_costs.ensures.most
    (room_on v (length next.voices.now) n (length c.as_slice-asked.result.now) c.voices-test.true (omega (arith, long, cells_are, few)))

pub overflow_sub-lists : goal.overflow_sub-lists
overflow_sub-lists g c =
    let cells_are = ap length (c.as_slice-asked.ensures.value ∙ c.in_ok-cells.ensures.cells) in
    omega (arith, cells_are, cells_few c.args.next.now c.voices.voice c.voice_cells.new.lists)

pub take_costs-requires : goal.take_costs-requires
take_costs-requires g c =
    let next = c.args.next.now in
    let v : ℕ = c.voices.voice in (
      next,
      c.args.round.now,
      v,
      c.voices-test.true,
      c.in_ok-cells.ensures.weighed,
      subst (λ (l : List BarCosts). AreAllCosts next.grammar.now (flat_map (cells_in next v) c.voice_cells.new.lists) l) (sym c.as_slice.ensures.value)
          (subst (λ (l : List AskedCell). AreAllCosts next.grammar.now l c.in_ok-costs.costs.items)
          (c.as_slice-asked.ensures.value ∙ c.in_ok-cells.ensures.cells) c.in_ok-costs.ensures.costs),
    )

pub returns-in_err-take_costs-clause-most : goal.returns-in_err-take_costs-clause-most
returns-in_err-take_costs-clause-most g c =
    let next = c.args.next.now in
    let v : ℕ = c.voices.voice in
    let n : ℕ = length c.args.lists.now in
    let ls : List Longer = c.voice_cells.new.lists in
    let k : ℕ = length c.as_slice-asked.result.now in
    let long : length ls ≡ n = same_long ls c.args.lists.now (c.in_ok-cells.ensures.drafts ∙ c.voices.invariant.1) in
    let cells_are = ap length (c.as_slice-asked.ensures.value ∙ c.in_ok-cells.ensures.cells) in
    let few = cells_few next v ls in
    let is = c.count_passed.ensures
    ∙ ap (λ (x : ℕ). risen x (length ls - k)) (c.in_ok-costs.ensures.builds ∙ ap (λ (x : ℕ). risen x k) c.voices.invariant.2)
    ∙ risen_voice c.args.builds.now v n k (length ls - k) (omega (arith, long, cells_are, few)) in
    subst (λ (x : ℕ). RisesWithin c.args.builds.now x (length next.voices.now * n)) (sym is)
    (rises_to c.args.builds.now ((v + 1) * n) (length next.voices.now * n) (mul-le-mul_right n (omega (arith, c.voices-test.true))))

pub voices-preserved : goal.voices-preserved
voices-preserved g c =
    let next = c.args.next.now in
    let v : ℕ = c.voices.voice in
    let n : ℕ = length c.args.lists.now in
    let ls : List Longer = c.voice_cells.new.lists in
    let k : ℕ = length c.as_slice-asked.result.now in
    let long : length ls ≡ n = same_long ls c.args.lists.now (c.in_ok-cells.ensures.drafts ∙ c.voices.invariant.1) in
    let cells_are = ap length (c.as_slice-asked.ensures.value ∙ c.in_ok-cells.ensures.cells) in
    let few = cells_few next v ls in
    let are = subst (λ (l : List BarCosts). AreAllCosts next.grammar.now (flat_map (cells_in next v) ls) l) (sym c.as_slice.ensures.value)
    (subst (λ (l : List AskedCell). AreAllCosts next.grammar.now l c.in_ok-costs.costs.items)
    (c.as_slice-asked.ensures.value ∙ c.in_ok-cells.ensures.cells) c.in_ok-costs.ensures.costs) in (
      c.in_ok-take_costs.ensures.weighed next c.args.round.now v c.voices-test.true c.in_ok-cells.ensures.weighed are,
      c.in_ok-take_costs.ensures.drafts ∙ c.in_ok-cells.ensures.drafts ∙ c.voices.invariant.1,
      c.count_passed.ensures
          ∙ ap (λ (x : ℕ). risen x (length ls - k)) (c.in_ok-costs.ensures.builds ∙ ap (λ (x : ℕ). risen x k) c.voices.invariant.2)
          ∙ risen_voice c.args.builds.now v n k (length ls - k) (omega (arith, long, cells_are, few)),
    )

pub returns-clause-weighed : goal.returns-clause-weighed
returns-clause-weighed g c =
    let next = c.args.next.now in
    let last : c.voices.voice ≡ length next.voices.now = omega (arith, c.voices-test.false, c.voices.auto.voice-end) in
    subst (λ (m : ℕ). All (IsWeighed next c.args.round.now m) c.voices.lists) last c.voices.invariant.0
