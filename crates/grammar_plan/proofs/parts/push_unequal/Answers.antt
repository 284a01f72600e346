use Rattle.std.proofs.Common.{rules, ◌≡◌, ℕ, ◌+◌, ◌*◌, ◌/◌, ◌<◌, ◌≤◌, max, length, [], ◌∷◌, ◌++◌, map, take, sym, subst, arith}
use Rattle.rhythm_base.specs.Bodies.{sizes}
use Rattle.rhythm_base.proofs.Sizes.{part_le}
use Rattle.grammar_plan.specs.Drafts.{ArePushed}
use Rattle.grammar_plan.proofs.Growing.{pushed-all, pushed-taken}
use Rattle.grammar_plan.proofs.parts.push_unequal.Goals as goal

pub overflow_mul-portion : goal.overflow_mul-portion
overflow_mul-portion c =
    let share : c.max.result ≡ max 1 (sizes c.args.portions.now) = search rules in
    let fits = part_le c.args.portions.now c.portions.portion-index c.args.width (0, 0) c.portions-test.true in
    rw share (omega arith)

pub portions-preserved : goal.portions-preserved
portions-preserved c =
    let xs = c.args.portions.now in
    let i = c.portions.portion-index in
    let low : i < length xs = search rules in
    let pushed : c.push.new.self.items ≡ c.portions.draft.parts.items ++ c.in_ok-seat.seat ∷ [] = search rules in
    record {
      cuts = c.portions.invariant.cuts;
      pushed =
          subst (λ l. ArePushed c.args.draft.now.pairs.found.items c.seat.new.self.found.items c.args.draft.now.parts.items l (map (λ (q : ℕ × ℕ). (q.0 * (c.args.width / c.max.result), q.1)) (take (i + 1) xs))) (sym pushed)
          (pushed-taken (λ (q : ℕ × ℕ). (q.0 * (c.args.width / c.max.result), q.1)) xs c.args.draft.now.pairs.found.items c.portions.draft.pairs.found.items c.args.draft.now.parts.items c.portions.draft.parts.items i (0, 0) c.seat.new.self.found.items c.in_ok-seat.seat low c.portions.invariant.pushed c.in_ok-seat.ensures.more c.in_ok-seat.ensures.seat);
    }

pub returns : goal.returns
returns c =
    let share : c.max.result ≡ max 1 (sizes c.args.portions.now) = search rules in
    let past : length c.args.portions.now ≤ c.portions.portion-index = search rules in
    record {
      cuts = c.portions.invariant.cuts;
      pushed =
          subst (λ n. ArePushed c.args.draft.now.pairs.found.items c.portions.draft.pairs.found.items c.args.draft.now.parts.items c.portions.draft.parts.items (map (λ (q : ℕ × ℕ). (q.0 * (c.args.width / n), q.1)) c.args.portions.now)) share
          (pushed-all (λ (q : ℕ × ℕ). (q.0 * (c.args.width / c.max.result), q.1)) c.args.portions.now c.args.draft.now.pairs.found.items c.portions.draft.pairs.found.items c.args.draft.now.parts.items c.portions.draft.parts.items c.portions.portion-index past c.portions.invariant.pushed);
    }
