use Rattle.std.proofs.Common.{rules, ◌≡◌, ℕ, ◌+◌, ◌/◌, ◌<◌, ◌≤◌, max, length, [], ◌∷◌, ◌++◌, map, take, sym, subst}
use Rattle.grammar_plan.specs.Drafts.{ArePushed}
use Rattle.grammar_plan.proofs.Growing.{pushed-all, pushed-taken}
use Rattle.grammar_plan.proofs.parts.push_equal.Goals as goal

pub symbols-preserved : goal.symbols-preserved
symbols-preserved c =
    let xs = c.args.symbols.now in
    let i = c.symbols.symbol-index in
    let low : i < length xs = search rules in
    let pushed : c.push.new.self.items ≡ c.symbols.draft.parts.items ++ c.in_ok-seat.seat ∷ [] = search rules in
    record {
      cuts = c.symbols.invariant.cuts;
      pushed =
          subst (λ l. ArePushed c.args.draft.now.pairs.found.items c.seat.new.self.found.items c.args.draft.now.parts.items l (map (λ (s : ℕ). (c.args.width / c.max.result, s)) (take (i + 1) xs))) (sym pushed)
          (pushed-taken (λ (s : ℕ). (c.args.width / c.max.result, s)) xs c.args.draft.now.pairs.found.items c.symbols.draft.pairs.found.items c.args.draft.now.parts.items c.symbols.draft.parts.items i 0 c.seat.new.self.found.items c.in_ok-seat.seat low c.symbols.invariant.pushed c.in_ok-seat.ensures.more c.in_ok-seat.ensures.seat);
    }

pub returns : goal.returns
returns c =
    let share : c.max.result ≡ max 1 (length c.args.symbols.now) = search rules in
    let past : length c.args.symbols.now ≤ c.symbols.symbol-index = search rules in
    record {
      cuts = c.symbols.invariant.cuts;
      pushed =
          subst (λ n. ArePushed c.args.draft.now.pairs.found.items c.symbols.draft.pairs.found.items c.args.draft.now.parts.items c.symbols.draft.parts.items (map (λ (s : ℕ). (c.args.width / n, s)) c.args.symbols.now)) share
          (pushed-all (λ (s : ℕ). (c.args.width / c.max.result, s)) c.args.symbols.now c.args.draft.now.pairs.found.items c.symbols.draft.pairs.found.items c.args.draft.now.parts.items c.symbols.draft.parts.items c.symbols.symbol-index past c.symbols.invariant.pushed);
    }
