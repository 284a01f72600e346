use Rattle.std.proofs.Common.{rules, ◌≡◌, ◌∙◌, ℕ, ◌+◌, ◌<◌, ◌≤◌, Bool, [], length, get_or, None, refl, sym, ap, subst, arith}
use Rattle.std.specs.Prelude.{Option, All, slice_index_or}
use Rattle.std.proofs.lemmas.Option.{get_or_from_slice_get, slice_get_read}
use Rattle.rhythm_base.specs.Bodies.{children}
use Rattle.rhythm_base.specs.Ranked.{five}
use Rattle.path_laws.proofs.Products.{five_at}
use Rattle.row_laws.specs.QuietTrees.{sounds_so}
use Rattle.grammar_plan.specs.Plans.{between, pair_of, place_of_leaf}
use Rattle.grammar_plan.specs.QuietRows.{cut_tree, leaf_tree, nearer_tree, parts_cost}
use Rattle.grammar_plan.specs.declared.leaf_rule.LeafRule.{LeafRule}
use Rattle.grammar_plan.specs.declared.quiet_tree.QuietTree.{QuietTree}
use Rattle.grammar_plan.proofs.QuietLemmas.{IsBestTree, IsTriedRule, cut-here, tried-all, tried-next, tried-none}
use Rattle.grammar_plan.proofs.QuietSums.{seats-known}
use Rattle.grammar_plan.proofs.quiet_trees.quiet_row.Goals as goal

pub cuts-init : goal.cuts-init
cuts-init c =
    let g = c.args.grammar.now in
    let plan = c.args.plan.now in
    let s = c.args.seat in
    let leaf : ℕ → Bool → Option LeafRule = λ from sounds. slice_index_or (slice_index_or plan.leaves.items s.symbol []) (place_of_leaf from sounds) None in
    let x = c.index.result.now in
    let row : x ≡ get_or plan.leaves.items s.symbol []
    = sym (get_or_from_slice_get plan.leaves.items s.symbol x [] (slice_get_read plan.leaves.items (length plan.leaves.items) s.symbol x refl c.requires.seat.symbol c.index.ensures)) in
    let so : c.sounds_so.result ≡ sounds_so c.args.quiet = c.sounds_so.ensures in
    let is : c.leaf_row-row.result ≡ five (λ from. leaf_tree (leaf from (sounds_so c.args.quiet)))
    = c.leaf_row-row.ensures ∙ (λ j. five (λ from. leaf_tree (slice_index_or (row j) (place_of_leaf from (so j)) None))) in
    record {
      long = ap length is;
      best = λ from low.
          subst (IsBestTree g plan c.args.quiet (pair_of s) from (IsTriedRule g plan c.args.quiet s s.first))
          (sym (ap (λ l. slice_index_or l from None) is ∙ five_at (λ from. leaf_tree (leaf from (sounds_so c.args.quiet))) None from low))
          (tried-none g plan c.args.quiet s c.requires.seat from low (leaf from (sounds_so c.args.quiet)) (c.requires.frame.leaves s.symbol from (sounds_so c.args.quiet) c.requires.seat.symbol (omega (arith, low))));
    }

pub parts_of-requires-clause-order : goal.parts_of-requires-clause-order
parts_of-requires-clause-order c =
    let from : c.args.seat.first ≤ c.cuts.number = search rules in
    (cut-here c.args.grammar.now c.args.plan.now c.args.seat c.requires.seat c.cuts.number c.index-cut.result.now from c.cuts-test.true c.index-cut.ensures).1.order

pub parts_of-requires-clause-within : goal.parts_of-requires-clause-within
parts_of-requires-clause-within c =
    let from : c.args.seat.first ≤ c.cuts.number = search rules in
    (cut-here c.args.grammar.now c.args.plan.now c.args.seat c.requires.seat c.cuts.number c.index-cut.result.now from c.cuts-test.true c.index-cut.ensures).1.within

pub cut_row-row-requires-clause-parts : goal.cut_row-row-requires-clause-parts
cut_row-row-requires-clause-parts c =
    let plan = c.args.plan.now in
    let cut = c.index-cut.result.now in
    let from : c.args.seat.first ≤ c.cuts.number = search rules in
    let is = (cut-here c.args.grammar.now plan c.args.seat c.requires.seat c.cuts.number cut from c.cuts-test.true c.index-cut.ensures).1 in
    let ns : c.parts_of.result.now ≡ between plan.parts.items cut.first cut.end = c.parts_of.ensures.parts in
    subst (All (λ n. n < length c.args.rows.now)) (sym ns)
    (seats-known plan (between plan.parts.items cut.first cut.end) (children is.rule.body c.args.seat.width) (length c.args.rows.now) c.requires.narrower.1.long is.parts)

pub cuts-preserved : goal.cuts-preserved
cuts-preserved c =
    let g = c.args.grammar.now in
    let plan = c.args.plan.now in
    let s = c.args.seat in
    let i = c.cuts.number in
    let cut = c.index-cut.result.now in
    let rows = c.args.rows.now in
    let from : s.first ≤ i = search rules in
    let at = (cut-here g plan s c.requires.seat i cut from c.cuts-test.true c.index-cut.ensures).0 in
    let ns : c.parts_of.result.now ≡ between plan.parts.items cut.first cut.end = c.parts_of.ensures.parts in
    let next : ℕ → Option QuietTree = λ a. nearer_tree (slice_index_or c.cuts.row a None) (cut_tree cut i (parts_cost rows a (between plan.parts.items cut.first cut.end))) in
    let is : c.cut_row-row.result ≡ five next
    = c.cut_row-row.ensures ∙ ap (λ ns. five (λ a. nearer_tree (slice_index_or c.cuts.row a None) (cut_tree cut i (parts_cost rows a ns)))) ns in
    record {
      long = ap length is;
      best = λ a low.
          subst (IsBestTree g plan c.args.quiet (pair_of s) a (IsTriedRule g plan c.args.quiet s (i + 1)))
          (sym (ap (λ l. slice_index_or l a None) is ∙ five_at next None a low))
          (tried-next g plan c.args.quiet s c.requires.seat a low rows c.requires.narrower.0 c.requires.narrower.1 i cut from c.cuts-test.true at (slice_index_or c.cuts.row a None) (c.cuts.invariant.best a low));
    }

pub returns-clause-least : goal.returns-clause-least
returns-clause-least c =
    let past : c.args.seat.end ≤ c.cuts.number = search rules in
    λ a low. tried-all c.args.grammar.now c.args.plan.now c.args.quiet c.args.seat c.requires.seat a low c.requires.readable c.cuts.number past (slice_index_or c.cuts.row a None) (c.cuts.invariant.best a low)
