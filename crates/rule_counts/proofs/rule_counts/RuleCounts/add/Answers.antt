use Rattle.std.proofs.Common.{◌≡◌, ℕ, ◌<◌, ◌≤◌, ◌+◌, ◌∙◌, List, length, set, get_or, take, min, sym, ap, subst, arith, refl}
use Rattle.std.proofs.lemmas.Grind.{get_or_default_zero}
use Rattle.std.proofs.lemmas.List.Elements.{All-set}
use Rattle.rule_counts.specs.Counts.{AreRaised}
use Rattle.rule_counts.proofs.Raising.{raised_none, raised_more}
use Rattle.rule_counts.proofs.rule_counts.RuleCounts.add.Goals as goal

pub rules-init : goal.rules-init
rules-init c = record { raised = raised_none c.self.inside.counts.items (λ k h. c.self.invariant k 0 h); capped = c.self.invariant }

pub rules-preserved : goal.rules-preserved
rules-preserved c =
    let old : List ℕ = c.self.inside.counts.items in
    let list : List ℕ = c.args.list.now in
    let new : List ℕ = c.rules.self-inside.counts.items in
    let i : ℕ = c.rules.rule-index in
    let n : ℕ = get_or list i 0 in
    let here : i < length list = c.rules-test.true in
    let within : n < length old = subst (λ xs. n < length xs) (sym c.self.view_is) (c.requires i 0 here) in
    let inside : n < length new = subst (λ m. n < m) (sym c.rules.invariant.raised.of_each) within in
    let read : c.index.result.now ≡ get_or new n 0 = c.index.ensures ∙ get_or_default_zero new n c.index.result.now inside in
    let value : c.min.result ≡ min 1048576 (get_or new n 0 + 1) = c.min.ensures ∙ ap (λ m. min 1048576 (m + 1)) read in
    record {
      raised = subst (λ m. AreRaised old (take (i + 1) list) (set new n m)) (sym value)
          (raised_more old list new i n here refl within c.rules.invariant.raised);
      capped = All-set (λ m. m ≤ 1048576) new n c.min.result (omega (arith, value)) c.rules.invariant.capped;
    }
