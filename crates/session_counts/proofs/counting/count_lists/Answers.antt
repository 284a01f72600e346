use Rattle.std.proofs.Common.{◌≡◌, ◌<◌, ◌≤◌, ◌∙◌, ℕ, List, [], arith, ap, get_or, length, map, refl, subst, sym, take}
use Rattle.std.proofs.lemmas.List.{get_or-map, length-map, take_all}
use Rattle.rule_counts.specs.Counts.{AreRaised}
use Rattle.session_counts.specs.Counting.{AreRaisedBy}
use Rattle.session_counts.proofs.Raising.{by_more, by_none}
use Rattle.session_counts.proofs.counting.count_lists.Goals as goal

pub lists-init : goal.lists-init
lists-init c = record { raised = by_none (length c.args.counts.now) c.args.counts.now; of_each = refl }

pub add-requires : goal.add-requires
add-requires c =
    let lists = map (λ l. l.now) c.args.lists.now in
    let i : ℕ = c.lists.list-index in
    let long = length-map c.args.lists.now (λ l. l.now) in
    let lt : i < length lists = omega (arith, c.lists-test.true, long) in
    let here : get_or lists i [] ≡ (get_or c.args.lists.now i (record { ref_ptr = (0, 0); now = [] })).now = get_or-map (λ l. l.now) c.args.lists.now i (record { ref_ptr = (0, 0); now = [] }) [] c.lists-test.true in
    λ k d within.
    let inside = c.requires i [] lt k d (subst (λ (l : List ℕ). k < length l) (sym here) within) in
    omega (arith, subst (λ (l : List ℕ). get_or l k d < length c.args.counts.now) here inside, c.lists.invariant.of_each)

pub lists-preserved : goal.lists-preserved
lists-preserved c =
    let lists = map (λ l. l.now) c.args.lists.now in
    let i : ℕ = c.lists.list-index in
    let long = length-map c.args.lists.now (λ l. l.now) in
    let lt : i < length lists = omega (arith, c.lists-test.true, long) in
    let here : get_or lists i [] ≡ (get_or c.args.lists.now i (record { ref_ptr = (0, 0); now = [] })).now = get_or-map (λ l. l.now) c.args.lists.now i (record { ref_ptr = (0, 0); now = [] }) [] c.lists-test.true in
    record {
      raised = by_more (length c.args.counts.now) lists i c.args.counts.now c.lists.counts c.add.new.self lt c.lists.invariant.raised
          (subst (λ l. AreRaised c.lists.counts l c.add.new.self) (sym here) c.add.ensures);
      of_each = c.add.ensures.of_each ∙ c.lists.invariant.of_each;
    }

pub returns-clause-raised : goal.returns-clause-raised
returns-clause-raised c =
    let lists = map (λ l. l.now) c.args.lists.now in
    let long = length-map c.args.lists.now (λ l. l.now) in
    let all : length lists ≤ c.lists.list-index = omega (arith, c.lists-test.false, long) in
    subst (λ ls. AreRaisedBy (length c.args.counts.now) ls c.args.counts.now c.lists.counts) (take_all c.lists.list-index lists all) c.lists.invariant.raised
