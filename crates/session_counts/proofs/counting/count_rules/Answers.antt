use Rattle.std.proofs.Common.{◌≡◌, ◌<◌, ◌≤◌, ◌∙◌, ℕ, List, arith, ap, length, map, refl, subst, sym, take}
use Rattle.std.specs.Borrow.{Bor}
use Rattle.std.specs.Prelude.{All}
use Rattle.std.proofs.lemmas.List.{take_all}
use Rattle.edit_session.specs.RuleLists.{AreLeastLists}
use Rattle.rhythm_base.specs.Lists.{Each}
use Rattle.rhythm_base.specs.Performance.{Performance}
use Rattle.session_counts.specs.Counting.{AreRaisedBy}
use Rattle.session_counts.proofs.Raising.{none_counted, one_more}
use Rattle.session_counts.proofs.RuleLists.{lists_have_rules}
use Rattle.session_counts.proofs.counting.count_rules.Goals as goal

pub voices-init : goal.voices-init
voices-init c = record { voices = none_counted c.args.session.now.grammar c.args.session.now.performance c.args.session.now.performance.channels c.args.counts.now; of_each = refl }

pub count_lists-requires : goal.count_lists-requires
count_lists-requires c =
    let g = c.args.session.now.grammar in
    let p = c.args.session.now.performance in
    let same : length g.rules ≡ length c.voices.counts = sym (c.voices.invariant.of_each ∙ c.requires) in
    subst (λ n. All (λ (list : List ℕ). All (λ (r : ℕ). r < n) list) (map (λ l. l.now) c.as_slice.result.now)) same
    (subst (λ (s : List (Bor (List ℕ))). All (λ (list : List ℕ). All (λ (r : ℕ). r < length g.rules) list) (map (λ l. l.now) s)) (sym c.as_slice.ensures.value)
    (lists_have_rules g p _ (map (λ l. l.now) c.in_ok-lists.lists.items) c.in_ok-lists.ensures))

pub voices-preserved : goal.voices-preserved
voices-preserved c =
    let g = c.args.session.now.grammar in
    let p = c.args.session.now.performance in
    let n : ℕ = c.voices.voice in
    let same : length c.voices.counts ≡ length g.rules = c.voices.invariant.of_each ∙ c.requires in
    let own = map (λ l. l.now) c.in_ok-lists.lists.items in
    let lt : n < length p.channels = omega (arith, c.voices-test.true, ap length c.channels-voices.ensures, ap (λ (q : Performance). length q.channels) c.performance.ensures.value) in
    let raised = subst (λ (s : List (Bor (List ℕ))). AreRaisedBy (length g.rules) (map (λ l. l.now) s) c.voices.counts c.count_lists.new.counts) c.as_slice.ensures.value
    (subst (λ k. AreRaisedBy k (map (λ l. l.now) c.as_slice.result.now) c.voices.counts c.count_lists.new.counts) same c.count_lists.ensures.raised) in
    record {
      voices = one_more g p n 0 p.channels c.args.counts.now c.voices.counts c.count_lists.new.counts own lt c.voices.invariant.voices c.in_ok-lists.ensures raised;
      of_each = c.count_lists.ensures.of_each ∙ c.voices.invariant.of_each;
    }

pub returns-clause-counted : goal.returns-clause-counted
returns-clause-counted c =
    let g = c.args.session.now.grammar in
    let p = c.args.session.now.performance in
    let h = c.voices.invariant.voices in
    let all : length p.channels ≤ c.voices.voice = omega (arith, c.voices-test.false, ap length c.channels-voices.ensures, ap (λ (q : Performance). length q.channels) c.performance.ensures.value) in
    (_, record { voices = h.voices; each = subst (λ cs. Each (AreLeastLists g p) cs h.voices) (take_all c.voices.voice p.channels all) h.each; are = refl }, h.raised)
