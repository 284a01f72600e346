use Rattle.std.proofs.Common.{rules, ◌≡◌, ◌+◌, ◌*◌, ◌≤◌, ◌^◌, ℕ, false, List, length, ap, sym, subst, ◌∙◌, refl, arith}
use Rattle.std.specs.Prelude.{All, Option, Some, None, is_none, nat_le}
use Rattle.std.proofs.lemmas.Bool.{true≢false}
use Rattle.rhythm_base.specs.declared.edit.Edit.{Edit}
use Rattle.rhythm_base.specs.Grammar.{Grammar}
use Rattle.rhythm_base.specs.Performance.{Performance}
use Rattle.barline_follow.specs.Answer.{IsAnswer, chosen}
use Rattle.barline_follow.specs.Bars.{barlines_of}
use Rattle.barline_follow.specs.Barring.{Barring}
use Rattle.barline_follow.specs.Builds.{most_tables}
use Rattle.barline_follow.specs.Rounds.{IsBest}
use Rattle.barline_follow.specs.Script.{IsOfBars, Leads, script}
use Rattle.barline_follow.proofs.Answering.{accepted, chosen_best, chosen_old, kept, of_bars, refused}
use Rattle.barline_follow.proofs.BestBounds.{IsShort, best_short}
use Rattle.barline_follow.proofs.MostBuilt.{built_tried, built_untried, within_search, within_trial}
use Rattle.barline_follow.specs.Searched.{AreBuiltInSearch}
use Rattle.barline_follow.specs.Trial.{IsCostAfter}
use Rattle.bar_pool.specs.Pool.{RisesWithin}
use Rattle.edit_session.specs.Prepared.{RisesBy}
use Rattle.barline_follow.proofs.following.follow.Goals as goal

-- what is found and the cost are those of the session
best_of_session : (g h : Grammar) (p q : Performance) (best : Option Barring) → h ≡ g → q ≡ p → IsBest h q best → IsBest g p best
best_of_session g h p q best grammar performance is = subst (λ (k : Grammar). IsBest k p best) grammar (subst (λ (r : Performance). IsBest h r best) performance is)

some_is : (o : Option ℕ) → is_none o ≡ false → (cost : ℕ) × (o ≡ Some cost)
some_is None h = absurd (true≢false h)
some_is (Some cost) h = (cost, refl)

none_is : (o : Option Barring) → ((b : Barring) → o ≡ Some b → ⊥) → o ≡ None
none_is None h = refl
none_is (Some b) h = absurd (h b refl)

few_of_session : (p q : Performance) (old new : ℕ) → q ≡ p → RisesWithin old new (most_tables q) → RisesWithin old new (most_tables p)
few_of_session p q old new is few = subst (λ (r : Performance). RisesWithin old new (most_tables r)) is few

built_of_session : (g h : Grammar) (p q : Performance) (old new : ℕ) → h ≡ g → q ≡ p → RisesBy old new (AreBuiltInSearch h q) → RisesBy old new (AreBuiltInSearch g p)
built_of_session g h p q old new grammar performance built =
    subst (λ (k : Grammar). RisesBy old new (AreBuiltInSearch k p)) grammar (subst (λ (r : Performance). RisesBy old new (AreBuiltInSearch h r)) performance built)

pub follow_script-requires-clause-few : goal.follow_script-requires-clause-few
follow_script-requires-clause-few world c =
    let session = c.args.session.now in
    let g : Grammar = session.grammar in
    let p : Performance = session.performance in
    let best : Barring = c.in-Some.best in
    let is_best : IsBest g p (Some best) =
    subst (IsBest g p) c.in-Some.is (best_of_session g _ p _ c.in_ok-best.best c.grammar-grammar.ensures.value c.performance-performance.ensures.value c.in_ok-best.ensures.best) in
    let short : IsShort (2 * length p.bars) best.ticks = (best_short g p (Some best) is_best).short in
    let formed = c.performance-performance.ensures.formed in
    let few : length p.bars ≤ 4096 = formed.few_bars in
    omega (arith, short.few, few, ap length c.ticks.ensures)

pub follow_script-requires-clause-ticks : goal.follow_script-requires-clause-ticks
follow_script-requires-clause-ticks world c =
    let session = c.args.session.now in
    let g : Grammar = session.grammar in
    let p : Performance = session.performance in
    let best : Barring = c.in-Some.best in
    let is_best : IsBest g p (Some best) =
    subst (IsBest g p) c.in-Some.is (best_of_session g _ p _ c.in_ok-best.best c.grammar-grammar.ensures.value c.performance-performance.ensures.value c.in_ok-best.ensures.best) in
    let short : IsShort (2 * length p.bars) best.ticks = (best_short g p (Some best) is_best).short in
    subst (λ (l : List ℕ). All (λ (tick : ℕ). tick ≤ 2 ^ 32) l) (sym c.ticks.ensures) (λ k d lt. let early = short.early k d lt in omega (arith, early))

pub returns-in_default-clause-answer : goal.returns-in_default-clause-answer
returns-in_default-clause-answer g c =
    let session = c.args.session.now in
    let is_best = best_of_session session.grammar _ session.performance _ c.in_ok-best.best c.grammar-grammar.ensures.value c.performance-performance.ensures.value c.in_ok-best.ensures.best in
    let none : c.in_ok-best.best ≡ None = none_is c.in_ok-best.best c.in_default.not-Some in
    let old : chosen session.performance c.cost-before.result c.in_ok-best.best ≡ barlines_of session.performance = ap (chosen session.performance c.cost-before.result) none in
    subst (λ (l : List Edit). IsAnswer session.grammar session.performance l) (sym c.new.ensures.items)
    (kept session.grammar session.performance c.in_ok-best.best c.cost-before.result is_best c.cost-before.ensures old)

pub returns-then-not-gains-clause-answer : goal.returns-then-not-gains-clause-answer
returns-then-not-gains-clause-answer world c =
    let session = c.args.session.now in
    let g : Grammar = session.grammar in
    let p : Performance = session.performance in
    let best : Barring = c.in-Some.best in
    let is_best : IsBest g p (Some best) =
    subst (IsBest g p) c.in-Some.is (best_of_session g _ p _ c.in_ok-best.best c.grammar-grammar.ensures.value c.performance-performance.ensures.value c.in_ok-best.ensures.best) in
    let value : c.gains.result ≡ nat_le (10 * (best.cost + best.prices)) (7 * c.cost-before.result) =
    c.gains.ensures ∙ (λ i. nat_le (10 * (c.cost.ensures i + c.prices.ensures i)) (7 * c.cost-before.result)) in
    let old : chosen p c.cost-before.result (Some best) ≡ barlines_of p =
    chosen_old p c.cost-before.result best (sym value ∙ c.if-not-gains.true) in
    subst (λ (l : List Edit). IsAnswer g p l) (sym c.new-then-not-gains.ensures.items) (kept g p (Some best) c.cost-before.result is_best c.cost-before.ensures old)

pub returns-then-is_none-clause-answer : goal.returns-then-is_none-clause-answer
returns-then-is_none-clause-answer world c =
    let session = c.args.session.now in
    let g : Grammar = session.grammar in
    let p : Performance = session.performance in
    let best : Barring = c.in-Some.best in
    let is_best : IsBest g p (Some best) =
    subst (IsBest g p) c.in-Some.is (best_of_session g _ p _ c.in_ok-best.best c.grammar-grammar.ensures.value c.performance-performance.ensures.value c.in_ok-best.ensures.best) in
    let value : c.gains.result ≡ nat_le (10 * (best.cost + best.prices)) (7 * c.cost-before.result) =
    c.gains.ensures ∙ (λ i. nat_le (10 * (c.cost.ensures i + c.prices.ensures i)) (7 * c.cost-before.result)) in
    let wanted : chosen p c.cost-before.result (Some best) ≡ best.ticks =
    chosen_best p c.cost-before.result best (sym value ∙ c.if-not-gains.false) in
    let script_is : c.in_ok-script.script.items ≡ script p best.ticks = c.in_ok-script.ensures ∙ (λ i. script (c.performance.ensures.value i) (c.ticks.ensures i)) in
    let none : c.in_ok-tried.tried ≡ None = search rules in
    let lines : c.as_slice-lines.result.now ≡ script p best.ticks = c.as_slice-lines.ensures.value ∙ script_is in
    let never : (after : Performance) → Leads g p (script p best.ticks) after → ⊥ =
    λ after leads. (subst (IsCostAfter c.args.session.now c.as_slice-lines.result.now) none c.in_ok-tried.ensures.cost) (subst (All IsOfBars) (sym lines) (of_bars p best.ticks)) after
    (subst (λ (l : List Edit). Leads g p l after) (sym lines) leads) in
    subst (λ (l : List Edit). IsAnswer g p l) (sym c.new-then-is_none.ensures.items) (refused g p (Some best) c.cost-before.result is_best c.cost-before.ensures best.ticks wanted never)

pub returns-clause-answer : goal.returns-clause-answer
returns-clause-answer world c =
    let session = c.args.session.now in
    let g : Grammar = session.grammar in
    let p : Performance = session.performance in
    let best : Barring = c.in-Some.best in
    let is_best : IsBest g p (Some best) =
    subst (IsBest g p) c.in-Some.is (best_of_session g _ p _ c.in_ok-best.best c.grammar-grammar.ensures.value c.performance-performance.ensures.value c.in_ok-best.ensures.best) in
    let value : c.gains.result ≡ nat_le (10 * (best.cost + best.prices)) (7 * c.cost-before.result) =
    c.gains.ensures ∙ (λ i. nat_le (10 * (c.cost.ensures i + c.prices.ensures i)) (7 * c.cost-before.result)) in
    let wanted : chosen p c.cost-before.result (Some best) ≡ best.ticks =
    chosen_best p c.cost-before.result best (sym value ∙ c.if-not-gains.false) in
    let script_is : c.in_ok-script.script.items ≡ script p best.ticks = c.in_ok-script.ensures ∙ (λ i. script (c.performance.ensures.value i) (c.ticks.ensures i)) in
    let lines : c.as_slice-lines.result.now ≡ script p best.ticks = c.as_slice-lines.ensures.value ∙ script_is in
    let some : (cost : ℕ) × (c.in_ok-tried.tried ≡ Some cost) = some_is c.in_ok-tried.tried (search rules) in
    let tried = subst (IsCostAfter session c.as_slice-lines.result.now) some.1 c.in_ok-tried.ensures.cost in
    subst (λ (l : List Edit). IsAnswer g p l) (sym script_is)
    (accepted g p (Some best) c.cost-before.result is_best c.cost-before.ensures best.ticks tried.0 wanted (subst (λ (l : List Edit). Leads g p l tried.0) lines tried.1))

pub returns-in_err-best-clause-most : goal.returns-in_err-best-clause-most
returns-in_err-best-clause-most world c =
    within_search c.args.session.now.grammar c.args.session.now.performance c.args.builds.now c.best_barlines.new.builds
    (few_of_session c.args.session.now.performance _ c.args.builds.now c.best_barlines.new.builds c.performance-performance.ensures.value c.in_err-best.ensures.most)

pub returns-in_default-clause-most : goal.returns-in_default-clause-most
returns-in_default-clause-most world c =
    within_search c.args.session.now.grammar c.args.session.now.performance c.args.builds.now c.best_barlines.new.builds
    (few_of_session c.args.session.now.performance _ c.args.builds.now c.best_barlines.new.builds c.performance-performance.ensures.value c.in_ok-best.ensures.most)

pub returns-then-not-gains-clause-most : goal.returns-then-not-gains-clause-most
returns-then-not-gains-clause-most world c =
    within_search c.args.session.now.grammar c.args.session.now.performance c.args.builds.now c.best_barlines.new.builds
    (few_of_session c.args.session.now.performance _ c.args.builds.now c.best_barlines.new.builds c.performance-performance.ensures.value c.in_ok-best.ensures.most)

pub returns-in_err-script-clause-most : goal.returns-in_err-script-clause-most
returns-in_err-script-clause-most world c =
    within_search c.args.session.now.grammar c.args.session.now.performance c.args.builds.now c.best_barlines.new.builds
    (few_of_session c.args.session.now.performance _ c.args.builds.now c.best_barlines.new.builds c.performance-performance.ensures.value c.in_ok-best.ensures.most)

pub returns-in_default-clause-builds : goal.returns-in_default-clause-builds
returns-in_default-clause-builds g c =
    let session = c.args.session.now in
    let is_best = best_of_session session.grammar _ session.performance _ c.in_ok-best.best c.grammar-grammar.ensures.value c.performance-performance.ensures.value c.in_ok-best.ensures.best in
    let none : c.in_ok-best.best ≡ None = none_is c.in_ok-best.best c.in_default.not-Some in
    let old : chosen session.performance c.cost-before.result c.in_ok-best.best ≡ barlines_of session.performance = ap (chosen session.performance c.cost-before.result) none in
    built_untried session.grammar session.performance c.in_ok-best.best c.cost-before.result is_best c.cost-before.ensures c.args.builds.now c.best_barlines.new.builds old
    (built_of_session c.args.session.now.grammar _ c.args.session.now.performance _ c.args.builds.now c.best_barlines.new.builds c.grammar-grammar.ensures.value c.performance-performance.ensures.value
    c.in_ok-best.ensures.builds)

pub returns-then-not-gains-clause-builds : goal.returns-then-not-gains-clause-builds
returns-then-not-gains-clause-builds world c =
    let session = c.args.session.now in
    let g : Grammar = session.grammar in
    let p : Performance = session.performance in
    let best : Barring = c.in-Some.best in
    let is_best : IsBest g p (Some best) =
    subst (IsBest g p) c.in-Some.is (best_of_session g _ p _ c.in_ok-best.best c.grammar-grammar.ensures.value c.performance-performance.ensures.value c.in_ok-best.ensures.best) in
    let value : c.gains.result ≡ nat_le (10 * (best.cost + best.prices)) (7 * c.cost-before.result) =
    c.gains.ensures ∙ (λ i. nat_le (10 * (c.cost.ensures i + c.prices.ensures i)) (7 * c.cost-before.result)) in
    let old : chosen p c.cost-before.result (Some best) ≡ barlines_of p =
    chosen_old p c.cost-before.result best (sym value ∙ c.if-not-gains.true) in
    built_untried g p (Some best) c.cost-before.result is_best c.cost-before.ensures c.args.builds.now c.best_barlines.new.builds old
    (built_of_session c.args.session.now.grammar _ c.args.session.now.performance _ c.args.builds.now c.best_barlines.new.builds c.grammar-grammar.ensures.value c.performance-performance.ensures.value
    c.in_ok-best.ensures.builds)

pub returns-in_err-tried-clause-most : goal.returns-in_err-tried-clause-most
returns-in_err-tried-clause-most world c =
    let session = c.args.session.now in
    let g : Grammar = session.grammar in
    let p : Performance = session.performance in
    let best : Barring = c.in-Some.best in
    let is_best : IsBest g p (Some best) =
    subst (IsBest g p) c.in-Some.is (best_of_session g _ p _ c.in_ok-best.best c.grammar-grammar.ensures.value c.performance-performance.ensures.value c.in_ok-best.ensures.best) in
    let value : c.gains.result ≡ nat_le (10 * (best.cost + best.prices)) (7 * c.cost-before.result) =
    c.gains.ensures ∙ (λ i. nat_le (10 * (c.cost.ensures i + c.prices.ensures i)) (7 * c.cost-before.result)) in
    let wanted : chosen p c.cost-before.result (Some best) ≡ best.ticks =
    chosen_best p c.cost-before.result best (sym value ∙ c.if-not-gains.false) in
    let script_is : c.in_ok-script.script.items ≡ script p best.ticks = c.in_ok-script.ensures ∙ (λ i. script (c.performance.ensures.value i) (c.ticks.ensures i)) in
    let lines : c.as_slice-lines.result.now ≡ script p best.ticks = c.as_slice-lines.ensures.value ∙ script_is in
    let rises = c.in_err-tried.ensures.most (subst (All IsOfBars) (sym lines) (of_bars p best.ticks)) in
    within_trial g p (Some best) c.cost-before.result is_best c.cost-before.ensures best.ticks c.as_slice-lines.result.now c.args.builds.now c.best_barlines.new.builds c.try_edits.new.builds
    wanted lines (few_of_session c.args.session.now.performance _ c.args.builds.now c.best_barlines.new.builds c.performance-performance.ensures.value c.in_ok-best.ensures.most) rises

pub returns-then-is_none-clause-most : goal.returns-then-is_none-clause-most
returns-then-is_none-clause-most world c =
    let session = c.args.session.now in
    let g : Grammar = session.grammar in
    let p : Performance = session.performance in
    let best : Barring = c.in-Some.best in
    let is_best : IsBest g p (Some best) =
    subst (IsBest g p) c.in-Some.is (best_of_session g _ p _ c.in_ok-best.best c.grammar-grammar.ensures.value c.performance-performance.ensures.value c.in_ok-best.ensures.best) in
    let value : c.gains.result ≡ nat_le (10 * (best.cost + best.prices)) (7 * c.cost-before.result) =
    c.gains.ensures ∙ (λ i. nat_le (10 * (c.cost.ensures i + c.prices.ensures i)) (7 * c.cost-before.result)) in
    let wanted : chosen p c.cost-before.result (Some best) ≡ best.ticks =
    chosen_best p c.cost-before.result best (sym value ∙ c.if-not-gains.false) in
    let script_is : c.in_ok-script.script.items ≡ script p best.ticks = c.in_ok-script.ensures ∙ (λ i. script (c.performance.ensures.value i) (c.ticks.ensures i)) in
    let lines : c.as_slice-lines.result.now ≡ script p best.ticks = c.as_slice-lines.ensures.value ∙ script_is in
    let rises = c.in_ok-tried.ensures.most (subst (All IsOfBars) (sym lines) (of_bars p best.ticks)) in
    within_trial g p (Some best) c.cost-before.result is_best c.cost-before.ensures best.ticks c.as_slice-lines.result.now c.args.builds.now c.best_barlines.new.builds c.try_edits.new.builds
    wanted lines (few_of_session c.args.session.now.performance _ c.args.builds.now c.best_barlines.new.builds c.performance-performance.ensures.value c.in_ok-best.ensures.most) rises

pub returns-then-is_none-clause-builds : goal.returns-then-is_none-clause-builds
returns-then-is_none-clause-builds world c =
    let session = c.args.session.now in
    let g : Grammar = session.grammar in
    let p : Performance = session.performance in
    let best : Barring = c.in-Some.best in
    let is_best : IsBest g p (Some best) =
    subst (IsBest g p) c.in-Some.is (best_of_session g _ p _ c.in_ok-best.best c.grammar-grammar.ensures.value c.performance-performance.ensures.value c.in_ok-best.ensures.best) in
    let value : c.gains.result ≡ nat_le (10 * (best.cost + best.prices)) (7 * c.cost-before.result) =
    c.gains.ensures ∙ (λ i. nat_le (10 * (c.cost.ensures i + c.prices.ensures i)) (7 * c.cost-before.result)) in
    let wanted : chosen p c.cost-before.result (Some best) ≡ best.ticks =
    chosen_best p c.cost-before.result best (sym value ∙ c.if-not-gains.false) in
    let script_is : c.in_ok-script.script.items ≡ script p best.ticks = c.in_ok-script.ensures ∙ (λ i. script (c.performance.ensures.value i) (c.ticks.ensures i)) in
    let lines : c.as_slice-lines.result.now ≡ script p best.ticks = c.as_slice-lines.ensures.value ∙ script_is in
    let rises = c.in_ok-tried.ensures.reached (subst (All IsOfBars) (sym lines) (of_bars p best.ticks)) in
    built_tried g p (Some best) c.cost-before.result is_best c.cost-before.ensures best.ticks c.as_slice-lines.result.now c.args.builds.now c.best_barlines.new.builds c.try_edits.new.builds
    wanted lines (built_of_session c.args.session.now.grammar _ c.args.session.now.performance _ c.args.builds.now c.best_barlines.new.builds c.grammar-grammar.ensures.value c.performance-performance.ensures.value
    c.in_ok-best.ensures.builds) rises

pub returns-clause-most : goal.returns-clause-most
returns-clause-most world c =
    let session = c.args.session.now in
    let g : Grammar = session.grammar in
    let p : Performance = session.performance in
    let best : Barring = c.in-Some.best in
    let is_best : IsBest g p (Some best) =
    subst (IsBest g p) c.in-Some.is (best_of_session g _ p _ c.in_ok-best.best c.grammar-grammar.ensures.value c.performance-performance.ensures.value c.in_ok-best.ensures.best) in
    let value : c.gains.result ≡ nat_le (10 * (best.cost + best.prices)) (7 * c.cost-before.result) =
    c.gains.ensures ∙ (λ i. nat_le (10 * (c.cost.ensures i + c.prices.ensures i)) (7 * c.cost-before.result)) in
    let wanted : chosen p c.cost-before.result (Some best) ≡ best.ticks =
    chosen_best p c.cost-before.result best (sym value ∙ c.if-not-gains.false) in
    let script_is : c.in_ok-script.script.items ≡ script p best.ticks = c.in_ok-script.ensures ∙ (λ i. script (c.performance.ensures.value i) (c.ticks.ensures i)) in
    let lines : c.as_slice-lines.result.now ≡ script p best.ticks = c.as_slice-lines.ensures.value ∙ script_is in
    let rises = c.in_ok-tried.ensures.most (subst (All IsOfBars) (sym lines) (of_bars p best.ticks)) in
    within_trial g p (Some best) c.cost-before.result is_best c.cost-before.ensures best.ticks c.as_slice-lines.result.now c.args.builds.now c.best_barlines.new.builds c.try_edits.new.builds
    wanted lines (few_of_session c.args.session.now.performance _ c.args.builds.now c.best_barlines.new.builds c.performance-performance.ensures.value c.in_ok-best.ensures.most) rises

pub returns-clause-builds : goal.returns-clause-builds
returns-clause-builds world c =
    let session = c.args.session.now in
    let g : Grammar = session.grammar in
    let p : Performance = session.performance in
    let best : Barring = c.in-Some.best in
    let is_best : IsBest g p (Some best) =
    subst (IsBest g p) c.in-Some.is (best_of_session g _ p _ c.in_ok-best.best c.grammar-grammar.ensures.value c.performance-performance.ensures.value c.in_ok-best.ensures.best) in
    let value : c.gains.result ≡ nat_le (10 * (best.cost + best.prices)) (7 * c.cost-before.result) =
    c.gains.ensures ∙ (λ i. nat_le (10 * (c.cost.ensures i + c.prices.ensures i)) (7 * c.cost-before.result)) in
    let wanted : chosen p c.cost-before.result (Some best) ≡ best.ticks =
    chosen_best p c.cost-before.result best (sym value ∙ c.if-not-gains.false) in
    let script_is : c.in_ok-script.script.items ≡ script p best.ticks = c.in_ok-script.ensures ∙ (λ i. script (c.performance.ensures.value i) (c.ticks.ensures i)) in
    let lines : c.as_slice-lines.result.now ≡ script p best.ticks = c.as_slice-lines.ensures.value ∙ script_is in
    let rises = c.in_ok-tried.ensures.reached (subst (All IsOfBars) (sym lines) (of_bars p best.ticks)) in
    built_tried g p (Some best) c.cost-before.result is_best c.cost-before.ensures best.ticks c.as_slice-lines.result.now c.args.builds.now c.best_barlines.new.builds c.try_edits.new.builds
    wanted lines (built_of_session c.args.session.now.grammar _ c.args.session.now.performance _ c.args.builds.now c.best_barlines.new.builds c.grammar-grammar.ensures.value c.performance-performance.ensures.value
    c.in_ok-best.ensures.builds) rises
