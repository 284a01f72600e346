use Rattle.std.proofs.Common.{rules, ◌≡◌, ◌≤◌, ◌+◌, ◌++◌, ◌∷◌, [], ℕ, Some, length, get_or, map, take, subst, sym, ap, ◌∙◌, arith}
use Rattle.std.specs.Prelude.{All}
use Rattle.std.proofs.lemmas.List.{map-append}
use Rattle.chain_bars.specs.Laws.{matrices}
use Rattle.chain_bars.specs.Walks.{AreCarries}
use Rattle.rhythm_base.specs.BarTables.{BarTable, list_at}
use Rattle.edit_session.specs.LeastTrees.{AreListed, IsTableIn}
use Rattle.edit_session.proofs.ListedTrees.{Step, all_listed, carries_step, one_listed, rest_of}
use Rattle.edit_session.proofs.least_trees.least_lists.Goals as goal
use Rattle.edit_session.proofs.least_trees.least_lists.Goals.{After-index-tables-number}

carried : (c : After-index-tables-number) → AreCarries (matrices c.tables-tables.result.now) c.as_slice-counts.result.now
carried c =
    subst (λ ts. AreCarries (matrices ts) c.as_slice-counts.result.now) (sym c.tables-tables.ensures)
    (subst (AreCarries (matrices c.args.voice.now.tables)) (sym c.as_slice-counts.ensures.value) c.in_ok-carries.ensures.path)

step : (c : After-index-tables-number) → Step c.index-tables-number.result (get_or c.as_slice-counts.result.now c.bars.number 0) (get_or c.as_slice-counts.result.now (c.bars.number + 1) 0)
step c =
    let g = c.requires.tables.0 in
    let each : All (IsTableIn g) c.tables-tables.result.now = subst (All (IsTableIn g)) (sym c.tables-tables.ensures) c.requires.tables.1 in
    subst (λ (x : BarTable). Step x (get_or c.as_slice-counts.result.now c.bars.number 0) (get_or c.as_slice-counts.result.now (c.bars.number + 1) 0)) (sym c.index-tables-number.is)
    (carries_step g c.tables-tables.result.now c.as_slice-counts.result.now c.bars.number c.index-tables-number.result each (carried c) c.bars-test.true)

pub least_list-requires-clause-from : goal.least_list-requires-clause-from
least_list-requires-clause-from c = (step c).low

pub least_list-requires-clause-to : goal.least_list-requires-clause-to
least_list-requires-clause-to c = (step c).few

pub least_list-requires-clause-there : goal.least_list-requires-clause-there
least_list-requires-clause-there c = (step c).there

pub bars-preserved : goal.bars-preserved
bars-preserved c =
    let xs = c.tables-tables.result.now in
    let counts = c.as_slice-counts.result.now in
    let n : ℕ = c.bars.number in
    let long : length counts ≡ length xs + 1 = ap length c.as_slice-counts.ensures.value ∙ c.in_ok-carries.ensures.length ∙ ap (λ l. length l + 1) (sym c.tables-tables.ensures) in
    let carried : AreCarries (matrices xs) counts =
    subst (λ ts. AreCarries (matrices ts) counts) (sym c.tables-tables.ensures) (subst (AreCarries (matrices c.args.voice.now.tables)) (sym c.as_slice-counts.ensures.value) c.in_ok-carries.ensures.path) in
    let is : list_at (get_or xs n c.index-tables-number.result) (get_or counts n 0) (get_or counts (n + 1) 0) ≡ Some c.least_list.result.now =
    subst (λ (x : BarTable). list_at x (get_or counts n 0) (get_or counts (n + 1) 0) ≡ Some c.least_list.result.now) c.index-tables-number.is (sym c.least_list.ensures) in
    let pushed : c.push.new.self.items ≡ c.bars.lists.items ++ c.least_list.result ∷ [] = search rules in
    subst (λ ls. AreListed (take (n + 1) xs) 0 (take (n + 1) (rest_of counts)) ls) (sym (ap (map (λ list. list.now)) pushed ∙ map-append (λ list. list.now) c.bars.lists.items (c.least_list.result ∷ [])))
    (one_listed xs counts (map (λ list. list.now) c.bars.lists.items) n c.index-tables-number.result c.least_list.result.now carried long c.bars-test.true c.bars.invariant is)

pub returns : goal.returns
returns c =
    let counts = c.as_slice-counts.result.now in
    let tables = c.args.voice.now.tables in
    let lists = map (λ list. list.now) c.bars.lists.items in
    let carried : AreCarries (matrices tables) counts = subst (AreCarries (matrices tables)) (sym c.as_slice-counts.ensures.value) c.in_ok-carries.ensures.path in
    let done = subst (λ ts. AreListed (take c.bars.number ts) 0 (take c.bars.number (rest_of counts)) lists) c.tables-tables.ensures c.bars.invariant in
    let all : length tables ≤ c.bars.number = omega (arith, ap length c.tables-tables.ensures, c.bars-test.false) in
    all_listed tables counts lists c.bars.number carried (ap length c.as_slice-counts.ensures.value ∙ c.in_ok-carries.ensures.length) all done
