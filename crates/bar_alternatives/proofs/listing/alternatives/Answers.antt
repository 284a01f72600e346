use Rattle.std.proofs.Common.{◌≡◌, ◌∙◌, [], ◌∷◌, List, ℕ, All, ap, sym, subst, arith}
use Rattle.std.specs.Prelude.{None}
use Rattle.std.proofs.lemmas.Result.{IfOk-weaker}
use Rattle.rhythm_base.specs.BarInput.{BarInput, IsBarInput}
use Rattle.rhythm_base.specs.Grammar.{Grammar}
use Rattle.rhythm_base.specs.Lists.{Each}
use Rattle.rhythm_base.specs.Ranked.{Key}
use Rattle.rhythm_base.specs.Readable.{IsReadable}
use Rattle.rhythm_base.specs.RuleTrees.{IsRuleList}
use Rattle.row_laws.specs.Grounds.{IsReady, ground_of}
use Rattle.row_laws.proofs.Grounds.{bounds, grounded}
use Rattle.best_trees.specs.BarTrees.{AreBestBarTrees}
use Rattle.best_trees.specs.Firsts.{AreFirstKeys}
use Rattle.best_trees.specs.Grids.{AreAllAddable}
use Rattle.best_trees.proofs.Steps.{forests-addable}
use Rattle.bar_alternatives.specs.BestTrees.{AreBestTrees, unpinned}
use Rattle.bar_alternatives.specs.Totals.{IsListed, IsTotal}
use Rattle.bar_alternatives.proofs.Listed.{all_listable, listed-best}
use Rattle.bar_alternatives.proofs.WholeBars.{totals-first}
use Rattle.bar_alternatives.proofs.listing.alternatives.Goals as goal

low : (g : Grammar) (k : BarInput) (count : ℕ) (grid : List (List Key)) → IsReady g k → AreBestBarTrees g k None count grid → AreAllAddable grid
low g k count grid ready h =
    forests-addable (ground_of g k) (grounded g k ready) (bounds g k ready) None count 0 ((k.resolution, k.symbol) ∷ []) grid (ready.cell.some_unit, tt) (let units : g.resolution ≡ k.resolution = ready.units in omega (arith, units)) h

lifted_ready : (g : Grammar) (k lifted : BarInput) → IsReadable g → IsBarInput k → k.resolution ≡ g.resolution → lifted ≡ unpinned k → IsReady g lifted
lifted_ready g k lifted readable cell units is = subst (IsReady g) (sym is) (record {
  readable = readable;
  cell = record {
    some_unit = cell.some_unit;
    few_units = cell.few_units;
    signature = cell.signature;
    some_tick = cell.some_tick;
    few_ticks = cell.few_ticks;
    rising = cell.rising;
    chords = cell.chords;
    before = cell.before;
  };
  units = sym units;
})

pub best_trees-requires : goal.best_trees-requires
best_trees-requires c = record { ready = lifted_ready c.args.grammar.now c.args.input.now c.in_ok-input.input c.requires.readable c.start-start.ensures.formed c.requires.units c.in_ok-input.ensures }

pub best_totals-requires-clause-grid : goal.best_totals-requires-clause-grid
best_totals-requires-clause-grid c =
    let g = c.args.grammar.now in
    let k = c.in_ok-input.input in
    let ready = lifted_ready g c.args.input.now k c.requires.readable c.start-start.ensures.formed c.requires.units c.in_ok-input.ensures in
    low g k c.args.count c.in_ok-grid.grid ready c.in_ok-grid.ensures

pub listed-requires : goal.listed-requires
listed-requires c =
    let g = c.args.grammar.now in
    let k = c.in_ok-input.input in
    let n = c.args.count in
    let ready = lifted_ready g c.args.input.now k c.requires.readable c.start-start.ensures.formed c.requires.units c.in_ok-input.ensures in
    let free : k.pin ≡ None = ap (λ (b : BarInput). b.pin) c.in_ok-input.ensures in
    let symbol : c.start-start.result ≡ k.symbol = c.start-start.ensures.value ∙ ap (λ (b : BarInput). b.symbol) (sym c.in_ok-input.ensures) in
    let first : AreFirstKeys (IsTotal g k c.args.before.now c.args.after.now) n c.in_ok-best.best
    = subst (AreFirstKeys (IsTotal g k c.args.before.now c.args.after.now) n) (sym c.in_ok-best.ensures) (totals-first g k c.args.before.now c.args.after.now n c.in_ok-grid.grid c.in_ok-grid.ensures) in
    subst (λ s. All (λ key. IsRuleList g s key.1) c.in_ok-best.best) (sym symbol) (all_listable g k ready free c.args.before.now c.args.after.now n c.in_ok-best.best first)

pub returns : goal.returns
returns c =
    let g = c.args.grammar.now in
    let k = c.in_ok-input.input in
    let n = c.args.count in
    let ready = lifted_ready g c.args.input.now k c.requires.readable c.start-start.ensures.formed c.requires.units c.in_ok-input.ensures in
    let free : k.pin ≡ None = ap (λ (b : BarInput). b.pin) c.in_ok-input.ensures in
    let symbol : c.start-start.result ≡ k.symbol = c.start-start.ensures.value ∙ ap (λ (b : BarInput). b.symbol) (sym c.in_ok-input.ensures) in
    let first : AreFirstKeys (IsTotal g k c.args.before.now c.args.after.now) n c.in_ok-best.best
    = subst (AreFirstKeys (IsTotal g k c.args.before.now c.args.after.now) n) (sym c.in_ok-best.ensures) (totals-first g k c.args.before.now c.args.after.now n c.in_ok-grid.grid c.in_ok-grid.ensures) in
    IfOk-weaker c.listed.result _ _
    (λ list each. subst (λ b. AreBestTrees g b c.args.before.now c.args.after.now n list.items) c.in_ok-input.ensures
    (listed-best g k ready free c.args.before.now c.args.after.now n c.in_ok-best.best list.items first (subst (λ s. Each (IsListed g s) c.in_ok-best.best list.items) symbol each)))
    c.listed.ensures
