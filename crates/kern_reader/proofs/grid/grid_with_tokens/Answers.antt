use Rattle.std.proofs.Common.{◌≡◌, ℕ, ◌+◌, None, rules, subst, sym, ◌∙◌}
use Rattle.std.specs.Prelude.{Option}
use Rattle.std.specs.List.{flat_map}
use Rattle.durations.specs.declared.grid.TheConstants.{MOST_GRID}
use Rattle.kern_reader.specs.Columns.{IsGridWith, grid_with, token_values}
use Rattle.kern_reader.proofs.GridWalk.{grid_next, grid_past}
use Rattle.kern_reader.proofs.grid.grid_with_tokens.Goals as goal

pub returns-in_err-finer : goal.returns-in_err-finer
returns-in_err-finer c =
    let i = c.tokens.token-index in
    let ts = c.args.tokens.now in
    let t = c.token-item.result in
    let none : ◌≡◌ {A = Option ℕ} c.from_residual.result None = search rules in
    let same = grid_next c.tokens.finer ts i t c.tokens-test.true c.token-item.is ∙ c.tokens.invariant.same in
    let past = grid_past MOST_GRID (grid_with c.tokens.finer (token_values t)) _ ts (i + 1) c.requires c.in_err-finer.ensures same in
    subst (IsGridWith c.args.grid (flat_map token_values ts)) (sym none) past
