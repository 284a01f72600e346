use Rattle.std.proofs.Common.{rules, ◌≡◌, sym, ◌∙◌}
use Rattle.bar_pool.specs.Equal.{same_input}
use Rattle.bar_pool.specs.EqualLaws.{input_decides}
use Rattle.bar_pool.proofs.input_key.are_equal.Goals as goal

pub returns : goal.returns
returns c =
    let one = c.args.one.now in
    let other = c.args.other.now in
    let is : c.eq.result ≡ same_input one other = search rules in
    let decides = input_decides one other in
    (λ h. decides.0 (sym is ∙ h), λ e. is ∙ decides.1 e)
