use Rattle.std.proofs.Common.{◌∙◌, ap}
use Rattle.rhythm_base.specs.Grammar.{Grammar}
use Rattle.rhythm_base.proofs.RuleTrees.{told-first}
use Rattle.rhythm_base.proofs.tree.Tree.from_rules.Goals as goal

pub returns : goal.returns
returns c =
    told-first c.args.grammar.now c.args.start c.as_slice.result.now c.args.rules.now c.in_ok-tree._rest.now c.in_ok-tree.tree
    (c.as_slice.ensures.value ∙ ap (λ (g : Grammar). g.rules) c.grammar.view_is) c.requires c.in_ok-tree.ensures.rule c.in_ok-tree.ensures.parts
