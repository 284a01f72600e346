use Rattle.std.proofs.Common.{ap, map, ◌∙◌}
use Rattle.grammar_file.specs.Names.{with_name}
use Rattle.grammar_file.proofs.StatementLemmas.{with_name-map}
use Rattle.grammar_file.proofs.names.Names.insert.Goals as goal

pub returns : goal.returns
returns c =
    ap (map (λ x. x.now)) c.in_ok-insert.ensures.keys ∙ with_name-map (λ x. x.now) c.self.inside.set.keys c.args.name
    ∙ ap (λ names. with_name names c.args.name.now) c.self.view_is
