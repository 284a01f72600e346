use Rattle.std.proofs.Common.{rules, sym, ◌≡◌, ◌∙◌, ap, length}
use Rattle.rhythm_base.proofs.PieceLemmas.{length-pieces}
use Rattle.rhythm_base.proofs.words.Words.count.Goals as goal

pub returns : goal.returns
returns c =
    let count : c.len.result ≡ length c.self.inside.ends.items = search rules in
    count ∙ sym (length-pieces _ _ _) ∙ ap length c.self.view_is
