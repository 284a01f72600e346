use Rattle.std.proofs.Common.{rules, tests, ap, ◌∙◌, nat_lt, length}
use Rattle.std.specs.Prelude.{unwrap_or}
use Rattle.std.proofs.lemmas.Iterator.{YieldsList-from_slice}
use Rattle.std.proofs.lemmas.Iterator.Search.{position_from_yields_List}
use Rattle.derivation.proofs.reading.count_until.Goals as goal

pub returns : goal.returns
returns c =
    let found = position_from_yields_List (λ x. nat_lt c.args.tick x.onset) _ _ c.position.result c.position.ensures.ran
    (YieldsList-from_slice c.args.chords.now c.iter.ensures.rest) (λ x b q k. search (rules, tests)) in
    c.unwrap_or.ensures ∙ ap (λ o. unwrap_or o (length c.args.chords.now)) found
