use Rattle.std.proofs.Common.{set, ap, sym, ◌∙◌, ◌++◌, ◌∷◌, [], List}
use Rattle.std.proofs.lemmas.List.Edits.{map_over_more}
use Rattle.kern_reader.specs.declared.token.Token.{Token}
use Rattle.kern_reader.specs.declared.token.Token.TheVariants as token
use Rattle.kern_reader.proofs.spine.append_bar.Goals as goal

pub columns-preserved : goal.columns-preserved
columns-preserved c =
    let i = c.columns.column-index in
    let add : List Token → List Token = λ column. column ++ token.Bar c.args.signature ∷ [] in
    ap (λ s. set c.columns.columns i s) (c.in_ok-push.ensures ∙ ap add (sym c.column-item.is))
    ∙ map_over_more add c.args.columns.now c.columns.columns i c.column-item.result c.columns-test.true c.columns.invariant c.column-item.is
