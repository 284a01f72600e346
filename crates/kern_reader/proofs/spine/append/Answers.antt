use Rattle.std.proofs.Common.{◌<◌, set, ap, sym, ◌∙◌, ◌++◌, ◌∷◌, [], List, length, arith}
use Rattle.kern_reader.specs.declared.token.Token.{Token}
use Rattle.kern_reader.proofs.ZipLemmas.{zipped_more}
use Rattle.kern_reader.proofs.spine.append.Goals as goal

pub columns-preserved : goal.columns-preserved
columns-preserved c =
    let i = c.columns.number in
    let ts = c.args.tokens.now in
    let within : i < length ts = omega (arith, c.columns-test.true, c.requires) in
    let add : Token → List Token → List Token = λ t column. column ++ t ∷ [] in
    ap (λ s. set c.columns.columns i s) (c.in_ok-push.ensures ∙ ap (add c.index-tokens-number.result) (sym c.index-columns-number.is))
    ∙ zipped_more add ts c.args.columns.now c.columns.columns i c.index-tokens-number.result c.index-columns-number.result within c.columns-test.true c.columns.invariant c.index-tokens-number.is c.index-columns-number.is
