use Rattle.std.proofs.Common.{◌<◌, set, ap, sym, ◌∙◌, length, arith}
use Rattle.kern_reader.specs.declared.spine.Spine.{Spine}
use Rattle.kern_reader.specs.declared.token.Token.{Token}
use Rattle.kern_reader.specs.Columns.{rescaled, spine_after}
use Rattle.kern_reader.proofs.ZipLemmas.{zipped_more}
use Rattle.kern_reader.proofs.spine.pass.Goals as goal

pub spines-preserved : goal.spines-preserved
spines-preserved c =
    let i = c.spines.number in
    let ts = c.args.tokens.now in
    let within : i < length ts = omega (arith, c.spines-test.true, c.requires.lengths) in
    let add : Token → Spine → Spine = λ t s. spine_after c.args.grid (rescaled c.args.times s) t in
    ap (λ s. set c.spines.spines i s) (c.spine_after.ensures ∙ ap (λ s. spine_after c.args.grid s c.index-tokens-number.result) c.rescaled.ensures ∙ ap (add c.index-tokens-number.result) (sym c.index-spines-number.is))
    ∙ zipped_more add ts c.args.spines.now c.spines.spines i c.index-tokens-number.result c.index-spines-number.result within c.spines-test.true c.spines.invariant c.index-tokens-number.is c.index-spines-number.is
