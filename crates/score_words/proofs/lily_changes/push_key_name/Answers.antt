use Rattle.std.proofs.Common.{◌++◌, [], ◌∷◌, ap, ◌∙◌}
use Rattle.std.specs.Prelude.{codes, slice_index}
use Rattle.score_words.proofs.MajorKeys.{flat_key, plain_key, sharp_key}
use Rattle.score_words.proofs.lily_changes.push_key_name.Goals as goal

pub returns-in_ok-extend_from_slice : goal.returns-in_ok-extend_from_slice
returns-in_ok-extend_from_slice c =
    let old = c.args.text.now.items in
    c.in_ok-extend_from_slice.ensures.items
    ∙ ap (λ t. t ++ codes "es") (c.in_ok-push.ensures.items ∙ ap (λ n. old ++ slice_index (codes "cgdaebfcgdaebfc") n ∷ []) c.from.ensures)
    ∙ flat_key c.args.number old c.if-number-lt6.true

pub returns-in_ok-extend_from_slice-2 : goal.returns-in_ok-extend_from_slice-2
returns-in_ok-extend_from_slice-2 c =
    let old = c.args.text.now.items in
    c.in_ok-extend_from_slice-2.ensures.items
    ∙ ap (λ t. t ++ codes "is") (c.in_ok-push.ensures.items ∙ ap (λ n. old ++ slice_index (codes "cgdaebfcgdaebfc") n ∷ []) c.from.ensures)
    ∙ sharp_key c.args.number old c.if-number-gt12.true c.requires

pub returns-else-number-gt12 : goal.returns-else-number-gt12
returns-else-number-gt12 c =
    let old = c.args.text.now.items in
    c.in_ok-push.ensures.items ∙ ap (λ n. old ++ slice_index (codes "cgdaebfcgdaebfc") n ∷ []) c.from.ensures
    ∙ plain_key c.args.number old c.if-number-lt6.false c.if-number-gt12.false
