-- The tokens that stand alike in all columns of a record.
use Rattle.std.specs.Prelude.{ℕ, List, ◌++◌, codes, decimal}
use Rattle.kern_writer.specs.declared.shared.SharedToken.{SharedToken}
use Rattle.kern_writer.specs.declared.shared.SharedToken.TheVariants as variants
use Rattle.kern_writer.specs.Changes.{key_text}

abbrev pub shared_text : SharedToken → List ℕ
shared_text variants.Kern = codes "**kern"
shared_text (variants.Key sf) = key_text sf
shared_text (variants.Signature num den) = codes "*M" ++ decimal num ++ codes "/" ++ decimal den
shared_text (variants.Tempo quarters) = codes "*MM" ++ decimal quarters
shared_text (variants.Barline number) = codes "=" ++ decimal number
shared_text variants.LastBarline = codes "=="
shared_text variants.End = codes "*-"
