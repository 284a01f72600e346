use Rattle.std.proofs.Common.{◌≡◌, ◌++◌, ◌∷◌, []}
use Rattle.kern_reader.proofs.ZipLemmas.{zipped}
use Rattle.kern_reader.proofs.spine.append.Given as goal

abbrev pub invariant-columns : goal.invariant-columns
invariant-columns l = l.columns ≡ zipped (λ t column. column ++ t ∷ []) l.tokens l.initial.columns l.number
