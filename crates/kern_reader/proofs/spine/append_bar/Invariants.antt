use Rattle.std.proofs.Common.{◌≡◌, ◌++◌, ◌∷◌, [], drop, map, take}
use Rattle.kern_reader.specs.declared.token.Token.TheVariants as token
use Rattle.kern_reader.proofs.spine.append_bar.Given as goal

abbrev pub invariant-columns : goal.invariant-columns
invariant-columns l = l.columns ≡ map (λ c. c ++ token.Bar l.signature ∷ []) (take l.column-index l.initial.columns) ++ drop l.column-index l.initial.columns
