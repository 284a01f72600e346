use Rattle.std.proofs.Common.{◌≡◌, ◌∷◌, ◌++◌, decimal, take}
use Rattle.std.specs.List.{flat_map}
use Rattle.script_writer.proofs.edit_text.push_numbers.Given as goal

abbrev pub invariant-numbers : goal.invariant-numbers
invariant-numbers l = l.text.items ≡ l.initial.text.items ++ flat_map (λ n. 32 ∷ decimal n) (take l.number-index l.numbers)
