use Rattle.std.proofs.Common.{List, map, sym, subst, rules}
use Rattle.std.specs.List.Sorted.{IsNonDecreasing}
use Rattle.std.proofs.lemmas.List.Sorted.{IsNonDecreasingBy-from_sort_by_key}
use Rattle.rhythm_base.specs.declared.event.Signature.{Signature}
use Rattle.file_tests.proofs.InOrder.{in_order}
use Rattle.file_tests.proofs.laying.laid.Goals as goal

pub lay_bars-requires-clause-signatures : goal.lay_bars-requires-clause-signatures
lay_bars-requires-clause-signatures c =
    let P : List Signature → Type 0 = λ l. IsNonDecreasing (map (λ s. s.tick) l) in
    subst P (sym c.as_slice.ensures.value)
    (in_order (λ (s : Signature). s.tick) _ (record { tick = 0; num = 0; dd = 0 })
    (IsNonDecreasingBy-from_sort_by_key (λ s. s.tick) _ c.in_ok-sort_by_key.ensures.sorted (λ a r q k. search rules)))
