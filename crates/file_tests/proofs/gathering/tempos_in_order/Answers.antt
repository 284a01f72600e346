use Rattle.std.proofs.Common.{rules}
use Rattle.std.proofs.lemmas.List.Sorted.{IsNonDecreasingBy-from_sort_by_key}
use Rattle.rhythm_base.specs.declared.event.Tempo.{Tempo}
use Rattle.file_tests.proofs.InOrder.{in_order}
use Rattle.file_tests.proofs.gathering.tempos_in_order.Goals as goal

pub returns : goal.returns
returns c =
    in_order (λ (x : Tempo). x.tick) _ (record { tick = 0; micros = 0 })
    (IsNonDecreasingBy-from_sort_by_key (λ x. x.tick) _ c.in_ok-sort_by_key.ensures.sorted (λ a r q k. search rules))
