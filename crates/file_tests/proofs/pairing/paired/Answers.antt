use Rattle.std.proofs.Common.{List, map, sym, subst, rules}
use Rattle.std.specs.Prelude.{All}
use Rattle.std.specs.List.Sorted.{IsNonDecreasing}
use Rattle.std.proofs.lemmas.List.Sorted.{IsNonDecreasingBy-from_sort_by_key, All-permutation}
use Rattle.rhythm_base.specs.declared.event.Event.{Event}
use Rattle.note_list.specs.Pairing.{IsEventOf}
use Rattle.rhythm_base.proofs.EventTicks.{no_fall}
use Rattle.file_tests.proofs.pairing.paired.Goals as goal

pub pair-requires-clause-order : goal.pair-requires-clause-order
pair-requires-clause-order c =
    let P : List Event → Type 0 = λ l. IsNonDecreasing (map (λ e. e.tick) l) in
    subst P (sym c.as_slice.ensures.value)
    (no_fall _ (IsNonDecreasingBy-from_sort_by_key (λ e. e.tick) _ c.in_ok-sort_by_key.ensures.sorted (λ a r q k. search rules)))

pub pair-requires-clause-events : goal.pair-requires-clause-events
pair-requires-clause-events c =
    let P : List Event → Type 0 = All (IsEventOf c.args.last) in
    subst P (sym c.as_slice.ensures.value) (All-permutation (IsEventOf c.args.last) _ _ c.sort_by_key.ensures.permutation c.in_ok-events.ensures)
