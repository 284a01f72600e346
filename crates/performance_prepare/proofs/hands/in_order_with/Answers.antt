use Rattle.std.proofs.Common.{◌++◌, ◌∙◌, sym, subst}
use Rattle.std.specs.List.Sorted.{IsPermutation}
use Rattle.std.proofs.lemmas.Map.Keys.{IsDistinct-IsPermutation}
use Rattle.note_list.proofs.Latest.{either_way}
use Rattle.note_list.specs.Kept.{same_place}
use Rattle.hand_borders.proofs.Followed.{if_ok}
use Rattle.performance_prepare.proofs.Handed.{sides_permuted}
use Rattle.performance_prepare.proofs.Parting.{one_in_order}
use Rattle.performance_prepare.proofs.hands.in_order_with.Goals as goal

pub in_order-requires : goal.in_order-requires
in_order-requires c =
    let moved : IsPermutation c.args.notes.now c.append.new.self.items =
    subst (IsPermutation c.args.notes.now) (sym (c.in_ok-append.ensures.items
    ∙ (λ i. c.in_ok-placed.ensures i ++ c.in_ok-notes_of.ensures i)))
    (sides_permuted c.args.channel c.args.notes.now) in
    IsDistinct-IsPermutation same_place either_way c.args.notes.now c.append.new.self.items moved c.requires

pub returns : goal.returns
returns c =
    let moved : IsPermutation c.args.notes.now c.append.new.self.items =
    subst (IsPermutation c.args.notes.now) (sym (c.in_ok-append.ensures.items
    ∙ (λ i. c.in_ok-placed.ensures i ++ c.in_ok-notes_of.ensures i)))
    (sides_permuted c.args.channel c.args.notes.now) in
    if_ok _ _ c.in_order.result (λ v is. is ∙ one_in_order c.args.notes.now c.append.new.self.items c.requires moved) c.in_order.ensures
