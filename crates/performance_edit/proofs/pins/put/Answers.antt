use Rattle.std.proofs.Common.{◌≡◌, ◌≤◌, true, false, List, length, subst, ◌∙◌}
use Rattle.std.specs.List.{AllWithin}
use Rattle.rhythm_base.specs.declared.pin.Pin.{Pin}
use Rattle.rhythm_base.specs.Performance.{place_of_pin}
use Rattle.performance_edit.proofs.Places.{is_before, list_with-insert}
use Rattle.performance_edit.proofs.pins.put.Goals as goal

pub returns : goal.returns
returns c =
    let pin = c.args.pin in
    let n = c.count_before-place.result in
    let found = c.count_before-place.ensures in
    let within = subst (λ (l : List Pin). n ≤ length l) c.as_slice.ensures.value found.within in
    let front = subst (λ (l : List Pin). AllWithin (λ y. is_before place_of_pin pin y ≡ true) l 0 n) c.as_slice.ensures.value found.front in
    let back = subst (λ (l : List Pin). AllWithin (λ y. is_before place_of_pin pin y ≡ false) l n (length l)) c.as_slice.ensures.value found.back in
    c.in_ok-insert.ensures.items ∙ list_with-insert place_of_pin pin c.args.pins.now.items n within front back
