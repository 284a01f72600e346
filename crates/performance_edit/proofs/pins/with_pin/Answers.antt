use Rattle.std.proofs.Common.{◌≡◌, not, List, subst, sym}
use Rattle.std.specs.Cmp.Lexicographic.{slice_cmp}
use Rattle.std.specs.Ordering.{nat_cmp}
use Rattle.std.specs.declared.cmp.Ordering.TheVariants.{Less}
use Rattle.std.proofs.lemmas.List.Kept.{AllPairs-filter}
use Rattle.rhythm_base.specs.declared.pin.Pin.{Pin}
use Rattle.rhythm_base.specs.Lists.{AreInOrder}
use Rattle.rhythm_base.specs.Performance.{place_of_pin}
use Rattle.rhythm_base.specs.Pins.{is_pin}
use Rattle.performance_edit.proofs.pins.with_pin.Goals as goal

pub put-requires : goal.put-requires
put-requires c =
    subst (λ (l : List Pin). AreInOrder place_of_pin l) (sym c.in_ok-others.ensures)
    (AllPairs-filter (λ x y. slice_cmp nat_cmp (place_of_pin x) (place_of_pin y) ≡ Less) (λ q. not (is_pin c.args.channel c.args.bar q)) c.args.pins.now c.requires)
