-- Draws worked by hand.
use Rattle.std.proofs.Common.{List, [], ◌∷◌, refl, arith}
use Rattle.bar_pool.specs.Draws.{Draws, Event, IsRun, Seat, draw, join, new_seat, split, first_draws}

-- Two workers and two inputs: the seat is split, each seat draws one number and then one past the inputs, and they are joined.
two_by_two : List Event
two_by_two = split 0 1 ∷ draw 1 ∷ draw 0 ∷ draw 0 ∷ draw 1 ∷ join 0 1 ∷ []

after_two : Draws
after_two = record { next = 4; seats = record { share = 2; drawn = 1 ∷ 0 ∷ []; past = 2 } ∷ new_seat 0 ∷ [] }

worked : IsRun 2 two_by_two (first_draws 2) after_two
unfolding two_by_two after_two
worked =
    let whole : Seat = new_seat 2 in
    let one : Seat = new_seat 1 in
    let first : Seat = record { share = 1; drawn = 1 ∷ []; past = 0 } in
    let second : Seat = record { share = 1; drawn = 0 ∷ []; past = 0 } in
    let first_past : Seat = record { share = 1; drawn = 1 ∷ []; past = 1 } in
    let second_past : Seat = record { share = 1; drawn = 0 ∷ []; past = 1 } in (
      record { next = 0; seats = one ∷ one ∷ [] },
      (whole, refl, omega arith, omega arith, refl),
      (
        record { next = 1; seats = one ∷ second ∷ [] },
        (one, refl, omega arith, refl),
        (
          record { next = 2; seats = first ∷ second ∷ [] },
          (one, refl, omega arith, refl),
          (
            record { next = 3; seats = first_past ∷ second ∷ [] },
            (first, refl, omega arith, refl),
            (
              record { next = 4; seats = first_past ∷ second_past ∷ [] },
              (second, refl, omega arith, refl),
              (after_two, (first_past, second_past, refl, refl, (λ e. absurd (omega arith)), refl), refl),
            ),
          ),
        ),
      ),
    )

-- no inputs: every draw is past them
none : IsRun 0 (draw 0 ∷ []) (first_draws 1) record { next = 1; seats = record { share = 1; drawn = []; past = 1 } ∷ [] }
none = (record { next = 1; seats = record { share = 1; drawn = []; past = 1 } ∷ [] }, (new_seat 1, refl, omega arith, refl), refl)
