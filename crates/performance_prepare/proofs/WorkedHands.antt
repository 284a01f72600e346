-- Groups, middles and costs, worked out.
use Rattle.std.proofs.Common.{◌≡◌, ℕ, [], ◌∷◌, map, refl}
use Rattle.rhythm_base.specs.Time.{time}
use Rattle.rhythm_base.specs.declared.note.Note.{Note}
use Rattle.performance_prepare.specs.Groups.{cost, groups, held_keys}
use Rattle.performance_prepare.specs.Middle.{middle, numbers_from}

abbrev note : ℕ → ℕ → ℕ → ℕ → Note
note channel key onset end = record { channel = channel; key = key; onset = onset; end = end }

-- the best border is 57, midway between 54 and 60, and drawn to 60 by a quarter: 58
high_middle : middle (53 ∷ 60 ∷ 62 ∷ []) ≡ 58
unfolding numbers_from
high_middle = refl

one_key : middle (71 ∷ 71 ∷ []) ≡ 60
unfolding numbers_from
one_key = refl

-- 30 ticks at 1000 a quarter are 15 ms
close_group : groups [] 1000 15 (note 0 40 0 980 ∷ note 0 72 10 480 ∷ note 0 47 40 980 ∷ note 0 74 71 980 ∷ [])
    ≡ (note 0 40 0 980 ∷ note 0 72 10 480 ∷ note 0 47 40 980 ∷ []) ∷ (note 0 74 71 980 ∷ []) ∷ []
unfolding time
close_group = refl

-- 60 ms past the group, and a tick more
not_held : held_keys [] 1000 (note 0 60 0 220 ∷ []) (note 0 62 100 1000 ∷ []) ≡ []
unfolding time numbers_from
not_held = refl

is_held : held_keys [] 1000 (note 0 60 0 221 ∷ []) (note 0 62 100 1000 ∷ []) ≡ 60 ∷ []
unfolding time numbers_from
is_held = refl

-- two keys, one held: 2 for the middle at each border, 20 a half key nearer than five keys, 700 above an octave, 1,000 where the hand
-- that holds strikes
some_costs : map (cost 60 (50 ∷ 69 ∷ []) (48 ∷ [])) (50 ∷ 51 ∷ 60 ∷ 69 ∷ 70 ∷ []) ≡ 900 ∷ 1198 ∷ 1000 ∷ 1198 ∷ 1900 ∷ []
some_costs = refl
