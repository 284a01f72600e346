-- The middle of the keys that two hands play.
use Rattle.std.specs.Prelude.{ℕ, ◌+◌, ◌-◌, ◌*◌, ◌/◌, ◌==◌, not, nat_lt, if◌then◌else◌, List, filter, length, map, slice_index}
use Rattle.std.specs.List.{range_with_len, sum}
use Rattle.rhythm_base.specs.Lists.{greatest, least_of}

abbrev pub keys_below : ℕ → List ℕ → List ℕ
keys_below border keys = filter (λ k. nat_lt k border) keys

abbrev pub keys_from : ℕ → List ℕ → List ℕ
keys_from border keys = filter (λ k. not (nat_lt k border)) keys

-- the mean in sixteenths, rounded down
abbrev pub mean : List ℕ → ℕ
mean keys = (16 * sum keys) / length keys

-- how well a border parts the keys: how many are on each side, and how far apart the sides are in the mean. 0 where a side has none
abbrev pub parting : List ℕ → ℕ → ℕ
parting keys border =
    length (keys_below border keys) * length (keys_from border keys)
    * ((mean (keys_from border keys) - mean (keys_below border keys)) * (mean (keys_from border keys) - mean (keys_below border keys)))

-- the numbers from one on below another
unfoldable pub numbers_from : ℕ → ℕ → List ℕ
numbers_from first end = range_with_len first (end - first)

-- the borders that have a key on each side
abbrev pub inner_borders : List ℕ
inner_borders = numbers_from 1 128

abbrev pub best_parting : List ℕ → ℕ
best_parting keys = greatest (map (parting keys) inner_borders)

abbrev pub best_borders : List ℕ → List ℕ
best_borders keys = filter (λ b. parting keys b == best_parting keys) inner_borders

-- the borders from 1 on that part so well, of these partings of all of them
abbrev pub borders_at : List ℕ → ℕ → List ℕ
borders_at partings best = filter (λ b. slice_index partings (b - 1) == best) inner_borders

-- midway between the lowest and the highest of the borders that part the keys best; 60 where all keys are one
abbrev pub parting_border : List ℕ → ℕ
parting_border keys = if best_parting keys == 0 then 60 else (least_of (best_borders keys) + greatest (best_borders keys)) / 2

-- and that drawn to 60 by a quarter, to the nearest key
abbrev pub middle : List ℕ → ℕ
middle keys = (3 * parting_border keys + 62) / 4
