-- Groups of notes that begin together, and what a border between two hands costs in each.
use Rattle.std.specs.Prelude.{◌≡◌, ◌<◌, ℕ, Bool, false, ◌+◌, ◌-◌, ◌*◌, ◌==◌, ◌&&◌, not, nat_le, nat_lt, List, [], ◌∷◌, ◌++◌, drop, filter, length, map, slice_index, Option, Some, None}
use Rattle.std.specs.List.{slice_range, sum}
use Rattle.rhythm_base.specs.declared.event.Tempo.{Tempo}
use Rattle.rhythm_base.specs.declared.note.Note.{Note}
use Rattle.rhythm_base.specs.Lists.{gap, greatest, last_of, least_of}
use Rattle.performance_prepare.specs.Elapsed.{milliseconds, time_between}
use Rattle.performance_prepare.specs.Middle.{keys_below, keys_from, numbers_from}
use Rattle.performance_prepare.specs.Parts.{parts}
use Rattle.performance_prepare.specs.Strum.{strikes}

-- ---- groups

-- a note begins at most so many milliseconds after another
abbrev pub begins_near : List Tempo → ℕ → ℕ → Note → Note → Bool
begins_near tempos division within last n = nat_le (time_between tempos last.onset n.onset) (milliseconds division within)

-- the notes are cut before each that begins later than that after the one before it
abbrev pub groups : List Tempo → ℕ → ℕ → List Note → List (List Note)
groups tempos division within notes = parts (λ group last n. begins_near tempos division within last n) notes

-- of the notes from one place on, those up to another are the first group
abbrev pub IsGroup : List Tempo → ℕ → ℕ → List Note → ℕ → ℕ → Type 0
IsGroup tempos division within notes start end =
    groups tempos division within (drop start notes) ≡ slice_range notes start end ∷ groups tempos division within (drop end notes)

-- ---- held keys

-- a note sounds on for more than 60 ms past a tick
abbrev pub sounds_past : List Tempo → ℕ → ℕ → Option Note → Bool
sounds_past tempos division tick None = false
sounds_past tempos division tick (Some n) = nat_lt (milliseconds division 60) (time_between tempos tick n.end)

abbrev pub first_onset : List Note → ℕ
first_onset [] = 0
first_onset (n ∷ group) = n.onset

-- a key is held where the last note of it before the group sounds on past the group's first onset, and it is not struck in the group
abbrev pub is_held : List Tempo → ℕ → List Note → List Note → ℕ → Bool
is_held tempos division before group key =
    not (strikes group key) && sounds_past tempos division (first_onset group) (last_of (filter (λ n. n.key == key) before))

abbrev pub held_keys : List Tempo → ℕ → List Note → List Note → List ℕ
held_keys tempos division before group = filter (is_held tempos division before group) (numbers_from 0 128)

-- ---- what a border costs

-- the semitones that the keys of a hand are apart, above an octave
abbrev pub stretch : List ℕ → ℕ
stretch keys = greatest keys - least_of keys - 12

-- keys within five of the border cost 20 for each half key that they are nearer
abbrev pub nearness : ℕ → List ℕ → ℕ
nearness border keys = sum (map (λ k. 20 * (10 - gap (2 * k + 1) (2 * border))) keys)

-- the held keys of a hand that strikes something
abbrev pub held_beside : List ℕ → List ℕ → ℕ
held_beside [] held = 0
held_beside (k ∷ struck) held = length held

-- each key costs 1 for each that the border is from the middle, a hand 100 for each semitone above an octave, and 1,000 for each key
-- that it holds where it strikes anew
abbrev pub cost : ℕ → List ℕ → List ℕ → ℕ → ℕ
cost middle struck held border =
    length struck * gap border middle + nearness border struck
    + 100 * (stretch (keys_below border struck) + stretch (keys_from border struck))
    + 1000
    * (held_beside (keys_below border struck) (keys_below border held) + held_beside (keys_from border struck) (keys_from border held))

-- the costs of each group at the borders 0 to 128, after the notes of the groups before
abbrev pub costs_after : List Tempo → ℕ → ℕ → List Note → List (List Note) → List (List ℕ)
costs_after tempos division middle before [] = []
costs_after tempos division middle before (group ∷ groups) =
    map (cost middle (map (λ n. n.key) group) (held_keys tempos division before group)) (numbers_from 0 129)
    ∷ costs_after tempos division middle (before ++ group) groups

abbrev pub costs : List Tempo → ℕ → ℕ → List (List Note) → List (List ℕ)
costs tempos division middle groups = costs_after tempos division middle [] groups

-- the costs of each group of the notes
abbrev pub note_costs : List Tempo → ℕ → ℕ → ℕ → List Note → List (List ℕ)
note_costs tempos division within middle notes = costs tempos division middle (groups tempos division within notes)

-- each border costs so much
abbrev pub AreCosts : (ℕ → ℕ) → List ℕ → Type 0
AreCosts f costs = (border : ℕ) → border < 129 → slice_index costs border ≡ f border
