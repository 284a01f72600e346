-- The groups of a bar: runs of tokens from one plain place to another, each of which is written under one bracket, or under none.
use Rattle.std.specs.Prelude.{◌≡◌, ℕ, ◌-◌, ◌*◌, ◌%◌, ◌==◌, nat_le, Bool, true, ◌&&◌, ◌||◌, if◌then◌else◌, List, [], ◌∷◌, ◌++◌, drop, length, map, take}
use Rattle.rhythm_base.specs.Lists.{greatest, last_end}
use Rattle.notation.specs.Places.{is_plain, quarter_of}
use Rattle.notation.specs.Tokens.{Token, token_length}

abbrev pub group_start : List Token → ℕ
group_start [] = 0
group_start (t ∷ ts) = t.start

abbrev pub group_end : List Token → ℕ
group_end ts = last_end 0 (map (λ t. t.end) ts)

-- no tuplet follows at once: the next token of the bar ends at a plain place, or there is none
abbrev pub next_is_plain : ℕ → List Token → Bool
next_is_plain odd [] = true
next_is_plain odd (t ∷ ts) = is_plain odd t.end

-- A group is whole where it ends at a plain place and is one token alone; or ends with a quarter; or no token has more than a third of it; or
-- no tuplet follows at once
abbrev pub is_whole : ℕ → ℕ → List Token → List Token → Bool
is_whole resolution odd group more =
    is_plain odd (group_end group)
    && ((length group == 1) || ((group_end group % quarter_of resolution == 0)
    || (nat_le (3 * greatest (map token_length group)) (group_end group - group_start group) || next_is_plain odd more)))

-- the tokens parted into groups, each as short as may be; those that wait begin the first of them
abbrev pub parted_from : ℕ → ℕ → List Token → List Token → List (List Token)
parted_from resolution odd waiting [] = if length waiting == 0 then [] else waiting ∷ []
parted_from resolution odd waiting (t ∷ more) =
    if is_whole resolution odd (waiting ++ t ∷ []) more then (waiting ++ t ∷ []) ∷ parted_from resolution odd [] more
    else parted_from resolution odd (waiting ++ t ∷ []) more

abbrev pub parted : ℕ → ℕ → List Token → List (List Token)
parted resolution odd tokens = parted_from resolution odd [] tokens

-- the first so many tokens are the first group
abbrev pub IsFirstGroup : ℕ → ℕ → ℕ → List Token → Type 0
IsFirstGroup resolution odd n tokens = parted resolution odd tokens ≡ take n tokens ∷ parted resolution odd (drop n tokens)
