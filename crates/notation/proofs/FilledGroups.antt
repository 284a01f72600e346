-- The notes of a group fill it, and the groups of a bar fill the bar.
use Rattle.std.proofs.Common.{◌≡◌, ℕ, zero, suc, ◌+◌, ◌-◌, ◌*◌, ◌/◌, ◌<◌, ◌≤◌, Bool, true, false, cond, List, [], ◌∷◌, ◌++◌, append_assoc}
use Rattle.std.proofs.Common.{length, refl, sym, ap, ◌∙◌, subst, ◌⊎◌, inl, inr, arith}
use Rattle.std.specs.Prelude.{◌==◌, All, map, sum, sum_by}
use Rattle.std.proofs.Math.Nat.{div-mul_cancel, dvd-sub}
use Rattle.std.proofs.lemmas.Bool.Decides.{nat_tests}
use Rattle.std.proofs.lemmas.List.{append-nil}
use Rattle.std.proofs.lemmas.List.Elements.{All-head, All-tail}
use Rattle.std.proofs.lemmas.List.Sums.{sum-map, sum_by-append, sum_by-cons}
use Rattle.rhythm_base.specs.Lists.{Each}
use Rattle.durations.specs.declared.value.Value.{Value}
use Rattle.durations.specs.Value.{width}
use Rattle.durations.proofs.Sums.{values_sum}
use Rattle.notation.specs.Bars.{are_silent}
use Rattle.notation.specs.Groups.{is_whole, parted, parted_from}
use Rattle.notation.specs.Laws.{GroupsFillTheBar, NotesFillTheirGroup, group_length}
use Rattle.notation.specs.Notes.{AreNotes, Group, IsGroup, Note, is_empty, note, spelled_whole, ties_taken, token_notes}
use Rattle.notation.specs.Places.{IsOddPart}
use Rattle.notation.specs.Rests.{joined, joined_from, joined_rests}
use Rattle.notation.specs.Runs.{StandBetween}
use Rattle.notation.specs.Tokens.{Token, bar_tokens, token_length}
use Rattle.notation.proofs.BarRuns.{bar_end, bar_values_stand, scale}
use Rattle.notation.proofs.CutRuns.{tokens_stand}
use Rattle.notation.proofs.GridLemmas.{CountIn}
use Rattle.notation.proofs.Halved.{joined_all}
use Rattle.notation.proofs.JoinedRuns.{end_after, joined_end, joined_start, rests_stand}
use Rattle.notation.proofs.Joining.{ended}
use Rattle.notation.proofs.PlainGroups.{end_is}
use Rattle.notation.proofs.Spelled.{whole_some}
use Rattle.notation.proofs.Standing.{stand_append}

-- ---- tokens that are joined are as long in all

abbrev Side : ℕ → List Token → ℕ → Type 0
Side from [] to = from ≡ to
Side from (t ∷ ts) to = (t.start ≡ from) × (t.start < t.end) × Side t.end ts to

stand_side : (r from to : ℕ) (ts : List Token) → StandBetween r from ts to → Side from ts to
stand_side r from to [] h = h
stand_side r from to (t ∷ ts) h = (h.0, h.1, stand_side r t.end to ts h.3)

side_rises : (k e to : ℕ) (ts : List Token) → Side e ts to → e ≤ end_after k e ts
side_rises zero e to ts h = omega arith
side_rises (suc k) e to [] h = omega arith
side_rises (suc k) e to (t ∷ ts) h = let f = side_rises k t.end to ts h.2 in omega (arith, h.0, h.1, f)

side_sum : (from to : ℕ) (ts : List Token) → Side from ts to → from + sum_by token_length ts ≡ to
side_sum from to [] h = omega (arith, h)
side_sum from to (t ∷ ts) h = let rest = side_sum t.end to ts h.2 in omega (arith, h.0, h.1, rest, sum_by-cons token_length t ts)

joined_sum :
    (count : Token → List Token → ℕ) (taken from to : ℕ) (ts : List Token) → Side from ts to
    → end_after taken from ts + sum_by token_length (joined_from count taken ts) ≡ to
joined_sum count zero from to [] h = omega (arith, h)
joined_sum count (suc taken) from to [] h = omega (arith, h)
joined_sum count (suc taken) from to (t ∷ more) h = joined_sum count taken t.end to more h.2
joined_sum count zero from to (t ∷ more) h =
    let k = count t more in
    let one = joined k t more in
    let rest = joined_from count k more in
    let start : one.start ≡ t.start = joined_start k t more in
    let end : one.end ≡ end_after k t.end more = joined_end k t more in
    let rise : t.end ≤ end_after k t.end more = side_rises k t.end to more h.2 in
    let next : end_after k t.end more + sum_by token_length rest ≡ to = joined_sum count k t.end to more h.2 in
    let all : sum_by token_length (one ∷ rest) ≡ one.end - one.start + sum_by token_length rest = sum_by-cons token_length one rest in
    omega (arith, start, end, rise, next, all, h.0, h.1)

counted : (grid k : ℕ) (t : Token) (more : List Token) → CountIn grid t → All (CountIn grid) more → CountIn grid (joined k t more)
counted grid zero t more h all = h
counted grid (suc k) t [] h all = h
counted grid (suc k) t (u ∷ more) h all =
    let own = All-head (CountIn grid) u more all in
    counted grid k (ended t u) more (h.0, own.1) (All-tail (CountIn grid) u more all)

joined_counted : (grid : ℕ) (count : Token → List Token → ℕ) (ts : List Token) → All (CountIn grid) ts → All (CountIn grid) (joined_from count 0 ts)
joined_counted grid count ts all =
    joined_all (CountIn grid) (All (CountIn grid)) count 0 ts
    (λ t more h. counted grid (count t more) t more (All-head (CountIn grid) t more h) (All-tail (CountIn grid) t more h))
    (λ t more h. All-tail (CountIn grid) t more h) all

-- ---- the notes of tokens are as long as the tokens

abbrev lasts : Note → ℕ
lasts n = n.duration

values_last :
    (grid whole : ℕ) (t : Token) (first : Bool) (vs : List Value) → sum_by lasts (token_notes grid whole t first vs) ≡ sum_by (width whole) vs * grid
values_last grid whole t first [] = omega arith
values_last grid whole t first (v ∷ vs) =
    let one = sum_by-cons lasts (note grid whole t first (is_empty vs) v) (token_notes grid whole t false vs) in
    let two = ap (λ x. x * grid) (sum_by-cons (width whole) v vs) in
    one ∙ ap (λ x. width whole v * grid + x) (values_last grid whole t false vs) ∙ spread (width whole v) (sum_by (width whole) vs) grid ∙ sym two
  where
    spread : (a b c : ℕ) → a * c + b * c ≡ (a + b) * c
    spread a b c = omega arith

notes_last :
    (grid whole : ℕ) (ts : List Token) (notes : List Note) → 1 ≤ whole → All (CountIn grid) ts → AreNotes grid whole ts notes
    → sum_by lasts notes ≡ sum_by token_length ts
notes_last grid whole [] notes some count h = ap (sum_by lasts) h
notes_last grid whole (t ∷ ts) notes some count (vs, others, values, are, is) =
    let own = All-head (CountIn grid) t ts count in
    let len = (t.end - t.start) / grid in
    let sums : sum_by (width whole) vs ≡ len = sym (sum-map (width whole) vs) ∙ (values_sum len whole vs some values).sum in
    let long : len * grid ≡ t.end - t.start = div-mul_cancel grid (dvd-sub grid own.1 own.0) in
    let here = values_last grid whole t true vs ∙ ap (λ x. x * grid) sums ∙ long in
    let rest = notes_last grid whole ts others some (All-tail (CountIn grid) t ts count) are in
    ap (sum_by lasts) is ∙ sum_by-append lasts (token_notes grid whole t true vs) others ∙ (λ i. here i + rest i) ∙ sym (sum_by-cons token_length t ts)

pub group_filled : NotesFillTheirGroup
group_filled r odd from to ts g some part stand h = go (g.ratio.actual == 1) h.notes
  where
    w : ℕ
    w = spelled_whole r odd g.ratio.normal

    side : Side from ts to
    side = stand_side r from to ts stand

    whole : 1 ≤ w
    whole = whole_some r odd g.ratio.normal some part h.normal.0

    all : sum (map lasts g.notes) ≡ sum_by lasts g.notes
    all = sum-map lasts g.notes

    go : (b : Bool) → AreNotes h.grid w (cond b ts (joined_from (ties_taken h.grid w) 0 ts)) g.notes → from + group_length g ≡ to
    go true notes =
        let long = notes_last h.grid w ts g.notes whole h.is_grid.places notes in
        let sums = side_sum from to ts side in
        omega (arith, all, long, sums)
    go false notes =
        let joined = joined_from (ties_taken h.grid w) 0 ts in
        let long = notes_last h.grid w joined g.notes whole (joined_counted h.grid (ties_taken h.grid w) ts h.is_grid.places) notes in
        let sums = joined_sum (ties_taken h.grid w) 0 from to ts side in
        omega (arith, all, long, sums)

-- ---- the groups of a bar

abbrev Chain : ℕ → ℕ → List (List Token) → ℕ → Type 0
Chain r from [] to = from ≡ to
Chain r from (g ∷ gs) to = (mid : ℕ) × StandBetween r from g mid × Chain r mid gs to

parted_chain : (r odd from to : ℕ) (waiting ts : List Token) → StandBetween r from (waiting ++ ts) to → Chain r from (parted_from r odd waiting ts) to
parted_chain r odd from to [] [] h = h
parted_chain r odd from to (w ∷ ws) [] h =
    let some : (length (w ∷ ws) == 0) ≡ false = grind (arith, nat_tests) in
    let stand = subst (λ us. StandBetween r from us to) (append-nil (w ∷ ws)) h in
    subst (λ b. Chain r from (cond b [] ((w ∷ ws) ∷ [])) to) (sym some) (to, stand, refl)
parted_chain r odd from to waiting (t ∷ more) h =
    go (is_whole r odd g more) (parted_chain r odd from to g more stand) (λ mid next. parted_chain r odd mid to [] more next)
  where
    g : List Token
    g = waiting ++ t ∷ []

    stand : StandBetween r from (g ++ more) to
    stand = subst (λ us. StandBetween r from us to) (sym (append_assoc waiting (t ∷ []) more)) h

    go : (b : Bool) → Chain r from (parted_from r odd g more) to → ((mid : ℕ) → StandBetween r mid more to → Chain r mid (parted_from r odd [] more) to)
        → Chain r from (cond b (g ∷ parted_from r odd [] more) (parted_from r odd g more)) to
    go false rest next = rest
    go true rest next = let parts = stand_append r from to g more stand in (parts.0, parts.1, next parts.0 parts.2)

chain_sum :
    (r odd from to : ℕ) (gs : List (List Token)) (groups : List Group) → 1 ≤ r → IsOddPart r odd → Chain r from gs to → Each (IsGroup r odd) gs groups
    → from + sum_by group_length groups ≡ to
chain_sum r odd from to [] groups some part h k = let none = ap (sum_by group_length) k in omega (arith, h, none)
chain_sum r odd from to (g ∷ gs) [] some part h k = absurd k
chain_sum r odd from to (g ∷ gs) (group ∷ groups) some part h k =
    let one : from + group_length group ≡ h.0 = group_filled r odd from h.0 g group some part h.1 k.0 in
    let rest : h.0 + sum_by group_length groups ≡ to = chain_sum r odd h.0 to gs groups some part h.2 k.1 in
    let all : sum_by group_length (group ∷ groups) ≡ group_length group + sum_by group_length groups = sum_by-cons group_length group groups in
    omega (arith, one, rest, all)

pub bar_filled : GroupsFillTheBar
bar_filled r bar after sounds groups some h full (vs, odd, values, part, each) = go (are_silent ts) each
  where
    ts : List Token
    ts = bar_tokens r odd bar after vs

    go : (b : Bool) → Each (IsGroup r odd) (cond b [] (parted r odd (joined_rests r bar ts))) groups
        → (groups ≡ []) ⊎ (sum (map group_length groups) ≡ r * bar.num * (64 / bar.den))
    go true none = inl none
    go false are =
        let to = bar_end bar sounds * scale bar in
        let stand = tokens_stand r odd bar after 0 (bar_end bar sounds) vs some h (bar_values_stand r bar sounds vs some h values) in
        let chain = parted_chain r odd (0 * scale bar) to [] (joined_rests r bar ts) (rests_stand r bar (0 * scale bar) to ts some h stand) in
        let sums = chain_sum r odd (0 * scale bar) to (parted r odd (joined_rests r bar ts)) groups some part chain are in
        let end : to ≡ r * bar.num * scale bar = ap (λ x. x * scale bar) (end_is r bar sounds full) in
        inr (omega (arith, sums, end, sum-map group_length groups))
