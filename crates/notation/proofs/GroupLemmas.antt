-- The first group of tokens.
use Rattle.std.proofs.Common.{◌≡◌, ℕ, zero, suc, ◌+◌, ◌-◌, ◌<◌, ◌≤◌, Bool, true, false, cond, List, [], ◌∷◌, ◌++◌, Some, length, get_or, map, take, drop, refl, sym, ap, ◌∙◌, arith}
use Rattle.std.specs.Prelude.{◌==◌, All, fold, max, slice_get}
use Rattle.std.proofs.lemmas.Bool.Decides.{nat_tests}
use Rattle.std.proofs.lemmas.List.{drop_all, drop_more, take_more, length-append}
use Rattle.std.proofs.lemmas.List.Elements.{All-head, All-map, All-tail}
use Rattle.std.proofs.lemmas.Option.{get_or_from_slice_get, slice_get_within}
use Rattle.rhythm_base.specs.Lists.{greatest, last_end}
use Rattle.notation.specs.Groups.{group_end, group_start, is_whole, parted, parted_from}
use Rattle.notation.specs.Runs.{StandBetween}
use Rattle.notation.specs.Tokens.{Token, token_length}
use Rattle.notation.proofs.Standing.{IsWithin}

-- ---- the end of a group

end_at : (e n : ℕ) (ts : List Token) (d : Token) → suc n ≡ length ts → last_end e (map (λ (t : Token). t.end) ts) ≡ (get_or ts n d).end
end_at e n [] d h = absurd (omega (arith, h))
end_at e zero (t ∷ []) d h = refl
end_at e zero (t ∷ u ∷ ts) d h = absurd (omega (arith, h))
end_at e (suc n) (t ∷ []) d h = absurd (omega (arith, h))
end_at e (suc n) (t ∷ u ∷ ts) d h = end_at t.end n (u ∷ ts) d (omega (arith, h))

pub group_end_last : (ts : List Token) (t : Token) → slice_get ts (length ts - 1) ≡ Some t → group_end ts ≡ t.end
group_end_last ts t last =
    let n = length ts - 1 in
    let lt = slice_get_within ts n t last in
    end_at 0 n ts t (omega (arith, lt)) ∙ ap (λ (u : Token). u.end) (get_or_from_slice_get ts n t t last)

-- ---- the first of the groups

-- those that wait are not whole yet
pub group_waits : (r odd n : ℕ) (ts : List Token) (next : ℕ) → 0 < n → n < length ts → suc next ≡ n → is_whole r odd (take n ts) (drop n ts) ≡ false
    → parted_from r odd (take next ts) (drop next ts) ≡ parted r odd ts
    → parted_from r odd (take n ts) (drop n ts) ≡ parted r odd ts
group_waits r odd n ts next some lt up waits h = go ts lt h waits
  where
    go : (ts : List Token) → n < length ts → parted_from r odd (take next ts) (drop next ts) ≡ parted r odd ts → is_whole r odd (take n ts)
        (drop n ts) ≡ false → parted_from r odd (take n ts) (drop n ts) ≡ parted r odd ts
    go [] lt h waits = absurd (omega (arith, lt))
    go (d ∷ ds) lt h waits =
        let us = d ∷ ds in
        let t = get_or us next d in
        let e : next + 1 ≡ n = omega (arith, up) in
        let here : next < length us = omega (arith, lt, up) in
        let front : take n us ≡ take next us ++ t ∷ [] = ap (λ k. take k us) (sym e) ∙ take_more us next d here in
        let back : drop next us ≡ t ∷ drop n us = drop_more us next d here ∙ ap (λ k. t ∷ drop k us) e in
        let g = take next us ++ t ∷ [] in
        let test : is_whole r odd g (drop n us) ≡ false = ap (λ w. is_whole r odd w (drop n us)) (sym front) ∙ waits in
        let one : parted_from r odd (take next us) (t ∷ drop n us) ≡ parted_from r odd g (drop n us) = ap
        (λ b. cond b (g ∷ parted_from r odd [] (drop n us)) (parted_from r odd g (drop n us))) test in
        ap (λ w. parted_from r odd w (drop n us)) front ∙ sym one ∙ ap (parted_from r odd (take next us)) (sym back) ∙ h

-- a whole one is the first
pub group_whole : (r odd n : ℕ) (ts : List Token) (next : ℕ) → 0 < n → n < length ts → suc next ≡ n → is_whole r odd (take n ts) (drop n ts) ≡ true
    → parted_from r odd (take next ts) (drop next ts) ≡ parted r odd ts
    → parted r odd ts ≡ take n ts ∷ parted r odd (drop n ts)
group_whole r odd n ts next some lt up whole h = go ts lt h whole
  where
    go : (ts : List Token) → n < length ts → parted_from r odd (take next ts) (drop next ts) ≡ parted r odd ts → is_whole r odd (take n ts)
        (drop n ts) ≡ true → parted r odd ts ≡ take n ts ∷ parted r odd (drop n ts)
    go [] lt h whole = absurd (omega (arith, lt))
    go (d ∷ ds) lt h whole =
        let us = d ∷ ds in
        let t = get_or us next d in
        let e : next + 1 ≡ n = omega (arith, up) in
        let here : next < length us = omega (arith, lt, up) in
        let front : take n us ≡ take next us ++ t ∷ [] = ap (λ k. take k us) (sym e) ∙ take_more us next d here in
        let back : drop next us ≡ t ∷ drop n us = drop_more us next d here ∙ ap (λ k. t ∷ drop k us) e in
        let g = take next us ++ t ∷ [] in
        let test : is_whole r odd g (drop n us) ≡ true = ap (λ w. is_whole r odd w (drop n us)) (sym front) ∙ whole in
        let one : parted_from r odd (take next us) (t ∷ drop n us) ≡ g ∷ parted_from r odd [] (drop n us) = ap
        (λ b. cond b (g ∷ parted_from r odd [] (drop n us)) (parted_from r odd g (drop n us))) test in
        sym h ∙ ap (parted_from r odd (take next us)) back ∙ one ∙ ap (λ w. w ∷ parted_from r odd [] (drop n us)) (sym front)

-- the last tokens are the first group where none before was whole
pub group_last : (r odd n : ℕ) (ts : List Token) (next : ℕ) → n ≡ length ts → suc next ≡ n → parted_from r odd (take next ts)
    (drop next ts) ≡ parted r odd ts → parted r odd ts ≡ take n ts ∷ parted r odd (drop n ts)
group_last r odd n [] next all up h = absurd (omega (arith, all, up))
group_last r odd n (d ∷ ds) next all up h =
    let us = d ∷ ds in
    let t = get_or us next d in
    let e : next + 1 ≡ n = omega (arith, up) in
    let here : next < length us = omega (arith, all, up) in
    let none : drop n us ≡ [] = drop_all n us (omega (arith, all)) in
    let front : take n us ≡ take next us ++ t ∷ [] = ap (λ k. take k us) (sym e) ∙ take_more us next d here in
    let back : drop next us ≡ t ∷ [] = drop_more us next d here ∙ ap (λ k. t ∷ drop k us) e ∙ ap (λ w. t ∷ w) none in
    sym h ∙ ap (parted_from r odd (take next us)) back ∙ closed (take next us) t ∙ ap (λ w. w ∷ []) (sym front) ∙ ap (λ w. take n us ∷ parted r odd w)
    (sym none)
  where
    more : (g : List Token) → 1 ≤ length g → cond (length g == 0) [] (g ∷ []) ≡ g ∷ []
    more [] some = absurd (omega (arith, some))
    more (u ∷ g) some = let no : (length (u ∷ g) == 0) ≡ false = grind (arith, nat_tests) in ap (λ b. cond b [] ((u ∷ g) ∷ [])) no

    closed : (w : List Token) (t : Token) → parted_from r odd w (t ∷ []) ≡ (w ++ t ∷ []) ∷ []
    closed w t = go (is_whole r odd (w ++ t ∷ []) [])
      where
        go : (b : Bool) → cond b ((w ++ t ∷ []) ∷ parted_from r odd [] []) (parted_from r odd (w ++ t ∷ []) []) ≡ (w ++ t ∷ []) ∷ []
        go true = refl
        go false = more (w ++ t ∷ []) (let e = length-append w (t ∷ []) in omega (arith, e))

pub same_test : (r odd n : ℕ) (ts front back : List Token) → front ≡ take n ts → back ≡ drop n ts → is_whole r odd (take n ts)
    (drop n ts) ≡ is_whole r odd front back
same_test r odd n ts front back e f = λ i. is_whole r odd (sym e i) (sym f i)

-- ---- the length of a group

greatest_within : (n m : ℕ) (xs : List ℕ) → n ≤ m → All (λ x. x ≤ m) xs → fold (λ n m. max n m) n xs ≤ m
greatest_within n m [] le all = le
greatest_within n m (x ∷ xs) le all = greatest_within (max n x) m xs (let e = All-head (λ x. x ≤ m) x xs all in omega (arith, le, e))
    (All-tail (λ x. x ≤ m) x xs all)

pub longest_few : (from to : ℕ) (ts : List Token) → All (IsWithin from to) ts → greatest (map token_length ts) ≤ to
longest_few from to ts all = greatest_within 0 to (map token_length ts) (omega arith)
    (All-map (λ x. x ≤ to) token_length ts (λ k d lt. let e = all k d lt in omega (arith, e.2)))

pub run_ends : (r from to : ℕ) (ts : List Token) → StandBetween r from ts to → group_start ts ≤ group_end ts
run_ends r from to [] h = omega arith
run_ends r from to (t ∷ ts) h = go t.end ts (omega (arith, h.1)) h.3
  where
    go : (e : ℕ) (us : List Token) → t.start ≤ e → StandBetween r e us to → t.start ≤ last_end e (map (λ (u : Token). u.end) us)
    go e [] le k = le
    go e (u ∷ us) le k = go u.end us (omega (arith, le, k.0, k.1)) k.3

-- no tokens have no groups
pub parted_end : (r odd : ℕ) (ts : List Token) → (length ts == 0) ≡ true → parted r odd ts ≡ []
parted_end r odd [] none = refl
parted_end r odd (t ∷ ts) none = absurd (go (length ts) none)
  where
    go : (n : ℕ) → (suc n == 0) ≡ true → ⊥
    go n e = grind (arith, nat_tests, e)
