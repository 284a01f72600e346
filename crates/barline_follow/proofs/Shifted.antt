-- Barlines after the lines of stages.
use Rattle.std.proofs.Common.{◌≡◌, ℕ, suc, ◌+◌, ◌-◌, ◌*◌, ◌/◌, ◌%◌, ◌<◌, ◌≤◌, ◌⊎◌, inl, inr, Bool, true, false, List, [], ◌∷◌, ◌++◌, length, max, set, refl, ap, ap₂, sym, ◌∙◌, arith}
use Rattle.std.specs.Prelude.{filter, if◌then◌else◌, nat_lt, reverse}
use Rattle.std.specs.List.{fold}
use Rattle.std.proofs.Math.Nat.{div-add-mod, mul-div_cancel}
use Rattle.std.proofs.lemmas.Bool.{cases_order, le-ltb, lt-ltb}
use Rattle.std.proofs.lemmas.List.{append_assoc, length-append, reverse-append, set_at}
use Rattle.rhythm_base.specs.Lists.{gap}
use Rattle.barline_follow.specs.Stages.{Shift, aim, aims, farthest, is_earlier, is_later, paired, shifts, stage_count}

-- barlines after shifts
abbrev pub shifted : List ℕ → List Shift → List ℕ
shifted ticks [] = ticks
shifted ticks (s ∷ ss) = shifted (set ticks s.bar s.to) ss

shifted-append : (ticks : List ℕ) (xs ys : List Shift) → shifted ticks (xs ++ ys) ≡ shifted (shifted ticks xs) ys
shifted-append ticks [] ys = refl
shifted-append ticks (x ∷ xs) ys = shifted-append (set ticks x.bar x.to) xs ys

-- those that move later have moved
abbrev raised : List ℕ → List ℕ → List ℕ
raised [] ys = []
raised (x ∷ xs) [] = x ∷ xs
raised (x ∷ xs) (y ∷ ys) = (if nat_lt x y then y else x) ∷ raised xs ys

one_more : (front : List ℕ) (x : ℕ) (xs : List ℕ) → (front ++ (x ∷ [])) ++ xs ≡ front ++ (x ∷ xs)
one_more front x xs = append_assoc front (x ∷ []) xs

length-one_more : (front : List ℕ) (x j : ℕ) → length front ≡ j → length (front ++ (x ∷ [])) ≡ suc j
length-one_more front x j h = let long = length-append front (x ∷ []) in omega (arith, long, h)

raise : (j : ℕ) (front xs ys : List ℕ) → length front ≡ j → shifted (front ++ xs) (reverse (filter is_later (shifts j xs ys))) ≡ front ++ raised xs ys
raise j front [] ys h = refl
raise j front (x ∷ xs) [] h = refl
raise j front (x ∷ xs) (y ∷ ys) h = at (nat_lt x y) (raise (suc j) (front ++ (x ∷ [])) xs ys (length-one_more front x j h))
  where
    others : List Shift
    others = filter is_later (shifts (suc j) xs ys)

    own : Shift
    own = record { bar = j; tick = x; to = y }

    at : (b : Bool) → shifted ((front ++ (x ∷ [])) ++ xs) (reverse (filter is_later (shifts (suc j) xs ys))) ≡ (front ++ (x ∷ [])) ++ raised xs ys
        → shifted (front ++ (x ∷ xs)) (reverse (if b then (record { bar = j; tick = x; to = y }) ∷ filter is_later (shifts (suc j) xs ys) else filter is_later (shifts (suc j) xs ys)))
        ≡ front ++ ((if b then y else x) ∷ raised xs ys)
    at false ih =
        ap (λ l. shifted l (reverse (filter is_later (shifts (suc j) xs ys)))) (sym (one_more front x xs)) ∙ ih ∙ one_more front x (raised xs ys)
    at true ih =
        let later : List Shift = filter is_later (shifts (suc j) xs ys) in
        let s : Shift = record { bar = j; tick = x; to = y } in
        let turned : reverse (s ∷ later) ≡ reverse later ++ (s ∷ []) = reverse-append (s ∷ []) later in
        let before : shifted (front ++ (x ∷ xs)) (reverse later) ≡ front ++ (x ∷ raised xs ys) =
        ap (λ l. shifted l (reverse later)) (sym (one_more front x xs)) ∙ ih ∙ one_more front x (raised xs ys) in
        ap (shifted (front ++ (x ∷ xs))) turned
        ∙ shifted-append (front ++ (x ∷ xs)) (reverse later) (s ∷ [])
        ∙ ap (λ l. set l j y) before
        ∙ set_at front x (raised xs ys) y j h

lower : (j : ℕ) (front xs ys : List ℕ) → length front ≡ j → length xs ≡ length ys
    → shifted (front ++ raised xs ys) (filter is_earlier (shifts j xs ys)) ≡ front ++ ys
lower j front [] [] h long = refl
lower j front [] (y ∷ ys) h long = absurd (omega (arith, long))
lower j front (x ∷ xs) [] h long = absurd (omega (arith, long))
lower j front (x ∷ xs) (y ∷ ys) h long =
    at (cases_order x y)
    (ap (λ l. shifted l (filter is_earlier (shifts (suc j) xs ys))) (sym (one_more front y (raised xs ys)))
    ∙ lower (suc j) (front ++ (y ∷ [])) xs ys (length-one_more front y j h) (omega (arith, long))
    ∙ one_more front y ys)
  where
    Goal : Type 0
    Goal = shifted (front ++ ((if nat_lt x y then y else x) ∷ raised xs ys))
        (if nat_lt y x then (record { bar = j; tick = x; to = y }) ∷ filter is_earlier (shifts (suc j) xs ys) else filter is_earlier (shifts (suc j) xs ys))
        ≡ front ++ (y ∷ ys)

    at : (x ≡ y) ⊎ ((x < y) ⊎ (y < x)) → shifted (front ++ (y ∷ raised xs ys)) (filter is_earlier (shifts (suc j) xs ys)) ≡ front ++ (y ∷ ys)
        → shifted (front ++ ((if nat_lt x y then y else x) ∷ raised xs ys))
        (if nat_lt y x then (record { bar = j; tick = x; to = y }) ∷ filter is_earlier (shifts (suc j) xs ys) else filter is_earlier (shifts (suc j) xs ys))
        ≡ front ++ (y ∷ ys)
    at (inl same) rest =
        let up : nat_lt x y ≡ false = le-ltb x y (omega (arith, same)) in
        let down : nat_lt y x ≡ false = le-ltb y x (omega (arith, same)) in
        ap₂ (λ (b c : Bool). shifted (front ++ ((if b then y else x) ∷ raised xs ys))
        (if c then (record { bar = j; tick = x; to = y }) ∷ filter is_earlier (shifts (suc j) xs ys) else filter is_earlier (shifts (suc j) xs ys))) up down
        ∙ ap (λ z. shifted (front ++ (z ∷ raised xs ys)) (filter is_earlier (shifts (suc j) xs ys))) same
        ∙ rest
    at (inr (inl low)) rest =
        let up : nat_lt x y ≡ true = lt-ltb x y low in
        let down : nat_lt y x ≡ false = le-ltb y x (omega (arith, low)) in
        ap₂ (λ (b c : Bool). shifted (front ++ ((if b then y else x) ∷ raised xs ys))
        (if c then (record { bar = j; tick = x; to = y }) ∷ filter is_earlier (shifts (suc j) xs ys) else filter is_earlier (shifts (suc j) xs ys))) up down
        ∙ rest
    at (inr (inr high)) rest =
        let up : nat_lt x y ≡ false = le-ltb x y (omega (arith, high)) in
        let down : nat_lt y x ≡ true = lt-ltb y x high in
        ap₂ (λ (b c : Bool). shifted (front ++ ((if b then y else x) ∷ raised xs ys))
        (if c then (record { bar = j; tick = x; to = y }) ∷ filter is_earlier (shifts (suc j) xs ys) else filter is_earlier (shifts (suc j) xs ys))) up down
        ∙ ap (λ l. shifted l (filter is_earlier (shifts (suc j) xs ys))) (set_at front x (raised xs ys) y j h)
        ∙ rest

-- the shifts of a stage lead to its aims
pub stage_shifted : (xs ys : List ℕ) → length xs ≡ length ys
    → shifted xs (reverse (filter is_later (shifts 0 xs ys)) ++ filter is_earlier (shifts 0 xs ys)) ≡ ys
stage_shifted xs ys long =
    shifted-append xs (reverse (filter is_later (shifts 0 xs ys))) (filter is_earlier (shifts 0 xs ys))
    ∙ ap (λ l. shifted l (filter is_earlier (shifts 0 xs ys))) (raise 0 [] xs ys refl)
    ∙ lower 0 [] xs ys refl long

-- ---- aims

aim_first : (stages t e : ℕ) → 0 < stages → aim stages 0 t e ≡ t
aim_first stages t e some =
    let all : stages - 0 ≡ stages = omega arith in
    let is : t * (stages - 0) + e * 0 ≡ t * stages = ap (λ n. t * n + e * 0) all ∙ omega arith in
    ap (λ n. n / stages) is ∙ mul-div_cancel t {n = stages} some

aim_last : (stages t e : ℕ) → 0 < stages → aim stages stages t e ≡ e
aim_last stages t e some =
    let none : stages - stages ≡ 0 = omega arith in
    let is : t * (stages - stages) + e * stages ≡ e * stages = ap (λ n. t * n + e * stages) none ∙ omega arith in
    ap (λ n. n / stages) is ∙ mul-div_cancel e {n = stages} some

first_of_pairs : (f : ℕ → ℕ → ℕ) → ((a b : ℕ) → f a b ≡ a) → (xs ys : List ℕ) → length xs ≡ length ys → paired f xs ys ≡ xs
first_of_pairs f is [] ys long = refl
first_of_pairs f is (x ∷ xs) [] long = absurd (omega (arith, long))
first_of_pairs f is (x ∷ xs) (y ∷ ys) long = ap₂ ◌∷◌ (is x y) (first_of_pairs f is xs ys (omega (arith, long)))

second_of_pairs : (f : ℕ → ℕ → ℕ) → ((a b : ℕ) → f a b ≡ b) → (xs ys : List ℕ) → length xs ≡ length ys → paired f xs ys ≡ ys
second_of_pairs f is [] [] long = refl
second_of_pairs f is [] (y ∷ ys) long = absurd (omega (arith, long))
second_of_pairs f is (x ∷ xs) [] long = absurd (omega (arith, long))
second_of_pairs f is (x ∷ xs) (y ∷ ys) long = ap₂ ◌∷◌ (is x y) (second_of_pairs f is xs ys (omega (arith, long)))

pub aims_first : (stages : ℕ) (xs ys : List ℕ) → 0 < stages → length xs ≡ length ys → aims stages 0 xs ys ≡ xs
aims_first stages xs ys some long = first_of_pairs (aim stages 0) (λ a b. aim_first stages a b some) xs ys long

pub aims_last : (stages : ℕ) (xs ys : List ℕ) → 0 < stages → length xs ≡ length ys → aims stages stages xs ys ≡ ys
aims_last stages xs ys some long = second_of_pairs (aim stages stages) (λ a b. aim_last stages a b some) xs ys long

pub length-paired : (f : ℕ → ℕ → ℕ) (xs ys : List ℕ) → length xs ≡ length ys → length (paired f xs ys) ≡ length xs
length-paired f [] ys long = refl
length-paired f (x ∷ xs) [] long = absurd (omega (arith, long))
length-paired f (x ∷ xs) (y ∷ ys) long = ap suc (length-paired f xs ys (omega (arith, long)))

-- ---- no stages

at_least : (a : ℕ) (gaps : List ℕ) → a ≤ fold (λ n m. max n m) a gaps
at_least a [] = omega arith
at_least a (x ∷ gaps) = let rest = at_least (max a x) gaps in omega (arith, rest)

near : (a : ℕ) (xs ys : List ℕ) → length xs ≡ length ys → fold (λ n m. max n m) a (paired gap xs ys) ≡ 0 → xs ≡ ys
near a [] [] long none = refl
near a [] (y ∷ ys) long none = absurd (omega (arith, long))
near a (x ∷ xs) [] long none = absurd (omega (arith, long))
near a (x ∷ xs) (y ∷ ys) long none =
    let most : max a (gap x y) ≤ fold (λ n m. max n m) (max a (gap x y)) (paired gap xs ys) = at_least (max a (gap x y)) (paired gap xs ys) in
    let same : x ≡ y = omega (arith, most, none) in
    ap₂ ◌∷◌ same (near (max a (gap x y)) xs ys (omega (arith, long)) none)

-- where there is no stage nothing has to move
pub no_stages : (pace : ℕ) (xs ys : List ℕ) → length xs ≡ length ys → stage_count pace xs ys ≡ 0 → xs ≡ ys
no_stages pace xs ys long none =
    let far : ℕ = farthest xs ys in
    let whole : far / pace ≡ 0 = omega (arith, none) in
    let rest : far % pace ≡ 0 = omega (arith, none) in
    let parts : pace * (far / pace) + far % pace ≡ far = div-add-mod far pace in
    let nothing : far ≡ 0 = sym parts ∙ ap₂ (λ a b. pace * a + b) whole rest ∙ omega arith in
    near 0 xs ys long nothing
