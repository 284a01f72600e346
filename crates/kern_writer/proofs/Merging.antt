-- The columns of a bar, place by place.
use Rattle.std.proofs.Common.{◌≡◌, ℕ, zero, suc, ◌≤◌, ◌<◌, min, max, true, cond, List, [], ◌∷◌, ◌++◌, Option, Some, None, length, get_or, map, refl, sym, ap, ◌∙◌, subst, ◌≢◌, ◌⊎◌, inl, inr, arith}
use Rattle.std.specs.Prelude.{◌==◌, All, Contains, IsSome, fold, is_some, sum_by, ⊤}
use Rattle.std.specs.List.{flat_map}
use Rattle.std.proofs.lemmas.Bool.{cases_eq, cases_lt, false≢true}
use Rattle.std.proofs.lemmas.Bool.Decides.{nat_tests}
use Rattle.std.proofs.lemmas.List.Elements.{All-cons, All-head, All-nil, All-tail}
use Rattle.std.proofs.lemmas.List.Sums.{sum_by-cons}
use Rattle.derivation.specs.declared.score.ScoreBar.{ScoreBar}
use Rattle.kern_writer.specs.Changes.{changes}
use Rattle.kern_writer.specs.Columns.{AreDataRecords, RiseFrom, earlier_place, first_place, next_place, tokens_after}
use Rattle.kern_writer.specs.Records.{AreBarRecords, ArePlaces, Record, alike, barline_record, grace_column, grace_records, grace_records_at, grace_tokens, main_column, main_record, records_at, token_at}
use Rattle.kern_writer.specs.Tokens.{Token}
use Rattle.kern_writer.proofs.Rising.{after_at, after_le, after_lt, after_rise, none_before, rise_weaker}
use Rattle.kern_writer.proofs.RisingPlaces.{contains_cases, contains_here, contains_none, contains_there, rising_cons, rising_one}

-- ---- the next place is before no token, and is that of one

-- a place is not before another, where none is after all places
abbrev NotAfter : Option ℕ → Option ℕ → Type 0
NotAfter None o = o ≡ None
NotAfter (Some p) None = ⊤
NotAfter (Some p) (Some q) = p ≤ q

not_after_same : (o : Option ℕ) → NotAfter o o
not_after_same None = refl
not_after_same (Some p) = omega arith

not_after_left : (a b : Option ℕ) → NotAfter (earlier_place a b) a
not_after_left None None = refl
not_after_left None (Some q) = tt
not_after_left (Some p) None = omega arith
not_after_left (Some p) (Some q) = omega arith

not_after_right : (a b : Option ℕ) → NotAfter (earlier_place a b) b
not_after_right None b = not_after_same b
not_after_right (Some p) None = tt
not_after_right (Some p) (Some q) = omega arith

not_after_trans : (a b c : Option ℕ) → NotAfter a b → NotAfter b c → NotAfter a c
not_after_trans None b c h k = subst (λ o. NotAfter o c) h k
not_after_trans (Some p) None c h k = subst (NotAfter (Some p)) (sym k) tt
not_after_trans (Some p) (Some q) None h k = tt
not_after_trans (Some p) (Some q) (Some r) h k = omega (arith, h, k)

fold_first : (a : Option ℕ) (columns : List (List Token)) → NotAfter (fold earlier_place a (map first_place columns)) a
fold_first a [] = not_after_same a
fold_first a (ts ∷ columns) =
    let next = earlier_place a (first_place ts) in
    not_after_trans (fold earlier_place next (map first_place columns)) next a (fold_first next columns) (not_after_left a (first_place ts))

fold_each : (a : Option ℕ) (columns : List (List Token)) → All (λ ts. NotAfter (fold earlier_place a (map first_place columns)) (first_place ts)) columns
fold_each a [] = All-nil (λ ts. NotAfter a (first_place ts))
fold_each a (ts ∷ columns) =
    let next = earlier_place a (first_place ts) in
    let all = fold earlier_place next (map first_place columns) in
    All-cons (λ ts. NotAfter all (first_place ts)) ts columns (not_after_trans all next (first_place ts) (fold_first next columns) (not_after_right a (first_place ts))) (fold_each next columns)

one_of : (a b : Option ℕ) → (earlier_place a b ≡ a) ⊎ (earlier_place a b ≡ b)
one_of None b = inr refl
one_of (Some p) None = inl refl
one_of (Some p) (Some q) = go (cases_lt p q)
  where
    go : (p < q) ⊎ (q ≤ p) → (Some (min p q) ≡ Some p) ⊎ (Some (min p q) ≡ Some q)
    go (inl lt) = let e : min p q ≡ p = omega arith in inl (ap Some e)
    go (inr le) = let e : min p q ≡ q = omega arith in inr (ap Some e)

-- some column begins at this place
abbrev Begins : List (List Token) → Option ℕ → Type 0
Begins columns o = (ts : List Token) × Contains columns ts × (first_place ts ≡ o)

fold_hits : (a : Option ℕ) (columns : List (List Token)) → (fold earlier_place a (map first_place columns) ≡ a) ⊎ Begins columns (fold earlier_place a (map first_place columns))
fold_hits a [] = inl refl
fold_hits a (ts ∷ columns) = go (fold_hits (earlier_place a (first_place ts)) columns) (one_of a (first_place ts))
  where
    all : Option ℕ
    all = fold earlier_place (earlier_place a (first_place ts)) (map first_place columns)

    go : (all ≡ earlier_place a (first_place ts)) ⊎ Begins columns all → (earlier_place a (first_place ts) ≡ a) ⊎ (earlier_place a (first_place ts) ≡ first_place ts) → (all ≡ a) ⊎ Begins (ts ∷ columns) all
    go (inr h) other = inr (h.0, contains_there ts h.0 columns h.1, h.2)
    go (inl e) (inl f) = inl (e ∙ f)
    go (inl e) (inr f) = inr (ts, contains_here ts columns, sym (e ∙ f))

-- ---- after the next place

-- a column whose next token is at a place or later
from_first : (p : ℕ) (ts : List Token) → NotAfter (Some p) (first_place ts) → RiseFrom 0 ts → RiseFrom p ts
from_first p [] le h = tt
from_first p (t ∷ ts) le h = (le, h.1)

all_mapped : {X : Type 0} (P Q : X → Type 0) (xs : List X) → All P xs → All Q xs → (R : X → Type 0) → ((x : X) → P x → Q x → R x) → All R xs
all_mapped P Q xs p q R f k d lt = f (get_or xs k d) (p k d lt) (q k d lt)

pub next_first : (columns : List (List Token)) (p : ℕ) → next_place columns ≡ Some p → All (RiseFrom 0) columns → All (RiseFrom p) columns
next_first columns p is rise =
    let each = subst (λ o. All (λ ts. NotAfter o (first_place ts)) columns) is (fold_each None columns) in
    all_mapped (λ ts. NotAfter (Some p) (first_place ts)) (RiseFrom 0) columns each rise (RiseFrom p) (from_first p)

abbrev pub HasToken : List (List Token) → ℕ → Type 0
HasToken columns place = (ts : List Token) × Contains columns ts × IsSome (token_at place ts)

first_has : (p : ℕ) (ts : List Token) → first_place ts ≡ Some p → IsSome (token_at p ts)
first_has p [] e = cc
first_has p (t ∷ ts) e =
    let same : t.place ≡ p = cc in
    let test : (t.place == p) ≡ true = grind (arith, nat_tests) in
    ap (λ b. is_some (cond b (Some t) (token_at p ts))) test

pub next_has : (columns : List (List Token)) (p : ℕ) → next_place columns ≡ Some p → HasToken columns p
next_has columns p is = go (fold_hits None columns)
  where
    go : (next_place columns ≡ None) ⊎ Begins columns (next_place columns) → HasToken columns p
    go (inl e) = let wrong : Some p ≡ None = sym is ∙ e in cc
    go (inr h) = (h.0, h.1, first_has p h.0 (h.2 ∙ is))

all_member : {X : Type 0} (P : X → Type 0) (xs : List X) (x : X) → All P xs → Contains xs x → P x
all_member P xs x all (k, lt, e) = subst P e (all k x lt)

empty_at : (o : Option ℕ) (ts : List Token) (q : ℕ) → o ≡ None → NotAfter o (first_place ts) → token_at q ts ≡ None
empty_at o [] q e h = refl
empty_at o (t ∷ ts) q e h = let wrong : Some t.place ≡ None = subst (λ o. NotAfter o (Some t.place)) e h in cc

pub next_none : (columns : List (List Token)) (q : ℕ) → next_place columns ≡ None → HasToken columns q → ⊥
next_none columns q is (ts, c, some) =
    let none = empty_at (next_place columns) ts q is (all_member (λ ts. NotAfter (next_place columns) (first_place ts)) columns ts (fold_each None columns) c) in
    false≢true (sym (ap is_some none) ∙ some)

-- ---- what is left after a place

pub all_mapped_to : {X Y : Type 0} (P : X → Type 0) (Q : Y → Type 0) (f : X → Y) (xs : List X) → All P xs → ((x : X) → P x → Q (f x)) → All Q (map f xs)
all_mapped_to P Q f [] all each = All-nil Q
all_mapped_to P Q f (x ∷ xs) all each = All-cons Q (f x) (map f xs) (each x (All-head P x xs all)) (all_mapped_to P Q f xs (All-tail P x xs all) each)

pub after_all : (p : ℕ) (columns : List (List Token)) → All (RiseFrom p) columns → All (RiseFrom (suc p)) (map (tokens_after p) columns)
after_all p columns rise = all_mapped_to (RiseFrom p) (RiseFrom (suc p)) (tokens_after p) columns rise (after_rise p)

pub after_zero : (p : ℕ) (columns : List (List Token)) → All (RiseFrom p) columns → All (RiseFrom 0) (map (tokens_after p) columns)
after_zero p columns rise = all_mapped_to (RiseFrom p) (RiseFrom 0) (tokens_after p) columns rise (λ ts h. rise_weaker 0 (suc p) (tokens_after p ts) (omega arith) (after_rise p ts h))

pub contains_map : {X Y : Type 0} (f : X → Y) (xs : List X) (x : X) → Contains xs x → Contains (map f xs) (f x)
contains_map f [] x c = absurd (contains_none x c)
contains_map f (y ∷ ys) x c = go (contains_cases y x ys c) (contains_map f ys x)
  where
    go : (y ≡ x) ⊎ Contains ys x → (Contains ys x → Contains (map f ys) (f x)) → Contains (map f (y ∷ ys)) (f x)
    go (inl e) next = subst (λ z. Contains (f y ∷ map f ys) (f z)) e (contains_here (f y) (map f ys))
    go (inr d) next = contains_there (f y) (f x) (map f ys) (next d)

map_contains : {X Y : Type 0} (f : X → Y) (xs : List X) (y : Y) → Contains (map f xs) y → (x : X) × Contains xs x × (f x ≡ y)
map_contains f [] y c = absurd (contains_none y c)
map_contains {X} {Y} f (x ∷ xs) y c = go (contains_cases (f x) y (map f xs) c) (map_contains f xs y)
  where
    go : (f x ≡ y) ⊎ Contains (map f xs) y → (Contains (map f xs) y → (z : X) × Contains xs z × (f z ≡ y)) → (z : X) × Contains (x ∷ xs) z × (f z ≡ y)
    go (inl e) next = (x, contains_here x xs, e)
    go (inr d) next = let h = next d in (h.0, contains_there x h.0 xs h.1, h.2)

-- the later tokens are there before and after
pub later_has : (p q : ℕ) (columns : List (List Token)) → p < q → HasToken columns q → HasToken (map (tokens_after p) columns) q
later_has p q columns lt (ts, c, some) = (tokens_after p ts, contains_map (tokens_after p) columns ts c, ap is_some (after_at p q ts lt) ∙ some)

-- no token is before the next place
has_from : (p q : ℕ) (columns : List (List Token)) → All (RiseFrom p) columns → HasToken columns q → p ≤ q
has_from p q columns rise (ts, c, some) = go (cases_lt q p)
  where
    go : (q < p) ⊎ (p ≤ q) → p ≤ q
    go (inr le) = le
    go (inl lt) = absurd (false≢true (sym (ap is_some (none_before q p ts lt (all_member (RiseFrom p) columns ts rise c))) ∙ some))

pub earlier_has : (p q : ℕ) (columns : List (List Token)) → All (RiseFrom p) columns → HasToken (map (tokens_after p) columns) q → (p < q) × HasToken columns q
earlier_has p q columns rise (us, c, some) =
    let lt : p < q = has_from (suc p) q (map (tokens_after p) columns) (after_all p columns rise) (us, c, some) in
    let h = map_contains (tokens_after p) columns us c in
    (lt, (h.0, h.1, sym (ap is_some (after_at p q h.0 lt)) ∙ ap (λ ts. is_some (token_at q ts)) h.2 ∙ some))

-- ---- the records at a later place are the same

map_same : {X : Type 0} (f : List Token → X) (p q : ℕ) (columns : List (List Token)) (g : Option Token → X) → ((ts : List Token) → f ts ≡ g (token_at q ts)) → p < q → map f (map (tokens_after p) columns) ≡ map f columns
map_same f p q [] g is lt = refl
map_same f p q (ts ∷ columns) g is lt = λ i. (is (tokens_after p ts) ∙ ap g (after_at p q ts lt) ∙ sym (is ts)) i ∷ map_same f p q columns g is lt i

most_same : (p q a : ℕ) (columns : List (List Token)) → p < q
    → fold (λ n ts. max n (length (grace_tokens (token_at q ts)))) a (map (tokens_after p) columns) ≡ fold (λ n ts. max n (length (grace_tokens (token_at q ts)))) a columns
most_same p q a [] lt = refl
most_same p q a (ts ∷ columns) lt =
    ap (λ o. fold (λ n ts. max n (length (grace_tokens (token_at q ts)))) (max a (length (grace_tokens o))) (map (tokens_after p) columns)) (after_at p q ts lt)
    ∙ most_same p q (max a (length (grace_tokens (token_at q ts)))) columns lt

graces_same : (p q n : ℕ) (columns : List (List Token)) → p < q → grace_records q (map (tokens_after p) columns) n ≡ grace_records q columns n
graces_same p q zero columns lt = refl
graces_same p q (suc n) columns lt =
    λ i. map_same (λ ts. grace_column (suc n) (grace_tokens (token_at q ts))) p q columns (λ o. grace_column (suc n) (grace_tokens o)) (λ ts. refl) lt i
    ∷ graces_same p q n columns lt i

records_same : (p q : ℕ) (columns : List (List Token)) → p < q → records_at (map (tokens_after p) columns) q ≡ records_at columns q
records_same p q columns lt =
    let most = most_same p q 0 columns lt in
    let main = map_same (λ ts. main_column (token_at q ts)) p q columns main_column (λ ts. refl) lt in
    ap (λ n. grace_records q (map (tokens_after p) columns) n ++ main_record q (map (tokens_after p) columns) ∷ []) most
    ∙ ap (λ t. t ++ main_record q (map (tokens_after p) columns) ∷ []) (graces_same p q (grace_records_at q columns) columns lt)
    ∙ ap (λ r. grace_records q columns (grace_records_at q columns) ++ r ∷ []) main

all_same : {X Y : Type 0} (f g : X → List Y) (xs : List X) → ((x : X) → Contains xs x → f x ≡ g x) → flat_map f xs ≡ flat_map g xs
all_same f g [] same = refl
all_same f g (x ∷ xs) same = λ i. same x (contains_here x xs) i ++ all_same f g xs (λ y c. same y (contains_there x y xs c)) i

-- ---- all records

pub data_next : (columns : List (List Token)) (p : ℕ) (rest : List Record) → next_place columns ≡ Some p → All (RiseFrom 0) columns
    → AreDataRecords (map (tokens_after p) columns) rest → AreDataRecords columns (records_at columns p ++ rest)
data_next columns p rest is rise (places, are, text) = (p ∷ places, record { rise = rising_cons p places above are.rise; exactly = λ q. (there q, back q) }, ap (λ t. records_at columns p ++ t) (text ∙ same))
  where
    from : All (RiseFrom p) columns
    from = next_first columns p is rise

    above : (q : ℕ) → Contains places q → p < q
    above q c = (earlier_has p q columns from ((are.exactly q).0 c)).0

    there : (q : ℕ) → Contains (p ∷ places) q → HasToken columns q
    there q c = go (contains_cases p q places c)
      where
        go : (p ≡ q) ⊎ Contains places q → HasToken columns q
        go (inl e) = subst (HasToken columns) e (next_has columns p is)
        go (inr d) = (earlier_has p q columns from ((are.exactly q).0 d)).1

    back : (q : ℕ) → HasToken columns q → Contains (p ∷ places) q
    back q h = go (cases_eq q p)
      where
        go : (q ≡ p) ⊎ (q ≢ p) → Contains (p ∷ places) q
        go (inl e) = subst (Contains (p ∷ places)) (sym e) (contains_here p places)
        go (inr ne) =
            let lt : p < q = omega (arith, ne, has_from p q columns from h) in
            contains_there p q places ((are.exactly q).1 (later_has p q columns lt h))

    same : flat_map (records_at (map (tokens_after p) columns)) places ≡ flat_map (records_at columns) places
    same = all_same (records_at (map (tokens_after p) columns)) (records_at columns) places (λ q c. records_same p q columns (above q c))

pub data_none : (columns : List (List Token)) → next_place columns ≡ None → AreDataRecords columns []
data_none columns is = ([], record { rise = λ k lt. absurd (omega arith); exactly = λ q. (λ c. absurd (contains_none q c), λ h. absurd (next_none columns q is h)) }, refl)

-- ---- fewer tokens are left after the next place

abbrev pub tokens_left : List (List Token) → ℕ
tokens_left columns = sum_by length columns

left_le : (p : ℕ) (columns : List (List Token)) → tokens_left (map (tokens_after p) columns) ≤ tokens_left columns
left_le p [] = omega arith
left_le p (ts ∷ columns) =
    let one = sum_by-cons length (tokens_after p ts) (map (tokens_after p) columns) in
    let two = sum_by-cons length ts columns in
    omega (arith, one, two, after_le p ts, left_le p columns)

left_lt : (p : ℕ) (columns : List (List Token)) (ts : List Token) → Contains columns ts → RiseFrom p ts → IsSome (token_at p ts) → tokens_left (map (tokens_after p) columns) < tokens_left columns
left_lt p [] ts c rise some = absurd (contains_none ts c)
left_lt p (us ∷ columns) ts c rise some = go (contains_cases us ts columns c) (λ d. left_lt p columns ts d rise some)
  where
    go : (us ≡ ts) ⊎ Contains columns ts → (Contains columns ts → tokens_left (map (tokens_after p) columns) < tokens_left columns) → tokens_left (map (tokens_after p) (us ∷ columns)) < tokens_left (us ∷ columns)
    go (inl e) next =
        let one = sum_by-cons length (tokens_after p us) (map (tokens_after p) columns) in
        let two = sum_by-cons length us columns in
        let less : length (tokens_after p us) < length us = subst (λ t. length (tokens_after p t) < length t) (sym e) (after_lt p ts rise some) in
        omega (arith, one, two, less, left_le p columns)
    go (inr d) next =
        let one = sum_by-cons length (tokens_after p us) (map (tokens_after p) columns) in
        let two = sum_by-cons length us columns in
        omega (arith, one, two, after_le p us, next d)

pub next_fewer : (columns : List (List Token)) (p : ℕ) → next_place columns ≡ Some p → All (RiseFrom 0) columns → tokens_left (map (tokens_after p) columns) < tokens_left columns
next_fewer columns p is rise =
    let h = next_has columns p is in
    left_lt p columns h.0 h.1 (all_member (RiseFrom p) columns h.0 (next_first columns p is rise) h.1) h.2

-- ---- there are records, at only one list of places

data_within : (n : ℕ) (columns : List (List Token)) → tokens_left columns ≤ n → All (RiseFrom 0) columns → (records : List Record) × AreDataRecords columns records
data_within zero columns few rise = go (next_place columns) refl
  where
    go : (o : Option ℕ) → next_place columns ≡ o → (records : List Record) × AreDataRecords columns records
    go None is = ([], data_none columns is)
    go (Some p) is = let less = next_fewer columns p is rise in absurd (omega (arith, less, few))
data_within (suc n) columns few rise = go (next_place columns) refl (data_within n)
  where
    go : (o : Option ℕ) → next_place columns ≡ o → ((others : List (List Token)) → tokens_left others ≤ n → All (RiseFrom 0) others → (records : List Record) × AreDataRecords others records)
        → (records : List Record) × AreDataRecords columns records
    go None is next = ([], data_none columns is)
    go (Some p) is next =
        let less = next_fewer columns p is rise in
        let rest = next (map (tokens_after p) columns) (omega (arith, less, few)) (after_zero p columns (next_first columns p is rise)) in
        (records_at columns p ++ rest.0, data_next columns p rest.0 is rise rest.1)

pub data_exist : (columns : List (List Token)) → All (RiseFrom 0) columns → (records : List Record) × AreDataRecords columns records
data_exist columns rise = data_within (tokens_left columns) columns (omega arith) rise

pub places_one : (columns : List (List Token)) (places others : List ℕ) → ArePlaces columns places → ArePlaces columns others → places ≡ others
places_one columns places others are too = rising_one places others are.rise too.rise (λ q. (λ c. (too.exactly q).1 ((are.exactly q).0 c), λ c. (are.exactly q).1 ((too.exactly q).0 c)))

-- ---- the records of a bar with its data

abbrev pub bar_records : Option ScoreBar → ScoreBar → ℕ → List (List Token) → List Record → List Record
bar_records before bar n columns rows = map (alike (length columns)) (changes before bar) ++ barline_record (length columns) n ∷ rows

pub are_records : (before : Option ScoreBar) (bar : ScoreBar) (n : ℕ) (columns : List (List Token)) (rows : List Record) → AreDataRecords columns rows → AreBarRecords before bar n columns (bar_records before bar n columns rows)
are_records before bar n columns rows (places, are, text) =
    (places, are, ap (λ t. map (alike (length columns)) (changes before bar) ++ barline_record (length columns) n ∷ t) text)
