-- The ways of all groups, pushed from the last group to the first.
use Rattle.std.proofs.Common.{◌≡◌, ℕ, ◌+◌, ◌-◌, ◌*◌, ◌^◌, ◌<◌, ◌≤◌, List, [], ◌∷◌, ◌++◌, length, drop, get_or, refl, sym, ap, ◌∙◌, subst, arith, append_assoc, length-append, length-drop}
use Rattle.std.specs.Prelude.{All, IfOk, Result, Ok, Err, reverse, slice_index}
use Rattle.std.proofs.lemmas.Grind.{get_or_default_zero}
use Rattle.std.proofs.lemmas.List.{drop_more, get_or_append_left, get_or_push, reverse-append}
use Rattle.hand_borders.specs.Borders.{IsLeastBorders, least_borders}
use Rattle.hand_borders.specs.Ways.{AreNearest, AreWays, IsLowest, follow}
use Rattle.hand_borders.proofs.FirstLeast.{are_least, are_one}
use Rattle.hand_borders.proofs.Steps.{AreBest, best_last, best_more, best_of_all, nearest_low}

-- what is right is right by another name
pub if_ok : {X E : Type 0} (P Q : X → Type 0) (r : Result X E) → ((x : X) → P x → Q x) → IfOk r P → IfOk r Q
if_ok P Q (Ok x) to is = to x is
if_ok P Q (Err e) to is = tt

-- ---- the way back

pub follow_more : (ways rest : List (List ℕ)) (to borders longer whole : List ℕ) (b : ℕ) → ways ≡ rest ++ to ∷ []
    → longer ≡ borders ++ slice_index to b ∷ [] → borders ++ follow (reverse ways) b ≡ whole
    → longer ++ follow (reverse rest) (slice_index to b) ≡ whole
follow_more ways rest to borders longer whole b e f h =
    ap (λ xs. xs ++ follow (reverse rest) (slice_index to b)) f
    ∙ append_assoc borders (slice_index to b ∷ []) (follow (reverse rest) (slice_index to b))
    ∙ sym (ap (λ xs. borders ++ follow xs b) (ap reverse e ∙ reverse-append rest (to ∷ []))) ∙ h

pub all_but_last : {X : Type 0} (P : X → Type 0) (xs ys : List X) (x : X) → ys ≡ xs ++ x ∷ [] → All P ys → All P xs × P x
all_but_last P xs ys x e h =
    let long : length (xs ++ x ∷ []) ≡ length xs + 1 = length-append xs (x ∷ []) in
    let all = subst (All P) e h in (
      (λ k d lt. subst P (get_or_append_left xs (x ∷ []) d k lt) (all k d (omega (arith, lt, long)))),
      subst P (get_or_push xs x x (length xs) refl) (all (length xs) x (omega (arith, long))),
    )

-- ---- groups from one on

last_group : (groups : List (List ℕ)) (d : List ℕ) → 1 ≤ length groups
    → drop (length groups - 1) groups ≡ get_or groups (length groups - 1) d ∷ []
last_group groups d some =
    let more = drop_more groups (length groups - 1) d (omega (arith, some)) in
    more ∙ ap (λ xs. get_or groups (length groups - 1) d ∷ xs)
    (none (drop (length groups - 1 + 1) groups) (let long = length-drop (length groups - 1 + 1) groups in omega (arith, long, some)))
  where
    none : (xs : List (List ℕ)) → length xs ≡ 0 → xs ≡ []
    none [] e = refl
    none (x ∷ xs) e = absurd (omega (arith, e))

pub best_begin : (groups : List (List ℕ)) (group zeros sums : List ℕ) (d : List ℕ) → 1 ≤ length groups
    → group ≡ get_or groups (length groups - 1) d → ((k : ℕ) → k < 129 → slice_index zeros k ≡ 0)
    → ((k : ℕ) → k < 129 → slice_index sums k ≡ slice_index group k + slice_index zeros k)
    → AreBest (drop (length groups - 1) groups) sums []
best_begin groups group zeros sums d some is none sum =
    subst (λ gs. AreBest gs sums []) (ap (λ g. g ∷ []) is ∙ sym (last_group groups d some))
    (λ b lt. let own = best_last group b lt in let s = sum b lt in let z = none b lt in
    let same : slice_index group b ≡ slice_index sums b = omega (arith, s, z) in
    record {
      are = own.are;
      value = own.value ∙ same;
      least = λ others are. (let l = own.least others are in omega (arith, l, same));
      first = λ others are e. own.first others are (e ∙ sym same);
    })

pub best_pushed : (groups : List (List ℕ)) (done : ℕ) (group after costs borders sums : List ℕ) (rows list : List (List ℕ)) (d : List ℕ)
    → 1 ≤ done → done < length groups → group ≡ get_or groups (length groups - 1 - done) d
    → AreBest (drop (length groups - done) groups) after (reverse list) → AreNearest after costs borders
    → ((k : ℕ) → k < 129 → slice_index sums k ≡ slice_index group k + slice_index costs k)
    → rows ≡ list ++ borders ∷ [] → AreBest (drop (length groups - (done + 1)) groups) sums (reverse rows)
best_pushed groups done group after costs borders sums rows list d some within is best near sum pushed =
    let first : drop (length groups - 1 - done) groups
    ≡ get_or groups (length groups - 1 - done) d ∷ drop (length groups - 1 - done + 1) groups =
    drop_more groups (length groups - 1 - done) d (omega (arith, within)) in
    let at : length groups - 1 - done + 1 ≡ length groups - done = omega (arith, within) in
    let from : length groups - (done + 1) ≡ length groups - 1 - done = omega arith in
    let second : drop (length groups - done) groups ≡ get_or groups (length groups - done) d ∷ drop (length groups - done + 1) groups =
    drop_more groups (length groups - done) d (omega (arith, within, some)) in
    let whole : drop (length groups - (done + 1)) groups
    ≡ group ∷ get_or groups (length groups - done) d ∷ drop (length groups - done + 1) groups =
    ap (λ n. drop n groups) from ∙ first ∙ ap (λ g. g ∷ drop (length groups - 1 - done + 1) groups) (sym is)
    ∙ ap (λ n. group ∷ drop n groups) at ∙ ap (λ gs. group ∷ gs) second in
    let old : AreBest (get_or groups (length groups - done) d ∷ drop (length groups - done + 1) groups) after (reverse list) =
    subst (λ gs. AreBest gs after (reverse list)) second best in
    let new = best_more group (get_or groups (length groups - done) d) (drop (length groups - done + 1) groups) after (reverse list) costs
    borders sums old near sum in
    let ways : reverse rows ≡ borders ∷ reverse list = ap reverse pushed ∙ reverse-append list (borders ∷ []) in
    subst (λ gs. AreBest gs sums (reverse rows)) (sym whole)
    (subst (AreBest (group ∷ get_or groups (length groups - done) d ∷ drop (length groups - done + 1) groups) sums) (sym ways) new)

pub borders_near : (after costs borders : List ℕ) → length borders ≡ 129 → AreNearest after costs borders → AreWays borders
borders_near after costs borders long near = (long, λ k d lt. below k d (omega (arith, lt, long)))
  where
    below : (k d : ℕ) → k < 129 → get_or borders k d < 129
    below k d lt = let n = (near k lt).within in let e = get_or_default_zero borders k d (omega (arith, lt, long)) in omega (arith, n, e)

-- ---- no cost is too great

pub near_few : (after costs borders : List ℕ) (done : ℕ) → length after ≡ 129 → length costs ≡ 129 → done ≤ 65536
    → All (λ c. c ≤ done * 4294967295) after → AreNearest after costs borders → All (λ c. c ≤ 2 ^ 60) costs
near_few after costs borders done long wide low few near k d lt =
    let low_here = nearest_low after k (slice_index costs k) (slice_index borders k) (omega (arith, lt, wide))
    (near k (omega (arith, lt, wide))) in
    let here : slice_index after k ≤ done * 4294967295 = few k 0 (omega (arith, lt, long, wide)) in
    let e = get_or_default_zero costs k d lt in
    omega (arith, low_here, here, e, low)

pub sums_few : (after costs borders sums : List ℕ) (done : ℕ) → length after ≡ 129 → length sums ≡ 129
    → All (λ c. c ≤ done * 4294967295) after → AreNearest after costs borders
    → ((k : ℕ) → k < 129 → slice_index sums k ≤ slice_index costs k + 4294967295) → All (λ c. c ≤ (done + 1) * 4294967295) sums
sums_few after costs borders sums done long wide few near sum k d lt =
    let low = nearest_low after k (slice_index costs k) (slice_index borders k) (omega (arith, lt, wide))
    (near k (omega (arith, lt, wide))) in
    let here : slice_index after k ≤ done * 4294967295 = few k 0 (omega (arith, lt, long, wide)) in
    let more = sum k (omega (arith, lt, wide)) in
    let e = get_or_default_zero sums k d lt in
    omega (arith, low, here, more, e)

pub begin_few : (zeros sums : List ℕ) → length sums ≡ 129 → ((k : ℕ) → k < 129 → slice_index zeros k ≡ 0)
    → ((k : ℕ) → k < 129 → slice_index sums k ≤ slice_index zeros k + 4294967295) → All (λ c. c ≤ 4294967295) sums
begin_few zeros sums wide none sum k d lt = let z = none k (omega (arith, lt, wide)) in let s = sum k (omega (arith, lt, wide)) in
    let e = get_or_default_zero sums k d lt in omega (arith, z, s, e)

-- ---- all groups

pub none_least : (groups : List (List ℕ)) → length groups ≡ 0 → [] ≡ least_borders groups
unfolding least_borders
none_least [] e = refl
none_least (g ∷ groups) e = absurd (omega (arith, e))

pub all_least : (groups : List (List ℕ)) (done b : ℕ) (after borders : List ℕ) (list : List (List ℕ)) → 1 ≤ length groups
    → length groups ≤ done → AreBest (drop (length groups - done) groups) after (reverse list) → IsLowest after b
    → borders ≡ b ∷ follow (reverse list) b → borders ≡ least_borders groups
all_least groups done b after borders list some past best low is =
    let zero_left : length groups - done ≡ 0 = omega (arith, past) in
    let whole : drop (length groups - done) groups ≡ groups = ap (λ n. drop n groups) zero_left in
    is ∙ are_one groups (b ∷ follow (reverse list) b) (least_borders groups)
    (of_some groups some (subst (λ gs. AreBest gs after (reverse list)) whole best)) (are_least groups)
  where
    of_some : (gs : List (List ℕ)) → 1 ≤ length gs → AreBest gs after (reverse list) → IsLeastBorders gs (b ∷ follow (reverse list) b)
    of_some [] none h = absurd (omega (arith, none))
    of_some (g ∷ gs) any h = best_of_all g gs after (reverse list) b h low
