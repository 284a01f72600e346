-- Lists that are looked at together, one voice after another.
use Rattle.std.proofs.Common.{◌≡◌, ℕ, zero, suc, ◌+◌, ◌*◌, ◌<◌, ◌≤◌, Bool, true, false, List, [], ◌∷◌, ◌++◌, drop, length, map, set, take, get_or, refl, ap, sym, ◌∙◌, subst, arith}
use Rattle.std.specs.Prelude.{All, Option, if◌then◌else◌}
use Rattle.std.specs.List.{flat_map}
use Rattle.std.proofs.Math.Nat.{mul-le-mul_right}
use Rattle.std.proofs.lemmas.Bool.{false≢true, true≢false}
use Rattle.std.proofs.lemmas.List.{append_assoc, append-nil, drop_more, length-map, length-take, take_all, take_more_set}
use Rattle.std.proofs.lemmas.List.Elements.{All-append, All-drop, All-map, All-nil, All-take}
use Rattle.std.proofs.lemmas.Grind.{flat_map-append}
use Rattle.bar_pool.specs.Costs.{AreAllCosts, AreCosts}
use Rattle.bar_pool.specs.Pool.{RisesWithin}
use Rattle.bar_pool.specs.declared.order.AskedCell.{AskedCell}
use Rattle.least_cost.specs.declared.costs.BarCosts.{BarCosts}
use Rattle.rhythm_base.specs.Counter.{risen}
use Rattle.rhythm_base.specs.Grammar.{Grammar}
use Rattle.rhythm_base.proofs.OrderedLists.{all_cons, all_head, all_tail}
use Rattle.barline_follow.specs.declared.next_bar.NextBar.{NextBar}
use Rattle.barline_follow.specs.Gathered.{Round}
use Rattle.barline_follow.specs.Longer.{Longer, draft_of}
use Rattle.barline_follow.specs.Barring.{Barring, Course, barring_end}
use Rattle.barline_follow.specs.Gathered.{IsGathered}
use Rattle.barline_follow.specs.NextBars.{IsCourseOf, asked_cell, asked_cells}
use Rattle.barline_follow.specs.Rounds.{Draft, Found, IsFound}
use Rattle.rhythm_base.specs.Lists.{Each}
use Rattle.std.specs.List.{zip}
use Rattle.std.proofs.lemmas.List.{length-append}
use Rattle.barline_follow.specs.PassedOver.{IsPassedOver, IsUntried, IsWeighed, cells_in}
use Rattle.barline_follow.proofs.KnownCosts.{one_further}
use Rattle.barline_follow.proofs.NextBarLemmas.{all_rows, asked_long}
use Rattle.barline_follow.proofs.Searching.{each_append, each_push, map_more}

-- ---- a list of which one is changed

pub all_set : {X : Type 0} (P : X → Type 0) (xs : List X) (i : ℕ) (x : X) → All P xs → P x → All P (set xs i x)
all_set P [] i x all one = all
all_set P (y ∷ xs) zero x all one = all_cons P x xs one (all_tail P y xs all)
all_set P (y ∷ xs) (suc i) x all one = all_cons P y (set xs i x) (all_head P y xs all) (all_set P xs i x (all_tail P y xs all) one)

pub all_back : {X : Type 0} (P : X → Type 0) (xs ys : List X) → All P (xs ++ ys) → All P ys
all_back P [] ys all = all
all_back P (x ∷ xs) ys all = all_back P xs ys (all_tail P x (xs ++ ys) all)

pub same_set : {X Y : Type 0} (f : X → Y) (xs : List X) (i : ℕ) (d x : X) → i < length xs → f x ≡ f (get_or xs i d) → map f (set xs i x) ≡ map f xs
same_set f [] i d x lt same = absurd (omega (arith, lt))
same_set f (y ∷ xs) zero d x lt same = ap (λ z. z ∷ map f xs) same
same_set f (y ∷ xs) (suc i) d x lt same = ap (λ l. f y ∷ l) (same_set f xs i d x (omega (arith, lt)) same)

-- ---- counters

pub risen_on : (x a b : ℕ) → risen (risen x a) b ≡ risen x (a + b)
risen_on x a b = omega arith

pub rises_to : (old m most : ℕ) → m ≤ most → RisesWithin old (risen old m) most
rises_to old m most few = (omega arith, omega (arith, few))

pub rises_on : (old mid new m k most : ℕ) → mid ≡ risen old m → RisesWithin mid new k → m + k ≤ most → RisesWithin old new most
rises_on old mid new m k most is rises few = (omega (arith, is, rises.0), omega (arith, is, rises.1, few))

pub room_on : (v voices n k : ℕ) → v < voices → k ≤ n → v * n + k ≤ voices * n
room_on v voices n k lt few =
    let most : (v + 1) * n ≤ voices * n = mul-le-mul_right n (omega (arith, lt)) in
    let next : (v + 1) * n ≡ v * n + n = grind arith in
    omega (arith, most, next, few)

pub risen_voice : (b v n k m : ℕ) → k + m ≡ n → risen (risen (risen b (v * n)) k) m ≡ risen b ((v + 1) * n)
risen_voice b v n k m is =
    let next : (v + 1) * n ≡ v * n + n = grind arith in
    let all : v * n + k + m ≡ (v + 1) * n = omega (arith, next, is) in
    ap (λ (x : ℕ). risen x m) (risen_on b (v * n) k) ∙ risen_on b (v * n + k) m ∙ ap (risen b) all

pub same_long : (xs ys : List Longer) → map draft_of xs ≡ map draft_of ys → length xs ≡ length ys
same_long xs ys same = sym (length-map xs draft_of) ∙ ap length same ∙ length-map ys draft_of

-- so many lists more
pub rows_on : (voices done all rest : ℕ) → all ≡ done + rest → voices * done + voices * rest ≡ voices * all
rows_on voices done all rest is =
    let parts : voices * (done + rest) ≡ voices * done + voices * rest = grind arith in
    sym parts ∙ ap (λ (m : ℕ). voices * m) (sym is)

pub rows_few : (voices done all rest : ℕ) → done + rest ≤ all → voices * done + voices * rest ≤ voices * all
rows_few voices done all rest few =
    let parts : (done + rest) * voices ≡ voices * done + voices * rest = grind arith in
    let same : all * voices ≡ voices * all = grind arith in
    let most : (done + rest) * voices ≤ all * voices = mul-le-mul_right voices few in
    omega (arith, parts, same, most)

-- ---- one list

pub untried_weighed : (next : NextBar) (r : Round) (l : Longer) → IsUntried next l → IsWeighed next r 0 l
untried_weighed next r l h = record {
  longer = h.longer;
  out = λ out. absurd (false≢true (sym h.still ∙ out));
  known = λ still. h.none;
}

pub all_weighed : (next : NextBar) (r : Round) (ls : List Longer) → All (IsUntried next) ls → All (IsWeighed next r 0) ls
all_weighed next r ls all k d lt = untried_weighed next r (get_or ls k d) (all k d lt)

-- passed over
pub left_out : (next : NextBar) (r : Round) (v : ℕ) (l m : Longer) → IsWeighed next r v l → IsPassedOver next r l
    → m ≡ record { course = l.course; offer = l.offer; costs = l.costs; is_out = true } → IsWeighed next r v m
left_out next r v l m h passed is = subst (IsWeighed next r v) (sym is) (record {
  longer = record { course = h.longer.course; tried = h.longer.tried };
  out = λ out. passed;
  known = λ still. absurd (true≢false still);
})

-- one that is passed over learns nothing
pub out_on : (next : NextBar) (r : Round) (v : ℕ) (l : Longer) (rest : List AskedCell) (costs : List BarCosts) → l.is_out ≡ true → IsWeighed next r v l
    → AreAllCosts next.grammar.now (cells_in next v l ++ rest) costs → AreAllCosts next.grammar.now rest costs × IsWeighed next r (v + 1) l
out_on next r v l rest costs out h are = (
  subst (λ (b : Bool). AreAllCosts next.grammar.now ((if b then [] else take 1 (drop v (asked_cells next l.course l.offer))) ++ rest) costs) out are,
  record { longer = h.longer; out = h.out; known = λ still. absurd (false≢true (sym still ∙ out)) },
)

one_of : {X : Type 0} (xs : List X) (v : ℕ) → v < length xs → (x : X) × (take 1 (drop v xs) ≡ x ∷ [])
one_of [] v lt = absurd (omega (arith, lt))
one_of (x ∷ xs) zero lt = (x, refl)
one_of (x ∷ xs) (suc v) lt = one_of xs v (omega (arith, lt))

-- the first of the costs is of its cell
first_is : (g : Grammar) (own : List AskedCell) (k : AskedCell) (rest : List AskedCell) (costs first later : List BarCosts) (c d : BarCosts) → own ≡ k ∷ []
    → AreAllCosts g (own ++ rest) costs → first ≡ take 1 costs → later ≡ drop 1 costs → c ≡ get_or first 0 d
    → AreAllCosts g own (c ∷ []) × AreAllCosts g rest later
first_is g own k rest costs first later c d is are first_one others there =
    by costs (subst (λ (l : List AskedCell). AreAllCosts g (l ++ rest) costs) is are) first_one others
  where
    by : (costs : List BarCosts) → AreAllCosts g (k ∷ rest) costs → first ≡ take 1 costs → later ≡ drop 1 costs
        → AreAllCosts g own (c ∷ []) × AreAllCosts g rest later
    by [] are first_one others = absurd are
    by (b ∷ bs) are first_one others =
        let same : c ≡ b = there ∙ ap (λ (l : List BarCosts). get_or l 0 d) first_one in (
          subst (λ (l : List AskedCell). AreAllCosts g l (c ∷ [])) (sym is) (subst (AreCosts g k) (sym same) are.0, refl),
          subst (AreAllCosts g rest) (sym others) are.1,
        )

-- another learns the first of the costs
pub learned : (next : NextBar) (r : Round) (v : ℕ) (l m : Longer) (rest : List AskedCell) (costs first later : List BarCosts) (c d : BarCosts)
    → v < length next.voices.now → l.is_out ≡ false → IsWeighed next r v l → AreAllCosts next.grammar.now (cells_in next v l ++ rest) costs
    → first ≡ take 1 costs → later ≡ drop 1 costs → c ≡ get_or first 0 d
    → m ≡ record { course = l.course; offer = l.offer; costs = l.costs ++ (c ∷ []); is_out = l.is_out }
    → AreAllCosts next.grammar.now rest later × IsWeighed next r (v + 1) m
learned next r v l m rest costs first later c d lt still h are first_one others there is =
    let cells : List AskedCell = asked_cells next l.course l.offer in
    let long : length cells ≡ length next.voices.now = asked_long next next.number l.course h.longer.course l.offer in
    let one = one_of cells v (omega (arith, lt, long)) in
    let own = subst (λ (b : Bool). AreAllCosts next.grammar.now ((if b then [] else take 1 (drop v cells)) ++ rest) costs) still are in
    let parts = first_is next.grammar.now (take 1 (drop v cells)) one.0 rest costs first later c d one.1 own first_one others there in (
      parts.1,
      subst (IsWeighed next r (v + 1)) (sym is) (record {
        longer = record { course = h.longer.course; tried = h.longer.tried };
        out = λ out. absurd (false≢true (sym still ∙ out));
        known = λ known. subst (λ (l' : List AskedCell). AreAllCosts next.grammar.now l' (l.costs ++ (c ∷ []))) (one_further v cells)
            (each_append (AreCosts next.grammar.now) (take v cells) (take 1 (drop v cells)) l.costs (c ∷ []) (h.known still) parts.0);
      }),
    )

-- all costs are known in the end
pub all_known : (next : NextBar) (r : Round) (l : Longer) → IsWeighed next r (length next.voices.now) l → l.is_out ≡ false
    → AreAllCosts next.grammar.now (asked_cells next l.course l.offer) l.costs
all_known next r l h still =
    let cells : List AskedCell = asked_cells next l.course l.offer in
    let long : length cells ≡ length next.voices.now = asked_long next next.number l.course h.longer.course l.offer in
    subst (λ (cs : List AskedCell). AreAllCosts next.grammar.now cs l.costs) (take_all (length next.voices.now) cells (omega (arith, long))) (h.known still)

-- there is a cost for one that is not passed over
pub some_cost : (next : NextBar) (r : Round) (v : ℕ) (l : Longer) (rest : List AskedCell) (costs : List BarCosts) → v < length next.voices.now
    → IsWeighed next r v l → AreAllCosts next.grammar.now (cells_in next v l ++ rest) costs → l.is_out ≡ false → 1 ≤ length costs
some_cost next r v l rest costs lt h are still =
    let cells : List AskedCell = asked_cells next l.course l.offer in
    let long : length cells ≡ length next.voices.now = asked_long next next.number l.course h.longer.course l.offer in
    let one = one_of cells v (omega (arith, lt, long)) in
    let own = subst (λ (b : Bool). AreAllCosts next.grammar.now ((if b then [] else take 1 (drop v cells)) ++ rest) costs) still are in
    by one.0 costs (subst (λ (l : List AskedCell). AreAllCosts next.grammar.now (l ++ rest) costs) one.1 own)
  where
    by : (k : AskedCell) (costs : List BarCosts) → AreAllCosts next.grammar.now (k ∷ rest) costs → 1 ≤ length costs
    by k [] are = absurd are
    by k (b ∷ bs) are = omega arith

-- ---- all of them

pub next_weighed : (next : NextBar) (r : Round) (v : ℕ) (ls : List Longer) (i : ℕ) (l : Longer) (left : List BarCosts) → i < length ls → l ≡ get_or ls i l
    → All (IsWeighed next r v) (drop i ls) → AreAllCosts next.grammar.now (flat_map (cells_in next v) (drop i ls)) left
    → IsWeighed next r v l × All (IsWeighed next r v) (drop (i + 1) ls)
    × AreAllCosts next.grammar.now (cells_in next v l ++ flat_map (cells_in next v) (drop (i + 1) ls)) left
next_weighed next r v ls i l left lt is all are =
    let parts : drop i ls ≡ l ∷ drop (i + 1) ls = drop_more ls i l lt ∙ ap (λ (x : Longer). x ∷ drop (i + 1) ls) (sym is) in
    let each = subst (All (IsWeighed next r v)) parts all in (
      all_head (IsWeighed next r v) l (drop (i + 1) ls) each,
      all_tail (IsWeighed next r v) l (drop (i + 1) ls) each,
      subst (λ (xs : List Longer). AreAllCosts next.grammar.now (flat_map (cells_in next v) xs) left) parts are,
    )

pub all_more : {X : Type 0} (P : X → Type 0) (xs : List X) (i : ℕ) (x : X) → i < length xs → All P (take i xs) → P x → All P (take (i + 1) (set xs i x))
all_more P xs i x lt all one = subst (All P) (sym (take_more_set xs i x lt)) (All-append P (take i xs) (x ∷ []) all (all_cons P x [] one (All-nil P)))

pub cells_more : {X Y : Type 0} (f : X → List Y) (xs : List X) (i : ℕ) (x : X) → i < length xs
    → flat_map f (take (i + 1) (set xs i x)) ≡ flat_map f (take i xs) ++ f x
cells_more f xs i x lt =
    ap (flat_map f) (take_more_set xs i x lt) ∙ flat_map-append f (take i xs) (x ∷ []) ∙ ap (λ l. flat_map f (take i xs) ++ l) (append-nil (f x))

-- the cells are in the units of the grammar, and no more than the lists
pub units_in : (next : NextBar) (v : ℕ) (ls : List Longer) → All (λ (k : AskedCell). k.input.resolution ≡ next.grammar.now.resolution) (flat_map (cells_in next v) ls)
units_in next v ls = all_rows Units (cells_in next v) ls (λ l. own l l.is_out)
  where
    Units : AskedCell → Type 0
    Units k = k.input.resolution ≡ next.grammar.now.resolution

    own : (l : Longer) (b : Bool) → All Units (if b then [] else take 1 (drop v (asked_cells next l.course l.offer)))
    own l true = All-nil Units
    own l false =
        All-take Units 1 (drop v (asked_cells next l.course l.offer)) (All-drop Units v (asked_cells next l.course l.offer)
        (All-map Units (asked_cell next (barring_end l.course.barring) (barring_end l.course.barring + l.offer.ticks)) (zip next.voices.now l.course.heads)
        (λ k d lt. refl)))

pub cells_few : (next : NextBar) (v : ℕ) (ls : List Longer) → length (flat_map (cells_in next v) ls) ≤ length ls
cells_few next v [] = omega arith
cells_few next v (l ∷ ls) =
    let rest = cells_few next v ls in
    let own = one l l.is_out in
    let both = length-append (cells_in next v l) (flat_map (cells_in next v) ls) in
    omega (arith, rest, own, both)
  where
    one : (l : Longer) (b : Bool) → length (if b then [] else take 1 (drop v (asked_cells next l.course l.offer))) ≤ 1
    one l true = omega arith
    one l false = omega (arith, length-take 1 (drop v (asked_cells next l.course l.offer)))

-- ---- what is gathered, with one more

abbrev FindsIn : NextBar → Draft → Found → Type 0
FindsIn next = IsFound next.grammar.now next.performance.now

pub gathered_on : (next : NextBar) (ls : List Longer) (i : ℕ) (l : Longer) (best : Option Barring) (found more : List Found) (courses others : List Course)
    (now : Round) (own : Found) (going_own : List Course) → i < length ls → l ≡ get_or ls i l
    → Each (IsFound next.grammar.now next.performance.now) (map draft_of (take i ls)) more → All (IsCourseOf next (next.number + 1)) others
    → IsFound next.grammar.now next.performance.now (draft_of l) own → All (IsCourseOf next (next.number + 1)) going_own
    → IsGathered best ((found ++ more) ++ (own ∷ [])) ((courses ++ others) ++ going_own) now
    → (all : List Found) × (all_others : List Course) × Each (IsFound next.grammar.now next.performance.now) (map draft_of (take (i + 1) ls)) all
    × All (IsCourseOf next (next.number + 1)) all_others × IsGathered best (found ++ all) (courses ++ all_others) now
gathered_on next ls i l best found more courses others now own going_own lt is each all one going_all h = (
  more ++ (own ∷ []),
  others ++ going_own,
  subst (λ (ds : List Draft). Each (FindsIn next) ds (more ++ (own ∷ []))) (sym (map_more draft_of ls i l lt))
      (each_push (FindsIn next) (map draft_of (take i ls)) more (draft_of (get_or ls i l)) own each (subst (λ (x : Longer). FindsIn next (draft_of x) own) is one)),
  All-append (IsCourseOf next (next.number + 1)) others going_own all going_all,
  subst (λ (fs : List Found). IsGathered best fs (courses ++ (others ++ going_own)) now) (append_assoc found more (own ∷ []))
      (subst (λ (cs : List Course). IsGathered best ((found ++ more) ++ (own ∷ [])) cs now) (append_assoc courses others going_own) h),
)
