-- The least ways over one part more.
use Rattle.std.proofs.Common.{◌≡◌, ℕ, zero, suc, ◌+◌, ◌*◌, ◌<◌, ◌≤◌, ◌^◌, ◌==◌, Bool, true, false, List, [], ◌∷◌, ◌++◌, length, take, refl, sym, ap, ◌∙◌, subst, arith}
use Rattle.std.specs.Prelude.{Option, Some, None, if◌then◌else◌, slice_index_or}
use Rattle.std.proofs.Math.Nat.{pow-le-pow_right, pow-suc}
use Rattle.std.proofs.Math.Seq.{take-suc}
use Rattle.std.proofs.lemmas.Bool.Decides.{nat_tests}
use Rattle.rhythm_base.specs.Bodies.{sizes}
use Rattle.rhythm_base.specs.Ranked.{Key, better, pick, key_sum, plus, number_of, value_of}
use Rattle.path_laws.specs.Rows.{AreAlike, lists_cmp, same}
use Rattle.tree_laws.specs.Forests.{AreWide, Ground, IsForestKey, IsGround}
use Rattle.path_laws.specs.Tables.{IsLeastKey}
use Rattle.path_laws.proofs.Alike.{parse, via}
use Rattle.row_laws.specs.BestRules.{Choice, choice_key, is_nearer}
use Rattle.row_laws.specs.Folds.{digit_sum, fold_pick}
use Rattle.row_laws.specs.Rows.{AreLeastRow, row_times}
use Rattle.row_laws.proofs.Bounds.{IsBounded}
use Rattle.row_laws.proofs.Folds.{fold-alike, fold-via}
use Rattle.row_laws.proofs.RowProducts.{row-apart, row-cheap, row-next, row-none, row-parse}
use Rattle.least_rows.specs.declared.way.Way.{Way}
use Rattle.least_rows.specs.Ways.{AreShort, AreWays, AreWaysOn, IsSmallWay, IsWayMade, nearer_way, nearest_below, nearest_way, one_way, sum_of_way, way_on}
use Rattle.path_laws.proofs.Products.{alike_to}

-- ---- which count between is taken

module _ (front : ℕ → Option Way) (ranks : ℕ → ℕ → Option Choice) (b : ℕ) where
  -- none is there, or the one of this count and sum is the nearest
  abbrev pub IsTaken : ℕ → Option (ℕ × Choice) → Option Way → Type 0
  IsTaken n None w = w ≡ None
  IsTaken n (Some x) w = (x.0 < n) × (w ≡ way_on (front x.0) x.0 (ranks x.0 b)) × (sum_of_way w ≡ Some x.1)

  same_sum : (o : Option Way) (m : ℕ) (r : Option Choice) → sum_of_way (way_on o m r) ≡ digit_sum (sum_of_way o) r
  same_sum None m r = refl
  same_sum (Some w) m None = refl
  same_sum (Some w) m (Some r) = refl

  taken-more : (n : ℕ) (o : Option (ℕ × Choice)) (w u : Option Way) → u ≡ way_on (front n) n (ranks n b) → IsTaken n o w → IsTaken (suc n) (better is_nearer o n (sum_of_way u)) (nearer_way w u)
  taken-more n None w None e h = h
  taken-more n (Some x) w None e h = (omega (arith, h.0), h.1, h.2)
  taken-more n None None (Some u) e h = (omega arith, e, refl)
  taken-more n None (Some y) (Some u) e h = absurd (cc)
  taken-more n (Some x) None (Some u) e h = let no : None ≡ Some x.1 = h.2 in absurd (cc)
  taken-more n (Some x) (Some y) (Some u) e h =
      let sum : (y.cost, y.order) ≡ x.1 = cc in
      subst (λ c. IsTaken (suc n) (if is_nearer (u.cost, u.order) c then Some (n, (u.cost, u.order)) else Some x) (nearer_way (Some y) (Some u))) sum
      (go (is_nearer (u.cost, u.order) (y.cost, y.order)))
    where
      go : (t : Bool) → IsTaken (suc n) (if t then Some (n, (u.cost, u.order)) else Some x) (if t then Some u else Some y)
      go true = (omega arith, e, refl)
      go false = (omega (arith, h.0), h.1, h.2)

  taken : (n : ℕ) → IsTaken n (pick is_nearer (λ m. digit_sum (sum_of_way (front m)) (ranks m b)) n) (nearest_below front ranks b n)
  taken zero = refl
  taken (suc n) =
      subst (λ s. IsTaken (suc n) (better is_nearer (pick is_nearer (λ m. digit_sum (sum_of_way (front m)) (ranks m b)) n) n s) (nearest_below front ranks b (suc n))) (same_sum (front n) n (ranks n b))
      (taken-more n _ (nearest_below front ranks b n) (way_on (front n) n (ranks n b)) refl (taken n))

  pub nearest-taken : IsTaken 5 (fold_pick (λ m. sum_of_way (front m)) ranks b) (nearest_way front ranks b)
  unfolding nearest_way
  nearest-taken = taken 5

-- ---- what is there is there on both sides

same-key : (k : Key) (o : Option Way) → same (Some k) (choice_key (sum_of_way o)) → (w : Way) × (o ≡ Some w)
same-key k None h = absurd h
same-key k (Some w) h = (w, refl)

same-way : (o : Option Key) (w : Way) → same o (choice_key (sum_of_way (Some w))) → (k : Key) × (o ≡ Some k) × (k.0 ≡ w.cost)
same-way None w h = absurd h
same-way (Some k) w h = (k, refl, h)

same-choice : (o : Option Key) (c : Choice) → same o (choice_key (Some c)) → (k : Key) × (o ≡ Some k)
same-choice None c h = absurd h
same-choice (Some k) c h = (k, refl)

-- a way with one part more is one of the ways, with a rank
on-parts : (o : Option Way) (m : ℕ) (r : Option Choice) (c : Choice) → sum_of_way (way_on o m r) ≡ Some c
    → (w : Way) × (x : Choice) × (o ≡ Some w) × (r ≡ Some x)
on-parts None m r c e = absurd (cc)
on-parts (Some w) m None c e = absurd (cc)
on-parts (Some w) m (Some x) c e = (w, x, refl, refl)

wide-take : (n : ℕ) (qs : List (ℕ × ℕ)) → AreWide qs → AreWide (take n qs)
wide-take zero qs h = tt
wide-take (suc n) [] h = tt
wide-take (suc n) (q ∷ qs) h = (h.0, wide-take n qs h.1)

short-more : (n x r : ℕ) → x < 8 ^ n → r < 8 → x * 8 + r < 8 ^ suc n
short-more n x r h low = let more = pow-suc 8 n in omega (arith, more, h, low)

-- ---- one part more

module _ (d : Ground) (ground : IsGround d) (p a : ℕ) (low : a < 5) (qs : List (ℕ × ℕ)) (wide : AreWide qs) (n : ℕ) (here : n < length qs) (front next : ℕ → Option Way) (ways : AreWays d p qs a n front)
    (on : AreWaysOn d (p + sizes (take n qs)) (slice_index_or qs n (0, 0)) front next) where
  one_more : take (suc n) qs ≡ take n qs ++ slice_index_or qs n (0, 0) ∷ []
  one_more = take-suc qs n (0, 0) here

  known : (m : ℕ) (k : Key) → m < 5 → ways.row m ≡ Some k → (w : Way) × (front m ≡ Some w)
  known m k lm e = same-key k (front m) (subst (λ o. same o (choice_key (sum_of_way (front m)))) e (ways.alike.costs m lm))

  all-least : AreLeastRow d p (take (suc n) qs) a (row_times ways.row on.keys)
  all-least =
      subst (λ l. AreLeastRow d p l a (row_times ways.row on.keys)) (sym one_more)
      (row-next d ground p a low (take n qs) (slice_index_or qs n (0, 0)) (subst AreWide one_more (wide-take (suc n) qs wide)) ways.row on.keys ways.least
      (λ m k lm e. let w = known m k lm e in on.least m w.0 lm w.1))

  parses : (m m' : ℕ) → m < 5 → m' < 5 → parse (ways.row m) (ways.row m')
  parses m m' lm lm' = row-parse d p a (take n qs) ways.row ways.least m m' lm lm'

  further : (m : ℕ) (k : Key) → m < 5 → ways.row m ≡ Some k → AreAlike (on.keys m) (λ b. choice_key (on.ranks m b))
  further m k lm e = let w = known m k lm e in on.alike m w.0 lm w.1

  all-alike : AreAlike (row_times ways.row on.keys) (λ b. choice_key (value_of (fold_pick (λ m. sum_of_way (front m)) on.ranks b)))
  all-alike = fold-alike ways.row on.keys (λ m. sum_of_way (front m)) on.ranks ways.alike further on.digits parses (row-apart d p a (take n qs) ways.row ways.least)

  all-via : (b : ℕ) → b < 5 → row_times ways.row on.keys b ≡ via ways.row on.keys b (number_of (fold_pick (λ m. sum_of_way (front m)) on.ranks b))
  all-via = fold-via ways.row on.keys (λ m. sum_of_way (front m)) on.ranks ways.alike further on.digits parses (row-apart d p a (take n qs) ways.row ways.least)

  value-same : (o : Option (ℕ × Choice)) (b : ℕ) (w : Option Way) → IsTaken front on.ranks b 5 o w → choice_key (value_of o) ≡ choice_key (sum_of_way w)
  value-same None b w h = sym (ap (λ o. choice_key (sum_of_way o)) h)
  value-same (Some x) b w h = sym (ap choice_key h.2)

  made-by : (b : ℕ) → b < 5 → (o : Option (ℕ × Choice)) (w : Option Way) → IsTaken front on.ranks b 5 o w
      → IsWayMade d p qs a (suc n) b w (via ways.row on.keys b (number_of o))
  made-by b lb None w h = subst (λ w. IsWayMade d p qs a (suc n) b w None) (sym h) tt
  made-by b lb (Some x) w h =
      let parts = on-parts (front x.0) x.0 (on.ranks x.0 b) x.1 (ap sum_of_way (sym h.1) ∙ h.2) in
      let first = same-way (ways.row x.0) parts.0 (subst (λ o. same (ways.row x.0) (choice_key (sum_of_way o))) parts.2 (ways.alike.costs x.0 h.0)) in
      let second = same-choice (on.keys x.0 b) parts.1 (subst (λ o. same (on.keys x.0 b) (choice_key o)) parts.3 ((on.alike x.0 parts.0 h.0 parts.2).costs b lb)) in
      let before : IsWayMade d p qs a n x.0 (Some parts.0) (Some first.0)
      = subst (λ k. IsWayMade d p qs a n x.0 (Some parts.0) k) first.1 (subst (λ o. IsWayMade d p qs a n x.0 o (ways.row x.0)) parts.2 (ways.made x.0 h.0)) in
      let least : IsLeastKey (IsForestKey d None (p + sizes (take n qs)) (slice_index_or qs n (0, 0) ∷ []) x.0 b) (Some second.0)
      = subst (λ k. IsLeastKey (IsForestKey d None (p + sizes (take n qs)) (slice_index_or qs n (0, 0) ∷ []) x.0 b) k) second.1 (on.least x.0 parts.0 h.0 parts.2 b lb) in
      let is : w ≡ way_on (Some parts.0) x.0 (Some parts.1) = h.1 ∙ (λ i. way_on (parts.2 i) x.0 (parts.3 i)) in
      let sum : key_sum (ways.row x.0) (on.keys x.0 b) ≡ Some (plus first.0 second.0) = λ i. key_sum (first.1 i) (second.1 i) in
      subst (λ k. IsWayMade d p qs a (suc n) b w k) (sym sum)
      (subst (λ w. IsWayMade d p qs a (suc n) b w (Some (plus first.0 second.0))) (sym is)
      (parts.0.way, x.0, first.0.1, second.0, before, h.0, refl, least, refl))

  next-short : (b : ℕ) (v : Way) → b < 5 → (o : Option (ℕ × Choice)) (w : Option Way) → IsTaken front on.ranks b 5 o w → w ≡ Some v → (v.order < 8 ^ suc n) × (v.way < 8 ^ suc n)
  next-short b v lb None w h e = absurd (cc)
  next-short b v lb (Some x) w h e =
      let parts = on-parts (front x.0) x.0 (on.ranks x.0 b) x.1 (ap sum_of_way (sym h.1) ∙ h.2) in
      let is : way_on (Some parts.0) x.0 (Some parts.1) ≡ Some v = (λ i. way_on (sym parts.2 i) x.0 (sym parts.3 i)) ∙ sym h.1 ∙ e in
      let whole : record { cost = parts.0.cost + parts.1.0; order = parts.0.order * 8 + parts.1.1; way = parts.0.way * 8 + x.0 } ≡ v = cc in
      let small = ways.short x.0 parts.0 h.0 parts.2 in
      let digit = on.digits x.0 b parts.1 parts.3 in
      let count : x.0 < 8 = omega (arith, h.0) in
      let order = short-more n parts.0.order parts.1.1 small.0 digit in
      let way = short-more n parts.0.way x.0 small.1 count in
      (subst (λ m. m < 8 ^ suc n) (ap (λ (w : Way). w.order) whole) order, subst (λ m. m < 8 ^ suc n) (ap (λ (w : Way). w.way) whole) way)

  taken-next : (b : ℕ) → b < 5 → IsTaken front on.ranks b 5 (fold_pick (λ m. sum_of_way (front m)) on.ranks b) (next b)
  taken-next b lb = subst (IsTaken front on.ranks b 5 (fold_pick (λ m. sum_of_way (front m)) on.ranks b)) (sym (on.nearest b lb)) (nearest-taken front on.ranks b)

  pub ways-next : AreWays d p qs a (suc n) next
  ways-next = record {
    row = row_times ways.row on.keys;
    least = all-least;
    alike = alike_to (row_times ways.row on.keys) _ (λ b. choice_key (sum_of_way (next b))) (λ b lb. value-same _ b (next b) (taken-next b lb)) all-alike;
    made = λ b lb. subst (IsWayMade d p qs a (suc n) b (next b)) (sym (all-via b lb)) (made-by b lb _ (next b) (taken-next b lb));
    short = λ b v lb e. next-short b v lb _ (next b) (taken-next b lb) e;
  }

-- the same, where the next part is known otherwise
pub ways-then : (d : Ground) → IsGround d → (p a : ℕ) → a < 5 → (qs : List (ℕ × ℕ)) → AreWide qs → (n : ℕ) → n < length qs → (front next : ℕ → Option Way) → AreWays d p qs a n front
    → (at : ℕ) (q : ℕ × ℕ) → at ≡ p + sizes (take n qs) → q ≡ slice_index_or qs n (0, 0) → AreWaysOn d at q front next → AreWays d p qs a (suc n) next
ways-then d ground p a low qs wide n here front next ways at q there is on =
    ways-next d ground p a low qs wide n here front next ways (subst (λ q. AreWaysOn d (p + sizes (take n qs)) q front next) is (subst (λ at. AreWaysOn d at q front next) there on))

-- ---- no part yet

pub ways-first : (d : Ground) (p a : ℕ) → a < 5 → (qs : List (ℕ × ℕ)) → AreWays d p qs a 0 (one_way (record { cost = 0; order = 0; way = 0 }) a)
ways-first d p a low qs = record {
  row = λ b. if a == b then Some (0, []) else None;
  least = row-none d p a low;
  alike = record { costs = λ b lb. costs (a == b); order = λ b c lb lc. order b c };
  made = λ b lb. made b (a == b) refl;
  short = λ b w lb e. short (a == b) w e;
}
  where
    costs : (t : Bool) → same (if t then Some (0, []) else None) (choice_key (sum_of_way (if t then Some (record { cost = 0; order = 0; way = 0 }) else None)))
    costs true = refl
    costs false = tt

    order-of : (t u : Bool) → lists_cmp (if t then Some (0, []) else None) (if u then Some (0, []) else None)
        ≡ lists_cmp (choice_key (sum_of_way (if t then Some (record { cost = 0; order = 0; way = 0 }) else None))) (choice_key (sum_of_way (if u then Some (record { cost = 0; order = 0; way = 0 }) else None)))
    order-of true true = refl
    order-of true false = refl
    order-of false u = refl

    order : (b c : ℕ) → lists_cmp (if a == b then Some (0, []) else None) (if a == c then Some (0, []) else None)
        ≡ lists_cmp (choice_key (sum_of_way (one_way (record { cost = 0; order = 0; way = 0 }) a b))) (choice_key (sum_of_way (one_way (record { cost = 0; order = 0; way = 0 }) a c)))
    order b c = order-of (a == b) (a == c)

    made : (b : ℕ) (t : Bool) → (a == b) ≡ t → IsWayMade d p qs a 0 b (if t then Some (record { cost = 0; order = 0; way = 0 }) else None) (if t then Some (0, []) else None)
    made b false e = tt
    made b true e = let is : b ≡ a = grind (arith, nat_tests) in (refl, is, refl)

    short : (t : Bool) (w : Way) → (if t then Some (record { cost = 0; order = 0; way = 0 }) else None) ≡ Some w → (w.order < 8 ^ 0) × (w.way < 8 ^ 0)
    short false w e = absurd (cc)
    short true w e =
        let is : record { cost = 0; order = 0; way = 0 } ≡ w = cc in
        (subst (λ (w : Way). w.order < 8 ^ 0) is (omega arith), subst (λ (w : Way). w.way < 8 ^ 0) is (omega arith))

-- ---- no way

none-nearest : (b : ℕ) → None ≡ nearest_way (λ b. None) (λ m b. None) b
unfolding nearest_way
none-nearest b = refl

pub ways-stuck : (d : Ground) → IsGround d → (p a : ℕ) → a < 5 → (qs : List (ℕ × ℕ)) → AreWide qs → (n : ℕ) → n < length qs → AreWays d p qs a n (λ b. None) → AreWays d p qs a (suc n) (λ b. None)
ways-stuck d ground p a low qs wide n here ways =
    ways-next d ground p a low qs wide n here (λ b. None) (λ b. None) ways (record {
      keys = λ m b. None;
      ranks = λ m b. None;
      least = λ m w lm e. absurd (cc);
      alike = λ m w lm e. absurd (cc);
      digits = λ m b c e. absurd (cc);
      nearest = λ b lb. none-nearest b;
    })

pub ways-none : (d : Ground) → IsGround d → (p a : ℕ) → a < 5 → (qs : List (ℕ × ℕ)) → AreWide qs → (n more : ℕ) → n + more ≡ length qs → AreWays d p qs a n (λ b. None) → AreWays d p qs a (length qs) (λ b. None)
ways-none d ground p a low qs wide n zero e ways = subst (λ n. AreWays d p qs a n (λ b. None)) (omega (arith, e)) ways
ways-none d ground p a low qs wide n (suc more) e ways =
    ways-none d ground p a low qs wide (suc n) more (omega (arith, e)) (ways-stuck d ground p a low qs wide n (omega (arith, e)) ways)

-- ---- none costs much

pub small-power : (n : ℕ) → n ≤ 16 → 8 ^ n ≤ 2 ^ 48
small-power n h = let low : 8 ^ n ≤ 8 ^ 16 = pow-le-pow_right {n = 8} (omega arith) {i = n} {j = 16} h in low

small-power-less : (n : ℕ) → n ≤ 15 → 8 ^ n ≤ 2 ^ 45
small-power-less n h = let low : 8 ^ n ≤ 8 ^ 15 = pow-le-pow_right {n = 8} (omega arith) {i = n} {j = 15} h in low

fewer-sizes : (n : ℕ) (qs : List (ℕ × ℕ)) → sizes (take n qs) ≤ sizes qs
fewer-sizes zero qs = omega arith
fewer-sizes (suc n) [] = omega arith
fewer-sizes (suc n) (q ∷ qs) = let ih = fewer-sizes n qs in omega (arith, ih)

pub ways-short : (d : Ground) → IsGround d → IsBounded d → (p a : ℕ) (qs : List (ℕ × ℕ)) → AreWide qs → sizes qs ≤ d.book.resolution → (n : ℕ) → n ≤ 16 → (front : ℕ → Option Way) → AreWays d p qs a n front
    → AreShort front
ways-short d ground bounds p a qs wide within n few front ways m w lm e =
    let first = same-way (ways.row m) w (subst (λ o. same (ways.row m) (choice_key (sum_of_way o))) e (ways.alike.costs m lm)) in
    let fewer = fewer-sizes n qs in
    let inside : sizes (take n qs) ≤ d.book.resolution = omega (arith, fewer, within) in
    let cheap = row-cheap d ground bounds p a (take n qs) (wide-take n qs wide) inside ways.row ways.least m first.0 lm first.1 in
    let cost : w.cost ≤ 3000000000 = subst (λ c. c ≤ 3000000000) first.2 cheap in
    let small = ways.short m w lm e in
    let power = small-power n few in
    (cost, omega (arith, small.0, power), omega (arith, small.1, power))

pub ways-low : (d : Ground) (p a : ℕ) (qs : List (ℕ × ℕ)) (n : ℕ) → n ≤ 15 → (front : ℕ → Option Way) → AreWays d p qs a n front → AreShort front
    → (m : ℕ) (w : Way) → m < 5 → front m ≡ Some w → IsSmallWay w
ways-low d p a qs n few front ways short m w lm e =
    let small = ways.short m w lm e in
    let power = small-power-less n few in
    ((short m w lm e).0, omega (arith, small.0, power), omega (arith, small.1, power))

-- ---- the same ways, said otherwise

pub ways-same : (d : Ground) (p : ℕ) (qs : List (ℕ × ℕ)) (a n : ℕ) (ways next : ℕ → Option Way) → ((b : ℕ) → b < 5 → ways b ≡ next b) → AreWays d p qs a n ways → AreWays d p qs a n next
ways-same d p qs a n ways next e h = record {
  row = h.row;
  least = h.least;
  alike = alike_to h.row (λ b. choice_key (sum_of_way (ways b))) (λ b. choice_key (sum_of_way (next b))) (λ b lb. ap (λ o. choice_key (sum_of_way o)) (e b lb)) h.alike;
  made = λ m lm. subst (λ o. IsWayMade d p qs a n m o (h.row m)) (e m lm) (h.made m lm);
  short = λ m w lm f. h.short m w lm (e m lm ∙ f);
}

pub on-same : (d : Ground) (p : ℕ) (q : ℕ × ℕ) (ways from next : ℕ → Option Way) → ((b : ℕ) → b < 5 → from b ≡ next b) → AreWaysOn d p q ways from → AreWaysOn d p q ways next
on-same d p q ways from next e h = record {
  keys = h.keys;
  ranks = h.ranks;
  least = h.least;
  alike = h.alike;
  digits = h.digits;
  nearest = λ b lb. sym (e b lb) ∙ h.nearest b lb;
}
