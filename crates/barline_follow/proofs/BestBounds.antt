-- The best is whole, and has at most two barlines for each bar of the performance and one more, none of them past the latest tick.
use Rattle.std.proofs.Common.{◌≡◌, ℕ, zero, suc, ◌+◌, ◌*◌, ◌≤◌, Bool, true, false, List, [], ◌∷◌, ◌++◌, length, map, take, get_or, sym, subst, arith}
use Rattle.std.specs.Prelude.{All, Option, Some, None, IfSome, nat_lt, ⊤, if◌then◌else◌}
use Rattle.std.specs.List.{filter_map}
use Rattle.std.proofs.lemmas.List.{length-append}
use Rattle.std.proofs.lemmas.List.Elements.{All-append, All-filter, All-nil, Contains-get_or}
use Rattle.rhythm_base.specs.declared.limits.TheConstants.{LATEST_TICK}
use Rattle.rhythm_base.specs.Grammar.{Grammar}
use Rattle.rhythm_base.specs.Lists.{Each, last_end}
use Rattle.rhythm_base.specs.Performance.{Performance}
use Rattle.rhythm_base.proofs.FirstLists.{all_contained}
use Rattle.rhythm_base.proofs.OrderedLists.{all_cons, all_head, all_tail}
use Rattle.barline_follow.specs.declared.offers.Offer.{Offer}
use Rattle.barline_follow.specs.Barring.{Barring, best_of, better, barring_end, is_below, barring_value}
use Rattle.barline_follow.specs.Rounds.{ComeTo, Draft, Found, IsBest, IsFound, IsNextFront, IsWholeAt, going, going_on, lost, no_bars, rows, whole, whole_one, with_bar}
use Rattle.barline_follow.proofs.FirstLeast.{got_contained}
use Rattle.barline_follow.proofs.Further.{last_pushed}

-- so many bars at most, none past the latest tick
pub record IsShort (bars : ℕ) (ticks : List ℕ) : Type 0 where
  pub some : 1 ≤ length ticks
  pub few : length ticks ≤ bars + 1
  pub early : All (λ tick. tick ≤ LATEST_TICK) ticks

abbrev Are : ℕ → List Barring → Type 0
Are bars bs = All (λ b. IsShort bars b.ticks) bs

longer_short : (i tick : ℕ) (ticks : List ℕ) → IsShort i ticks → tick ≤ LATEST_TICK → IsShort (suc i) (ticks ++ (tick ∷ []))
longer_short i tick ticks h early = record {
  some = omega (arith, length-append ticks (tick ∷ []));
  few = omega (arith, length-append ticks (tick ∷ []), h.few);
  early = All-append (λ t. t ≤ LATEST_TICK) ticks (tick ∷ []) h.early (all_cons (λ t. t ≤ LATEST_TICK) tick [] early (All-nil (λ (t : ℕ). t ≤ LATEST_TICK)));
}

module _ (g : Grammar) (p : Performance) where
  -- the same of whole barlines
  pub record IsGood (bars : ℕ) (b : Barring) : Type 0 where
    pub short : IsShort bars b.ticks
    pub is_whole : IsWholeAt g p b.ticks b.cost
    pub some_bar : 2 ≤ length b.ticks

  -- what is found of a list with a bar more
  abbrev FoundShort : ℕ → Found → Type 0
  FoundShort bars lost = ⊤
  FoundShort bars (going b) = IsShort bars b.ticks
  FoundShort bars (whole b) = IsGood bars b

  found_short : (i : ℕ) (b : Barring) (o : Offer) (f : Found) → IsShort i b.ticks → IsFound g p (with_bar b o) f → FoundShort (suc i) f
  found_short i b o lost short h = tt
  found_short i b o (going x) short (c, goes, is) =
      let last : last_end 0 (b.ticks ++ ((barring_end b + o.ticks) ∷ [])) ≡ barring_end b + o.ticks = last_pushed 0 (barring_end b + o.ticks) b.ticks in
      subst (λ (y : Barring). IsShort (suc i) y.ticks) (sym is) (longer_short i (barring_end b + o.ticks) b.ticks short (omega (arith, last, goes.early)))
  found_short i b o (whole x) short (c, is_whole, is) =
      let last : last_end 0 (b.ticks ++ ((barring_end b + o.ticks) ∷ [])) ≡ barring_end b + o.ticks = last_pushed 0 (barring_end b + o.ticks) b.ticks in
      subst (IsGood (suc i)) (sym is) (record {
        short = longer_short i (barring_end b + o.ticks) b.ticks short (omega (arith, last, is_whole.early));
        is_whole = is_whole;
        some_bar = omega (arith, length-append b.ticks ((barring_end b + o.ticks) ∷ []), short.some);
      })

  row_short : (i : ℕ) (b : Barring) (own : List Offer) (rest : List Draft) (found : List Found) → IsShort i b.ticks
      → ((others : List Found) → Each (IsFound g p) rest others → All (FoundShort (suc i)) others)
      → Each (IsFound g p) (map (with_bar b) own ++ rest) found → All (FoundShort (suc i)) found
  row_short i b [] rest found short on h = on found h
  row_short i b (o ∷ own) rest [] short on h = absurd h
  row_short i b (o ∷ own) rest (f ∷ found) short on h =
      all_cons (FoundShort (suc i)) f found (found_short i b o f short h.0) (row_short i b own rest found short on h.1)

  rows_short : (i : ℕ) (front : List Barring) (offers : List (List Offer)) (found : List Found) → Are i front
      → Each (IsFound g p) (rows front offers) found → All (FoundShort (suc i)) found
  rows_short i [] offers found all h = subst (All (FoundShort (suc i))) (sym h) (All-nil (FoundShort (suc i)))
  rows_short i (b ∷ front) [] found all h = subst (All (FoundShort (suc i))) (sym h) (All-nil (FoundShort (suc i)))
  rows_short i (b ∷ front) (own ∷ offers) found all h =
      row_short i b own (rows front offers) found (all_head (λ (b : Barring). IsShort i b.ticks) b front all)
      (λ others k. rows_short i front offers others (all_tail (λ (b : Barring). IsShort i b.ticks) b front all) k) h

  going_short : (i : ℕ) (found : List Found) → All (FoundShort i) found → Are i (filter_map going_on found)
  going_short i [] all = All-nil (λ (b : Barring). IsShort i b.ticks)
  going_short i (lost ∷ found) all = going_short i found (all_tail (FoundShort i) lost found all)
  going_short i (going b ∷ found) all =
      all_cons (λ (b : Barring). IsShort i b.ticks) b (filter_map going_on found) (all_head (FoundShort i) (going b) found all)
      (going_short i found (all_tail (FoundShort i) (going b) found all))
  going_short i (whole b ∷ found) all = going_short i found (all_tail (FoundShort i) (whole b) found all)

  wholes_short : (i : ℕ) (found : List Found) → All (FoundShort i) found → All (IsGood i) (filter_map whole_one found)
  wholes_short i [] all = All-nil (IsGood i)
  wholes_short i (lost ∷ found) all = wholes_short i found (all_tail (FoundShort i) lost found all)
  wholes_short i (going b ∷ found) all = wholes_short i found (all_tail (FoundShort i) (going b) found all)
  wholes_short i (whole b ∷ found) all =
      all_cons (IsGood i) b (filter_map whole_one found) (all_head (FoundShort i) (whole b) found all)
      (wholes_short i found (all_tail (FoundShort i) (whole b) found all))

  abbrev BestShort : ℕ → Option Barring → Type 0
  BestShort most best = IfSome best (IsGood most)

  shorter : (i most : ℕ) (b : Barring) → i ≤ most → IsGood i b → IsGood most b
  shorter i most b le h =
      record { short = record { some = h.short.some; few = omega (arith, le, h.short.few); early = h.short.early }; is_whole = h.is_whole; some_bar = h.some_bar }

  better_short : (most : ℕ) (best : Option Barring) (b : Barring) → BestShort most best → IsGood most b → BestShort most (better best b)
  better_short most None b h short = short
  better_short most (Some x) b h short = by (nat_lt (barring_value b) (barring_value x))
    where
      by : (t : Bool) → BestShort most (if t then Some b else Some x)
      by true = short
      by false = h

  bests_short : (i most : ℕ) (best : Option Barring) (bs : List Barring) → i ≤ most → BestShort most best → All (IsGood i) bs → BestShort most (best_of best bs)
  bests_short i most best [] le h all = h
  bests_short i most best (b ∷ bs) le h all =
      bests_short i most (better best b) bs le
      (better_short most best b h (shorter i most b le (all_head (IsGood i) b bs all)))
      (all_tail (IsGood i) b bs all)

  taken_all : (P : Barring → Type 0) (n : ℕ) (xs : List Barring) → All P xs → All P (take n xs)
  taken_all P zero xs all = All-nil P
  taken_all P (suc n) [] all = all
  taken_all P (suc n) (x ∷ xs) all = all_cons P x (take n xs) (all_head P x xs all) (taken_all P n xs (all_tail P x xs all))

  front_short : (i : ℕ) (best : Option Barring) (bs front : List Barring) → Are i bs → IsNextFront best bs front → Are i front
  front_short i best bs front all (kept, are, is) =
      let P : Barring → Type 0 = λ b. IsShort i b.ticks in
      let kept_short : All P kept = λ k d lt.
      let first = (are.exactly (get_or kept k d)).0 (Contains-get_or kept k d lt) in
      all_contained P bs (get_or kept k d) all (got_contained bs first.place (get_or kept k d) first.there) in
      subst (All P) (sym is) (All-filter (is_below best) P (take 24 kept) (taken_all P 24 kept kept_short))

  come_short : (k i most : ℕ) (front : List Barring) (best last : Option Barring) → i + k ≤ most → Are i front → BestShort most best
      → ComeTo g p k i front best last → BestShort most last
  come_short zero i most front best last le all h come = subst (BestShort most) (sym come) h
  come_short (suc k) i most [] best last le all h come = subst (BestShort most) (sym come) h
  come_short (suc k) i most (b ∷ front) best last le all h (next, next_best, round, rest) =
      let found = rows_short i (b ∷ front) round.longer.offers round.found all (subst (λ (l : List Draft). Each (IsFound g p) l round.found) round.longer.are round.each) in
      let wholes = bests_short (suc i) most best (filter_map whole_one round.found) (omega (arith, le)) h (wholes_short (suc i) round.found found) in
      come_short k (suc i) most next next_best last (omega (arith, le))
      (front_short (suc i) next_best (filter_map going_on round.found) next (going_short (suc i) round.found found) round.next_is)
      (subst (BestShort most) (sym round.best_is) wholes) rest

  pub best_short : (best : Option Barring) → IsBest g p best → BestShort (2 * length p.bars) best
  best_short best h =
      let none : All (λ (tick : ℕ). tick ≤ LATEST_TICK) [] = All-nil (λ (tick : ℕ). tick ≤ LATEST_TICK) in
      come_short (2 * length p.bars) 0 (2 * length p.bars) (no_bars ∷ []) None best (omega arith)
      (all_cons (λ (b : Barring). IsShort 0 b.ticks) no_bars []
      (record { some = omega arith; few = omega arith; early = all_cons (λ tick. tick ≤ LATEST_TICK) 0 [] (omega arith) none }) (All-nil (λ (b : Barring). IsShort 0 b.ticks)))
      tt h
