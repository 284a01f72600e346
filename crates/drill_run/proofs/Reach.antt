-- How many cells an edit reaches at most: all cells of the performance after it.
use Rattle.std.proofs.Common.{◌≡◌, ℕ, ◌+◌, ◌*◌, ◌<◌, ◌≤◌, List, [], ◌∷◌, length, get_or, subst, arith}
use Rattle.std.specs.Cmp.Lexicographic.{slice_cmp}
use Rattle.std.specs.Ordering.{nat_cmp}
use Rattle.std.specs.Prelude.{All, AllPairs, Contains}
use Rattle.std.specs.declared.cmp.Ordering.TheVariants.{Less}
use Rattle.std.proofs.lemmas.Bool.Decides.{nat_tests}
use Rattle.std.proofs.lemmas.List.Elements.{Contains-get_or}
use Rattle.rhythm_base.specs.Grammar.{Grammar}
use Rattle.rhythm_base.specs.Performance.{IsWellFormed, Performance}
use Rattle.edit_laws.specs.Reached.{AreReached}
use Rattle.rhythm_base.proofs.OrderedLists.{all_head, all_tail, pairs_head, pairs_tail}

abbrev IsEarlierCell : ℕ × ℕ → ℕ × ℕ → Type 0
IsEarlierCell c d = slice_cmp nat_cmp (c.0 ∷ c.1 ∷ []) (d.0 ∷ d.1 ∷ []) ≡ Less

-- a cell of one of 16 channels and of 4096 bars
abbrev IsCell : ℕ × ℕ → Type 0
IsCell c = (c.0 < 16) × (c.1 < 4096)

-- the number of a cell, voice after voice
abbrev number_of : ℕ × ℕ → ℕ
number_of c = c.0 * 4096 + c.1

rises : (a b c d : ℕ) → b < 4096 → IsEarlierCell (a, b) (c, d) → a * 4096 + b < c * 4096 + d
rises a b c d few h = grind (arith, nat_tests)

-- cells in their order, from a number on
few_from : (low : ℕ) (cells : List (ℕ × ℕ)) → AllPairs IsEarlierCell cells → All IsCell cells → All (λ c. low ≤ number_of c) cells → low ≤ 65536 → length cells + low ≤ 65536
few_from low [] order all above le = omega (arith, le)
few_from low (c ∷ cells) order all above le =
    let it = all_head IsCell c cells all in
    let from = all_head (λ d. low ≤ number_of d) c cells above in
    let later = pairs_head IsEarlierCell c cells order in
    let next : All (λ d. number_of c + 1 ≤ number_of d) cells = λ k d lt.
    (let x = get_or cells k d in
    let less : number_of c < number_of x = rises c.0 c.1 x.0 x.1 it.1 (later k d lt) in
    omega (arith, less)) in
    let rest = few_from (number_of c + 1) cells (pairs_tail IsEarlierCell c cells order) (all_tail IsCell c cells all) next (omega (arith, it.0, it.1)) in
    omega (arith, rest, from)

pub few_reached : (g : Grammar) (p q : Performance) (cells : List (ℕ × ℕ)) → IsWellFormed q → AreReached g p q cells → length cells ≤ 65536
few_reached g p q cells w h =
    let all : All IsCell cells = λ k d lt.
    (let x = get_or cells k d in
    let is = (h.exactly x.0 x.1).0 (Contains-get_or cells k d lt) in
    (low_channel is.0, omega (arith, is.1, w.few_bars))) in
    let most = few_from 0 cells h.in_order all (λ k d lt. omega arith) (omega arith) in
    omega (arith, most)
  where
    low_channel : {channel : ℕ} → Contains q.channels channel → channel < 16
    low_channel {channel} (k, lt, is) = subst (λ c. c < 16) is (w.voices k channel lt)
