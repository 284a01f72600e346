-- Shares, parts and weights of the rules of one symbol.
use Rattle.std.proofs.Common.{lit<, lit≤, mul-zero, ◌≡◌, ℕ, ◌+◌, ◌-◌, ◌*◌, ◌/◌, ◌≤◌, ◌<◌, ◌==◌, true, List, length, get_or, max, ap, ◌∙◌, subst, arith}
use Rattle.std.specs.List.{sum_by}
use Rattle.std.proofs.lemmas.Bool.{eq-eqb}
use Rattle.std.proofs.lemmas.Nat.{le-div, mul-le}
use Rattle.std.proofs.Math.Nat.{div-le_of_le-mul, div-mul-le_self, le-max_left, le-max_right, le_of_eq, le_trans, mul-le-mul_left}
use Rattle.rhythm_base.specs.declared.rule.Rule.{Rule}
use Rattle.weight_learning.specs.Shares.{share}
use Rattle.weight_learning.specs.Weights.{rule_parts, parts_of, rules_of_symbol, share_of, share_sum}
use Rattle.weight_learning.proofs.Falling.{share_falls}
use Rattle.weight_learning.proofs.Sums.{within_sum}

-- a quotient rises with what is divided
pub div_rise : (a b k : ℕ) → 0 < k → a ≤ b → a / k ≤ b / k
div_rise a b k some le = le-div (a / k) b k some (le_trans (div-mul-le_self a k) le)

-- a lighter rule has no smaller share
pub share_of_falls : (bit : ℕ) (r s : Rule) → 0 < bit → r.weight ≤ s.weight → share_of bit s ≤ share_of bit r
share_of_falls bit r s some le = share_falls (64 * r.weight / bit) (64 * s.weight / bit) (div_rise (64 * r.weight) (64 * s.weight) bit some (mul-le-mul_left 64 le))

-- the share of a rule is within those of its symbol
share_within : (bit symbol : ℕ) (rules : List Rule) (i : ℕ) (d : Rule) → i < length rules → ((get_or rules i d).lhs == symbol) ≡ true
    → share_of bit (get_or rules i d) ≤ share_sum bit symbol rules
share_within bit symbol rules i d lt of =
    le_trans (within_sum (λ r. r.lhs == symbol) (share_of bit) rules i d lt of) (le-max_left (sum_by (share_of bit) (rules_of_symbol symbol rules)) 1)

pub share_read : (bit symbol : ℕ) (rules : List Rule) (i : ℕ) (r : Rule) → i < length rules → get_or rules i r ≡ r → r.lhs ≡ symbol → share_of bit r ≤ share_sum bit symbol rules
share_read bit symbol rules i r lt read of =
    let P : Rule → Type 0 = λ x. share_of bit x ≤ share_sum bit symbol rules in
    subst P read (share_within bit symbol rules i r lt (ap (λ (x : Rule). x.lhs == symbol) read ∙ eq-eqb r.lhs symbol of))

pub some_share : (bit symbol : ℕ) (rules : List Rule) → 1 ≤ share_sum bit symbol rules
some_share bit symbol rules = le-max_right (sum_by (share_of bit) (rules_of_symbol symbol rules)) 1

-- ---- parts

pub parts_rise : (count other share smaller whole : ℕ) → 1 ≤ whole → other ≤ count → smaller ≤ share → rule_parts other smaller whole ≤ rule_parts count share whole
parts_rise count other share smaller whole some less fewer =
    let quotient : 20480 * smaller / whole ≤ 20480 * share / whole = div_rise (20480 * smaller) (20480 * share) whole some (mul-le-mul_left 20480 fewer) in
    both count other (20480 * share / whole) (20480 * smaller / whole) less quotient
  where
    both : (a b x y : ℕ) → b ≤ a → y ≤ x → 1024 * b + max y 1 ≤ 1024 * a + max x 1
    both a b x y h k = omega arith

pub some_parts : (count share whole : ℕ) → 1 ≤ rule_parts count share whole
some_parts count share whole = at (20480 * share / whole)
  where
    at : (x : ℕ) → 1 ≤ 1024 * count + max x 1
    at x = omega arith

pub few_parts : (count share whole : ℕ) → count ≤ 1048576 → share ≤ whole → rule_parts count share whole ≤ 1073762304
few_parts count share whole few part =
    let quotient : 20480 * share / whole ≤ 20480 =
    div-le_of_le-mul whole (le_trans (mul-le-mul_left 20480 part) (le_of_eq (turned whole))) in
    at (20480 * share / whole) quotient
  where
    turned : (w : ℕ) → 20480 * w ≡ w * 20480
    turned w = omega arith

    at : (x : ℕ) → x ≤ 20480 → 1024 * count + max x 1 ≤ 1073762304
    at x h = omega arith

-- ---- weights

-- `bit` times a logarithm is few
pub weight_few : (bit all own : ℕ) → bit ≤ 10000 → all ≤ 2560 → bit * (all - own) / 64 ≤ 400000
weight_few bit all own few short =
    let product : bit * (all - own) ≤ 10000 * 2560 = mul-le bit (all - own) 10000 2560 few (difference all own short) in
    div-le_of_le-mul 64 (le_trans product (lit≤ tt))
  where
    difference : (a b : ℕ) → a ≤ 2560 → a - b ≤ 2560
    difference a b h = omega arith

pub weight_falls : (bit all own other : ℕ) → other ≤ own → bit * (all - own) / 64 ≤ bit * (all - other) / 64
weight_falls bit all own other le =
    div_rise (bit * (all - own)) (bit * (all - other)) 64 (lit< tt) (mul-le-mul_left bit (difference le))
  where
    difference : other ≤ own → all - own ≤ all - other
    difference h = omega arith

pub weight_nothing : (bit all : ℕ) → bit * (all - all) / 64 ≡ 0
weight_nothing bit all = ap (λ n. n / 64) (ap (λ n. bit * n) (none all) ∙ mul-zero bit)
  where
    none : (a : ℕ) → a - a ≡ 0
    none a = omega arith

-- the parts of a rule, by its share and the whole
pub own_parts : (own count s w bit symbol : ℕ) (rules : List Rule) (r : Rule) → own ≡ rule_parts count s w → s ≡ share_of bit r → w ≡ share_sum bit symbol rules
    → own ≡ parts_of bit (share_sum bit symbol rules) (r, count)
own_parts own count s w bit symbol rules r is share_is whole_is =
    is ∙ ap (λ n. rule_parts count n w) share_is ∙ ap (λ n. rule_parts count (share_of bit r) n) whole_is
