-- The groups of a voice: a list for each bar, and none has more in the time of its bracket than a bar has units.
use Rattle.std.proofs.Common.{◌≡◌, ℕ, zero, suc, ◌*◌, ◌%◌, ◌^◌, ◌≤◌, Bool, List, [], ◌∷◌, length, ap, arith}
use Rattle.std.specs.Prelude.{All}
use Rattle.std.proofs.Math.Nat.{le-mul_of_pos_right}
use Rattle.std.proofs.lemmas.List.Elements.{All-cons, All-nil}
use Rattle.rhythm_base.specs.declared.sound.Sound.{Sound}
use Rattle.rhythm_base.specs.Lists.{Each}
use Rattle.derivation.specs.declared.score.ScoreBar.{ScoreBar}
use Rattle.notation.specs.Bars.{AreBarGroups, AreVoiceGroups}
use Rattle.notation.specs.Notes.{Group, IsGroup}
use Rattle.notation.specs.Places.{IsOddPart}
use Rattle.notation.specs.Tokens.{Token}

abbrev pub IsFew : Group → Type 0
IsFew g = g.ratio.actual ≤ 960

le_times : (a b c : ℕ) → 1 ≤ c → c ≡ a * b → a ≤ c
le_times a zero c some is = absurd (omega (arith, some, is))
le_times a (suc b) c some is = let le : a ≤ a * suc b = le-mul_of_pos_right a (omega arith) in omega (arith, le, is)

few_actual : (r odd : ℕ) (tokens : List Token) (g : Group) → r ≤ 960 → 1 ≤ r → IsOddPart r odd → IsGroup r odd tokens g → IsFew g
few_actual r odd tokens g few some (halvings, is, rest) own =
    let odd_few = le_times odd (2 ^ halvings) r some is in
    let odd_some : 1 ≤ odd = odd_positive odd rest in
    let le = le_times g.ratio.actual own.grid odd odd_some own.actual in
    omega (arith, le, odd_few, few)
  where
    odd_positive : (n : ℕ) → n % 2 ≡ 1 → 1 ≤ n
    odd_positive zero h = absurd (cc)
    odd_positive (suc n) h = omega arith

few_each : (r odd : ℕ) (parts : List (List Token)) (groups : List Group) → r ≤ 960 → 1 ≤ r → IsOddPart r odd
    → Each (IsGroup r odd) parts groups → All IsFew groups
few_each r odd [] [] few some odd_part h = All-nil IsFew
few_each r odd [] (g ∷ groups) few some odd_part h = absurd (cc)
few_each r odd (p ∷ parts) [] few some odd_part h = absurd h
few_each r odd (p ∷ parts) (g ∷ groups) few some odd_part h =
    All-cons IsFew g groups (few_actual r odd p g few some odd_part h.0) (few_each r odd parts groups few some odd_part h.1)

few_bar : (r : ℕ) (bar : ScoreBar) (after : Bool) (sounds : List Sound) (groups : List Group) → r ≤ 960 → 1 ≤ r
    → AreBarGroups r bar after sounds groups → All IsFew groups
few_bar r bar after sounds groups few some (values, odd, are, odd_part, each) =
    few_each r odd _ groups few some odd_part each

pub few_voice : (r n : ℕ) (bars : List ScoreBar) (sounds : List Sound) (all : List (List Group)) → r ≤ 960 → 1 ≤ r
    → AreVoiceGroups r n bars sounds all → All (All IsFew) all
few_voice r n [] sounds [] few some h = All-nil (All IsFew)
few_voice r n [] sounds (groups ∷ all) few some h = absurd (cc)
few_voice r n (bar ∷ bars) sounds [] few some h = absurd h
few_voice r n (bar ∷ bars) sounds (groups ∷ all) few some h =
    All-cons (All IsFew) groups all (few_bar r bar _ _ groups few some h.0) (few_voice r (suc n) bars sounds all few some h.1)

pub groups_long : (r n : ℕ) (bars : List ScoreBar) (sounds : List Sound) (all : List (List Group)) → AreVoiceGroups r n bars sounds all
    → length all ≡ length bars
groups_long r n [] sounds all h = ap length h
groups_long r n (bar ∷ bars) sounds [] h = absurd h
groups_long r n (bar ∷ bars) sounds (groups ∷ all) h = ap suc (groups_long r (suc n) bars sounds all h.1)
