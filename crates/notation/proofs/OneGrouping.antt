-- A voice has one list of groups.
use Rattle.std.proofs.Common.{◌≡◌, ℕ, zero, suc, ◌-◌, ◌*◌, ◌/◌, ◌%◌, ◌^◌, ◌≤◌, Bool, true, List, [], ◌∷◌, ◌++◌, sym, ap, ◌∙◌, subst, arith}
use Rattle.std.specs.Prelude.{All}
use Rattle.std.proofs.Math.Nat.{eq_of_mul-eq-mul_right, pow-suc}
use Rattle.std.proofs.lemmas.List.Elements.{All-head, All-tail}
use Rattle.std.proofs.lemmas.Nat.Gcd.{dvd_antisymm}
use Rattle.rhythm_base.specs.declared.sound.Sound.{Sound}
use Rattle.rhythm_base.specs.Lists.{Each}
use Rattle.durations.proofs.OneList.{values_one}
use Rattle.durations.proofs.Powers.{power_largest}
use Rattle.derivation.specs.declared.score.ScoreBar.{ScoreBar}
use Rattle.derivation.specs.Score.{IsScoreBar}
use Rattle.derivation.proofs.Pairs.{each_one}
use Rattle.voice_values.specs.Ahead.{begins_with_tie}
use Rattle.voice_values.specs.Values.{sounds_in_bar}
use Rattle.voice_values.proofs.ValuesExist.{bar_values_one}
use Rattle.voice_values.proofs.TimedSounds.{some_whole}
use Rattle.notation.specs.Bars.{AreBarGroups, AreVoiceGroups, grouped}
use Rattle.notation.specs.Laws.{VoiceGroupsAreOne}
use Rattle.notation.specs.Notes.{AreNotes, Group, IsGreatestPower, IsGrid, IsGroup, Note, joined_ties, spelled_whole, token_notes}
use Rattle.notation.specs.Places.{IsOddPart}
use Rattle.notation.specs.Tokens.{Token, bar_tokens}
use Rattle.notation.proofs.Spelled.{grid_some, odd_some, whole_some}

-- ---- the odd part

twice : (a b : ℕ) → a * (b * 2) ≡ a * b * 2
twice a b = grind arith

halves : (a b j k : ℕ) → a * 2 ^ j ≡ b * 2 ^ k → a % 2 ≡ 1 → b % 2 ≡ 1 → a ≡ b
halves a b zero zero e h g = omega (arith, e)
halves a b zero (suc k) e h g =
    let p : b * 2 ^ suc k ≡ b * 2 ^ k * 2 = ap (λ x. b * x) (pow-suc 2 k) ∙ twice b (2 ^ k) in
    absurd (omega (arith, e, p, h))
halves a b (suc j) zero e h g =
    let p : a * 2 ^ suc j ≡ a * 2 ^ j * 2 = ap (λ x. a * x) (pow-suc 2 j) ∙ twice a (2 ^ j) in
    absurd (omega (arith, e, p, g))
halves a b (suc j) (suc k) e h g =
    let p : a * 2 ^ suc j ≡ a * 2 ^ j * 2 = ap (λ x. a * x) (pow-suc 2 j) ∙ twice a (2 ^ j) in
    let q : b * 2 ^ suc k ≡ b * 2 ^ k * 2 = ap (λ x. b * x) (pow-suc 2 k) ∙ twice b (2 ^ k) in
    halves a b j k (omega (arith, e, p, q)) h g

pub odd_one : (n a b : ℕ) → IsOddPart n a → IsOddPart n b → a ≡ b
odd_one n a b (j, e, h) (k, f, g) = halves a b j k (sym e ∙ f) h g

-- ---- the grid and the ratio

pub grid_one : (odd : ℕ) (ts : List Token) (a b : ℕ) → IsGrid odd ts a → IsGrid odd ts b → a ≡ b
grid_one odd ts a b h k = dvd_antisymm (k.greatest a h.odd_part h.places) (h.greatest b k.odd_part k.places)

power_one : (n a b : ℕ) → IsGreatestPower n a → IsGreatestPower n b → a ≡ b
power_one n a b h k =
    let up = power_largest n k.0.0 a (omega (arith, k.0.1, k.2)) h.0 h.1 in
    let down = power_largest n h.0.0 b (omega (arith, h.0.1, h.2)) k.0 k.1 in
    omega (arith, up, down, h.0.1, k.0.1)

-- ---- the notes

notes_one : (grid whole : ℕ) (ts : List Token) (ns ms : List Note) → 1 ≤ whole → AreNotes grid whole ts ns → AreNotes grid whole ts ms → ns ≡ ms
notes_one grid whole [] ns ms some h k = h ∙ sym k
notes_one grid whole (t ∷ ts) ns ms some (vs, rest, values, are, is) (us, left, others, too, same) =
    let one = values_one ((t.end - t.start) / grid) whole vs us some values others in
    let two = notes_one grid whole ts rest left some are too in
    is ∙ (λ i. token_notes grid whole t true (one i) ++ two i) ∙ sym same

same_group : (g k : Group) → g.ratio.actual ≡ k.ratio.actual → g.ratio.normal ≡ k.ratio.normal → g.notes ≡ k.notes → g ≡ k
same_group g k a n e = λ i. record { ratio = record { actual = a i; normal = n i }; notes = e i }

abbrev AreSpelled : ℕ → ℕ → List Token → List Note → ℕ → ℕ → ℕ → Type 0
AreSpelled r odd ts notes grid actual normal = AreNotes grid (spelled_whole r odd normal) (joined_ties actual grid (spelled_whole r odd normal) ts) notes

pub group_one : (r odd : ℕ) (ts : List Token) (g k : Group) → 1 ≤ r → IsOddPart r odd → IsGroup r odd ts g → IsGroup r odd ts k → g ≡ k
group_one r odd ts g k some part h j =
    let grid = grid_one odd ts h.grid j.grid h.is_grid j.is_grid in
    let grid_pos = grid_some odd j.grid (odd_some r odd part) j.is_grid.odd_part in
    let product : g.ratio.actual * j.grid ≡ k.ratio.actual * j.grid = ap (λ x. g.ratio.actual * x) (sym grid) ∙ sym h.actual ∙ j.actual in
    let actual = eq_of_mul-eq-mul_right j.grid grid_pos g.ratio.actual k.ratio.actual product in
    let normal = power_one k.ratio.actual g.ratio.normal k.ratio.normal (subst (λ x. IsGreatestPower x g.ratio.normal) actual h.normal) j.normal in
    let whole = whole_some r odd k.ratio.normal some part j.normal.0 in
    let one = subst (λ x. AreSpelled r odd ts g.notes x g.ratio.actual g.ratio.normal) grid h.notes in
    let two = subst (λ x. AreSpelled r odd ts g.notes j.grid x g.ratio.normal) actual one in
    let three = subst (λ x. AreSpelled r odd ts g.notes j.grid k.ratio.actual x) normal two in
    same_group g k actual normal
    (notes_one j.grid (spelled_whole r odd k.ratio.normal) (joined_ties k.ratio.actual j.grid (spelled_whole r odd k.ratio.normal) ts) g.notes k.notes
    whole three j.notes)

-- ---- the groups of a bar, and of a voice

pub bar_one : (r : ℕ) (bar : ScoreBar) (after : Bool) (sounds : List Sound) (gs ks : List Group) → 1 ≤ r → IsScoreBar bar
    → AreBarGroups r bar after sounds gs → AreBarGroups r bar after sounds ks → gs ≡ ks
bar_one r bar after sounds gs ks some h (vs, a, values, odd, are) (us, b, others, part, too) =
    let one = bar_values_one r bar sounds vs us (some_whole r bar some h) values others in
    let two = odd_one r a b odd part in
    let first = subst (λ x. Each (IsGroup r x) (grouped r x bar (bar_tokens r x bar after vs)) gs) two are in
    let all = subst (λ ws. Each (IsGroup r b) (grouped r b bar (bar_tokens r b bar after ws)) gs) one first in
    each_one (IsGroup r b) (λ ts. Unit {0}) (grouped r b bar (bar_tokens r b bar after us)) gs ks (λ ts g k _. group_one r b ts g k some part)
    (λ i d lt. tt) all too

pub voice_one :
    (r n : ℕ) (bars : List ScoreBar) (sounds : List Sound) (gs ks : List (List Group)) → 1 ≤ r → All IsScoreBar bars → AreVoiceGroups r n bars sounds gs
    → AreVoiceGroups r n bars sounds ks → gs ≡ ks
voice_one r n [] sounds gs ks some all h k = h ∙ sym k
voice_one r n (bar ∷ bars) sounds [] ks some all h k = absurd h
voice_one r n (bar ∷ bars) sounds (g ∷ gs) [] some all h k = absurd k
voice_one r n (bar ∷ bars) sounds (g ∷ gs) (k ∷ ks) some all h j =
    let one = bar_one r bar (begins_with_tie (sounds_in_bar (suc n) sounds)) (sounds_in_bar n sounds) g k some (All-head IsScoreBar bar bars all) h.0 j.0 in
    let two = voice_one r (suc n) bars sounds gs ks some (All-tail IsScoreBar bar bars all) h.1 j.1 in
    λ i. one i ∷ two i

pub groups_one : VoiceGroupsAreOne
groups_one = record { of_bar = bar_one; of_voice = λ r bars sounds gs ks. voice_one r 0 bars sounds gs ks }
