-- Each voice has a list of groups.
use Rattle.std.proofs.Common.{◌≡◌, ℕ, zero, suc, ◌-◌, ◌*◌, ◌/◌, ◌%◌, ◌^◌, ◌<◌, ◌≤◌, Bool, true, List, [], ◌∷◌, ◌++◌, refl, sym, ap, ◌⊎◌, inl, inr, arith}
use Rattle.std.specs.Prelude.{All}
use Rattle.std.specs.Int.{IsGcd}
use Rattle.std.proofs.Math.Nat.{div-mul_cancel, pow-suc}
use Rattle.std.proofs.lemmas.Bool.{cases_lt}
use Rattle.std.proofs.lemmas.List.Elements.{All-head, All-tail}
use Rattle.std.proofs.lemmas.Nat.Gcd.{IsGcd-from_mod, IsGcd-from_zero}
use Rattle.rhythm_base.specs.declared.sound.Sound.{Sound}
use Rattle.durations.proofs.ValuesExist.{values_exist}
use Rattle.derivation.specs.declared.score.ScoreBar.{ScoreBar}
use Rattle.derivation.specs.Score.{IsScoreBar}
use Rattle.derivation.proofs.Pairs.{each_exist}
use Rattle.voice_values.specs.Ahead.{begins_with_tie}
use Rattle.voice_values.specs.Values.{sounds_in_bar}
use Rattle.voice_values.proofs.ValuesExist.{bar_values_exist}
use Rattle.voice_values.proofs.TimedSounds.{some_whole}
use Rattle.notation.specs.Bars.{AreBarGroups, AreVoiceGroups, grouped}
use Rattle.notation.specs.Laws.{VoiceGroupsExist}
use Rattle.notation.specs.Notes.{AreNotes, Group, IsGreatestPower, IsGrid, IsGroup, Note, joined_ties, spelled_whole, token_notes}
use Rattle.notation.specs.Places.{IsOddPart}
use Rattle.notation.specs.Tokens.{Token, bar_tokens}
use Rattle.notation.proofs.GridLemmas.{grid_front, grid_none}
use Rattle.notation.proofs.Spelled.{actual_some, odd_some, whole_some}

-- ---- the odd part, a common divisor, the greatest power of two

odd_exists : (fuel n : ℕ) → 1 ≤ n → n ≤ fuel → (odd : ℕ) × IsOddPart n odd
odd_exists zero n some le = absurd (omega (arith, some, le))
odd_exists (suc fuel) n some le = go (cases_lt (n % 2) 1) (λ more. odd_exists fuel (n / 2) more (omega (arith, some, le)))
  where
    doubled : (odd k : ℕ) → n % 2 < 1 → n / 2 ≡ odd * 2 ^ k → n ≡ odd * 2 ^ suc k
    doubled odd k even e =
        let next : 2 ^ suc k ≡ 2 ^ k * 2 = pow-suc 2 k in
        let t : odd * (2 ^ k * 2) ≡ odd * 2 ^ k * 2 = grind arith in
        omega (arith, e, even, t, ap (λ x. odd * x) next)

    go : (n % 2 < 1) ⊎ (1 ≤ n % 2) → (1 ≤ n / 2 → (odd : ℕ) × IsOddPart (n / 2) odd) → (odd : ℕ) × IsOddPart n odd
    go (inr h) half = (n, (0, omega arith, omega (arith, h)))
    go (inl h) half =
        let (odd, (k, e, part)) = half (omega (arith, some, h)) in
        (odd, (suc k, doubled odd k h e, part))

gcd_exists : (fuel a b : ℕ) → b < fuel → (g : ℕ) × IsGcd a b g
gcd_exists zero a b lt = absurd (omega (arith, lt))
gcd_exists (suc fuel) a zero lt = (a, IsGcd-from_zero a zero refl)
gcd_exists (suc fuel) a (suc b) lt =
    let next = gcd_exists fuel (suc b) (a % suc b) (omega (arith, lt)) in
    (next.0, IsGcd-from_mod a (suc b) next.0 next.1)

power_exists : (n : ℕ) → (p : ℕ) × IsGreatestPower (suc n) p
power_exists zero = (1, ((0, refl), omega arith, omega arith))
power_exists (suc n) =
    let h = power_exists n in
    go h.0 h.1.0.0 h.1.0.1 h.1.1 h.1.2 (cases_lt (suc (suc n)) (2 * h.0))
  where
    go : (p k : ℕ) → p ≡ 2 ^ k → p ≤ suc n → suc n < 2 * p → (suc (suc n) < 2 * p) ⊎ (2 * p ≤ suc (suc n)) → (q : ℕ) × IsGreatestPower (suc (suc n)) q
    go p k e le lt (inl h) = (p, ((k, e), omega (arith, le), h))
    go p k e le lt (inr h) = let next : 2 ^ suc k ≡ 2 ^ k * 2 = pow-suc 2 k in (2 * p, ((suc k, omega (arith, e, next)), h, omega (arith, lt)))

-- ---- a group

grid_exists : (odd : ℕ) (ts : List Token) → (grid : ℕ) × IsGrid odd ts grid
grid_exists odd [] = (odd, grid_none odd)
grid_exists odd (t ∷ ts) =
    let rest = grid_exists odd ts in
    let own = gcd_exists (suc t.end) t.start t.end (omega arith) in
    let all = gcd_exists (suc own.0) rest.0 own.0 (omega arith) in
    (all.0, grid_front odd t ts rest.0 own.0 all.0 rest.1 own.1 all.1)

notes_exist : (grid whole : ℕ) (ts : List Token) → 1 ≤ whole → (notes : List Note) × AreNotes grid whole ts notes
notes_exist grid whole [] some = ([], refl)
notes_exist grid whole (t ∷ ts) some =
    let values = values_exist ((t.end - t.start) / grid) whole some in
    let rest = notes_exist grid whole ts some in
    (token_notes grid whole t true values.0 ++ rest.0, (values.0, rest.0, values.1, rest.1, refl))

power_of : (n : ℕ) → 1 ≤ n → (p : ℕ) × IsGreatestPower n p
power_of zero some = absurd (omega (arith, some))
power_of (suc n) some = power_exists n

group_exists : (r odd : ℕ) (ts : List Token) → 1 ≤ r → IsOddPart r odd → (group : Group) × IsGroup r odd ts group
group_exists r odd ts some part =
    let grid = grid_exists odd ts in
    let o = odd / grid.0 in
    let p = power_of o (actual_some odd grid.0 (odd_some r odd part) grid.1.odd_part) in
    let w = spelled_whole r odd p.0 in
    let notes = notes_exist grid.0 w (joined_ties o grid.0 w ts) (whole_some r odd p.0 some part p.1.0) in (
      record { ratio = record { actual = o; normal = p.0 }; notes = notes.0 },
      record { grid = grid.0; is_grid = grid.1; actual = sym (div-mul_cancel grid.0 grid.1.odd_part); normal = p.1; notes = notes.1 },
    )

-- ---- a bar, and a voice

bar_exists : (r : ℕ) (bar : ScoreBar) (after : Bool) (sounds : List Sound) → 1 ≤ r → IsScoreBar bar
    → (groups : List Group) × AreBarGroups r bar after sounds groups
bar_exists r bar after sounds some h =
    let values = bar_values_exist r bar sounds (some_whole r bar some h) in
    let odd = odd_exists r r some (omega arith) in
    let lists = grouped r odd.0 bar (bar_tokens r odd.0 bar after values.0) in
    let groups = each_exist (IsGroup r odd.0) (λ ts. Unit {0}) lists (λ ts _. group_exists r odd.0 ts some odd.1) (λ i d lt. tt) in
    (groups.0, (values.0, odd.0, values.1, odd.1, groups.1))

voice_exists : (r n : ℕ) (bars : List ScoreBar) (sounds : List Sound) → 1 ≤ r → All IsScoreBar bars
    → (all : List (List Group)) × AreVoiceGroups r n bars sounds all
voice_exists r n [] sounds some all = ([], refl)
voice_exists r n (bar ∷ bars) sounds some all =
    let own = bar_exists r bar (begins_with_tie (sounds_in_bar (suc n) sounds)) (sounds_in_bar n sounds) some (All-head IsScoreBar bar bars all) in
    let rest = voice_exists r (suc n) bars sounds some (All-tail IsScoreBar bar bars all) in
    (own.0 ∷ rest.0, (own.1, rest.1))

pub groups_exist : VoiceGroupsExist
groups_exist = record { of_bar = bar_exists; of_voice = λ r bars sounds. voice_exists r 0 bars sounds }
