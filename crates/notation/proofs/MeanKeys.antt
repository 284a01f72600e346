-- The keys of chords, their number and their sum.
use Rattle.std.proofs.Common.{◌≡◌, ℕ, suc, ◌+◌, ◌*◌, ◌<◌, ◌≤◌, List, [], ◌∷◌, ◌++◌, append-nil, get_or, length, length-append, take, sym, ap, ◌∙◌, arith}
use Rattle.std.specs.Prelude.{sum}
use Rattle.std.proofs.lemmas.List.{take_more}
use Rattle.std.proofs.lemmas.List.Concat.{flat_map-append}
use Rattle.std.proofs.lemmas.List.Sums.{sum_by-append, sum_by-cons}
use Rattle.rhythm_base.specs.declared.sound.Sound.{Sound}
use Rattle.score_words.specs.Keys.{rising_keys}
use Rattle.score_words.proofs.KeyBits.{rising_few}
use Rattle.score_words.proofs.SetKeys.{KeysRise, keys_rise}
use Rattle.notation.specs.Clefs.{begun_keys, chord_keys}

pub sum_next : (k : ℕ) (ks : List ℕ) → sum (k ∷ ks) ≡ k + sum ks
sum_next k ks = sum_by-cons (λ x. x) k ks

sum_low : (low : ℕ) (ks : List ℕ) → KeysRise low ks → sum ks ≤ 128 * length ks
sum_low low [] rise = omega arith
sum_low low (k ∷ ks) rise = omega (arith, sum_next k ks, sum_low (suc k) ks rise.2, rise.1)

-- the keys of a chord are at most 128, each below 128
pub chord_few : (keys : ℕ) → (length (rising_keys keys) ≤ 128) × (sum (rising_keys keys) ≤ 16384)
chord_few keys =
    let few = rising_few keys in
    let low = sum_low 0 (rising_keys keys) (keys_rise keys) in
    (few, omega (arith, few, low))

-- ---- one sound more

chords_more : (sounds : List Sound) (i : ℕ) (s : Sound) → i < length sounds → s ≡ get_or sounds i s
    → chord_keys (take (i + 1) sounds) ≡ chord_keys (take i sounds) ++ begun_keys s
chords_more sounds i s within is =
    ap chord_keys (take_more sounds i s within) ∙ flat_map-append begun_keys (take i sounds) (get_or sounds i s ∷ [])
    ∙ ap (λ ks. chord_keys (take i sounds) ++ ks) (append-nil (begun_keys (get_or sounds i s)) ∙ ap begun_keys (sym is))

pub count_more : (sounds : List Sound) (i : ℕ) (s : Sound) → i < length sounds → s ≡ get_or sounds i s
    → length (chord_keys (take (i + 1) sounds)) ≡ length (chord_keys (take i sounds)) + length (begun_keys s)
count_more sounds i s within is = ap length (chords_more sounds i s within is) ∙ length-append (chord_keys (take i sounds)) (begun_keys s)

pub total_more : (sounds : List Sound) (i : ℕ) (s : Sound) → i < length sounds → s ≡ get_or sounds i s
    → sum (chord_keys (take (i + 1) sounds)) ≡ sum (chord_keys (take i sounds)) + sum (begun_keys s)
total_more sounds i s within is = ap sum (chords_more sounds i s within is) ∙ sum_by-append (λ x. x) (chord_keys (take i sounds)) (begun_keys s)
