-- Tables that are taken in runs, each run for a voice.
use Rattle.std.proofs.Common.{◌≡◌, ℕ, ◌+◌, ◌*◌, ◌<◌, ◌≤◌, List, [], ◌∷◌, ◌++◌, sym, ap, ◌∙◌, append_assoc, arith}
use Rattle.std.proofs.Math.Nat.{mul-le-mul_right}
use Rattle.std.specs.List.{flat_map}
use Rattle.std.proofs.lemmas.List.Concat.{flat_map-append}
use Rattle.rhythm_base.specs.BarTables.{BarTable}
use Rattle.rhythm_base.specs.Paths.{AreCheap}
use Rattle.chain_bars.specs.Laws.{matrices}
use Rattle.edit_session.specs.VoiceTables.{VoiceTables}

-- ---- the cheap tables of a run

pub cheap_front : (c : ℕ) (xs ys : List BarTable) → AreCheap c (matrices (xs ++ ys)) → AreCheap c (matrices xs)
cheap_front c [] ys h = tt
cheap_front c (x ∷ xs) ys h = (h.0, cheap_front c xs ys h.1)

pub cheap_rest : (c : ℕ) (xs ys : List BarTable) → AreCheap c (matrices (xs ++ ys)) → AreCheap c (matrices ys)
cheap_rest c [] ys h = h
cheap_rest c (x ∷ xs) ys h = cheap_rest c xs ys h.1

-- ---- one run more

pub run_more : (voices : List VoiceTables) (voice : VoiceTables) (own rest later all : List BarTable) → voice.tables ≡ own → rest ≡ own ++ later
    → flat_map (λ (v : VoiceTables). v.tables) voices ++ rest ≡ all → flat_map (λ (v : VoiceTables). v.tables) (voices ++ voice ∷ []) ++ later ≡ all
run_more voices voice own rest later all is parts h =
    let split = flat_map-append (λ (v : VoiceTables). v.tables) voices (voice ∷ []) in
    let tail : (own ++ []) ++ later ≡ own ++ later = append_assoc own [] later in
    ap (λ l. l ++ later) split
    ∙ append_assoc (flat_map (λ (v : VoiceTables). v.tables) voices) (voice.tables ++ []) later
    ∙ ap (λ l. flat_map (λ (v : VoiceTables). v.tables) voices ++ ((l ++ []) ++ later)) is
    ∙ ap (λ l. flat_map (λ (v : VoiceTables). v.tables) voices ++ l) (tail ∙ sym parts)
    ∙ h

-- there are enough tables for one run more
pub run_fits : (n voices bars rest : ℕ) → n < voices → n * bars + rest ≡ voices * bars → bars ≤ rest
run_fits n voices bars rest lt h =
    let more : (n + 1) * bars ≤ voices * bars = mul-le-mul_right bars (omega (arith, lt)) in
    omega (arith, more, h)

pub run_less : (n voices bars rest later : ℕ) → rest ≡ bars + later → n * bars + rest ≡ voices * bars → (n + 1) * bars + later ≡ voices * bars
run_less n voices bars rest later parts h = omega (arith, parts, h)
