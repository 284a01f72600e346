-- The most grace chords of any voice, one voice after another.
use Rattle.std.proofs.Common.{◌≡◌, ◌≢◌, ℕ, ◌+◌, ◌≤◌, ◌<◌, List, [], below_more, get_or, length, map, set, take, sym, ap, ap₂, ◌∙◌, arith}
use Rattle.std.specs.Prelude.{max, replicate}
use Rattle.std.proofs.lemmas.List.{get_or-map, get_or-replicate, get_or-set_other, get_or-set_same, get_or_default, length-map, same_lists, take-map, take_all}
use Rattle.std.proofs.lemmas.List.FromFn.{get_or-map-range_with_len, length-map-range_with_len}
use Rattle.std.proofs.lemmas.List.Sums.{fold_more}
use Rattle.rhythm_base.specs.declared.sound.Sound.{Sound}
use Rattle.rhythm_base.specs.Lists.{greatest}
use Rattle.page_writer.specs.Graces.{begun_graces, most_graces, most_in_bars}

-- one voice more
pub most_more : (voices : List (List Sound)) (i k : ℕ) (sounds : List Sound) → i < length voices → sounds ≡ get_or voices i sounds
    → most_graces (take (i + 1) voices) k ≡ max (most_graces (take i voices) k) (begun_graces k sounds)
most_more voices i k sounds within is =
    let counts = map (begun_graces k) voices in
    let there : i < length counts = omega (arith, within, length-map voices (begun_graces k)) in
    ap greatest (sym (take-map (begun_graces k) (i + 1) voices)) ∙ fold_more (λ n m. max n m) 0 counts i 0 there
    ∙ ap₂ (λ n m. max n m) (ap greatest (take-map (begun_graces k) i voices))
    (get_or-map (begun_graces k) voices i sounds 0 within ∙ ap (begun_graces k) (sym is))

-- all voices
pub most_all : (voices : List (List Sound)) (i bars : ℕ) (most : List ℕ) → length voices ≤ i → length most ≡ bars
    → ((k : ℕ) → k < bars → get_or most k 0 ≡ most_graces (take i voices) k) → most ≡ most_in_bars voices bars
most_all voices i bars most past count each =
    same_lists most (most_in_bars voices bars) (count ∙ sym (length-map-range_with_len (most_graces voices) 0 bars))
    (λ k d within. same k d within (omega (arith, within, count)))
  where
    same : (k : ℕ) (d : ℕ) → k < length most → k < bars → get_or most k d ≡ get_or (most_in_bars voices bars) k d
    same k d within few =
        let e : 0 + k ≡ k = omega arith in
        get_or_default most k d 0 within ∙ each k few ∙ ap (λ vs. most_graces vs k) (take_all i voices past)
        ∙ sym (get_or-map-range_with_len (most_graces voices) 0 bars k k d few e)

pub most_none : (bars k : ℕ) → k < bars → get_or (replicate bars 0) k 0 ≡ most_graces [] k
most_none bars k within = get_or-replicate bars k 0 0 within

-- ---- the greater of two numbers at each place

pub raise_next : (old now own : List ℕ) (i count other : ℕ) → i < length now → count ≡ get_or now i 0 → other ≡ get_or own i 0
    → ((k : ℕ) → k < i → get_or now k 0 ≡ max (get_or old k 0) (get_or own k 0)) → ((k : ℕ) → i ≤ k → get_or now k 0 ≡ get_or old k 0)
    → ((k : ℕ) → k < i + 1 → get_or (set now i (max count other)) k 0 ≡ max (get_or old k 0) (get_or own k 0))
    × ((k : ℕ) → i + 1 ≤ k → get_or (set now i (max count other)) k 0 ≡ get_or old k 0)
raise_next old now own i count other within is is_other seen later = (
  below_more _ _
      (λ k less. let apart : k ≢ i = omega arith in get_or-set_other now i k (max count other) 0 apart ∙ seen k less)
      (get_or-set_same now i (max count other) 0 within ∙ ap₂ (λ m n. max m n) (is ∙ later i (omega arith)) is_other),
  λ k more. let apart : k ≢ i = omega arith in get_or-set_other now i k (max count other) 0 apart ∙ later k (omega (arith, more)),
)
