-- One pass over the chords of a voice: those before a barline, and those from there on.
use Rattle.std.proofs.Common.{◌≡◌, ℕ, suc, ◌+◌, ◌-◌, ◌<◌, ◌≤◌, Bool, true, false, ◌&&◌, nat_lt, nat_le, List, [], ◌∷◌, ◌++◌, length, map, take, drop, min, refl, sym, ap, ◌∙◌, subst, not, arith, Some, None, if◌then◌else◌}
use Rattle.std.specs.Prelude.{All, filter, unwrap_or}
use Rattle.std.specs.List.{position, position_or_len}
use Rattle.std.proofs.lemmas.Bool.Decides.{nat_tests}
use Rattle.std.proofs.lemmas.List.Sums.{prefix_len-le-length}
use Rattle.std.proofs.lemmas.List.{map-append}
use Rattle.std.proofs.lemmas.List.Elements.{All-nil}
use Rattle.rhythm_base.specs.declared.chord.Chord.{Chord}
use Rattle.rhythm_base.specs.declared.inner.Inner.{Inner}
use Rattle.rhythm_base.specs.BarInput.{IsInner}
use Rattle.rhythm_base.specs.Lists.{last_end}
use Rattle.rhythm_base.specs.Cells.{has_onset, within_bar}
use Rattle.rhythm_base.specs.Leaves.{VoiceBar, soundings}
use Rattle.rhythm_base.specs.Line.{Rising}
use Rattle.rhythm_base.proofs.OrderedLists.{all_cons, all_head, all_tail}
use Rattle.rhythm_base.proofs.LastEnds.{last_end-append}
use Rattle.bar_cut.specs.Cuts.{AreInside, Rises, moved_all}

abbrev pub is_before : ℕ → Chord → Bool
is_before t c = nat_lt c.onset t

abbrev pub is_from : ℕ → Chord → Bool
is_from t c = nat_le t c.onset

-- ---- rising onsets

rises_from : (a b : ℕ) (cs : List Chord) → b ≤ a → Rises a cs → Rises b cs
rises_from a b [] le r = tt
rises_from a b (c ∷ cs) le r = (omega (arith, le, r.0), r.1)

rises_filtered : (p : Chord → Bool) (low : ℕ) (c : Chord) (cs : List Chord) (b : Bool) → low ≤ c.onset → Rises (c.onset + 1) (filter p cs)
    → Rises low (if b then c ∷ filter p cs else filter p cs)
rises_filtered p low c cs true le r = (le, r)
rises_filtered p low c cs false le r = rises_from (c.onset + 1) low (filter p cs) (omega (arith, le)) r

pub rises-filter : (p : Chord → Bool) (low : ℕ) (cs : List Chord) → Rises low cs → Rises low (filter p cs)
rises-filter p low [] r = tt
rises-filter p low (c ∷ cs) r = rises_filtered p low c cs (p c) r.0 (rises-filter p (c.onset + 1) cs r.1)

-- where all begin from a tick on, none is before it
none_before : (t low : ℕ) (cs : List Chord) → t ≤ low → Rises low cs → (filter (is_before t) cs ≡ []) × (filter (is_from t) cs ≡ cs)
none_before t low [] le r = (refl, refl)
none_before t low (c ∷ cs) le r =
    let no : is_before t c ≡ false = grind (arith, nat_tests, le, r.0) in
    let is : is_from t c ≡ true = grind (arith, nat_tests, le, r.0) in
    let rest = none_before t (c.onset + 1) cs (omega (arith, le, r.0)) r.1 in (
      ap (λ b. if b then c ∷ filter (is_before t) cs else filter (is_before t) cs) no ∙ rest.0,
      ap (λ b. if b then c ∷ filter (is_from t) cs else filter (is_from t) cs) is ∙ ap (λ l. c ∷ l) rest.1,
    )

-- ---- the first that is not before a tick

place_of : (p : Chord → Bool) (cs : List Chord) → unwrap_or (position p cs) (length cs) ≡ position_or_len p cs
place_of p cs = by (nat_lt (position_or_len p cs) (length cs)) refl
  where
    by : (b : Bool) → nat_lt (position_or_len p cs) (length cs) ≡ b → unwrap_or (if b then Some (position_or_len p cs) else None) (length cs) ≡ position_or_len p cs
    by true is = refl
    by false is = let most = prefix_len-le-length (λ x. not (p x)) cs in grind (arith, nat_tests, is, most)

-- the chords before a tick, and the others, lie side by side
abbrev Parted : ℕ → List Chord → ℕ → Type 0
Parted t cs n = (take n cs ≡ filter (is_before t) cs) × (drop n cs ≡ filter (is_from t) cs)

not_before : (t : ℕ) (c : Chord) → is_from t c ≡ true → is_before t c ≡ false
not_before t c h = grind (arith, nat_tests, h)

is_earlier : (t : ℕ) (c : Chord) → is_from t c ≡ false → is_before t c ≡ true
is_earlier t c h = grind (arith, nat_tests, h)

parted_first : (t low : ℕ) (cs : List Chord) → Rises low cs → Parted t cs (position_or_len (is_from t) cs)
parted_first t low [] r = (refl, refl)
parted_first t low (c ∷ cs) r = by (is_from t c) refl (parted_first t (c.onset + 1) cs r.1)
  where
    by : (b : Bool) → is_from t c ≡ b → Parted t cs (position_or_len (is_from t) cs) → Parted t (c ∷ cs) (if not b then 1 + position_or_len (is_from t) cs else 0)
    by true is rest =
        let all = none_before t c.onset (c ∷ cs) (grind (arith, nat_tests, is)) (omega arith, r.1) in
        (sym all.0, sym all.1)
    by false is rest =
        let n : ℕ = position_or_len (is_from t) cs in
        let one : suc n ≡ 1 + n = omega arith in
        let next : Parted t (c ∷ cs) (suc n) = (
          ap (λ l. c ∷ l) rest.0 ∙ ap (λ b. if b then c ∷ filter (is_before t) cs else filter (is_before t) cs) (sym (is_earlier t c is)),
          rest.1 ∙ ap (λ b. if b then c ∷ filter (is_from t) cs else filter (is_from t) cs) (sym is),
        ) in
        subst (Parted t (c ∷ cs)) one next

pub parted : (t low : ℕ) (cs : List Chord) → Rises low cs → Parted t cs (unwrap_or (position (is_from t) cs) (length cs))
parted t low cs r = subst (Parted t cs) (sym (place_of (is_from t) cs)) (parted_first t low cs r)

-- ---- two barlines

from_later : (s t : ℕ) (c : Chord) → s ≤ t → is_from t c ≡ true → is_from s c ≡ true
from_later s t c le h = grind (arith, nat_tests, h, le)

-- those from a later tick on are among those from an earlier one on
pub from-from : (s t : ℕ) (cs : List Chord) → s ≤ t → filter (is_from t) (filter (is_from s) cs) ≡ filter (is_from t) cs
from-from s t [] le = refl
from-from s t (c ∷ cs) le = by (is_from s c) (is_from t c) refl refl (from-from s t cs le)
  where
    by : (a b : Bool) → is_from s c ≡ a → is_from t c ≡ b → filter (is_from t) (filter (is_from s) cs) ≡ filter (is_from t) cs
        → filter (is_from t) (if a then c ∷ filter (is_from s) cs else filter (is_from s) cs) ≡ (if b then c ∷ filter (is_from t) cs else filter (is_from t) cs)
    by true true is is' rest = ap (λ b. if b then c ∷ filter (is_from t) (filter (is_from s) cs) else filter (is_from t) (filter (is_from s) cs)) is' ∙ ap (λ l. c ∷ l) rest
    by true false is is' rest = ap (λ b. if b then c ∷ filter (is_from t) (filter (is_from s) cs) else filter (is_from t) (filter (is_from s) cs)) is' ∙ rest
    by false true is is' rest = let wrong = from_later s t c le is' in absurd (cc)
    by false false is is' rest = rest

-- the chords of a bar as the bar sees them
pub own : (bar : VoiceBar) (t : ℕ) (cs : List Chord) → bar.start + bar.length ≡ t
    → moved_all bar.start bar.length (filter (is_before t) (filter (is_from bar.start) cs)) ≡ map (within_bar bar) (filter (λ c. has_onset bar c.onset) (soundings cs))
own bar t [] end = refl
own bar t (c ∷ cs) end =
    by (is_from bar.start c) (is_before t c) refl (own bar t cs end)
    ∙ ap (λ b. map (within_bar bar) (if is_from bar.start c && b then record { onset = c.onset; end = c.end } ∷ others else others)) (ap (λ u. nat_lt c.onset u) (sym end))
  where
    others : List Inner
    others = filter (λ c. has_onset bar c.onset) (soundings cs)

    rest : List Chord
    rest = filter (is_from bar.start) cs

    by : (a b : Bool) → is_before t c ≡ b → moved_all bar.start bar.length (filter (is_before t) (filter (is_from bar.start) cs)) ≡ map (within_bar bar) (filter (λ c. has_onset bar c.onset) (soundings cs))
        → moved_all bar.start bar.length (filter (is_before t) (if a then c ∷ filter (is_from bar.start) cs else filter (is_from bar.start) cs))
        ≡ map (within_bar bar) (if a && b then record { onset = c.onset; end = c.end } ∷ filter (λ c. has_onset bar c.onset) (soundings cs) else filter (λ c. has_onset bar c.onset) (soundings cs))
    by true true is same =
        ap (λ b. moved_all bar.start bar.length (if b then c ∷ filter (is_before t) (filter (is_from bar.start) cs) else filter (is_before t) (filter (is_from bar.start) cs))) is
        ∙ ap (λ l. record { onset = c.onset - bar.start; end = min (c.end - bar.start) bar.length } ∷ l) same
    by true false is same =
        ap (λ b. moved_all bar.start bar.length (if b then c ∷ filter (is_before t) (filter (is_from bar.start) cs) else filter (is_before t) (filter (is_from bar.start) cs))) is
        ∙ same
    by false b is same = same

-- ---- the chord before a barline

-- those before a tick are those before an earlier one, and then those between
before-parts : (s t low : ℕ) (cs : List Chord) → s ≤ t → Rises low cs → filter (is_before t) cs ≡ filter (is_before s) cs ++ filter (is_before t) (filter (is_from s) cs)
before-parts s t low [] le r = refl
before-parts s t low (c ∷ cs) le r = by (is_from s c) refl (before-parts s t (c.onset + 1) cs le r.1)
  where
    by : (a : Bool) → is_from s c ≡ a → filter (is_before t) cs ≡ filter (is_before s) cs ++ filter (is_before t) (filter (is_from s) cs)
        → (if is_before t c then c ∷ filter (is_before t) cs else filter (is_before t) cs)
        ≡ (if is_before s c then c ∷ filter (is_before s) cs else filter (is_before s) cs) ++ filter (is_before t) (if a then c ∷ filter (is_from s) cs else filter (is_from s) cs)
    by true is same =
        let all = none_before s (c.onset + 1) cs (grind (arith, nat_tests, is)) r.1 in
        let none : (if is_before s c then c ∷ filter (is_before s) cs else filter (is_before s) cs) ≡ [] = ap (λ b. if b then c ∷ filter (is_before s) cs else filter (is_before s) cs) (not_before s c is) ∙ all.0 in
        ap (λ l. if is_before t c then c ∷ filter (is_before t) l else filter (is_before t) l) (sym all.1)
        ∙ ap (λ l. l ++ filter (is_before t) (c ∷ filter (is_from s) cs)) (sym none)
    by false is same =
        let early : is_before s c ≡ true = is_earlier s c is in
        let also : is_before t c ≡ true = grind (arith, nat_tests, early, le) in
        ap (λ b. if b then c ∷ filter (is_before t) cs else filter (is_before t) cs) also ∙ ap (λ l. c ∷ l) same
        ∙ ap (λ b. (if b then c ∷ filter (is_before s) cs else filter (is_before s) cs) ++ filter (is_before t) (filter (is_from s) cs)) (sym early)

abbrev pub end_before : ℕ → List Chord → ℕ
end_before t cs = last_end 0 (map (λ c. c.end) (filter (is_before t) cs))

pub end_before-next : (s t low : ℕ) (cs : List Chord) → s ≤ t → Rises low cs
    → last_end (end_before s cs) (map (λ c. c.end) (filter (is_before t) (filter (is_from s) cs))) ≡ end_before t cs
end_before-next s t low cs le r =
    let E : List Chord → List ℕ = map (λ c. c.end) in
    sym (last_end-append 0 (E (filter (is_before s) cs)) (E (filter (is_before t) (filter (is_from s) cs))))
    ∙ ap (last_end 0) (sym (map-append (λ c. c.end) (filter (is_before s) cs) (filter (is_before t) (filter (is_from s) cs))))
    ∙ ap (λ l. last_end 0 (E l)) (sym (before-parts s t low cs le r))

-- the same end, of the chords by their onsets and ends
pub before-soundings : (t : ℕ) (cs : List Chord) → map (λ c. c.end) (filter (λ c. nat_lt c.onset t) (soundings cs)) ≡ map (λ c. c.end) (filter (is_before t) cs)
before-soundings t [] = refl
before-soundings t (c ∷ cs) = by (is_before t c) (before-soundings t cs)
  where
    by : (b : Bool) → map (λ c. c.end) (filter (λ c. nat_lt c.onset t) (soundings cs)) ≡ map (λ c. c.end) (filter (is_before t) cs)
        → map (λ c. c.end) (if b then record { onset = c.onset; end = c.end } ∷ filter (λ c. nat_lt c.onset t) (soundings cs) else filter (λ c. nat_lt c.onset t) (soundings cs))
        ≡ map (λ c. c.end) (if b then c ∷ filter (is_before t) cs else filter (is_before t) cs)
    by true same = ap (λ l. c.end ∷ l) same
    by false same = same

-- from tick 0 on no chord is before, and all are there
pub all_from_start : (low : ℕ) (cs : List Chord) → Rises low cs → (filter (is_before 0) cs ≡ []) × (filter (is_from 0) cs ≡ cs)
all_from_start low cs r = none_before 0 low cs (omega arith) r

-- ---- what a bar may hold

-- the chords of a bar rise, and each lies in it
pub rises-moved : (s l low : ℕ) (cs : List Chord) → s ≤ low → Rises low cs → Rising (low - s) (moved_all s l cs)
rises-moved s l low [] le r = tt
rises-moved s l low (c ∷ cs) le r =
    let next = rises-moved s l (c.onset + 1) cs (omega (arith, le, r.0)) r.1 in
    let same : c.onset + 1 - s ≡ c.onset - s + 1 = omega (arith, le, r.0) in
    (omega (arith, le, r.0), subst (λ n. Rising n (moved_all s l cs)) same next)

pub inner-moved : (s l : ℕ) (cs : List Chord) → AreInside s (s + l) cs → All (IsInner l) (moved_all s l cs)
inner-moved s l [] all = All-nil (IsInner l)
inner-moved s l (c ∷ cs) all =
    let it = all_head (λ c. (s ≤ c.onset) × (c.onset < s + l) × (c.onset ≤ c.end)) c cs all in
    all_cons (IsInner l) _ (moved_all s l cs) (record {
      onset = omega (arith, it.0, it.1);
      after = omega (arith, it.0, it.1, it.2);
      end = omega arith;
    }) (inner-moved s l cs (all_tail (λ c. (s ≤ c.onset) × (c.onset < s + l) × (c.onset ≤ c.end)) c cs all))
