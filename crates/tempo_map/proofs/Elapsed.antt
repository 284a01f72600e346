-- The elapsed time at the changes of tempo, change after change.
use Rattle.std.proofs.Common.{◌≡◌, ℕ, suc, ◌+◌, ◌-◌, ◌*◌, ◌<◌, ◌≤◌, ◌^◌, List, [], ◌∷◌, ◌++◌, length, take, map, get_or, refl, sym, ap, ◌∙◌, subst, inl, inr, arith}
use Rattle.std.specs.Prelude.{slice_index}
use Rattle.std.specs.List.{AllWithin}
use Rattle.std.specs.List.Sorted.{IsNonDecreasing}
use Rattle.std.proofs.lemmas.Bool.{cases_lt}
use Rattle.std.proofs.lemmas.List.{get_or_default, get_or-map, length-map, get_or_append_left, length-append}
use Rattle.std.proofs.Math.Seq.{get_or-append_seam}
use Rattle.std.proofs.Math.Nat.{mul-le-mul_left}
use Rattle.rhythm_base.specs.declared.event.Tempo.{Tempo}
use Rattle.rhythm_base.specs.Lists.{last_of}
use Rattle.rhythm_base.specs.Time.{time, micros_or}
use Rattle.tempo_map.specs.TempoMap.{AreUpTo, IsElapsedAt, AreElapsed}
use Rattle.tempo_map.proofs.InForce.{by_tick, time_from, last_taken}

abbrev pub tick_at : List Tempo → ℕ → ℕ
tick_at tempos k = slice_index (map (λ t. t.tick) tempos) k

-- the first k changes have their elapsed time; it is counted on from the last of them
pub record Counted (tempos : List Tempo) (times : List ℕ) (k tick micros now : ℕ) : Type 0 where
  pub before : (j : ℕ) → j < k → IsElapsedAt tempos times j (tick_at tempos j)
  pub long : length times ≡ k
  pub value : now ≡ time tempos tick
  pub small : now ≤ tick * 4294967295
  pub latest : tick ≤ 2000000000
  pub past : AllWithin (λ y. y.tick ≤ tick) tempos 0 k
  pub ahead : AllWithin (λ y. tick ≤ y.tick) tempos k (length tempos)
  pub tempo : micros ≡ micros_or (last_of (take k tempos))

pub counted_none : (tempos : List Tempo) → Counted tempos [] 0 0 500000 0
unfolding time
counted_none tempos = record {
  before = λ j h. absurd (omega arith);
  long = refl;
  value = refl;
  small = omega arith;
  latest = omega arith;
  past = λ j d l h. absurd (omega arith);
  ahead = λ j d l h. omega arith;
  tempo = refl;
}

-- the time of d ticks is small
pub time_small : (d micros : ℕ) → micros < 2 ^ 32 → d * micros ≤ d * 4294967295
time_small d micros h = let le : micros ≤ 4294967295 = omega arith in mul-le-mul_left d le

pushed_before : (tempos : List Tempo) (times : List ℕ) (j v tick : ℕ) → IsElapsedAt tempos times j tick → IsElapsedAt tempos (times ++ v ∷ []) j tick
pushed_before tempos times j v tick e = record {
  there = omega (arith, length-append times (v ∷ []), e.there);
  value = get_or_append_left times (v ∷ []) 0 j e.there ∙ e.value;
  small = let s = e.small in rw (get_or_append_left times (v ∷ []) 0 j e.there) s;
}

pushed_here : (tempos : List Tempo) (times : List ℕ) (k v tick : ℕ) → length times ≡ k → v ≡ time tempos tick → v ≤ tick * 4294967295 → IsElapsedAt tempos (times ++ v ∷ []) k tick
pushed_here tempos times k v tick long value small =
    let seam : slice_index (times ++ v ∷ []) k ≡ v = subst (λ n. slice_index (times ++ v ∷ []) n ≡ v) long (get_or-append_seam times v [] 0) in
    record {
      there = omega (arith, length-append times (v ∷ []), long);
      value = seam ∙ value;
      small = rw seam small;
    }

tick_is : (tempos : List Tempo) (k : ℕ) (x : Tempo) → k < length tempos → x ≡ get_or tempos k x → tick_at tempos k ≡ x.tick
tick_is tempos k x within is = get_or-map (λ (t : Tempo). t.tick) tempos k x 0 within ∙ ap (λ (t : Tempo). t.tick) (sym is)

pub counted_more : (tempos : List Tempo) (times : List ℕ) (k tick micros now v : ℕ) (x : Tempo) → IsNonDecreasing (map (λ t. t.tick) tempos) → Counted tempos times k tick micros now → k < length tempos → x ≡ get_or tempos k x → x.tick ≤ 2000000000 → micros < 2 ^ 32
    → v ≡ now + (x.tick - tick) * micros → Counted tempos (times ++ v ∷ []) (k + 1) x.tick x.micros v
counted_more tempos times k tick micros now v x order c within is early low e =
    let rises = by_tick (λ (t : Tempo). t.tick) tempos order in
    let same : (get_or tempos k x).tick ≡ x.tick = ap (λ (t : Tempo). t.tick) (sym is) in
    let le : tick ≤ x.tick = let a = c.ahead k x (omega arith) within in omega (arith, a, same) in
    let sum : tick + (x.tick - tick) ≡ x.tick = omega arith in
    let from = time_from tempos k tick (x.tick - tick) (omega arith) c.past (λ j d l h. let r = rises k j d l h in let s : (get_or tempos k d).tick ≡ x.tick = (sym (get_or-map (λ (t : Tempo). t.tick) tempos k d 0 within)) ∙ tick_is tempos k x within is in omega (arith, r, s, sum)) in
    let tempo : (x.tick - tick) * micros ≡ (x.tick - tick) * micros_or (last_of (take k tempos)) = ap (λ m. (x.tick - tick) * m) c.tempo in
    let value : v ≡ time tempos x.tick = e ∙ ap (λ n. n + (x.tick - tick) * micros) c.value ∙ ap (λ n. time tempos tick + n) tempo ∙ sym from ∙ ap (time tempos) sum in
    let small : v ≤ x.tick * 4294967295 = let s = time_small (x.tick - tick) micros low in omega (arith, s, e, c.small, le) in
    record {
      before = λ j h. elim (cases_lt j k) [
        | inl l ↦ pushed_before tempos times j v (tick_at tempos j) (c.before j l)
        | inr l ↦
            let at : j ≡ k = omega (arith, h, l) in
            subst (λ n. IsElapsedAt tempos (times ++ v ∷ []) n (tick_at tempos n)) (sym at)
            (subst (IsElapsedAt tempos (times ++ v ∷ []) k) (sym (tick_is tempos k x within is)) (pushed_here tempos times k v x.tick c.long value small))
      ];
      long = omega (arith, length-append times (v ∷ []), c.long);
      value = value;
      small = small;
      latest = early;
      past = λ j d l h. let r = rises j k d (omega arith) within in let s : (get_or tempos k d).tick ≡ x.tick = (sym (get_or-map (λ (t : Tempo). t.tick) tempos k d 0 within)) ∙ tick_is tempos k x within is in omega (arith, r, s);
      ahead = λ j d l h. let r = rises k j d (omega arith) h in let s : (get_or tempos k d).tick ≡ x.tick = (sym (get_or-map (λ (t : Tempo). t.tick) tempos k d 0 within)) ∙ tick_is tempos k x within is in omega (arith, r, s);
      tempo = let one : k + 1 ≡ suc k = omega arith in sym (ap (λ n. micros_or (last_of (take n tempos))) one ∙ ap micros_or (last_taken tempos k x within) ∙ ap (λ (t : Tempo). t.micros) (sym is));
    }

-- nothing of it overflows
pub counted_small : (tempos : List Tempo) (times : List ℕ) (k tick micros now : ℕ) (x : Tempo) → Counted tempos times k tick micros now → k < length tempos → x ≡ get_or tempos k x → x.tick ≤ 2000000000 → micros < 2 ^ 32 → now + (x.tick - tick) * micros < 2 ^ 64
counted_small tempos times k tick micros now x c within is early low =
    let same : (get_or tempos k x).tick ≡ x.tick = ap (λ (t : Tempo). t.tick) (sym is) in
    let le : tick ≤ x.tick = let a = c.ahead k x (omega arith) within in omega (arith, a, same) in
    let s = time_small (x.tick - tick) micros low in
    omega (arith, s, c.small, le)

-- a change that is too late ends it: so are those after it
pub counted_late : (tempos : List Tempo) (times : List ℕ) (k tick micros now : ℕ) (x : Tempo) → IsNonDecreasing (map (λ t. t.tick) tempos) → Counted tempos times k tick micros now → k < length tempos → x ≡ get_or tempos k x → 2000000000 < x.tick → AreElapsed tempos times
counted_late tempos times k tick micros now x order c within is late j h early =
    elim (cases_lt j k) [
      | inl l ↦ c.before j l
      | inr l ↦ absurd (
          let r = order k j 0 l (omega (arith, h, length-map tempos (λ (t : Tempo). t.tick))) in
          let s = tick_is tempos k x within is in
          omega (arith, r, s, early, late))
    ]

pub counted_all : (tempos : List Tempo) (times : List ℕ) (k tick micros now : ℕ) → Counted tempos times k tick micros now → length tempos ≤ k → AreElapsed tempos times
counted_all tempos times k tick micros now c over j h early = c.before j (omega (arith, h, over))

-- ---- counting on

pub from_zero : (tempos : List Tempo) (n t : ℕ) → n ≡ 0 → AreUpTo (λ y. y.tick) tempos t n → time tempos t ≡ t * 500000
unfolding time
from_zero tempos n t none up =
    let ahead : AllWithin (λ (y : Tempo). 0 + t ≤ y.tick) tempos 0 (length tempos) = λ j d l h. let a = up.ahead j d (omega (arith, none)) h in omega (arith, a) in
    let all : 0 + t ≡ t = omega arith in
    let from : time tempos (0 + t) ≡ 0 + t * 500000 = time_from tempos 0 0 t (omega arith) (λ j d l h. absurd (omega arith)) ahead in
    ap (time tempos) (sym all) ∙ from ∙ (omega arith)

pub record CountsOn (tempos : List Tempo) (times : List ℕ) (n t : ℕ) (x : Tempo) : Type 0 where
  pub there : n - 1 < length times
  pub past : x.tick ≤ t
  pub value : (e : ℕ) → e ≡ get_or times (n - 1) e → e + (t - x.tick) * x.micros ≡ time tempos t
  pub small : (e : ℕ) → e ≡ get_or times (n - 1) e → x.micros < 2 ^ 32 → e + (t - x.tick) * x.micros < 2 ^ 64

pub counts_on : (tempos : List Tempo) (times : List ℕ) (n t : ℕ) (x : Tempo) → (n ≡ 0 → ⊥) → t ≤ 2000000000 → IsNonDecreasing (map (λ t. t.tick) tempos) → AreElapsed tempos times → AreUpTo (λ y. y.tick) tempos t n → x ≡ get_or tempos (n - 1) x → CountsOn tempos times n t x
counts_on tempos times n t x some early order elapsed up is =
    let rises = by_tick (λ (t : Tempo). t.tick) tempos order in
    let within : n - 1 < length tempos = omega (arith, up.within) in
    let at : tick_at tempos (n - 1) ≡ x.tick = tick_is tempos (n - 1) x within is in
    let same : (get_or tempos (n - 1) x).tick ≡ x.tick = ap (λ (t : Tempo). t.tick) (sym is) in
    let past : x.tick ≤ t = let p = up.past (n - 1) x (omega arith) (omega arith) in omega (arith, p, same) in
    let known = elapsed (n - 1) within (omega (arith, at, past)) in
    let sum : x.tick + (t - x.tick) ≡ t = omega arith in
    let front : AllWithin (λ (y : Tempo). y.tick ≤ x.tick) tempos 0 n = λ j d l h. let r = rises j (n - 1) d (omega arith) within in let s : (get_or tempos (n - 1) d).tick ≡ x.tick = (sym (get_or-map (λ (t : Tempo). t.tick) tempos (n - 1) d 0 within)) ∙ at in omega (arith, r, s) in
    let back : AllWithin (λ (y : Tempo). x.tick + (t - x.tick) ≤ y.tick) tempos n (length tempos) = λ j d l h. let a = up.ahead j d l h in omega (arith, a, sum) in
    let from = time_from tempos n x.tick (t - x.tick) up.within front back in
    let one : n ≡ suc (n - 1) = omega arith in
    let tempo : micros_or (last_of (take n tempos)) ≡ x.micros = ap (λ k. micros_or (last_of (take k tempos))) one ∙ ap micros_or (last_taken tempos (n - 1) x within) ∙ ap (λ (t : Tempo). t.micros) (sym is) in
    let entry : (e : ℕ) → e ≡ get_or times (n - 1) e → e ≡ slice_index times (n - 1) = λ e he. he ∙ (get_or_default times (n - 1) e 0 known.there) in
    record {
      there = known.there;
      past = past;
      value = λ e he. ap (λ m. m + (t - x.tick) * x.micros) (entry e he ∙ known.value ∙ ap (time tempos) at) ∙ ap (λ m. time tempos x.tick + (t - x.tick) * m) (sym tempo) ∙ sym from ∙ ap (time tempos) sum;
      small = λ e he low. let s = time_small (t - x.tick) x.micros low in omega (arith, s, entry e he, known.small, at, past, early);
    }
