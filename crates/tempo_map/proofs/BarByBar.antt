-- Bars laid one after another.
use Rattle.std.proofs.Common.{◌≡◌, ℕ, zero, suc, ◌+◌, ◌-◌, ◌^◌, ◌<◌, ◌≤◌, List, [], ◌∷◌, ◌++◌, length, take, map, refl, sym, ap, ◌∙◌, subst, inl, inr, arith}
use Rattle.std.specs.Prelude.{Option, Some, None, slice_get, slice_index, All, Ok, Err}
use Rattle.std.specs.List.Sorted.{IsStrictlyIncreasing}
use Rattle.std.proofs.lemmas.Bool.{cases_lt}
use Rattle.std.proofs.lemmas.List.Elements.{All-cons}
use Rattle.std.proofs.lemmas.List.{take-append-le, length-append, take_all}
use Rattle.rhythm_base.specs.declared.bar_fault.BarFault.{BarFault}
use Rattle.rhythm_base.specs.declared.bar_fault.BarFault.TheVariants.{TooManyBars, BadSignature, UnevenBar, Memory}
use Rattle.rhythm_base.specs.declared.event.Signature.{Signature}
use Rattle.rhythm_base.specs.declared.note.Bar.{Bar}
use Rattle.rhythm_base.specs.Bars.{fault_at, signature_at, nominal_at, AreLaid, AreEnough, AreTooFew, IsAtBarline, IsLaying}
use Rattle.rhythm_base.specs.Performance.{IsBarOf}
use Rattle.rhythm_base.specs.Lists.{last_of}
use Rattle.tempo_map.specs.Laying.{AreBars, IsBarAt, Lays}
use Rattle.tempo_map.proofs.SoundBars.{no_fault, nominal_few, nominal_some}

-- the bars decide where they end
pub one_end : (d : ℕ) (s : List Signature) (i b : ℕ) (bars : List Bar) (e f : ℕ) → AreLaid d s i b bars e → AreLaid d s i b bars f → e ≡ f
one_end d s i b [] e f g h = sym g ∙ h
one_end d s i b (bar ∷ bars) e f g h = one_end d s (i + 1) (b + nominal_at d s b) bars e f g.2 h.2

pub laid_snoc : (d : ℕ) (s : List Signature) (i b : ℕ) (bars : List Bar) (e : ℕ) (bar : Bar) → AreLaid d s i b bars e → IsBarAt d s (i + length bars) e (Ok bar) → AreLaid d s i b (bars ++ bar ∷ []) (e + nominal_at d s e)
laid_snoc d s i b [] e bar h at =
    let here : i + 0 ≡ i = omega arith in (
      subst (λ n. fault_at d s i n ≡ None) (sym h) (subst (λ n. fault_at d s n e ≡ None) here at.0),
      subst (λ n. bar ≡ record { start = n; num = (signature_at s n).0; den = 2 ^ (signature_at s n).1 }) (sym h) at.1,
      ap (λ n. n + nominal_at d s n) h,
    )
laid_snoc d s i b (first ∷ bars) e bar h at =
    let moved : i + suc (length bars) ≡ i + 1 + length bars = omega arith in
    (h.0, h.1, laid_snoc d s (i + 1) (b + nominal_at d s b) bars e bar h.2 (subst (λ n. IsBarAt d s n e (Ok bar)) moved at))

-- the end is close to the start of the last bar
abbrev pub IsClose : Option Bar → ℕ → Type 0
IsClose None e = e ≡ 0
IsClose (Some bar) e = e ≤ bar.start + 8388352

pub last_snoc : {X : Type 0} (xs : List X) (x : X) → last_of (xs ++ x ∷ []) ≡ Some x
last_snoc [] x = refl
last_snoc (y ∷ []) x = refl
last_snoc (y ∷ z ∷ xs) x =
    let n = length (xs ++ x ∷ []) in
    let long : suc (suc n) - 1 ≡ suc n = omega arith in
    let short : suc n - 1 ≡ n = omega arith in
    ap (λ i. slice_get (y ∷ z ∷ (xs ++ x ∷ [])) i) long ∙ sym (ap (λ i. slice_get (z ∷ (xs ++ x ∷ [])) i) short) ∙ last_snoc (z ∷ xs) x

-- the bars so far, none of whose fronts is enough
pub record Laying (d : ℕ) (s : List Signature) (onset end : ℕ) (bars : List Bar) (e : ℕ) : Type 0 where
  pub laid : AreLaid d s 0 0 bars e
  pub few : (k : ℕ) → k < length bars → AreTooFew d s onset end bars k
  pub count : length bars ≤ 4096
  pub close : IsClose (last_of bars) e
  pub near : e ≤ 1016776704

pub laying_none : (d : ℕ) (s : List Signature) (onset end : ℕ) → Laying d s onset end [] 0
laying_none d s onset end = record { laid = refl; few = λ k h. absurd (omega arith); count = omega arith; close = refl; near = omega arith }

-- bars that are not enough are few
pub all_few : (d : ℕ) (s : List Signature) (onset end : ℕ) (bars : List Bar) (e : ℕ) → AreLaid d s 0 0 bars e → (AreEnough onset end bars e → ⊥) → AreTooFew d s onset end bars (length bars)
all_few d s onset end bars e laid more f there enough =
    let whole : take (length bars) bars ≡ bars = take_all (length bars) bars (omega arith) in
    let same : f ≡ e = one_end d s 0 0 bars f e (subst (λ l. AreLaid d s 0 0 l f) whole there) laid in
    more (subst (AreEnough onset end bars) same (subst (λ l. AreEnough onset end l f) whole enough))

-- bars that are not enough end before the last note, or just after it
not_far : (onset end : ℕ) (bars : List Bar) (e : ℕ) → onset ≤ end → end ≤ 1000000000 → IsClose (last_of bars) e → (AreEnough onset end bars e → ⊥) → e ≤ 1008388352
not_far onset end bars e le early close more =
    elim (cases_lt 1008388352 e) [
      | inl far ↦ absurd (more record { ends = omega arith; begins = omega arith; inside = λ at. inside (last_of bars) close at far })
      | inr near ↦ near
    ]
  where
    inside : (o : Option Bar) → IsClose o e → IsAtBarline onset o e → 1008388352 < e → ⊥
    inside None c at far = at
    inside (Some bar) c at far = let a : bar.start ≤ onset = at.0 in omega (arith, a, c)

pub laying_more : (d : ℕ) (s : List Signature) (onset end : ℕ) (bars : List Bar) (e : ℕ) (bar : Bar) → d ≤ 32767 → onset ≤ end → end ≤ 1000000000 → Laying d s onset end bars e → (AreEnough onset end bars e → ⊥) → IsBarAt d s (length bars) e (Ok bar)
    → Laying d s onset end (bars ++ bar ∷ []) (e + nominal_at d s e)
laying_more d s onset end bars e bar low le early h more at =
    let sound = no_fault d (length bars) e (signature_at s e) at.0 in
    let short = nominal_few d (length bars) (signature_at s e) sound low in
    let start : bar.start ≡ e = ap (λ (x : Bar). x.start) at.1 in
    let next : AreLaid d s 0 0 (bars ++ bar ∷ []) (e + nominal_at d s e) = laid_snoc d s 0 0 bars e bar h.laid (let z : 0 + length bars ≡ length bars = omega arith in subst (λ n. IsBarAt d s n e (Ok bar)) (sym z) at) in
    let far = not_far onset end bars e le early h.close more in
    record {
      laid = next;
      few = λ k lt. let within : k ≤ length bars = omega (arith, length-append bars (bar ∷ []), lt) in
          subst (λ l. (f : ℕ) → AreLaid d s 0 0 l f → AreEnough onset end l f → ⊥) (sym (take-append-le k bars (bar ∷ []) within))
          (elim (cases_lt k (length bars)) [
            | inl lt ↦ h.few k lt
            | inr ge ↦ (let at : length bars ≡ k = omega arith in subst (AreTooFew d s onset end bars) at (all_few d s onset end bars e h.laid more))
          ]);
      count = omega (arith, length-append bars (bar ∷ []), h.count, sound.number);
      close = rw (last_snoc bars bar) (omega (arith, start, short));
      near = omega (arith, far, short);
    }

-- ---- what a performance wants of them

-- each begins below the end and is sound
pub are_sound : (d : ℕ) (s : List Signature) (i b : ℕ) (bars : List Bar) (e : ℕ) → 1 ≤ d → AreLaid d s i b bars e → (b ≤ e) × All (IsBarOf d e) bars
are_sound d s i b [] e some h = (omega (arith, h), λ k x l. absurd (omega arith))
are_sound d s i b (bar ∷ bars) e some h =
    let sound = no_fault d i b (signature_at s b) h.0 in
    let long = nominal_some d i (signature_at s b) sound some in
    let rest = are_sound d s (i + 1) (b + nominal_at d s b) bars e some h.2 in
    let later : b < e = omega (arith, long, rest.0) in
    let P : Bar → Type 0 = IsBarOf d e in
    (omega arith, All-cons P bar bars (subst P (sym h.1) record { start = later; signature = sound.signature; whole = sound.whole }) rest.1)

pub first_start : (d : ℕ) (s : List Signature) (i b : ℕ) (bars : List Bar) (e : ℕ) → 1 ≤ length bars → AreLaid d s i b bars e → slice_index (map (λ x. x.start) bars) 0 ≡ b
first_start d s i b [] e some h = absurd (omega arith)
first_start d s i b (bar ∷ bars) e some h = ap (λ (x : Bar). x.start) h.1

pub starts_rise : (d : ℕ) (s : List Signature) (i b : ℕ) (bars : List Bar) (e : ℕ) → 1 ≤ d → AreLaid d s i b bars e → IsStrictlyIncreasing (map (λ x. x.start) bars)
starts_rise d s i b [] e some h = λ k l. absurd (omega arith)
starts_rise d s i b (bar ∷ []) e some h = λ k l. absurd (omega arith)
starts_rise d s i b (bar ∷ next ∷ bars) e some h = go (starts_rise d s (i + 1) (b + nominal_at d s b) (next ∷ bars) e some h.2)
  where
    later : b < next.start
    later =
        let sound = no_fault d i b (signature_at s b) h.0 in
        let long = nominal_some d i (signature_at s b) sound some in
        let there : next.start ≡ b + nominal_at d s b = ap (λ (x : Bar). x.start) h.2.1 in
        omega (arith, long, there)

    go : IsStrictlyIncreasing (map (λ x. x.start) (next ∷ bars)) → (k : ℕ) → k + 1 < length (map (λ x. x.start) (bar ∷ next ∷ bars)) → slice_index (map (λ x. x.start) (bar ∷ next ∷ bars)) k < slice_index (map (λ x. x.start) (bar ∷ next ∷ bars)) (k + 1)
    go rest zero l = let here : bar.start ≡ b = ap (λ (x : Bar). x.start) h.1 in omega (arith, later, here)
    go rest (suc k) l =
        let moved : suc k + 1 ≡ suc (k + 1) = omega arith in
        subst (λ n. slice_index (map (λ (x : Bar). x.start) (next ∷ bars)) k < slice_index (map (λ (x : Bar). x.start) (bar ∷ next ∷ bars)) n) (sym moved) (rest k (omega arith))

pub are_bars : (d : ℕ) (s : List Signature) (onset end : ℕ) (bars : List Bar) (e : ℕ) → 1 ≤ d → Laying d s onset end bars e → AreEnough onset end bars e → AreBars d bars e
are_bars d s onset end bars e some h enough =
    let one = some_bar bars h.laid enough.begins in
    record {
      some = one;
      few = h.count;
      each = (are_sound d s 0 0 bars e some h.laid).1;
      first = first_start d s 0 0 bars e one h.laid;
      rise = starts_rise d s 0 0 bars e some h.laid;
      last_barline = omega (arith, h.near);
    }
  where
    some_bar : (l : List Bar) → AreLaid d s 0 0 l e → onset < e → 1 ≤ length l
    some_bar [] there begins = absurd (omega (arith, there))
    some_bar (x ∷ l) there begins = omega arith

pub is_laying : (d : ℕ) (s : List Signature) (onset end : ℕ) (bars : List Bar) (e : ℕ) → Laying d s onset end bars e → AreEnough onset end bars e → IsLaying d s onset end (Ok (bars, e))
is_laying d s onset end bars e h enough = (h.laid, enough, h.few)

pub is_fault : (d : ℕ) (s : List Signature) (onset end : ℕ) (bars : List Bar) (e : ℕ) (fault : BarFault) → Laying d s onset end bars e → (AreEnough onset end bars e → ⊥) → fault_at d s (length bars) e ≡ Some fault → IsLaying d s onset end (Err fault)
is_fault d s onset end bars e fault h more at = (
  bars,
  e,
  h.laid,
  (λ k le. elim (cases_lt k (length bars)) [
    | inl lt ↦ h.few k lt
    | inr ge ↦ (let same : length bars ≡ k = omega arith in subst (AreTooFew d s onset end bars) same (all_few d s onset end bars e h.laid more))
  ]),
  at,
)

-- and so what laying comes to
pub lays_fault : (d : ℕ) (s : List Signature) (onset end : ℕ) (fault : BarFault) → IsLaying d s onset end (Err fault) → Lays d s onset end (Err fault)
lays_fault d s onset end (TooManyBars start) h = h
lays_fault d s onset end (BadSignature num dd) h = h
lays_fault d s onset end (UnevenBar bar num den) h = h
lays_fault d s onset end Memory h = tt
