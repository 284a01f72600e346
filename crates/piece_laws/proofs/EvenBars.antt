-- Bars of 4/4 and 1920 ticks.
use Rattle.std.proofs.Common.{◌≡◌, ℕ, zero, suc, ◌+◌, ◌-◌, ◌*◌, ◌/◌, ◌<◌, ◌≤◌, ◌^◌, List, [], ◌∷◌, length, map, take, refl, sym, ap, ◌∙◌, subst, Bool, true, false, ◌==◌, Option, Some, None, Ok, Err, inl, inr, arith}
use Rattle.std.specs.Prelude.{All, filter, if◌then◌else◌, nat_le}
use Rattle.std.specs.List.{range_with_len, slice_get}
use Rattle.std.proofs.lemmas.Bool.{cases_lt}
use Rattle.std.proofs.lemmas.List.{length-take-le}
use Rattle.std.proofs.lemmas.List.Elements.{All-filter}
use Rattle.std.proofs.lemmas.Option.{get_or_from_slice_get, slice_get_within}
use Rattle.rhythm_base.specs.Bars.{AreEnough, AreLaid, IsAtBarline, IsLaying, beats_of, fault_of, nominal_at, signature_at}
use Rattle.rhythm_base.specs.Lists.{last_of}
use Rattle.rhythm_base.specs.declared.bar_fault.BarFault.{BarFault}
use Rattle.rhythm_base.specs.declared.bar_fault.BarFault.TheVariants.{TooManyBars}
use Rattle.rhythm_base.specs.declared.limits.TheConstants.{MOST_BARS}
use Rattle.std.proofs.lemmas.Bool.Decides.{nat_tests}
use Rattle.rhythm_base.specs.Time.{in_force}
use Rattle.rhythm_base.specs.declared.event.Signature.{Signature}
use Rattle.rhythm_base.specs.declared.note.Bar.{Bar}

abbrev pub IsFourFour : Signature → Type 0
IsFourFour s = (s.num ≡ 4) × (s.dd ≡ 2)

-- what holds of all is true of the one at a place
got : {X : Type 0} (P : X → Type 0) (xs : List X) (k : ℕ) (x : X) → All P xs → slice_get xs k ≡ Some x → P x
got P xs k x all at = subst P (get_or_from_slice_get xs k x x at) (all k x (slice_get_within xs k x at))

-- where all signatures are 4/4, each bar is of 4/4
four_four : (signatures : List Signature) (b : ℕ) → All IsFourFour signatures → signature_at signatures b ≡ (4, 2)
four_four signatures b all = go (in_force (λ s. s.tick) signatures b) (λ s at. got IsFourFour here (length here - 1) s (All-filter (λ s. nat_le s.tick b) IsFourFour signatures all) at)
  where
    here : List Signature
    here = filter (λ s. nat_le s.tick b) signatures

    go : (o : Option Signature) → ((s : Signature) → o ≡ Some s → IsFourFour s) → beats_of o ≡ (4, 2)
    go None h = refl
    go (Some s) h = let four = h s refl in λ i. (four.0 i, four.1 i)

module _ (signatures : List Signature) (all : All IsFourFour signatures) where
  long : (b : ℕ) → nominal_at 480 signatures b ≡ 1920
  long b = ap (λ (s : ℕ × ℕ). (4 * 480 * s.0) / (2 ^ s.1)) (four_four signatures b all)

  -- bars end where their number says
  laid_end : (i b : ℕ) (bars : List Bar) (e : ℕ) → AreLaid 480 signatures i b bars e → e ≡ b + 1920 * length bars
  laid_end i b [] e h = omega (arith, h)
  laid_end i b (bar ∷ bars) e h = let rest = laid_end (i + 1) (b + nominal_at 480 signatures b) bars e h.2 in omega (arith, rest, long b)

  -- and each begins there
  laid_start : (i b : ℕ) (bars : List Bar) (e k : ℕ) (x : Bar) → AreLaid 480 signatures i b bars e → slice_get bars k ≡ Some x → x.start ≡ b + 1920 * k
  laid_start i b [] e k x h at = absurd (cc)
  laid_start i b (bar ∷ bars) e zero x h at =
      let same : bar ≡ x = cc in
      let start : bar.start ≡ b = ap (λ (y : Bar). y.start) h.1 in
      omega (arith, start, ap (λ (y : Bar). y.start) same)
  laid_start i b (bar ∷ bars) e (suc k) x h at =
      let rest = laid_start (i + 1) (b + nominal_at 480 signatures b) bars e k x h.2 at in
      omega (arith, rest, long b)

  -- they are the bars of a piece
  pub laid_bars : (i b : ℕ) (bars : List Bar) (e k : ℕ) → AreLaid 480 signatures i b bars e → b ≡ 1920 * k → bars ≡ map (λ j. record { start = 1920 * j; num = 4; den = 4 }) (range_with_len k (length bars))
  laid_bars i b [] e k h at = refl
  laid_bars i b (bar ∷ bars) e k h at =
      let four = four_four signatures b all in
      let here : bar ≡ record { start = 1920 * k; num = 4; den = 4 } = h.1 ∙ (λ t. record { start = at t; num = (four t).0; den = 2 ^ (four t).1 }) in
      let rest = laid_bars (i + 1) (b + nominal_at 480 signatures b) bars e (k + 1) h.2 (omega (arith, long b)) in
      λ t. here t ∷ rest t

  -- the first of the bars are bars too
  laid_first : (i b : ℕ) (bars : List Bar) (e k : ℕ) → AreLaid 480 signatures i b bars e → k ≤ length bars → AreLaid 480 signatures i b (take k bars) (b + 1920 * k)
  laid_first i b bars e zero h le = omega arith
  laid_first i b [] e (suc k) h le = absurd (omega arith)
  laid_first i b (bar ∷ bars) e (suc k) h le =
      let rest = laid_first (i + 1) (b + nominal_at 480 signatures b) bars e k h.2 (omega arith) in
      let same : b + nominal_at 480 signatures b + 1920 * k ≡ b + 1920 * suc k = omega (arith, long b) in
      (h.0, h.1, subst (λ f. AreLaid 480 signatures (i + 1) (b + nominal_at 480 signatures b) (take k bars) f) same rest)

  -- So many bars are enough where no note ends after the last barline, and the last onset is far before it.
  enough : (onset end n : ℕ) (bars : List Bar) → 1 ≤ n → length bars ≡ n → AreLaid 480 signatures 0 0 bars (1920 * n) → onset + 220 ≤ 1920 * n → end ≤ 1920 * n → AreEnough onset end bars (1920 * n)
  enough onset end n bars some count laid early ends = record { ends = ends; begins = omega arith; inside = go (last_of bars) refl }
    where
      go : (o : Option Bar) → last_of bars ≡ o → IsAtBarline onset o (1920 * n) → ⊥
      go None is at = at
      go (Some bar) is at = let start = laid_start 0 0 bars (1920 * n) (length bars - 1) bar laid is in omega (arith, start, count, at.0, at.1)

  -- the bars are as many as the last onset wants
  pub so_many : (onset end n : ℕ) (bars : List Bar) (last : ℕ) → 1 ≤ n → 1920 * (n - 1) ≤ onset → onset + 220 ≤ 1920 * n → end ≤ 1920 * n → IsLaying 480 signatures onset end (Ok (bars, last)) → (length bars ≡ n) × (last ≡ 1920 * n)
  so_many onset end n bars last some late early ends h =
      let at = laid_end 0 0 bars last h.0 in
      let begins : onset < last = h.1.begins in
      let least : n ≤ length bars = omega arith in
      elim (cases_lt n (length bars)) [
        | inl more ↦ (
            let zero_first : 0 + 1920 * n ≡ 1920 * n = omega arith in
            let part : AreLaid 480 signatures 0 0 (take n bars) (1920 * n) = subst (λ f. AreLaid 480 signatures 0 0 (take n bars) f) zero_first (laid_first 0 0 bars last n h.0 least) in
            absurd (h.2 n more (1920 * n) part (enough onset end n (take n bars) some (length-take-le n bars least) part early ends)))
        | inr few ↦ (let same : length bars ≡ n = omega arith in (same, omega arith))
      ]

  -- and laying them has no fault
  pub laid_without_fault : (onset end n : ℕ) (fault : BarFault) → 1 ≤ n → n ≤ 2000 → onset + 220 ≤ 1920 * n → end ≤ 1920 * n → IsLaying 480 signatures onset end (Err fault) → ⊥
  laid_without_fault onset end n fault some few early ends h =
      let bars = h.0 in
      let at : fault_of 480 (length bars) h.1 (4, 2) ≡ Some fault = ap (fault_of 480 (length bars) h.1) (sym (four_four signatures h.1 all)) ∙ h.4 in
      let many = too_many (length bars) h.1 fault at in
      let least : n ≤ length bars = omega (arith, many) in
      let zero_first : 0 + 1920 * n ≡ 1920 * n = omega arith in
      let part : AreLaid 480 signatures 0 0 (take n bars) (1920 * n) = subst (λ f. AreLaid 480 signatures 0 0 (take n bars) f) zero_first (laid_first 0 0 bars h.1 n h.2 least) in
      h.3 n least (1920 * n) part (enough onset end n (take n bars) some (length-take-le n bars least) part early ends)
    where
      too_many : (i b : ℕ) (fault : BarFault) → fault_of 480 i b (4, 2) ≡ Some fault → i ≡ MOST_BARS
      too_many i b fault at = go (i == MOST_BARS) refl at
        where
          go : (t : Bool) → (i == MOST_BARS) ≡ t → (if t then Some (TooManyBars b) else None) ≡ Some fault → i ≡ MOST_BARS
          go true is at = grind (arith, nat_tests)
          go false is at = absurd (cc)
