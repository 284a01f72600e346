-- An accepted script sets the barlines that it leads to, and changes nothing else.
use Rattle.std.proofs.Common.{◌≡◌, ℕ, zero, suc, ◌+◌, ◌-◌, ◌<◌, ◌≤◌, ◌⊎◌, inl, inr, List, [], ◌∷◌, ◌++◌, length, map, min, replicate, set, take, get_or, refl, ap, ap₂, sym, ◌∙◌, subst, arith, Ok}
use Rattle.std.specs.Prelude.{All, filter, Option, Some, None, reverse}
use Rattle.std.specs.List.{flat_map, fold, range_with_len}
use Rattle.std.proofs.lemmas.Bool.{cases_lt}
use Rattle.std.proofs.lemmas.List.{append-nil, append_assoc, get_or_default, length-append, length-set, length-take-le, map-append, take-take, take_at}
use Rattle.std.proofs.lemmas.List.Elements.{All-append, All-filter}
use Rattle.std.proofs.lemmas.Option.{slice_get-get_or}
use Rattle.rhythm_base.specs.declared.edit.Edit.{Edit}
use Rattle.rhythm_base.specs.declared.edit.Edit.TheVariants.{AddBar, DropBar}
use Rattle.rhythm_base.specs.declared.edit_fault.EditFault.{EditFault}
use Rattle.rhythm_base.specs.declared.note.Bar.{Bar}
use Rattle.rhythm_base.specs.Barlines.{nominal, nominal_of}
use Rattle.edit_laws.specs.Edits.{edit_tests, first_refusal, next_bar, performance_after, unless_refused, with_start}
use Rattle.rhythm_base.specs.Grammar.{Grammar}
use Rattle.rhythm_base.specs.Lists.{last_end}
use Rattle.rhythm_base.specs.Performance.{IsWellFormed, Performance}
use Rattle.rhythm_base.proofs.OrderedLists.{all_cons, all_head, all_tail}
use Rattle.barline_follow.specs.Bars.{barlines_of, bars_on, pattern_of, with_barlines}
use Rattle.barline_follow.specs.Script.{Leads, first_barlines, further, last_bar, last_barlines, pace, script}
use Rattle.barline_follow.specs.Stages.{Shift, aim, aims, all_stages, is_earlier, is_later, shift_line, shifts, stage, stage_count, stage_lines}
use Rattle.barline_follow.proofs.Further.{last_of_all, last_pushed, length-barlines, length-lengthened}
use Rattle.barline_follow.proofs.LaidBars.{after_added, after_barline, after_dropped, laid, on}
use Rattle.barline_follow.proofs.Shifted.{aims_first, aims_last, length-paired, no_stages, shifted, stage_shifted}
use Rattle.rhythm_base.proofs.ListParts.{all_reversed}

-- ---- edits one after another

abbrev after_all : Performance → List Edit → Performance
after_all p edits = fold performance_after p edits

after-append : (p : Performance) (xs ys : List Edit) → after_all p (xs ++ ys) ≡ after_all (after_all p xs) ys
after-append p [] ys = refl
after-append p (x ∷ xs) ys = after-append (performance_after p x) xs ys

is_after : (q next : Performance) (o : Option EditFault) → unless_refused q o ≡ Ok next → next ≡ q
is_after q next None h = let same : q ≡ next = cc in sym same
is_after q next (Some fault) h = absurd (cc)

-- edits that are accepted leave what they make
pub led : (g : Grammar) (p : Performance) (edits : List Edit) (q : Performance) → Leads g p edits q → q ≡ after_all p edits
led g p [] q h = h
led g p (edit ∷ edits) q h =
    let next : h.0 ≡ performance_after p edit = is_after (performance_after p edit) h.0 (first_refusal (edit_tests p edit)) h.1.1 in
    led g h.0 edits q h.2 ∙ ap (λ r. after_all r edits) next

module _ (p : Performance) (pat : ℕ → Bar) where
  abbrev at : List ℕ → Performance
  at ticks = on pat p ticks

  -- ---- stages

  after_shifts : (ss : List Shift) (ticks : List ℕ) → All (λ s. s.bar < length ticks) ss → after_all (at ticks) (map shift_line ss) ≡ at (shifted ticks ss)
  after_shifts [] ticks all = refl
  after_shifts (s ∷ ss) ticks all =
      let within : s.bar < length ticks = all_head (λ s. s.bar < length ticks) s ss all in
      let long : length (set ticks s.bar s.to) ≡ length ticks = length-set ticks s.bar s.to in
      ap (λ q. after_all q (map shift_line ss)) (after_barline pat p s.bar s.to ticks within)
      ∙ after_shifts ss (set ticks s.bar s.to)
      (subst (λ n. All (λ s. s.bar < n) ss) (sym long) (all_tail (λ s. s.bar < length ticks) s ss all))

  shifts_below : (most j : ℕ) (xs ys : List ℕ) → j + length xs ≤ most → All (λ s. s.bar < most) (shifts j xs ys)
  shifts_below most j [] ys h = λ k d lt. absurd (omega (arith, lt))
  shifts_below most j (x ∷ xs) [] h = λ k d lt. absurd (omega (arith, lt))
  shifts_below most j (x ∷ xs) (y ∷ ys) h =
      all_cons (λ s. s.bar < most) (record { bar = j; tick = x; to = y }) (shifts (suc j) xs ys) (omega (arith, h))
      (shifts_below most (suc j) xs ys (omega (arith, h)))

  after_stage : (ticks to : List ℕ) → length ticks ≡ length to → after_all (at ticks) (stage ticks to) ≡ at to
  after_stage ticks to long =
      let below : All (λ s. s.bar < length ticks) (shifts 0 ticks to) = shifts_below (length ticks) 0 ticks to (omega arith) in
      let later : List Shift = reverse (filter is_later (shifts 0 ticks to)) in
      let earlier : List Shift = filter is_earlier (shifts 0 ticks to) in
      ap (after_all (at ticks)) (sym (map-append shift_line later earlier))
      ∙ after_shifts (later ++ earlier) ticks
      (All-append (λ s. s.bar < length ticks) later earlier
      (all_reversed (λ s. s.bar < length ticks) (filter is_later (shifts 0 ticks to)) (All-filter is_later (λ s. s.bar < length ticks) (shifts 0 ticks to) below))
      (All-filter is_earlier (λ s. s.bar < length ticks) (shifts 0 ticks to) below))
      ∙ ap at (stage_shifted ticks to long)

  after_stages : (stages : ℕ) (ticks goal : List ℕ) → length ticks ≡ length goal → (a n : ℕ)
      → after_all (at (aims stages a ticks goal)) (flat_map (stage_lines stages ticks goal) (range_with_len a n)) ≡ at (aims stages (a + n) ticks goal)
  after_stages stages ticks goal long a zero = let same : a ≡ a + 0 = omega arith in ap (λ s. at (aims stages s ticks goal)) same
  after_stages stages ticks goal long a (suc n) =
      let first = length-paired (aim stages a) ticks goal long in
      let second = length-paired (aim stages (a + 1)) ticks goal long in
      let next : (a + 1) + n ≡ a + suc n = omega arith in
      after-append (at (aims stages a ticks goal)) (stage_lines stages ticks goal a) (flat_map (stage_lines stages ticks goal) (range_with_len (a + 1) n))
      ∙ ap (λ q. after_all q (flat_map (stage_lines stages ticks goal) (range_with_len (a + 1) n)))
      (after_stage (aims stages a ticks goal) (aims stages (a + 1) ticks goal) (first ∙ sym second))
      ∙ after_stages stages ticks goal long (a + 1) n
      ∙ ap (λ s. at (aims stages s ticks goal)) next

  staged_to : (most : ℕ) (ticks goal : List ℕ) → length ticks ≡ length goal
      → after_all (at ticks) (all_stages (stage_count most ticks goal) ticks goal) ≡ at goal
  staged_to most ticks goal long = by (cases_lt 0 (stage_count most ticks goal))
    where
      by : (0 < stage_count most ticks goal) ⊎ (stage_count most ticks goal ≤ 0)
          → after_all (at ticks) (all_stages (stage_count most ticks goal) ticks goal) ≡ at goal
      by (inl some) =
          let stages : ℕ = stage_count most ticks goal in
          let all : 0 + stages ≡ stages = omega arith in
          ap (λ l. after_all (at l) (all_stages stages ticks goal)) (sym (aims_first stages ticks goal some long))
          ∙ after_stages stages ticks goal long 0 stages
          ∙ ap (λ s. at (aims stages s ticks goal)) all
          ∙ ap at (aims_last stages ticks goal some long)
      by (inr none) =
          let is : stage_count most ticks goal ≡ 0 = omega (arith, none) in
          ap (λ s. after_all (at ticks) (all_stages s ticks goal)) is ∙ ap at (no_stages most ticks goal long is)

  -- ---- bars that are added and dropped

  module _ (count bar : ℕ) (like : (i : ℕ) → count ≤ i + 1 → (pat (i + 1) ≡ pat i) × (nominal p.division (pat i) ≡ bar)) where
    added : (n : ℕ) (ticks : List ℕ) → count + 1 ≤ length ticks → 2 ≤ length ticks
        → after_all (at ticks) (replicate n AddBar) ≡ at (ticks ++ further bar (last_end 0 ticks) n)
    added zero ticks long some = ap at (sym (append-nil ticks))
    added (suc n) ticks long some =
        let same = like (length ticks - 2) (omega (arith, long, some)) in
        let place : length ticks - 2 + 1 ≡ length ticks - 1 = omega (arith, some) in
        let new : ℕ = last_end 0 ticks + bar in
        let grown = length-append ticks (new ∷ []) in
        ap (λ q. after_all q (replicate n AddBar))
        (after_added pat p ticks some (ap pat (sym place) ∙ same.0)
        ∙ ap (λ b. at (ticks ++ ((last_end 0 ticks + b) ∷ []))) same.1)
        ∙ added n (ticks ++ (new ∷ [])) (omega (arith, grown, long)) (omega (arith, grown, some))
        ∙ ap (λ t. at ((ticks ++ (new ∷ [])) ++ further bar t n)) (last_pushed 0 new ticks)
        ∙ ap at (append_assoc ticks (new ∷ []) (further bar new n))

  dropped : p.pins ≡ [] → (n : ℕ) (ticks : List ℕ) → n + 1 ≤ length ticks → after_all (at ticks) (replicate n DropBar) ≡ at (take (length ticks - n) ticks)
  dropped none zero ticks long =
      let all : length ticks - 0 ≡ length ticks = omega arith in
      ap at (sym (ap (λ n. take n ticks) all ∙ take_all_of ticks))
    where
      take_all_of : (xs : List ℕ) → take (length xs) xs ≡ xs
      take_all_of [] = refl
      take_all_of (x ∷ xs) = ap (λ l. x ∷ l) (take_all_of xs)
  dropped none (suc n) ticks long =
      let shorter : List ℕ = take (length ticks - 1) ticks in
      let count : length shorter ≡ length ticks - 1 = length-take-le (length ticks - 1) ticks (omega arith) in
      let left : length shorter - n ≡ length ticks - suc n = omega (arith, count) in
      ap (λ q. after_all q (replicate n DropBar)) (after_dropped pat p ticks (omega (arith, long)) none)
      ∙ dropped none n shorter (omega (arith, long, count))
      ∙ ap (λ k. at (take k shorter)) left
      ∙ ap at (take-take (length ticks - suc n) (length ticks - 1) ticks (omega arith))

-- ---- the performance as it is

module _ (p : Performance) (some_bar : 1 ≤ length p.bars) where
  no_bar : Bar
  no_bar = record { start = 0; num = 0; den = 0 }

  abbrev pat : ℕ → Bar
  pat i = get_or p.bars (min i (length p.bars - 1)) (record { start = 0; num = 0; den = 0 })

  pattern_is : (i : ℕ) → pattern_of p i ≡ Some (pat i)
  pattern_is i = slice_get-get_or p.bars (min i (length p.bars - 1)) (record { start = 0; num = 0; den = 0 }) (omega (arith, some_bar))

  bars_are : (i : ℕ) (ticks : List ℕ) → bars_on p i ticks ≡ laid pat i ticks
  bars_are i [] = refl
  bars_are i (t ∷ []) = refl
  bars_are i (t ∷ u ∷ ticks) = ap₂ (λ o l. next_bar t o ++ l) (pattern_is i) (bars_are (suc i) (u ∷ ticks))

  set_is : (ticks : List ℕ) → p.pins ≡ [] → with_barlines p ticks ≡ on pat p ticks
  set_is ticks none = λ i. record p { bars = bars_are 0 ticks i; last = last_end 0 ticks; pins = sym none i }

  laid_again : (i last : ℕ) (bars : List Bar) → ((k : ℕ) (d : Bar) → k < length bars → pat (i + k) ≡ get_or bars k d)
      → laid pat i (map (λ b. b.start) bars ++ (last ∷ [])) ≡ bars
  laid_again i last [] are = refl
  laid_again i last (b ∷ []) are =
      let at : i + 0 ≡ i = omega arith in
      let own : pat i ≡ b = ap pat (sym at) ∙ are 0 b (omega arith) in
      ap (λ x. with_start b.start x ∷ []) own
  laid_again i last (b ∷ c ∷ bars) are =
      let at : i + 0 ≡ i = omega arith in
      let own : pat i ≡ b = ap pat (sym at) ∙ are 0 b (omega arith) in
      ap₂ (λ x l. with_start b.start x ∷ l) own
      (laid_again (suc i) last (c ∷ bars) (λ k d lt. let next : suc i + k ≡ i + suc k = omega arith in ap pat next ∙ are (suc k) d (omega (arith, lt))))

  as_it_is : p ≡ on pat p (barlines_of p)
  as_it_is =
      let bars : laid pat 0 (barlines_of p) ≡ p.bars =
      laid_again 0 p.last p.bars (λ k d lt. let at : min (0 + k) (length p.bars - 1) ≡ k = omega (arith, lt) in
      ap (λ i. get_or p.bars i (record { start = 0; num = 0; den = 0 })) at ∙ get_or_default p.bars k (record { start = 0; num = 0; den = 0 }) d lt) in
      λ i. record p { bars = sym bars i; last = sym (last_of_all p) i }

  alike : (i : ℕ) → length p.bars ≤ i + 1 → (pat (i + 1) ≡ pat i) × (nominal p.division (pat i) ≡ last_bar p)
  alike i past =
      let here : min i (length p.bars - 1) ≡ length p.bars - 1 = omega (arith, past) in
      let next : min (i + 1) (length p.bars - 1) ≡ length p.bars - 1 = omega (arith, past) in
      let last : min (length p.bars - 1) (length p.bars - 1) ≡ length p.bars - 1 = omega arith in
      let none : Bar = record { start = 0; num = 0; den = 0 } in (
        ap (λ k. get_or p.bars k none) (next ∙ sym here),
        ap (λ k. nominal p.division (get_or p.bars k none)) (here ∙ sym last)
            ∙ sym (ap (nominal_of p.division) (pattern_is (length p.bars - 1))),
      )

  pub after_script : (goal : List ℕ) → p.pins ≡ [] → 2 ≤ length goal → after_all p (script p goal) ≡ with_barlines p goal
  after_script goal none some =
      let old : List ℕ = barlines_of p in
      let first : List ℕ = first_barlines p goal in
      let last : List ℕ = last_barlines p goal in
      let bars : length old ≡ length p.bars + 1 = length-barlines p in
      let grown : length first ≡ length old + (length goal - length old) = length-lengthened (last_bar p) (length goal) old in
      let goal_grown : length last ≡ length goal + (length old - length goal) = length-lengthened (last_bar p) (length old) goal in
      let long : length first ≡ length last = omega (arith, grown, goal_grown) in
      let adds : List Edit = replicate (length goal - length old) AddBar in
      let stages : List Edit = all_stages (stage_count (pace p) first last) first last in
      let drops : List Edit = replicate (length old - length goal) DropBar in
      let left : length last - (length old - length goal) ≡ length goal = omega (arith, goal_grown) in
      after-append p adds (stages ++ drops)
      ∙ after-append (after_all p adds) stages drops
      ∙ ap (λ q. after_all (after_all (after_all q adds) stages) drops) as_it_is
      ∙ ap (λ q. after_all (after_all q stages) drops)
      (added p pat (length p.bars) (last_bar p) alike (length goal - length old) old (omega (arith, bars)) (omega (arith, bars, some_bar)))
      ∙ ap (λ q. after_all q drops) (staged_to p pat (pace p) first last long)
      ∙ dropped p pat none (length old - length goal) last (omega (arith, goal_grown, some))
      ∙ ap (λ k. on pat p (take k last)) left
      ∙ ap (on pat p) (take_at goal (further (last_bar p) (last_end 0 goal) (length old - length goal)) (length goal) refl)
      ∙ sym (set_is goal none)

pub barlines_set : (g : Grammar) (p q : Performance) (goal : List ℕ) → IsWellFormed p → p.pins ≡ [] → 2 ≤ length goal → Leads g p (script p goal) q
    → q ≡ with_barlines p goal
barlines_set g p q goal formed none some leads = led g p (script p goal) q leads ∙ after_script p formed.some_bar goal none some
