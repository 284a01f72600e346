-- Each map keeps a take well formed.
use Rattle.std.proofs.Common.{◌≡◌, ℕ, ◌+◌, ◌-◌, ◌*◌, ◌/◌, ◌%◌, ◌^◌, ◌<◌, ◌≤◌, eqb, Bool, true, false, not, cond, inl, inr, List, [], ◌∷◌, length, map, refl, sym, ap, ◌∙◌, subst, arith, Option, Some, None, Ok, Err}
use Rattle.std.specs.Prelude.{All, IfOk, ℤ, filter, ◌||◌, nat_lt, ◌==◌}
use Rattle.std.specs.List.Sorted.{IsNonDecreasing}
use Rattle.std.proofs.lemmas.Bool.{cases_order}
use Rattle.std.proofs.lemmas.Bool.Decides.{nat_tests}
use Rattle.std.proofs.lemmas.List.Elements.{All-cons, All-filter, All-nil}
use Rattle.std.proofs.lemmas.List.Kept.{AllPairs-filter}
use Rattle.std.proofs.Math.Nat.{mul-le-mul_left, mul-le-mul_right}
use Rattle.note_list.proofs.Places.{IsBefore}
use Rattle.note_list.specs.Pairing.{IsPlayed}
use Rattle.rhythm_base.proofs.ListParts.{filter_few}
use Rattle.rhythm_base.proofs.Members.{all_from_among}
use Rattle.rhythm_base.proofs.OrderedLists.{all_head, all_tail}
use Rattle.rhythm_base.specs.Bars.{signature_at}
use Rattle.rhythm_base.specs.Lists.{least_of}
use Rattle.rhythm_base.specs.Performance.{IsKeyMark, IsTempo}
use Rattle.rhythm_base.specs.Time.{tempo_at}
use Rattle.rhythm_base.specs.declared.event.KeyMark.{KeyMark}
use Rattle.rhythm_base.specs.declared.event.Signature.{Signature}
use Rattle.rhythm_base.specs.declared.event.Tempo.{Tempo}
use Rattle.rhythm_base.specs.declared.limits.TheConstants.{LATEST_EVENT}
use Rattle.rhythm_base.specs.declared.note.Note.{Note}
use Rattle.performance_load.proofs.EventLemmas.{Up, up_from, up_lower, up_to}
use Rattle.performance_load.specs.Take.{Take}
use Rattle.performance_load.specs.Taking.{IsTakeFormed}
use Rattle.performance_prepare.specs.Drums.{is_drum, pitched_notes, without_drums}
use Rattle.performance_prepare.specs.Keying.{with_key}
use Rattle.performance_prepare.specs.Meter.{power_of, with_meter}
use Rattle.performance_prepare.specs.Ranges.{IsKey}
use Rattle.performance_prepare.specs.Ready.{IsReady}
use Rattle.performance_prepare.specs.Shift.{IsShift, latest_mark, shifted_mark, shifted_take, shifted, unless_late}
use Rattle.performance_prepare.specs.Tempo.{fine_division, fineness, finer_shift, new_division, retimed, scaled, scaled_tempo, scaled_tempos, then_retimed, with_tempo}
use Rattle.performance_prepare.specs.Upbeat.{is_out, is_whole, placed, placed_in, ticks_of, ticks_of_bar, upbeat_shift, with_upbeat}
use Rattle.performance_prepare.specs.declared.options.Fraction.{Fraction}
use Rattle.performance_prepare.specs.declared.prepare_fault.PrepareFault.TheVariants.{BadUpbeat, NoNotes, WrongDivision}
use Rattle.performance_prepare.specs.declared.shift.Shift.{Shift}
use Rattle.performance_prepare.proofs.Answered.{ends_early, if_ok, timely}
use Rattle.performance_prepare.proofs.Fineness.{fineness_fine, finer_few}
use Rattle.performance_prepare.proofs.Handed.{hands_kept}
use Rattle.performance_prepare.proofs.LeastNumbers.{least_among}
use Rattle.performance_prepare.proofs.Parting.{split_kept}
use Rattle.performance_prepare.proofs.ShiftedTakes.{HasRoom, all_mapped, shift_formed}
use Rattle.performance_prepare.proofs.Strummed.{strum_ready}

-- ---- drums

module _ (t : Take) (formed : IsTakeFormed t) where
  pitched_formed : (length (pitched_notes t.notes) ≡ 0 → ⊥) → IsTakeFormed (record t { notes = pitched_notes t.notes })
  pitched_formed some = record {
    division_low = formed.division_low;
    division_high = formed.division_high;
    some_note = omega (arith, some);
    few_notes = omega (arith, formed.few_notes, filter_few (λ n. not (is_drum n)) t.notes);
    notes = All-filter (λ n. not (is_drum n)) (IsPlayed 1000000000) t.notes formed.notes;
    notes_in_order = AllPairs-filter IsBefore (λ n. not (is_drum n)) t.notes formed.notes_in_order;
    tempos = formed.tempos;
    tempos_in_order = formed.tempos_in_order;
    key_marks = formed.key_marks;
    key_marks_in_order = formed.key_marks_in_order;
    signatures_in_order = formed.signatures_in_order;
  }

pub drums_ready : (latest : ℕ) (t u : Take) → without_drums t ≡ Ok u → IsReady latest t → IsReady latest u
drums_ready latest t u is ready = by (eqb (length (pitched_notes t.notes)) 0) refl is
  where
    by : (b : Bool) → eqb (length (pitched_notes t.notes)) 0 ≡ b
        → cond b (Err NoNotes) (Ok (record t { notes = pitched_notes t.notes })) ≡ Ok u → IsReady latest u
    by true e is = absurd (cc)
    by false e is =
        let some : length (pitched_notes t.notes) ≡ 0 → ⊥ = λ z. grind (arith, nat_tests) in
        let same : record t { notes = pitched_notes t.notes } ≡ u = cc in
        subst (IsReady latest) same (record {
          formed = pitched_formed t ready.formed some;
          marks = record { tempos = ready.marks.tempos; key_marks = ready.marks.key_marks; signatures = ready.marks.signatures };
        })

pub drums_kept : (latest : ℕ) (t : Take) → IsReady latest t → IfOk (without_drums t) (IsReady latest)
drums_kept latest t ready = if_ok (IsReady latest) (without_drums t) (λ u is. drums_ready latest t u is ready)

-- ---- meter and key

one_mark : {X : Type 0} (tick : X → ℕ) (x : X) → IsNonDecreasing (map tick (x ∷ []))
one_mark tick x = up_to 0 (tick x ∷ []) (omega arith, tt)

pub meter_ready : (latest : ℕ) (m : Fraction) (t : Take) → IsReady latest t → IsReady latest (with_meter m t)
meter_ready latest m t ready =
    let formed = ready.formed in
    let one : Signature = record { tick = 0; num = m.num; dd = power_of m.den } in
    record {
      formed = record {
        division_low = formed.division_low;
        division_high = formed.division_high;
        some_note = formed.some_note;
        few_notes = formed.few_notes;
        notes = formed.notes;
        notes_in_order = formed.notes_in_order;
        tempos = formed.tempos;
        tempos_in_order = formed.tempos_in_order;
        key_marks = formed.key_marks;
        key_marks_in_order = formed.key_marks_in_order;
        signatures_in_order = one_mark (λ x. x.tick) one;
      };
      marks = record {
        tempos = ready.marks.tempos;
        key_marks = ready.marks.key_marks;
        signatures = All-cons (λ x. x.tick ≤ latest) one [] (omega arith) (All-nil (λ x. x.tick ≤ latest));
      };
    }

pub key_formed : (sf : ℤ) (t : Take) → IsKey sf → IsTakeFormed t → IsTakeFormed (with_key sf t)
key_formed sf t key formed =
    let one : KeyMark = record { tick = 0; sf = sf } in
    record {
      division_low = formed.division_low;
      division_high = formed.division_high;
      some_note = formed.some_note;
      few_notes = formed.few_notes;
      notes = formed.notes;
      notes_in_order = formed.notes_in_order;
      tempos = formed.tempos;
      tempos_in_order = formed.tempos_in_order;
      key_marks = All-cons IsKeyMark one [] (record { low = key.low; high = key.high }) (All-nil IsKeyMark);
      key_marks_in_order = one_mark (λ x. x.tick) one;
      signatures_in_order = formed.signatures_in_order;
    }

-- ---- the tempo

filtered_up : {X : Type 0} (tick : X → ℕ) (p : X → Bool) (low : ℕ) (xs : List X) → Up low (map tick xs) → Up low (map tick (filter p xs))
filtered_up tick p low [] up = tt
filtered_up tick p low (x ∷ xs) up = go (p x) (filtered_up tick p (tick x) xs up.1)
  where
    go : (b : Bool) → Up (tick x) (map tick (filter p xs)) → Up low (map tick (cond b (x ∷ filter p xs) (filter p xs)))
    go true rest = (up.0, rest)
    go false rest = up_lower low (tick x) (map tick (filter p xs)) up.0 rest

module _ (new old first : ℕ) where
  scaled_in_range : (m : ℕ) → (1 ≤ scaled new old m) × (scaled new old m ≤ 16777215)
  scaled_in_range m = (omega arith, omega arith)

  abbrev is_later : Tempo → Bool
  is_later x = not (eqb x.tick 0)

  all_tempos : (ts : List Tempo) → All IsTempo (scaled_tempos new old first ts)
  all_tempos ts =
      let one = scaled_in_range first in
      All-cons IsTempo (record { tick = 0; micros = scaled new old first }) (map (scaled_tempo new old) (filter is_later ts))
      (record { some = one.0; few = one.1 })
      (every (filter is_later ts))
    where
      every : (xs : List Tempo) → All IsTempo (map (scaled_tempo new old) xs)
      every [] = All-nil IsTempo
      every (x ∷ xs) = let one = scaled_in_range x.micros in
          All-cons IsTempo (scaled_tempo new old x) (map (scaled_tempo new old) xs) (record { some = one.0; few = one.1 }) (every xs)

  scaled_up : (low : ℕ) (xs : List Tempo) → Up low (map (λ x. x.tick) xs) → Up low (map (λ x. x.tick) (map (scaled_tempo new old) xs))
  scaled_up low [] up = tt
  scaled_up low (x ∷ xs) up = (up.0, scaled_up x.tick xs up.1)

  tempos_rise : (ts : List Tempo) → IsNonDecreasing (map (λ x. x.tick) ts)
      → IsNonDecreasing (map (λ x. x.tick) (scaled_tempos new old first ts))
  tempos_rise ts order =
      let up : Up 0 (map (λ x. x.tick) ts) = up_from 0 (map (λ x. x.tick) ts) (λ k d lt. omega arith) order in
      up_to 0 (map (λ x. x.tick) (scaled_tempos new old first ts))
      (omega arith, scaled_up 0 (filter is_later ts) (filtered_up (λ x. x.tick) is_later 0 ts up))

  tempos_low : (latest : ℕ) (ts : List Tempo) → All (λ x. x.tick ≤ latest) ts → All (λ x. x.tick ≤ latest) (scaled_tempos new old first ts)
  tempos_low latest ts all =
      All-cons (λ x. x.tick ≤ latest) (record {
        tick = 0;
        micros = scaled new old first;
      }) (map (scaled_tempo new old) (filter is_later ts)) (omega arith)
      (all_mapped (λ x. x.tick ≤ latest) (λ x. x.tick ≤ latest) (scaled_tempo new old) (λ x le. le) (filter is_later ts)
      (All-filter is_later (λ x. x.tick ≤ latest) ts all))

  retimed_ready : (latest : ℕ) (t : Take) → 1 ≤ new → new ≤ 32767 → IsReady latest t → IsReady latest (retimed new old first t)
  retimed_ready latest t some few ready =
      let formed = ready.formed in
      record {
        formed = record {
          division_low = some;
          division_high = few;
          some_note = formed.some_note;
          few_notes = formed.few_notes;
          notes = formed.notes;
          notes_in_order = formed.notes_in_order;
          tempos = all_tempos t.tempos;
          tempos_in_order = tempos_rise t.tempos formed.tempos_in_order;
          key_marks = formed.key_marks;
          key_marks_in_order = formed.key_marks_in_order;
          signatures_in_order = formed.signatures_in_order;
        };
        marks = record {
          tempos = tempos_low latest t.tempos ready.marks.tempos;
          key_marks = ready.marks.key_marks;
          signatures = ready.marks.signatures;
        };
      }

-- a change of a file is not too late where ticks are finer
finer_mark : (s : Shift) (tick : ℕ) → s.times ≤ 8192 → s.later ≡ 0 → tick ≤ 1000000000 → shifted_mark s tick ≤ 8192000000000
finer_mark s tick few none low = by (eqb tick 0)
  where
    by : (b : Bool) → cond b 0 (shifted s tick) ≤ 8192000000000
    by true = omega arith
    by false =
        let one : tick * s.times ≤ tick * 8192 = mul-le-mul_left tick few in
        omega (arith, one, low, none)

module _ (t : Take) (ready : IsReady 1000000000 t) where
  abbrev FineShift : Shift
  FineShift = finer_shift t

  fine_shift : IsShift FineShift
  fine_shift =
      let fine = fineness_fine t.division ready.formed.division_low in
      record { some = fine.some; few = finer_few t.division (fineness t.division) ready.formed.division_low fine; near = omega arith }

  fine_ready : (u : Take) → Ok u ≡ unless_late (shifted_take FineShift t) → IsReady 8192000000000 u
  fine_ready u is =
      let same : shifted_take FineShift t ≡ u = sym (timely (shifted_take FineShift t) u is) in
      let room : All (HasRoom FineShift fine_shift) t.notes = λ k d lt. omega arith in
      subst (IsReady 8192000000000) same (record {
        formed = shift_formed FineShift fine_shift t ready.formed room (ends_early (shifted_take FineShift t) u is);
        marks = record {
          tempos = all_mapped (λ x. x.tick ≤ 1000000000) (λ x. x.tick ≤ 8192000000000) _
              (λ x le. finer_mark FineShift x.tick fine_shift.few refl le) t.tempos ready.marks.tempos;
          key_marks = all_mapped (λ x. x.tick ≤ 1000000000) (λ x. x.tick ≤ 8192000000000) _
              (λ x le. finer_mark FineShift x.tick fine_shift.few refl le) t.key_marks ready.marks.key_marks;
          signatures = all_mapped (λ x. x.tick ≤ 1000000000) (λ x. x.tick ≤ 8192000000000) _
              (λ x le. finer_mark FineShift x.tick fine_shift.few refl le) t.signatures ready.marks.signatures;
        };
      })

  pub tempo_ready : (q : ℕ) (u : Take) → with_tempo q t ≡ Ok u → IsReady 8192000000000 u
  tempo_ready q u is = by ((new_division q t == 0) || nat_lt 32767 (new_division q t)) refl is
    where
      out : (new_division q t == 0) || nat_lt 32767 (new_division q t) ≡ false → (1 ≤ new_division q t) × (new_division q t ≤ 32767)
      out e = (grind (arith, nat_tests), grind (arith, nat_tests))

      then : (o : _) → o ≡ unless_late (shifted_take FineShift t) → (1 ≤ new_division q t) × (new_division q t ≤ 32767)
          → then_retimed (new_division q t) (fine_division t) (tempo_at t.tempos 0) o ≡ Ok u → IsReady 8192000000000 u
      then (Err fault) e range is = absurd (cc)
      then (Ok v) e range is =
          let same : retimed (new_division q t) (fine_division t) (tempo_at t.tempos 0) v ≡ u = cc in
          subst (IsReady 8192000000000) same
          (retimed_ready (new_division q t) (fine_division t) (tempo_at t.tempos 0) 8192000000000 v range.0 range.1 (fine_ready v e))

      by : (b : Bool) → (new_division q t == 0) || nat_lt 32767 (new_division q t) ≡ b
          → cond b (Err (WrongDivision (new_division q t)))
          (then_retimed (new_division q t) (fine_division t) (tempo_at t.tempos 0) (unless_late (shifted_take FineShift t))) ≡ Ok u
          → IsReady 8192000000000 u
      by true e is = absurd (cc)
      by false e is = then (unless_late (shifted_take FineShift t)) refl (out e) is

pub tempo_kept : (q : ℕ) (t : Take) → IsReady LATEST_EVENT t → IfOk (with_tempo q t) (IsReady latest_mark)
tempo_kept q t ready = if_ok (IsReady latest_mark) (with_tempo q t) (λ u is. tempo_ready t ready q u is)

-- ---- the upbeat

least_low : (xs : List ℕ) → All (λ x. least_of xs ≤ x) xs
least_low xs = all_from_among (λ x. least_of xs ≤ x) xs (least_among xs)

onsets_above : (low : ℕ) (ns : List Note) → All (λ x. low ≤ x) (map (λ n. n.onset) ns) → All (λ n. low ≤ n.onset) ns
onsets_above low [] all = All-nil (λ n. low ≤ n.onset)
onsets_above low (n ∷ ns) all =
    All-cons (λ n. low ≤ n.onset) n ns (all_head (λ x. low ≤ x) n.onset (map (λ n. n.onset) ns) all)
    (onsets_above low ns (all_tail (λ x. low ≤ x) n.onset (map (λ n. n.onset) ns) all))

-- the first note of an upbeat has room
pub first_room : (t : Take) (bar ticks : ℕ) → All (λ n. least_of (map (λ m. m.onset) t.notes) ≤ n.onset * 1 + (bar - ticks) % bar) t.notes
first_room t bar ticks k d lt =
    let above = onsets_above (least_of (map (λ n. n.onset) t.notes)) t.notes (least_low (map (λ n. n.onset) t.notes)) k d lt in
    omega (arith, above)

div_some : (x y : ℕ) → 0 < y → x % y ≡ 0 → 1 ≤ x → 1 ≤ x / y
div_some x y pos whole some = elim (cases_order (x / y) 0) [
  | inl none ↦ (let nothing : y * (x / y) ≡ 0 = ap (λ q. y * q) none ∙ omega arith in absurd (omega (arith, nothing, whole, some, pos)))
  | inr other ↦ elim other [
    | inl less ↦ absurd (omega (arith, less))
    | inr more ↦ omega (arith, more)
  ]
]

div_low : (x y : ℕ) → 0 < y → x / y ≤ x
div_low x y pos = let more = mul-le-mul_right (x / y) pos in omega (arith, more)

rest_low : (x y : ℕ) → 0 < y → x % y < y
rest_low x y pos = omega arith

bar_in_range : (division num dd bar : ℕ) → 1 ≤ division → division ≤ 32767 → ticks_of_bar division (num, dd) ≡ Some bar
    → (1 ≤ bar) × (bar ≤ 100000000)
bar_in_range division num dd bar some few is = by (is_out (num, dd)) refl is
  where
    in_range : is_out (num, dd) ≡ false → (1 ≤ num) × (num ≤ 64)
    in_range e = (grind (arith, nat_tests), grind (arith, nat_tests))

    power : 0 < 2 ^ dd
    power = grind arith

    whole : (1 ≤ num) × (num ≤ 64) → (4 * division * num) % (2 ^ dd) ≡ 0 → Some ((4 * division * num) / (2 ^ dd)) ≡ Some bar
        → (1 ≤ bar) × (bar ≤ 100000000)
    whole range rest is =
        let same : (4 * division * num) / (2 ^ dd) ≡ bar = cc in
        let high : 4 * division * num ≤ 4 * division * 64 = mul-le-mul_left (4 * division) range.1 in
        let low : 4 * division * 1 ≤ 4 * division * num = mul-le-mul_left (4 * division) range.0 in
        let one = div_some (4 * division * num) (2 ^ dd) power rest (omega (arith, low, some)) in
        let most = div_low (4 * division * num) (2 ^ dd) power in
        (omega (arith, one, same), omega (arith, most, high, few, same))

    inner : (1 ≤ num) × (num ≤ 64) → (b : Bool) → eqb ((4 * division * num) % (2 ^ dd)) 0 ≡ b
        → cond b (Some ((4 * division * num) / (2 ^ dd))) None ≡ Some bar → (1 ≤ bar) × (bar ≤ 100000000)
    inner range true e is = whole range (grind (arith, nat_tests)) is
    inner range false e is = absurd (cc)

    by : (b : Bool) → is_out (num, dd) ≡ b
        → cond b None (cond (eqb ((4 * division * num) % (2 ^ dd)) 0) (Some ((4 * division * num) / (2 ^ dd))) None) ≡ Some bar
        → (1 ≤ bar) × (bar ≤ 100000000)
    by true e is = absurd (cc)
    by false e is = inner (in_range e) (eqb ((4 * division * num) % (2 ^ dd)) 0) refl is

module _ (t : Take) (formed : IsTakeFormed t) (f : Fraction) where
  abbrev Moved : ℕ → Shift
  Moved bar = upbeat_shift bar (ticks_of t.division f) t

  placed_formed : (bar : ℕ) (u : Take) → 1 ≤ bar → bar ≤ 100000000 → placed bar f t ≡ Ok u → IsTakeFormed u
  placed_formed bar u some few is = by (not (is_whole t.division f) || nat_lt bar (ticks_of t.division f)) is
    where
      is_shift : IsShift (Moved bar)
      is_shift = record {
        some = omega arith;
        few = omega arith;
        near = (let rest = rest_low (bar - ticks_of t.division f) bar (omega (arith, some)) in omega (arith, rest, few));
      }

      room : All (HasRoom (Moved bar) is_shift) t.notes
      room k d lt = let above =
          onsets_above (least_of (map (λ n. n.onset) t.notes)) t.notes (least_low (map (λ n. n.onset) t.notes)) k d lt in
          omega (arith, above)

      timed : Ok u ≡ unless_late (shifted_take (Moved bar) t) → IsTakeFormed u
      timed e = subst IsTakeFormed (sym (timely (shifted_take (Moved bar) t) u e))
          (shift_formed (Moved bar) is_shift t formed room (ends_early (shifted_take (Moved bar) t) u e))

      by : (b : Bool) → cond b (Err (BadUpbeat f.num f.den)) (unless_late (shifted_take (Moved bar) t)) ≡ Ok u → IsTakeFormed u
      by true is = absurd (cc)
      by false is = timed (sym is)

  pub upbeat_formed : (u : Take) → with_upbeat f t ≡ Ok u → IsTakeFormed u
  upbeat_formed u is = by (ticks_of_bar t.division (signature_at t.signatures 0)) refl is
    where
      by : (o : Option ℕ) → ticks_of_bar t.division (signature_at t.signatures 0) ≡ o → placed_in o f t ≡ Ok u → IsTakeFormed u
      by None e is = let same : t ≡ u = cc in subst IsTakeFormed same formed
      by (Some bar) e is =
          let s = signature_at t.signatures 0 in
          let range = bar_in_range t.division s.0 s.1 bar formed.division_low formed.division_high e in
          placed_formed bar u range.0 range.1 is

pub upbeat_kept : (f : Fraction) (t : Take) → IsReady latest_mark t → IfOk (with_upbeat f t) IsTakeFormed
upbeat_kept f t ready = if_ok IsTakeFormed (with_upbeat f t) (λ u is. upbeat_formed t ready.formed f u is)

-- ---- the maps before the tempo

pub ruleset kept = (drums_kept, split_kept, hands_kept, strum_ready, meter_ready)
