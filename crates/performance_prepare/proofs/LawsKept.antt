-- The laws of prepared takes.
use Rattle.std.proofs.Common.{◌≡◌, ℕ, suc, ◌+◌, ◌*◌, ◌/◌, ◌%◌, ◌<◌, ◌≤◌, eqb, ltb, Bool, true, false, not, cond, List, [], ◌∷◌, length, map, get_or, refl, sym, ap, ◌∙◌, subst, arith, Option, Some, None, Ok, Err}
use Rattle.std.specs.Prelude.{All, Contains, ◌≢◌, ◌||◌, ◌==◌, nat_lt, Result}
use Rattle.std.specs.List.Sorted.{IsPermutation}
use Rattle.std.proofs.lemmas.Bool.Decides.{nat_tests}
use Rattle.std.proofs.lemmas.List.{get_or-map, length-map}
use Rattle.std.proofs.lemmas.List.Elements.{filter_passes}
use Rattle.std.proofs.lemmas.List.Sorted.{Contains-permutation, IsPermutation-map}
use Rattle.note_list.specs.declared.fault.NoteFault.{NoteFault}
use Rattle.rhythm_base.proofs.Members.{Among, among_contained, among_map, kept_by, out_of, place_among}
use Rattle.rhythm_base.specs.Lists.{gap}
use Rattle.rhythm_base.specs.Bars.{signature_at}
use Rattle.rhythm_base.specs.Time.{tempo_at}
use Rattle.rhythm_base.specs.declared.note.Note.{Note}
use Rattle.smf_reader.specs.Played.{Smf}
use Rattle.performance_load.proofs.TakesLoaded.{loaded_as_taken, loadings_of_takes, takes_formed, takes_loaded, takes_one}
use Rattle.performance_load.specs.Take.{Take}
use Rattle.performance_load.specs.Taking.{IsLoadedOf, IsTake, IsTakeFormed}
use Rattle.performance_prepare.specs.Drums.{is_drum, pitched_notes}
use Rattle.performance_prepare.specs.Laws as laws
use Rattle.performance_prepare.specs.Laws.{AreMoved, AreSplit, AreWithoutDrums, IsMoved, IsPrepared, no_options, unvoiced}
use Rattle.performance_prepare.specs.Prepared.{prepared}
use Rattle.performance_prepare.specs.Shift.{shifted_note, shifted_take, unless_late}
use Rattle.performance_prepare.specs.Split.{all_channels, free_channels, in_order, is_low, is_split, lower_channel, parted_note, parted_notes, split_channels, voice_channels}
use Rattle.performance_prepare.specs.Tempo.{rounded, scaled, fine_division, fineness, finer_shift, new_division, retimed, then_retimed}
use Rattle.performance_prepare.specs.Upbeat.{is_whole, placed, placed_in, ticks_of, ticks_of_bar, upbeat_shift}
use Rattle.performance_prepare.specs.declared.options.Fraction.{Fraction}
use Rattle.performance_prepare.specs.declared.prepare_fault.PrepareFault.{PrepareFault}
use Rattle.performance_prepare.specs.declared.prepare_fault.PrepareFault.TheVariants.{BadUpbeat, NoNotes, TooManyVoices, WrongDivision}
use Rattle.performance_prepare.specs.declared.shift.Shift.{Shift}
use Rattle.performance_prepare.proofs.Answered.{timely}
use Rattle.performance_prepare.proofs.Fineness.{fineness_fine}
use Rattle.performance_prepare.proofs.Kept.{first_room}
use Rattle.performance_prepare.proofs.Parting.{order_permuted}
use Rattle.performance_prepare.proofs.Told.{prepared_formed}

-- ---- the performance of a file

same_take : (f : Smf) (t u : Take) → IsTake f t → IsTake f u → t ≡ u
same_take f t u h k =
    let r : Result Take NoteFault = Ok t in
    let s : Result Take NoteFault = Ok u in
    let same : r ≡ s = takes_one f r s h k (λ e. cc) (λ e. cc) in
    cc

pub nothing_changes : laws.NoOptionsChangeNothing
nothing_changes f p = (
  λ h. (let same : h.played ≡ h.take = cc (h.mapped) in loaded_as_taken f h.take p (subst (IsTake f) same h.taken) h.loaded),
  λ l. (let h = (loadings_of_takes f p).0 l in record { played = h.0; take = h.0; taken = h.1; mapped = refl; loaded = h.2 }),
)

pub one_prepared : laws.PreparedPerformancesAreOne
one_prepared o f p q h k =
    let played = same_take f h.played k.played h.taken k.taken in
    let mapped : prepared o k.played ≡ Ok h.take = subst (λ t. prepared o t ≡ Ok h.take) played h.mapped in
    let joined = sym mapped ∙ k.mapped in
    let take : h.take ≡ k.take = cc (joined) in
    let moved : IsLoadedOf k.take p = subst (λ t. IsLoadedOf t p) take h.loaded in
    let both = takes_loaded.one k.take (Ok p) (Ok q) moved k.loaded (λ e. cc) (λ e. cc) in
    cc (both)

pub prepared_well : laws.PreparedPerformancesAreWellFormed
prepared_well o f p range played h =
    let ready = takes_formed f h.played played h.taken in
    takes_loaded.formed h.take p (prepared_formed o h.played h.take range (record { formed = ready.0; marks = ready.1 }) h.mapped) h.loaded

-- ---- drums

pitched : (n : Note) → not (is_drum n) ≡ true → n.channel ≢ 9
pitched n h same = grind (arith, nat_tests)

passes : (n : Note) → n.channel ≢ 9 → not (is_drum n) ≡ true
passes n other = grind (arith, nat_tests)

without : (notes : List Note) → AreWithoutDrums notes (pitched_notes notes)
without notes = record {
  out = λ k d lt. pitched (get_or (pitched_notes notes) k d) (filter_passes (λ n. not (is_drum n)) notes k d lt);
  kept = λ n other there. place_among (pitched_notes notes) n
      (kept_by (λ m. not (is_drum m)) notes n (among_contained notes n there) (passes n other));
  same = λ n there. place_among notes n (out_of (λ m. not (is_drum m)) notes n (among_contained (pitched_notes notes) n there)).0;
}

pub out_drums : laws.DrumsAreOut
out_drums t u is = by (eqb (length (pitched_notes t.notes)) 0) is
  where
    by : (b : Bool) → cond b (Err NoNotes) (Ok (record t { notes = pitched_notes t.notes })) ≡ Ok u → AreWithoutDrums t.notes u.notes
    by true is = absurd (cc)
    by false is = let same : record t { notes = pitched_notes t.notes } ≡ u = cc in
        subst (λ v. AreWithoutDrums t.notes v.notes) same (without t.notes)

-- ---- the split

module _ (key : ℕ) (notes : List Note) where
  abbrev to_part : Note → Note
  to_part n = parted_note key (split_channels key notes) (free_channels notes) n

  unvoiced_part : (n : Note) → unvoiced (to_part n) ≡ unvoiced n
  unvoiced_part n = by (is_low key n)
    where
      by : (b : Bool) → unvoiced (cond b (record n { channel = lower_channel (split_channels key notes) (free_channels notes) n.channel })
          n) ≡ unvoiced n
      by true = refl
      by false = refl

  unvoiced_parts : (ns : List Note) → map unvoiced (map to_part ns) ≡ map unvoiced ns
  unvoiced_parts [] = refl
  unvoiced_parts (n ∷ ns) = λ i. unvoiced_part n i ∷ unvoiced_parts ns i

  not_given : (split free : List ℕ) (c : ℕ) → All (λ s. s ≢ c) split → lower_channel split free c ≡ c
  not_given [] free c all = refl
  not_given (s ∷ split) [] c all = refl
  not_given (s ∷ split) (f ∷ free) c all =
      let other : eqb s c ≡ false = differ s c (all 0 0 (omega arith)) in
      rw other (not_given split free c (λ k d lt. all (suc k) d (omega (arith, lt))))
    where
      differ : (s c : ℕ) → s ≢ c → eqb s c ≡ false
      differ s c other = grind (arith, nat_tests)

  stays : (n : Note) → is_split key notes n.channel ≡ false → to_part n ≡ n
  stays n whole = by (is_low key n)
    where
      others : All (λ s. s ≢ n.channel) (split_channels key notes)
      others k d lt same =
          let passes = filter_passes (is_split key notes) all_channels k d lt in
          let moved : is_split key notes n.channel ≡ true = subst (λ c. is_split key notes c ≡ true) same passes in
          absurd (cc)

      by : (b : Bool) → cond b (record n { channel = lower_channel (split_channels key notes) (free_channels notes) n.channel }) n ≡ n
      by true = ap (λ c. record n { channel = c }) (not_given (split_channels key notes) (free_channels notes) n.channel others)
      by false = refl

  are_split : AreSplit key notes (in_order (parted_notes key notes))
  are_split =
      let moved = order_permuted (parted_notes key notes) in
      record {
        same = subst (λ l. IsPermutation l (map unvoiced (in_order (parted_notes key notes)))) (unvoiced_parts notes)
            (IsPermutation-map unvoiced (parted_notes key notes) (in_order (parted_notes key notes)) moved);
        stay = λ n whole there.
            let among : Among (to_part n) (parted_notes key notes) = among_map to_part notes n (among_contained notes n there) in
            let here : Contains (parted_notes key notes) n =
            place_among (parted_notes key notes) n (subst (λ m. Among m (parted_notes key notes)) (stays n whole) among) in
            Contains-permutation (parted_notes key notes) (in_order (parted_notes key notes)) n moved here;
      }

pub kept_by_split : laws.SplitsKeepNotes
kept_by_split key t u is = by (ltb (length (free_channels t.notes)) (length (split_channels key t.notes))) is
  where
    by : (b : Bool) → cond b (Err (TooManyVoices (length (voice_channels t.notes) + length (split_channels key t.notes))))
        (Ok (record t { notes = in_order (parted_notes key t.notes) })) ≡ Ok u → AreSplit key t.notes u.notes
    by true is = absurd (cc)
    by false is = let same : record t { notes = in_order (parted_notes key t.notes) } ≡ u = cc in
        subst (λ v. AreSplit key t.notes v.notes) same (are_split key t.notes)

-- ---- places

-- notes at other places are moved alike, where none comes before tick 0
all_moved : (s : Shift) (notes : List Note) → All (λ n. s.earlier ≤ n.onset * s.times + s.later) notes
    → All (λ n. s.earlier ≤ n.end * s.times + s.later) notes → AreMoved s.times s.later s.earlier notes (map (shifted_note s) notes)
all_moved s notes onsets ends = record {
  many = length-map notes (shifted_note s);
  each = λ k d lt.
      let at : get_or (map (shifted_note s) notes) k d ≡ shifted_note s (get_or notes k d) = get_or-map (shifted_note s) notes k d d lt in
      subst (λ m. IsMoved s.times s.later s.earlier (get_or notes k d) m) (sym at)
      (moved (get_or notes k d) (onsets k d lt) (ends k d lt));
}
  where
    moved : (n : Note) → s.earlier ≤ n.onset * s.times + s.later → s.earlier ≤ n.end * s.times + s.later
        → IsMoved s.times s.later s.earlier n (shifted_note s n)
    moved n onset end = record { channel = refl; key = refl; onset = omega (arith, onset); end = omega (arith, end) }

pub placed_by_tempo : laws.TemposKeepPlaces
placed_by_tempo q t u formed is = (
  fineness t.division,
  (fineness_fine t.division formed.division_low).some,
  by ((new_division q t == 0) || nat_lt 32767 (new_division q t)) is,
)
  where
    fine_notes : AreMoved (fineness t.division) 0 0 t.notes (map (shifted_note (finer_shift t)) t.notes)
    fine_notes = all_moved (finer_shift t) t.notes (λ k d lt. omega arith) (λ k d lt. omega arith)

    then : (o : Result Take PrepareFault) → o ≡ unless_late (shifted_take (finer_shift t) t)
        → then_retimed (new_division q t) (fine_division t) (tempo_at t.tempos 0) o ≡ Ok u
        → AreMoved (fineness t.division) 0 0 t.notes u.notes
    then (Err fault) e is = absurd (cc)
    then (Ok v) e is =
        let same : retimed (new_division q t) (fine_division t) (tempo_at t.tempos 0) v ≡ u = cc in
        let shifted : v ≡ shifted_take (finer_shift t) t = timely (shifted_take (finer_shift t) t) v e in
        subst (λ w. AreMoved (fineness t.division) 0 0 t.notes w.notes) same
        (subst (λ w. AreMoved (fineness t.division) 0 0 t.notes w.notes) (sym shifted) fine_notes)

    by : (b : Bool) → cond b (Err (WrongDivision (new_division q t)))
        (then_retimed (new_division q t) (fine_division t) (tempo_at t.tempos 0) (unless_late (shifted_take (finer_shift t) t))) ≡ Ok u
        → AreMoved (fineness t.division) 0 0 t.notes u.notes
    by true is = absurd (cc)
    by false is = then (unless_late (shifted_take (finer_shift t) t)) refl is

-- no move
unmoved : (notes : List Note) → AreMoved 1 0 0 notes notes
unmoved notes = record { many = refl; each = λ k d lt. record { channel = refl; key = refl; onset = omega arith; end = omega arith } }

module _ (f : Fraction) (t u : Take) (formed : IsTakeFormed t) where
  abbrev Moved : Type 0
  Moved = (later earlier : ℕ) × AreMoved 1 later earlier t.notes u.notes

  timed : (s : Shift) → s.times ≡ 1 → All (λ n. s.earlier ≤ n.onset * s.times + s.later) t.notes → Ok u ≡ unless_late (shifted_take s t)
      → Moved
  timed s one room e =
      let ends : All (λ n. s.earlier ≤ n.end * s.times + s.later) t.notes =
      λ k d lt. later_end (get_or t.notes k d) (formed.notes k d lt).after (room k d lt) in
      let same : shifted_take s t ≡ u = sym (timely (shifted_take s t) u e) in
      let moved : AreMoved s.times s.later s.earlier t.notes u.notes =
      subst (λ v. AreMoved s.times s.later s.earlier t.notes v.notes) same (all_moved s t.notes room ends) in
      (s.later, s.earlier, subst (λ m. AreMoved m s.later s.earlier t.notes u.notes) one moved)
    where
      later_end : (n : Note) → n.onset ≤ n.end → s.earlier ≤ n.onset * s.times + s.later → s.earlier ≤ n.end * s.times + s.later
      later_end n after room =
          let first : n.onset * s.times ≡ n.onset = ap (λ m. n.onset * m) one ∙ omega arith in
          let last : n.end * s.times ≡ n.end = ap (λ m. n.end * m) one ∙ omega arith in
          omega (arith, after, room, first, last)

  in_bar : (bar : ℕ) → placed bar f t ≡ Ok u → Moved
  in_bar bar is = by (not (is_whole t.division f) || nat_lt bar (ticks_of t.division f)) is
    where
      by : (b : Bool) → cond b (Err (BadUpbeat f.num f.den)) (unless_late (shifted_take (upbeat_shift bar (ticks_of t.division f) t) t))
          ≡ Ok u → Moved
      by true is = absurd (cc)
      by false is = timed (upbeat_shift bar (ticks_of t.division f) t) refl (first_room t bar (ticks_of t.division f)) (sym is)

  in_some : (o : Option ℕ) → placed_in o f t ≡ Ok u → Moved
  in_some None is = let same : t ≡ u = cc in (0, 0, subst (λ v. AreMoved 1 0 0 t.notes v.notes) same (unmoved t.notes))
  in_some (Some bar) is = in_bar bar is

pub moved_by_upbeat : laws.UpbeatsKeepDistances
moved_by_upbeat f t u formed is = in_some f t u formed (ticks_of_bar t.division (signature_at t.signatures 0)) is

-- ---- time

pub near_time : laws.TemposKeepTime
near_time new old micros some low high =
    let same : scaled new old micros ≡ rounded (micros * new) old = omega (arith, low, high) in
    let product : scaled new old micros * old ≡ rounded (micros * new) old * old = ap (λ q. q * old) same in
    let near = nearest (micros * new) old some in
    subst (λ n. 2 * gap n (micros * new) ≤ old) (sym product) near
  where
    nearest : (a b : ℕ) → 1 ≤ b → 2 * gap (rounded a b * b) a ≤ b
    nearest a b some =
        let pos : 0 < 2 * b = omega (arith, some) in
        let whole : 2 * b * ((2 * a + b) / (2 * b)) + (2 * a + b) % (2 * b) ≡ 2 * a + b = omega (arith, pos) in
        let rest : (2 * a + b) % (2 * b) < 2 * b = omega (arith, pos) in
        let turned : 2 * b * ((2 * a + b) / (2 * b)) ≡ 2 * (rounded a b * b) = grind arith in
        omega (arith, whole, rest, turned)
