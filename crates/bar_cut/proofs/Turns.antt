-- What one turn of the pass does: the chords of one bar, those after it, and the input of its cell.
use Rattle.std.proofs.Common.{◌≡◌, ℕ, ◌+◌, ◌-◌, ◌<◌, ◌≤◌, Bool, true, false, nat_lt, List, [], ◌∷◌, ◌++◌, length, map, take, drop, get_or, min, subst, refl, sym, ap, ◌∙◌, arith, append_assoc, Option, Some, if◌then◌else◌}
use Rattle.std.specs.Prelude.{filter, option_map, slice_get, unwrap_or}
use Rattle.std.specs.List.{position}
use Rattle.std.proofs.lemmas.Bool.Decides.{nat_tests}
use Rattle.std.proofs.lemmas.List.Elements.{All-filter, filter_passes}
use Rattle.std.proofs.lemmas.Option.{slice_get-map}
use Rattle.rhythm_base.specs.declared.chord.Chord.{Chord}
use Rattle.rhythm_base.specs.declared.note.Bar.{Bar}
use Rattle.rhythm_base.specs.declared.pin.Pin.{Pin}
use Rattle.rhythm_base.specs.BarInput.{BarInput}
use Rattle.rhythm_base.specs.Lists.{last_end}
use Rattle.rhythm_base.specs.Cells.{cut_end, input}
use Rattle.rhythm_base.specs.Barlines.{barline}
use Rattle.rhythm_base.specs.Leaves.{VoiceBar, soundings}
use Rattle.rhythm_base.specs.Shape.{Shape}
use Rattle.rhythm_base.specs.Grammar.{Grammar, root_of}
use Rattle.rhythm_base.specs.Pins.{pin_of}
use Rattle.rhythm_base.specs.Signatures.{IsSignature}
use Rattle.rhythm_base.specs.Voices.{voice_bar, voice_bars_from}
use Rattle.bar_cut.specs.Cuts.{AreBarsAndChords, AreInside, Rises, moved_all}
use Rattle.bar_cut.proofs.Barlines.{bar_at, measures-next, starts_at}
use Rattle.performance_laws.proofs.EditedBars.{barlines_rise}
use Rattle.bar_cut.proofs.Passes.{before-soundings, end_before, end_before-next, from-from, is_before, is_from, own, parted, rises-filter}

rises_on : (s low : ℕ) (cs : List Chord) → Rises low cs → Rises s (filter (is_from s) cs)
rises_on s low [] r = tt
rises_on s low (c ∷ cs) r = by (is_from s c) refl (rises_on s (c.onset + 1) cs r.1)
  where
    by : (b : Bool) → is_from s c ≡ b → Rises s (filter (is_from s) cs) → Rises s (if b then c ∷ filter (is_from s) cs else filter (is_from s) cs)
    by true is rest = (grind (arith, nat_tests, is), rises-filter (is_from s) (c.onset + 1) cs r.1)
    by false is rest = rest

module _ (g : Grammar) (pins : List Pin) (channel last n : ℕ) (bars : List Bar) (voice : List Chord) (d : Bar)
    (w : AreBarsAndChords bars last voice) (lt : n < length bars) where
  abbrev start : ℕ
  start = barline bars last n

  abbrev end : ℕ
  end = barline bars last (n + 1)

  abbrev later : List Chord
  later = filter (is_from start) voice

  abbrev count : ℕ
  count = unwrap_or (position (is_from end) later) (length later)

  abbrev bar : Bar
  bar = get_or bars n d

  pub rise : (start < end) × (end ≤ last)
  rise = barlines_rise bars last n w.bars_rise (λ k e h. (w.are_before k e h).start) lt

  pub start_is : start ≡ bar.start
  start_is = starts_at bars last n d lt

  pub signature_is : IsSignature bar.num bar.den
  signature_is = (w.are_before n d lt).signature

  -- what the pass has of the chords is these
  abbrev IsCount : List Chord → ℕ → ℕ → Type 0
  IsCount cs tick k = k ≡ unwrap_or (position (is_from tick) cs) (length cs)

  pub front_is : (front cs : List Chord) (k tick : ℕ) → front ≡ take k cs → IsCount cs tick k → tick ≡ end → cs ≡ later → front ≡ take count later
  front_is front cs k tick is many tick_is cs_are =
      is ∙ ap (λ k. take k cs) many ∙ (λ i. take (unwrap_or (position (is_from (tick_is i)) (cs_are i)) (length (cs_are i))) (cs_are i))

  pub back_is : (back cs : List Chord) (k tick : ℕ) → back ≡ drop k cs → IsCount cs tick k → tick ≡ end → cs ≡ later → back ≡ drop count later
  back_is back cs k tick is many tick_is cs_are =
      is ∙ ap (λ k. drop k cs) many ∙ (λ i. drop (unwrap_or (position (is_from (tick_is i)) (cs_are i)) (length (cs_are i))) (cs_are i))

  later_rises : Rises start later
  later_rises = rises_on start 0 voice w.chords_rise

  -- what stands before the bar, and from its start on
  pub earlier_is : (front : List Chord) (k : ℕ) → front ≡ take k voice → IsCount voice bar.start k → last_end 0 (map (λ c. c.end) front) ≡ end_before start voice
  earlier_is front k is many =
      ap (λ (l : List Chord). last_end 0 (map (λ c. c.end) l)) (is ∙ ap (λ k. take k voice) many ∙ (parted bar.start 0 voice w.chords_rise).0)
      ∙ ap (λ t. end_before t voice) (sym start_is)

  pub later_is : (back : List Chord) (k : ℕ) → back ≡ drop k voice → IsCount voice bar.start k → back ≡ later
  later_is back k is many =
      is ∙ ap (λ k. drop k voice) many ∙ (parted bar.start 0 voice w.chords_rise).1 ∙ ap (λ t. filter (is_from t) voice) (sym start_is)

  own_is : take count later ≡ filter (is_before end) later
  own_is = (parted end start later later_rises).0

  pub rest_is : drop count later ≡ filter (is_from end) voice
  rest_is = (parted end start later later_rises).1 ∙ from-from start end voice (omega (arith, rise.0))

  pub own_rises : Rises bar.start (take count later)
  own_rises = subst (λ cs. Rises bar.start cs) (sym own_is) (subst (λ s. Rises s (filter (is_before end) later)) start_is (rises-filter (is_before end) start later later_rises))

  pub own_inside : AreInside bar.start end (take count later)
  own_inside = subst (AreInside bar.start end) (sym own_is) (λ k e h. (
    let from : is_from start (get_or (filter (is_before end) later) k e) ≡ true = All-filter (is_before end) (λ c. is_from start c ≡ true) later (filter_passes (is_from start) voice) k e h in
        grind (arith, nat_tests, from, start_is),
    let less : is_before end (get_or (filter (is_before end) later) k e) ≡ true = filter_passes (is_before end) later k e h in
        grind (arith, nat_tests, less),
    All-filter (is_before end) (λ c. c.onset ≤ c.end) later (All-filter (is_from start) (λ c. c.onset ≤ c.end) voice w.chords) k e h,
  ))

  pub before_is : (before : ℕ) → before ≡ end_before start voice → last_end before (map (λ c. c.end) (take count later)) ≡ end_before end voice
  before_is before same =
      ap (λ b. last_end b (map (λ c. c.end) (take count later))) same
      ∙ ap (λ l. last_end (end_before start voice) (map (λ c. c.end) l)) own_is
      ∙ end_before-next start end 0 voice (omega (arith, rise.0)) w.chords_rise

  abbrev cell_bar : VoiceBar
  cell_bar = voice_bar g pins channel n bar end

  -- the input of the cell, of the parts that the pass has
  abbrev pub cell_with : ℕ → ℕ → List Chord → BarInput
  cell_with symbol before cs = record {
    symbol = symbol;
    resolution = g.resolution;
    num = bar.num;
    den = bar.den;
    length = end - bar.start;
    chords = moved_all bar.start (end - bar.start) cs;
    before = min (before - bar.start) (end - bar.start);
    pin = pin_of pins channel n;
  }

  pub cell_is : (symbol before tick : ℕ) (front : List Chord) (found : Option Shape) → tick ≡ end → front ≡ take count later → found ≡ pin_of pins channel n
      → record {
        symbol = symbol;
        resolution = g.resolution;
        num = bar.num;
        den = bar.den;
        length = tick - bar.start;
        chords = moved_all bar.start (tick - bar.start) front;
        before = min (before - bar.start) (tick - bar.start);
        pin = found;
      } ≡ cell_with symbol before (take count later)
  cell_is symbol before tick front found tick_is front_is found_is = λ i. record {
    symbol = symbol;
    resolution = g.resolution;
    num = bar.num;
    den = bar.den;
    length = tick_is i - bar.start;
    chords = moved_all bar.start (tick_is i - bar.start) (front_is i);
    before = min (before - bar.start) (tick_is i - bar.start);
    pin = found_is i;
  }

  pub input_is : (symbol before : ℕ) → Some symbol ≡ root_of g.starts bar.num bar.den → before ≡ end_before start voice
      → cell_with symbol before (take count later) ≡ input g cell_bar (soundings voice)
  input_is symbol before root same =
      let symbol_is : symbol ≡ cell_bar.symbol = ap (λ o. unwrap_or o 0) root in
      let whole : bar.start + (end - bar.start) ≡ end = omega (arith, rise.0, start_is) in
      let chords_are = ap (λ s. moved_all bar.start (end - bar.start) (filter (is_before end) (filter (is_from s) voice))) start_is ∙ own cell_bar end voice whole in
      let early : end_before start voice ≡ last_end 0 (map (λ c. c.end) (filter (λ c. nat_lt c.onset bar.start) (soundings voice))) =
      ap (λ s. end_before s voice) start_is ∙ ap (last_end 0) (sym (before-soundings bar.start voice)) in
      let before_same : min (before - bar.start) (end - bar.start) ≡ cut_end cell_bar (last_end 0 (map (λ c. c.end) (filter (λ c. nat_lt c.onset bar.start) (soundings voice)))) =
      ap (λ b. min (b - bar.start) (end - bar.start)) (same ∙ early) in
      let own_are = ap (moved_all bar.start (end - bar.start)) own_is ∙ chords_are in
      λ i. record {
        symbol = symbol_is i;
        resolution = g.resolution;
        num = bar.num;
        den = bar.den;
        length = end - bar.start;
        chords = own_are i;
        before = before_same i;
        pin = pin_of pins channel n;
      }

  -- the input stands at the number of the bar
  pub input_at : slice_get (map (λ m. input g m (soundings voice)) (voice_bars_from g pins channel last 0 bars)) n ≡ Some (input g cell_bar (soundings voice))
  input_at =
      let F : VoiceBar → BarInput = λ m. input g m (soundings voice) in
      slice_get-map F (voice_bars_from g pins channel last 0 bars) n ∙ ap (option_map F) (bar_at g pins channel last n bars d lt)

  -- one more input is made
  pub made_next : (made : List BarInput) (k : BarInput) (all : List BarInput) → k ≡ input g cell_bar (soundings voice)
      → made ++ map (λ m. input g m (soundings voice)) (voice_bars_from g pins channel last n (drop n bars)) ≡ all
      → (made ++ k ∷ []) ++ map (λ m. input g m (soundings voice)) (voice_bars_from g pins channel last (n + 1) (drop (n + 1) bars)) ≡ all
  made_next made k all is so_far =
      let F : VoiceBar → BarInput = λ m. input g m (soundings voice) in
      let more : List BarInput = map F (voice_bars_from g pins channel last (n + 1) (drop (n + 1) bars)) in
      append_assoc made (k ∷ []) more
      ∙ ap (λ l. made ++ l) (ap (λ x. x ∷ more) is ∙ ap (map F) (sym (measures-next g pins channel last n bars d lt)))
      ∙ so_far
