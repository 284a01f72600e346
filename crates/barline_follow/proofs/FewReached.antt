-- An edit of bars reaches at most two cells of each voice.
use Rattle.std.proofs.Common.{◌≡◌, ◌⊎◌, inl, inr, ℕ, zero, suc, ◌+◌, ◌-◌, ◌*◌, ◌<◌, ◌≤◌, ◌==◌, Bool, true, false, cond, List, [], ◌∷◌, ◌++◌, drop, length, take, refl, ap, sym, ◌∙◌, subst, arith, Option, Some, None, Result, Ok, Err}
use Rattle.std.specs.Prelude.{All, AllPairs, Contains, MatchResult, filter, find, if◌then◌else◌, nat_lt, slice_get}
use Rattle.std.specs.Cmp.Lexicographic.{slice_cmp, nat_list_cmp_total}
use Rattle.std.specs.Option.{option_map}
use Rattle.std.specs.Ordering.{nat_cmp}
use Rattle.std.specs.declared.cmp.Ordering.TheVariants.{Less, Equal}
use Rattle.std.proofs.lemmas.Bool.{cases_lt}
use Rattle.std.proofs.lemmas.Bool.Decides.{nat_tests}
use Rattle.std.proofs.lemmas.Cmp.{tied_itself}
use Rattle.std.proofs.lemmas.List.{length-append, length-take-le, take-append-drop}
use Rattle.rhythm_base.specs.declared.chord.Chord.{Chord}
use Rattle.rhythm_base.specs.declared.edit.Edit.{Edit}
use Rattle.rhythm_base.specs.declared.edit.Edit.TheVariants.{Add, AddBar, Barline, Drop, DropBar, Move, Pin, Unpin}
use Rattle.rhythm_base.specs.declared.edit_fault.EditFault.{EditFault}
use Rattle.rhythm_base.specs.declared.note.Bar.{Bar}
use Rattle.rhythm_base.specs.declared.pin.Pin as pin
use Rattle.rhythm_base.specs.BarInput.{BarInput}
use Rattle.rhythm_base.specs.Barlines.{barline, last_start, next_barline, nominal_of}
use Rattle.rhythm_base.specs.Cells.{input}
use Rattle.rhythm_base.specs.Grammar.{Grammar}
use Rattle.rhythm_base.specs.Leaves.{VoiceBar, soundings}
use Rattle.rhythm_base.specs.Lists.{last_of}
use Rattle.rhythm_base.specs.Performance.{Performance}
use Rattle.rhythm_base.specs.Pins.{is_pin, pin_of}
use Rattle.rhythm_base.specs.Voices.{AreChordsOf, notes_of_voice, voice_bar, voice_bars, voice_bars_from}
use Rattle.rhythm_base.proofs.FirstLists.{all_contained, contains_split}
use Rattle.rhythm_base.proofs.OrderedLists.{all_head, all_tail, pairs_head, pairs_tail}
use Rattle.edit_laws.specs.Edits.{edit_tests, edited, first_refusal, next_bar, performance_after, with_barline}
use Rattle.edit_laws.specs.Reached.{AreReached, IsInputOf, IsReached}
use Rattle.edit_laws.proofs.BarEdits.{length-with_barline}
use Rattle.edit_laws.proofs.Edited.{made}
use Rattle.edit_laws.proofs.EditedCounts.{one_bar}
use Rattle.performance_laws.proofs.OneChords.{one_chords}
use Rattle.barline_follow.specs.Answer.{AreChosen}
use Rattle.barline_follow.specs.Builds.{AreMostBuilt, AreReachedBy, AreReachedInTurn, most_tables}
use Rattle.barline_follow.specs.Laws.{FewAreReached}
use Rattle.barline_follow.specs.Script.{Accepts, IsOfBars, script}
use Rattle.barline_follow.proofs.Answering.{of_bars}
use Rattle.barline_follow.proofs.ApartTicks.{AreApart, no_more}
use Rattle.barline_follow.proofs.OneBest.{one_chosen}

-- ---- no more than there are

-- a cell itself
abbrev own : ℕ × ℕ → ℕ × ℕ
own c = c

abbrev place : ℕ × ℕ → List ℕ
place c = c.0 ∷ c.1 ∷ []

abbrev Before : ℕ × ℕ → ℕ × ℕ → Type 0
Before x y = slice_cmp nat_cmp (place x) (place y) ≡ Less

cells_apart : (cells : List (ℕ × ℕ)) → AllPairs Before cells → AreApart own cells
cells_apart [] up = tt
cells_apart (x ∷ cells) up = (
  λ y c same.
      let before : Before x y = all_contained (Before x) cells y (pairs_head Before x cells up) c in
      let tied : slice_cmp nat_cmp (place y) (place y) ≡ Equal = tied_itself nat_list_cmp_total (place y) in
      let wrong : Less ≡ Equal = sym before ∙ ap (λ z. slice_cmp nat_cmp (place z) (place y)) same ∙ tied in
      absurd (cc),
  cells_apart cells (pairs_tail Before x cells up),
)

-- the cells of two bars in each voice
abbrev near : ℕ → ℕ → List ℕ → List (ℕ × ℕ)
near a b [] = []
near a b (channel ∷ channels) = (channel, a) ∷ (channel, b) ∷ near a b channels

near_long : (a b : ℕ) (channels : List ℕ) → length (near a b channels) ≡ 2 * length channels
near_long a b [] = refl
near_long a b (channel ∷ channels) = let rest = near_long a b channels in omega (arith, rest)

in_near : (a b : ℕ) (channels : List ℕ) (channel bar : ℕ) → Contains channels channel → (bar ≡ a) ⊎ (bar ≡ b) → Contains (near a b channels) (channel, bar)
in_near a b [] channel bar c at = absurd (omega (arith, c.1))
in_near a b (x ∷ channels) channel bar c at = elim (contains_split channel x channels c) [
  | inl same ↦ elim at [
    | inl first ↦ (0, omega arith, λ i. (same i, sym first i))
    | inr second ↦ (1, omega arith, λ i. (same i, sym second i))
  ]
  | inr rest ↦ let there = in_near a b channels channel bar rest at in (suc (suc there.0), omega (arith, there.1), there.2)
]

few_near : (a b : ℕ) (channels : List ℕ) (cells : List (ℕ × ℕ)) → AllPairs Before cells
    → ((channel bar : ℕ) → Contains cells (channel, bar) → Contains channels channel × ((bar ≡ a) ⊎ (bar ≡ b)))
    → length cells ≤ 2 * length channels
few_near a b channels cells up all =
    let most = no_more own cells (near a b channels) (cells_apart cells up)
    (λ c there. let at = all c.0 c.1 there in in_near a b channels c.0 c.1 at.0 at.1) in
    omega (arith, most, near_long a b channels)

-- ---- bars that stay as they were

module _ (g : Grammar) (pins : List pin.Pin) (channel : ℕ) where
  abbrev bar_at : ℕ → ℕ → List Bar → ℕ → Option VoiceBar
  bar_at last i bars j = slice_get (voice_bars_from g pins channel last i bars) j

  -- a barline is set
  next_stays : (last other k tick : ℕ) (bars : List Bar) → (k ≡ 0 → ⊥) → ((k ≡ length bars → ⊥) → other ≡ last)
      → barline (with_barline k tick bars) other 0 ≡ barline bars last 0
  next_stays last other k tick [] some stays = stays some
  next_stays last other zero tick (b ∷ bars) some stays = absurd (some refl)
  next_stays last other (suc k) tick (b ∷ bars) some stays = refl

  set_stays : (last other i k tick : ℕ) (bars : List Bar) (j : ℕ) → ((k ≡ length bars → ⊥) → other ≡ last) → (j ≡ k → ⊥) → (suc j ≡ k → ⊥)
      → bar_at other i (with_barline k tick bars) j ≡ bar_at last i bars j
  set_stays last other i k tick [] j stays apart after = refl
  set_stays last other i zero tick (b ∷ bars) zero stays apart after = absurd (apart refl)
  set_stays last other i zero tick (b ∷ bars) (suc j) stays apart after =
      ap (λ n. bar_at n (suc i) bars j) (stays (λ e. (omega (arith, e))))
  set_stays last other i (suc k) tick (b ∷ bars) zero stays apart after =
      ap (λ n. Some (voice_bar g pins channel i b n))
      (next_stays last other k tick bars (λ e. after (ap suc (sym e))) (λ differ. stays (λ e. differ (omega (arith, e)))))
  set_stays last other i (suc k) tick (b ∷ bars) (suc j) stays apart after =
      set_stays last other (suc i) k tick bars j (λ differ. stays (λ e. differ (omega (arith, e)))) (λ e. apart (ap suc e)) (λ e. after (ap suc e))

  -- others are after them
  first_stays : (last other i : ℕ) (bars more : List Bar) (j : ℕ) → barline more other 0 ≡ last → j < length bars
      → bar_at other i (bars ++ more) j ≡ bar_at last i bars j
  first_stays last other i [] more j is lt = absurd (omega (arith, lt))
  first_stays last other i (b ∷ []) more zero is lt = ap (λ n. Some (voice_bar g pins channel i b n)) is
  first_stays last other i (b ∷ []) more (suc j) is lt = absurd (omega (arith, lt))
  first_stays last other i (b ∷ a ∷ bars) more zero is lt = refl
  first_stays last other i (b ∷ a ∷ bars) more (suc j) is lt = first_stays last other (suc i) (a ∷ bars) more j is (omega (arith, lt))

-- other pins of other bars
pins_stay : (g : Grammar) (pins others : List pin.Pin) (channel last i : ℕ) (bars : List Bar) (j : ℕ) → pin_of others channel (i + j) ≡ pin_of pins channel (i + j)
    → bar_at g others channel last i bars j ≡ bar_at g pins channel last i bars j
pins_stay g pins others channel last i [] j is = refl
pins_stay g pins others channel last i (b ∷ bars) zero is =
    let at : pin_of others channel i ≡ pin_of pins channel i =
    subst (λ n. pin_of others channel n ≡ pin_of pins channel n) (omega arith) is in
    ap (λ (x : Option _). Some (record {
      start = b.start;
      length = barline bars last 0 - b.start;
      num = b.num;
      den = b.den;
      symbol = (voice_bar g pins channel i b (barline bars last 0)).symbol;
      pin = x;
    })) at
pins_stay g pins others channel last i (b ∷ bars) (suc j) is =
    pins_stay g pins others channel last (suc i) bars j (subst (λ n. pin_of others channel n ≡ pin_of pins channel n) (omega arith) is)

kept_pin : (channel bar most : ℕ) (pins : List pin.Pin) → bar < most
    → find (is_pin channel bar) (filter (λ q. nat_lt q.bar most) pins) ≡ find (is_pin channel bar) pins
kept_pin channel bar most [] lt = refl
kept_pin channel bar most (q ∷ pins) lt = at (kept_pin channel bar most pins lt) (nat_lt q.bar most) (is_pin channel bar q) refl refl
  where
    past : (n : ℕ) → nat_lt n most ≡ false → most ≤ n
    past n h = grind (arith, nat_tests, h)

    its : (q : pin.Pin) → is_pin channel bar q ≡ true → q.bar ≡ bar
    its q h = grind (arith, nat_tests, h)

    at : find (is_pin channel bar) (filter (λ q. nat_lt q.bar most) pins) ≡ find (is_pin channel bar) pins
        → (keeps is : Bool) → nat_lt q.bar most ≡ keeps → is_pin channel bar q ≡ is
        → find (is_pin channel bar) (cond keeps (q ∷ filter (λ q. nat_lt q.bar most) pins) (filter (λ q. nat_lt q.bar most) pins))
        ≡ cond is (Some q) (find (is_pin channel bar) pins)
    at rest true true keeps is = ap (λ b. cond b (Some q) (find (is_pin channel bar) (filter (λ q. nat_lt q.bar most) pins))) is
    at rest true false keeps is = ap (λ b. cond b (Some q) (find (is_pin channel bar) (filter (λ q. nat_lt q.bar most) pins))) is ∙ rest
    at rest false true keeps is = absurd (omega (arith, lt, past q.bar keeps, its q is))
    at rest false false keeps is = rest

-- ---- cells that are not reached

-- the same chords and the same bar are the same input
same_input : (g : Grammar) (p q : Performance) (channel bar : ℕ) (k l : BarInput) → ((cs : List Chord) → AreChordsOf g q channel cs → AreChordsOf g p channel cs)
    → slice_get (voice_bars g q channel) bar ≡ slice_get (voice_bars g p channel) bar → IsInputOf g p channel bar k → IsInputOf g q channel bar l → k ≡ l
same_input g p q channel bar k l chords stays h m =
    let one : h.chords ≡ m.chords = one_chords p.tempos p.division g.window (notes_of_voice p channel) h.chords m.chords h.are_chords (chords m.chords m.are_chords) in
    let both : Some h.cell_bar ≡ Some m.cell_bar = sym h.there ∙ sym stays ∙ m.there in
    let same : h.cell_bar ≡ m.cell_bar = cc in
    h.is ∙ (λ i. input g (same i) (soundings (one i))) ∙ sym m.is

last_kept : (k n tick last : ℕ) → (k ≡ n → ⊥) → (if k == n then tick else last) ≡ last
last_kept k n tick last differ = at (k == n) refl
  where
    at : (b : Bool) → (k == n) ≡ b → (if b then tick else last) ≡ last
    at true is = absurd (differ (grind (arith, nat_tests, is)))
    at false is = refl

last_added : (last division : ℕ) (o : Option Bar) → barline (next_bar last o) (last + nominal_of division o) 0 ≡ last
last_added last division None = omega arith
last_added last division (Some b) = refl

last_dropped : (m last : ℕ) (bars : List Bar) → barline (drop m bars) last 0 ≡ barline bars last m
last_dropped zero last bars = refl
last_dropped (suc m) last [] = refl
last_dropped (suc m) last (b ∷ bars) = last_dropped m last bars

module _ (g : Grammar) (p : Performance) where
  barline_near : (k tick channel bar : ℕ) → IsReached g p (performance_after p (Barline k tick)) channel bar → (bar ≡ k) ⊎ (bar ≡ k - 1)
  barline_near k tick channel bar (voice, lt, inl new) = absurd (omega (arith, lt, new, length-with_barline k tick p.bars))
  barline_near k tick channel bar (voice, lt, inr (x, y, before, after, differ)) =
      let q : Performance = performance_after p (Barline k tick) in
      let unmoved : (bar ≡ k → ⊥) → (suc bar ≡ k → ⊥) → x ≡ y =
      λ apart next. same_input g p q channel bar x y (λ cs h. h)
      (set_stays g p.pins channel p.last q.last 0 k tick p.bars bar (last_kept k (length p.bars) tick p.last) apart next) before after in
      elim (cases_lt bar k) [
        | inl lower ↦ elim (cases_lt (suc bar) k) [
          | inl far ↦ absurd (differ (unmoved (λ e. (omega (arith, e, far))) (λ e. (omega (arith, e, far)))))
          | inr beside ↦ inr (omega (arith, lower, beside))
        ]
        | inr above ↦ elim (cases_lt k bar) [
          | inl far ↦ absurd (differ (unmoved (λ e. (omega (arith, e, far))) (λ e. (omega (arith, e, far)))))
          | inr at ↦ inl (omega (arith, above, at))
        ]
      ]

  pub added_last : (channel bar : ℕ) → IsReached g p (performance_after p AddBar) channel bar → bar ≡ length p.bars
  added_last channel bar (voice, lt, new) =
      let q : Performance = performance_after p AddBar in
      let long = length-append p.bars (next_bar p.last (last_of p.bars)) in
      let one = one_bar p.last (last_of p.bars) in
      elim (cases_lt bar (length p.bars)) [
        | inr past ↦ omega (arith, past, lt, long, one)
        | inl within ↦ elim new [
          | inl further ↦ absurd (omega (arith, further, within))
          | inr (x, y, before, after, differ) ↦ absurd (differ (same_input g p q channel bar x y (λ cs h. h)
              (first_stays g p.pins channel p.last (next_barline p) 0 p.bars (next_bar p.last (last_of p.bars)) bar (last_added p.last p.division (last_of p.bars)) within) before after))
        ]
      ]

  none_dropped : (channel bar : ℕ) → IsReached g p (performance_after p DropBar) channel bar → ⊥
  none_dropped channel bar (voice, lt, new) =
      let q : Performance = performance_after p DropBar in
      let most : ℕ = length p.bars - 1 in
      let left : List Bar = take most p.bars in
      let long : length left ≡ most = length-take-le most p.bars (omega arith) in
      let within : bar < most = omega (arith, lt, long) in
      let shape = ap (option_map (λ (x : pin.Pin). x.shape)) (kept_pin channel bar most p.pins within) in
      let pins = pins_stay g p.pins q.pins channel (last_start p) 0 left bar
      (subst (λ n. pin_of q.pins channel n ≡ pin_of p.pins channel n) (omega arith) shape) in
      let bars = first_stays g p.pins channel (last_start p) p.last 0 left (drop most p.bars) bar (last_dropped most p.last p.bars) lt in
      let whole = ap (λ l. slice_get (voice_bars_from g p.pins channel p.last 0 l) bar) (take-append-drop most p.bars) in
      elim new [
        | inl further ↦ omega (arith, further, within)
        | inr (x, y, before, after, differ) ↦ differ (same_input g p q channel bar x y (λ cs h. h) (pins ∙ sym bars ∙ whole) before after)
      ]

  few_after : (edit : Edit) (cells : List (ℕ × ℕ)) → IsOfBars edit → AreReached g p (performance_after p edit) cells → length cells ≤ 2 * length p.channels
  few_after (Barline k tick) cells bars h =
      few_near k (k - 1) p.channels cells h.in_order
      (λ channel bar c. let there = (h.exactly channel bar).0 c in (there.0, barline_near k tick channel bar there))
  few_after AddBar cells bars h =
      few_near (length p.bars) (length p.bars) p.channels cells h.in_order
      (λ channel bar c. let there = (h.exactly channel bar).0 c in (there.0, inl (added_last channel bar there)))
  few_after DropBar cells bars h =
      few_near 0 0 p.channels cells h.in_order
      (λ channel bar c. let there = (h.exactly channel bar).0 c in (there.0, absurd (none_dropped channel bar there)))
  few_after (Add channel key onset end) cells bars h = absurd bars
  few_after (Drop channel key onset) cells bars h = absurd bars
  few_after (Move channel key onset to) cells bars h = absurd bars
  few_after (Pin channel bar shape) cells bars h = absurd bars
  few_after (Unpin channel bar) cells bars h = absurd bars

  voices_after : (edit : Edit) → IsOfBars edit → (performance_after p edit).channels ≡ p.channels
  voices_after (Barline k tick) bars = refl
  voices_after AddBar bars = refl
  voices_after DropBar bars = refl
  voices_after (Add channel key onset end) bars = absurd bars
  voices_after (Drop channel key onset) bars = absurd bars
  voices_after (Move channel key onset to) bars = absurd bars
  voices_after (Pin channel bar shape) bars = absurd bars
  voices_after (Unpin channel bar) bars = absurd bars

  few_would : (edit : Edit) (r : Result Performance EditFault) (cells : List (ℕ × ℕ)) → IsOfBars edit → edited p edit ≡ r
      → MatchResult r (λ q. AreReached g p q cells) (λ fault. cells ≡ []) → length cells ≤ 2 * length p.channels
  few_would edit (Ok q) cells bars is h =
      let same : performance_after p edit ≡ q = (made (performance_after p edit) q (first_refusal (edit_tests p edit)) is).1 in
      few_after edit cells bars (subst (λ (r : Performance). AreReached g p r cells) (sym same) h)
  few_would edit (Err fault) cells bars is h = omega (arith, ap length h)

  few_by : (edit : Edit) (cells : List (ℕ × ℕ)) → IsOfBars edit → AreReachedBy g p edit cells → length cells ≤ 2 * length p.channels
  few_by edit cells bars (inl h) = few_would edit (edited p edit) cells bars refl h.1
  few_by edit cells bars (inr h) = omega (arith, ap length h.1)

  voices_kept : (edit : Edit) (next : Performance) → IsOfBars edit → Accepts g p edit next → next.channels ≡ p.channels
  voices_kept edit next bars accepts =
      let same : performance_after p edit ≡ next = (made (performance_after p edit) next (first_refusal (edit_tests p edit)) accepts.1).1 in
      ap (λ (q : Performance). q.channels) (sym same) ∙ voices_after edit bars

-- ---- several edits

few_in_turn : (g : Grammar) (p : Performance) (edits : List Edit) (n : ℕ) → All IsOfBars edits → AreReachedInTurn g p edits n
    → n ≤ length edits * (2 * length p.channels)
unfolding AreReachedInTurn
few_in_turn g p [] n bars h = omega (arith, h)
few_in_turn g p (edit ∷ edits) n bars (cells, others, reached, is, inl accepted) =
    let d : ℕ = 2 * length p.channels in
    let own = few_by g p edit cells (all_head IsOfBars edit edits bars) reached in
    let voices = voices_kept g p edit accepted.0 (all_head IsOfBars edit edits bars) accepted.1 in
    let rest : others ≤ length edits * d =
    subst (λ (cs : List ℕ). others ≤ length edits * (2 * length cs)) voices (few_in_turn g accepted.0 edits others (all_tail IsOfBars edit edits bars) accepted.2) in
    let more : suc (length edits) * d ≡ d + length edits * d = grind arith in
    omega (arith, is, own, rest, more)
few_in_turn g p (edit ∷ edits) n bars (cells, others, reached, is, inr refused) =
    let d : ℕ = 2 * length p.channels in
    let own = few_by g p edit cells (all_head IsOfBars edit edits bars) reached in
    let more : suc (length edits) * d ≡ d + length edits * d = grind arith in
    omega (arith, is, own, refused.1, more)

few_built : (g : Grammar) (p : Performance) (tables : ℕ) (ticks : List ℕ) → AreMostBuilt g p tables → AreChosen g p ticks
    → tables ≤ most_tables p + length (script p ticks) * (2 * length p.channels)
few_built g p tables ticks (others, reached, are_chosen, h, is) chosen =
    let same : script p others ≡ script p ticks = ap (script p) (one_chosen g p others ticks are_chosen chosen) in
    let few = few_in_turn g p (script p ticks) reached (of_bars p ticks) (subst (λ (l : List Edit). AreReachedInTurn g p l reached) same h) in
    omega (arith, is, few)

pub few : FewAreReached
few = record { reached = few_in_turn; built = few_built }
