-- From the heads of the voices to what a list costs.
use Rattle.std.proofs.Common.{◌≡◌, ◌⊎◌, inl, inr, ℕ, ◌<◌, ◌≤◌, Bool, true, false, List, [], ◌∷◌, refl, ap, ap₂, sym, ◌∙◌, subst, arith}
use Rattle.std.specs.Prelude.{All, Option, Some, None, nat_lt, not, ◌||◌, ◌&&◌, ◌==◌}
use Rattle.std.specs.List.{list_all, list_any}
use Rattle.std.proofs.lemmas.Bool.{false≢true}
use Rattle.std.proofs.lemmas.Bool.Decides.{nat_tests}
use Rattle.std.proofs.lemmas.List.Elements.{All-filter, All-nil}
use Rattle.chain_bars.specs.Laws.{AreTables, matrices}
use Rattle.chain_bars.specs.Tower.{cost_of}
use Rattle.chain_bars.proofs.Voices.{along_fits, along_key, beaten, key_derivation, path_none, path_trees}
use Rattle.rhythm_base.specs.declared.chord.Chord.{Chord}
use Rattle.rhythm_base.specs.declared.inner.Inner.{Inner}
use Rattle.rhythm_base.specs.declared.note.Note.{Note}
use Rattle.rhythm_base.specs.BarTables.{BarTable}
use Rattle.rhythm_base.specs.Cost.{cost}
use Rattle.rhythm_base.specs.DeadBars.{end_of_bars}
use Rattle.edit_laws.specs.Edits.{is_past}
use Rattle.rhythm_base.specs.Forest.{Tree}
use Rattle.rhythm_base.specs.Grammar.{Grammar}
use Rattle.rhythm_base.specs.Least.{IsLeast}
use Rattle.rhythm_base.specs.Leaves.{Fits, VoiceBar, soundings}
use Rattle.rhythm_base.specs.Line.{Rising}
use Rattle.rhythm_base.specs.Lists.{Each, last_end}
use Rattle.rhythm_base.specs.Paths.{IsPathKey}
use Rattle.rhythm_base.specs.Performance.{IsWellFormed, Performance}
use Rattle.rhythm_base.specs.Ranked.{Key, five, least_key}
use Rattle.rhythm_base.specs.Voices.{AreChordsOf, HasStarts, IsCostOf, IsLeastCost, IsSumOfCosts, notes_of_voice, voice_bars}
use Rattle.path_laws.specs.Tables.{IsLeastKey}
use Rattle.tree_laws.specs.Voices.{Adjacent, CellsFit, IsVoice, cell_costs}
use Rattle.performance_laws.proofs.ChordLemmas.{onsets_keep}
use Rattle.tree_laws.proofs.Costs.{cost-cells}
use Rattle.tree_laws.proofs.Local.{cells-fit, fits-cells}
use Rattle.rhythm_base.proofs.OrderedLists.{all_cons, all_head, all_tail}
use Rattle.path_laws.proofs.PathTables.{keys-least_path}
use Rattle.performance_laws.proofs.PerformedVoices.{rising, adjacent_ends}
use Rattle.path_laws.proofs.Products.{five_at}
use Rattle.tree_laws.proofs.OneDerivations.{not_less}
use Rattle.performance_laws.proofs.OneChords.{one_chords}
use Rattle.barline_follow.specs.declared.heads.Heads.{Heads}
use Rattle.barline_follow.specs.Bars.{bars_on, is_closed, with_barlines}
use Rattle.barline_follow.specs.Costs.{head_cost_at, least_of_five, own_cost, sum, total}
use Rattle.barline_follow.specs.HeadCost.{IsHeadCost, IsHeadOfVoice, IsHeadRun, IsSum, chords_in, run_cost}
use Rattle.barline_follow.specs.Courses.{AreHeads, bars_of}
use Rattle.barline_follow.proofs.CostLemmas.{cost_key, least_is, least_low, not_less_cost, sum_parts}
use Rattle.barline_follow.proofs.LongerBars.{one_voice}

-- ---- the least paths over the tables of a voice, and runs of the voice

module _ (g : Grammar) (bars : List VoiceBar) (cs : List Inner) (tables : List BarTable) (some : 1 ≤ g.resolution)
    (near : Adjacent 0 bars (end_of_bars 0 bars)) (rise : Rising 0 cs) (h : AreTables g cs bars tables) where
  abbrev end : ℕ
  end = end_of_bars 0 bars

  -- a path is a run of its cost
  pub path_run : (to c : ℕ) → cost_of (least_key (matrices tables) 0 to) ≡ Some c
      → (trees : List Tree) × Fits g bars (chords_in bars cs) trees to × (c ≡ run_cost g bars cs trees)
  path_run to c is =
      let key = cost_key (least_key (matrices tables) 0 to) c is in
      let least = subst (IsLeastKey (IsPathKey (matrices tables) 0 to)) key.1 (keys-least_path (matrices tables) 0 to) in
      let path = least.0 in
      let trees = path_trees g cs bars tables 0 path.0 key.0 h (omega arith) path.1 path.3 in
      let along = along_fits g cs bars tables 0 path.0 trees.0 key.0 h trees.1 in
      let cells : CellsFit g cs bars trees.0 0 to = subst (CellsFit g cs bars trees.0 0) path.2 along.0 in
      let fits = cells-fit g bars cs trees.0 0 end some near rise to cells in
      (trees.0, fits, key.2 ∙ sym along.1 ∙ sym (cost-cells g bars cs trees.0 0 end some near rise fits.trees))

  -- a run costs no less than the least path that leaves as many chords
  pub run_path : (to : ℕ) (us : List Tree) → to ≤ 4 → Fits g bars (chords_in bars cs) us to
      → (c : ℕ) × (cost_of (least_key (matrices tables) 0 to) ≡ Some c) × (c ≤ run_cost g bars cs us)
  run_path to us few f =
      let win = beaten g cs bars tables us 0 to h (fits-cells g bars cs us 0 end some near rise to few f) in
      let key = along_key g tables 0 win.path win.trees win.key win.along in
      let whole : run_cost g bars cs us ≡ cell_costs g cs bars us = cost-cells g bars cs us 0 end some near rise f.trees in
      let low : win.key.0 ≤ cell_costs g cs bars us = not_less_cost (cell_costs g cs bars us) win.key.0 _ (not_less _ win.first) in
      by win.key (win.path, key.0, win.ends, key.1) (omega (arith, low, whole)) (least_key (matrices tables) 0 to) refl
    where
      by : (k : Key) → IsPathKey (matrices tables) 0 to k → k.0 ≤ run_cost g bars cs us → (o : Option Key) → least_key (matrices tables) 0 to ≡ o
          → (c : ℕ) × (cost_of (least_key (matrices tables) 0 to) ≡ Some c) × (c ≤ run_cost g bars cs us)
      by k reached low None e = absurd ((subst (IsLeastKey (IsPathKey (matrices tables) 0 to)) e (keys-least_path (matrices tables) 0 to)) k reached)
      by k reached low (Some l) e =
          let least = subst (IsLeastKey (IsPathKey (matrices tables) 0 to)) e (keys-least_path (matrices tables) 0 to) in
          let first : l.0 ≤ k.0 = not_less_cost k.0 l.0 _ (least.1 k reached) in
          (l.0, ap cost_of e, omega (arith, first, low))

-- ---- sums over the voices

module _ (Costs : ℕ → ℕ → Type 0) (is_closed : Bool) (Voice : ℕ → List Chord → Type 0) (Of : List Chord → Heads → Type 0)
    (yes : (channel : ℕ) (voice : List Chord) (heads : Heads) → Voice channel voice → Of voice heads → (c : ℕ) → own_cost is_closed heads ≡ Some c → Costs channel c)
    (no : (channel : ℕ) (voice : List Chord) (heads : Heads) → Voice channel voice → Of voice heads → own_cost is_closed heads ≡ None → (c : ℕ) → Costs channel c → ⊥) where
  no_parts : (a b : Option ℕ) → sum a b ≡ None → (a ≡ None) ⊎ (b ≡ None)
  no_parts None b h = inl refl
  no_parts (Some x) None h = inr refl
  no_parts (Some x) (Some y) h = absurd (cc)

  pub sum_of : (channels : List ℕ) (voices : List (List Chord)) (heads : List Heads) → Each Voice channels voices → Each Of voices heads
      → (c : ℕ) → total is_closed heads ≡ Some c → IsSum Costs channels c
  sum_of [] [] [] h k c is = let same : 0 ≡ c = cc in sym same
  sum_of [] [] (x ∷ heads) h k c is = absurd (cc)
  sum_of [] (v ∷ voices) heads h k c is = absurd (cc)
  sum_of (n ∷ channels) [] heads h k c is = absurd h
  sum_of (n ∷ channels) (v ∷ voices) [] h k c is = absurd k
  sum_of (n ∷ channels) (v ∷ voices) (x ∷ heads) h k c is =
      let parts = sum_parts (own_cost is_closed x) (total is_closed heads) c is in
      (parts.0, parts.1, yes n v x h.0 k.0 parts.0 parts.2, sum_of channels voices heads h.1 k.1 parts.1 parts.3, parts.4)

  pub no_sum : (channels : List ℕ) (voices : List (List Chord)) (heads : List Heads) → Each Voice channels voices → Each Of voices heads
      → total is_closed heads ≡ None → (c : ℕ) → IsSum Costs channels c → ⊥
  no_sum [] [] [] h k is c s = absurd (cc)
  no_sum [] [] (x ∷ heads) h k is c s = absurd (cc)
  no_sum [] (v ∷ voices) heads h k is c s = absurd (cc)
  no_sum (n ∷ channels) [] heads h k is c s = absurd h
  no_sum (n ∷ channels) (v ∷ voices) [] h k is c s = absurd k
  no_sum (n ∷ channels) (v ∷ voices) (x ∷ heads) h k is c s = elim (no_parts (own_cost is_closed x) (total is_closed heads) is) [
    | inl own ↦ no n v x h.0 k.0 own s.0 s.2
    | inr others ↦ no_sum channels voices heads h.1 k.1 others s.1 s.3
  ]

sum_of_costs : (g : Grammar) (p : Performance) (channels : List ℕ) (c : ℕ) → IsSum (IsLeastCost g p) channels c → IsSumOfCosts g p channels c
sum_of_costs g p [] c h = h
sum_of_costs g p (n ∷ channels) c h = (h.0, h.1, h.2, sum_of_costs g p channels h.1 h.3, h.4)

costs_are_sum : (g : Grammar) (p : Performance) (channels : List ℕ) (c : ℕ) → IsSumOfCosts g p channels c → IsSum (IsLeastCost g p) channels c
costs_are_sum g p [] c h = h
costs_are_sum g p (n ∷ channels) c h = (h.0, h.1, h.2, costs_are_sum g p channels h.1 h.3, h.4)

-- ---- one voice over barlines

module _ (g : Grammar) (p : Performance) (ticks : List ℕ) (formed : IsWellFormed p) (some : 1 ≤ g.resolution)
    (starts : HasStarts g (with_barlines p ticks).bars) (near : Adjacent 0 (bars_of g p ticks) (last_end 0 ticks)) where
  abbrev bars : List VoiceBar
  bars = bars_of g p ticks

  bars_are : (channel : ℕ) → bars ≡ voice_bars g (with_barlines p ticks) channel
  bars_are channel = sym (one_voice g channel (last_end 0 ticks) 0 (bars_on p 0 ticks))

  end_is : end_of_bars 0 bars ≡ last_end 0 ticks
  end_is = adjacent_ends bars 0 (last_end 0 ticks) near

  near_end : Adjacent 0 bars (end_of_bars 0 bars)
  near_end = subst (Adjacent 0 bars) (sym end_is) near

  at_five : (heads : Heads) (keys : ℕ → Option Key) (n : ℕ) → n < 5 → heads.costs ≡ five (λ to. cost_of (keys to)) → head_cost_at heads.costs n ≡ cost_of (keys n)
  at_five heads keys n lt are = ap (λ l. head_cost_at l n) are ∙ five_at (λ to. cost_of (keys to)) None n lt

  head_of : (channel : ℕ) (voice : List Chord) (heads : Heads) → AreChordsOf g p channel voice → AreHeads g p ticks voice heads
      → (c : ℕ) → own_cost false heads ≡ Some c → IsHeadOfVoice g p ticks channel c
  unfolding least_of_five
  head_of channel voice heads chords h c is =
      let rise : Rising 0 (soundings voice) = rising g p channel voice formed chords in
      let keys : ℕ → Option Key = least_key (matrices h.tables) 0 in
      let own = least_is (head_cost_at heads.costs) 5 c is in
      let at : cost_of (keys own.0) ≡ Some c = sym (at_five heads keys own.0 own.1 h.are) ∙ own.2 in
      let run = path_run g bars (soundings voice) h.tables some near_end rise h.each own.0 c at in
      let first : (others : List Tree) → IsHeadRun g bars (soundings voice) others → c ≤ run_cost g bars (soundings voice) others =
      λ others r.
      let low = run_path g bars (soundings voice) h.tables some near_end rise h.each r.to others r.few r.fits in
      let least = least_low (head_cost_at heads.costs) 5 r.to low.0 (omega (arith, r.few)) (at_five heads keys r.to (omega (arith, r.few)) h.are ∙ low.1) in
      let same : Some least.0 ≡ Some c = sym least.1 ∙ is in
      let same_cost : least.0 ≡ c = cc in
      omega (arith, same_cost, least.2, low.2) in
      let it : (trees : List Tree) × IsHeadRun g bars (soundings voice) trees × (c ≡ run_cost g bars (soundings voice) trees)
      × ((others : List Tree) → IsHeadRun g bars (soundings voice) others → c ≤ run_cost g bars (soundings voice) others) =
      (run.0, record { to = own.0; fits = run.1; few = omega (arith, own.1) }, run.2, first) in
      let there = subst (λ (bs : List VoiceBar). (trees : List Tree) × IsHeadRun g bs (soundings voice) trees × (c ≡ run_cost g bs (soundings voice) trees)
      × ((others : List Tree) → IsHeadRun g bs (soundings voice) others → c ≤ run_cost g bs (soundings voice) others)) (bars_are channel) it in
      record { starts = starts; chords = voice; are_chords = chords; trees = there.0; run = there.1; is = there.2; least = there.3 }

  no_head : (channel : ℕ) (voice : List Chord) (heads : Heads) → AreChordsOf g p channel voice → AreHeads g p ticks voice heads
      → own_cost false heads ≡ None → (c : ℕ) → IsHeadOfVoice g p ticks channel c → ⊥
  unfolding least_of_five
  no_head channel voice heads chords h is c head =
      let rise : Rising 0 (soundings voice) = rising g p channel voice formed chords in
      let keys : ℕ → Option Key = least_key (matrices h.tables) 0 in
      let same : head.chords ≡ voice = one_chords p.tempos p.division g.window (notes_of_voice p channel) head.chords voice head.are_chords chords in
      let r : IsHeadRun g bars (soundings voice) head.trees =
      subst (λ (bs : List VoiceBar). IsHeadRun g bs (soundings voice) head.trees) (sym (bars_are channel))
      (subst (λ (cs : List Chord). IsHeadRun g (voice_bars g (with_barlines p ticks) channel) (soundings cs) head.trees) same head.run) in
      let low = run_path g bars (soundings voice) h.tables some near_end rise h.each r.to head.trees r.few r.fits in
      let least = least_low (head_cost_at heads.costs) 5 r.to low.0 (omega (arith, r.few)) (at_five heads keys r.to (omega (arith, r.few)) h.are ∙ low.1) in
      let wrong : Some least.0 ≡ None = sym least.1 ∙ is in
      absurd (cc)

  -- ---- where the list is closed

  module _ (closed : is_closed p ticks ≡ true) where
    neither : (a b : Bool) → not (a || b) ≡ true → (a ≡ false) × (b ≡ false)
    neither true b h = absurd (false≢true h)
    neither false true h = absurd (false≢true h)
    neither false false h = (refl, refl)

    notes_before : (e : ℕ) (notes : List Note) → not (list_any (is_past e) notes) ≡ true → All (λ n. n.onset < e) notes
    notes_before e [] h = All-nil (λ (n : Note). n.onset < e)
    notes_before e (n ∷ notes) h =
        let parts = neither (is_past e n) (list_any (is_past e) notes) h in
        let low : n.onset < e = grind (arith, nat_tests, parts.0) in
        all_cons (λ (n : Note). n.onset < e) n notes low (notes_before e notes (ap not parts.1))

    sounded_before : (e : ℕ) (cs : List Chord) → All (λ c. c.onset < e) cs → list_all (λ c. nat_lt c.onset e) (soundings cs) ≡ true
    sounded_before e [] h = refl
    sounded_before e (c ∷ cs) h =
        let low : c.onset < e = all_head (λ (c : Chord). c.onset < e) c cs h in
        let is : nat_lt c.onset e ≡ true = grind (arith, nat_tests, low) in
        ap₂ ◌&&◌ is (sounded_before e cs (all_tail (λ (c : Chord). c.onset < e) c cs h))

    is_voice : (channel : ℕ) (voice : List Chord) → AreChordsOf g p channel voice → IsVoice g bars (soundings voice)
    is_voice channel voice chords =
        let low = onsets_keep (λ t. t < last_end 0 ticks) p.tempos p.division g.window (notes_of_voice p channel) voice chords
        (All-filter (λ n. n.channel == channel) (λ n. n.onset < last_end 0 ticks) p.notes (notes_before (last_end 0 ticks) p.notes closed)) in
        record {
          some = some;
          near = near_end;
          rise = rising g p channel voice formed chords;
          below = ap (λ e. list_all (λ c. nat_lt c.onset e) (soundings voice)) end_is ∙ sounded_before (last_end 0 ticks) voice low;
        }

    cost_of_voice : (channel : ℕ) (voice : List Chord) (heads : Heads) → AreChordsOf g p channel voice → AreHeads g p ticks voice heads
        → (c : ℕ) → own_cost true heads ≡ Some c → IsLeastCost g (with_barlines p ticks) channel c
    cost_of_voice channel voice heads chords h c is =
        let keys : ℕ → Option Key = least_key (matrices h.tables) 0 in
        let key = cost_key (keys 0) c (sym (at_five heads keys 0 (omega arith) h.are) ∙ is) in
        let found = key_derivation g bars (soundings voice) h.tables key.0 (is_voice channel voice chords) h.each key.1 in
        let it : (trees : List Tree) × IsLeast g bars (soundings voice) trees × (c ≡ cost g bars (soundings voice) trees) =
        (found.0, found.1, key.2 ∙ sym found.2) in
        let there = subst (λ (bs : List VoiceBar). (trees : List Tree) × IsLeast g bs (soundings voice) trees × (c ≡ cost g bs (soundings voice) trees)) (bars_are channel) it in
        record { starts = starts; chords = voice; are_chords = chords; trees = there.0; least = there.1; is = there.2 }

    no_cost_of_voice : (channel : ℕ) (voice : List Chord) (heads : Heads) → AreChordsOf g p channel voice → AreHeads g p ticks voice heads
        → own_cost true heads ≡ None → (c : ℕ) → IsLeastCost g (with_barlines p ticks) channel c → ⊥
    no_cost_of_voice channel voice heads chords h is c least =
        let keys : ℕ → Option Key = least_key (matrices h.tables) 0 in
        let none : keys 0 ≡ None = no_key (keys 0) (sym (at_five heads keys 0 (omega arith) h.are) ∙ is) in
        let same : least.chords ≡ voice = one_chords p.tempos p.division g.window (notes_of_voice p channel) least.chords voice least.are_chords chords in
        let fits : Fits g bars (soundings voice) least.trees 0 =
        subst (λ (bs : List VoiceBar). Fits g bs (soundings voice) least.trees 0) (sym (bars_are channel))
        (subst (λ (cs : List Chord). Fits g (voice_bars g (with_barlines p ticks) channel) (soundings cs) least.trees 0) same least.least.fits) in
        (path_none g bars (soundings voice) h.tables (is_voice channel voice chords) h.each).0 none least.trees fits
      where
        no_key : (o : Option Key) → cost_of o ≡ None → o ≡ None
        no_key None e = refl
        no_key (Some k) e = absurd (cc)

    pub whole_cost : (voices : List (List Chord)) (heads : List Heads) → Each (AreChordsOf g p) p.channels voices → Each (AreHeads g p ticks) voices heads
        → (c : ℕ) → total true heads ≡ Some c → IsCostOf g (with_barlines p ticks) c
    whole_cost voices heads h k c is =
        sum_of_costs g (with_barlines p ticks) p.channels c
        (sum_of (IsLeastCost g (with_barlines p ticks)) true (AreChordsOf g p) (AreHeads g p ticks) cost_of_voice no_cost_of_voice p.channels voices heads h k c is)

    pub no_whole_cost : (voices : List (List Chord)) (heads : List Heads) → Each (AreChordsOf g p) p.channels voices → Each (AreHeads g p ticks) voices heads
        → total true heads ≡ None → (c : ℕ) → IsCostOf g (with_barlines p ticks) c → ⊥
    no_whole_cost voices heads h k is c s =
        no_sum (IsLeastCost g (with_barlines p ticks)) true (AreChordsOf g p) (AreHeads g p ticks) cost_of_voice no_cost_of_voice p.channels voices heads h k is c
        (costs_are_sum g (with_barlines p ticks) p.channels c s)

  -- ---- where it is not

  pub head_cost : (voices : List (List Chord)) (heads : List Heads) → Each (AreChordsOf g p) p.channels voices → Each (AreHeads g p ticks) voices heads
      → (c : ℕ) → total false heads ≡ Some c → IsHeadCost g p ticks c
  head_cost voices heads h k c is = sum_of (IsHeadOfVoice g p ticks) false (AreChordsOf g p) (AreHeads g p ticks) head_of no_head p.channels voices heads h k c is

  pub no_head_cost : (voices : List (List Chord)) (heads : List Heads) → Each (AreChordsOf g p) p.channels voices → Each (AreHeads g p ticks) voices heads
      → total false heads ≡ None → (c : ℕ) → IsHeadCost g p ticks c → ⊥
  no_head_cost voices heads h k is c s = no_sum (IsHeadOfVoice g p ticks) false (AreChordsOf g p) (AreHeads g p ticks) head_of no_head p.channels voices heads h k is c s
