-- A bar more after others: of a list of barlines, of a voice, and in its tables and heads.
use Rattle.std.proofs.Common.{◌≡◌, ℕ, suc, ◌+◌, ◌-◌, ◌<◌, ◌≤◌, List, [], ◌∷◌, ◌++◌, length, refl, ap, ap₂, sym, ◌∙◌, subst, arith}
use Rattle.std.specs.Prelude.{Option, Some, None}
use Rattle.std.proofs.lemmas.List.{append_assoc, map-append}
use Rattle.bar_pool.specs.Pool.{IsTableOf}
use Rattle.chain_bars.specs.Laws.{AreTables, matrices}
use Rattle.chain_bars.specs.Tower.{best_cost, cost_of}
use Rattle.chain_bars.proofs.Towers.{table_cost}
use Rattle.rhythm_base.specs.declared.chord.Chord.{Chord}
use Rattle.rhythm_base.specs.declared.inner.Inner.{Inner}
use Rattle.rhythm_base.specs.declared.note.Bar.{Bar}
use Rattle.rhythm_base.specs.Barlines.{barline}
use Rattle.rhythm_base.specs.BarTables.{BarTable, IsTable}
use Rattle.rhythm_base.specs.Cells.{input}
use Rattle.edit_laws.specs.Edits.{next_bar, with_start}
use Rattle.rhythm_base.specs.Grammar.{Grammar}
use Rattle.rhythm_base.specs.Leaves.{VoiceBar, soundings}
use Rattle.rhythm_base.specs.Lists.{last_end}
use Rattle.rhythm_base.specs.Paths.{IsRanked}
use Rattle.rhythm_base.specs.Performance.{Performance}
use Rattle.rhythm_base.specs.Ranked.{CarryMatrix, at, five, least_key}
use Rattle.rhythm_base.specs.Voices.{voice_bar, voice_bars_from}
use Rattle.tree_laws.specs.Voices.{Adjacent}
use Rattle.path_laws.proofs.PathTables.{keys_append, table_single}
use Rattle.path_laws.proofs.Products.{five_at, five_same}
use Rattle.barline_follow.specs.declared.heads.Heads.{Heads}
use Rattle.barline_follow.specs.Bars.{bars_on, pattern_of}
use Rattle.barline_follow.specs.Costs.{head_cost_at, costs_with, least_below, least_of_five, sum}
use Rattle.barline_follow.specs.Courses.{AreHeads, bars_of, cell}
use Rattle.barline_follow.proofs.CostLemmas.{least_same, times_cost}
use Rattle.barline_follow.proofs.Further.{last_pushed}

-- ---- bars

pub bars_push : (p : Performance) (i e x : ℕ) (ticks : List ℕ) → 1 ≤ length ticks
    → bars_on p i (ticks ++ (x ∷ [])) ≡ bars_on p i ticks ++ next_bar (last_end e ticks) (pattern_of p (i + (length ticks - 1)))
bars_push p i e x [] h = absurd (omega (arith, h))
bars_push p i e x (t ∷ []) h =
    let at : i + (1 - 1) ≡ i = omega arith in
    append_none (next_bar t (pattern_of p i)) ∙ ap (λ k. next_bar t (pattern_of p k)) (sym at)
  where
    append_none : (l : List Bar) → l ++ [] ≡ l
    append_none [] = refl
    append_none (b ∷ l) = ap (λ m. b ∷ m) (append_none l)
bars_push p i e x (t ∷ u ∷ ticks) h =
    let at : suc i + (length (u ∷ ticks) - 1) ≡ i + (length (t ∷ u ∷ ticks) - 1) = omega arith in
    ap (λ l. next_bar t (pattern_of p i) ++ l) (bars_push p (suc i) t x (u ∷ ticks) (omega arith)
    ∙ ap (λ k. bars_on p (suc i) (u ∷ ticks) ++ next_bar (last_end u ticks) (pattern_of p k)) at)
    ∙ sym (append_assoc (next_bar t (pattern_of p i)) (bars_on p (suc i) (u ∷ ticks)) (next_bar (last_end u ticks) (pattern_of p (i + (length (t ∷ u ∷ ticks) - 1)))))

barline_push : (bars : List Bar) (b : Bar) (e : ℕ) → barline (bars ++ (b ∷ [])) e 0 ≡ barline bars b.start 0
barline_push [] b e = refl
barline_push (a ∷ bars) b e = refl

voice_push : (g : Grammar) (channel e i : ℕ) (bars : List Bar) (b : Bar)
    → voice_bars_from g [] channel e i (bars ++ (b ∷ [])) ≡ voice_bars_from g [] channel b.start i bars ++ (voice_bar g [] 0 0 b e ∷ [])
voice_push g channel e i [] b = refl
voice_push g channel e i (a ∷ bars) b =
    ap₂ (λ t l. voice_bar g [] channel i a t ∷ l) (barline_push bars b e) (voice_push g channel e (suc i) bars b)

-- without pins all voices have the same bars
pub one_voice : (g : Grammar) (channel last i : ℕ) (bars : List Bar) → voice_bars_from g [] channel last i bars ≡ voice_bars_from g [] 0 last i bars
one_voice g channel last i [] = refl
one_voice g channel last i (b ∷ bars) = ap (λ l. voice_bar g [] 0 i b (barline bars last 0) ∷ l) (one_voice g channel last (suc i) bars)

module _ (g : Grammar) (p : Performance) (ticks : List ℕ) (like : Bar) (x : ℕ) (some : 1 ≤ length ticks)
    (is_like : pattern_of p (length ticks - 1) ≡ Some like) where
  abbrev start : ℕ
  start = last_end 0 ticks

  abbrev added : VoiceBar
  added = voice_bar g [] 0 0 (with_start start like) x

  pub bars_more : bars_on p 0 (ticks ++ (x ∷ [])) ≡ bars_on p 0 ticks ++ (with_start start like ∷ [])
  bars_more =
      let at : 0 + (length ticks - 1) ≡ length ticks - 1 = omega arith in
      bars_push p 0 0 x ticks some ∙ ap (λ k. bars_on p 0 ticks ++ next_bar start (pattern_of p k)) at
      ∙ ap (λ o. bars_on p 0 ticks ++ next_bar start o) is_like

  pub bars_of_more : bars_of g p (ticks ++ (x ∷ [])) ≡ bars_of g p ticks ++ (added ∷ [])
  bars_of_more =
      ap₂ (λ last bars. voice_bars_from g [] 0 last 0 bars) (last_pushed 0 x ticks) bars_more
      ∙ voice_push g 0 x 0 (bars_on p 0 ticks) (with_start start like)

  adjacent_push : (b m : ℕ) (bars : List VoiceBar) → Adjacent b bars m → m ≡ start → start < x → Adjacent b (bars ++ (added ∷ [])) x
  adjacent_push b m [] near is lt = (sym is ∙ sym near, omega (arith, lt), omega (arith, lt, near, is))
  adjacent_push b m (bar ∷ bars) near is lt = (near.0, near.1, adjacent_push (b + bar.length) m bars near.2 is lt)

  pub near_more : Adjacent 0 (bars_of g p ticks) start → start < x → Adjacent 0 (bars_of g p (ticks ++ (x ∷ []))) x
  near_more near lt = subst (λ bars. Adjacent 0 bars x) (sym bars_of_more) (adjacent_push 0 start (bars_of g p ticks) near refl lt)

  -- ---- tables

  tables_push : (cs : List Inner) (bars : List VoiceBar) (tables : List BarTable) (t : BarTable) → AreTables g cs bars tables
      → IsTable g t → t.input ≡ input g added cs → AreTables g cs (bars ++ (added ∷ [])) (tables ++ (t ∷ []))
  tables_push cs [] [] t h is of = (is, of, tt)
  tables_push cs [] (y ∷ tables) t h is of = absurd h
  tables_push cs (bar ∷ bars) [] t h is of = absurd h
  tables_push cs (bar ∷ bars) (y ∷ tables) t h is of = (h.0, h.1, tables_push cs bars tables t h.2 is of)

  one_table : (m : CarryMatrix) (from to : ℕ) → IsRanked m → from < 5 → to < 5 → cost_of (least_key (m ∷ []) from to) ≡ best_cost (at m from to)
  one_table m from to ranked lf lt = sym (table_cost (m ∷ []) from to lf lt) ∙ ap (λ n. best_cost (at n from to)) (table_single m ranked)

  costs_more : (costs : List (Option ℕ)) (es : List CarryMatrix) (m : CarryMatrix) → IsRanked m → costs ≡ five (λ to. cost_of (least_key es 0 to))
      → costs_with costs m ≡ five (λ to. cost_of (least_key (es ++ (m ∷ [])) 0 to))
  unfolding least_of_five
  costs_more costs es m ranked are =
      five_same (λ to. least_below (λ from. sum (head_cost_at costs from) (best_cost (at m from to))) 5) (λ to. cost_of (least_key (es ++ (m ∷ [])) 0 to))
      (λ to lt. sym (ap cost_of (keys_append es (m ∷ []) 0 to (omega arith)) ∙ times_cost (least_key es) (least_key (m ∷ [])) 0 to
      ∙ least_same (λ f. sum (cost_of (least_key es 0 f)) (cost_of (least_key (m ∷ []) f to))) (λ f. sum (head_cost_at costs f) (best_cost (at m f to))) 5
      (λ f lf. ap₂ sum (sym (ap (λ c. head_cost_at c f) are ∙ five_at (λ t. cost_of (least_key es 0 t)) None f lf)) (one_table m f to ranked lf lt))))

  -- the heads with a bar more
  pub heads_more : (voice : List Chord) (before after : Heads) (t : BarTable) → AreHeads g p ticks voice before
      → IsTableOf g (cell g like start x voice) t → after.costs ≡ costs_with before.costs t.matrix → AreHeads g p (ticks ++ (x ∷ [])) voice after
  heads_more voice before after t h is are = record {
    tables = h.tables ++ (t ∷ []);
    each = subst (λ bars. AreTables g (soundings voice) bars (h.tables ++ (t ∷ []))) (sym bars_of_more)
        (tables_push (soundings voice) (bars_of g p ticks) h.tables t h.each is.is is.of_input);
    are = are ∙ costs_more before.costs (matrices h.tables) t.matrix is.is.ranked h.are
        ∙ ap (λ es. five (λ to. cost_of (least_key es 0 to))) (sym (map-append (λ (y : BarTable). y.matrix) h.tables (t ∷ [])));
  }
