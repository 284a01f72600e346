-- The best trees of a bar between the costs of the bars round it are the alternatives of the bar of the voice.
use Rattle.std.proofs.Common.{◌≡◌, ℕ, zero, suc, ◌+◌, ◌*◌, ◌^◌, ◌<◌, ◌≤◌, true, List, [], ◌∷◌, length, get_or, take, drop, refl, subst, arith}
use Rattle.std.specs.Prelude.{All, Option, Some, None, slice_get}
use Rattle.std.proofs.Math.Nat.{mul-le-mul_right}
use Rattle.std.proofs.lemmas.List.{length-drop, length-map, length-take}
use Rattle.bar_alternatives.proofs.VoiceBars.{best_alternatives}
use Rattle.bar_alternatives.specs.BestTrees.{AreBestTrees, AreSmall, unpinned}
use Rattle.bar_alternatives.specs.Laws.{costs_after, costs_before}
use Rattle.chain_bars.specs.Laws.{matrices}
use Rattle.chain_bars.specs.Tower.{cost_of}
use Rattle.rhythm_base.specs.declared.limits.TheConstants.{DEAREST_CELL, MOST_BARS}
use Rattle.rhythm_base.specs.BarInput.{BarInput}
use Rattle.rhythm_base.specs.BarTables.{BarTable}
use Rattle.rhythm_base.specs.Forest.{Tree}
use Rattle.rhythm_base.specs.Grammar.{Grammar}
use Rattle.rhythm_base.specs.Leaves.{soundings}
use Rattle.rhythm_base.specs.Paths.{AreCheap}
use Rattle.rhythm_base.specs.Performance.{IsWellFormed, Performance}
use Rattle.rhythm_base.specs.Ranked.{CarryMatrix, Key, five, least_key}
use Rattle.rhythm_base.specs.Readable.{IsReadable}
use Rattle.tree_laws.specs.Alternatives.{AreBestOfBar}
use Rattle.rhythm_base.specs.Trees.{is_tree}
use Rattle.rhythm_base.specs.Voices.{voice_bars}
use Rattle.tree_laws.proofs.CheapTables.{table_cheap}
use Rattle.rhythm_base.proofs.OrderedLists.{all_head, all_tail}
use Rattle.performance_laws.proofs.PerformedVoices.{performed_voice}
use Rattle.tree_laws.proofs.ShapesOfTrees.{tree-has_shape}
use Rattle.edit_session.specs.Asking.{CanBePinned}
use Rattle.edit_session.specs.Kept.{AreTablesOfVoice}
use Rattle.edit_session.specs.LeastTrees.{IsTableIn}
use Rattle.edit_session.proofs.OtherInputs.{bar_there, each_table}
use Rattle.edit_session.proofs.PathCosts.{least_cheap}
use Rattle.edit_session.proofs.Tables.{voice_long}

-- ---- costs

small_five : (f : ℕ → Option ℕ) → ((n c : ℕ) → f n ≡ Some c → c < 2 ^ 60) → AreSmall (five f)
small_five f h zero c e = h 0 c e
small_five f h (suc zero) c e = h 1 c e
small_five f h (suc (suc zero)) c e = h 2 c e
small_five f h (suc (suc (suc zero))) c e = h 3 c e
small_five f h (suc (suc (suc (suc zero)))) c e = h 4 c e
small_five f h (suc (suc (suc (suc (suc n))))) c e = absurd (cc)

cheap_in : (g : Grammar) (tables : List BarTable) → All (IsTableIn g) tables → AreCheap DEAREST_CELL (matrices tables)
cheap_in g [] h = tt
cheap_in g (x ∷ tables) h = (table_cheap g x (all_head (IsTableIn g) x tables h).is, cheap_in g tables (all_tail (IsTableIn g) x tables h))

cheap_take : (c i : ℕ) (es : List CarryMatrix) → AreCheap c es → AreCheap c (take i es)
cheap_take c zero es h = tt
cheap_take c (suc i) [] h = tt
cheap_take c (suc i) (x ∷ es) h = (h.0, cheap_take c i es h.1)

cheap_drop : (c i : ℕ) (es : List CarryMatrix) → AreCheap c es → AreCheap c (drop i es)
cheap_drop c zero es h = h
cheap_drop c (suc i) [] h = tt
cheap_drop c (suc i) (x ∷ es) h = cheap_drop c i es h.1

-- a path over at most 4,096 cheap cells
small_path : (es : List CarryMatrix) (a b c : ℕ) (o : Option Key) → length es ≤ MOST_BARS → AreCheap DEAREST_CELL es → least_key es a b ≡ o → cost_of o ≡ Some c → c < 2 ^ 60
small_path es a b c None few h e is = absurd (cc)
small_path es a b c (Some k) few h e is =
    let low = least_cheap DEAREST_CELL es a b k h e in
    let most : length es * DEAREST_CELL ≤ MOST_BARS * DEAREST_CELL = mul-le-mul_right DEAREST_CELL few in
    let same : k.0 ≡ c = cc in
    omega (arith, low, most, same)

module _ (g : Grammar) (tables : List BarTable) (h : All (IsTableIn g) tables) (few : length tables ≤ MOST_BARS) where
  long : length (matrices tables) ≡ length tables
  long = length-map tables (λ (x : BarTable). x.matrix)

  pub small_before : (i : ℕ) → AreSmall (costs_before tables i)
  small_before i =
      let front : length (take i (matrices tables)) ≤ length (matrices tables) = omega (arith, length-take i (matrices tables)) in
      small_five (λ to. cost_of (least_key (take i (matrices tables)) 0 to))
      (λ n c is. small_path (take i (matrices tables)) 0 n c (least_key (take i (matrices tables)) 0 n) (omega (arith, front, long, few)) (cheap_take DEAREST_CELL i (matrices tables) (cheap_in g tables h)) refl is)

  pub small_after : (i : ℕ) → AreSmall (costs_after tables i)
  small_after i =
      let back : length (drop (i + 1) (matrices tables)) ≤ length (matrices tables) = omega (arith, length-drop (i + 1) (matrices tables)) in
      small_five (λ from. cost_of (least_key (drop (i + 1) (matrices tables)) from 0))
      (λ n c is. small_path (drop (i + 1) (matrices tables)) n 0 c (least_key (drop (i + 1) (matrices tables)) n 0) (omega (arith, back, long, few))
      (cheap_drop DEAREST_CELL (i + 1) (matrices tables) (cheap_in g tables h)) refl is)

-- ---- trees

module _ (g : Grammar) (readable : IsReadable g) where
  -- the alternatives of a voice of which these are the tables
  pub best_of_bar : (p : Performance) (channel i count : ℕ) (tables : List BarTable) (x : BarTable) (list : List (ℕ × Tree)) → IsWellFormed p → AreTablesOfVoice g p channel tables → slice_get tables i ≡ Some x
      → i < length tables → AreBestTrees g (unpinned x.input) (costs_before tables i) (costs_after tables i) count list → AreBestOfBar g p channel i count list
  best_of_bar p channel i count tables x list formed h there lt best =
      let bar = bar_there g p channel i (omega (arith, lt, voice_long g p channel tables h)) in
      let is = each_table g (soundings h.chords) (voice_bars g p channel) tables i x bar.0 h.each there bar.1 in
      record {
        chords = h.chords;
        are_chords = h.are_chords;
        best = best_alternatives g (soundings h.chords) (voice_bars g p channel) tables (performed_voice g p channel h.chords formed h.are_chords readable.ranges.some_unit) h.each i bar.0 bar.1 count list
            (subst (λ (k : BarInput). AreBestTrees g (unpinned k) (costs_before tables i) (costs_after tables i) count list) is.1 best);
      }

  -- each has the shape of a tree over a whole bar
  pub can_be_pinned : (k : BarInput) (before after : List (Option ℕ)) (count : ℕ) (list : List (ℕ × Tree)) → k.resolution ≡ g.resolution → AreBestTrees g k before after count list → All CanBePinned list
  can_be_pinned k before after count list units best n d lt =
      let a : ℕ × Tree = get_or list n d in
      let tree = (best.are n d lt).fits.tree in
      tree-has_shape g k.symbol k.pin a.1 readable (subst (λ w. is_tree g.rules w k.symbol k.pin a.1 ≡ true) units tree)
