-- The cells of a list's bar: each has costs, so those that are known go on to the costs of all.
use Rattle.std.proofs.Common.{◌≡◌, ℕ, zero, suc, ◌+◌, ◌<◌, List, [], ◌∷◌, ◌++◌, drop, length, map, take, get_or, refl, ap, sym, ◌∙◌, subst, arith}
use Rattle.std.specs.Prelude.{All}
use Rattle.std.specs.List.{zip}
use Rattle.std.proofs.lemmas.List.Elements.{All-drop, All-nil}
use Rattle.bar_pool.specs.Costs.{AreAllCosts, AreCosts}
use Rattle.bar_pool.specs.declared.order.AskedCell.{AskedCell}
use Rattle.least_cost.specs.Costs.{asked_costs}
use Rattle.least_cost.specs.declared.costs.BarCosts.{BarCosts}
use Rattle.least_cost.proofs.Tables.{some_table}
use Rattle.performance_laws.proofs.PerformedVoices.{ends_after, rising}
use Rattle.rhythm_base.specs.declared.chord.Chord.{Chord}
use Rattle.rhythm_base.specs.Grammar.{Grammar}
use Rattle.rhythm_base.specs.Leaves.{soundings}
use Rattle.rhythm_base.specs.Lists.{Each}
use Rattle.rhythm_base.specs.Performance.{Performance}
use Rattle.rhythm_base.specs.Voices.{AreChordsOf, voice_bar}
use Rattle.edit_laws.specs.Edits.{with_start}
use Rattle.row_laws.specs.Grounds.{IsReady}
use Rattle.rhythm_base.proofs.OrderedLists.{all_cons, all_head, all_tail}
use Rattle.table_laws.proofs.ReadyCells.{ready_cell, sound_after}
use Rattle.barline_follow.specs.declared.heads.Heads.{Heads}
use Rattle.barline_follow.specs.declared.next_bar.NextBar.{NextBar}
use Rattle.barline_follow.specs.declared.offers.Offer.{Offer}
use Rattle.barline_follow.specs.Barring.{Course, barring_end}
use Rattle.barline_follow.specs.NextBars.{IsNextBar, IsTried, asked_cell, asked_cells}
use Rattle.barline_follow.proofs.NextBarLemmas.{like_signature}
use Rattle.barline_follow.proofs.Searching.{each_append}

-- ---- costs exist

costs_exist : (g : Grammar) (cells : List AskedCell) → All (λ cell. IsReady g cell.input) cells → (bars : List BarCosts) × AreAllCosts g cells bars
costs_exist g [] ready = ([], refl)
costs_exist g (cell ∷ cells) ready =
    let table = some_table g cell.input (all_head (λ (cell : AskedCell). IsReady g cell.input) cell cells ready) in
    let rest = costs_exist g cells (all_tail (λ (cell : AskedCell). IsReady g cell.input) cell cells ready) in (
      record { costs = asked_costs table.0.matrix cell.asked } ∷ rest.0,
      (record { table = table.0; is = table.1; of_input = table.2; costs_are = refl }, rest.1),
    )

pub in_two : {X : Type 0} (n : ℕ) (xs : List X) → take n xs ++ drop n xs ≡ xs
in_two zero xs = refl
in_two (suc n) [] = refl
in_two (suc n) (x ∷ xs) = ap (λ l. x ∷ l) (in_two n xs)

-- one more of them
pub one_further : {X : Type 0} (n : ℕ) (xs : List X) → take n xs ++ take 1 (drop n xs) ≡ take (n + 1) xs
one_further zero [] = refl
one_further zero (x ∷ xs) = refl
one_further {X} (suc n) [] =
    let after : suc n + 1 ≡ suc (n + 1) = omega arith in
    subst (λ (m : ℕ). ◌≡◌ {A = List X} [] (take m [])) (sym after) refl
one_further {X} (suc n) (x ∷ xs) =
    let after : suc n + 1 ≡ suc (n + 1) = omega arith in
    ap (λ l. x ∷ l) (one_further n xs) ∙ ap (λ (m : ℕ). take m (x ∷ xs)) (sym after)

-- what is made of two lists at a place
pub one_joined : {X Y Z : Type 0} (f : X × Y → Z) (xs : List X) (ys : List Y) (n : ℕ) (d : X) (e : Y) → n < length xs → n < length ys
    → take 1 (drop n (map f (zip xs ys))) ≡ f (get_or xs n d, get_or ys n e) ∷ []
one_joined f [] ys n d e low high = absurd (omega (arith, low))
one_joined f (x ∷ xs) [] n d e low high = absurd (omega (arith, high))
one_joined f (x ∷ xs) (y ∷ ys) zero d e low high = refl
one_joined f (x ∷ xs) (y ∷ ys) (suc n) d e low high = one_joined f xs ys n d e (omega (arith, low)) (omega (arith, high))

-- ---- the cells of a bar that is tried

module _ (next : NextBar) (n : IsNextBar next) (t : Course) (o : Offer) (tried : IsTried next (barring_end t.barring) o) where
  abbrev g : Grammar
  g = next.grammar.now

  abbrev p : Performance
  p = next.performance.now

  abbrev end : ℕ
  end = barring_end t.barring + o.ticks

  abbrev Ready : AskedCell → Type 0
  Ready cell = IsReady g cell.input

  ready_voice : (channel : ℕ) (voice : List Chord) (heads : Heads) → AreChordsOf g p channel voice → Ready (asked_cell next (barring_end t.barring) end (voice, heads))
  ready_voice channel voice heads are =
      ready_cell g (soundings voice) n.readable (rising g p channel voice n.formed are) (sound_after voice (ends_after g p channel voice n.formed are))
      (voice_bar g [] 0 0 (with_start (barring_end t.barring) next.like) end)
      (like_signature p next.number next.like n.formed n.like) (omega (arith, tried.some)) (omega (arith, tried.early))

  ready_voices : (channels : List ℕ) (voices : List (List Chord)) (heads : List Heads) → Each (AreChordsOf g p) channels voices
      → All Ready (map (asked_cell next (barring_end t.barring) end) (zip voices heads))
  ready_voices channels [] heads h = All-nil Ready
  ready_voices channels (v ∷ voices) [] h = All-nil Ready
  ready_voices [] (v ∷ voices) (x ∷ heads) h = absurd (cc)
  ready_voices (c ∷ channels) (v ∷ voices) (x ∷ heads) h =
      all_cons Ready (asked_cell next (barring_end t.barring) end (v, x)) (map (asked_cell next (barring_end t.barring) end) (zip voices heads))
      (ready_voice c v x h.0) (ready_voices channels voices heads h.1)

  -- the costs of the first go on to costs of all
  pub costs_go_on : (v : ℕ) (known : List BarCosts) → AreAllCosts g (take v (asked_cells next t o)) known
      → (others : List BarCosts) × AreAllCosts g (asked_cells next t o) (known ++ others)
  costs_go_on v known are =
      let cells : List AskedCell = asked_cells next t o in
      let rest = costs_exist g (drop v cells) (All-drop Ready v cells (ready_voices p.channels next.voices.now t.heads n.chords)) in (
        rest.0,
        subst (λ (l : List AskedCell). AreAllCosts g l (known ++ rest.0)) (in_two v cells)
            (each_append (AreCosts g) (take v cells) (drop v cells) known rest.0 are rest.1),
      )
