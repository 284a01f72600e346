-- What a list comes to with a bar more, by the heads of its voices.
use Rattle.std.proofs.Common.{◌≡◌, ◌≢◌, inl, inr, ℕ, zero, suc, ◌+◌, ◌-◌, ◌*◌, ◌^◌, ◌<◌, ◌≤◌, Bool, true, false, not, List, [], ◌∷◌, ◌++◌, length, map, refl, ap, sym, ◌∙◌, subst, arith}
use Rattle.std.specs.Prelude.{All, Option, Some, None, nat_le, slice_index_or}
use Rattle.std.specs.List.{list_any, zip}
use Rattle.std.proofs.Math.Nat.{mul-le-mul_right}
use Rattle.std.proofs.lemmas.Bool.{cases_lt, false≢true, true≢false}
use Rattle.std.proofs.lemmas.List.{length-append}
use Rattle.std.proofs.lemmas.List.Elements.{All-append, All-nil}
use Rattle.bar_pool.specs.Costs.{AreAllCosts}
use Rattle.bar_pool.specs.Pool.{IsTableOf}
use Rattle.chain_bars.specs.Laws.{matrices}
use Rattle.chain_bars.specs.Tower.{cost_of}
use Rattle.chain_bars.proofs.Voices.{tables_long}
use Rattle.edit_session.proofs.Channels.{few_channels}
use Rattle.edit_session.proofs.PathCosts.{least_cheap, cheap}
use Rattle.rhythm_base.specs.declared.chord.Chord.{Chord}
use Rattle.rhythm_base.specs.declared.limits.TheConstants.{DEAREST_CELL, LATEST_TICK}
use Rattle.rhythm_base.specs.declared.note.Bar.{Bar}
use Rattle.least_cost.specs.declared.costs.BarCosts.{BarCosts}
use Rattle.rhythm_base.specs.BarTables.{BarTable}
use Rattle.edit_laws.specs.Edits.{is_past, next_bar, with_start}
use Rattle.rhythm_base.specs.Grammar.{Grammar, root_of}
use Rattle.rhythm_base.specs.Leaves.{soundings}
use Rattle.rhythm_base.specs.Lists.{Each, last_end}
use Rattle.rhythm_base.specs.Performance.{Performance}
use Rattle.rhythm_base.specs.Ranked.{Key, five, least_key}
use Rattle.rhythm_base.specs.Voices.{AreChordsOf, HasStarts}
use Rattle.tree_laws.specs.Voices.{Adjacent}
use Rattle.rhythm_base.proofs.OrderedLists.{all_cons}
use Rattle.path_laws.proofs.Products.{five_at}
use Rattle.barline_follow.specs.declared.heads.Heads.{Heads}
use Rattle.barline_follow.specs.declared.next_bar.NextBar.{NextBar}
use Rattle.barline_follow.specs.declared.offers.Offer.{Offer}
use Rattle.barline_follow.specs.Bars.{bars_on, is_closed, pattern_of, with_barlines}
use Rattle.barline_follow.specs.Barring.{Course, barring_end}
use Rattle.barline_follow.specs.Costs.{AreLowHeads, costs_with_bar, costs_with, head_cost_at, total}
use Rattle.barline_follow.specs.NextBars.{IsNextBar, IsCourseOf, IsTried, asked_cell, asked_cells}
use Rattle.barline_follow.proofs.BarCosts.{asked_enough}
use Rattle.barline_follow.specs.Rounds.{Draft, IsOpenAt, IsFound, IsWholeAt, at_cost, going, lost, whole, with_bar}
use Rattle.barline_follow.specs.Courses.{AreHeads, bars_of, cell}
use Rattle.barline_follow.proofs.CostLemmas.{cost_key}
use Rattle.barline_follow.proofs.Further.{last_pushed}
use Rattle.barline_follow.proofs.HeadCosts.{head_cost, no_head_cost, no_whole_cost, whole_cost}
use Rattle.barline_follow.proofs.LongerBars.{bars_more, heads_more, near_more}
use Rattle.barline_follow.proofs.Searching.{each_long}
use Rattle.derivation.proofs.OneScore.{bars_length}

-- ---- heads are low

one_at_most : (tick : ℕ) (o : Option Bar) → length (next_bar tick o) ≤ 1
one_at_most tick None = omega arith
one_at_most tick (Some b) = omega arith

bars_short : (p : Performance) (i : ℕ) (ticks : List ℕ) → length (bars_on p i ticks) ≤ length ticks - 1
bars_short p i [] = omega arith
bars_short p i (t ∷ []) = omega arith
bars_short p i (t ∷ u ∷ ticks) =
    let rest = bars_short p (suc i) (u ∷ ticks) in
    let one = one_at_most t (pattern_of p i) in
    let both = length-append (next_bar t (pattern_of p i)) (bars_on p (suc i) (u ∷ ticks)) in
    omega (arith, rest, one, both)

past_five : (f : ℕ → Option ℕ) (n : ℕ) → 5 ≤ n → slice_index_or (five f) n None ≡ None
past_five f zero h = absurd (omega (arith, h))
past_five f (suc zero) h = absurd (omega (arith, h))
past_five f (suc (suc zero)) h = absurd (omega (arith, h))
past_five f (suc (suc (suc zero))) h = absurd (omega (arith, h))
past_five f (suc (suc (suc (suc zero)))) h = absurd (omega (arith, h))
past_five f (suc (suc (suc (suc (suc n))))) h = refl

low_heads : (g : Grammar) (p : Performance) (ticks : List ℕ) (voice : List Chord) (heads : Heads) → length ticks ≤ 8193 → AreHeads g p ticks voice heads → AreLowHeads heads
low_heads g p ticks voice heads few h n c is = elim (cases_lt n 5) [
  | inl lt ↦
      let at : cost_of (keys n) ≡ Some c = sym (ap (λ l. head_cost_at l n) h.are ∙ five_at (λ to. cost_of (keys to)) None n lt) ∙ is in
      let key = cost_key (keys n) c at in
      let least = least_cheap DEAREST_CELL (matrices h.tables) 0 n key.0 (cheap g (soundings voice) (bars_of g p ticks) h.tables h.each) key.1 in
      let long : length (matrices h.tables) ≤ 8192 =
      omega (arith, tables_long g (soundings voice) (bars_of g p ticks) h.tables h.each, bars_length g [] 0 (last_end 0 ticks) 0 (bars_on p 0 ticks), bars_short p 0 ticks, few) in
      let most : length (matrices h.tables) * DEAREST_CELL ≤ 8192 * DEAREST_CELL = mul-le-mul_right DEAREST_CELL long in
      omega (arith, least, most, key.2)
  | inr past ↦
      let none : None ≡ Some c = sym (ap (λ l. head_cost_at l n) h.are ∙ past_five (λ to. cost_of (keys to)) n past) ∙ is in
      absurd (cc)
]
  where
    keys : ℕ → Option Key
    keys = least_key (matrices h.tables) 0

pub all_low : (g : Grammar) (p : Performance) (ticks : List ℕ) (voices : List (List Chord)) (heads : List Heads) → length ticks ≤ 8193
    → Each (AreHeads g p ticks) voices heads → All AreLowHeads heads
all_low g p ticks [] heads few h = subst (All AreLowHeads) (sym h) (All-nil AreLowHeads)
all_low g p ticks (v ∷ voices) [] few h = absurd h
all_low g p ticks (v ∷ voices) (x ∷ heads) few h = all_cons AreLowHeads x heads (low_heads g p ticks v x few h.0) (all_low g p ticks voices heads few h.1)

-- ---- a bar more

abbrev costs_of : Heads → List (Option ℕ)
costs_of h = h.costs

abbrev longer_costs : Heads × BarCosts → List (Option ℕ)
longer_costs pair = costs_with_bar pair.0.costs pair.1.costs

module _ (next : NextBar) (n : IsNextBar next) (t : Course) (is : IsCourseOf next next.number t) (o : Offer) (tried : IsTried next (barring_end t.barring) o) where
  abbrev g : Grammar
  g = next.grammar.now

  abbrev p : Performance
  p = next.performance.now

  abbrev ticks : List ℕ
  ticks = t.barring.ticks

  abbrev x : ℕ
  x = barring_end t.barring + o.ticks

  abbrev longer : List ℕ
  longer = ticks ++ (x ∷ [])

  some : 1 ≤ length ticks
  some = omega (arith, is.long)

  like_is : pattern_of p (length ticks - 1) ≡ Some next.like
  like_is = let at : length ticks - 1 ≡ next.number = omega (arith, is.long) in ap (pattern_of p) at ∙ n.like

  rises : barring_end t.barring < x
  rises = omega (arith, tried.some)

  last_is : last_end 0 longer ≡ x
  last_is = last_pushed 0 x ticks

  longer_few : length longer ≤ 8193
  longer_few = omega (arith, length-append ticks (x ∷ []), is.long, n.few)

  pub heads_low : All AreLowHeads t.heads
  heads_low = all_low g p ticks next.voices.now t.heads (omega (arith, is.long, n.few)) is.heads

  near : Adjacent 0 (bars_of g p longer) (last_end 0 longer)
  near = subst (Adjacent 0 (bars_of g p longer)) (sym last_is) (near_more g p ticks next.like x some like_is is.near rises)

  starts : HasStarts g (with_barlines p longer).bars
  starts =
      let Rooted : Bar → Type 0 = λ b. root_of g.starts b.num b.den ≢ None in
      subst (All Rooted) (sym (bars_more g p ticks next.like x some like_is))
      (All-append Rooted (bars_on p 0 ticks) (with_start (barring_end t.barring) next.like ∷ []) is.starts
      (all_cons Rooted (with_start (barring_end t.barring) next.like) [] (n.rooted tried.rooted) (All-nil Rooted)))

  all_heads : (voices : List (List Chord)) (before : List Heads) (bars : List BarCosts) (after : List Heads) → Each (AreHeads g p ticks) voices before
      → AreAllCosts g (map (asked_cell next (barring_end t.barring) x) (zip voices before)) bars → map costs_of after ≡ map longer_costs (zip before bars)
      → Each (AreHeads g p longer) voices after
  all_heads [] [] bars [] h k are = refl
  all_heads [] [] bars (a ∷ after) h k are = absurd (cc)
  all_heads [] (b ∷ before) bars after h k are = absurd (cc)
  all_heads (v ∷ voices) [] bars after h k are = absurd h
  all_heads (v ∷ voices) (b ∷ before) [] after h k are = absurd k
  all_heads (v ∷ voices) (b ∷ before) (y ∷ bars) [] h k are = absurd (cc)
  all_heads (v ∷ voices) (b ∷ before) (y ∷ bars) (a ∷ after) h k are =
      let own : a.costs ≡ costs_with_bar b.costs y.costs = cc in
      let rest : map costs_of after ≡ map longer_costs (zip before bars) = cc in
      let table : BarTable = k.0.table in
      let is_table : IsTableOf g (cell g next.like (barring_end t.barring) x v) table = record { is = k.0.is; of_input = k.0.of_input } in
      let whole : a.costs ≡ costs_with b.costs table.matrix = own ∙ ap (costs_with_bar b.costs) k.0.costs_are ∙ asked_enough b.costs table.matrix in
      (heads_more g p ticks next.like x some like_is v b a table h.0 is_table whole, all_heads voices before bars after h.1 k.1 rest)

  module _ (bars : List BarCosts) (heads : List Heads) (are_costs : AreAllCosts g (asked_cells next t o) bars)
      (are : map costs_of heads ≡ map longer_costs (zip t.heads bars)) where
    are_heads : Each (AreHeads g p longer) next.voices.now heads
    are_heads = all_heads next.voices.now t.heads bars heads is.heads are_costs are

    pub longer_low : All AreLowHeads heads
    longer_low = all_low g p longer next.voices.now heads longer_few are_heads

    pub few_heads : length heads ≤ 16
    few_heads =
        let first : length p.channels ≡ length next.voices.now = each_long (AreChordsOf g p) p.channels next.voices.now n.chords in
        let second : length next.voices.now ≡ length heads = each_long (AreHeads g p longer) next.voices.now heads are_heads in
        let most : length p.channels ≤ 16 = few_channels p n.formed in
        omega (arith, first, second, most)

    pub fits : (c : ℕ) → c ≤ 2 ^ 56 → c + (t.barring.prices + o.price) < 2 ^ 64
    fits c low =
        let prices : t.barring.prices ≤ next.number * 864000 = is.prices in
        let few : next.number < 8192 = n.few in
        let own : o.price ≤ 864000 = tried.price in
        let below : next.number ≤ 8192 = omega (arith, few) in
        let most : next.number * 864000 ≤ 8192 * 864000 = mul-le-mul_right 864000 below in
        omega (arith, low, prices, most, own)

    -- ---- what is found

    abbrev draft : Draft
    draft = with_bar t.barring o

    early : last_end 0 longer ≤ LATEST_TICK
    early = omega (arith, last_is, tried.early)

    closed_is : is_closed p longer ≡ nat_le next.closing x
    closed_is = ap (λ e. not (list_any (is_past e) p.notes)) last_is ∙ n.closing x

    pub is_lost : total (nat_le next.closing x) heads ≡ None → IsFound g p draft lost
    is_lost none c = by (nat_le next.closing x) refl
      where
        by : (b : Bool) → nat_le next.closing x ≡ b → (IsOpenAt g p longer c → ⊥) × (IsWholeAt g p longer c → ⊥)
        by true at = (
          λ h. true≢false (sym (closed_is ∙ at) ∙ h.open_end),
          λ h. no_whole_cost g p longer n.formed n.readable.ranges.some_unit starts near (closed_is ∙ at) next.voices.now heads n.chords are_heads
              (ap (λ b. total b heads) (sym at) ∙ none) c h.cost,
        )
        by false at = (
          λ h. no_head_cost g p longer n.formed n.readable.ranges.some_unit starts near next.voices.now heads n.chords are_heads
              (ap (λ b. total b heads) (sym at) ∙ none) c h.cost,
          λ h. false≢true (sym (closed_is ∙ at) ∙ h.closed_end),
        )

    pub is_whole : (c : ℕ) → nat_le next.closing x ≡ true → total true heads ≡ Some c → IsFound g p draft (whole (at_cost draft c))
    is_whole c at is_cost = (
      c,
      record {
        closed_end = closed_is ∙ at;
        early = early;
        cost = whole_cost g p longer n.formed n.readable.ranges.some_unit starts near (closed_is ∙ at) next.voices.now heads n.chords are_heads c is_cost;
      },
      refl,
    )

    pub is_going : (c : ℕ) → nat_le next.closing x ≡ false → total false heads ≡ Some c → IsFound g p draft (going (at_cost draft c))
    is_going c at is_cost = (
      c,
      record {
        open_end = closed_is ∙ at;
        early = early;
        cost = head_cost g p longer n.formed n.readable.ranges.some_unit starts near next.voices.now heads n.chords are_heads c is_cost;
      },
      refl,
    )

    pub is_course : (c : ℕ) → IsCourseOf next (next.number + 1) (record { barring = at_cost draft c; heads = heads })
    is_course c = record {
      long = omega (arith, length-append ticks (x ∷ []), is.long);
      starts = starts;
      near = near;
      early = early;
      heads = are_heads;
      prices =
          let prices : t.barring.prices ≤ next.number * 864000 = is.prices in
          let own : o.price ≤ 864000 = tried.price in
          omega (arith, prices, own);
    }
