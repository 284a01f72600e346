-- The cells that a change reaches are some list: each cell has an input before and after, and two inputs are equal or not.
use Rattle.std.proofs.Common.{◌≡◌, ℕ, ◌≤◌, ◌<◌, ◌⊎◌, inl, inr, List, [], ◌∷◌, length, refl, ap, ◌∙◌, subst, arith}
use Rattle.std.specs.Cmp.Lexicographic.{nat_list_cmp_total, slice_cmp}
use Rattle.std.specs.Ordering.{nat_cmp}
use Rattle.std.specs.Prelude.{Contains}
use Rattle.std.specs.declared.cmp.Ordering.TheVariants.{Less}
use Rattle.std.proofs.lemmas.Bool.{cases_eq, cases_lt}
use Rattle.std.proofs.lemmas.List.Elements.{All-contains}
use Rattle.rhythm_base.specs.BarInput.{BarInput}
use Rattle.rhythm_base.specs.Cells.{input}
use Rattle.rhythm_base.specs.declared.inner.Inner.{Inner}
use Rattle.rhythm_base.specs.Grammar.{Grammar}
use Rattle.rhythm_base.specs.Leaves.{soundings}
use Rattle.rhythm_base.specs.Performance.{Performance}
use Rattle.rhythm_base.specs.Shape.{Shape, end, part}
use Rattle.rhythm_base.specs.Voices.{voice_bars}
use Rattle.rhythm_base.proofs.TotalOrders.{list_equal}
use Rattle.derivation.proofs.OneScore.{bars_length}
use Rattle.edit_laws.specs.Reached.{AreReached, HasNewInput, IsInputOf, IsReached}
use Rattle.edit_session.proofs.OtherInputs.{one_input}
use Rattle.performance_laws.proofs.SomeChords.{some_chords}
use Rattle.answer_laws.proofs.Decisions.{Decided, decided_both, decided_like, decided_lists, decided_options}
use Rattle.answer_laws.proofs.LeastMembers.{three_ways}
use Rattle.answer_laws.proofs.SortedMembers.{sorted}
use Rattle.answer_laws.proofs.FiniteSets.{IsFinite, all_of, decided_member, member_products, numbers_below, products, there}

-- ---- equal inputs

decided_shapes : (x y : Shape) → Decided (x ≡ y)
decided_shapes end end = inl refl
decided_shapes end (part y ys) = inr (λ e. cc)
decided_shapes (part x xs) end = inr (λ e. cc)
decided_shapes (part x xs) (part y ys) =
    decided_like (λ both i. part (both.0 i) (both.1 i)) (λ e. (let first : x ≡ y = cc in first, let others : xs ≡ ys = cc in others))
    (decided_both (decided_shapes x y) (decided_shapes xs ys))

decided_chords : (c d : Inner) → Decided (c ≡ d)
decided_chords c d =
    let onset : Inner → ℕ = λ x. x.onset in
    let last : Inner → ℕ = λ x. x.end in
    decided_like (λ both i. record { onset = both.0 i; end = both.1 i }) (λ e. (ap onset e, ap last e))
    (decided_both (cases_eq c.onset d.onset) (cases_eq c.end d.end))

abbrev AgreeIn : BarInput → BarInput → Type 0
AgreeIn k l =
    (k.symbol ≡ l.symbol) × ((k.resolution ≡ l.resolution) × ((k.num ≡ l.num) × ((k.den ≡ l.den) × ((k.length ≡ l.length)
    × ((k.chords ≡ l.chords) × ((k.before ≡ l.before) × (k.pin ≡ l.pin)))))))

same_parts : (k l : BarInput) → AgreeIn k l → k ≡ l
same_parts k l h = λ i. record {
  symbol = h.0 i;
  resolution = h.1.0 i;
  num = h.1.1.0 i;
  den = h.1.1.1.0 i;
  length = h.1.1.1.1.0 i;
  chords = h.1.1.1.1.1.0 i;
  before = h.1.1.1.1.1.1.0 i;
  pin = h.1.1.1.1.1.1.1 i;
}

decided_inputs : (k l : BarInput) → Decided (k ≡ l)
decided_inputs k l =
    let P : BarInput → Type 0 = AgreeIn k in
    decided_like (same_parts k l) (λ e. subst P e (refl, (refl, (refl, (refl, (refl, (refl, (refl, refl))))))))
    (decided_both (cases_eq k.symbol l.symbol)
    (decided_both (cases_eq k.resolution l.resolution)
    (decided_both (cases_eq k.num l.num)
    (decided_both (cases_eq k.den l.den)
    (decided_both (cases_eq k.length l.length)
    (decided_both (decided_lists decided_chords k.chords l.chords)
    (decided_both (cases_eq k.before l.before) (decided_options decided_shapes k.pin l.pin))))))))

-- ---- the input of a cell

some_input : (g : Grammar) (p : Performance) (channel bar : ℕ) → bar < length p.bars → (k : BarInput) × IsInputOf g p channel bar k
some_input g p channel bar less =
    let chords = some_chords g p channel in
    let own = there (voice_bars g p channel) bar (omega (arith, less, bars_length g p.pins channel p.last 0 p.bars)) in
    (input g own.0 (soundings chords.0), record { chords = chords.0; are_chords = chords.1; cell_bar = own.0; there = own.1; is = refl })

-- ---- the reached cells

abbrev cell_of : ℕ → ℕ → ℕ × ℕ
cell_of channel bar = (channel, bar)

abbrev place_of : ℕ × ℕ → List ℕ
place_of cell = cell.0 ∷ cell.1 ∷ []

abbrev ComesBefore : ℕ × ℕ → ℕ × ℕ → Type 0
ComesBefore c d = slice_cmp nat_cmp (place_of c) (place_of d) ≡ Less

in_turn : (c d : ℕ × ℕ) → ComesBefore c d ⊎ ((c ≡ d) ⊎ ComesBefore d c)
in_turn c d = elim (three_ways nat_list_cmp_total (place_of c) (place_of d)) [
  | inl less ↦ inl less
  | inr other ↦ elim other [
    | inl equal ↦
        let same : place_of c ≡ place_of d = list_equal (place_of c) (place_of d) equal in
        let channel : c.0 ≡ d.0 = cc in
        let bar : c.1 ≡ d.1 = cc in
        inr (inl (λ i. (channel i, bar i)))
    | inr more ↦ inr (inr more)
  ]
]

module _ (g : Grammar) (before after : Performance) where
  new_input : (channel bar : ℕ) → bar < length after.bars → Decided (HasNewInput g before after channel bar)
  new_input channel bar less = go (cases_lt bar (length before.bars))
    where
      same_inputs : (k l : BarInput) → bar < length before.bars → IsInputOf g before channel bar k → IsInputOf g after channel bar l → k ≡ l
          → HasNewInput g before after channel bar → ⊥
      same_inputs k l old is is' same (inl new) = omega (arith, old, new)
      same_inputs k l old is is' same (inr (k', l', h, h', differ)) =
          differ (one_input g before channel bar k' k h is ∙ same ∙ one_input g after channel bar l l' is' h')

      go : (bar < length before.bars) ⊎ (length before.bars ≤ bar) → Decided (HasNewInput g before after channel bar)
      go (inr new) = inl (inl new)
      go (inl old) =
          let k = some_input g before channel bar old in
          let l = some_input g after channel bar less in
          elim (decided_inputs k.0 l.0) [
            | inl same ↦ inr (same_inputs k.0 l.0 old k.1 l.1 same)
            | inr differ ↦ inl (inr (k.0, l.0, k.1, l.1, differ))
          ]

  abbrev IsReachedCell : ℕ × ℕ → Type 0
  IsReachedCell cell = IsReached g before after cell.0 cell.1

  decided_reached : (channel bar : ℕ) → Decided (IsReached g before after channel bar)
  decided_reached channel bar = go (decided_member cases_eq channel after.channels) (cases_lt bar (length after.bars))
    where
      go : Decided (Contains after.channels channel) → (bar < length after.bars) ⊎ (length after.bars ≤ bar) → Decided (IsReached g before after channel bar)
      go (inr never) within = inr (λ is. never is.0)
      go (inl voice) (inr past) = inr (λ is. omega (arith, past, is.1))
      go (inl voice) (inl less) = decided_like (λ new. (voice, less, new)) (λ is. is.2) (new_input channel bar less)

  all_reached : IsFinite IsReachedCell
  all_reached =
      let bars = numbers_below (length after.bars) in
      all_of IsReachedCell
      (products cell_of after.channels bars.0, λ cell is. member_products cell_of after.channels bars.0 cell.0 cell.1 is.0 (bars.1 cell.1 is.1))
      (λ cell _. decided_reached cell.0 cell.1)

  pub some_reached : (cells : List (ℕ × ℕ)) × AreReached g before after cells
  some_reached =
      let all = all_reached in
      let cells = sorted IsReachedCell ComesBefore (λ c d _ _. in_turn c d) (λ a b c. nat_list_cmp_total.trans (place_of a) (place_of b) (place_of c)) all.list all.are in (
        cells.list,
        record {
          in_order = cells.in_order;
          exactly = λ channel bar. (All-contains IsReachedCell cells.list (channel, bar) cells.are, λ is. cells.each (channel, bar) (all.each (channel, bar) is));
        },
      )
