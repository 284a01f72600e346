-- The reached cells of one voice more.
use Rattle.std.proofs.Common.{◌≡◌, ℕ, ◌+◌, ◌<◌, ◌≤◌, ◌⊎◌, List, [], ◌∷◌, ◌++◌, length, get_or, take, map, refl, sym, ap, ◌∙◌, subst, inl, inr, arith}
use Rattle.std.specs.Prelude.{Contains, Some, slice_get}
use Rattle.std.proofs.lemmas.List.{get_or-take, length-take-le, map-append, take_all, take_more}
use Rattle.std.proofs.lemmas.List.Elements.{Contains-append_left, Contains-get_or, Contains-push, Contains-push_cases}
use Rattle.std.proofs.lemmas.List.Kept.{AllPairs-from_increasing}
use Rattle.chain_bars.proofs.Lists.{default_same}
use Rattle.rhythm_base.specs.BarInput.{BarInput}
use Rattle.rhythm_base.specs.BarTables.{BarTable}
use Rattle.rhythm_base.specs.Grammar.{Grammar}
use Rattle.rhythm_base.specs.Lists.{Each}
use Rattle.rhythm_base.specs.Performance.{IsWellFormed, Performance}
use Rattle.edit_laws.specs.Reached.{AreReached, HasNewInput, IsInputOf, IsReached}
use Rattle.edit_session.specs.declared.reached.CellPlace.{CellPlace}
use Rattle.edit_session.specs.Inputs.{AreInputsOfVoice}
use Rattle.edit_session.specs.Kept.{AreTablesOfVoice}
use Rattle.edit_session.specs.ReachedCells.{AreCellsWhere, AreOtherInputs, HasOtherInput, place_pair}
use Rattle.edit_session.proofs.CellPlaces.{IsEarlierCell, cells_append, cells_same, lower_voice, no_cells}
use Rattle.edit_session.proofs.OtherInputs.{cell_input, inputs_long, other_is_new}

pub Each-weaker : {X Y : Type 0} (P Q : X → Y → Type 0) → ((x : X) (y : Y) → P x y → Q x y) → (xs : List X) (ys : List Y) → Each P xs ys → Each Q xs ys
Each-weaker P Q by [] ys h = h
Each-weaker P Q by (x ∷ xs) [] h = absurd h
Each-weaker P Q by (x ∷ xs) (y ∷ ys) h = (by x y h.0, Each-weaker P Q by xs ys h.1)

pub Each-joined : {X Y : Type 0} (Of : X → Y → Type 0) (xs us : List X) (ys vs : List Y) → Each Of xs ys → Each Of us vs → Each Of (xs ++ us) (ys ++ vs)
Each-joined {X} {Y} Of [] us ys vs h k = let P : List Y → Type 0 = λ l. Each Of us (l ++ vs) in subst P (sym h) k
Each-joined Of (x ∷ xs) us [] vs h k = absurd h
Each-joined Of (x ∷ xs) us (y ∷ ys) vs h k = (h.0, Each-joined Of xs us ys vs h.1 k)

-- the reached cells of the first voices, and their inputs
pub record AreReachedUntil (g : Grammar) (p q : Performance) (voices : ℕ) (cells : List (ℕ × ℕ)) (inputs : List BarInput) : Type 0 where
  pub are : AreCellsWhere (λ c i. Contains (take voices p.channels) c × IsReached g p q c i) cells
  pub each : Each (λ c k. IsInputOf g q c.0 c.1 k) cells inputs

module _ (g : Grammar) (p q : Performance) where
  abbrev Until : ℕ → ℕ → ℕ → Type 0
  Until n c i = Contains (take n p.channels) c × IsReached g p q c i

  pub none_until : AreReachedUntil g p q 0 [] []
  none_until = record { are = no_cells (Until 0) (λ c i u. let lt = u.0.1 in omega (arith, lt)); each = refl }

  module _ (formed : IsWellFormed p) (channels : q.channels ≡ p.channels) where
    voice_more : (n channel : ℕ) (cells own : List (ℕ × ℕ)) (reached others inputs : List BarInput) (tables : List BarTable) → n < length p.channels → get_or p.channels n channel ≡ channel
        → AreTablesOfVoice g p channel tables → AreInputsOfVoice g q channel inputs → AreOtherInputs channel inputs tables (length inputs) own others → AreReachedUntil g p q n cells reached
        → AreReachedUntil g p q (n + 1) (cells ++ own) (reached ++ others)
    voice_more n channel cells own reached others inputs tables lt at h of other before = record {
      are = cells_same (λ c i. Until n c i ⊎ Own c i) (Until (n + 1)) (cells ++ own) (λ c i. (more c i, less c i)) (cells_append (Until n) Own cells own before.are other.are earlier);
      each = Each-joined (λ c k. IsInputOf g q c.0 c.1 k) cells own reached others before.each
          (Each-weaker (λ c k. (c.0 ≡ channel) × (slice_get inputs c.1 ≡ Some k)) (λ c k. IsInputOf g q c.0 c.1 k)
          (λ c k is. subst (λ d. IsInputOf g q d c.1 k) (sym is.0) (cell_input g q channel c.1 inputs k of is.1)) own others other.each);
    }
      where
        Own : ℕ → ℕ → Type 0
        Own c i = (c ≡ channel) × (i < length inputs) × HasOtherInput tables inputs i

        one : take (n + 1) p.channels ≡ take n p.channels ++ channel ∷ []
        one = take_more p.channels n channel lt ∙ ap (λ c. take n p.channels ++ c ∷ []) at

        earlier : (c i d j : ℕ) → Until n c i → Own d j → IsEarlierCell (c, i) (d, j)
        earlier c i d j u v =
            let front : length (take n p.channels) ≡ n = length-take-le n p.channels (omega (arith, lt)) in
            let k : ℕ = u.0.0 in
            let low : k < n = let within = u.0.1 in omega (arith, front, within) in
            let is : get_or p.channels k channel ≡ c = default_same p.channels k channel c (omega (arith, low, lt)) ∙ sym (get_or-take n p.channels k c low) ∙ u.0.2 in
            let rise : get_or p.channels k channel < get_or p.channels n channel = AllPairs-from_increasing p.channels formed.voices_rise k n channel low lt in
            let same = v.0 in
            lower_voice c i d j (omega (arith, is, rise, at, same))

        there : (c i : ℕ) → c ≡ channel → i < length q.bars → HasOtherInput tables inputs i → IsReached g p q c i
        there c i same low new = subst (λ d. IsReached g p q d i) (sym same) (
          subst (λ cs. Contains cs channel) (sym channels) (subst (Contains p.channels) at (Contains-get_or p.channels n channel lt)),
          low,
          (other_is_new g p q channel i inputs tables h of low).0 new,
        )

        more : (c i : ℕ) → Until n c i ⊎ Own c i → Until (n + 1) c i
        more c i (inl u) = (subst (λ cs. Contains cs c) (sym one) (Contains-append_left (take n p.channels) (channel ∷ []) c u.0), u.1)
        more c i (inr v) = (
          subst (λ cs. Contains cs c) (sym one) (subst (Contains (take n p.channels ++ channel ∷ [])) (sym v.0) (Contains-push (take n p.channels) channel)),
          there c i v.0 (let low = v.1 in omega (arith, low, inputs_long g q channel inputs of)) v.2,
        )

        less : (c i : ℕ) → Until (n + 1) c i → Until n c i ⊎ Own c i
        less c i u = elim (Contains-push_cases (take n p.channels) channel c (subst (λ cs. Contains cs c) one u.0)) [
          | inl before ↦ inl (before, u.1)
          | inr same ↦
              let low = u.1.1 in
              inr (sym same, omega (arith, low, inputs_long g q channel inputs of), (other_is_new g p q channel i inputs tables h of low).1 (subst (λ d. HasNewInput g p q d i) (sym same) u.1.2))
        ]

    -- one voice more of which no cell is reached
    pub voice_skipped : (n channel : ℕ) (cells : List (ℕ × ℕ)) (inputs : List BarInput) → n < length p.channels → get_or p.channels n channel ≡ channel
        → ((i : ℕ) → IsReached g p q channel i → ⊥) → AreReachedUntil g p q n cells inputs → AreReachedUntil g p q (n + 1) cells inputs
    voice_skipped n channel cells inputs lt at none before = record {
      are = cells_same (Until n) (Until (n + 1)) cells (λ c i. (more c i, less c i)) before.are;
      each = before.each;
    }
      where
        one : take (n + 1) p.channels ≡ take n p.channels ++ channel ∷ []
        one = take_more p.channels n channel lt ∙ ap (λ c. take n p.channels ++ c ∷ []) at

        more : (c i : ℕ) → Until n c i → Until (n + 1) c i
        more c i u = (subst (λ cs. Contains cs c) (sym one) (Contains-append_left (take n p.channels) (channel ∷ []) c u.0), u.1)

        less : (c i : ℕ) → Until (n + 1) c i → Until n c i
        less c i u = elim (Contains-push_cases (take n p.channels) channel c (subst (λ cs. Contains cs c) one u.0)) [
          | inl before ↦ (before, u.1)
          | inr same ↦ absurd (none i (subst (λ d. IsReached g p q d i) (sym same) u.1))
        ]

    pub all_reached : (n : ℕ) (cells : List (ℕ × ℕ)) (inputs : List BarInput) → length p.channels ≤ n → AreReachedUntil g p q n cells inputs → AreReached g p q cells
    all_reached n cells inputs all h = record {
      in_order = h.are.in_order;
      exactly = λ c i. (
        λ there. ((h.are.exactly c i).0 there).1,
        λ reached. (h.are.exactly c i).1 (subst (λ cs. Contains cs c) (sym (take_all n p.channels all)) (subst (λ cs. Contains cs c) channels reached.0), reached),
      );
    }

    pub voice_pushed : (n channel : ℕ) (cells own more : List CellPlace) (reached others inputs most : List BarInput) (tables : List BarTable) → more ≡ cells ++ own → most ≡ reached ++ others
        → n < length p.channels → get_or p.channels n channel ≡ channel
        → AreTablesOfVoice g p channel tables → AreInputsOfVoice g q channel inputs → AreOtherInputs channel inputs tables (length inputs) (map place_pair own) others
        → AreReachedUntil g p q n (map place_pair cells) reached → AreReachedUntil g p q (n + 1) (map place_pair more) most
    voice_pushed n channel cells own more reached others inputs most tables cell inside lt at h of other before =
        let listed : map place_pair more ≡ map place_pair cells ++ map place_pair own = ap (map place_pair) cell ∙ map-append place_pair cells own in
        subst (λ cs. AreReachedUntil g p q (n + 1) cs most) (sym listed)
        (subst (AreReachedUntil g p q (n + 1) (map place_pair cells ++ map place_pair own)) (sym inside)
        (voice_more n channel (map place_pair cells) (map place_pair own) reached others inputs tables lt at h of other before))
