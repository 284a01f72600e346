-- The cells of a voice with another input than that of their table, one bar more; and why they are the reached ones.
use Rattle.std.proofs.Common.{◌≡◌, ℕ, ◌+◌, ◌<◌, ◌↔◌, ◌⊎◌, List, [], ◌∷◌, ◌++◌, length, get_or, map, refl, sym, ap, ◌∙◌, subst, inl, inr, arith}
use Rattle.std.specs.Prelude.{Some, None, option_map, slice_get, zero, suc}
use Rattle.std.proofs.lemmas.Bool.{cases_lt}
use Rattle.std.proofs.lemmas.List.{map-append, length-map}
use Rattle.std.proofs.lemmas.Option.{same_Some, slice_get-map, slice_get-get_or, slice_get_within}
use Rattle.bar_pool.proofs.EachLemmas.{Each-push}
use Rattle.chain_bars.specs.Laws.{AreTables}
use Rattle.rhythm_base.specs.declared.inner.Inner.{Inner}
use Rattle.rhythm_base.specs.BarInput.{BarInput}
use Rattle.rhythm_base.specs.BarTables.{BarTable, IsTable}
use Rattle.rhythm_base.specs.Cells.{input}
use Rattle.rhythm_base.specs.Grammar.{Grammar}
use Rattle.rhythm_base.specs.Leaves.{VoiceBar, soundings}
use Rattle.rhythm_base.specs.Performance.{Performance}
use Rattle.edit_laws.specs.Reached.{HasNewInput, IsInputOf}
use Rattle.rhythm_base.specs.Voices.{notes_of_voice, voice_bars}
use Rattle.performance_laws.proofs.OneChords.{one_chords}
use Rattle.edit_session.specs.declared.reached.CellPlace.{CellPlace}
use Rattle.edit_session.specs.Inputs.{AreInputsOfVoice}
use Rattle.edit_session.specs.Kept.{AreTablesOfVoice}
use Rattle.edit_session.specs.Prepared.{IsTableOfCell}
use Rattle.edit_session.specs.ReachedCells.{AreOtherInputs, HasOtherInput, place_pair}
use Rattle.edit_session.proofs.CellPlaces.{cells_append, cells_same, lower_bar, no_cells, one_cell}
use Rattle.edit_session.proofs.Tables.{voice_long}
use Rattle.derivation.proofs.OneScore.{bars_length}

-- ---- one bar more

module _ (channel : ℕ) (inputs : List BarInput) (tables : List BarTable) where
  abbrev Below : ℕ → ℕ → ℕ → Type 0
  Below bars c bar = (c ≡ channel) × (bar < bars) × HasOtherInput tables inputs bar

  pub none_below : AreOtherInputs channel inputs tables 0 [] []
  none_below = record { are = no_cells (Below 0) (λ c i p. let lt = p.1 in omega (arith, lt)); each = refl }

  pub same_more : (bars : ℕ) (cells : List (ℕ × ℕ)) (others : List BarInput) → (HasOtherInput tables inputs bars → ⊥)
      → AreOtherInputs channel inputs tables bars cells others → AreOtherInputs channel inputs tables (bars + 1) cells others
  same_more bars cells others not h = record {
    are = cells_same (Below bars) (Below (bars + 1)) cells (λ c i. (λ p. let lt = p.1 in (p.0, omega (arith, lt), p.2), less c i)) h.are;
    each = h.each;
  }
    where
      less : (c i : ℕ) → Below (bars + 1) c i → Below bars c i
      less c i p = elim (cases_lt i bars) [
        | inl lt ↦ (p.0, lt, p.2)
        | inr le ↦ let lt = p.1 in let here : i ≡ bars = omega (arith, le, lt) in absurd (not (subst (HasOtherInput tables inputs) here p.2))
      ]

  pub other_more : (bars : ℕ) (cells : List (ℕ × ℕ)) (others : List BarInput) (k : BarInput) → HasOtherInput tables inputs bars → slice_get inputs bars ≡ Some k
      → AreOtherInputs channel inputs tables bars cells others → AreOtherInputs channel inputs tables (bars + 1) (cells ++ (channel, bars) ∷ []) (others ++ k ∷ [])
  other_more bars cells others k new is h = record {
    are = cells_same (λ c i. Below bars c i ⊎ ((c ≡ channel) × (i ≡ bars))) (Below (bars + 1)) (cells ++ (channel, bars) ∷ []) (λ c i. (more c i, less c i))
        (cells_append (Below bars) (λ c i. (c ≡ channel) × (i ≡ bars)) cells ((channel, bars) ∷ []) h.are (one_cell channel bars)
        (λ c i d j p q. let lt = p.1 in let at = q.1 in lower_bar c i d j (p.0 ∙ sym q.0) (omega (arith, lt, at))));
    each = Each-push (λ c l. (c.0 ≡ channel) × (slice_get inputs c.1 ≡ Some l)) cells others (channel, bars) k h.each (refl, is);
  }
    where
      more : (c i : ℕ) → Below bars c i ⊎ ((c ≡ channel) × (i ≡ bars)) → Below (bars + 1) c i
      more c i (inl p) = let lt = p.1 in (p.0, omega (arith, lt), p.2)
      more c i (inr q) = let at = q.1 in (q.0, omega (arith, at), subst (HasOtherInput tables inputs) (sym at) new)

      less : (c i : ℕ) → Below (bars + 1) c i → Below bars c i ⊎ ((c ≡ channel) × (i ≡ bars))
      less c i p = elim (cases_lt i bars) [
        | inl lt ↦ inl (p.0, lt, p.2)
        | inr le ↦ let lt = p.1 in inr (p.0, omega (arith, le, lt))
      ]

  pub other_pushed : (bars : ℕ) (cells more : List CellPlace) (others most : List BarInput) (x : CellPlace) (k : BarInput) → more ≡ cells ++ x ∷ [] → place_pair x ≡ (channel, bars) → most ≡ others ++ k ∷ []
      → HasOtherInput tables inputs bars → slice_get inputs bars ≡ Some k → AreOtherInputs channel inputs tables bars (map place_pair cells) others
      → AreOtherInputs channel inputs tables (bars + 1) (map place_pair more) most
  other_pushed bars cells more others most x k cell at inside new is h =
      let listed : map place_pair more ≡ map place_pair cells ++ (channel, bars) ∷ [] = ap (map place_pair) cell ∙ map-append place_pair cells (x ∷ []) ∙ ap (λ c. map place_pair cells ++ c ∷ []) at in
      subst (λ cs. AreOtherInputs channel inputs tables (bars + 1) cs most) (sym listed)
      (subst (AreOtherInputs channel inputs tables (bars + 1) (map place_pair cells ++ (channel, bars) ∷ [])) (sym inside) (other_more bars (map place_pair cells) others k new is h))

-- ---- tables and inputs of the cells of a voice

-- the input of a cell is one
pub one_input : (g : Grammar) (p : Performance) (channel bar : ℕ) (k l : BarInput) → IsInputOf g p channel bar k → IsInputOf g p channel bar l → k ≡ l
one_input g p channel bar k l h i =
    let chords = one_chords p.tempos p.division g.window (notes_of_voice p channel) h.chords i.chords h.are_chords i.are_chords in
    let there : Some h.cell_bar ≡ Some i.cell_bar = sym h.there ∙ i.there in
    let same : h.cell_bar ≡ i.cell_bar = cc in
    h.is ∙ (λ m. input g (same m) (soundings (chords m))) ∙ sym i.is

pub each_table : (g : Grammar) (cs : List Inner) (bars : List VoiceBar) (tables : List BarTable) (i : ℕ) (x : BarTable) (b : VoiceBar) → AreTables g cs bars tables
    → slice_get tables i ≡ Some x → slice_get bars i ≡ Some b → IsTable g x × (x.input ≡ input g b cs)
each_table g cs [] tables i x b h there bar = absurd (cc)
each_table g cs (b₁ ∷ bars) [] i x b h there bar = absurd h
each_table g cs (b₁ ∷ bars) (x₁ ∷ tables) zero x b h there bar =
    let same : x₁ ≡ x = cc in
    let at : b₁ ≡ b = cc in
    (subst (IsTable g) same h.0, (λ m. (sym same m).input) ∙ h.1 ∙ ap (λ c. input g c cs) at)
each_table g cs (b₁ ∷ bars) (x₁ ∷ tables) (suc i) x b h there bar = each_table g cs bars tables i x b h.2 there bar

pub bar_there : (g : Grammar) (p : Performance) (channel i : ℕ) → i < length p.bars → (b : VoiceBar) × (slice_get (voice_bars g p channel) i ≡ Some b)
bar_there g p channel i lt =
    let d : VoiceBar = record { start = 0; length = 0; num = 0; den = 0; symbol = 0; pin = None } in
    let long = bars_length g p.pins channel p.last 0 p.bars in
    (get_or (voice_bars g p channel) i d, slice_get-get_or (voice_bars g p channel) i d (omega (arith, lt, long)))

pub kept_cell : (g : Grammar) (p : Performance) (channel i : ℕ) (tables : List BarTable) (x : BarTable) → AreTablesOfVoice g p channel tables → slice_get tables i ≡ Some x
    → IsTableOfCell g p channel i x
kept_cell g p channel i tables x h there =
    let lt = slice_get_within tables i x there in
    let bar = bar_there g p channel i (omega (arith, lt, voice_long g p channel tables h)) in
    let is = each_table g (soundings h.chords) (voice_bars g p channel) tables i x bar.0 h.each there bar.1 in
    record { is = is.0; of_input = record { chords = h.chords; are_chords = h.are_chords; cell_bar = bar.0; there = bar.1; is = is.1 } }

pub inputs_long : (g : Grammar) (p : Performance) (channel : ℕ) (inputs : List BarInput) → AreInputsOfVoice g p channel inputs → length inputs ≡ length p.bars
inputs_long g p channel inputs h =
    ap length h.are ∙ length-map (voice_bars g p channel) (λ bar. input g bar (soundings h.chords)) ∙ bars_length g p.pins channel p.last 0 p.bars

pub cell_input : (g : Grammar) (p : Performance) (channel i : ℕ) (inputs : List BarInput) (k : BarInput) → AreInputsOfVoice g p channel inputs → slice_get inputs i ≡ Some k
    → IsInputOf g p channel i k
cell_input g p channel i inputs k h there =
    let lt = slice_get_within inputs i k there in
    let bar = bar_there g p channel i (omega (arith, lt, inputs_long g p channel inputs h)) in
    let made : BarInput = input g bar.0 (soundings h.chords) in
    let at : slice_get inputs i ≡ Some made = ap (λ l. slice_get l i) h.are ∙ slice_get-map (λ b. input g b (soundings h.chords)) (voice_bars g p channel) i ∙ ap (option_map (λ b. input g b (soundings h.chords))) bar.1 in
    record { chords = h.chords; are_chords = h.are_chords; cell_bar = bar.0; there = bar.1; is = same_Some k made (sym there ∙ at) }

-- a cell of the voice has another input than its table exactly where it is new or has another input than before
pub other_is_new : (g : Grammar) (p q : Performance) (channel i : ℕ) (inputs : List BarInput) (tables : List BarTable) → AreTablesOfVoice g p channel tables → AreInputsOfVoice g q channel inputs
    → i < length q.bars → HasOtherInput tables inputs i ↔ HasNewInput g p q channel i
other_is_new g p q channel i inputs tables h of within = (there, back)
  where
    there : HasOtherInput tables inputs i → HasNewInput g p q channel i
    there (inl le) = inl (omega (arith, le, voice_long g p channel tables h))
    there (inr (x, k, at, is, other)) = inr (x.input, k, (kept_cell g p channel i tables x h at).of_input, cell_input g q channel i inputs k of is, other)

    back : HasNewInput g p q channel i → HasOtherInput tables inputs i
    back (inl le) = inl (omega (arith, le, voice_long g p channel tables h))
    back (inr (k, l, before, after, other)) = elim (cases_lt i (length tables)) [
      | inr le ↦ inl le
      | inl lt ↦
          let x : BarTable = get_or tables i none in
          let at : slice_get tables i ≡ Some x = slice_get-get_or tables i none lt in
          let m : BarInput = get_or inputs i k in
          let is : slice_get inputs i ≡ Some m = slice_get-get_or inputs i k (omega (arith, within, inputs_long g q channel inputs of)) in
          inr (x, m, at, is, λ same. other (one_input g p channel i k x.input before (kept_cell g p channel i tables x h at).of_input ∙ same ∙ one_input g q channel i m l (cell_input g q channel i inputs m of is) after))
    ]
      where
        none : BarTable
        none = record { matrix = []; lists = []; input = k }
