-- From the tables of single cells to those of a voice, and from one performance to another.
use Rattle.std.proofs.Common.{◌≡◌, ℕ, suc, ◌<◌, List, [], ◌∷◌, length, get_or, refl, sym, ◌∙◌, subst, inl, inr, arith}
use Rattle.std.specs.Prelude.{Contains, Some, slice_get}
use Rattle.std.proofs.lemmas.Option.{slice_get-get_or, slice_get_within}
use Rattle.chain_bars.specs.Laws.{AreTables}
use Rattle.rhythm_base.specs.declared.chord.Chord.{Chord}
use Rattle.rhythm_base.specs.declared.inner.Inner.{Inner}
use Rattle.rhythm_base.specs.BarInput.{BarInput}
use Rattle.rhythm_base.specs.BarTables.{BarTable, IsTable}
use Rattle.rhythm_base.specs.Cells.{input}
use Rattle.rhythm_base.specs.Grammar.{Grammar}
use Rattle.rhythm_base.specs.Leaves.{VoiceBar, soundings}
use Rattle.rhythm_base.specs.Performance.{Performance}
use Rattle.edit_laws.specs.Reached.{IsInputOf, IsReached}
use Rattle.rhythm_base.specs.Voices.{AreChordsOf, notes_of_voice, voice_bars}
use Rattle.performance_laws.proofs.OneChords.{one_chords}
use Rattle.derivation.proofs.OneScore.{bars_length}
use Rattle.edit_session.specs.Exchange.{Change, IsChange}
use Rattle.edit_session.specs.Kept.{AreTablesOfVoice}
use Rattle.edit_session.specs.Prepared.{IsTableOfCell}
use Rattle.edit_session.proofs.OtherInputs.{bar_there, kept_cell}
use Rattle.edit_session.proofs.SameInputs.{same_input_or_not}
use Rattle.performance_laws.proofs.SomeChords.{some_chords}

-- ---- a voice from its cells

each_is : (g : Grammar) (cs : List Inner) (bars : List VoiceBar) (tables : List BarTable) → length tables ≡ length bars
    → ((i : ℕ) (d : BarTable) (b : VoiceBar) → slice_get bars i ≡ Some b → IsTable g (get_or tables i d) × ((get_or tables i d).input ≡ input g b cs)) → AreTables g cs bars tables
each_is g cs [] [] long h = tt
each_is g cs [] (x ∷ tables) long h = absurd (omega (arith, long))
each_is g cs (b ∷ bars) [] long h = absurd (omega (arith, long))
each_is g cs (b ∷ bars) (x ∷ tables) long h =
    let here = h 0 x b refl in
    (here.0, here.1, each_is g cs bars tables (omega (arith, long)) (λ i d c there. h (suc i) d c there))

pub voice_of_cells : (g : Grammar) (p : Performance) (channel : ℕ) (tables : List BarTable) → length tables ≡ length p.bars
    → ((i : ℕ) (d : BarTable) → i < length tables → IsTableOfCell g p channel i (get_or tables i d)) → AreTablesOfVoice g p channel tables
voice_of_cells g p channel tables long h =
    let chords = some_chords g p channel in
    record {
      chords = chords.0;
      are_chords = chords.1;
      each = each_is g (soundings chords.0) (voice_bars g p channel) tables (long ∙ sym (bars_length g p.pins channel p.last 0 p.bars)) (λ i d b there. of chords.0 chords.1 i d b there);
    }
  where
    of : (cs : List Chord) → AreChordsOf g p channel cs → (i : ℕ) (d : BarTable) (b : VoiceBar) → slice_get (voice_bars g p channel) i ≡ Some b
        → IsTable g (get_or tables i d) × ((get_or tables i d).input ≡ input g b (soundings cs))
    of cs are i d b there =
        let lt = slice_get_within (voice_bars g p channel) i b there in
        let cell = h i d (omega (arith, lt, long, bars_length g p.pins channel p.last 0 p.bars)) in
        let chords = one_chords p.tempos p.division g.window (notes_of_voice p channel) cell.of_input.chords cs cell.of_input.are_chords are in
        let same : Some cell.of_input.cell_bar ≡ Some b = sym cell.of_input.there ∙ there in
        let bar : cell.of_input.cell_bar ≡ b = cc in
        (cell.is, cell.of_input.is ∙ (λ m. input g (bar m) (soundings (chords m))))

-- the table of a cell of a voice
pub cell_of_voice : (g : Grammar) (p : Performance) (channel i : ℕ) (tables : List BarTable) (d : BarTable) → AreTablesOfVoice g p channel tables → i < length tables
    → IsTableOfCell g p channel i (get_or tables i d)
cell_of_voice g p channel i tables d h lt = kept_cell g p channel i tables (get_or tables i d) h (slice_get-get_or tables i d lt)

-- ---- a cell of two performances

some_input : (g : Grammar) (p : Performance) (channel i : ℕ) → i < length p.bars → (k : BarInput) × IsInputOf g p channel i k
some_input g p channel i lt =
    let chords = some_chords g p channel in
    let bar = bar_there g p channel i lt in
    (input g bar.0 (soundings chords.0), record { chords = chords.0; are_chords = chords.1; cell_bar = bar.0; there = bar.1; is = refl })

module _ (x : Change) (is : IsChange x) (channel : ℕ) (voice : Contains x.before.channels channel) where
  -- a cell that both have is reached both ways
  pub reached_back : (i : ℕ) → i < length x.before.bars → IsReached x.grammar x.before x.after channel i → IsReached x.grammar x.after x.before channel i
  reached_back i lt (there, within, inl new) = absurd (omega (arith, lt, new))
  reached_back i lt (there, within, inr (k, l, before, after, other)) = (voice, lt, inr (l, k, after, before, λ e. other (sym e)))

  pub reached_forth : (i : ℕ) → i < length x.after.bars → IsReached x.grammar x.after x.before channel i → IsReached x.grammar x.before x.after channel i
  reached_forth i lt (there, within, inl new) = absurd (omega (arith, lt, new))
  reached_forth i lt (there, within, inr (k, l, after, before, other)) = (subst (λ cs. Contains cs channel) (sym is.channels) voice, lt, inr (l, k, before, after, λ e. other (sym e)))

  -- the table of a cell that is not reached serves
  pub unreached_serves : (i : ℕ) (t : BarTable) → i < length x.after.bars → (IsReached x.grammar x.before x.after channel i → ⊥) → IsTableOfCell x.grammar x.before channel i t
      → IsTableOfCell x.grammar x.after channel i t
  unreached_serves i t lt not h =
      let after = some_input x.grammar x.after channel i lt in
      elim (same_input_or_not t.input after.0) [
        | inl e ↦ record { is = h.is; of_input = subst (IsInputOf x.grammar x.after channel i) (sym e) after.1 }
        | inr other ↦ absurd (not (subst (λ cs. Contains cs channel) (sym is.channels) voice, lt, inr (t.input, after.0, h.of_input, after.1, other)))
      ]
