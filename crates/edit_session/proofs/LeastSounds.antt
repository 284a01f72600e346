-- The rule lists that the least path picks tell the least derivation.
use Rattle.std.proofs.Common.{◌≡◌, ℕ, List, [], ◌∷◌, ap, subst, sym, ◌∙◌, arith}
use Rattle.std.specs.Prelude.{All}
use Rattle.std.proofs.lemmas.List.Elements.{All-nil}
use Rattle.chain_bars.proofs.Voices.{path_derivation}
use Rattle.chain_bars.specs.Laws.{AreTables}
use Rattle.derivation.proofs.WithoutPins.{pins_are_silent}
use Rattle.derivation.specs.Laws.{unpinned_bars}
use Rattle.derivation.specs.RuleLists.{IsToldBy}
use Rattle.derivation.specs.Sounds.{derivation_sounds, plain_bars}
use Rattle.derivation.specs.PerformanceScore.{AreLeastSounds}
use Rattle.rhythm_base.specs.declared.chord.Chord.{Chord}
use Rattle.rhythm_base.specs.declared.inner.Inner.{Inner}
use Rattle.rhythm_base.specs.declared.note.Bar.{Bar}
use Rattle.rhythm_base.specs.declared.sound.Sound.{Sound}
use Rattle.rhythm_base.specs.BarInput.{BarInput}
use Rattle.rhythm_base.specs.BarTables.{BarTable}
use Rattle.rhythm_base.specs.Forest.{Tree}
use Rattle.rhythm_base.specs.Grammar.{Grammar}
use Rattle.rhythm_base.specs.Least.{IsLeast}
use Rattle.rhythm_base.specs.Leaves.{VoiceBar, soundings}
use Rattle.rhythm_base.specs.Performance.{IsWellFormed, Performance}
use Rattle.rhythm_base.specs.Readable.{IsReadable}
use Rattle.rhythm_base.specs.Voices.{AreChordsOf, HasStarts, notes_of_voice, voice_bars}
use Rattle.rhythm_base.proofs.OrderedLists.{all_cons}
use Rattle.performance_laws.proofs.PerformedVoices.{performed_voice}
use Rattle.performance_laws.proofs.OneChords.{one_chords}
use Rattle.tree_laws.specs.Voices.{IsVoice}
use Rattle.edit_session.specs.Kept.{AreTablesOfVoice}
use Rattle.edit_session.proofs.ListedTrees.{told_picked}
use Rattle.edit_session.specs.LeastTrees.{AreOfLeastPath, IsTableIn}
use Rattle.edit_session.specs.RuleLists.{AreLeastLists}

in_grammar : (g : Grammar) (cs : List Inner) (bars : List VoiceBar) (tables : List BarTable) → AreTables g cs bars tables → All (IsTableIn g) tables
in_grammar g cs [] [] h = All-nil (IsTableIn g)
in_grammar g cs [] (x ∷ tables) h = absurd h
in_grammar g cs (bar ∷ bars) [] h = absurd h
in_grammar g cs (bar ∷ bars) (x ∷ tables) h =
    all_cons (IsTableIn g) x tables (record { is = h.0; units = ap (λ (k : BarInput). k.resolution) h.1 }) (in_grammar g cs bars tables h.2)

-- the same of equal bars, chords and lists
pub told_too : (g : Grammar) (trees : List Tree) (last last' : ℕ) (bars bars' : List Bar) (cs ds : List Chord) (lists lists' : List (List ℕ)) → last' ≡ last → bars' ≡ bars → ds ≡ cs → lists' ≡ lists
    → IsToldBy g (plain_bars g last bars) (soundings cs) lists trees → IsToldBy g (plain_bars g last' bars') (soundings ds) lists' trees
told_too g trees last last' bars bars' cs ds lists lists' ends same chords own told =
    subst (λ l. IsToldBy g (plain_bars g l bars') (soundings ds) lists' trees) (sym ends)
    (subst (λ bs. IsToldBy g (plain_bars g last bs) (soundings ds) lists' trees) (sym same)
    (subst (λ es. IsToldBy g (plain_bars g last bars) (soundings es) lists' trees) (sym chords)
    (subst (λ ls. IsToldBy g (plain_bars g last bars) (soundings cs) ls trees) (sym own) told)))

module _ (g : Grammar) (p : Performance) (channel : ℕ) (tables : List BarTable) (h : AreTablesOfVoice g p channel tables) where
  pub tables_in : All (IsTableIn g) tables
  tables_in = in_grammar g (soundings h.chords) (voice_bars g p channel) tables h.each

  module _ (readable : IsReadable g) (formed : IsWellFormed p) (cs : List Chord) (are : AreChordsOf g p channel cs) where
    voice : IsVoice g (voice_bars g p channel) (soundings cs)
    voice = performed_voice g p channel cs formed are readable.ranges.some_unit

    pub unpinned_voice : IsVoice g (unpinned_bars g p) (soundings cs)
    unpinned_voice = pins_are_silent.voices g p channel cs voice

    -- the least derivation of the voice has the lists that the least path picks
    told : (lists : List (List ℕ)) → AreOfLeastPath tables lists → (trees : List Tree) × IsLeast g (voice_bars g p channel) (soundings cs) trees × IsToldBy g (unpinned_bars g p) (soundings cs) lists trees
    told lists of =
        let same : h.chords ≡ cs = one_chords p.tempos p.division g.window (notes_of_voice p channel) h.chords cs h.are_chords are in
        let each : AreTables g (soundings cs) (voice_bars g p channel) tables = subst (λ ds. AreTables g (soundings ds) (voice_bars g p channel) tables) same h.each in
        let picked = told_picked g tables 0 of.path lists tables_in (omega arith) of.least.counts of.listed in
        let least = (path_derivation g (voice_bars g p channel) (soundings cs) tables of.path of.key picked.0 voice each of.least picked.1).0 in
        (picked.0, least, record { fits = pins_are_silent.fits g p channel cs picked.0 least.fits; preorders = picked.2 })

    pub unpinned_told : (lists : List (List ℕ)) → AreOfLeastPath tables lists → (trees : List Tree) × IsToldBy g (unpinned_bars g p) (soundings cs) lists trees
    unpinned_told lists of = let t = told lists of in (t.0, t.2)

    -- they are its rule lists
    pub least_lists : HasStarts g p.bars → (lists : List (List ℕ)) → AreOfLeastPath tables lists → AreLeastLists g p channel lists
    least_lists starts lists of =
        let t = told lists of in
        (t.0, record { starts = starts; chords = cs; are_chords = are; least = t.1 }, t.2.preorders)

    pub least_sounds : (lists : List (List ℕ)) (sounds : List Sound) → HasStarts g p.bars → AreOfLeastPath tables lists
        → ((trees : List Tree) → IsToldBy g (unpinned_bars g p) (soundings cs) lists trees → sounds ≡ derivation_sounds g (unpinned_bars g p) cs trees) → AreLeastSounds g p channel sounds
    least_sounds lists sounds starts of each =
        let t = told lists of in
        record {
          starts = starts;
          chords = cs;
          are_chords = are;
          trees = t.0;
          least = t.1;
          are = each t.0 t.2 ∙ sym (pins_are_silent.sounds g p channel cs t.0);
        }
