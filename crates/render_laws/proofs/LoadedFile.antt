-- Whatever a rendered file loads to has its notes and changes.
use Rattle.std.proofs.Common.{◌≡◌, ℕ, ◌*◌, List, [], ◌∷◌, refl, sym, ap, ap₂, ◌∙◌, subst, Option, None}
use Rattle.std.specs.Prelude.{filter, if◌then◌else◌, Ok}
use Rattle.std.specs.List.{cons_option, filter_map}
use Rattle.note_list.proofs.OneList.{are_one}
use Rattle.performance_load.specs.Loading.{AreMergedOf, AreVoicesOf, IsLoaded, greatest_end, greatest_onset, last_tick}
use Rattle.rhythm_base.specs.declared.event.Event.{Event}
use Rattle.rhythm_base.specs.declared.event.What.{What}
use Rattle.rhythm_base.specs.declared.event.What.TheVariants.{On, Off, Tempo, Signature, KeySig}
use Rattle.rhythm_base.specs.declared.note.Note.{Note}
use Rattle.rhythm_base.specs.Bars.{IsLaying}
use Rattle.rhythm_base.specs.Notes.{AreNotes}
use Rattle.rhythm_base.specs.Performance.{Performance}
use Rattle.rhythm_base.specs.Time.{key_in, keys_of, signature_in, signatures_of, tempo_in, tempos_of}
use Rattle.derivation.specs.declared.score.ScoreBar.{ScoreBar}
use Rattle.smf_reader.specs.Played.{Smf}
use Rattle.smf_writer.specs.Changes.{conductor}
use Rattle.render_laws.specs.ReadBack.{IsRenderedPerformance, is_change}

-- what notes never say is said by the changes alone
said_by_changes : {X : Type 0} (said : ℕ → What → Option X) → ((t c k : ℕ) → said t (On c k) ≡ None) → ((t c k : ℕ) → said t (Off c k) ≡ None)
    → (es : List Event) → filter_map (λ e. said e.tick e.what) (filter (λ e. is_change e.what) es) ≡ filter_map (λ e. said e.tick e.what) es
said_by_changes said on off [] = refl
said_by_changes {X} said on off (e ∷ es) = go e.what refl (said_by_changes said on off es)
  where
    changes : List Event
    changes = filter (λ e. is_change e.what) es

    go : (w : What) → e.what ≡ w → filter_map (λ e. said e.tick e.what) changes ≡ filter_map (λ e. said e.tick e.what) es → filter_map (λ e. said e.tick e.what) (if is_change w then e ∷ changes else changes)
        ≡ cons_option (said e.tick w) (filter_map (λ e. said e.tick e.what) es)
    go (On c k) is rest = rest ∙ ap (λ o. cons_option o (filter_map (λ e. said e.tick e.what) es)) (sym (on e.tick c k))
    go (Off c k) is rest = rest ∙ ap (λ o. cons_option o (filter_map (λ e. said e.tick e.what) es)) (sym (off e.tick c k))
    go (Tempo micros) is rest = ap₂ cons_option (ap (said e.tick) is) rest
    go (Signature num dd) is rest = ap₂ cons_option (ap (said e.tick) is) rest
    go (KeySig sf) is rest = ap₂ cons_option (ap (said e.tick) is) rest

module _ (resolution : ℕ) (bars : List ScoreBar) (file : Smf) (notes : List Note) (division : file.division ≡ 16 * resolution)
    (played : (merged : List Event) → AreMergedOf file merged → AreNotes (last_tick file) merged notes)
    (changed : (merged : List Event) → AreMergedOf file merged → filter (λ e. is_change e.what) merged ≡ conductor resolution bars) where
  pub loaded : (p : Performance) → IsLoaded file p → IsRenderedPerformance resolution bars notes p
  loaded p is =
      let own = changed is.events is.merged in
      let same : p.notes ≡ notes = are_one (last_tick file) is.events p.notes notes is.notes.notes (played is.events is.merged) in
      let tempos : tempos_of is.events ≡ tempos_of (conductor resolution bars) = sym (said_by_changes tempo_in (λ t c k. refl) (λ t c k. refl) is.events) ∙ ap tempos_of own in
      let keys : keys_of is.events ≡ keys_of (conductor resolution bars) = sym (said_by_changes key_in (λ t c k. refl) (λ t c k. refl) is.events) ∙ ap keys_of own in
      let signatures : signatures_of is.events ≡ signatures_of (conductor resolution bars) =
      sym (said_by_changes signature_in (λ t c k. refl) (λ t c k. refl) is.events) ∙ ap signatures_of own in
      record {
        division = is.division ∙ division;
        notes = same;
        tempos = is.tempos ∙ tempos;
        key_marks = is.key_marks ∙ keys;
        bars =
            subst (λ d. IsLaying d (signatures_of (conductor resolution bars)) (greatest_onset notes) (greatest_end notes) (Ok (p.bars, p.last))) division
            (subst (λ ss. IsLaying file.division ss (greatest_onset notes) (greatest_end notes) (Ok (p.bars, p.last))) signatures
            (subst (λ ns. IsLaying file.division (signatures_of is.events) (greatest_onset ns) (greatest_end ns) (Ok (p.bars, p.last))) same is.bars));
        voices = subst (λ ns. AreVoicesOf ns p.channels) same is.voices;
        pins = is.pins;
      }
