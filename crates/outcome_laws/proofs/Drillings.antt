-- The drill of a number on its piece comes to an end.
use Rattle.std.proofs.Common.{◌≡◌, ℕ, zero, suc, ◌+◌, ◌*◌, ◌%◌, ◌==◌, ◌<◌, ◌≤◌, Bool, true, false, if◌then◌else◌, inl, inr, List, length, refl, sym, subst, arith, Option, Some, Result, Ok, Err}
use Rattle.std.specs.Prelude.{Contains, max, option_map, slice_get}
use Rattle.std.proofs.Math.Nat.{mod-lt}
use Rattle.std.proofs.lemmas.Option.{get_or_from_slice_get}
use Rattle.answer_laws.specs.Editable.{IsEditable}
use Rattle.answer_laws.proofs.FiniteSets.{there}
use Rattle.answer_laws.proofs.Openings.{opening_or_fault}
use Rattle.answer_laws.proofs.Outcomes.{some_outcome}
use Rattle.answer_laws.proofs.Scores.{some_written_score}
use Rattle.drill_run.specs.Drill.{Drilled, IsDrilledTo, IsDrillStep, undrilled}
use Rattle.drill_run.specs.Ends.{IsDrillOf, IsSummarySaid}
use Rattle.drill_run.specs.Summary.{AreFigures, summary_text}
use Rattle.drill_run.specs.declared.figures.Figures.{Figures}
use Rattle.drill_run.specs.declared.piece.TheConstants.{DRILL_BARS}
use Rattle.drill_run.proofs.EditKinds.{note_of}
use Rattle.drill_run.proofs.Keeps.{HasEnough, keeps_enough, some_note, step_keeps}
use Rattle.edit_laws.specs.EditOutcomes.{EditOutcome, IsOutcome, made, refused}
use Rattle.edit_session.specs.Opening.{CanOpen}
use Rattle.piece_laws.proofs.FormedPieces.{pieces_formed}
use Rattle.piece_laws.proofs.PieceBars.{pieces_bars, pieces_notes}
use Rattle.rhythm_app.specs.Outcome.{IsDrilling, IsPieceOf, Ready, open_stop, say}
use Rattle.rhythm_app.specs.declared.stop.Stop.{Stop}
use Rattle.rhythm_app.specs.declared.stop.Stop.TheVariants as stop
use Rattle.rhythm_base.specs.declared.edit.Edit.{Edit}
use Rattle.rhythm_base.specs.declared.edit.Edit.TheVariants.{Add, Drop, Move, Barline}
use Rattle.rhythm_base.specs.declared.note.Bar.{Bar}
use Rattle.rhythm_base.specs.declared.note.Note.{Note}
use Rattle.rhythm_base.specs.EditRanges.{IsEditInRange}
use Rattle.rhythm_base.specs.Grammar.{Grammar}
use Rattle.rhythm_base.specs.Performance.{IsBarOf, IsWellFormed, Performance}
use Rattle.rhythm_base.specs.Readable.{IsReadable}
use Rattle.rhythm_base.specs.Voices.{IsCostOf}
use Rattle.rhythm_gen.specs.Draws.{draw}
use Rattle.rhythm_gen.specs.DrillEdit.{added_note, delayed, drill_edit, dropped, moved_note}
use Rattle.kern_writer.specs.PerformanceText.{IsWrittenScore}
use Rattle.table_laws.proofs.Performances.{some_cost}

-- ---- an edit of a drill is there, and in range

module _ (p : Performance) (formed : IsWellFormed p) (notes : 1 ≤ length p.notes) (bars : 2 ≤ length p.bars) (last : p.last ≤ 1999999000) where
  abbrev IsThere : Option Edit → Type 0
  IsThere o = (edit : Edit) × (o ≡ Some edit) × IsEditInRange edit

  by_bar : (k : ℕ) (f : Bar → Edit) → k < length p.bars → ((b : Bar) → b.start < p.last → IsEditInRange (f b)) → IsThere (option_map f (slice_get p.bars k))
  by_bar k f less range =
      let bar = there p.bars k less in
      let own : IsBarOf p.division p.last bar.0 = subst (IsBarOf p.division p.last) (get_or_from_slice_get p.bars k bar.0 bar.0 bar.1) (formed.bars k bar.0 less) in
      subst (λ (o : Option Bar). IsThere (option_map f o)) (sym bar.1) (f bar.0, refl, range bar.0 own.start)

  low_channel : (channel : ℕ) → Contains p.channels channel → channel < 16
  low_channel channel (k, less, is) = subst (λ c. c < 16) is (formed.voices k channel less)

  by_note : (k : ℕ) (f : Note → Edit) → k < length p.notes → ((n : Note) → n.channel < 16 → n.key < 128 → n.onset < p.last → IsEditInRange (f n)) → IsThere (option_map f (slice_get p.notes k))
  by_note k f less range =
      let note = there p.notes k less in
      let own = note_of p k note.0 formed note.1 in
      subst (λ (o : Option Note). IsThere (option_map f o)) (sym note.1) (f note.0, refl, range note.0 (low_channel note.0.channel own.voice) own.key own.onset)

  by_turn : (e v : ℕ) (first second third : Bool)
      → IsThere (if first then added_note (e % 2) (72 + v % 12) (v % length p.bars) p
      else (if second then dropped (v % length p.notes) p
      else (if third then moved_note (v % length p.notes) p
      else delayed (max 1 (v % length p.bars)) p)))
  by_turn e v true second third =
      let low : e % 2 < 2 = mod-lt e (omega arith) in
      let small : v % 12 < 12 = mod-lt v (omega arith) in
      by_bar (v % length p.bars) (λ b. Add (e % 2) (72 + v % 12) (b.start + 120) (b.start + 240)) (mod-lt v (omega (arith, bars)))
      (λ b start. (omega (arith, low), omega (arith, small), omega (arith, start, last), omega (arith, start, last)))
  by_turn e v false true third =
      by_note (v % length p.notes) (λ n. Drop n.channel n.key n.onset) (mod-lt v (omega (arith, notes))) (λ n channel key onset. (channel, key, omega (arith, onset, last)))
  by_turn e v false false true =
      by_note (v % length p.notes) (λ n. Move n.channel n.key n.onset (n.onset + 30)) (mod-lt v (omega (arith, notes)))
      (λ n channel key onset. (channel, key, omega (arith, onset, last), omega (arith, onset, last)))
  by_turn e v false false false =
      let less : v % length p.bars < length p.bars = mod-lt v (omega (arith, bars)) in
      by_bar (max 1 (v % length p.bars)) (λ b. Barline (max 1 (v % length p.bars)) (b.start + 10)) (omega (arith, less, bars))
      (λ b start. (omega (arith, less, formed.few_bars), omega (arith, start, last)))

  some_edit : (number e : ℕ) → IsThere (drill_edit number e p)
  some_edit number e = by_turn e (draw (number + 1) (e + 1)) (e % 4 == 0) (e % 4 == 1) (e % 4 == 2)

-- ---- the edits one after another

module _ (g : Grammar) (number : ℕ) (p : Performance) (readable : IsReadable g) where
  -- where a drill stands after so many edits, and what the next wants
  record Stands (e : ℕ) : Type 0 where
    at : Drilled
    besides : ℕ
    drilled : IsDrilledTo g number p e at besides
    editable : IsEditable g at.performance
    enough : HasEnough e at.performance

  record IsStepped (e : ℕ) (old : Drilled) : Type 0 where
    new : Drilled
    step : IsDrillStep g number e old new 0
    editable : IsEditable g new.performance

  stepped : (e : ℕ) (old : Drilled) → e < 40 → IsEditable g old.performance → HasEnough e old.performance → IsStepped e old
  stepped e old few editable enough =
      let own = some_edit old.performance editable.0 (some_note e old.performance enough few) enough.bars enough.last number e in
      let after = some_outcome g old.performance own.0 readable editable own.2 in
      go own.0 own.1 after.0 after.1 after.2 after.3
    where
      go : (edit : Edit) → drill_edit number e old.performance ≡ Some edit → (outcome : EditOutcome) (next : Performance) → IsOutcome g old.performance edit outcome next
          → IsEditable g next → IsStepped e old
      go edit is (refused fault) next comes can = record {
        new = record { performance = next; accepted = old.accepted; built = old.built };
        step = record { edit = edit; is = is; outcome = refused fault; comes = comes; counts = (refl, refl); builds = λ cells would. omega arith };
        editable = can;
      }
      go edit is (made reached cost) next comes can = record {
        new = record { performance = next; accepted = old.accepted + 1; built = old.built + reached };
        step = record { edit = edit; is = is; outcome = made reached cost; comes = comes; counts = (refl, refl); builds = refl };
        editable = can;
      }

  module _ (editable : IsEditable g p) (enough : HasEnough 0 p) where
    stands : (e : ℕ) → e ≤ 40 → Stands e
    unfolding IsDrilledTo
    stands zero few = record { at = undrilled p; besides = 0; drilled = (refl, refl); editable = editable; enough = enough }
    stands (suc e) few =
        let before = stands e (omega (arith, few)) in
        let next = stepped e before.at (omega (arith, few)) before.editable before.enough in
        let kept = keeps_enough e before.at.performance next.new.performance before.enough (step_keeps g number e before.at next.new 0 before.editable.0 next.step) in
        record {
          at = next.new;
          besides = before.besides + 0;
          drilled = (before.at, before.besides, 0, before.drilled, next.step, refl);
          editable = next.editable;
          enough = subst (λ n. HasEnough n next.new.performance) (omega arith) kept;
        }

-- ---- the end

module _ (g : Grammar) (last : Drilled) (readable : IsReadable g) (editable : IsEditable g last.performance) where
  some_summary : (said : Result (List ℕ) ℕ) × IsSummarySaid g last said
  some_summary =
      let cost = some_cost g last.performance readable editable.0 editable.1.starts last.performance.channels editable.1.derivations in
      let score = some_written_score g last.performance readable editable.0 editable.1.derivations in
      go cost.0 cost.1 score.0 score.1
    where
      go : (cost : ℕ) → IsCostOf g last.performance cost → (r : Result (List ℕ) ℕ) → IsWrittenScore g last.performance r → (said : Result (List ℕ) ℕ) × IsSummarySaid g last said
      go cost is (Err line) long = (Err line, long)
      go cost is (Ok text) (written, short) =
          let f : Figures = record {
            bars = length last.performance.bars;
            cells = length last.performance.channels * length last.performance.bars;
            accepted = last.accepted;
            built = last.built;
            cost = cost;
            bytes = length text;
          } in
          let are : AreFigures g last f = record {
            bars = refl;
            cells = refl;
            accepted = refl;
            built = refl;
            cost = is;
            score = text;
            is_score = written;
            short = short;
            bytes = refl;
          } in
          (Ok (summary_text f), (f, are, refl))

module _ (g : Grammar) (number : ℕ) (p : Performance) (readable : IsReadable g) (piece : IsPieceOf number p) where
  abbrev HasDrilling : Type 0
  HasDrilling = (r : Result Ready Stop) × IsDrilling g number p r

  enough : HasEnough 0 p
  enough =
      let bars = pieces_bars.count number DRILL_BARS p piece in
      let last = pieces_bars.last number DRILL_BARS p piece in
      let notes = pieces_notes.many number DRILL_BARS p piece in
      record { bars = omega (arith, bars); last = omega (arith, last); dropped = 0; few_dropped = omega arith; notes = omega (arith, notes) }

  by_end : CanOpen g p → (said : Result (List ℕ) ℕ) → IsDrillOf g number p said → HasDrilling
  by_end can (Ok text) is = (Ok (say text), (can, is))
  by_end can (Err line) is = (Err (stop.ScoreTooLong line), inr (line, can, is, refl))

  pub some_drilling : HasDrilling
  some_drilling = elim (opening_or_fault g p readable formed) [
    | inl can ↦
        let last = stands g number p readable (formed, can) enough 40 (omega arith) in
        let said = some_summary g last.at readable last.editable in
        by_end can said.0 (last.at, last.besides, last.drilled, said.1)
    | inr fault ↦ (Err (open_stop fault.0), inl (fault.0, fault.2, fault.1, refl))
  ]
    where
      formed : IsWellFormed p
      formed = pieces_formed number DRILL_BARS p piece
