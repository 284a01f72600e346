use Rattle.std.proofs.Common.{rules, arith, ◌≡◌, ◌-◌, ◌+◌, ◌++◌, true, false, Bool, List, refl, sym, ap, ◌∙◌, get_or}
use Rattle.std.specs.List.{flat_map, slice_range}
use Rattle.rhythm_base.specs.declared.note.Note.{Note}
use Rattle.performance_prepare.specs.Strum.{joins, strummed_notes, together}
use Rattle.performance_prepare.proofs.Cutting.{Cut, begin_end, begin_more, begin_part, cut_begin, rest_whole}
use Rattle.performance_prepare.proofs.strum.strummed_notes.Goals as goal
use Rattle.performance_prepare.proofs.strum.strummed_notes.Goals.{then-not-joins+in_ok-push_together, else-not-joins}

pub notes-init : goal.notes-init
notes-init c = record {
  placed = ap (λ (placed : List Note). placed ++ flat_map together
      (Cut (joins c.args.map.now.tempos c.args.division c.args.within) c.args.notes.now 0 1 (record {
        channel = 0;
        key = 0;
        onset = 0;
        end = 0;
      }))) c.in_ok-placed.ensures.items
      ∙ cut_begin (joins c.args.map.now.tempos c.args.division c.args.within) together c.args.notes.now (record {
        channel = 0;
        key = 0;
        onset = 0;
        end = 0;
      }) refl;
  start = omega arith;
  fits = omega arith;
}

pub notes-preserved : goal.notes-preserved
notes-preserved c = elim c.if-not-joins.branch [
  | then-not-joins+in_ok-push_together w ↦ (
      let none : Note = record { channel = 0; key = 0; onset = 0; end = 0 } in
      let J : List Note → Note → Note → Bool = joins c.args.map.now.tempos c.args.division c.args.within in
      let not_joined : c.joins.result ≡ false = search (rules, w.if-not-joins.true) in
      let apart : J (slice_range c.args.notes.now c.notes.start c.notes.index) (get_or c.args.notes.now (c.notes.index - 1) none)
      (get_or c.args.notes.now c.notes.index none) ≡ false = sym c.joins.ensures ∙ not_joined in
      let placed = begin_part J together c.args.notes.now c.notes.start c.notes.index none c.notes.placed.items
      w.push_together.new.placed.items
      (strummed_notes c.args.map.now.tempos c.args.division c.args.within c.args.notes.now) c.notes-test.true apart
      w.in_ok-push_together.ensures c.notes.invariant.placed in
      record {
        placed = (λ i. (w.placed-is i).items ++ flat_map together (Cut J c.args.notes.now (w.start-is i) (c.notes.index + 1) none))
            ∙ placed;
        start = omega (arith, w.start-is);
        fits = omega (arith, w.start-is, c.notes-test.true);
      }
      )
  | else-not-joins w ↦ (
      let none : Note = record { channel = 0; key = 0; onset = 0; end = 0 } in
      let J : List Note → Note → Note → Bool = joins c.args.map.now.tempos c.args.division c.args.within in
      let joined : c.joins.result ≡ true = search (rules, w.if-not-joins.false) in
      let one : J (slice_range c.args.notes.now c.notes.start c.notes.index) (get_or c.args.notes.now (c.notes.index - 1) none)
      (get_or c.args.notes.now c.notes.index none) ≡ true = sym c.joins.ensures ∙ joined in
      let placed = begin_more J together c.args.notes.now c.notes.start c.notes.index none c.notes.placed.items
      (strummed_notes c.args.map.now.tempos c.args.division c.args.within c.args.notes.now) (omega (arith, c.notes.invariant.start))
      c.notes-test.true one c.notes.invariant.placed in
      record {
        placed = (λ i. (w.placed-is i).items ++ flat_map together (Cut J c.args.notes.now (w.start-is i) (c.notes.index + 1) none))
            ∙ placed;
        start = omega (arith, w.start-is, c.notes.invariant.start);
        fits = omega (arith, w.start-is, c.notes.invariant.fits);
      }
      )
]

pub returns : goal.returns
returns c = begin_end (joins c.args.map.now.tempos c.args.division c.args.within) together c.args.notes.now c.notes.start c.notes.index
    (record { channel = 0; key = 0; onset = 0; end = 0 }) c.notes.placed.items _ _ c.notes-test.false
    (c.in_ok-push_together-2.ensures
    ∙ ap (λ (rest : List Note). c.notes.placed.items ++ together rest) (rest_whole c.args.notes.now c.notes.start)) c.notes.invariant.placed
