use Rattle.std.proofs.Common.{◌≡◌, ◌++◌, ◌+◌, ℕ, List, ◌∷◌, drop, map, sym, ap, ◌∙◌, append_assoc, arith}
use Rattle.std.proofs.lemmas.List.{drop_more}
use Rattle.rhythm_base.specs.declared.event.Event.{Event}
use Rattle.smf_writer.specs.NoteMessages.{event_of}
use Rattle.smf_writer.specs.Strokes.{grace_strokes, stroke_messages, strokes_events}
use Rattle.smf_writer.proofs.event_strokes.push_graces.Goals as goal

pub graces-preserved : goal.graces-preserved
graces-preserved c =
    let graces = c.args.graces.now in
    let i = c.graces.keys-index in
    let tick = c.graces.tick in
    let channel = c.args.channel in
    let old : List Event = c.graces.track.items in
    let keys : ℕ = c.keys-item.result in
    let later : List Event = strokes_events channel (grace_strokes (tick + 1) (drop (i + 1) graces)) in
    let passing : ℕ = c.none.result in
    let pushed = c.in_ok-push_stroke.ensures in
    let none : passing ≡ 0 = c.none.ensures in
    let next : drop i graces ≡ keys ∷ drop (i + 1) graces = drop_more graces i keys c.graces-test.true ∙ ap (λ (k : ℕ). k ∷ drop (i + 1) graces) (sym c.keys-item.is) in
    record {
      so_far = ap (λ (es : List Event). es ++ later) pushed
          ∙ ap (λ (p : ℕ). (old ++ map event_of (stroke_messages channel (record { onset = tick; end = tick + 1; held = keys; passing = p }))) ++ later) none
          ∙ append_assoc old (map event_of (stroke_messages channel (record { onset = tick; end = tick + 1; held = keys; passing = 0 }))) later
          ∙ ap (λ (gs : List ℕ). old ++ strokes_events channel (grace_strokes tick gs)) (sym next)
          ∙ c.graces.invariant.so_far;
      tick = omega (arith, c.graces.invariant.tick);
    }
