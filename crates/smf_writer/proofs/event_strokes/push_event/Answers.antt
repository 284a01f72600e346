use Rattle.std.proofs.Common.{rules, ◌≡◌, ◌++◌, ◌+◌, ◌<◌, ◌≤◌, ℕ, List, length, ap, ◌∙◌, arith}
use Rattle.std.proofs.lemmas.Result.{IfOk-equal}
use Rattle.voice_events.specs.Parts.{len_parts, start_parts}
use Rattle.smf_writer.specs.Strokes.{grace_strokes, joined_keys, strokes_events}
use Rattle.smf_writer.proofs.EventStrokes.{crowded, graced, half_way, made, meant}
use Rattle.smf_writer.proofs.event_strokes.push_event.Goals as goal
use Rattle.smf_writer.proofs.event_strokes.push_event.Goals.{then-graces-length+in_ok-onset, else-graces-length}

pub returns : goal.returns
returns c =
    let x = c.args.span.now in
    let r = c.args.resolution in
    let old = c.args.track.now.items in
    let now = c.if-graces-length.track.items in
    let onset = c.if-graces-length.onset.0 in
    let passing = c.if-graces-length.onset.1 in
    let end = c.end_of.result in
    let channel = c.args.channel in
    let graces = c.as_slice-graces.result.now in
    let slice : graces ≡ x.graces = c.as_slice-graces.ensures in
    let ending : end ≡ half_way r x onset = search rules in
    let whole : made r x c.args.channel old now onset end passing ≡ meant r x c.args.channel old now onset end passing = elim c.if-graces-length.branch [
      | then-graces-length+in_ok-onset w ↦ (
          let less : length x.graces < len_parts r x = omega (arith, w.if-graces-length.true, ap length slice, c.ticks_of-length.ensures) in
          let so_far : now ≡ old ++ strokes_events channel (grace_strokes (start_parts r x) x.graces) =
          (λ i. (w.track-is i).items)
          ∙ w.in_ok-onset.ensures.events
          ∙ ap (λ (s : ℕ). old ++ strokes_events channel (grace_strokes s graces)) w.of.ensures
          ∙ ap (λ (s : ℕ). old ++ strokes_events channel (grace_strokes s graces)) c.ticks_of-start.ensures
          ∙ ap (λ (gs : List ℕ). old ++ strokes_events channel (grace_strokes (start_parts r x) gs)) slice in
          let at : onset ≡ start_parts r x + length x.graces = (λ i. (w.onset-is i).0) ∙ omega (arith, w.in_ok-onset.ensures.after, w.of.ensures, ap length slice, c.ticks_of-start.ensures) in
          graced r x channel old now onset end passing ending less so_far at ((λ i. (w.onset-is i).1) ∙ w.none.ensures))
      | else-graces-length w ↦ (
          let more : len_parts r x ≤ length x.graces = omega (arith, w.if-graces-length.false, ap length slice, c.ticks_of-length.ensures) in
          crowded r x channel old now onset end passing ending more (λ i. (w.track-is i).items) ((λ i. (w.onset-is i).0) ∙ c.ticks_of-start.ensures)
          ((λ i. (w.onset-is i).1) ∙ w.joined.ensures ∙ ap joined_keys slice))
    ] in
    IfOk-equal c.push_stroke.result _ _ _ c.push_stroke.ensures whole
