use Rattle.std.proofs.Common.{◌≡◌, ◌+◌, ◌<◌, ◌≤◌, ◌++◌, ◌∷◌, [], ℕ, List, drop, length, map, take, ap, sym, ◌∙◌, arith}
use Rattle.std.specs.Prelude.{Bool, if◌then◌else◌}
use Rattle.std.specs.List.{zip}
use Rattle.bar_pool.specs.declared.order.AskedCell.{AskedCell}
use Rattle.edit_session.proofs.Channels.{few_channels}
use Rattle.rhythm_base.specs.declared.chord.Chord.{Chord}
use Rattle.rhythm_base.specs.Voices.{AreChordsOf}
use Rattle.barline_follow.specs.declared.heads.Heads.{Heads}
use Rattle.barline_follow.specs.Barring.{Course, barring_end}
use Rattle.barline_follow.specs.Courses.{AreHeads, cell}
use Rattle.barline_follow.specs.NextBars.{asked_cell, asked_cells}
use Rattle.barline_follow.proofs.KnownCosts.{one_joined}
use Rattle.barline_follow.proofs.Searching.{each_long}
use Rattle.barline_follow.proofs.cells.push_cell.Goals as goal

pub bounds-heads-voice : goal.bounds-heads-voice
bounds-heads-voice c =
    let next = c.args.next.now in
    let t : Course = c.args.list.now.course in
    let long = each_long (AreHeads next.grammar.now next.performance.now t.barring.ticks) next.voices.now t.heads c.requires.list.course.heads in
    let same : c.heads-heads.result.now ≡ t.heads = c.heads-heads.ensures ∙ ap (λ (t : Course). t.heads) c.course-course.ensures in
    omega (arith, c.requires.voice, long, ap length same)

pub offset_bounds-heads-voice : goal.offset_bounds-heads-voice
offset_bounds-heads-voice c =
    let next = c.args.next.now in
    let first : length next.performance.now.channels ≡ length next.voices.now =
    each_long (AreChordsOf next.grammar.now next.performance.now) next.performance.now.channels next.voices.now c.requires.next.chords in
    let most : length next.performance.now.channels ≤ 16 = few_channels next.performance.now c.requires.next.formed in
    omega (arith, c.requires.voice, first, most)

pub returns : goal.returns
returns c =
    let next = c.args.next.now in
    let i : ℕ = c.args.voice in
    let t : Course = c.args.list.now.course in
    let start : ℕ = c.end-start.result in
    let end : ℕ = start + c.offer.result.ticks in
    let voices : List (List Chord) = next.voices.now in
    let heads : List Heads = c.heads-heads.result.now in
    let long = each_long (AreHeads next.grammar.now next.performance.now t.barring.ticks) next.voices.now t.heads c.requires.list.course.heads in
    let heads_is : heads ≡ t.heads = c.heads-heads.ensures ∙ ap (λ (t : Course). t.heads) c.course-course.ensures in
    let start_is : start ≡ barring_end t.barring =
    c.end-start.ensures.value ∙ ap barring_end (c.barring.ensures ∙ ap (λ (t : Course). t.barring) c.course-course.ensures) in
    let offer_is : c.offer.result ≡ c.args.list.now.offer = c.offer.ensures in
    let low : i < length voices = c.requires.voice in
    let high : i < length heads = omega (arith, c.requires.voice, long, ap length heads_is) in
    let own_input = c.in_ok-input.ensures ∙ ap (cell next.grammar.now next.like start end) c.chords-chords.ensures.value in
    let own_asked = c.asked_after-asked.ensures in
    let before : List AskedCell = c.args.cells.now.items in
    c.in_ok-push.ensures.items
    ∙ (λ k. before ++ (record { input = own_input k; asked = own_asked k } ∷ []))
    ∙ ap (λ (l : List AskedCell). before ++ l) (sym (one_joined (asked_cell next start end) voices heads i c.index-next-voice.result _ low high))
    ∙ (λ k. before ++ take 1 (drop i (map (asked_cell next (start_is k) (start_is k + (offer_is k).ticks)) (zip voices (heads_is k)))))
    ∙ ap (λ (b : Bool). before ++ (if b then [] else take 1 (drop i (asked_cells next t c.args.list.now.offer)))) (sym (sym c.is_out.ensures ∙ c.if-is_out.false))
