use Rattle.std.proofs.Common.{◌≡◌, suc, ◌+◌, ◌*◌, List, [], ◌∷◌, length, get_or, drop, sym, ap, ◌∙◌, subst, arith}
use Rattle.std.proofs.lemmas.List.{length-append}
use Rattle.rhythm_base.specs.declared.chord.Chord.{Chord}
use Rattle.rhythm_base.specs.declared.note.Note.{Note}
use Rattle.voices.proofs.Gathered.{Gathering, gathering_first, gathering_join, gathering_apart, at_note, in_time, rises_after, voice_rises}
use Rattle.voices.proofs.chords.gathered.Goals as goal
use Rattle.voices.proofs.chords.gathered.Goals.{then-time-begin, else-time-begin}

pub notes-init : goal.notes-init
notes-init c =
    let first = c.args.first.now in
    let tempos = c.args.map.now.tempos in
    let rest = voice_rises (first ∷ c.args.others.now) 0 first c.requires.notes (omega arith) in
    let P : List Chord → Type 0 = λ l. Gathering tempos c.args.division c.args.window (first ∷ c.args.others.now) l c.chord_of-chord.result c.time-begin.result c.args.others.now in
    let Q : Chord → Type 0 = λ h. Gathering tempos c.args.division c.args.window (first ∷ c.args.others.now) [] h c.time-begin.result c.args.others.now in
    record {
      so_far = subst P (sym c.requires.none) (subst Q (sym c.chord_of-chord.ensures) (gathering_first tempos c.args.division c.args.window first c.args.others.now c.time-begin.result c.time-begin.ensures rest));
      few = omega (arith, ap length c.requires.none);
      room = c.requires.room;
    }

pub time-time-requires : goal.time-time-requires
time-time-requires c = (c.requires.notes.each (suc c.notes.note-index) _ (omega (arith, c.notes-test.true))).onset

pub overflow_sub-time : goal.overflow_sub-time
overflow_sub-time c =
    let s = c.notes in
    let tempos = c.args.map.now.tempos in
    let notes = c.args.first.now ∷ c.args.others.now in
    let d : Note = record { channel = 0; key = 0; onset = 0; end = 0 } in
    let n = get_or c.args.others.now s.note-index d in
    let g = at_note tempos c.args.division c.args.window notes c.args.others.now s.list.items s.chord s.begin s.note-index d c.notes-test.true s.invariant.so_far in
    let le = in_time tempos c.args.division c.args.window notes s.list.items s.chord s.begin n (drop (s.note-index + 1) c.args.others.now) g in
    omega (arith, le, c.time-time.ensures)

pub chord_of-chord-requires-then-time-begin : goal.chord_of-chord-requires-then-time-begin
chord_of-chord-requires-then-time-begin c = (c.requires.notes.each (suc c.notes.note-index) _ (omega (arith, c.notes-test.true)))

pub joined-chord-requires : goal.joined-chord-requires
joined-chord-requires c = (c.requires.notes.each (suc c.notes.note-index) _ (omega (arith, c.notes-test.true)))

pub notes-preserved : goal.notes-preserved
notes-preserved c =
    let s = c.notes in
    let tempos = c.args.map.now.tempos in
    let notes = c.args.first.now ∷ c.args.others.now in
    let d : Note = record { channel = 0; key = 0; onset = 0; end = 0 } in
    let n = get_or c.args.others.now s.note-index d in
    let rest = drop (s.note-index + 1) c.args.others.now in
    let g = at_note tempos c.args.division c.args.window notes c.args.others.now s.list.items s.chord s.begin s.note-index d c.notes-test.true s.invariant.so_far in
    let width : c.from.result * c.from-2.result ≡ c.args.window * c.args.division = ap (λ k. k * c.from-2.result) c.from.ensures ∙ ap (λ k. c.args.window * k) c.from-2.ensures in
    elim c.if-time-begin.branch [
      | then-time-begin w ↦
          let pushed = w.push_reserved.ensures.items in
          rw (w.list-is, w.chord-is, w.begin-is)
          record {
            so_far = rw w.chord_of-chord-then-time-begin.ensures
                (gathering_apart tempos c.args.division c.args.window notes s.list.items w.push_reserved.new.self.items s.chord s.begin n rest c.time-time.result g (omega (arith, w.if-time-begin.true, width, c.time-time.ensures)) pushed c.time-time.ensures
                (rises_after c.args.first.now c.args.others.now s.note-index d c.requires.notes c.notes-test.true));
            few = omega (arith, s.invariant.few, ap length pushed, length-append s.list.items (s.chord ∷ []));
            room = omega (arith, s.invariant.room, w.push_reserved.ensures.capacity);
          }
      | else-time-begin w ↦
          rw (w.list-is, w.chord-is, w.begin-is)
          record {
            so_far = gathering_join tempos c.args.division c.args.window notes s.list.items s.chord s.begin n rest w.joined-chord.result g (omega (arith, w.if-time-begin.false, width, c.time-time.ensures)) w.joined-chord.ensures;
            few = omega (arith, s.invariant.few);
            room = s.invariant.room;
          }
    ]
