use Rattle.std.proofs.Common.{rules, subst, sym, ap, ◌∙◌, ◌≡◌, List}
use Rattle.std.specs.Prelude.{All}
use Rattle.note_list.specs.Pairing.{ArePaired, IsEventOf}
use Rattle.rhythm_base.specs.Time.{keys_of, signatures_of, tempos_of}
use Rattle.rhythm_base.specs.declared.event.Event.{Event}
use Rattle.rhythm_base.specs.declared.note.Note.{Note}
use Rattle.smf_reader.specs.Played.{Smf}
use Rattle.performance_load.specs.Loading.{last_tick}
use Rattle.performance_load.specs.Taking.{AreMarksUpTo, IsTakeFormed}
use Rattle.performance_load.proofs.Formed.{are_events, file_take, marks_low, take_formed}
use Rattle.performance_load.proofs.taking.take.Goals as goal

pub pair-requires-clause-events : goal.pair-requires-clause-events
pair-requires-clause-events c =
    let events : All (IsEventOf (last_tick c.args.smf.now)) c.in_ok-events.events.items = are_events c.args.smf.now c.in_ok-events.events.items c.requires c.in_ok-events.ensures in
    subst (λ t. All (IsEventOf t) c.deref.result.now) (sym c.last.ensures) (subst (All (IsEventOf (last_tick c.args.smf.now))) (sym c.deref.ensures.value) events)

pub returns-clause-formed : goal.returns-clause-formed
returns-clause-formed c =
    let f : Smf = c.args.smf.now in
    let events : List Event = c.in_ok-events.events.items in
    let notes : List Note = c.in_ok-notes.notes.items in
    let paired : ArePaired (last_tick f) events notes = subst (λ t. ArePaired t events notes) c.last.ensures (subst (λ es. ArePaired c.last.result es notes) c.deref.ensures.value c.in_ok-notes.ensures.notes) in
    let division : c.smf.inside.division ≡ f.division = search rules in
    let tempos : c.in_ok-changes.changes.tempos.items ≡ tempos_of events = c.in_ok-changes.ensures.tempos ∙ ap tempos_of c.deref-2.ensures.value in
    let key_marks : c.in_ok-changes.changes.key_marks.items ≡ keys_of events = c.in_ok-changes.ensures.key_marks ∙ ap keys_of c.deref-2.ensures.value in
    let signatures : c.in_ok-changes.changes.signatures.items ≡ signatures_of events = c.in_ok-changes.ensures.signatures ∙ ap signatures_of c.deref-2.ensures.value in
    let same : file_take f events notes ≡ record {
      division = c.smf.inside.division;
      notes = notes;
      tempos = c.in_ok-changes.changes.tempos.items;
      key_marks = c.in_ok-changes.changes.key_marks.items;
      signatures = c.in_ok-changes.changes.signatures.items;
    } = λ i. record {
      division = sym division i;
      notes = notes;
      tempos = sym tempos i;
      key_marks = sym key_marks i;
      signatures = sym signatures i;
    } in
    subst IsTakeFormed same (take_formed f events c.requires c.in_ok-events.ensures notes paired)

pub returns-clause-marks : goal.returns-clause-marks
returns-clause-marks c =
    let f : Smf = c.args.smf.now in
    let events : List Event = c.in_ok-events.events.items in
    let notes : List Note = c.in_ok-notes.notes.items in
    let division : c.smf.inside.division ≡ f.division = search rules in
    let tempos : c.in_ok-changes.changes.tempos.items ≡ tempos_of events = c.in_ok-changes.ensures.tempos ∙ ap tempos_of c.deref-2.ensures.value in
    let key_marks : c.in_ok-changes.changes.key_marks.items ≡ keys_of events = c.in_ok-changes.ensures.key_marks ∙ ap keys_of c.deref-2.ensures.value in
    let signatures : c.in_ok-changes.changes.signatures.items ≡ signatures_of events = c.in_ok-changes.ensures.signatures ∙ ap signatures_of c.deref-2.ensures.value in
    let same : file_take f events notes ≡ record {
      division = c.smf.inside.division;
      notes = notes;
      tempos = c.in_ok-changes.changes.tempos.items;
      key_marks = c.in_ok-changes.changes.key_marks.items;
      signatures = c.in_ok-changes.changes.signatures.items;
    } = λ i. record {
      division = sym division i;
      notes = notes;
      tempos = sym tempos i;
      key_marks = sym key_marks i;
      signatures = sym signatures i;
    } in
    subst (AreMarksUpTo 1000000000) same (marks_low f events c.requires c.in_ok-events.ensures notes)
