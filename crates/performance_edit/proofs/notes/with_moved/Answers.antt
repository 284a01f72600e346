use Rattle.std.proofs.Common.{◌≡◌, ◌+◌, ◌++◌, ℕ, List, IfOk, None, Some, get_or, take, drop, subst, sym, ap, ◌∙◌}
use Rattle.std.specs.Prelude.{slice_get}
use Rattle.std.proofs.lemmas.Option.{slice_get-get_or}
use Rattle.rhythm_base.specs.declared.note.Note.{Note}
use Rattle.rhythm_base.specs.Lists.{list_with}
use Rattle.rhythm_base.specs.Performance.{place_of_note}
use Rattle.performance_edit.proofs.MovedNotes.{moved_none, moved_one}
use Rattle.performance_edit.proofs.notes.with_moved.Goals as goal

pub returns-in-None : goal.returns-in-None
returns-in-None c =
    subst (λ (l : List Note). IfOk c.shared.result (λ n. n ≡ l)) (moved_none c.args.channel c.args.key c.args.onset c.args.to c.args.notes.now c.in-None.ensures) c.shared.ensures

pub returns-in-None-get : goal.returns-in-None-get
returns-in-None-get c =
    let notes : List Note = c.args.notes.now in
    let i : ℕ = c.in-Some.place in
    let d : Note = record { channel = 0; key = 0; onset = 0; end = 0 } in
    let none : None ≡ slice_get notes i = sym c.in-None-get.is ∙ c.get.ensures in
    let some : slice_get notes i ≡ Some (get_or notes i d) = slice_get-get_or notes i d c.in-Some.ensures.0 in
    absurd (cc)

pub returns-in-Some-get : goal.returns-in-Some-get
returns-in-Some-get c =
    let notes : List Note = c.args.notes.now in
    let i : ℕ = c.in-Some.place in
    let is = moved_one c.args.channel c.args.key c.args.onset c.args.to notes i c.in-Some-get.note c.in-Some.ensures (sym c.in-Some-get.ensures) in
    subst (λ (l : List Note). IfOk c.with_other_onset.result (λ n. n ≡ l))
    (ap (λ (m : Note). list_with place_of_note m (take i notes ++ drop (i + 1) notes)) c.moved_to.ensures ∙ is) c.with_other_onset.ensures
