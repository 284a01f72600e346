use Rattle.std.proofs.Common.{◌≡◌, ◌∷◌, [], true, false, get_or, length, subst, sym, ap, ◌∙◌}
use Rattle.std.specs.List.{AllWithin}
use Rattle.std.proofs.lemmas.Option.{get_or_from_slice_get, slice_get-get_or, slice_get_within}
use Rattle.std.specs.Prelude.{slice_get, None, Some}
use Rattle.rhythm_base.specs.declared.note.Note.{Note}
use Rattle.rhythm_base.specs.Lists.{earlier}
use Rattle.rhythm_base.specs.Performance.{place_of_note}
use Rattle.edit_laws.specs.Edits.{is_note}
use Rattle.performance_edit.proofs.OnlyPlaces.{nowhere, only_there}
use Rattle.performance_edit.proofs.notes.place_of.Goals as goal

pub returns-in-Some : goal.returns-in-Some
returns-in-Some c =
    let notes = c.args.notes.now in
    let n = c.count_before-place.result in
    let x : Note = record { channel = c.args.channel; key = c.args.key; onset = c.args.onset; end = c.args.onset } in
    let front = subst (λ k. AllWithin (λ y. earlier (place_of_note y) (k ∷ x.onset ∷ x.key ∷ []) ≡ true) notes 0 n) c.from.ensures c.count_before-place.ensures.front in
    let back = subst (λ k. AllWithin (λ y. earlier (place_of_note y) (k ∷ x.onset ∷ x.key ∷ []) ≡ false) notes n (length notes)) c.from.ensures c.count_before-place.ensures.back in
    let found : slice_get notes n ≡ Some c.in-Some.note = sym c.in-Some.ensures in
    only_there x notes n c.requires front back (slice_get_within notes n c.in-Some.note found)
    (λ d. ap (is_note x.channel x.key x.onset) (get_or_from_slice_get notes n c.in-Some.note d found) ∙ sym c.if-is_note.ensures)

pub returns-in_default : goal.returns-in_default
returns-in_default c =
    let notes = c.args.notes.now in
    let n = c.count_before-place.result in
    let x : Note = record { channel = c.args.channel; key = c.args.key; onset = c.args.onset; end = c.args.onset } in
    let front = subst (λ k. AllWithin (λ y. earlier (place_of_note y) (k ∷ x.onset ∷ x.key ∷ []) ≡ true) notes 0 n) c.from.ensures c.count_before-place.ensures.front in
    let back = subst (λ k. AllWithin (λ y. earlier (place_of_note y) (k ∷ x.onset ∷ x.key ∷ []) ≡ false) notes n (length notes)) c.from.ensures c.count_before-place.ensures.back in
    let found : slice_get notes n ≡ Some c.in-Some.note = sym c.in-Some.ensures in
    nowhere x notes n c.requires front back
    (λ d lt. ap (is_note x.channel x.key x.onset) (get_or_from_slice_get notes n c.in-Some.note d found) ∙ sym c.if-is_note.ensures)

pub returns-in_default-2 : goal.returns-in_default-2
returns-in_default-2 c =
    let notes = c.args.notes.now in
    let n = c.count_before-place.result in
    let x : Note = record { channel = c.args.channel; key = c.args.key; onset = c.args.onset; end = c.args.onset } in
    let front = subst (λ k. AllWithin (λ y. earlier (place_of_note y) (k ∷ x.onset ∷ x.key ∷ []) ≡ true) notes 0 n) c.from.ensures c.count_before-place.ensures.front in
    let back = subst (λ k. AllWithin (λ y. earlier (place_of_note y) (k ∷ x.onset ∷ x.key ∷ []) ≡ false) notes n (length notes)) c.from.ensures c.count_before-place.ensures.back in
    let none : None ≡ slice_get notes n = sym c.in_default.is ∙ c.get.ensures in
    nowhere x notes n c.requires front back (λ d lt. let wrong : slice_get notes n ≡ Some (get_or notes n d) = slice_get-get_or notes n d lt in absurd (cc))
