use Rattle.std.proofs.Common.{◌≡◌, ◌+◌, ◌∷◌, [], ℕ, List, length, true, false, subst}
use Rattle.std.specs.List.{AllWithin}
use Rattle.rhythm_base.specs.declared.note.Note.{Note}
use Rattle.rhythm_base.specs.Lists.{earlier}
use Rattle.rhythm_base.specs.Performance.{place_of_note}
use Rattle.voices.proofs.VoiceParts.{part_is, part_order}
use Rattle.voices.proofs.voice_notes.VoiceNotes.of.Goals as goal

pub invariant_of-result : goal.invariant_of-result
invariant_of-result c =
    let notes : List Note = c.args.notes.now in
    let from : ℕ = c.count_before-from.result in
    let up_to : ℕ = c.count_before-up_to.result in
    let found = c.count_before-from.ensures in
    let next = c.count_before-up_to.ensures in
    let front = subst (λ k. AllWithin (λ n. earlier (place_of_note n) (k ∷ 0 ∷ 0 ∷ []) ≡ true) notes 0 from) c.from.ensures found.front in
    let back = subst (λ k. AllWithin (λ n. earlier (place_of_note n) (k ∷ 0 ∷ 0 ∷ []) ≡ false) notes from (length notes)) c.from.ensures found.back in
    let front_later = subst (λ k. AllWithin (λ n. earlier (place_of_note n) ((k + 1) ∷ 0 ∷ 0 ∷ []) ≡ true) notes 0 up_to) c.from-2.ensures next.front in
    let back_later = subst (λ k. AllWithin (λ n. earlier (place_of_note n) ((k + 1) ∷ 0 ∷ 0 ∷ []) ≡ false) notes up_to (length notes)) c.from-2.ensures next.back in
    (part_order notes c.args.channel from up_to found.within next.within front back front_later back_later, next.within, c.len-few.ensures.few)

pub returns : goal.returns
returns c =
    let notes : List Note = c.args.notes.now in
    let from : ℕ = c.count_before-from.result in
    let up_to : ℕ = c.count_before-up_to.result in
    let found = c.count_before-from.ensures in
    let next = c.count_before-up_to.ensures in
    let front = subst (λ k. AllWithin (λ n. earlier (place_of_note n) (k ∷ 0 ∷ 0 ∷ []) ≡ true) notes 0 from) c.from.ensures found.front in
    let back = subst (λ k. AllWithin (λ n. earlier (place_of_note n) (k ∷ 0 ∷ 0 ∷ []) ≡ false) notes from (length notes)) c.from.ensures found.back in
    let front_later = subst (λ k. AllWithin (λ n. earlier (place_of_note n) ((k + 1) ∷ 0 ∷ 0 ∷ []) ≡ true) notes 0 up_to) c.from-2.ensures next.front in
    let back_later = subst (λ k. AllWithin (λ n. earlier (place_of_note n) ((k + 1) ∷ 0 ∷ 0 ∷ []) ≡ false) notes up_to (length notes)) c.from-2.ensures next.back in
    part_is notes c.args.channel from up_to found.within next.within front back front_later back_later
