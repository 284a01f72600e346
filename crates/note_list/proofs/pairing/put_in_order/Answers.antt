use Rattle.std.proofs.Common.{◌≡◌, ◌++◌, List, drop, length, take, rules, subst, sym}
use Rattle.std.proofs.Math.Seq.{take-append_seam}
use Rattle.std.specs.List.Sorted.{IsPermutation}
use Rattle.std.proofs.lemmas.List.Sorted.{IsPermutation-trans, answers_always, length_permutation}
use Rattle.rhythm_base.specs.declared.note.Note.{Note}
use Rattle.rhythm_base.specs.Performance.{place_of_note}
use Rattle.note_list.proofs.pairing.put_in_order.Goals as goal

pub returns-clause-same : goal.returns-clause-same
returns-clause-same c =
    let xs : List Note = c.reverse.new.self.items in
    let ys : List Note = c.order_chords.new.notes in
    let zs : List Note = drop (length ys) xs in
    let chords : IsPermutation xs ys = subst (λ l. IsPermutation l ys) c.as_mut_slice.ensures.value c.order_chords.ensures in
    let long : length ys ≡ c.reverse.new.self.len = search (rules, length_permutation xs ys chords) in
    let P : List Note → Type 0 = λ l. IsPermutation xs l in
    let whole : take c.reverse.new.self.len (ys ++ zs) ≡ ys = subst (λ n. take n (ys ++ zs) ≡ ys) long (take-append_seam ys zs) in
    let written = subst P (sym whole) chords in
    let by_channel = IsPermutation-trans _ _ _ written c.sort_by_key.ensures.permutation in
    IsPermutation-trans _ _ _ c.reverse.ensures.permutation (IsPermutation-trans _ _ _ by_channel c.sort_by_key-2.ensures.permutation)

pub returns-clause-sorted : goal.returns-clause-sorted
returns-clause-sorted c = c.in_ok-sort_by_key-2.ensures.sorted place_of_note (answers_always _ _ _ (λ f a r g h. search rules))
