-- Lists in the order of places: of the same elements there is one.
use Rattle.std.proofs.Common.{◌≡◌, ℕ, List, ap, ◌∙◌, sym}
use Rattle.std.specs.Cmp.Lexicographic.{slice_cmp}
use Rattle.std.specs.List.Sorted.{IsPermutation}
use Rattle.std.specs.Ordering.{nat_cmp}
use Rattle.std.specs.declared.cmp.Ordering.TheVariants.{Less}
use Rattle.std.proofs.lemmas.Cmp.{nat_list_cmp_total}
use Rattle.std.proofs.lemmas.List.Sorted.{Contains-permutation, IsPermutation-sym, IsPermutation-trans}
use Rattle.rhythm_base.specs.declared.note.Note.{Note}
use Rattle.rhythm_base.specs.Lists.{AreInOrder}
use Rattle.rhythm_base.proofs.FirstLists.{one_earlier, one_order}
use Rattle.notes_writer.specs.ByOnset.{AreByOnset, place_in_text}
use Rattle.notes_writer.specs.Laws.{NotesTextsAreOne}
use Rattle.notes_writer.specs.NotesText.{notes_records}

pub one_in_order : {X : Type 0} (place : X → List ℕ) (xs ys : List X) → AreInOrder place xs → AreInOrder place ys → IsPermutation xs ys → xs ≡ ys
one_in_order {X} place xs ys h k same =
    let IsBefore : X → X → Type 0 = λ x y. slice_cmp nat_cmp (place x) (place y) ≡ Less in
    one_order IsBefore (λ x y. one_earlier nat_list_cmp_total (place x) (place y)) xs ys h k (λ x there. Contains-permutation xs ys x same there)
    (λ x there. Contains-permutation ys xs x (IsPermutation-sym xs ys same) there)

one_list : (notes some other : List Note) → AreByOnset notes some → AreByOnset notes other → some ≡ other
one_list notes some other h k =
    one_in_order place_in_text some other h.in_order k.in_order (IsPermutation-trans some notes other (IsPermutation-sym notes some h.same) k.same)

-- a performance has one text
pub one_text : NotesTextsAreOne
one_text p some other (xs, h, a) (ys, k, b) = a ∙ ap (notes_records p) (one_list p.notes xs ys h k) ∙ sym b
