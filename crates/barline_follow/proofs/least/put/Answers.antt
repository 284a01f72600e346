use Rattle.std.proofs.Common.{◌≡◌, ◌≤◌, ◌∷◌, [], true, false, ℕ, List, length, subst, ◌∙◌}
use Rattle.std.specs.List.{AllWithin}
use Rattle.performance_edit.proofs.Places.{is_before, list_with-insert}
use Rattle.barline_follow.proofs.least.put.Goals as goal

pub returns : goal.returns
returns g c =
    let place : g.row.T.Denot → List ℕ = λ x. g.T.Valued.value x ∷ g.T.Valued.tick x ∷ [] in
    let item = c.args.item in
    let n = c.count_before-place.result in
    let found = c.count_before-place.ensures in
    let within = subst (λ (l : List g.row.T.Denot). n ≤ length l) c.as_slice.ensures.value found.within in
    let front = subst (λ (l : List g.row.T.Denot). AllWithin (λ y. is_before place item y ≡ true) l 0 n) c.as_slice.ensures.value found.front in
    let back = subst (λ (l : List g.row.T.Denot). AllWithin (λ y. is_before place item y ≡ false) l n (length l)) c.as_slice.ensures.value found.back in
    c.in_ok-insert.ensures.items ∙ list_with-insert place item c.args.list.now.items n within front back
