use Rattle.std.proofs.Common.{◌≡◌, ◌+◌, [], ◌++◌, ℕ, suc, List, IfOk, take, drop, subst, sym, ap, ◌∙◌, arith}
use Rattle.rhythm_base.specs.declared.note.Note.{Note}
use Rattle.edit_laws.specs.Edits.{is_note, without_note}
use Rattle.performance_edit.proofs.OnlyPlaces.{filter-none, filter-only}
use Rattle.performance_edit.proofs.notes.without_note.Goals as goal

pub returns-in-None : goal.returns-in-None
returns-in-None c =
    subst (λ (l : List Note). IfOk c.shared.result (λ n. n ≡ l)) (sym (filter-none (is_note c.args.channel c.args.key c.args.onset) c.args.notes.now c.in-None.ensures)) c.shared.ensures

pub returns-in-Some : goal.returns-in-Some
returns-in-Some c =
    let notes : List Note = c.args.notes.now in
    let n : ℕ = c.in-Some.place in
    let next : n + 1 ≡ suc n = omega arith in
    let is : take n notes ++ ([] ++ drop (n + 1) notes) ≡ without_note c.args.channel c.args.key c.args.onset notes =
    ap (λ k. take n notes ++ drop k notes) next ∙ sym (filter-only (is_note c.args.channel c.args.key c.args.onset) notes n c.in-Some.ensures) in
    subst (λ (l : List Note). IfOk c.with_other.result (λ n. n ≡ l)) is c.with_other.ensures
