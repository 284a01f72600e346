use Rattle.std.proofs.Common.{rules, ◌≡◌, ◌++◌, [], ◌∷◌, length, ap, sym, subst, ◌∙◌}
use Rattle.std.specs.Prelude.{None, slice_get}
use Rattle.bar_pool.specs.Sources.{IsSource, searched_from}
use Rattle.bar_pool.proofs.SourceLists.{each_push, searched_one, searched_same}
use Rattle.bar_pool.proofs.sources.Sources.of.Goals.{then-is_none+in_ok-push, else-is_none}
use Rattle.bar_pool.proofs.sources.Sources.of.Goals as goal

pub inputs-preserved : goal.inputs-preserved
inputs-preserved c =
    let inputs = c.args.inputs.now in
    let equals = c.inputs.equals.items in
    let equal = c.in_ok-equal.equal in
    let long = c.inputs.invariant.long in
    let pushed : c.push-in-inputs.new.self.items ≡ equals ++ equal ∷ [] = c.in_ok-push-2.ensures.items in
    let own : IsSource inputs (length equals) equal = subst (λ n. IsSource inputs n equal) (sym long) c.in_ok-equal.ensures.source in
    let searched : c.if-is_none.searched.items ≡ searched_from 0 (equals ++ equal ∷ []) = elim c.if-is_none.branch [
      | then-is_none+in_ok-push w ↦
          let none : equal ≡ None = search rules in
          let more : c.if-is_none.searched.items ≡ c.inputs.searched.items ++ c.inputs.number ∷ [] = search rules in
          searched_one c.inputs.number equals c.inputs.searched.items c.if-is_none.searched.items long c.inputs.invariant.searched equal none more
      | else-is_none w ↦
          let some : equal ≡ None → ⊥ = search rules in
          let same : c.if-is_none.searched.items ≡ c.inputs.searched.items = search rules in
          searched_same c.inputs.number equals c.inputs.searched.items c.if-is_none.searched.items long c.inputs.invariant.searched equal some same
    ] in
    record {
      known = c.in_ok-equal.ensures.known;
      long = search rules;
      sources = λ number source at. each_push (IsSource inputs) equals equal c.inputs.invariant.sources own number source (ap (λ l. slice_get l number) (sym pushed) ∙ at);
      searched = searched ∙ ap (searched_from 0) (sym pushed);
    }
