use Rattle.std.proofs.Common.{rules, ◌≡◌, ◌<◌, ◌++◌, ◌∙◌, [], ◌∷◌, length, refl, sym, ap, subst, arith, append_assoc, append-nil}
use Rattle.std.proofs.lemmas.List.{length-append}
use Rattle.least_rows.specs.Choices.{IsSplit, count_some}
use Rattle.least_rows.proofs.Settling.{count-out, split-more, split-start}
use Rattle.least_rows.proofs.settled.settle_several.Goals as goal

pub entries-init : goal.entries-init
entries-init c = ([], sym (append-nil c.args.entries.now.items), refl, split-start c.args.best.now (search rules))

pub entries-smaller : goal.entries-smaller
entries-smaller c =
    let first = c.in-Some.ensures.0 in
    let less = count-out c.entries.best c.in-Some.entry.to first.1 first.2 in
    let same = ap count_some c.in-Some.ensures.2 in
    let low : count_some c.take_first.new.left < count_some c.entries.best = omega (arith, less, same) in
    low

pub entries-preserved : goal.entries-preserved
entries-preserved c =
    let h = c.entries.invariant in
    let e = c.in-Some.entry in
    let split = split-more c.args.best.now c.entries.best h.0 h.3 e c.in-Some.ensures.0 c.in-Some.ensures.1 in
    let long = length-append h.0 (e ∷ []) in
    let count : c.entries.count ≡ length h.0 = h.2 in (
      h.0 ++ e ∷ [],
      c.in_ok-push.ensures.items ∙ ap (λ l. l ++ e ∷ []) h.1 ∙ append_assoc c.args.entries.now.items h.0 (e ∷ []),
      omega (arith, long, count),
      subst (λ l. IsSplit c.args.best.now l (h.0 ++ e ∷ [])) (sym c.in-Some.ensures.2) split,
    )
