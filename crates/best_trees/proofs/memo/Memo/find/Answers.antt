use Rattle.std.proofs.Common.{rules, ◌≡◌, ◌∙◌, ◌<◌, ℕ, List, length, nat_eq, nat_lt, get_or, true, ap, refl, sym, subst, arith}
use Rattle.std.specs.HashMap.{get}
use Rattle.std.specs.Prelude.{Some, slice_get}
use Rattle.std.proofs.lemmas.Bool.Decides.{nat_tests}
use Rattle.std.proofs.lemmas.Option.{slice_get_read}
use Rattle.best_trees.specs.Memos.{family_code}
use Rattle.best_trees.specs.declared.memo.Found.{Found}
use Rattle.best_trees.proofs.memo.Memo.find.Goals as goal

-- what was read of a list that another list is
read-there : (xs ys : List Found) (n : ℕ) (x : Found) → ys ≡ xs → true ≡ nat_lt n (length ys) → x ≡ get_or ys n x → slice_get xs n ≡ Some x
read-there xs ys n x same low is =
    let within : n < length xs = let test = low in let long : length ys ≡ length xs = ap length same in grind (arith, nat_tests) in
    slice_get_read xs (length xs) n x refl within (is ∙ ap (λ l. get_or l n x) same)

pub returns-then-eq : goal.returns-then-eq
returns-then-eq c =
    let xs = c.args.self.now.found.items in
    let x = c.in-Some-get.found.now in
    let number = ap (get nat_eq c.args.self.now.numbers) (sym c.code_of.ensures) ∙ sym c.in-Some.ensures.value in
    let look = c.in-Some-get.ensures.lookup in
    let at = read-there xs c.deref.result.now c.in-Some.number.now x c.deref.ensures.value look.0 look.1 in
    let own : x.family ≡ c.args.family = search rules in
    record { number = number; found = (x, at, own) }

pub returns-else-eq : goal.returns-else-eq
returns-else-eq c = λ n known.
    let xs = c.args.self.now.found.items in
    let x = c.in-Some-get.found.now in
    let number : get nat_eq c.args.self.now.numbers (family_code c.args.family) ≡ Some c.in-Some.number.now = ap (get nat_eq c.args.self.now.numbers) (sym c.code_of.ensures) ∙ sym c.in-Some.ensures.value in
    let look = c.in-Some-get.ensures.lookup in
    let at = read-there xs c.deref.result.now c.in-Some.number.now x c.deref.ensures.value look.0 look.1 in
    let apart : x.family ≡ c.args.family → ⊥ = search rules in
    let y : Found = known.found.0 in
    let there = known.found.1 in
    let counted = known.number in
    let same : n ≡ c.in-Some.number.now = (cc) in
    let here : slice_get xs c.in-Some.number.now ≡ Some y = subst (λ m. slice_get xs m ≡ Some y) same there in
    let one : x ≡ y = (cc) in
    apart (ap (λ (z : Found). z.family) one ∙ known.found.2)
