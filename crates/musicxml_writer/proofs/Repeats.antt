-- One more of what is repeated.
use Rattle.std.proofs.Common.{◌≡◌, ℕ, zero, suc, ◌+◌, List, ◌++◌, append_assoc, sym, ap, ◌∙◌, add-one}
use Rattle.std.specs.List.{repeat}
use Rattle.std.proofs.lemmas.List.{append-nil}

repeat_turned : (n : ℕ) (xs : List ℕ) → repeat n xs ++ xs ≡ xs ++ repeat n xs
repeat_turned zero xs = sym (append-nil xs)
repeat_turned (suc n) xs = append_assoc xs (repeat n xs) xs ∙ ap (λ t. xs ++ t) (repeat_turned n xs)

pub repeat_next : (n : ℕ) (xs text one new : List ℕ) → one ≡ text ++ repeat n xs → new ≡ one ++ xs → new ≡ text ++ repeat (n + 1) xs
repeat_next n xs text one new is next =
    next ∙ ap (λ t. t ++ xs) is ∙ append_assoc text (repeat n xs) xs ∙ ap (λ t. text ++ t) (repeat_turned n xs)
    ∙ ap (λ m. text ++ repeat m xs) (sym (add-one n))
