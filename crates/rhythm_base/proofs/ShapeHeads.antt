-- How the text of a shape begins: with a leaf, or with the number of parts and a bracket.
use Rattle.std.proofs.Common.{◌≡◌, ℕ, ◌+◌, ◌-◌, ◌/◌, ◌%◌, ◌≤◌, ◌⊎◌, inl, inr, Bool, true, false, ◌==◌, if◌then◌else◌, nat_le, List, [], ◌∷◌, ◌++◌, get_or, codes, decimal, refl, sym, ap, ◌∙◌, arith, append_assoc}
use Rattle.std.proofs.lemmas.Bool.Decides.{nat_tests}
use Rattle.std.proofs.lemmas.Fmt.{decimal_digit, decimal_step}
use Rattle.std.proofs.lemmas.List.{append_cancel_left}
use Rattle.rhythm_base.specs.ShapeText.{around_parts}
use Rattle.rhythm_base.specs.ShapeReading.{head_text, tail_text}
use Rattle.rhythm_base.specs.Shapes.{can_have}

pub around_is : (n : ℕ) (texts : List ℕ) → around_parts n texts ≡ head_text n ++ tail_text n texts
around_is n texts = go (n == 0)
  where
    go : (b : Bool) → (if b then codes "." else decimal n ++ (codes "(" ++ (texts ++ codes ")")))
        ≡ (if b then codes "." else decimal n ++ codes "(") ++ (if b then [] else texts ++ codes ")")
    go true = refl
    go false = sym (append_assoc (decimal n) (codes "(") (texts ++ codes ")"))

-- a leaf, a number of one digit, or a number of two digits
abbrev pub HeadIs : ℕ → List ℕ → Type 0
HeadIs n t = ((n ≡ 0) × (t ≡ 46 ∷ []))
    ⊎ (((2 ≤ n) × (n ≤ 9) × (t ≡ (48 + n) ∷ 40 ∷ []))
    ⊎ ((10 ≤ n) × (n ≤ 16) × (t ≡ 49 ∷ (38 + n) ∷ 40 ∷ [])))

pub head_is : (n : ℕ) → can_have n ≡ true → HeadIs n (head_text n)
head_is n can = go (n == 0) refl (nat_le n 9) refl
  where
    bracket : (ds : List ℕ) → decimal n ≡ ds → decimal n ++ codes "(" ≡ ds ++ 40 ∷ []
    bracket ds e = ap (λ l. l ++ codes "(") e

    text : (b : Bool) (t : List ℕ) → (n == 0) ≡ b → (if b then codes "." else decimal n ++ codes "(") ≡ t → head_text n ≡ t
    text b t e is = ap (λ c. if c then codes "." else decimal n ++ codes "(") e ∙ is

    go : (b : Bool) → (n == 0) ≡ b → (c : Bool) → nat_le n 9 ≡ c → HeadIs n (head_text n)
    go true e c f = inl (grind (arith, nat_tests, e), text true (46 ∷ []) e refl)
    go false e true f =
        let low : 2 ≤ n = grind (arith, nat_tests, e, can) in
        let high : n ≤ 9 = grind (arith, nat_tests, f) in
        inr (inl (low, high, text false ((48 + n) ∷ 40 ∷ []) e (bracket ((48 + n) ∷ []) (decimal_digit n (omega arith)))))
    go false e false f =
        let low : 10 ≤ n = grind (arith, nat_tests, f) in
        let high : n ≤ 16 = grind (arith, nat_tests, e, can) in
        let first : n / 10 ≡ 1 = omega arith in
        let last : 48 + n % 10 ≡ 38 + n = omega arith in
        let digits : decimal n ≡ 49 ∷ (38 + n) ∷ [] =
        decimal_step n low (omega arith) ∙ (λ i. decimal (first i) ++ last i ∷ []) ∙ ap (λ l. l ++ (38 + n) ∷ []) (decimal_digit 1 (omega arith)) in
        inr (inr (low, high, text false (49 ∷ (38 + n) ∷ 40 ∷ []) e (bracket (49 ∷ (38 + n) ∷ []) digits)))

-- the number that a text begins with
value_of : List ℕ → ℕ
value_of t = if get_or t 0 0 == 46 then 0 else if get_or t 0 0 == 49 then get_or t 1 0 - 38 else get_or t 0 0 - 48

value_is : (n : ℕ) (t a : List ℕ) → HeadIs n t → value_of (t ++ a) ≡ n
unfolding value_of
value_is n t a (inl (none, is)) = ap (λ l. value_of (l ++ a)) is ∙ sym none
value_is n t a (inr (inl (low, high, is))) = ap (λ l. value_of (l ++ a)) is ∙ grind (arith, nat_tests, low, high)
value_is n t a (inr (inr (low, high, is))) = ap (λ l. value_of (l ++ a)) is ∙ grind (arith, nat_tests, low, high)

-- texts that begin alike have one head
pub same_head : (m n : ℕ) (a b : List ℕ) → can_have m ≡ true → can_have n ≡ true → head_text m ++ a ≡ head_text n ++ b → (m ≡ n) × (a ≡ b)
same_head m n a b p q e =
    let same : m ≡ n = sym (value_is m (head_text m) a (head_is m p)) ∙ ap value_of e ∙ value_is n (head_text n) b (head_is n q) in
    (same, append_cancel_left (head_text m) a b (e ∙ ap (λ k. head_text k ++ b) (sym same)))
