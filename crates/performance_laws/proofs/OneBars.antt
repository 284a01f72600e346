-- The bars at loading are one list, or one fault.
use Rattle.std.proofs.Common.{◌≡◌, ℕ, ◌+◌, ◌<◌, ◌≤◌, inl, inr, List, [], ◌∷◌, length, take, subst, refl, sym, ap, ◌∙◌, arith, Some, None, Result, Ok, Err}
use Rattle.std.proofs.lemmas.Bool.{cases_order}
use Rattle.rhythm_base.specs.declared.bar_fault.BarFault.{BarFault}
use Rattle.rhythm_base.specs.declared.event.Signature.{Signature}
use Rattle.rhythm_base.specs.declared.note.Bar.{Bar}
use Rattle.rhythm_base.specs.Bars.{AreEnough, AreTooFew, AreLaid, IsLaying, fault_at, nominal_at}
use Rattle.rhythm_base.specs.Forest.{none}

some_same : (x y : BarFault) → Some x ≡ Some y → x ≡ y
some_same x y h = cc

take_all : (xs : List Bar) → take (length xs) xs ≡ xs
take_all [] = refl
take_all (x ∷ xs) = ap (λ l. x ∷ l) (take_all xs)

module _ (division : ℕ) (signatures : List Signature) where
  abbrev Laid : ℕ → ℕ → List Bar → ℕ → Type 0
  Laid i b bars e = AreLaid division signatures i b bars e

  -- as many bars are the same bars
  laid_alike : (i b : ℕ) (xs ys : List Bar) (e f : ℕ) → Laid i b xs e → Laid i b ys f → length xs ≡ length ys → (xs ≡ ys) × (e ≡ f)
  laid_alike i b [] [] e f x y size = (refl, sym x ∙ y)
  laid_alike i b [] (c ∷ ys) e f x y size = absurd (omega (arith, size))
  laid_alike i b (c ∷ xs) [] e f x y size = absurd (omega (arith, size))
  laid_alike i b (c ∷ xs) (d ∷ ys) e f x y size =
      let rest = laid_alike (i + 1) (b + nominal_at division signatures b) xs ys e f x.2 y.2 (omega (arith, size)) in
      let head : c ≡ d = x.1 ∙ sym y.1 in
      ((λ k. head k ∷ rest.0 k), rest.1)

  -- fewer bars are the first ones, and the next one has no fault
  laid_first : (i b : ℕ) (xs ys : List Bar) (e f : ℕ) → Laid i b xs e → Laid i b ys f → length xs < length ys
      → (take (length xs) ys ≡ xs) × (fault_at division signatures (i + length xs) e ≡ None)
  laid_first i b [] [] e f x y less = absurd (omega (arith, less))
  laid_first i b [] (c ∷ ys) e f x y less =
      let here : i ≡ i + 0 = omega arith in
      (refl, subst (λ t. fault_at division signatures (i + 0) t ≡ None) x (subst (λ n. fault_at division signatures n b ≡ None) here y.0))
  laid_first i b (c ∷ xs) [] e f x y less = absurd (omega (arith, less))
  laid_first i b (c ∷ xs) (d ∷ ys) e f x y less =
      let rest = laid_first (i + 1) (b + nominal_at division signatures b) xs ys e f x.2 y.2 (omega (arith, less)) in
      let head : d ≡ c = y.1 ∙ sym x.1 in
      let number : i + 1 + length xs ≡ i + length (c ∷ xs) = omega arith in
      ((λ k. head k ∷ rest.0 k), subst (λ n. fault_at division signatures n e ≡ None) number rest.1)

  module _ (onset end : ℕ) where
    abbrev Few : List Bar → ℕ → Type 0
    Few bars k = AreTooFew division signatures onset end bars k

    -- bars that are enough are no first ones of bars that were still too few there
    not_few : (xs ys : List Bar) (e : ℕ) → take (length xs) ys ≡ xs → Laid 0 0 xs e → AreEnough onset end xs e → Few ys (length xs) → ⊥
    not_few xs ys e same laid enough few =
        few e (subst (λ l. Laid 0 0 l e) (sym same) laid) (subst (λ l. AreEnough onset end l e) (sym same) enough)

    -- a bar that is laid has no fault
    no_fault : (xs ys : List Bar) (b f : ℕ) (fault : BarFault) → Laid 0 0 xs b → Laid 0 0 ys f → length xs < length ys
        → fault_at division signatures (length xs) b ≡ Some fault → ⊥
    no_fault xs ys b f fault x y less is =
        let none = (laid_first 0 0 xs ys b f x y less).1 in
        let here : 0 + length xs ≡ length xs = omega arith in
        let no : fault_at division signatures (length xs) b ≡ None = subst (λ n. fault_at division signatures n b ≡ None) here none in
        absurd (cc)

    abbrev Laying : Result (List Bar × ℕ) BarFault → Type 0
    Laying r = IsLaying division signatures onset end r

    two_layings : (xs ys : List Bar) (e f : ℕ) → Laying (Ok (xs, e)) → Laying (Ok (ys, f)) → length xs ≡ length ys
    two_layings xs ys e f x y =
        elim (cases_order (length xs) (length ys)) [
          | inl same ↦ same
          | inr other ↦ elim other [
            | inl less ↦ absurd (not_few xs ys e (laid_first 0 0 xs ys e f x.0 y.0 less).0 x.0 x.1 (y.2 (length xs) less))
            | inr less ↦ absurd (not_few ys xs f (laid_first 0 0 ys xs f e y.0 x.0 less).0 y.0 y.1 (x.2 (length ys) less))
          ]
        ]

    -- there are enough bars before a fault, or there are not
    not_both : (xs ys : List Bar) (e b : ℕ) (fault : BarFault) → Laying (Ok (xs, e)) → Laid 0 0 ys b
        → ((k : ℕ) → k ≤ length ys → Few ys k) → fault_at division signatures (length ys) b ≡ Some fault → ⊥
    not_both xs ys e b fault x laid few is =
        elim (cases_order (length xs) (length ys)) [
          | inl same ↦
              let alike = laid_alike 0 0 xs ys e b x.0 laid same in
              let whole : take (length xs) ys ≡ xs = ap (λ n. take n ys) same ∙ take_all ys ∙ sym alike.0 in
              not_few xs ys e whole x.0 x.1 (few (length xs) (omega (arith, same)))
          | inr other ↦ elim other [
            | inl less ↦ not_few xs ys e (laid_first 0 0 xs ys e b x.0 laid less).0 x.0 x.1 (few (length xs) (omega (arith, less)))
            | inr less ↦ no_fault ys xs b e fault laid x.0 less is
          ]
        ]

    one_fault : (xs ys : List Bar) (b c : ℕ) (fault fault' : BarFault) → Laid 0 0 xs b → Laid 0 0 ys c
        → fault_at division signatures (length xs) b ≡ Some fault → fault_at division signatures (length ys) c ≡ Some fault' → fault ≡ fault'
    one_fault xs ys b c fault fault' x y is is' =
        elim (cases_order (length xs) (length ys)) [
          | inl same ↦
              let alike = laid_alike 0 0 xs ys b c x y same in
              let one : fault_at division signatures (length xs) b ≡ fault_at division signatures (length ys) c = λ i. fault_at division signatures (same i) (alike.1 i) in
              some_same fault fault' (sym is ∙ one ∙ is')
          | inr other ↦ elim other [
            | inl less ↦ absurd (no_fault xs ys b c fault x y less is)
            | inr less ↦ absurd (no_fault ys xs c b fault' y x less is')
          ]
        ]

    -- the bars at loading are one list, or one fault
    pub one_laying : (r s : Result (List Bar × ℕ) BarFault) → Laying r → Laying s → r ≡ s
    one_laying (Ok (xs, e)) (Ok (ys, f)) x y =
        let alike = laid_alike 0 0 xs ys e f x.0 y.0 (two_layings xs ys e f x y) in
        λ i. Ok (alike.0 i, alike.1 i)
    one_laying (Ok (xs, e)) (Err fault) x y = absurd (not_both xs y.0 e y.1 fault x y.2 y.3 y.4)
    one_laying (Err fault) (Ok (ys, f)) x y = absurd (not_both ys x.0 f x.1 fault y x.2 x.3 x.4)
    one_laying (Err fault) (Err fault') x y = ap Err (one_fault x.0 y.0 x.1 y.1 fault fault' x.2 y.2 x.4 y.4)
