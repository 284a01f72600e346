-- A text is that of a shape, or of none: the shapes of trees are those of a list.
use Rattle.std.proofs.Common.{◌≡◌, ℕ, zero, suc, ◌≤◌, inl, inr, true, List, [], ◌∷◌, arith}
use Rattle.std.specs.Prelude.{Contains}
use Rattle.std.proofs.lemmas.Bool.{and_parts, cases_eq}
use Rattle.std.proofs.lemmas.Bool.Decides.{nat_tests}
use Rattle.rhythm_base.specs.Shape.{Shape, end, part}
use Rattle.rhythm_base.specs.Shapes.{are_cut, can_have, depth, is_shape, parts_in}
use Rattle.rhythm_base.specs.ShapeText.{IsShapeText, shape_text}
use Rattle.rhythm_base.proofs.RuleTrees.{few-parts}
use Rattle.answer_laws.proofs.Decisions.{Decided, decided_both, decided_like, decided_lists, decided_true}
use Rattle.answer_laws.proofs.FiniteSets.{IsWithinList, all_of, member_first, member_later, member_products, products, some_or_none}

-- so many parts at most, with so many levels in them, each cut into 2 to 16
abbrev AreParts : ℕ → ℕ → Shape → Type 0
AreParts levels count x = (are_cut x ≡ true) × ((depth x ≤ levels) × (parts_in x ≤ count))

abbrev AllParts : ℕ → ℕ → Type 0
AllParts levels count = IsWithinList {X = Shape} (AreParts levels count)

leaf_alone : (levels : ℕ) → AllParts levels 0
leaf_alone levels = (end ∷ [], one)
  where
    one : (x : Shape) → AreParts levels 0 x → Contains (end ∷ []) x
    one end is = member_first end []
    one (part x rest) is = absurd (omega (arith, is.1.1))

no_levels : (count : ℕ) → AllParts 0 count
no_levels count = (end ∷ [], one)
  where
    one : (x : Shape) → AreParts 0 count x → Contains (end ∷ []) x
    one end is = member_first end []
    one (part x rest) is = absurd (omega (arith, is.1.0))

one_part_more : (levels count : ℕ) → AllParts levels 16 → AllParts (suc levels) count → AllParts (suc levels) (suc count)
one_part_more levels count first others = (end ∷ products part first.0 others.0, each)
  where
    each : (x : Shape) → AreParts (suc levels) (suc count) x → Contains (end ∷ products part first.0 others.0) x
    each end is = member_first end (products part first.0 others.0)
    each (part x rest) is =
        let own = and_parts (can_have (parts_in x)) _ is.0 in
        let cut = and_parts (are_cut x) _ own.1 in
        let low : depth x ≤ levels = omega (arith, is.1.0) in
        let rest_low : depth rest ≤ suc levels = omega (arith, is.1.0) in
        let rest_few : parts_in rest ≤ count = omega (arith, is.1.1) in
        member_later (part x rest) end (products part first.0 others.0)
        (member_products part first.0 others.0 x rest (first.1 x (cut.0, (low, few-parts (parts_in x) own.0))) (others.1 rest (cut.1, (rest_low, rest_few))))

parts_of : (levels : ℕ) → AllParts levels 16 → (count : ℕ) → AllParts (suc levels) count
parts_of levels own zero = leaf_alone (suc levels)
parts_of levels own (suc count) = one_part_more levels count own (parts_of levels own count)

all_parts : (levels : ℕ) → AllParts levels 16
all_parts zero = no_levels 16
all_parts (suc levels) = parts_of levels (all_parts levels) 16

all_shapes : IsWithinList {X = Shape} (λ x. is_shape x ≡ true)
all_shapes =
    let all = all_parts 95 in (
      all.0,
      λ x is.
          let own = and_parts (can_have (parts_in x)) _ is in
          let cut = and_parts (are_cut x) _ own.1 in
          let low : depth x ≤ 95 = grind (arith, nat_tests, cut.1) in
          all.1 x (cut.0, (low, few-parts (parts_in x) own.0)),
    )

pub decided_shape : (text : List ℕ) → Decided ((x : Shape) × IsShapeText text x)
decided_shape text = elim (some_or_none (IsShapeText text) (all_of (IsShapeText text) (all_shapes.0, λ x is. all_shapes.1 x is.shape)
    (λ x _. decided_like (λ both. record { shape = both.0; is = both.1 }) (λ is. (is.shape, is.is))
    (decided_both (decided_true (is_shape x)) (decided_lists cases_eq text (shape_text x)))))) [
      | inl some ↦ inl some
      | inr none ↦ inr (λ some. none some.0 some.1)
    ]
