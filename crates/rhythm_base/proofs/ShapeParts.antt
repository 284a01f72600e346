-- Where reading the parts of a shape stops.
use Rattle.std.proofs.Common.{◌≡◌, ℕ, zero, suc, ◌+◌, ◌-◌, ◌≤◌, true, false, ◌&&◌, ◌==◌, if◌then◌else◌, List, [], ◌∷◌, ◌++◌, codes, length, refl, sym, ap, ◌∙◌, subst, arith, append_assoc, append-nil}
use Rattle.std.proofs.lemmas.Bool.{and_parts}
use Rattle.std.proofs.lemmas.Bool.Decides.{nat_tests}
use Rattle.rhythm_base.specs.Shape.{Shape, end, part, shape_of_parts}
use Rattle.rhythm_base.proofs.ShapeTexts.{parts_in-shape_of_parts}
use Rattle.rhythm_base.specs.ShapeReading.{AreParts, ByteText, HeadText, IsPart, PartText, PartsText, StopsWith, head_text, tail_text}
use Rattle.rhythm_base.specs.ShapeText.{after_part, shape_text, texts_of_parts}
use Rattle.rhythm_base.specs.Shapes.{are_cut, can_have, depth, parts_in}
use Rattle.rhythm_base.proofs.OneShape.{same_parts, same_shape}
use Rattle.rhythm_base.proofs.ShapeHeads.{around_is, same_head}
use Rattle.rhythm_base.proofs.ShapeStops.{rest_same, stops_after, stops_first}

-- so many leaves
leaves : ℕ → Shape
leaves zero = end
leaves (suc n) = part end (leaves n)

leaves_many : (n : ℕ) → parts_in (leaves n) ≡ n
unfolding leaves
leaves_many zero = refl
leaves_many (suc n) = let rest = leaves_many n in omega (arith, rest)

leaves_cut : (n : ℕ) → are_cut (leaves n) ≡ true
unfolding leaves
leaves_cut zero = refl
leaves_cut (suc n) = leaves_cut n

positive : (levels n : ℕ) → (levels ≡ 0 → suc n ≡ 0) → 1 ≤ levels
positive zero n low = let none = low refl in omega (arith, none)
positive (suc levels) n low = omega arith

leaves_deep : (n levels : ℕ) → (levels ≡ 0 → n ≡ 0) → depth (leaves n) ≤ levels
unfolding leaves
leaves_deep zero levels low = omega arith
leaves_deep (suc zero) levels low = positive levels 0 low
leaves_deep (suc (suc n)) levels low =
    let rest = leaves_deep (suc n) levels (λ none. absurd (omega (arith, low none))) in
    omega (arith, rest, positive levels (suc n) low)

no_levels : (x : Shape) → depth x ≤ 0 → parts_in x ≡ 0
no_levels end h = refl
no_levels (part x rest) h = absurd (omega (arith, h))

-- a shape's text is its head and what stands after it
shape_is : (x : Shape) → shape_text x ≡ head_text (parts_in x) ++ tail_text (parts_in x) (texts_of_parts x)
unfolding shape_text
shape_is x = around_is (parts_in x) (texts_of_parts x)

-- in the head
pub stops_in_head : (levels : ℕ) (text : List ℕ) (left : ℕ) → StopsWith (HeadText levels) text left → StopsWith (PartText levels) text left
stops_in_head levels text left stop = stops_first {B = PartText levels} text left stop
    (λ a w.
    let x : Shape = leaves w.0 in
    let is : IsPart levels x = record { can = subst (λ n. can_have n ≡ true) (sym (leaves_many w.0)) w.1.can; cut = leaves_cut w.0; low = leaves_deep w.0 levels w.1.low } in
    let whole : PartText levels (a ++ tail_text w.0 (texts_of_parts x)) = (
      x,
      is,
      ap (λ l. l ++ tail_text w.0 (texts_of_parts x)) w.2
          ∙ ap (λ n. head_text n ++ tail_text n (texts_of_parts x)) (sym (leaves_many w.0)) ∙ sym (shape_is x),
    ) in
    (tail_text w.0 (texts_of_parts x), whole))
    (λ whole w. (
      head_text (parts_in w.0),
      tail_text (parts_in w.0) (texts_of_parts w.0),
      (parts_in w.0, record { can = w.1.can; low = λ none. no_levels w.0 (subst (λ n. depth w.0 ≤ n) none w.1.low) }, refl),
      w.2 ∙ shape_is w.0,
    ))

-- parts and the bracket after them
Closed : ℕ → ℕ → List ℕ → Type 0
Closed levels n text = (x : Shape) × AreParts levels n x × (text ≡ texts_of_parts x ++ codes ")")

past_tail : (n : ℕ) (s : List ℕ) → (n == 0) ≡ false → tail_text n s ≡ s ++ codes ")"
past_tail n s some = ap (λ b. if b then [] else s ++ codes ")") some

-- after the head of a cut
stops_closed : (levels n : ℕ) (rest text : List ℕ) (left : ℕ) → can_have n ≡ true → (n == 0) ≡ false → text ≡ head_text n ++ rest
    → StopsWith (Closed levels n) rest left → StopsWith (PartText levels) text left
unfolding Closed
stops_closed levels n rest text left can some is stop =
    stops_after (head_text n) rest text left is stop
    (λ b w. (
      w.0,
      record { can = subst (λ k. can_have k ≡ true) (sym w.1.many) can; cut = w.1.cut; low = w.1.low },
      ap (λ l. head_text n ++ l) (w.2 ∙ sym (past_tail n (texts_of_parts w.0) some))
          ∙ ap (λ k. head_text k ++ tail_text k (texts_of_parts w.0)) (sym w.1.many) ∙ sym (shape_is w.0),
    ))
    (λ other whole more_text w same.
    let head = same_head n (parts_in w.0) other (tail_text (parts_in w.0) (texts_of_parts w.0) ++ more_text) can w.1.can
    (same ∙ ap (λ l. l ++ more_text) (w.2 ∙ shape_is w.0) ∙ append_assoc (head_text (parts_in w.0)) (tail_text (parts_in w.0) (texts_of_parts w.0)) more_text) in (
      texts_of_parts w.0 ++ codes ")",
      (w.0, record { many = sym head.0; cut = w.1.cut; low = w.1.low }, refl),
      head.1 ∙ ap (λ l. l ++ more_text) (past_tail (parts_in w.0) (texts_of_parts w.0) (ap (λ k. k == 0) (sym head.0) ∙ some)),
    ))

-- in the parts of a cut
pub stops_in_parts : (levels n : ℕ) (rest text : List ℕ) (left : ℕ) → can_have n ≡ true → (n == 0) ≡ false → text ≡ head_text n ++ rest
    → StopsWith (PartsText levels n) rest left → StopsWith (PartText levels) text left
unfolding Closed
stops_in_parts levels n rest text left can some is stop =
    stops_closed levels n rest text left can some is (stops_first {B = Closed levels n} rest left stop
    (λ a w. (codes ")", (w.0, w.1, ap (λ l. l ++ codes ")") w.2)))
    (λ whole w. (texts_of_parts w.0, codes ")", (w.0, w.1, refl), w.2)))

-- before the bracket after them
pub stops_at_bracket : (levels n : ℕ) (x : Shape) (last rest text : List ℕ) (left : ℕ) → can_have n ≡ true → (n == 0) ≡ false → text ≡ head_text n ++ rest
    → AreParts levels n x → rest ≡ texts_of_parts x ++ last → StopsWith (ByteText 41) last left → StopsWith (PartText levels) text left
unfolding Closed
stops_at_bracket levels n x last rest text left can some is are parts stop =
    stops_closed levels n rest text left can some is (stops_after (texts_of_parts x) last rest left parts stop
    (λ b e. (x, are, ap (λ l. texts_of_parts x ++ l) e))
    (λ other whole more_text w same.
    let one = same_parts x w.0 other (codes ")" ++ more_text) (are.many ∙ sym w.1.many) are.cut w.1.cut
    (same ∙ ap (λ l. l ++ more_text) w.2 ∙ append_assoc (texts_of_parts w.0) (codes ")") more_text) in
    (codes ")", refl, one.1)))

-- the shape of a cut that was read
pub cut_is : (levels n : ℕ) (x : Shape) (last rest text : List ℕ) → can_have n ≡ true → (n == 0) ≡ false → text ≡ head_text n ++ rest
    → AreParts levels n x → rest ≡ texts_of_parts x ++ (41 ∷ last) → IsPart levels x × (text ≡ shape_text x ++ last)
cut_is levels n x last rest text can some is are parts =
    let T : List ℕ = texts_of_parts x in
    let whole : shape_text x ≡ head_text n ++ (T ++ codes ")") =
    shape_is x ∙ ap (λ k. head_text k ++ tail_text k T) are.many ∙ ap (λ l. head_text n ++ l) (past_tail n T some) in (
      record { can = subst (λ k. can_have k ≡ true) (sym are.many) can; cut = are.cut; low = are.low },
      is ∙ ap (λ l. head_text n ++ l) (parts ∙ sym (append_assoc T (codes ")") last)) ∙ sym (append_assoc (head_text n) (T ++ codes ")") last)
          ∙ ap (λ l. l ++ last) (sym whole),
    )

pub leaf_is : (levels : ℕ) → IsPart levels end
leaf_is levels = record { can = refl; cut = refl; low = omega arith }

pub leaf_text_is : shape_text end ≡ codes "."
unfolding shape_text
leaf_text_is = refl

-- ---- parts

-- one part and others
pub one_more : (levels n : ℕ) (x rest : Shape) → 1 ≤ levels → IsPart (levels - 1) x → AreParts levels n rest → AreParts levels (n + 1) (part x rest)
one_more levels n x rest deep is are = record {
  many = ap (λ k. k + 1) are.many;
  cut = λ i. is.can i && (is.cut i && are.cut i);
  low = omega (arith, is.low, are.low);
}

texts_are : (x rest : Shape) → texts_of_parts (part x rest) ≡ shape_text x ++ after_part (parts_in rest) (texts_of_parts rest)
unfolding shape_text
texts_are x rest = refl

-- in the first
pub stops_in_part : (levels n : ℕ) (text : List ℕ) (left : ℕ) → 1 ≤ levels → 1 ≤ n → StopsWith (PartText (levels - 1)) text left → StopsWith (PartsText levels n) text left
stops_in_part levels n text left deep some stop = stops_first {B = PartsText levels n} text left stop
    (λ a w.
    let rest : Shape = leaves (n - 1) in
    let text : List ℕ = after_part (parts_in rest) (texts_of_parts rest) in
    let are : AreParts levels (n - 1) rest =
    record { many = leaves_many (n - 1); cut = leaves_cut (n - 1); low = leaves_deep (n - 1) levels (λ none. absurd (omega (arith, none))) } in
    let whole : PartsText levels n (a ++ text) = (
      part w.0 rest,
      subst (λ k. AreParts levels k (part w.0 rest)) (omega arith) (one_more levels (n - 1) w.0 rest deep w.1 are),
      ap (λ l. l ++ text) w.2 ∙ sym (texts_are w.0 rest),
    ) in
    (text, whole))
    (λ whole w. first w.0 w.1 w.2)
  where
    first_of : {x rest : Shape} → AreParts levels n (part x rest) → IsPart (levels - 1) x
    first_of {x} {rest} are =
        let p = and_parts (can_have (parts_in x)) _ are.cut in
        record { can = p.0; cut = (and_parts (are_cut x) _ p.1).0; low = omega (arith, are.low) }

    first : {whole : List ℕ} (x : Shape) → AreParts levels n x → whole ≡ texts_of_parts x → (a b : List ℕ) × PartText (levels - 1) a × (whole ≡ a ++ b)
    first end are is = absurd (omega (arith, are.many))
    first (part x rest) are is = (shape_text x, after_part (parts_in rest) (texts_of_parts rest), (x, first_of are, refl), is ∙ texts_are x rest)

-- the others, after a space
More : ℕ → ℕ → List ℕ → Type 0
More levels n text = (x : Shape) × AreParts levels n x × (text ≡ codes " " ++ texts_of_parts x)

stops_in_more : (levels n : ℕ) (x : Shape) (rest text : List ℕ) (left : ℕ) → 1 ≤ levels → 1 ≤ n → IsPart (levels - 1) x → text ≡ shape_text x ++ rest
    → StopsWith (More levels n) rest left → StopsWith (PartsText levels (n + 1)) text left
unfolding More
stops_in_more levels n x rest text left deep some is_part is stop =
    stops_after (shape_text x) rest text left is stop
    (λ b w. (
      part x w.0,
      one_more levels n x w.0 deep is_part w.1,
      ap (λ l. shape_text x ++ l) (w.2 ∙ sym (after_is w.0 (sym w.1.many)))
          ∙ sym (texts_are x w.0),
    ))
    (λ other whole more_text w same. split other more_text w.0 w.1 (same ∙ ap (λ l. l ++ more_text) w.2))
  where
    after_is : (y : Shape) → n ≡ parts_in y → after_part (parts_in y) (texts_of_parts y) ≡ codes " " ++ texts_of_parts y
    after_is y many = let not : (parts_in y == 0) ≡ false = grind (arith, nat_tests, many, some) in ap (λ b. if b then [] else codes " " ++ texts_of_parts y) not

    split : (other more_text : List ℕ) (y : Shape) → AreParts levels (n + 1) y → shape_text x ++ other ≡ texts_of_parts y ++ more_text
        → (b : List ℕ) × More levels n b × (other ≡ b ++ more_text)
    split other more_text end are e = absurd (omega (arith, are.many))
    split other more_text (part y more) are e =
        let p = and_parts (can_have (parts_in y)) _ are.cut in
        let q = and_parts (are_cut y) _ p.1 in
        let many : n ≡ parts_in more = omega (arith, are.many) in
        let one = same_shape x y other (after_part (parts_in more) (texts_of_parts more) ++ more_text) is_part.can p.0 is_part.cut q.0
        (e ∙ ap (λ l. l ++ more_text) (texts_are y more) ∙ append_assoc (shape_text y) (after_part (parts_in more) (texts_of_parts more)) more_text) in (
          codes " " ++ texts_of_parts more,
          (more, record { many = sym many; cut = q.1; low = omega (arith, are.low) }, refl),
          one.1 ∙ ap (λ l. l ++ more_text) (after_is more many),
        )

pub stops_at_space : (levels n : ℕ) (x : Shape) (rest text : List ℕ) (left : ℕ) → 1 ≤ levels → 1 ≤ n → IsPart (levels - 1) x → text ≡ shape_text x ++ rest
    → StopsWith (ByteText 32) rest left → StopsWith (PartsText levels (n + 1)) text left
unfolding More
stops_at_space levels n x rest text left deep some is_part is stop =
    stops_in_more levels n x rest text left deep some is_part is (stops_first {B = More levels n} rest left stop
    (λ a e.
    let are : AreParts levels n (leaves n) =
    record { many = leaves_many n; cut = leaves_cut n; low = leaves_deep n levels (λ none. absurd (omega (arith, none))) } in
    let whole : More levels n (a ++ texts_of_parts (leaves n)) = (leaves n, are, ap (λ l. l ++ texts_of_parts (leaves n)) e) in
    (texts_of_parts (leaves n), whole))
    (λ whole w. (codes " ", texts_of_parts w.0, refl, w.2)))

pub stops_in_others : (levels n : ℕ) (x : Shape) (last rest text : List ℕ) (left : ℕ) → 1 ≤ levels → 1 ≤ n → IsPart (levels - 1) x → text ≡ shape_text x ++ rest
    → rest ≡ 32 ∷ last → StopsWith (PartsText levels n) last left → StopsWith (PartsText levels (n + 1)) text left
unfolding More
stops_in_others levels n x last rest text left deep some is_part is space stop =
    stops_in_more levels n x rest text left deep some is_part is (stops_after (32 ∷ []) last rest left space stop
    (λ b w. (w.0, w.1, ap (λ l. 32 ∷ l) w.2))
    (λ other whole more_text w same. (texts_of_parts w.0, (w.0, w.1, refl), rest_same (same ∙ ap (λ l. l ++ more_text) w.2))))

pub not_none : (n : ℕ) → (n ≡ 0 → ⊥) → (n == 0) ≡ false
not_none n some = grind (arith, nat_tests, some)

-- how many parts were read
pub size_of_parts : {levels n : ℕ} (before read after : List Shape) → before ≡ [] → after ≡ before ++ read → AreParts levels n (shape_of_parts read) → length after ≡ n
size_of_parts before read after none is are = ap length (is ∙ ap (λ l. l ++ read) none) ∙ sym (parts_in-shape_of_parts read) ∙ are.many

pub cut_size : (n : ℕ) → can_have n ≡ true → (n ≡ 0 → ⊥) → (2 ≤ n) × (n ≤ 16)
cut_size n can some = (grind (arith, nat_tests, can, some), grind (arith, nat_tests, can, some))

-- what was read, where one part was the last
pub last_part : (levels n : ℕ) (x : Shape) (rest text : List ℕ) (before after : List Shape) → 1 ≤ levels → n ≡ 1 → IsPart (levels - 1) x
    → text ≡ shape_text x ++ rest → after ≡ before ++ x ∷ []
    → (read : List Shape) × AreParts levels n (shape_of_parts read) × (after ≡ before ++ read) × (text ≡ texts_of_parts (shape_of_parts read) ++ rest)
last_part levels n x rest text before after deep one is_part is pushed =
    let none : AreParts levels 0 end = record { many = refl; cut = refl; low = omega arith } in (
      x ∷ [],
      subst (λ k. AreParts levels k (part x end)) (sym one) (one_more levels 0 x end deep is_part none),
      pushed,
      is ∙ ap (λ l. l ++ rest) (sym (texts_are x end ∙ append-nil (shape_text x))),
    )

-- and where others followed
pub more_parts : (levels n : ℕ) (x : Shape) (last rest text : List ℕ) (before middle after : List Shape) → 1 ≤ levels → 1 ≤ n - 1 → IsPart (levels - 1) x
    → text ≡ shape_text x ++ rest → middle ≡ before ++ x ∷ [] → (more_text : List ℕ) → rest ≡ 32 ∷ more_text
    → ((read : List Shape) × AreParts levels (n - 1) (shape_of_parts read) × (after ≡ middle ++ read) × (more_text ≡ texts_of_parts (shape_of_parts read) ++ last))
    → (read : List Shape) × AreParts levels n (shape_of_parts read) × (after ≡ before ++ read) × (text ≡ texts_of_parts (shape_of_parts read) ++ last)
more_parts levels n x last rest text before middle after deep more is_part is pushed more_text space others =
    let y : Shape = shape_of_parts others.0 in
    let some : (parts_in y == 0) ≡ false = not_none (parts_in y) (λ none. omega (arith, none, more, others.1.many)) in
    let after_is : after_part (parts_in y) (texts_of_parts y) ≡ 32 ∷ texts_of_parts y = ap (λ b. if b then [] else codes " " ++ texts_of_parts y) some in (
      x ∷ others.0,
      subst (λ k. AreParts levels k (part x y)) (omega (arith, more)) (one_more levels (n - 1) x y deep is_part others.1),
      others.2 ∙ ap (λ l. l ++ others.0) pushed ∙ append_assoc before (x ∷ []) others.0,
      is ∙ ap (λ l. shape_text x ++ l) (space ∙ ap (λ l. 32 ∷ l) others.3 ∙ ap (λ l. l ++ last) (sym after_is))
          ∙ sym (append_assoc (shape_text x) (after_part (parts_in y) (texts_of_parts y)) last) ∙ ap (λ l. l ++ last) (sym (texts_are x y)),
    )
