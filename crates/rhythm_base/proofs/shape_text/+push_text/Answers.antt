use Rattle.std.proofs.Common.{◌≡◌, ◌++◌, string_bytes, ◌-◌, ◌==◌, if◌then◌else◌, length, List, [], ◌∷◌, take, drop, codes, arith, sym, ap, ◌∙◌, append-nil}
use Rattle.std.proofs.lemmas.Bool.Decides.{nat_tests}
use Rattle.std.proofs.lemmas.Result.{IfOk-equal}
use Rattle.rhythm_base.specs.Shape.{Shape, shape_of_parts}
use Rattle.rhythm_base.specs.ShapeText.{shape_text, texts_of_parts}
use Rattle.rhythm_base.proofs.ShapeTexts.{cut_text, first_and_rest, grown, leaf_text, parts_text}
use Rattle.rhythm_base.proofs.shape_text.+push_text.Goals as goal
use Rattle.rhythm_base.proofs.shape_text.+push_text.Goals.{push_parts-then-not-is_empty+in_ok-push_str-in-len1-up, push_parts-else-not-is_empty}

pub push_parts-returns-after-not-is_empty : goal.push_parts-returns-after-not-is_empty
push_parts-returns-after-not-is_empty t c =
    let rest : List Shape = take (length c.args.parts.now - 1) (drop 1 c.args.parts.now) in
    let whole : c.args.parts.now ≡ c.first-item.result ∷ rest =
    first_and_rest _ c.args.parts.now c.in-len1-up.len_at_least ∙ ap (λ x. x ∷ rest) (sym c.first-item.is) in
    let shape : string_bytes c.push_shape.new.text ≡ string_bytes c.args.text.now ++ shape_text c.first-item.result = c.in_ok-push_shape-in-len1-up.ensures in
    let spaced : string_bytes c.if-not-is_empty.text ≡ (string_bytes c.args.text.now ++ shape_text c.first-item.result) ++ (if length rest == 0 then [] else codes " ") =
    elim c.if-not-is_empty.branch [
      | push_parts-then-not-is_empty+in_ok-push_str-in-len1-up w ↦ ap string_bytes w.text-is ∙ w.in_ok-push_str-in-len1-up.ensures.bytes ∙ ap (λ l. l ++ codes " ") shape
          ∙ ap (λ b. (string_bytes c.args.text.now ++ shape_text c.first-item.result) ++ (if b then [] else codes " ")) w.if-not-is_empty.ensures
      | push_parts-else-not-is_empty w ↦ ap string_bytes w.text-is ∙ shape ∙ sym (append-nil (string_bytes c.args.text.now ++ shape_text c.first-item.result))
          ∙ ap (λ b. (string_bytes c.args.text.now ++ shape_text c.first-item.result) ++ (if b then [] else codes " ")) w.if-not-is_empty.ensures
    ] in
    IfOk-equal c.push_parts.result _ _ _ c.push_parts.ensures
    (ap (λ l. l ++ texts_of_parts (shape_of_parts rest)) spaced ∙ parts_text (string_bytes c.args.text.now) c.first-item.result rest
    ∙ ap (λ xs. string_bytes c.args.text.now ++ texts_of_parts (shape_of_parts xs)) (sym whole))

pub push_shape-returns-then-is_empty : goal.push_shape-returns-then-is_empty
push_shape-returns-then-is_empty t c =
    grown c.push_str.result _ (string_bytes c.args.text.now) (codes ".") _ c.push_str.ensures.bytes
    (ap (λ l. string_bytes c.args.text.now ++ l) (leaf_text c.args.shape.now c.parts-parts.result.now c.parts-parts.ensures (grind (arith, nat_tests, sym c.if-is_empty.ensures))))

pub push_shape-returns-in_ok-push_parts : goal.push_shape-returns-in_ok-push_parts
push_shape-returns-in_ok-push_parts t c =
    grown c.push_str-else-is_empty.result _ (string_bytes c.push_parts.new.text) (codes ")") _ c.push_str-else-is_empty.ensures.bytes
    (ap (λ l. l ++ codes ")") (c.in_ok-push_parts.ensures ∙ ap (λ l. l ++ texts_of_parts (shape_of_parts c.parts-parts.result.now)) c.in_ok-write.ensures.bytes)
    ∙ cut_text (string_bytes c.args.text.now) c.args.shape.now c.parts-parts.result.now c.parts-parts.ensures (sym c.if-is_empty.ensures))
