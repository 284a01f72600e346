use Rattle.std.proofs.Common.{◌≡◌, ℕ, suc, ◌+◌, ◌-◌, ◌≤◌, Bool, true, false, cond, ◌&&◌, [], ◌∷◌, ◌++◌, sym, ap, ◌∙◌, arith}
use Rattle.notation.specs.Places.{is_plain}
use Rattle.notation.specs.Tokens.{Token, cut_token}
use Rattle.notation.proofs.CutTokens.{cut_end, cut_start, part_cut, part_kept, up_to}
use Rattle.notation.proofs.cut.push_cut.Goals as goal
use Rattle.notation.proofs.cut.push_cut.Goals.{then-is_plain+in_ok-push, else-is_plain}

few_dots : (b : Bool) (dots : ℕ) → dots ≤ 2 → cond b 0 dots ≤ 2
few_dots true dots few = omega arith
few_dots false dots few = few

pub parts-init : goal.parts-init
parts-init c =
    let t = c.args.token in
    let at = ap (λ (x : Token). x.start) c.token.view_is in
    record {
      small = c.first_part-part.ensures.few;
      place = omega (arith, at);
      cut = ap (λ places. c.args.list.now.items ++ cut_token places t)
          (cut_start c.args.resolution c.args.odd c.loose_dots-dots.result c.token.inside.start c.first_part-part.result c.args.value t
          c.loose_dots-dots.ensures at c.first_part-part.ensures.part);
    }

pub overflow_add-place : goal.overflow_add-place
overflow_add-place c =
    let h = c.parts.invariant in
    let t = c.args.token in
    let plain = is_plain c.args.odd t.start && is_plain c.args.odd t.end in
    let few = few_dots plain c.args.value.dots c.requires.value.dots in
    let dots : c.loose_dots-dots.result ≤ 2 = omega (arith, c.loose_dots-dots.ensures, few) in
    omega (arith, h.small, h.place, c.parts-test.true, dots, c.requires.start)

pub parts-preserved : goal.parts-preserved
parts-preserved c =
    let h = c.parts.invariant in
    let p = c.parts.place in
    let q = c.parts.part in
    let odd = c.args.odd in
    let n = c.loose_dots-dots.result in
    let next = n - (c.parts._dot + 1) in
    let left : n - c.parts._dot ≡ suc next = omega (arith, c.parts-test.true) in
    let t = c.parts.rest in
    record {
      small = omega (arith, h.small);
      place = omega (arith, h.small, h.place);
      cut = elim c.if-is_plain.branch [
        | then-is_plain+in_ok-push w ↦
            let new : c.if-is_plain.list.items ≡ c.parts.list.items ++ w.until.result ∷ [] = ap (λ v. v.items) w.list-is ∙ w.in_ok-push.ensures.items in
            let pushed : c.if-is_plain.list.items ≡ c.parts.list.items ++ up_to (p + q) t ∷ [] = new ∙ ap
            (λ u. c.parts.list.items ++ u ∷ []) w.until.ensures in
            part_cut odd p q (n - c.parts._dot) next t c.if-is_plain.rest c.parts.list.items c.if-is_plain.list.items _ left
            (sym c.is_plain.ensures ∙ w.if-is_plain.true) pushed
            (w.rest-is ∙ w.after-after.ensures) h.cut
        | else-is_plain w ↦
            part_kept odd p q (n - c.parts._dot) next t c.if-is_plain.rest c.parts.list.items c.if-is_plain.list.items _ left
            (sym c.is_plain.ensures ∙ w.if-is_plain.false)
            (ap (λ v. v.items) w.list-is) w.rest-is h.cut
      ];
    }

pub returns : goal.returns
returns c =
    let h = c.parts.invariant in
    let n = c.loose_dots-dots.result in
    cut_end c.args.odd c.parts.place c.parts.part (n - c.parts._dot) c.parts.rest c.parts.list.items c.push-2.new.self.items _
    (omega (arith, c.parts-test.false)) c.in_ok-push-2.ensures.items h.cut
