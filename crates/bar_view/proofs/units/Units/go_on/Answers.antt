use Rattle.std.proofs.Common.{rules, ◌≡◌, ◌≤◌, ◌+◌, ◌++◌, ◌*◌, ◌∙◌, [], ◌∷◌, length, max, get_or, refl, sym, ap, subst, arith, inl, inr}
use Rattle.std.specs.Prelude.{vec_len}
use Rattle.std.proofs.Math.Seq.{get_or-append_seam}
use Rattle.std.proofs.lemmas.List.{get_or_append_left, length-append}
use Rattle.std.proofs.lemmas.Bool.{cases_lt}
use Rattle.rhythm_base.specs.declared.inner.Inner.{Inner}
use Rattle.bar_view.specs.Points.{IsPoint}
use Rattle.bar_view.specs.Units.{IsQuietFrom, IsWhole, SplitsAt, end_of_earlier}
use Rattle.bar_view.proofs.Quiets.{part-quiet}
use Rattle.bar_view.proofs.Wholes.{none-whole, part-whole}
use Rattle.bar_view.proofs.units.Units.go_on.Goals as goal

pub returns-clause-units : goal.returns-clause-units
returns-clause-units c =
    let k = c.args.input.now in
    let e : Inner = record { onset = 0; end = 0 } in
    let old = c.args.self.now in
    let last = c.args.last in
    let count = c.args.count in
    let next : c.from-next.result ≡ last = search rules in
    let high : length old.below.items ≤ last = search rules in
    let long : length c.resize.new.self.items ≡ last + 1 = search rules in
    let filled : length c.fill.new.quiet.items ≡ max (length old.quiet.items) last = c.in_ok-fill.ensures.long in
    let alike : length old.quiet.items ≡ length old.below.items = c.requires.units.alike in
    let pushed : c.push.new.self.items ≡ c.fill.new.quiet.items ++ c.none.result ∷ [] = c.in_ok-push.ensures.items in
    let one_more = ap length pushed ∙ length-append c.fill.new.quiet.items (c.none.result ∷ []) in
    let point : IsPoint k.length (end_of_earlier k count e * k.resolution) c.args.end = c.requires.end e in
    let as_list : vec_len old.below ≡ length old.below.items = search rules in
    record {
      alike = omega (arith, one_more, filled, alike, high, long);
      below = λ u h. elim (cases_lt u (length old.below.items)) [
        | inl low ↦ subst (SplitsAt k u) (sym (c.in_ok-resize.ensures.by_index.0 u 0 (omega (arith, next, low, high)) (omega (arith, as_list, low)))) (c.requires.units.below u low)
        | inr far ↦ subst (SplitsAt k u) (sym (c.in_ok-resize.ensures.by_index.1 u 0 refl (omega (arith, as_list, far)) (omega (arith, next, h, long)))) (c.requires.split u far (omega (arith, h, long)))
      ];
      whole = λ u d h. subst (λ xs. IsWhole k u (get_or xs u d)) (sym pushed) (elim (cases_lt u (length c.fill.new.quiet.items)) [
        | inl low ↦ subst (IsWhole k u) (sym (get_or_append_left c.fill.new.quiet.items (c.none.result ∷ []) d u low)) (elim (cases_lt u (length old.quiet.items)) [
          | inl first ↦ subst (IsWhole k u) (sym (c.in_ok-fill.ensures.same u d first)) (c.requires.units.whole u d first)
          | inr far ↦
              part-whole k u last count (end_of_earlier k count e * k.resolution) e (c.requires.split u (omega (arith, far, alike)) (omega (arith, low, far, filled))) c.requires.next refl (get_or c.fill.new.quiet.items u d)
              (c.in_ok-fill.ensures.whole k.length (end_of_earlier k count e * k.resolution) u d c.requires.cell.some_tick point far (omega (arith, low, far, filled)))
        ])
        | inr further ↦
            let at_last : last ≡ u = omega (arith, further, h, one_more, filled, alike, high) in
            subst (λ v. IsWhole k v (get_or (c.fill.new.quiet.items ++ c.none.result ∷ []) u d)) at_last
            (none-whole k last count (c.requires.split last high (omega arith)) c.requires.next (get_or (c.fill.new.quiet.items ++ c.none.result ∷ []) u d))
      ]);
      quiet = λ u d h. subst (λ xs. IsQuietFrom k u (get_or xs u d)) (sym pushed) (elim (cases_lt u (length c.fill.new.quiet.items)) [
        | inl low ↦ subst (IsQuietFrom k u) (sym (get_or_append_left c.fill.new.quiet.items (c.none.result ∷ []) d u low)) (elim (cases_lt u (length old.quiet.items)) [
          | inl first ↦ subst (IsQuietFrom k u) (sym (c.in_ok-fill.ensures.same u d first)) (c.requires.units.quiet u d first)
          | inr far ↦
              part-quiet k u last count (end_of_earlier k count e * k.resolution) e (λ v low near. c.requires.split v (omega (arith, far, low, alike)) near) refl c.requires.within (get_or c.fill.new.quiet.items u d)
              (c.in_ok-fill.ensures.parts k.length (end_of_earlier k count e * k.resolution) u d point far (omega (arith, low, far, filled)))
        ])
        | inr further ↦
            let last_one : length c.fill.new.quiet.items ≡ u = omega (arith, further, h, one_more) in
            subst (λ v. IsQuietFrom k v (get_or (c.fill.new.quiet.items ++ c.none.result ∷ []) v d)) last_one
            (subst (IsQuietFrom k (length c.fill.new.quiet.items)) (sym (get_or-append_seam c.fill.new.quiet.items c.none.result [] d)) (λ some. absurd (omega (arith, some, c.none.ensures))))
      ]);
    }
