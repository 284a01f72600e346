use Rattle.std.proofs.Common.{ℕ, ◌≡◌, ◌+◌, ◌<◌, ◌^◌, ◌++◌, ◌∙◌, List, [], ◌∷◌, map, ap, ap₂, sym, subst, length, arith}
use Rattle.std.specs.Prelude.{filter, reverse}
use Rattle.std.specs.List.{flat_map, range_with_len}
use Rattle.std.proofs.lemmas.List.{append-nil, append_assoc}
use Rattle.std.proofs.lemmas.Grind.{flat_map-append}
use Rattle.rhythm_base.specs.declared.edit.Edit.{Edit}
use Rattle.barline_follow.specs.Stages.{aim, aims, is_earlier, is_later, shift_line, shifts, stage_lines}
use Rattle.barline_follow.proofs.Paired.{paired_short, range_more}
use Rattle.barline_follow.proofs.stages.push_stages.Goals as goal

pub push_later-requires : goal.push_later-requires
push_later-requires c =
    let short = paired_short (aim c.stage_count-stages.result c.stages.number) c.args.ticks.now c.args.goal.now in
    let is : c.as_slice.result.now ≡ aims c.stage_count-stages.result c.stages.number c.args.ticks.now c.args.goal.now = c.as_slice.ensures.value ∙ c.in_ok-before.ensures in
    subst (λ (xs : List ℕ). length xs < 2 ^ 32) (sym is) (omega (arith, short, c.requires.few))

pub push_earlier-requires : goal.push_earlier-requires
push_earlier-requires c =
    let short = paired_short (aim c.stage_count-stages.result c.stages.number) c.args.ticks.now c.args.goal.now in
    let is : c.as_slice-in-stages-2.result.now ≡ aims c.stage_count-stages.result c.stages.number c.args.ticks.now c.args.goal.now = c.as_slice-in-stages-2.ensures.value ∙ c.in_ok-before.ensures in
    subst (λ (xs : List ℕ). length xs < 2 ^ 32) (sym is) (omega (arith, short, c.requires.few))

pub stages-preserved : goal.stages-preserved
stages-preserved c =
    let S : ℕ = c.stage_count-stages.result in
    let n : ℕ = c.stages.number in
    let ticks : List ℕ = c.args.ticks.now in
    let end : List ℕ = c.args.goal.now in
    let old : List Edit = c.args.script.now.items in
    let later : List ℕ → List ℕ → List Edit = λ xs ys. map shift_line (reverse (filter is_later (shifts 0 xs ys))) in
    let earlier : List ℕ → List ℕ → List Edit = λ xs ys. map shift_line (filter is_earlier (shifts 0 xs ys)) in
    let from : c.as_slice.result.now ≡ aims S n ticks end = c.as_slice.ensures.value ∙ c.in_ok-before.ensures in
    let to : c.as_slice-in-stages.result.now ≡ aims S (n + 1) ticks end = c.as_slice-in-stages.ensures.value ∙ c.in_ok-after.ensures in
    let from-again : c.as_slice-in-stages-2.result.now ≡ aims S n ticks end = c.as_slice-in-stages-2.ensures.value ∙ c.in_ok-before.ensures in
    let to-again : c.as_slice-in-stages-3.result.now ≡ aims S (n + 1) ticks end = c.as_slice-in-stages-3.ensures.value ∙ c.in_ok-after.ensures in
    let first : c.push_later.new.script.items ≡ c.stages.script.items ++ later (aims S n ticks end) (aims S (n + 1) ticks end) =
    c.in_ok-push_later.ensures ∙ ap₂ (λ xs ys. c.stages.script.items ++ later xs ys) from to in
    let second : c.push_earlier.new.script.items ≡ c.push_later.new.script.items ++ earlier (aims S n ticks end) (aims S (n + 1) ticks end) =
    c.in_ok-push_earlier.ensures ∙ ap₂ (λ xs ys. c.push_later.new.script.items ++ earlier xs ys) from-again to-again in
    let both : c.push_earlier.new.script.items ≡ c.stages.script.items ++ stage_lines S ticks end n =
    second ∙ ap (λ xs. xs ++ earlier (aims S n ticks end) (aims S (n + 1) ticks end)) first
    ∙ append_assoc c.stages.script.items (later (aims S n ticks end) (aims S (n + 1) ticks end)) (earlier (aims S n ticks end) (aims S (n + 1) ticks end)) in
    both ∙ ap (λ xs. xs ++ stage_lines S ticks end n) c.stages.invariant
    ∙ append_assoc old (flat_map (stage_lines S ticks end) (range_with_len 0 n)) (stage_lines S ticks end n)
    ∙ ap (λ xs. old ++ xs)
    (sym (ap (flat_map (stage_lines S ticks end)) (range_more n) ∙ flat_map-append (stage_lines S ticks end) (range_with_len 0 n) (n ∷ [])
    ∙ ap (λ xs. flat_map (stage_lines S ticks end) (range_with_len 0 n) ++ xs) (append-nil (stage_lines S ticks end n))))
