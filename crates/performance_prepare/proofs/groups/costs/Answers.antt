use Rattle.std.proofs.Common.{arith, ℕ, ◌≡◌, ◌≤◌, ◌+◌, ◌∙◌, ◌++◌, ◌∷◌, [], List, ap, length, map, take, length-append}
use Rattle.std.specs.List.{slice_range}
use Rattle.std.proofs.lemmas.List.{get_or-replicate}
use Rattle.rhythm_base.specs.declared.event.Tempo.{Tempo}
use Rattle.rhythm_base.specs.declared.note.Note.{Note}
use Rattle.performance_prepare.specs.Ends.{held_by, row_by}
use Rattle.performance_prepare.specs.Groups.{cost, costs, costs_after, groups}
use Rattle.performance_prepare.specs.Middle.{numbers_from}
use Rattle.performance_prepare.proofs.Grouped.{costs_more, keys_between, taken_ends}
use Rattle.performance_prepare.proofs.groups.costs.Goals as goal

pub groups-init : goal.groups-init
groups-init c = record {
  costs = ap (λ (rows : List (List ℕ)). rows ++ costs_after c.args.map.now.tempos c.args.division c.args.middle []
      (groups c.args.map.now.tempos c.args.division c.args.within c.args.notes.now)) c.new-rows.ensures.items;
  ends = λ key lt. get_or-replicate 128 key 0 0 lt;
  low = λ k d lt. (let e = get_or-replicate 128 k 0 d lt in omega (arith, e));
  within = omega arith;
  few = (let e = ap (length {A = List ℕ}) c.new-rows.ensures.items in omega (arith, e));
}

pub groups-preserved : goal.groups-preserved
groups-preserved c =
    let T : List Tempo = c.args.map.now.tempos in
    let notes : List Note = c.args.notes.now in
    let S : ℕ = c.groups.start in
    let E : ℕ = c.group_end-end.result in
    let le : S ≤ E = (let l = c.group_end-end.ensures.later in omega (arith, l)) in
    let struck : slice_range c.deref.result.now S E ≡ map (λ n. n.key) (slice_range notes S E) =
    ap (λ ks. slice_range ks S E) (c.deref.ensures.value ∙ c.in_ok-keys.ensures) ∙ keys_between notes S E in
    let held : c.deref-in-groups.result.now ≡ held_by T c.args.division c.groups.ends (slice_range notes S E) =
    c.deref-in-groups.ensures.value ∙ c.in_ok-held.ensures.keys in
    let row : c.row.result ≡ row_by T c.args.division c.args.middle c.groups.ends (slice_range notes S E) =
    c.row.ensures ∙ (λ i. map (cost c.args.middle (struck i) (held i)) (numbers_from 0 129)) in
    let pushed : c.push.new.self.items ≡ c.groups.rows.items
    ++ row_by T c.args.division c.args.middle c.groups.ends (slice_range notes S E) ∷ [] =
    c.in_ok-push.ensures.items ∙ ap (λ r. c.groups.rows.items ++ r ∷ []) row in
    let long : length c.push.new.self.items ≡ length c.groups.rows.items + 1 = ap length pushed
    ∙ length-append c.groups.rows.items (row_by T c.args.division c.args.middle c.groups.ends (slice_range notes S E) ∷ []) in
    record {
      costs = costs_more T c.args.division c.args.within c.args.middle notes c.groups.rows.items c.push.new.self.items
          (costs T c.args.division c.args.middle (groups T c.args.division c.args.within notes)) c.groups.ends S E le
          c.groups.invariant.ends c.group_end-end.ensures.group pushed c.groups.invariant.costs;
      ends = taken_ends c.put_ends.new.ends notes S E le (c.put_ends.ensures.ends (take S notes) c.groups.invariant.ends);
      low = c.put_ends.ensures.low;
      within = c.group_end-end.ensures.within;
      few = (let f = c.groups.invariant.few in let l = c.group_end-end.ensures.later in omega (arith, long, f, l));
    }
