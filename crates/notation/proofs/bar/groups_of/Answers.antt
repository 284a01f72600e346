use Rattle.std.proofs.Common.{◌∷◌, [], ◌++◌, append_assoc, take, drop, sym, ap, subst, ◌∙◌}
use Rattle.std.proofs.lemmas.List.{append-nil, take-append-drop}
use Rattle.rhythm_base.specs.Lists.{Each}
use Rattle.rhythm_base.proofs.PairedLists.{each_push}
use Rattle.notation.specs.Groups.{parted}
use Rattle.notation.specs.Notes.{IsGroup}
use Rattle.notation.specs.Runs.{AreRun}
use Rattle.notation.proofs.GroupLemmas.{parted_end}
use Rattle.notation.proofs.Standing.{run_back, run_front}
use Rattle.notation.proofs.bar.groups_of.Goals as goal

pub group-requires-clause-run : goal.group-requires-clause-run
group-requires-clause-run c =
    let later = c.groups.later.now in
    let n = c.first_group-count.result in
    run_front c.args.resolution (take n later) (drop n later) (subst (AreRun c.args.resolution) (sym (take-append-drop n later)) c.groups.invariant.run)

pub groups-preserved : goal.groups-preserved
groups-preserved c =
    let later = c.groups.later.now in
    let n = c.first_group-count.result in
    let r = c.args.resolution in
    let odd = c.args.odd in
    let h = c.groups.invariant in
    let done = h.so_far.0 in
    let group = take n later in
    let is = subst (λ gs. Each (IsGroup r odd) (done ++ group ∷ []) gs) (sym c.in_ok-push.ensures.items)
    (each_push (IsGroup r odd) done c.groups.groups.items group c.in_ok-group.field-0 h.so_far.1 c.in_ok-group.ensures) in
    record {
      run = subst (AreRun r) (sym c.past-later.ensures) (run_back r (take n later) (drop n later) (subst (AreRun r) (sym (take-append-drop n later)) h.run));
      so_far = (
        done ++ group ∷ [],
        is,
        ap (λ ts. (done ++ group ∷ []) ++ parted r odd ts) c.past-later.ensures ∙ append_assoc done (group ∷ []) (parted r odd (drop n later)) ∙ ap
            (λ gs. done ++ gs) (sym c.first_group-count.ensures.group) ∙ h.so_far.2,
      );
    }

pub returns : goal.returns
returns c =
    let h = c.groups.invariant.so_far in
    let r = c.args.resolution in
    let odd = c.args.odd in
    let none = parted_end r odd c.groups.later.now (sym c.is_empty.ensures ∙ c.groups-test.false) in
    let all = sym (append-nil h.0) ∙ ap (λ gs. h.0 ++ gs) (sym none) ∙ h.2 in
    subst (λ gs. Each (IsGroup r odd) gs c.groups.groups.items) all h.1
