use Rattle.std.proofs.Common.{◌≡◌, ◌+◌, ◌-◌, drop, take, sym, ap, subst, ◌∙◌, arith}
use Rattle.std.proofs.lemmas.List.{take-append-drop}
use Rattle.notation.specs.Groups.{parted_from}
use Rattle.notation.specs.Runs.{AreRun}
use Rattle.notation.proofs.GroupLemmas.{group_last, group_waits, group_whole, same_test}
use Rattle.notation.proofs.Standing.{run_front}
use Rattle.notation.proofs.groups.first_group.Goals as goal

pub is_whole-requires : goal.is_whole-requires
is_whole-requires c =
    let ts = c.args.tokens.now in
    let n = c.tokens.count in
    subst (AreRun c.args.resolution) (sym c.split_at.ensures.front) (run_front c.args.resolution (take n ts) (drop n ts)
    (subst (AreRun c.args.resolution) (sym (take-append-drop n ts)) c.requires.run))

pub tokens-preserved : goal.tokens-preserved
tokens-preserved c =
    let ts = c.args.tokens.now in
    let n = c.tokens.count in
    let h = c.tokens.invariant in
    let e : n + 1 - 1 ≡ n = omega arith in
    let test = same_test c.args.resolution c.args.odd n ts c.split_at.result.0.now c.split_at.result.1.now c.split_at.ensures.front c.split_at.ensures.back in
    let waits = group_waits c.args.resolution c.args.odd n ts (n - 1) h.some c.tokens-test.true (omega (arith, h.some))
    (test ∙ sym c.is_whole.ensures ∙ c.if-is_whole.false) h.waits in
    record {
      some = omega arith;
      few = omega (arith, c.tokens-test.true);
      waits = ap (λ k. parted_from c.args.resolution c.args.odd (take k ts) (drop k ts)) e ∙ waits;
    }

pub returns-then-is_whole-clause-group : goal.returns-then-is_whole-clause-group
returns-then-is_whole-clause-group c =
    let ts = c.args.tokens.now in
    let n = c.tokens.count in
    let h = c.tokens.invariant in
    let test = same_test c.args.resolution c.args.odd n ts c.split_at.result.0.now c.split_at.result.1.now c.split_at.ensures.front c.split_at.ensures.back in
    group_whole c.args.resolution c.args.odd n ts (n - 1) h.some c.tokens-test.true (omega (arith, h.some))
    (test ∙ sym c.is_whole.ensures ∙ c.if-is_whole.true) h.waits

pub returns-clause-group : goal.returns-clause-group
returns-clause-group c =
    let h = c.tokens.invariant in
    let n = c.tokens.count in
    group_last c.args.resolution c.args.odd n c.args.tokens.now (n - 1) (omega (arith, h.few, c.tokens-test.false)) (omega (arith, h.some)) h.waits
