use Rattle.std.proofs.Common.{sym, subst}
use Rattle.std.proofs.lemmas.List.{take_rest}
use Rattle.notation.specs.Rests.{rests_taken}
use Rattle.notation.specs.Runs.{AreRun}
use Rattle.notation.proofs.Fronts.{first_and_more}
use Rattle.notation.proofs.Joining.{join_step}
use Rattle.notation.proofs.Standing.{run_after}
use Rattle.notation.proofs.rests.join_rests.Goals as goal

pub rests_taken-taken-requires : goal.rests_taken-taken-requires
rests_taken-taken-requires c =
    let later = c.tokens.later.now in
    let split = first_and_more later _ c.token-item.result c.in-len1-up.len_at_least (take_rest later 1) c.token-item.is in
    subst (AreRun c.args.resolution) split c.tokens.invariant.run

pub tokens-preserved : goal.tokens-preserved
tokens-preserved c =
    let later = c.tokens.later.now in
    let t = c.token-item.result in
    let split = first_and_more later _ t c.in-len1-up.len_at_least (take_rest later 1) c.token-item.is in
    let k = c.rests_taken-taken.result in
    record {
      run = subst (AreRun c.args.resolution) (sym c.past-later.ensures) (run_after c.args.resolution k later _ t split c.tokens.invariant.run);
      joined = join_step (rests_taken c.args.resolution c.args.bar.now) later _ _ t c.joined.result k c.tokens.joined.items c.push.new.self.items _ split
          c.rests_taken-taken.ensures.taken
          c.rests_taken-taken.ensures.few c.past-later.ensures c.joined.ensures c.in_ok-push.ensures.items c.tokens.invariant.joined;
    }
