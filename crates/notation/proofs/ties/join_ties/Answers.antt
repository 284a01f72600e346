use Rattle.std.proofs.Common.{sym, subst}
use Rattle.std.proofs.lemmas.List.{take_rest}
use Rattle.notation.specs.Notes.{ties_taken}
use Rattle.notation.specs.Spelling.{AreInGrid}
use Rattle.notation.proofs.Fronts.{first_and_more}
use Rattle.notation.proofs.Joining.{join_step}
use Rattle.notation.proofs.TiedTokens.{grid_after, grid_later}
use Rattle.notation.proofs.ties.join_ties.Goals as goal

pub ties_taken-taken-requires : goal.ties_taken-taken-requires
ties_taken-taken-requires c =
    let later = c.tokens.later.now in
    let t = c.token-item.result in
    let split = first_and_more later _ t c.in-len1-up.len_at_least (take_rest later 1) c.token-item.is in
    grid_later c.args.by.grid t _ (subst (AreInGrid c.args.by.grid) split c.tokens.invariant.places)

pub tokens-preserved : goal.tokens-preserved
tokens-preserved c =
    let later = c.tokens.later.now in
    let t = c.token-item.result in
    let split = first_and_more later _ t c.in-len1-up.len_at_least (take_rest later 1) c.token-item.is in
    let k = c.ties_taken-taken.result in
    record {
      places = subst (AreInGrid c.args.by.grid) (sym c.past-later.ensures) (grid_after c.args.by.grid k later _ t split c.tokens.invariant.places);
      joined = join_step (ties_taken c.args.by.grid c.args.by.whole) later _ _ t c.joined.result k c.tokens.joined.items c.push.new.self.items _ split
          c.ties_taken-taken.ensures.taken
          c.ties_taken-taken.ensures.few c.past-later.ensures c.joined.ensures c.in_ok-push.ensures.items c.tokens.invariant.joined;
    }
