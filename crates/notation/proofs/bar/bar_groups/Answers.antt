use Rattle.std.proofs.Common.{sym, ap, subst, ◌∙◌}
use Rattle.std.specs.Prelude.{All}
use Rattle.std.specs.List.{list_all}
use Rattle.notation.specs.Rests.{joined_rests}
use Rattle.notation.specs.Runs.{AreRun, IsInBar}
use Rattle.notation.specs.Tokens.{bar_tokens, is_silent}
use Rattle.notation.proofs.BarLemmas.{rests_run, silent_groups, sounding_groups, tokens_run, values_in_bar}
use Rattle.notation.proofs.Spelled.{units_some}
use Rattle.notation.proofs.bar.bar_groups.Goals as goal

pub bar_tokens-requires-clause-values : goal.bar_tokens-requires-clause-values
bar_tokens-requires-clause-values c =
    let r = c.args.resolution in
    let bar = c.args.bar.now in
    subst (All (IsInBar r bar)) (sym c.deref.ensures.value) (values_in_bar r bar c.args.sounds.now c.in_ok-values.values.items (units_some c.args.resolution c.args.odd c.requires.odd)
    c.requires.bar c.requires.full c.in_ok-values.ensures)

pub join_rests-requires : goal.join_rests-requires
join_rests-requires c =
    let r = c.args.resolution in
    let bar = c.args.bar.now in
    let vs = c.in_ok-values.values.items in
    let tokens = c.deref-3.ensures.value ∙ c.in_ok-tokens.ensures ∙ ap (bar_tokens r c.args.odd bar c.args.after) c.deref.ensures.value in
    subst (AreRun r) (sym tokens) (tokens_run r c.args.odd bar c.args.after c.args.sounds.now vs (units_some c.args.resolution c.args.odd c.requires.odd) c.requires.bar c.requires.full
    c.in_ok-values.ensures)

pub groups_of-requires-clause-run : goal.groups_of-requires-clause-run
groups_of-requires-clause-run c =
    let r = c.args.resolution in
    let bar = c.args.bar.now in
    let vs = c.in_ok-values.values.items in
    let tokens = c.deref-3.ensures.value ∙ c.in_ok-tokens.ensures ∙ ap (bar_tokens r c.args.odd bar c.args.after) c.deref.ensures.value in
    let run = tokens_run r c.args.odd bar c.args.after c.args.sounds.now vs (units_some c.args.resolution c.args.odd c.requires.odd) c.requires.bar c.requires.full c.in_ok-values.ensures in
    let joined = c.deref-4.ensures.value ∙ c.in_ok-joined.ensures ∙ ap (joined_rests r bar) tokens in
    subst (AreRun r) (sym joined) (rests_run r bar (bar_tokens r c.args.odd bar c.args.after vs) (units_some c.args.resolution c.args.odd c.requires.odd) c.requires.bar run)

pub returns-then-are_silent : goal.returns-then-are_silent
returns-then-are_silent c =
    let r = c.args.resolution in
    let odd = c.args.odd in
    let bar = c.args.bar.now in
    let vs = c.in_ok-values.values.items in
    let tokens = c.deref-2.ensures.value ∙ c.in_ok-tokens.ensures ∙ ap (bar_tokens r odd bar c.args.after) c.deref.ensures.value in
    let silent = ap (list_all is_silent) (sym tokens) ∙ sym c.are_silent.ensures ∙ c.if-are_silent.true in (
      vs,
      odd,
      c.in_ok-values.ensures,
      c.requires.odd,
      silent_groups r odd bar
          (bar_tokens r odd bar c.args.after vs) c.new.result.items silent c.new.ensures.items,
    )

pub returns : goal.returns
returns c =
    let r = c.args.resolution in
    let odd = c.args.odd in
    let bar = c.args.bar.now in
    let vs = c.in_ok-values.values.items in
    let list = c.in_ok-tokens.ensures ∙ ap (bar_tokens r odd bar c.args.after) c.deref.ensures.value in
    let sounds = ap (list_all is_silent) (sym (c.deref-2.ensures.value ∙ list)) ∙ sym c.are_silent.ensures ∙ c.if-are_silent.false in
    let joined = c.deref-4.ensures.value ∙ c.in_ok-joined.ensures ∙ ap (joined_rests r bar) (c.deref-3.ensures.value ∙ list) in (
      vs,
      odd,
      c.in_ok-values.ensures,
      c.requires.odd,
      sounding_groups r odd bar
          (bar_tokens r odd bar c.args.after vs) c.deref-4.result.now c.in_ok-groups.groups.items sounds joined c.in_ok-groups.ensures,
    )
