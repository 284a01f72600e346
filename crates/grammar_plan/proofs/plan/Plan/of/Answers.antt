use Rattle.std.proofs.Common.{◌≡◌, ℕ, ◌<◌, [], length, None, refl}
use Rattle.std.specs.Prelude.{slice_index_or}
use Rattle.rhythm_base.specs.Grammar.{Grammar}
use Rattle.row_laws.specs.declared.quiet.Quiet.{Quiet}
use Rattle.row_laws.specs.declared.quiet.Quiet.TheVariants.{Sounding, Silent}
use Rattle.grammar_plan.specs.Plans.{HasQuietTree, quiet_rows_of}
use Rattle.grammar_plan.specs.declared.plan.Plan.{Plan}
use Rattle.grammar_plan.proofs.Finishing.{plan-is}
use Rattle.grammar_plan.proofs.plan.Plan.of.Goals as goal

pub returns : goal.returns
returns c = plan-is g plan new refl refl refl refl refl c.in_ok-plan.ensures long least
  where
    g : Grammar
    g = c.args.grammar.now

    plan : Plan
    plan = c.in_ok-plan.plan

    new : Plan
    new = record { roots = plan.roots; seats = plan.seats; cuts = plan.cuts; parts = plan.parts; leaves = plan.leaves; sounding = c.in_ok-sounding.sounding; silent = c.in_ok-silent.silent; places = plan.places }

    long : (quiet : Quiet) → length (quiet_rows_of new quiet) ≡ length plan.seats.items
    long Sounding = c.in_ok-sounding.ensures.long
    long Silent = c.in_ok-silent.ensures.long

    least : (quiet : Quiet) (n from : ℕ) → n < length plan.seats.items → from < 5 → HasQuietTree g plan n quiet from (slice_index_or (slice_index_or (quiet_rows_of new quiet) n []) from None)
    least Sounding n from low few = c.in_ok-sounding.ensures.least n from low few
    least Silent n from low few = c.in_ok-silent.ensures.least n from low few
