use Rattle.std.proofs.Common.{inl}
use Rattle.durations.proofs.Firsts.{none_left}
use Rattle.durations.proofs.notation.first_value.Goals as goal

pub returns-in-Some-clause-values : goal.returns-in-Some-clause-values
returns-in-Some-clause-values c more h =
    let lowest = c.lowest_parts-parts.ensures in
    (_, _, lowest.lowest, inl (c.in-Some.ensures.one, none_left _ more lowest.some h))
