use Rattle.path_laws.proofs.Meetings.{least_meeting, none_meets}
use Rattle.path_laws.proofs.laws.products_take_the_least.Goals as goal

pub returns : goal.returns
returns c = record {
  none = λ a b from to ra rb. none_meets a b from to ra rb;
  least = λ a b from to e ra rb s. least_meeting a b from to ra rb e s;
}
