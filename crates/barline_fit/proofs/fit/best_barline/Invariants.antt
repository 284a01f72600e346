use Rattle.std.proofs.Common.{◌≡◌, ◌≤◌}
use Rattle.barline_fit.proofs.TriedTicks.{AreTried}
use Rattle.barline_fit.proofs.fit.best_barline.Given as goal

-- the ticks so far are tried, and the session is as it was
abbrev pub invariant-ticks : goal.invariant-ticks
invariant-ticks g l = record {
  same : l.session ≡ l.initial.session;
  tried : AreTried l.initial.session.grammar l.initial.session.performance l.among.bar l.among.low l.among.step l.number l.best l.initial.builds l.builds;
  products : l.initial.products ≤ l.products;
}
