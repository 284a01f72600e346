use Rattle.std.proofs.Common.{◌≡◌, length}
use Rattle.session_counts.proofs.Raising.{AreVoicesCounted}
use Rattle.session_counts.proofs.counting.count_rules.Given as goal

-- the voices so far are counted
abbrev pub invariant-voices : goal.invariant-voices
invariant-voices l = record {
  voices : AreVoicesCounted l.session.grammar l.session.performance l.voice l.session.performance.channels l.initial.counts l.counts;
  of_each : length l.counts ≡ length l.initial.counts;
}
