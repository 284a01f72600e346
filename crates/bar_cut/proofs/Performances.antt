-- Every voice of a well-formed performance can be cut.
use Rattle.std.proofs.Common.{ℕ, List}
use Rattle.rhythm_base.specs.declared.chord.Chord.{Chord}
use Rattle.rhythm_base.specs.Grammar.{Grammar}
use Rattle.rhythm_base.specs.Performance.{IsWellFormed, Performance}
use Rattle.rhythm_base.specs.Voices.{AreChordsOf}
use Rattle.performance_laws.proofs.PerformedVoices.{ends_after, rising}
use Rattle.bar_cut.specs.Cuts.{AreBarsAndChords}

pub can_be_cut : (g : Grammar) (p : Performance) (channel : ℕ) (cs : List Chord) → IsWellFormed p → AreChordsOf g p channel cs → AreBarsAndChords p.bars p.last cs
can_be_cut g p channel cs w are = record {
  some_bar = w.some_bar;
  few_bars = w.few_bars;
  are_before = λ k d lt. record { start = (w.bars k d lt).start; signature = (w.bars k d lt).signature };
  first_bar = w.first_bar;
  bars_rise = w.bars_rise;
  last_barline = w.last_barline;
  chords_rise = rising g p channel cs w are;
  chords = ends_after g p channel cs w are;
}
