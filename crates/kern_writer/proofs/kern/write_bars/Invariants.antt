use Rattle.std.proofs.Common.{◌++◌, None, List, length, drop}
use Rattle.std.specs.Prelude.{All, IfSome}
use Rattle.derivation.specs.WellSounded.{StandInBars}
use Rattle.kern_writer.specs.Ahead.{laters}
use Rattle.kern_writer.specs.Records.{Record}
use Rattle.derivation.specs.Score.{IsScoreBar}
use Rattle.kern_writer.specs.Writing.{HasWritten}
use Rattle.kern_writer.proofs.AllRecords.{AreRecordsAhead}
use Rattle.kern_writer.proofs.kern.write_bars.Given as goal

-- the records so far, with those of the bars that are left, are all
abbrev pub invariant-bars : goal.invariant-bars
invariant-bars l = record {
  before : IfSome l.before IsScoreBar;
  stand : All (StandInBars l.resolution (length l.bars) l.number 0) (laters l.ahead.items);
  so_far :
      (done : List Record) × HasWritten l.initial.text l.text done
      × ((rest : List Record) → AreRecordsAhead l.resolution l.before l.number (drop l.number l.bars) (laters l.ahead.items) rest
      → AreRecordsAhead l.resolution None 0 l.bars l.voices (done ++ rest));
}
