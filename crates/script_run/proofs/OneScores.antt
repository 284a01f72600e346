-- A performance has one score at most by a readable grammar.
use Rattle.kern_writer.proofs.OneWritten.{performance_texts_one}
use Rattle.kern_writer.specs.PerformanceText.{IsWrittenScore}
use Rattle.script_laws.specs.Laws.{HasOneScoreAtMost}
use Rattle.rhythm_base.specs.Grammar.{Grammar}
use Rattle.rhythm_base.specs.Readable.{IsReadable}

pub one_score : (g : Grammar) → IsReadable g → HasOneScoreAtMost (IsWrittenScore g)
one_score g readable p a b formed h k = performance_texts_one.written g p a b readable formed h k
