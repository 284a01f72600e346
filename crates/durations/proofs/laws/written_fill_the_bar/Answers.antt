use Rattle.durations.proofs.Bars.{written_fills}
use Rattle.durations.proofs.laws.written_fill_the_bar.Goals as goal

pub returns : goal.returns
returns c = written_fills
