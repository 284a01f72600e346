use Rattle.std.proofs.Common.{rules, ◌≡◌, ◌++◌, List, length, take, drop, ap, ◌∙◌, arith}
use Rattle.std.specs.Prelude.{reverse}
use Rattle.edit_session.specs.Exchange.{tables_of_bars}
use Rattle.edit_session.specs.Prepared.{CellTable}
use Rattle.edit_session.proofs.GrownVoices.{written_back}
use Rattle.edit_session.proofs.LostTables.{turned_end}
use Rattle.edit_session.proofs.exchange.give_lost.Goals as goal

pub returns-clause-gone : goal.returns-clause-gone
returns-clause-gone g c =
    let items : List CellTable = c.pop_lost.new.gone.items in
    let start : c.len-start.result ≡ length c.args.gone.now.items = search rules in
    let written : c.reverse_from.new.tables ≡ take c.len-start.result items ++ reverse (drop c.len-start.result items) =
    c.reverse_from.ensures ∙ ap (λ ts. take c.len-start.result ts ++ reverse (drop c.len-start.result ts)) c.as_mut_slice.ensures.value in
    let is = turned_end c.len-start.result c.args.gone.now.items (tables_of_bars c.args.channel c.args.bars (drop c.args.bars c.args.voice.now.tables)) items c.reverse_from.new.tables start c.pop_lost.ensures.gone written in
    let count : c.pop_lost.new.gone.len ≡ length items = omega (arith, c.as_mut_slice.ensures.len, ap length c.as_mut_slice.ensures.value) in
    written_back c.pop_lost.new.gone.len items c.reverse_from.new.tables count is.1 ∙ is.0
