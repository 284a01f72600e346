use Rattle.std.proofs.Common.{◌≤◌, ◌-◌, ◌*◌, length, drop, ap, subst, arith}
use Rattle.std.specs.Prelude.{reverse}
use Rattle.std.proofs.lemmas.List.{length-append, length-drop}
use Rattle.rhythm_base.specs.Counter.{risen}
use Rattle.edit_session.specs.Exchange.{tables_of_bars}
use Rattle.edit_session.proofs.LostTables.{numbered_length, voice_done}
use Rattle.edit_session.proofs.Risen.{risen_both}
use Rattle.edit_session.proofs.exchange.exchange_voice.Goals as goal

pub returns-clause-exchanged : goal.returns-clause-exchanged
returns-clause-exchanged g c = λ x h same.
    voice_done x h.is c.args.channel h.voice c.args.bars c.exchange_bars.new.voice.tables c.give_lost.new.voice.tables (reverse c.args.coming.now.items) c.args.gone.now.items
    (reverse c.exchange_bars.new.coming.items) c.exchange_bars.new.gone.items c.give_lost.new.gone.items same c.give_lost.ensures.tables c.give_lost.ensures.gone (c.exchange_bars.ensures.exchanged x h same)

pub returns-clause-count : goal.returns-clause-count
returns-clause-count g c =
    let mid = c.exchange_bars.new.voice.tables in
    let lost = tables_of_bars c.args.channel c.args.bars (drop c.args.bars mid) in
    omega (
      arith,
      ap length c.give_lost.ensures.gone,
      length-append c.exchange_bars.new.gone.items lost,
      numbered_length c.args.channel c.args.bars (drop c.args.bars mid),
      length-drop c.args.bars mid,
      c.exchange_bars.ensures.count,
      c.exchange_bars.ensures.no_fewer,
      c.exchange_bars.ensures.no_more,
    )

pub returns-clause-products : goal.returns-clause-products
returns-clause-products g c = (
  omega (arith, c.exchange_bars.ensures.products.0, c.give_lost.ensures.products.0),
  λ d m few fits long.
      let mid = c.exchange_bars.new.voice.tables in
      let first = c.exchange_bars.ensures.products.1 d m few fits long in
      let second = c.give_lost.ensures.products.1 d (omega (arith, few, fits, c.exchange_bars.ensures.no_more)) in
      subst (λ n. c.give_lost.new.products ≤ risen c.args.products.now (n * d)) (omega (arith, c.exchange_bars.ensures.no_fewer, c.exchange_bars.ensures.no_more))
      (risen_both c.args.products.now m (length mid - c.args.bars) d c.exchange_bars.new.products c.give_lost.new.products first second),
)
