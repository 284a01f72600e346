use Rattle.std.proofs.Common.{rules, ◌≡◌, ◌≤◌, ◌+◌, ◌-◌, ◌*◌, ◌∷◌, [], ℕ, length, max, refl, sym, ap, ◌∙◌, subst, arith}
use Rattle.std.specs.Prelude.{All, reverse}
use Rattle.std.proofs.lemmas.List.{length-append}
use Rattle.rhythm_base.specs.Counter.{risen}
use Rattle.edit_session.specs.Exchange.{IsCheapTable, IsNextBar}
use Rattle.edit_session.proofs.ExchangedBars.{all_but_last, bar_is, came_count, came_long, came_longer, last_below, next_came, some_last, stayed_up_to}
use Rattle.edit_session.proofs.LostTables.{begun}
use Rattle.edit_session.proofs.Risen.{risen_more}
use Rattle.edit_session.proofs.exchange.exchange_bars.Goals as goal

pub tables-init : goal.tables-init
tables-init g c = record {
  exchanged = λ x h same. record { changed = begun x h.is c.args.channel h.voice c.args.voice.now.tables h.tables_before; exchanged = h.exchanged; even = omega arith };
  within = omega arith;
  no_fewer = omega arith;
  no_more = omega arith;
  room = refl;
  cheap = c.requires.cheap;
  count = refl;
  capacity = refl;
  capacity_coming = refl;
  products = λ d m few fits long. omega (arith);
  less = omega arith;
  rises = omega arith;
}

pub take_last-next-requires : goal.take_last-next-requires
take_last-next-requires g c =
    let is_next = subst (λ ts. IsNextBar ts c.args.channel c.tables.first c.args.bars c.in-Some.bar) c.as_slice.ensures.value c.in-Some.ensures.some in
    let some = some_last c.tables.coming.items c.args.channel c.in-Some.bar is_next.last in
    search (rules, some)

pub place_table-requires-clause-few : goal.place_table-requires-clause-few
place_table-requires-clause-few g c κs within =
    let is_next = subst (λ ts. IsNextBar ts c.args.channel c.tables.first c.args.bars c.in-Some.bar) c.as_slice.ensures.value c.in-Some.ensures.some in
    let at = bar_is c.tables.coming.items c.take_last-next.new.self.items c.take_last-next.result c.args.channel c.tables.first c.args.bars c.in-Some.bar c.take_last-next.ensures.items is_next in
    omega (arith, at, is_next.within, c.requires.few)

pub place_table-requires-clause-room : goal.place_table-requires-clause-room
place_table-requires-clause-room g c κs within =
    let is_next = subst (λ ts. IsNextBar ts c.args.channel c.tables.first c.args.bars c.in-Some.bar) c.as_slice.ensures.value c.in-Some.ensures.some in
    let at = bar_is c.tables.coming.items c.take_last-next.new.self.items c.take_last-next.result c.args.channel c.tables.first c.args.bars c.in-Some.bar c.take_last-next.ensures.items is_next in
    omega (arith, at, is_next.within, c.requires.room, c.tables.invariant.room)

pub place_table-requires-clause-cheap : goal.place_table-requires-clause-cheap
place_table-requires-clause-cheap g c κs within =
    (all_but_last IsCheapTable c.take_last-next.new.self.items c.take_last-next.result (subst (All IsCheapTable) c.take_last-next.ensures.items c.tables.invariant.cheap)).1

pub place_table-requires-clause-memory : goal.place_table-requires-clause-memory
place_table-requires-clause-memory g c κs within = λ low.
    let n : ℕ = length c.args.voice.now.tables in
    let is_next = subst (λ ts. IsNextBar ts c.args.channel c.tables.first c.args.bars c.in-Some.bar) c.as_slice.ensures.value c.in-Some.ensures.some in
    let at = bar_is c.tables.coming.items c.take_last-next.new.self.items c.take_last-next.result c.args.channel c.tables.first c.args.bars c.in-Some.bar c.take_last-next.ensures.items is_next in
    let some = last_below c.tables.coming.items c.args.channel c.in-Some.bar n is_next.last (omega (arith, low, at, is_next.from, c.tables.invariant.no_more)) in
    omega (arith, some, c.tables.invariant.count, c.tables.invariant.capacity, c.requires.memory)

pub tables-preserved : goal.tables-preserved
tables-preserved g c =
    let n : ℕ = length c.args.voice.now.tables in
    let before = c.tables.invariant in
    let bar : ℕ = c.in-Some.bar in
    let next = c.take_last-next.result in
    let left = c.tables.coming.items in
    let rest = c.take_last-next.new.self.items in
    let split = c.take_last-next.ensures.items in
    let tables = c.tables.voice.tables in
    let later = c.place_table.new.voice.tables in
    let gone = c.tables.gone.items in
    let more = c.place_table.new.gone.items in
    let step = c.place_table.ensures in
    let is_next = subst (λ ts. IsNextBar ts c.args.channel c.tables.first c.args.bars bar) c.as_slice.ensures.value c.in-Some.ensures.some in
    let at = bar_is left rest next c.args.channel c.tables.first c.args.bars bar split is_next in
    let long = came_long tables later next gone more bar at step.swapped step.pushed in
    let fewer : length left ≡ length rest + 1 = ap length split ∙ length-append rest (next ∷ []) in
    record {
      exchanged = λ x h same.
          next_came x h.is c.args.channel h.voice (reverse c.args.coming.now.items) c.args.gone.now.items c.tables.first c.args.bars bar next left rest gone more tables later same is_next split step.swapped step.pushed
          (before.exchanged x h same);
      within = omega (arith, is_next.within);
      no_fewer = omega (arith, before.no_fewer, came_longer tables later next gone more step.swapped step.pushed);
      no_more = omega (arith, before.no_more, long, is_next.from);
      room = step.room ∙ before.room;
      cheap = (all_but_last IsCheapTable rest next (subst (All IsCheapTable) split before.cheap)).0;
      count =
          came_count tables later next left rest gone more bar n at split step.swapped step.pushed
          (λ low. omega (arith, low, before.no_fewer), λ low. omega (arith, low, before.no_more, is_next.from)) ∙ before.count;
      capacity = step.capacity ∙ before.capacity;
      capacity_coming = c.take_last-next.ensures.capacity ∙ before.capacity_coming;
      products = λ d m few fits all.
          let earlier : ℕ = length c.args.coming.now.items - length left in
          let most : length later ≤ max n (bar + 1) = omega (arith, before.no_more, long, is_next.from) in
          subst (λ k. c.place_table.new.products ≤ risen c.args.products.now (k * d)) (omega (arith, all, before.less, fewer))
          (risen_more c.args.products.now earlier d c.tables.products c.place_table.new.products (before.products d earlier few fits (omega (arith, before.less)))
          (step.products.1 d (omega (arith, most, few, fits, is_next.within))));
      less = omega (arith, before.less, fewer);
      rises = omega (arith, before.rises, step.products.0);
    }

pub returns-clause-exchanged : goal.returns-clause-exchanged
returns-clause-exchanged g c = λ x h same.
    stayed_up_to x h.is c.args.channel h.voice (reverse c.args.coming.now.items) c.args.gone.now.items c.tables.first c.args.bars c.tables.coming.items c.tables.gone.items c.tables.voice.tables
    c.tables.invariant.within (omega (arith, same))
    (λ k from lt last. c.in_default.ensures.none k (subst (λ ts. IsNextBar ts c.args.channel c.tables.first c.args.bars k) (sym c.as_slice.ensures.value) (record { from = from; within = lt; last = last })))
    (c.tables.invariant.exchanged x h same)
