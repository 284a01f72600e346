use Rattle.std.proofs.Common.{rules, ◌≡◌, ◌≤◌, ◌<◌, ◌+◌, ◌*◌, ◌-◌, ◌++◌, ◌∷◌, [], length, refl, sym, ap, ◌∙◌, subst, inl, inr, append-nil, arith}
use Rattle.std.specs.Prelude.{reverse}
use Rattle.std.proofs.lemmas.List.{drop_all, length-append, take_all}
use Rattle.rhythm_base.specs.Counter.{risen}
use Rattle.edit_session.specs.Exchange.{tables_of_bars}
use Rattle.edit_session.specs.Prepared.{CellTable}
use Rattle.edit_session.proofs.LostTables.{lost_one}
use Rattle.edit_session.proofs.Risen.{risen_more}
use Rattle.edit_session.proofs.exchange.pop_lost.Goals as goal

pub lost-init : goal.lost-init
lost-init g c =
    let tables = c.args.voice.now.tables in
    record {
      fewer = omega arith;
      tables = sym (take_all (length tables) tables (omega arith));
      some = inr refl;
      gone = sym (ap (λ ts. c.args.gone.now.items ++ reverse (tables_of_bars c.args.channel (length tables) ts)) (drop_all (length tables) tables (omega arith)) ∙ append-nil c.args.gone.now.items);
      room = refl;
      capacity = refl;
      count = refl;
      products = λ d few. omega arith;
      rises = omega arith;
    }

pub lost-preserved : goal.lost-preserved
lost-preserved g c =
    let all = c.args.voice.now.tables in
    let before = c.lost.voice.tables in
    let after = c.pop-table.new.self.tables in
    let long : length before ≡ length after + 1 = ap length c.pop-table.ensures.tables ∙ length-append after (c.pop-table.result ∷ []) in
    let more : c.args.bars < length before = omega (arith, c.lost-test.true, ap length c.tables.ensures) in
    let last : CellTable = record { channel = c.args.channel; bar = length after; table = c.pop-table.result } in
    let pushed : c.push_reserved.new.self.items ≡ c.lost.gone.items ++ last ∷ [] = search rules in
    let one = lost_one c.args.channel all before after c.pop-table.result c.args.gone.now.items c.lost.gone.items c.push_reserved.new.self.items c.lost.invariant.fewer c.lost.invariant.tables
    c.pop-table.ensures.tables c.lost.invariant.gone pushed in
    record {
      fewer = omega (arith, long, c.lost.invariant.fewer);
      tables = one.0;
      some = inl (omega (arith, more, long));
      gone = one.1;
      room = c.pop-table.ensures.room ∙ c.lost.invariant.room;
      capacity = c.push_reserved.ensures.capacity ∙ c.lost.invariant.capacity;
      count = omega (arith, ap length pushed, length-append c.lost.gone.items (last ∷ []), long, c.lost.invariant.count);
      products = λ d few.
          let step = c.pop-table.ensures.products.1 d (omega (arith, few, c.lost.invariant.fewer)) in
          subst (λ n. c.pop-table.new.products ≤ risen c.args.products.now (n * d)) (omega (arith, long, c.lost.invariant.fewer))
          (risen_more c.args.products.now (length all - length before) d c.lost.products c.pop-table.new.products (c.lost.invariant.products d few) step);
      rises = omega (arith, c.lost.invariant.rises, c.pop-table.ensures.products.0);
    }
