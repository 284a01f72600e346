use Rattle.std.proofs.Common.{rules, ◌≡◌, ◌<◌, ◌+◌, ◌*◌, ◌∙◌, length, refl, ap, arith}
use Rattle.std.specs.Prelude.{Some, None, slice_get, slice_index_or}
use Rattle.std.proofs.lemmas.Option.{slice_get-get_or}
use Rattle.least_rows.specs.declared.entry.Entry.{Entry}
use Rattle.least_rows.specs.declared.way.Way.{Way}
use Rattle.least_rows.specs.Ways.{nearer_way, way_in}
use Rattle.least_rows.proofs.Joins.{join-more}
use Rattle.least_rows.proofs.ways.join.Goals as goal

pub entries-preserved : goal.entries-preserved
entries-preserved c =
    let n = c.entries.entry-index in
    let z : Entry = record { cost = 0; to = 0; rule = 0; cut = None; way = 0 } in
    let e : Entry = slice_index_or c.args.entries.now n z in
    let low : n < length c.args.entries.now = search rules in
    let at : slice_get c.args.entries.now n ≡ Some e = slice_get-get_or c.args.entries.now n z low in
    let rank : c.entries.rank ≡ n = c.entries.invariant.rank in
    let whole : c.then.result ≡ record { cost = c.args.way.cost + e.cost; order = c.args.way.order * 8 + n; way = c.args.way.way * 8 + c.args.count } = c.then.ensures ∙ ap (λ r. record { cost = c.args.way.cost + e.cost; order = c.args.way.order * 8 + r; way = c.args.way.way * 8 + c.args.count }) rank in
    record {
      rank = omega (arith, rank);
      long = search rules;
      next = join-more Way nearer_way (λ o. refl) (way_in c.args.next.now) c.entries.next c.args.way c.args.count c.args.entries.now n e _ c.entries.invariant.long at c.requires.entries
          (c.offer_way.ensures ∙ ap (λ (w : Way). nearer_way (way_in c.entries.next e.to) (Some w)) whole) c.entries.invariant.next;
    }
