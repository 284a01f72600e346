use Rattle.std.proofs.Common.{◌≡◌, ◌==◌, ◌<◌, ◌≤◌, ◌+◌, ◌*◌, ℕ, Bool, true, false, List, [], ◌∷◌, length, get_or, refl, ap, ◌∙◌, arith}
use Rattle.std.specs.Prelude.{Some, None, if◌then◌else◌}
use Rattle.std.proofs.lemmas.Option.{slice_get-get_or}
use Rattle.least_rows.specs.Ways.{one_way, rank_in, way_on}
use Rattle.least_rows.specs.declared.entry.Entry.{Entry}
use Rattle.least_rows.specs.declared.way.Way.{Way}
use Rattle.least_rows.proofs.lead.lead_by_row.Goals as goal

-- a row with one entry
one-entry : (es : List Entry) (z : Entry) → 1 ≤ length es → length es < 2 → (way : Way) (count b : ℕ)
    → one_way (record { cost = way.cost + (get_or es 0 z).cost; order = way.order * 8 + 0; way = way.way * 8 + count }) (get_or es 0 z).to b ≡ way_on (Some way) count (rank_in es 0 b)
one-entry [] z some few way count b = absurd (omega (arith, some))
one-entry (e ∷ f ∷ es) z some few way count b = absurd (omega (arith, few))
one-entry (e ∷ []) z some few way count b = go (e.to == b)
  where
    go : (t : Bool) → (if t then Some (record { cost = way.cost + e.cost; order = way.order * 8 + 0; way = way.way * 8 + count }) else None) ≡ way_on (Some way) count (if t then Some (e.cost, 0) else None)
    go true = refl
    go false = refl

pub returns-in-len1 : goal.returns-in-len1
returns-in-len1 c =
    let z : Entry = record { cost = 0; to = 0; rule = 0; cut = None; way = 0 } in
    let some = c.in-len1.len_at_least in
    let low : 0 < length c.args.entries.now = omega (arith, some) in (
      (c.requires.entries.each 0 (get_or c.args.entries.now 0 z) (slice_get-get_or c.args.entries.now 0 z low)).0,
      λ b lb. ap (λ w. one_way w (get_or c.args.entries.now 0 z).to b) c.then.ensures ∙ one-entry c.args.entries.now z some c.in-len1.len_below c.args.way c.args.count b,
    )
