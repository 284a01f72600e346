-- The way back moves no more tables than the way there.
use Rattle.std.proofs.Common.{◌≡◌, ℕ, ◌+◌, ◌-◌, ◌*◌, ◌<◌, ◌≤◌, List, length, get_or, map, ap, ◌∙◌, subst, inl, inr, arith}
use Rattle.std.specs.Prelude.{All, Contains}
use Rattle.std.proofs.lemmas.Bool.{cases_lt}
use Rattle.std.proofs.lemmas.List.{get_or-map, length-map}
use Rattle.std.proofs.lemmas.List.Elements.{Contains-get_or}
use Rattle.edit_session.specs.Exchange.{AreVoicesAfter, Change, IsChange, tables_below}
use Rattle.edit_session.specs.Prepared.{CellTable, cell_of}
use Rattle.edit_session.specs.Products.{moved_tables}
use Rattle.edit_session.specs.VoiceTables.{VoiceTables}
use Rattle.edit_session.proofs.TablesBelow.{all_below}

nothing : (n : ℕ) → n * 0 ≡ 0
nothing n = omega arith

-- what goes out is of the bars before
out_before : (x : Change) (voices : List VoiceTables) (gone : List CellTable) (place : ℕ) → AreVoicesAfter x voices gone place → All (λ t. t.bar < length x.before.bars) gone
out_before x voices gone place h = λ k d lt.
    let own : ℕ × ℕ = cell_of (get_or gone k d) in
    let there = Contains-get_or (map cell_of gone) k (cell_of d) (omega (arith, lt, length-map gone cell_of)) in
    let is : get_or (map cell_of gone) k (cell_of d) ≡ own = get_or-map cell_of gone k d (cell_of d) lt in
    ((h.reached.exactly own.0 own.1).0 (subst (Contains (map cell_of gone)) is there)).1

pub way_back_few : (x : Change) (voices : List VoiceTables) (gone : List CellTable) (coming : ℕ) → IsChange x → AreVoicesAfter x voices gone coming
    → length gone ≤ coming + length x.before.channels * (length x.before.bars - length x.after.bars)
    → moved_tables x.after x.before (length gone) ≤ moved_tables x.before x.after coming
way_back_few x voices gone coming is h few = elim (cases_lt (length x.after.bars) (length x.before.bars)) [
  | inl less ↦
      let none : length x.after.bars - length x.before.bars ≡ 0 = omega (arith, less) in
      let gains : length x.after.channels * (length x.after.bars - length x.before.bars) ≡ 0 = ap (λ n. length x.after.channels * n) none ∙ nothing (length x.after.channels) in
      omega (arith, few, gains)
  | inr more ↦
      let gain : ℕ = length x.after.bars - length x.before.bars in
      let same : length x.after.channels * gain ≡ length x.before.channels * gain = ap (λ cs. length cs * gain) is.channels in
      let all : tables_below (length x.after.bars) gone ≡ length gone =
      all_below (length x.after.bars) gone (λ k d lt. let low = out_before x voices gone coming h k d lt in omega (arith, low, more)) in
      omega (arith, same, all, h.enough)
]
