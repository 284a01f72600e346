use Rattle.std.specs.Prelude.{◌≡◌, ◌+◌, ◌*◌, ◌≤◌, ◌^◌, ℕ, All, length, max, reverse, vec_capacity}
use Rattle.rhythm_base.specs.Counter.{risen}
use Rattle.edit_session.specs.Exchange.{Change, IsCheapTable, IsVoiceBefore, IsVoiceUpTo, tables_below}
use Rattle.edit_session.proofs.exchange.exchange_bars.Given as goal

abbrev pub invariant-tables : goal.invariant-tables
invariant-tables g l = record {
  exchanged : (x : Change) → IsVoiceBefore x l.channel l.initial.voice.tables (reverse l.initial.coming.items) l.initial.gone.items → l.bars ≡ length x.after.bars
      → IsVoiceUpTo x l.channel l.first l.voice.tables (reverse l.initial.coming.items) l.initial.gone.items (reverse l.coming.items) l.gone.items;
  within : l.first ≤ l.bars;
  no_fewer : length l.initial.voice.tables ≤ length l.voice.tables;
  no_more : length l.voice.tables ≤ max (length l.initial.voice.tables) l.first;
  room : l.voice.room ≡ l.initial.voice.room;
  cheap : All IsCheapTable l.coming.items;
  count : length l.gone.items + tables_below (length l.initial.voice.tables) l.coming.items ≡ length l.initial.gone.items + tables_below (length l.initial.voice.tables) l.initial.coming.items;
  capacity : vec_capacity l.gone ≡ vec_capacity l.initial.gone;
  capacity_coming : vec_capacity l.coming ≡ vec_capacity l.initial.coming;
  products : (d m : ℕ) → length l.initial.voice.tables ≤ 2 ^ d → l.bars ≤ 2 ^ d → length l.initial.coming.items ≡ length l.coming.items + m → l.products ≤ risen l.initial.products (m * d);
  less : length l.coming.items ≤ length l.initial.coming.items;
  rises : l.initial.products ≤ l.products;
}

abbrev pub decreases-tables : goal.decreases-tables
decreases-tables g l = length l.coming.items
