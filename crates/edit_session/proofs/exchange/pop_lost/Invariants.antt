use Rattle.std.specs.Prelude.{◌≡◌, ◌⊎◌, ◌+◌, ◌*◌, ◌-◌, ◌≤◌, ◌^◌, ◌++◌, ℕ, drop, length, reverse, take, vec_capacity}
use Rattle.rhythm_base.specs.Counter.{risen}
use Rattle.edit_session.specs.Exchange.{tables_of_bars}
use Rattle.edit_session.proofs.exchange.pop_lost.Given as goal

abbrev pub invariant-lost : goal.invariant-lost
invariant-lost g l = record {
  fewer : length l.voice.tables ≤ length l.initial.voice.tables;
  tables : l.voice.tables ≡ take (length l.voice.tables) l.initial.voice.tables;
  some : (l.bars ≤ length l.voice.tables) ⊎ (length l.voice.tables ≡ length l.initial.voice.tables);
  gone : l.gone.items ≡ l.initial.gone.items ++ reverse (tables_of_bars l.channel (length l.voice.tables) (drop (length l.voice.tables) l.initial.voice.tables));
  room : l.voice.room ≡ l.initial.voice.room;
  capacity : vec_capacity l.gone ≡ vec_capacity l.initial.gone;
  count : length l.gone.items + length l.voice.tables ≡ length l.initial.gone.items + length l.initial.voice.tables;
  products : (d : ℕ) → length l.initial.voice.tables ≤ 2 ^ d → l.products ≤ risen l.initial.products ((length l.initial.voice.tables - length l.voice.tables) * d);
  rises : l.initial.products ≤ l.products;
}

abbrev pub decreases-lost : goal.decreases-lost
decreases-lost g l = length l.voice.tables
