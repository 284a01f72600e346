use Rattle.std.specs.Prelude.{◌≡◌, ◌+◌, ◌-◌, ◌*◌, ◌≤◌, ◌^◌, ℕ, All, drop, length, reverse, vec_capacity}
use Rattle.rhythm_base.specs.Counter.{risen}
use Rattle.edit_session.specs.Exchange.{AreVoicesBefore, Change, IsCheapTable, tables_below}
use Rattle.edit_session.proofs.ExchangedVoices.{AreVoicesUpTo}
use Rattle.edit_session.proofs.exchange.exchange_voices.Given as goal

abbrev pub invariant-voices : goal.invariant-voices
invariant-voices g l = record {
  exchanged : (x : Change) → AreVoicesBefore x l.initial.voices (reverse l.initial.coming.items) → l.channels ≡ x.before.channels → l.bars ≡ length x.after.bars
      → AreVoicesUpTo x l.number l.voices (reverse l.initial.coming.items) (reverse l.coming.items) l.gone.items;
  same : drop l.number l.voices ≡ drop l.number l.initial.voices;
  long : length l.voices ≡ length l.initial.voices;
  rooms : (n : ℕ) → All (λ v. n ≤ v.room) l.initial.voices → All (λ v. n ≤ v.room) l.voices;
  cheap : All IsCheapTable l.coming.items;
  count : (n : ℕ) → All (λ v. length v.tables ≡ n) l.initial.voices → length l.gone.items + tables_below n l.coming.items ≡ tables_below n l.initial.coming.items + l.number * (n - l.bars);
  capacity : vec_capacity l.gone ≡ vec_capacity l.initial.gone;
  capacity_coming : vec_capacity l.coming ≡ vec_capacity l.initial.coming;
  products : (d m n : ℕ) → All (λ v. length v.tables ≡ n) l.initial.voices → n ≤ 2 ^ d → l.bars ≤ 2 ^ d → length l.initial.coming.items ≡ length l.coming.items + m
      → l.products ≤ risen l.initial.products ((m + l.number * (n - l.bars)) * d);
  upto : l.number ≤ length l.initial.voices;
  less : length l.coming.items ≤ length l.initial.coming.items;
  rises : l.initial.products ≤ l.products;
}
