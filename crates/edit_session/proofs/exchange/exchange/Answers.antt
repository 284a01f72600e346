use Rattle.std.proofs.Common.{◌≡◌, ◌≤◌, ◌+◌, ◌-◌, ◌*◌, ℕ, List, length, sym, ap, ◌∙◌, subst, subst₂, arith}
use Rattle.std.specs.Prelude.{All, reverse, vec_capacity}
use Rattle.std.proofs.lemmas.List.{length-reverse, reverse-reverse}
use Rattle.edit_session.specs.Exchange.{AreVoicesBefore, IsCheapTable, tables_below}
use Rattle.edit_session.specs.Prepared.{CellTable}
use Rattle.edit_session.specs.Products.{moved_tables}
use Rattle.rhythm_base.specs.Counter.{risen}
use Rattle.edit_session.proofs.Commits.{all_long}
use Rattle.edit_session.proofs.ExchangedBars.{all_reverse}
use Rattle.edit_session.proofs.TablesBelow.{below_reverse}
use Rattle.edit_session.proofs.WaysBack.{way_back_few}
use Rattle.edit_session.proofs.exchange.exchange.Goals as goal

pub exchange_voices-requires-clause-cheap : goal.exchange_voices-requires-clause-cheap
exchange_voices-requires-clause-cheap g c κs within = subst (All IsCheapTable) (sym c.reverse.ensures.items) (all_reverse IsCheapTable c.args.tables.items c.requires.cheap)

pub exchange_voices-requires-clause-memory : goal.exchange_voices-requires-clause-memory
exchange_voices-requires-clause-memory g c κs within =
    let n : ℕ = c.requires.memory.count in
    record {
      count = n;
      few = c.requires.memory.few;
      each = c.requires.memory.each;
      enough = let same : tables_below n c.reverse.new.self.items ≡ tables_below n c.args.tables.items = ap (tables_below n) c.reverse.ensures.items ∙ below_reverse n c.args.tables.items in
          omega (arith, same, c.requires.memory.enough);
    }

pub returns-clause-exchanged : goal.returns-clause-exchanged
returns-clause-exchanged g c = λ x h channels bars.
    let items : List CellTable = c.reverse.new.self.items in
    let turned : reverse items ≡ c.args.tables.items = ap reverse c.reverse.ensures.items ∙ reverse-reverse c.args.tables.items in
    let after = c.exchange_voices.ensures.exchanged x (subst (AreVoicesBefore x c.args.voices.now) (sym turned) h) channels bars in
    let fits : length items ≤ vec_capacity c.reverse.new.self = let ok = c.reverse.new.self.ok in omega (arith, ok.0, ok.1) in
    record {
      tables = after.tables;
      reached = after.reached;
      tables_gone = after.tables_gone;
      enough = omega (arith, after.enough, fits, c.exchange_voices.ensures.capacity, c.clear.ensures.capacity);
    }

pub returns-clause-way_back : goal.returns-clause-way_back
returns-clause-way_back g c = λ x h channels bars.
    let items : List CellTable = c.reverse.new.self.items in
    let turned : reverse items ≡ c.args.tables.items = ap reverse c.reverse.ensures.items ∙ reverse-reverse c.args.tables.items in
    let long : length items ≡ length c.args.tables.items = ap length c.reverse.ensures.items ∙ length-reverse c.args.tables.items in
    let after = c.exchange_voices.ensures.exchanged x (subst (AreVoicesBefore x c.args.voices.now) (sym turned) h) channels bars in
    let each = all_long x.grammar x.before x.before.channels c.args.voices.now h.tables in
    let count = c.exchange_voices.ensures.count (length x.before.bars) each in
    subst (λ n. moved_tables x.after x.before (length c.exchange_voices.new.gone.items) ≤ moved_tables x.before x.after n) long
    (way_back_few x c.exchange_voices.new.voices c.exchange_voices.new.gone.items (length items) h.is after
    (subst₂ (λ n b. length c.exchange_voices.new.gone.items ≤ length items + n * (length x.before.bars - b)) (c.requires.channels ∙ ap length channels) bars count))

pub returns-clause-products : goal.returns-clause-products
returns-clause-products g c = (
  c.exchange_voices.ensures.products.0,
  λ d n each few fits.
      subst (λ m. c.exchange_voices.new.products ≤ risen c.args.products.now ((m + length c.args.voices.now * (n - c.args.bars)) * d))
      (ap length c.reverse.ensures.items ∙ length-reverse c.args.tables.items) (c.exchange_voices.ensures.products.1 d n each few fits),
)
