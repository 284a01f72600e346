use Rattle.std.proofs.Common.{◌≡◌, ◌≤◌, ◌<◌, ◌+◌, ◌-◌, ◌*◌, ℕ, length, get_or, refl, sym, ap, ◌∙◌, subst, arith}
use Rattle.std.specs.Prelude.{nat_lt, reverse, vec_capacity}
use Rattle.std.proofs.Math.Nat.{mul-le-mul_right}
use Rattle.std.proofs.lemmas.List.{drop-set-lt, get_or_default, length-reverse, length-set}
use Rattle.std.proofs.lemmas.List.Elements.{All-set}
use Rattle.rhythm_base.specs.Counter.{risen}
use Rattle.edit_session.specs.Exchange.{AreVoicesAfter, tables_below}
use Rattle.edit_session.specs.Kept.{AreTablesOfVoice}
use Rattle.edit_session.specs.VoiceTables.{VoiceTables}
use Rattle.edit_session.proofs.EachRuns.{Each-at}
use Rattle.edit_session.proofs.ExchangedVoices.{AreVoicesUpTo, same_at, same_rest, voice_next, voices_begun, voices_ended, voices_more}
use Rattle.edit_session.proofs.Risen.{risen_both, risen_upto}
use Rattle.edit_session.proofs.exchange.exchange_voices.Goals as goal
use Rattle.rhythm_base.proofs.ListParts.{filter_few}

pub voices-init : goal.voices-init
voices-init g c = record {
  exchanged = λ x h channels bars. subst (AreVoicesUpTo x 0 c.args.voices.now (reverse c.args.coming.now.items) (reverse c.args.coming.now.items)) (sym c.requires.none)
      (voices_begun x c.args.voices.now (reverse c.args.coming.now.items) h);
  same = refl;
  long = refl;
  rooms = λ n all. all;
  cheap = c.requires.cheap;
  count = λ n each. let none : length c.args.gone.now.items ≡ 0 = ap length c.requires.none in omega (arith, none);
  capacity = refl;
  capacity_coming = refl;
  products = λ d m n each few fits long. omega (arith);
  upto = omega arith;
  less = omega arith;
  rises = omega arith;
}

pub exchange_voice-requires-clause-few_before : goal.exchange_voice-requires-clause-few_before
exchange_voice-requires-clause-few_before g c κs within =
    let v : VoiceTables = c.index-voices-number.result in
    let same : get_or c.voices.voices c.voices.number v ≡ get_or c.args.voices.now c.voices.number v = same_at c.voices.number c.voices.voices c.args.voices.now v c.voices.invariant.same in
    let long : length (get_or c.args.voices.now c.voices.number v).tables ≡ c.requires.memory.count = c.requires.memory.each c.voices.number v c.voices-test.true in
    omega (arith, long, ap (λ (u : VoiceTables). length u.tables) same, c.requires.memory.few)

pub exchange_voice-requires-clause-room : goal.exchange_voice-requires-clause-room
exchange_voice-requires-clause-room g c κs within =
    c.voices.invariant.rooms c.args.bars c.requires.room c.voices.number c.index-voices-number.result (omega (arith, c.voices-test.true, c.voices.invariant.long))

pub exchange_voice-requires-clause-memory : goal.exchange_voice-requires-clause-memory
exchange_voice-requires-clause-memory g c κs within =
    let v : VoiceTables = c.index-voices-number.result in
    let n : ℕ = c.requires.memory.count in
    let same : get_or c.voices.voices c.voices.number v ≡ get_or c.args.voices.now c.voices.number v = same_at c.voices.number c.voices.voices c.args.voices.now v c.voices.invariant.same in
    let long : length (get_or c.voices.voices c.voices.number v).tables ≡ n = ap (λ (u : VoiceTables). length u.tables) same ∙ c.requires.memory.each c.voices.number v c.voices-test.true in
    let count = c.voices.invariant.count n c.requires.memory.each in
    let more : (c.voices.number + 1) * (n - c.args.bars) ≤ length c.args.voices.now * (n - c.args.bars) = mul-le-mul_right (n - c.args.bars) (omega (arith, c.voices-test.true)) in
    let next : (c.voices.number + 1) * (n - c.args.bars) ≡ c.voices.number * (n - c.args.bars) + (n - c.args.bars) = grind arith in
    subst (λ m. length c.voices.gone.items + tables_below m c.voices.coming.items + (m - c.args.bars) ≤ vec_capacity c.voices.gone) (sym long)
    (omega (arith, count, more, next, c.requires.memory.enough, c.voices.invariant.capacity))

pub voices-preserved : goal.voices-preserved
voices-preserved g c =
    let k : ℕ = c.voices.number in
    let v : VoiceTables = c.index-voices-number.result in
    let voice : VoiceTables = get_or c.voices.voices k v in
    let now : VoiceTables = c.exchange_voice.new.voice in
    let inv = c.voices.invariant in
    let step = c.exchange_voice.ensures in
    let same : voice ≡ get_or c.args.voices.now k v = same_at k c.voices.voices c.args.voices.now v inv.same in
    let low : k < length c.voices.voices = omega (arith, c.voices-test.true, inv.long) in
    let channel : ℕ = get_or c.args.channels.now k 0 in
    record {
      exchanged = λ x h channels bars.
          let prior = inv.exchanged x h channels bars in
          let lt : k < length x.before.channels = omega (arith, c.voices-test.true, c.requires.channels, ap length channels) in
          let at : get_or x.before.channels k 16 ≡ channel = get_or_default x.before.channels k 16 0 lt ∙ ap (λ cs. get_or cs k 0) (sym channels) in
          let there : AreTablesOfVoice x.grammar x.before (get_or x.before.channels k 16) (get_or c.args.voices.now k v).tables =
          Each-at (λ d (u : VoiceTables). AreTablesOfVoice x.grammar x.before d u.tables) x.before.channels c.args.voices.now k 16 v lt h.tables in
          let tables : AreTablesOfVoice x.grammar x.before channel voice.tables =
          subst (λ d. AreTablesOfVoice x.grammar x.before d voice.tables) at (subst (λ (u : VoiceTables). AreTablesOfVoice x.grammar x.before (get_or x.before.channels k 16) u.tables) (sym same) there) in
          let next = voice_next x k channel c.voices.voices voice (reverse c.args.coming.now.items) (reverse c.voices.coming.items) c.voices.gone.items h.is lt at tables prior in
          voices_more x k channel c.voices.voices now (reverse c.args.coming.now.items) (reverse c.voices.coming.items) c.voices.gone.items (reverse c.exchange_voice.new.coming.items)
          c.exchange_voice.new.gone.items h.is lt low at prior (step.exchanged x next bars);
      same = drop-set-lt (k + 1) c.voices.voices k now (omega arith) ∙ same_rest k c.voices.voices c.args.voices.now inv.same;
      long = length-set c.voices.voices k now ∙ inv.long;
      rooms = λ n all. All-set (λ (u : VoiceTables). n ≤ u.room) c.voices.voices k now (let here = inv.rooms n all k v low in omega (arith, here, step.room)) (inv.rooms n all);
      cheap = step.cheap;
      count = λ n each.
          let long : length voice.tables ≡ n = ap (λ (u : VoiceTables). length u.tables) same ∙ each k v c.voices-test.true in
          let here : length c.exchange_voice.new.gone.items + tables_below n c.exchange_voice.new.coming.items ≡ length c.voices.gone.items + tables_below n c.voices.coming.items + (n - c.args.bars) =
          subst (λ m. length c.exchange_voice.new.gone.items + tables_below m c.exchange_voice.new.coming.items ≡ length c.voices.gone.items + tables_below m c.voices.coming.items + (m - c.args.bars)) long step.count in
          let next : (k + 1) * (n - c.args.bars) ≡ k * (n - c.args.bars) + (n - c.args.bars) = grind arith in
          let before : length c.voices.gone.items + tables_below n c.voices.coming.items ≡ tables_below n c.args.coming.now.items + k * (n - c.args.bars) = inv.count n each in
          omega (arith, here, next, before);
      capacity = step.capacity ∙ inv.capacity;
      capacity_coming = step.capacity_coming ∙ inv.capacity_coming;
      products = λ d m n each few fits long.
          let here : length voice.tables ≡ n = ap (λ (u : VoiceTables). length u.tables) same ∙ each k v c.voices-test.true in
          let later : ℕ = length c.voices.coming.items - length c.exchange_voice.new.coming.items in
          let earlier : ℕ = length c.args.coming.now.items - length c.voices.coming.items in
          let next : (k + 1) * (n - c.args.bars) ≡ k * (n - c.args.bars) + (n - c.args.bars) = grind arith in
          subst (λ j. c.exchange_voice.new.products ≤ risen c.args.products.now (j * d)) (omega (arith, long, inv.less, step.less, here, next))
          (risen_both c.args.products.now (earlier + k * (n - c.args.bars)) (later + (length voice.tables - c.args.bars)) d c.voices.products c.exchange_voice.new.products
          (inv.products d earlier n each few fits (omega (arith, inv.less))) (step.products.1 d later (omega (arith, here, few)) fits (omega (arith, step.less))));
      upto = omega (arith, c.voices-test.true);
      less = omega (arith, inv.less, step.less);
      rises = omega (arith, inv.rises, step.products.0);
    }

pub returns-clause-exchanged : goal.returns-clause-exchanged
returns-clause-exchanged g c = λ x h channels bars.
    let long : length c.voices.voices ≡ length x.before.channels = omega (arith, c.voices.invariant.long, c.requires.channels, ap length channels) in
    subst (AreVoicesAfter x c.voices.voices c.voices.gone.items) (length-reverse c.args.coming.now.items)
    (voices_ended x c.voices.number c.voices.voices (reverse c.args.coming.now.items) (reverse c.voices.coming.items) c.voices.gone.items h.is
    (omega (arith, long, c.voices-test.false, c.voices.invariant.long)) long (c.voices.invariant.exchanged x h channels bars))

pub returns-clause-count : goal.returns-clause-count
returns-clause-count g c = λ n each.
    let first : tables_below n c.args.coming.now.items ≤ length c.args.coming.now.items = filter_few (λ t. nat_lt t.bar n) c.args.coming.now.items in
    let upto : c.voices.number * (n - c.args.bars) ≤ length c.args.voices.now * (n - c.args.bars) = mul-le-mul_right (n - c.args.bars) c.voices.invariant.upto in
    omega (arith, c.voices.invariant.count n each, first, upto)

pub returns-clause-products : goal.returns-clause-products
returns-clause-products g c = (
  c.voices.invariant.rises,
  λ d n each few fits.
      let less = c.voices.invariant.less in
      let m : ℕ = length c.args.coming.now.items - length c.voices.coming.items in
      let upto : c.voices.number * (n - c.args.bars) ≤ length c.args.voices.now * (n - c.args.bars) = mul-le-mul_right (n - c.args.bars) c.voices.invariant.upto in
      risen_upto c.args.products.now (m + c.voices.number * (n - c.args.bars)) (length c.args.coming.now.items + length c.args.voices.now * (n - c.args.bars)) d c.voices.products
      (omega (arith, upto)) (c.voices.invariant.products d m n each few fits (omega (arith, less))),
)
