use Rattle.std.proofs.Common.{rules, ◌≡◌, ◌≤◌, ◌<◌, ◌^◌, ◌++◌, ℕ, List, length, get_or, take, drop, sym, ap, ◌∙◌, subst, arith}
use Rattle.std.specs.Prelude.{All, sum_by, vec_capacity}
use Rattle.std.proofs.lemmas.List.Elements.{All-contains}
use Rattle.std.proofs.lemmas.Option.{slice_get_within}
use Rattle.performance_laws.proofs.OneVoices.{dead_has_none}
use Rattle.rhythm_base.specs.Performance.{Performance}
use Rattle.rhythm_base.specs.Voices.{HasDerivation, IsCostOf, IsDeadVoice}
use Rattle.edit_session.specs.Exchange.{HasPlace, IsCheapTable}
use Rattle.edit_session.specs.Kept.{IsKeptVoice, IsSession}
use Rattle.edit_session.specs.Prepared.{Prepared, Suits}
use Rattle.edit_session.specs.Session.{Session}
use Rattle.edit_session.specs.VoiceTables.{HasPath, IsFirstDead, VoiceTables, voice_cost}
use Rattle.edit_session.proofs.Commits.{all_cheap, all_rooms, dead_after, exchanged_for, place_back, place_for_next, session_back, session_next, suits_kept, suits_next}
use Rattle.derivation.proofs.Pairs.{each_length}
use Rattle.edit_session.proofs.GrownVoices.{written_back}
use Rattle.edit_session.proofs.PathCosts.{costs_fit}
use Rattle.edit_session.proofs.SessionProducts.{products_back, products_there}
use Rattle.edit_session.proofs.Voices.{all_costs, all_derivations}
use Rattle.edit_session.proofs.session.Session.commit.Goals as goal

-- ---- before the exchange

pub exchange-exchanged-requires-clause-channels : goal.exchange-exchanged-requires-clause-channels
exchange-exchanged-requires-clause-channels g c κs within =
    let kept = c.self.inside in
    let voices = each_length (IsKeptVoice kept.grammar kept.performance kept.room) kept.performance.channels kept.voices.items c.self.invariant.each in
    let same : length c.parts-next.result.0.channels ≡ length kept.performance.channels =
    ap (λ (p : Performance). length p.channels) c.parts-next.ensures.next ∙ ap length c.requires.suits.channels ∙ sym (ap (λ (s : Session). length s.performance.channels) c.self.view_is) in
    omega (arith, ap length c.as_mut_slice-voices.ensures.value, voices, same, ap length c.channels.ensures)

pub exchange-exchanged-requires-clause-room : goal.exchange-exchanged-requires-clause-room
exchange-exchanged-requires-clause-room g c κs within =
    let kept = c.self.inside in
    let few : length c.bars-bars.result.now ≤ kept.room =
    omega (arith, c.requires.room, ap length c.bars-bars.ensures.value, ap (λ (p : Performance). length p.bars) c.parts-next.ensures.next, ap (λ (s : Session). s.room) c.self.view_is) in
    subst (All (λ (v : VoiceTables). length c.bars-bars.result.now ≤ v.room)) (sym c.as_mut_slice-voices.ensures.value)
    (all_rooms kept.grammar kept.performance kept.room (length c.bars-bars.result.now) kept.performance.channels kept.voices.items few c.self.invariant.each)

pub exchange-exchanged-requires-clause-cheap : goal.exchange-exchanged-requires-clause-cheap
exchange-exchanged-requires-clause-cheap g c κs within =
    subst (All IsCheapTable) (sym c.parts-next.ensures.tables) (all_cheap c.args.self.now.grammar c.args.prepared.next c.args.prepared.tables c.requires.suits.tables)

pub exchange-exchanged-requires-clause-memory : goal.exchange-exchanged-requires-clause-memory
exchange-exchanged-requires-clause-memory g c κs within =
    let kept = c.self.inside in
    let next : Performance = c.parts-next.result.0 in
    let tables = c.parts-next.result.1.items in
    let place : ℕ = vec_capacity c.parts-next.result.2 in
    let suits = suits_kept kept.grammar kept.performance kept.workers kept.room c.args.self.now c.args.prepared next tables place c.self.view_is c.parts-next.ensures.next c.parts-next.ensures.tables c.parts-next.ensures.place
    c.requires.suits in
    place_for_next kept.grammar kept.performance kept.workers kept.room kept.voices.items c.as_mut_slice-voices.result.now (record { next = next; tables = tables; place = place }) (length c.bars-bars.result.now)
    c.self.invariant suits c.as_mut_slice-voices.ensures.value (ap length c.bars-bars.ensures.value)

-- ---- before the way back

pub exchange-back-requires-clause-channels : goal.exchange-back-requires-clause-channels
exchange-back-requires-clause-channels g c κs within =
    let facts = exchanged_for c.self.inside.grammar c.self.inside.performance c.self.inside.workers c.self.inside.room c.self.inside.voices.items c.args.self.now c.args.prepared c.parts-next.result.0
    c.parts-next.result.1.items (vec_capacity c.parts-next.result.2) c.self.invariant c.self.view_is c.parts-next.ensures.next c.parts-next.ensures.tables c.parts-next.ensures.place c.requires.suits
    c.bars-bars.ensures.formed c.as_mut_slice-voices.result.now c.exchange-exchanged.new.voices c.channels.result.now (length c.bars-bars.result.now) c.exchange-exchanged.result.tables.items
    (vec_capacity c.exchange-exchanged.result.place) c.as_mut_slice-voices.ensures.value c.channels.ensures (ap length c.bars-bars.ensures.value) c.exchange-exchanged.ensures.exchanged
    c.exchange-exchanged.ensures.voices c.exchange-exchanged.ensures.room in
    let written = written_back c.self.inside.voices.len c.self.inside.voices.items c.exchange-exchanged.new.voices
    (omega (arith, c.as_mut_slice-voices.ensures.len, ap length c.as_mut_slice-voices.ensures.value)) facts.long in
    let slice : c.as_mut_slice-voices-in-Some.result.now ≡ c.exchange-exchanged.new.voices = c.as_mut_slice-voices-in-Some.ensures.value ∙ written in
    omega (arith, ap length slice, facts.number, ap length c.channels-in-Some.ensures)

pub exchange-back-requires-clause-room : goal.exchange-back-requires-clause-room
exchange-back-requires-clause-room g c κs within =
    let facts = exchanged_for c.self.inside.grammar c.self.inside.performance c.self.inside.workers c.self.inside.room c.self.inside.voices.items c.args.self.now c.args.prepared c.parts-next.result.0
    c.parts-next.result.1.items (vec_capacity c.parts-next.result.2) c.self.invariant c.self.view_is c.parts-next.ensures.next c.parts-next.ensures.tables c.parts-next.ensures.place c.requires.suits
    c.bars-bars.ensures.formed c.as_mut_slice-voices.result.now c.exchange-exchanged.new.voices c.channels.result.now (length c.bars-bars.result.now) c.exchange-exchanged.result.tables.items
    (vec_capacity c.exchange-exchanged.result.place) c.as_mut_slice-voices.ensures.value c.channels.ensures (ap length c.bars-bars.ensures.value) c.exchange-exchanged.ensures.exchanged
    c.exchange-exchanged.ensures.voices c.exchange-exchanged.ensures.room in
    let written = written_back c.self.inside.voices.len c.self.inside.voices.items c.exchange-exchanged.new.voices
    (omega (arith, c.as_mut_slice-voices.ensures.len, ap length c.as_mut_slice-voices.ensures.value)) facts.long in
    let slice : c.as_mut_slice-voices-in-Some.result.now ≡ c.exchange-exchanged.new.voices = c.as_mut_slice-voices-in-Some.ensures.value ∙ written in
    let bars : length c.bars-bars-in-Some.result.now ≡ length c.self.inside.performance.bars = ap length c.bars-bars-in-Some.ensures.value in
    subst (All (λ (v : VoiceTables). length c.bars-bars-in-Some.result.now ≤ v.room)) (sym slice)
    (facts.rooms (length c.bars-bars-in-Some.result.now) (omega (arith, bars, c.self.invariant.memory)))

pub exchange-back-requires-clause-cheap : goal.exchange-back-requires-clause-cheap
exchange-back-requires-clause-cheap g c κs within =
    let facts = exchanged_for c.self.inside.grammar c.self.inside.performance c.self.inside.workers c.self.inside.room c.self.inside.voices.items c.args.self.now c.args.prepared c.parts-next.result.0
    c.parts-next.result.1.items (vec_capacity c.parts-next.result.2) c.self.invariant c.self.view_is c.parts-next.ensures.next c.parts-next.ensures.tables c.parts-next.ensures.place c.requires.suits
    c.bars-bars.ensures.formed c.as_mut_slice-voices.result.now c.exchange-exchanged.new.voices c.channels.result.now (length c.bars-bars.result.now) c.exchange-exchanged.result.tables.items
    (vec_capacity c.exchange-exchanged.result.place) c.as_mut_slice-voices.ensures.value c.channels.ensures (ap length c.bars-bars.ensures.value) c.exchange-exchanged.ensures.exchanged
    c.exchange-exchanged.ensures.voices c.exchange-exchanged.ensures.room in
    all_cheap c.self.inside.grammar c.self.inside.performance c.exchange-exchanged.result.tables.items facts.after.tables_gone

pub exchange-back-requires-clause-memory : goal.exchange-back-requires-clause-memory
exchange-back-requires-clause-memory g c κs within =
    let facts = exchanged_for c.self.inside.grammar c.self.inside.performance c.self.inside.workers c.self.inside.room c.self.inside.voices.items c.args.self.now c.args.prepared c.parts-next.result.0
    c.parts-next.result.1.items (vec_capacity c.parts-next.result.2) c.self.invariant c.self.view_is c.parts-next.ensures.next c.parts-next.ensures.tables c.parts-next.ensures.place c.requires.suits
    c.bars-bars.ensures.formed c.as_mut_slice-voices.result.now c.exchange-exchanged.new.voices c.channels.result.now (length c.bars-bars.result.now) c.exchange-exchanged.result.tables.items
    (vec_capacity c.exchange-exchanged.result.place) c.as_mut_slice-voices.ensures.value c.channels.ensures (ap length c.bars-bars.ensures.value) c.exchange-exchanged.ensures.exchanged
    c.exchange-exchanged.ensures.voices c.exchange-exchanged.ensures.room in
    let written = written_back c.self.inside.voices.len c.self.inside.voices.items c.exchange-exchanged.new.voices
    (omega (arith, c.as_mut_slice-voices.ensures.len, ap length c.as_mut_slice-voices.ensures.value)) facts.long in
    let slice : c.as_mut_slice-voices-in-Some.result.now ≡ c.exchange-exchanged.new.voices = c.as_mut_slice-voices-in-Some.ensures.value ∙ written in
    let kept = c.self.inside in
    let gone = c.exchange-exchanged.result.tables.items in
    let place : ℕ = vec_capacity c.exchange-exchanged.result.place in
    let bars : length c.bars-bars-in-Some.result.now ≡ length kept.performance.bars = ap length c.bars-bars-in-Some.ensures.value in
    subst (λ vs. HasPlace vs (length c.bars-bars-in-Some.result.now) gone place) (sym slice)
    (subst (λ n. HasPlace c.exchange-exchanged.new.voices n gone place) (sym bars)
    (place_back kept.grammar kept.performance c.parts-next.result.0 kept.workers kept.room kept.voices.items c.exchange-exchanged.new.voices gone place c.self.invariant facts))

-- ---- the dead voice

pub bounds-channels-dead : goal.bounds-channels-dead
bounds-channels-dead g c =
    let facts = exchanged_for c.self.inside.grammar c.self.inside.performance c.self.inside.workers c.self.inside.room c.self.inside.voices.items c.args.self.now c.args.prepared c.parts-next.result.0
    c.parts-next.result.1.items (vec_capacity c.parts-next.result.2) c.self.invariant c.self.view_is c.parts-next.ensures.next c.parts-next.ensures.tables c.parts-next.ensures.place c.requires.suits
    c.bars-bars.ensures.formed c.as_mut_slice-voices.result.now c.exchange-exchanged.new.voices c.channels.result.now (length c.bars-bars.result.now) c.exchange-exchanged.result.tables.items
    (vec_capacity c.exchange-exchanged.result.place) c.as_mut_slice-voices.ensures.value c.channels.ensures (ap length c.bars-bars.ensures.value) c.exchange-exchanged.ensures.exchanged
    c.exchange-exchanged.ensures.voices c.exchange-exchanged.ensures.room in
    let written = written_back c.self.inside.voices.len c.self.inside.voices.items c.exchange-exchanged.new.voices
    (omega (arith, c.as_mut_slice-voices.ensures.len, ap length c.as_mut_slice-voices.ensures.value)) facts.long in
    let dead : IsFirstDead c.exchange-exchanged.new.voices c.in-Some.dead.voice c.in-Some.dead.bar =
    subst (λ vs. IsFirstDead vs c.in-Some.dead.voice c.in-Some.dead.bar) (c.as_slice.ensures.value ∙ written) c.in-Some.ensures.dead in
    let lt = slice_get_within c.exchange-exchanged.new.voices c.in-Some.dead.voice dead.it dead.there in
    omega (arith, lt, facts.number, ap length c.channels-in-Some-2.ensures)

pub invariant_of-self : goal.invariant_of-self
invariant_of-self g c =
    let facts = exchanged_for c.self.inside.grammar c.self.inside.performance c.self.inside.workers c.self.inside.room c.self.inside.voices.items c.args.self.now c.args.prepared c.parts-next.result.0
    c.parts-next.result.1.items (vec_capacity c.parts-next.result.2) c.self.invariant c.self.view_is c.parts-next.ensures.next c.parts-next.ensures.tables c.parts-next.ensures.place c.requires.suits
    c.bars-bars.ensures.formed c.as_mut_slice-voices.result.now c.exchange-exchanged.new.voices c.channels.result.now (length c.bars-bars.result.now) c.exchange-exchanged.result.tables.items
    (vec_capacity c.exchange-exchanged.result.place) c.as_mut_slice-voices.ensures.value c.channels.ensures (ap length c.bars-bars.ensures.value) c.exchange-exchanged.ensures.exchanged
    c.exchange-exchanged.ensures.voices c.exchange-exchanged.ensures.room in
    let written = written_back c.self.inside.voices.len c.self.inside.voices.items c.exchange-exchanged.new.voices
    (omega (arith, c.as_mut_slice-voices.ensures.len, ap length c.as_mut_slice-voices.ensures.value)) facts.long in
    let kept = c.self.inside in
    let between : List VoiceTables = take kept.voices.len (c.exchange-exchanged.new.voices ++ drop (length c.exchange-exchanged.new.voices) kept.voices.items) in
    let whole : length c.exchange-back.new.voices ≡ length between = c.exchange-back.ensures.voices ∙ ap length c.as_mut_slice-voices-in-Some.ensures.value in
    let number : kept.voices.len ≡ length between =
    omega (arith, c.as_mut_slice-voices.ensures.len, ap length c.as_mut_slice-voices.ensures.value, facts.long, ap length written) in
    subst (λ vs. IsSession kept.grammar kept.plan kept.performance kept.workers vs kept.room) (sym (written_back kept.voices.len between c.exchange-back.new.voices number whole))
    (session_back kept.grammar kept.performance c.parts-next.result.0 kept.workers kept.room kept.voices.items c.exchange-exchanged.new.voices c.exchange-exchanged.result.tables.items
    (vec_capacity c.exchange-exchanged.result.place) c.self.invariant facts c.as_mut_slice-voices-in-Some.result.now c.exchange-back.new.voices c.channels-in-Some.result.now (length c.bars-bars-in-Some.result.now)
    c.exchange-back.result.tables.items (vec_capacity c.exchange-back.result.place) (c.as_mut_slice-voices-in-Some.ensures.value ∙ written) c.channels-in-Some.ensures
    (ap length c.bars-bars-in-Some.ensures.value) c.exchange-back.ensures.exchanged c.exchange-back.ensures.room)

-- ---- each voice has a path

pub total_of-cost-requires-clause-paths : goal.total_of-cost-requires-clause-paths
total_of-cost-requires-clause-paths g c =
    let is : c.as_slice-2.result.now ≡ c.as_slice.result.now = c.as_slice-2.ensures.value ∙ sym c.as_slice.ensures.value in
    subst (All HasPath) (sym is) (c.first_dead_voice.ensures.none c.in_default.is)

pub total_of-cost-requires-clause-fits : goal.total_of-cost-requires-clause-fits
total_of-cost-requires-clause-fits g c =
    let facts = exchanged_for c.self.inside.grammar c.self.inside.performance c.self.inside.workers c.self.inside.room c.self.inside.voices.items c.args.self.now c.args.prepared c.parts-next.result.0
    c.parts-next.result.1.items (vec_capacity c.parts-next.result.2) c.self.invariant c.self.view_is c.parts-next.ensures.next c.parts-next.ensures.tables c.parts-next.ensures.place c.requires.suits
    c.bars-bars.ensures.formed c.as_mut_slice-voices.result.now c.exchange-exchanged.new.voices c.channels.result.now (length c.bars-bars.result.now) c.exchange-exchanged.result.tables.items
    (vec_capacity c.exchange-exchanged.result.place) c.as_mut_slice-voices.ensures.value c.channels.ensures (ap length c.bars-bars.ensures.value) c.exchange-exchanged.ensures.exchanged
    c.exchange-exchanged.ensures.voices c.exchange-exchanged.ensures.room in
    let written = written_back c.self.inside.voices.len c.self.inside.voices.items c.exchange-exchanged.new.voices
    (omega (arith, c.as_mut_slice-voices.ensures.len, ap length c.as_mut_slice-voices.ensures.value)) facts.long in
    let few : length c.parts-next.result.0.bars ≤ c.self.inside.room =
    omega (arith, c.requires.room, ap (λ (p : Performance). length p.bars) c.parts-next.ensures.next, ap (λ (s : Session). s.room) c.self.view_is) in
    let session = session_next c.self.inside.grammar c.self.inside.performance c.parts-next.result.0 c.self.inside.workers c.self.inside.room c.self.inside.voices.items c.exchange-exchanged.new.voices
    c.exchange-exchanged.result.tables.items (vec_capacity c.exchange-exchanged.result.place) c.self.invariant facts few
    (subst (All HasPath) (c.as_slice.ensures.value ∙ written) (c.first_dead_voice.ensures.none c.in_default.is)) in
    subst (λ vs. sum_by voice_cost vs < 2 ^ 64) (sym (c.as_slice-2.ensures.value ∙ written))
    (costs_fit c.self.inside.grammar c.parts-next.result.0 c.self.inside.room c.exchange-exchanged.new.voices session.each session.few_cells)

-- ---- the end

pub invariant_of-self-2 : goal.invariant_of-self-2
invariant_of-self-2 g c =
    let facts = exchanged_for c.self.inside.grammar c.self.inside.performance c.self.inside.workers c.self.inside.room c.self.inside.voices.items c.args.self.now c.args.prepared c.parts-next.result.0
    c.parts-next.result.1.items (vec_capacity c.parts-next.result.2) c.self.invariant c.self.view_is c.parts-next.ensures.next c.parts-next.ensures.tables c.parts-next.ensures.place c.requires.suits
    c.bars-bars.ensures.formed c.as_mut_slice-voices.result.now c.exchange-exchanged.new.voices c.channels.result.now (length c.bars-bars.result.now) c.exchange-exchanged.result.tables.items
    (vec_capacity c.exchange-exchanged.result.place) c.as_mut_slice-voices.ensures.value c.channels.ensures (ap length c.bars-bars.ensures.value) c.exchange-exchanged.ensures.exchanged
    c.exchange-exchanged.ensures.voices c.exchange-exchanged.ensures.room in
    let written = written_back c.self.inside.voices.len c.self.inside.voices.items c.exchange-exchanged.new.voices
    (omega (arith, c.as_mut_slice-voices.ensures.len, ap length c.as_mut_slice-voices.ensures.value)) facts.long in
    let few : length c.parts-next.result.0.bars ≤ c.self.inside.room =
    omega (arith, c.requires.room, ap (λ (p : Performance). length p.bars) c.parts-next.ensures.next, ap (λ (s : Session). s.room) c.self.view_is) in
    let session = session_next c.self.inside.grammar c.self.inside.performance c.parts-next.result.0 c.self.inside.workers c.self.inside.room c.self.inside.voices.items c.exchange-exchanged.new.voices
    c.exchange-exchanged.result.tables.items (vec_capacity c.exchange-exchanged.result.place) c.self.invariant facts few
    (subst (All HasPath) (c.as_slice.ensures.value ∙ written) (c.first_dead_voice.ensures.none c.in_default.is)) in
    let kept = c.self.inside in
    subst (λ (p : Performance). IsSession kept.grammar kept.plan p kept.workers (take kept.voices.len (c.exchange-exchanged.new.voices ++ drop (length c.exchange-exchanged.new.voices) kept.voices.items)) kept.room) (sym c.replace-before.ensures.after)
    (subst (λ vs. IsSession kept.grammar kept.plan c.parts-next.result.0 kept.workers vs kept.room) (sym written) session)

pub returns-clause-products : goal.returns-clause-products
returns-clause-products g c =
    products_there c.self.inside.grammar c.self.inside.performance c.self.inside.workers c.self.inside.room c.self.inside.voices.items c.args.self.now c.args.prepared c.parts-next.result.0
    c.parts-next.result.1.items (vec_capacity c.parts-next.result.2) c.self.invariant c.self.view_is c.parts-next.ensures.next c.parts-next.ensures.tables c.parts-next.ensures.place c.requires.suits
    c.as_mut_slice-voices.result.now (length c.bars-bars.result.now) c.as_mut_slice-voices.ensures.value (ap length c.bars-bars.ensures.value)
    c.args.products.now c.exchange-exchanged.new.products c.exchange-exchanged.ensures.products.0 c.exchange-exchanged.ensures.products.1

pub returns-in-Some-clause-products : goal.returns-in-Some-clause-products
returns-in-Some-clause-products g c =
    let facts = exchanged_for c.self.inside.grammar c.self.inside.performance c.self.inside.workers c.self.inside.room c.self.inside.voices.items c.args.self.now c.args.prepared c.parts-next.result.0
    c.parts-next.result.1.items (vec_capacity c.parts-next.result.2) c.self.invariant c.self.view_is c.parts-next.ensures.next c.parts-next.ensures.tables c.parts-next.ensures.place c.requires.suits
    c.bars-bars.ensures.formed c.as_mut_slice-voices.result.now c.exchange-exchanged.new.voices c.channels.result.now (length c.bars-bars.result.now) c.exchange-exchanged.result.tables.items
    (vec_capacity c.exchange-exchanged.result.place) c.as_mut_slice-voices.ensures.value c.channels.ensures (ap length c.bars-bars.ensures.value) c.exchange-exchanged.ensures.exchanged
    c.exchange-exchanged.ensures.voices c.exchange-exchanged.ensures.room in
    let written = written_back c.self.inside.voices.len c.self.inside.voices.items c.exchange-exchanged.new.voices
    (omega (arith, c.as_mut_slice-voices.ensures.len, ap length c.as_mut_slice-voices.ensures.value)) facts.long in
    products_back c.self.inside.grammar c.self.inside.performance c.self.inside.workers c.self.inside.room c.self.inside.voices.items c.args.self.now c.args.prepared c.parts-next.result.0
    c.parts-next.result.1.items (vec_capacity c.parts-next.result.2) c.self.invariant c.self.view_is c.parts-next.ensures.next c.parts-next.ensures.tables c.parts-next.ensures.place c.requires.suits
    c.as_mut_slice-voices.result.now (length c.bars-bars.result.now) c.as_mut_slice-voices.ensures.value (ap length c.bars-bars.ensures.value)
    c.exchange-exchanged.new.voices c.exchange-exchanged.result.tables.items (vec_capacity c.exchange-exchanged.result.place) c.as_mut_slice-voices-in-Some.result.now c.channels.result.now
    (length c.bars-bars-in-Some.result.now) c.args.products.now c.exchange-exchanged.new.products c.exchange-back.new.products facts c.channels.ensures c.exchange-exchanged.ensures.way_back
    (c.as_mut_slice-voices-in-Some.ensures.value ∙ written) (ap length c.bars-bars-in-Some.ensures.value) c.exchange-exchanged.ensures.products.1 c.exchange-back.ensures.products.1 c.exchange-exchanged.ensures.products.0 c.exchange-back.ensures.products.0

pub returns-in-Some-clause-given_up : goal.returns-in-Some-clause-given_up
returns-in-Some-clause-given_up g c =
    let facts = exchanged_for c.self.inside.grammar c.self.inside.performance c.self.inside.workers c.self.inside.room c.self.inside.voices.items c.args.self.now c.args.prepared c.parts-next.result.0
    c.parts-next.result.1.items (vec_capacity c.parts-next.result.2) c.self.invariant c.self.view_is c.parts-next.ensures.next c.parts-next.ensures.tables c.parts-next.ensures.place c.requires.suits
    c.bars-bars.ensures.formed c.as_mut_slice-voices.result.now c.exchange-exchanged.new.voices c.channels.result.now (length c.bars-bars.result.now) c.exchange-exchanged.result.tables.items
    (vec_capacity c.exchange-exchanged.result.place) c.as_mut_slice-voices.ensures.value c.channels.ensures (ap length c.bars-bars.ensures.value) c.exchange-exchanged.ensures.exchanged
    c.exchange-exchanged.ensures.voices c.exchange-exchanged.ensures.room in
    let written = written_back c.self.inside.voices.len c.self.inside.voices.items c.exchange-exchanged.new.voices
    (omega (arith, c.as_mut_slice-voices.ensures.len, ap length c.as_mut_slice-voices.ensures.value)) facts.long in
    let kept = c.self.inside in
    let next : Performance = c.parts-next.result.0 in
    let k : ℕ = c.in-Some.dead.voice in
    let first : IsFirstDead c.exchange-exchanged.new.voices k c.in-Some.dead.bar = subst (λ vs. IsFirstDead vs k c.in-Some.dead.bar) (c.as_slice.ensures.value ∙ written) c.in-Some.ensures.dead in
    let dead = dead_after kept.grammar kept.performance next kept.workers kept.room kept.voices.items c.exchange-exchanged.new.voices c.exchange-exchanged.result.tables.items
    (vec_capacity c.exchange-exchanged.result.place) c.self.invariant facts k c.in-Some.dead.bar 0 first in
    record {
      dead = subst (λ (cs : List ℕ). IsDeadVoice c.args.self.now.grammar c.args.prepared.next (get_or cs k 0) c.in-Some.dead.bar) (sym c.channels-in-Some-2.ensures)
          (subst (λ (p : Performance). IsDeadVoice c.args.self.now.grammar p (get_or next.channels k 0) c.in-Some.dead.bar) c.parts-next.ensures.next
          (subst (λ (s : Session). IsDeadVoice s.grammar next (get_or next.channels k 0) c.in-Some.dead.bar) c.self.view_is dead));
      lives = λ derivations.
          let inside = subst (λ (s : Session). All (HasDerivation s.grammar c.args.prepared.next) c.args.prepared.next.channels) (sym c.self.view_is) derivations in
          let of_next : All (HasDerivation kept.grammar next) next.channels = subst (λ (p : Performance). All (HasDerivation kept.grammar p) p.channels) (sym c.parts-next.ensures.next) inside in
          dead_has_none kept.grammar next c.self.invariant.readable.ranges.some_unit c.bars-bars.ensures.formed (get_or next.channels k 0) c.in-Some.dead.bar dead
          (All-contains (HasDerivation kept.grammar next) next.channels (get_or next.channels k 0) of_next dead.voice);
    }

pub returns-clause-made : goal.returns-clause-made
returns-clause-made g c =
    let facts = exchanged_for c.self.inside.grammar c.self.inside.performance c.self.inside.workers c.self.inside.room c.self.inside.voices.items c.args.self.now c.args.prepared c.parts-next.result.0
    c.parts-next.result.1.items (vec_capacity c.parts-next.result.2) c.self.invariant c.self.view_is c.parts-next.ensures.next c.parts-next.ensures.tables c.parts-next.ensures.place c.requires.suits
    c.bars-bars.ensures.formed c.as_mut_slice-voices.result.now c.exchange-exchanged.new.voices c.channels.result.now (length c.bars-bars.result.now) c.exchange-exchanged.result.tables.items
    (vec_capacity c.exchange-exchanged.result.place) c.as_mut_slice-voices.ensures.value c.channels.ensures (ap length c.bars-bars.ensures.value) c.exchange-exchanged.ensures.exchanged
    c.exchange-exchanged.ensures.voices c.exchange-exchanged.ensures.room in
    let written = written_back c.self.inside.voices.len c.self.inside.voices.items c.exchange-exchanged.new.voices
    (omega (arith, c.as_mut_slice-voices.ensures.len, ap length c.as_mut_slice-voices.ensures.value)) facts.long in
    let few : length c.parts-next.result.0.bars ≤ c.self.inside.room =
    omega (arith, c.requires.room, ap (λ (p : Performance). length p.bars) c.parts-next.ensures.next, ap (λ (s : Session). s.room) c.self.view_is) in
    let session = session_next c.self.inside.grammar c.self.inside.performance c.parts-next.result.0 c.self.inside.workers c.self.inside.room c.self.inside.voices.items c.exchange-exchanged.new.voices
    c.exchange-exchanged.result.tables.items (vec_capacity c.exchange-exchanged.result.place) c.self.invariant facts few
    (subst (All HasPath) (c.as_slice.ensures.value ∙ written) (c.first_dead_voice.ensures.none c.in_default.is)) in
    let kept = c.self.inside in
    let next : Performance = c.parts-next.result.0 in
    record {
      grammar = search rules;
      workers = search rules;
      room = search rules;
      performance = search rules;
      derivations = (
          let inside = all_derivations kept.grammar next session.readable session.formed session.starts kept.room next.channels c.exchange-exchanged.new.voices session.each in
          subst (λ (p : Performance). All (HasDerivation c.args.self.now.grammar p) p.channels) c.parts-next.ensures.next
          (subst (λ (s : Session). All (HasDerivation s.grammar next) next.channels) c.self.view_is inside)
          );
      built = search rules;
      cost = (
          let is : c.total_of-cost.result ≡ sum_by voice_cost c.exchange-exchanged.new.voices = c.total_of-cost.ensures ∙ ap (sum_by voice_cost) (c.as_slice-2.ensures.value ∙ written) in
          let inside : IsCostOf kept.grammar next (sum_by voice_cost c.exchange-exchanged.new.voices) =
          all_costs kept.grammar next session.readable session.formed session.starts kept.room next.channels c.exchange-exchanged.new.voices session.each in
          subst (λ n. IsCostOf c.args.self.now.grammar c.args.prepared.next n) (sym is)
          (subst (λ (p : Performance). IsCostOf c.args.self.now.grammar p (sum_by voice_cost c.exchange-exchanged.new.voices)) c.parts-next.ensures.next
          (subst (λ (s : Session). IsCostOf s.grammar next (sum_by voice_cost c.exchange-exchanged.new.voices)) c.self.view_is inside))
          );
      way_back = record {
        next = search rules;
        suits = (
            let tables = c.exchange-exchanged.result.tables.items in
            let place : ℕ = vec_capacity c.exchange-exchanged.result.place in
            let inside = suits_next kept.grammar kept.performance next kept.workers kept.room kept.voices.items c.exchange-exchanged.new.voices tables place c.self.invariant facts in
            let back : c.of-back.result ≡ record { next = kept.performance; tables = tables; place = place } =
            c.of-back.ensures ∙ ap (λ (p : Performance). record { next = p; tables = tables; place = place }) c.replace-before.ensures.value in
            subst (Suits kept.grammar c.replace-before.new.dest) (sym back)
            (subst (λ (p : Performance). Suits kept.grammar p (record { next = kept.performance; tables = tables; place = place })) (sym c.replace-before.ensures.after) inside)
            );
        room = omega (arith, ap (λ (x : Prepared). length x.next.bars) c.of-back.ensures, ap (λ (p : Performance). length p.bars) c.replace-before.ensures.value, c.self.invariant.memory);
      };
    }
