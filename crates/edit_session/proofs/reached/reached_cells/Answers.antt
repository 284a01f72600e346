use Rattle.std.proofs.Common.{rules, ℕ, List, ◌≡◌, ◌<◌, ◌+◌, ◌++◌, length, map, get_or, subst, sym, ap, ◌∙◌, arith, Vec, Global}
use Rattle.std.specs.Prelude.{Option}
use Rattle.rhythm_base.specs.Performance.{IsWellFormed, Performance}
use Rattle.edit_session.specs.Spans.{IsKnown}
use Rattle.chain_bars.proofs.Lists.{default_same}
use Rattle.edit_session.proofs.EachRuns.{Each-at, Each-length}
use Rattle.edit_session.specs.Kept.{AreTablesOfVoice}
use Rattle.edit_session.specs.VoiceTables.{VoiceTables}
use Rattle.edit_session.specs.ReachedCells.{AreOtherInputs, place_pair}
use Rattle.rhythm_base.specs.BarInput.{BarInput}
use Rattle.edit_session.specs.declared.reached.CellPlace.{CellPlace}
use Rattle.edit_session.specs.ChangedVoices.{MayChange, changed_channel}
use Rattle.edit_session.proofs.OtherVoices.{unchanged_unreached}
use Rattle.edit_session.proofs.ReachedVoices.{AreReachedUntil, all_reached, voice_pushed, voice_skipped}
use Rattle.edit_session.proofs.reached.reached_cells.Goals as goal
use Rattle.edit_session.proofs.reached.reached_cells.Goals.{then-may_change+in_ok-own+in_ok-append+in_ok-append-2, else-may_change}

pub bounds-channels-number : goal.bounds-channels-number
bounds-channels-number c =
    let long = Each-length (λ d (v : VoiceTables). AreTablesOfVoice c.args.grammar.now c.args.before.now d v.tables) c.args.before.now.channels c.args.voices.now c.requires.tables in
    omega (arith, c.voices-test.true, long, ap length c.channels-channels.ensures)

pub voice_reached-requires-clause-tables : goal.voice_reached-requires-clause-tables
voice_reached-requires-clause-tables c =
    let g = c.args.grammar.now in
    let p = c.args.before.now in
    let n : ℕ = c.voices.number in
    let long = Each-length (λ d (v : VoiceTables). AreTablesOfVoice g p d v.tables) p.channels c.args.voices.now c.requires.tables in
    let lt : n < length p.channels = omega (arith, c.voices-test.true, long) in
    let channel : ℕ = get_or c.channels-channels.result.now n 0 in
    let at : get_or p.channels n channel ≡ channel = default_same p.channels n channel 0 lt ∙ ap (λ (cs : List ℕ). get_or cs n 0) (sym c.channels-channels.ensures) in
    let v : VoiceTables = c.index-voices-number.result in
    let here = Each-at (λ d (v : VoiceTables). AreTablesOfVoice g p d v.tables) p.channels c.args.voices.now n channel v lt c.requires.tables in
    let read : get_or c.args.voices.now n v ≡ v = sym c.index-voices-number.is in
    let tables : AreTablesOfVoice g p channel v.tables = subst (λ d. AreTablesOfVoice g p d v.tables) at (subst (λ (u : VoiceTables). AreTablesOfVoice g p (get_or p.channels n channel) u.tables) read here) in
    let own : AreTablesOfVoice g p channel c.tables-tables.result.now = subst (AreTablesOfVoice g p channel) (sym c.tables-tables.ensures) tables in
    subst (λ (r : Performance). AreTablesOfVoice g r channel c.tables-tables.result.now) (sym c.known_of-known.ensures.before) own

pub voice_reached-requires-clause-formed : goal.voice_reached-requires-clause-formed
voice_reached-requires-clause-formed c = subst IsWellFormed (sym c.known_of-known.ensures.before) c.requires.formed

pub voice_reached-requires-clause-known : goal.voice_reached-requires-clause-known
voice_reached-requires-clause-known c =
    let k = c.known_of-known.result in
    subst (λ (r : Performance). IsKnown r c.args.after.now k.low k.high k.first_bar k.bar_end) (sym c.known_of-known.ensures.before) c.known_of-known.ensures.known

pub voices-preserved : goal.voices-preserved
voices-preserved c =
    let g = c.args.grammar.now in
    let p = c.args.before.now in
    let q = c.args.after.now in
    let n : ℕ = c.voices.number in
    let long = Each-length (λ d (v : VoiceTables). AreTablesOfVoice g p d v.tables) p.channels c.args.voices.now c.requires.tables in
    let lt : n < length p.channels = omega (arith, c.voices-test.true, long) in
    let channel : ℕ = get_or c.channels-channels.result.now n 0 in
    let at : get_or p.channels n channel ≡ channel = default_same p.channels n channel 0 lt ∙ ap (λ (cs : List ℕ). get_or cs n 0) (sym c.channels-channels.ensures) in
    elim c.if-may_change.branch [
      | then-may_change+in_ok-own+in_ok-append+in_ok-append-2 w ↦
          let v : VoiceTables = w.index-voices-number.result in
          let here = Each-at (λ d (v : VoiceTables). AreTablesOfVoice g p d v.tables) p.channels c.args.voices.now n channel v lt c.requires.tables in
          let read : get_or c.args.voices.now n v ≡ v = sym w.index-voices-number.is in
          let tables : AreTablesOfVoice g p channel v.tables = subst (λ d. AreTablesOfVoice g p d v.tables) at (subst (λ (u : VoiceTables). AreTablesOfVoice g p (get_or p.channels n channel) u.tables) read here) in
          let own = w.in_ok-own.ensures in
          let other = subst (λ ts. AreOtherInputs channel own.0 ts (length own.0) (map place_pair w.in_ok-own.own.cells.items) w.in_ok-own.own.inputs.items) w.tables-tables.ensures own.2 in
          let cell : w.append.new.self.items ≡ c.voices.cells.items ++ w.in_ok-own.own.cells.items = search rules in
          let inside : w.append-then-may_change.new.self.items ≡ c.voices.inputs.items ++ w.in_ok-own.own.inputs.items = search rules in
          voice_pushed g p q c.requires.formed c.requires.channels n channel c.voices.cells.items w.in_ok-own.own.cells.items c.if-may_change.cells.items c.voices.inputs.items w.in_ok-own.own.inputs.items own.0
          c.if-may_change.inputs.items v.tables (ap (λ (v : Vec CellPlace Global). v.items) w.cells-is ∙ cell) (ap (λ (v : Vec BarInput Global). v.items) w.inputs-is ∙ inside) lt at tables own.1 other c.voices.invariant
      | else-may_change w ↦
          let other : MayChange (changed_channel c.args.edit.now) channel → ⊥ = λ may. let wrong = w.if-may_change.ensures.1 (subst (λ (o : Option ℕ). MayChange o channel) (sym c.changed_channel-changed.ensures) may) in absurd (cc) in
          subst (λ (v : Vec CellPlace Global). AreReachedUntil g p q (n + 1) (map place_pair v.items) c.if-may_change.inputs.items) (sym w.cells-is)
          (subst (λ (v : Vec BarInput Global). AreReachedUntil g p q (n + 1) (map place_pair c.voices.cells.items) v.items) (sym w.inputs-is)
          (voice_skipped g p q c.requires.formed c.requires.channels n channel (map place_pair c.voices.cells.items) c.voices.inputs.items lt at
          (unchanged_unreached g p q channel (c.requires.others channel other)) c.voices.invariant))
    ]

pub returns : goal.returns
returns c =
    let long = Each-length (λ d (v : VoiceTables). AreTablesOfVoice c.args.grammar.now c.args.before.now d v.tables) c.args.before.now.channels c.args.voices.now c.requires.tables in
    record {
      are = all_reached c.args.grammar.now c.args.before.now c.args.after.now c.requires.formed c.requires.channels c.voices.number (map place_pair c.voices.cells.items) c.voices.inputs.items
          (omega (arith, long, c.voices-test.false)) c.voices.invariant;
      each = c.voices.invariant.each;
    }
