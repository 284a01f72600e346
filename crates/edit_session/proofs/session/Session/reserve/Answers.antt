use Rattle.std.proofs.Common.{rules, ◌≡◌, List, length, ap, sym, subst, arith}
use Rattle.std.specs.Prelude.{max}
use Rattle.rhythm_base.specs.Lists.{Each}
use Rattle.edit_session.specs.Kept.{IsKeptVoice}
use Rattle.edit_session.specs.VoiceTables.{IsGrown, VoiceTables}
use Rattle.edit_session.proofs.EachRuns.{Each-length}
use Rattle.edit_session.proofs.GrownVoices.{grown_kept, raised_kept, written_back}
use Rattle.edit_session.proofs.session.Session.reserve.Goals as goal

pub invariant_of-self : goal.invariant_of-self
invariant_of-self c =
    let kept = c.self.inside in
    let grown : Each IsGrown kept.voices.items c.reserve_all.new.voices = subst (λ (vs : List VoiceTables). Each IsGrown vs c.reserve_all.new.voices) c.as_mut_slice.ensures.value c.reserve_all.ensures.grown in
    let each = grown_kept kept.grammar kept.performance kept.room kept.performance.channels kept.voices.items c.reserve_all.new.voices c.self.invariant.each grown in
    let long = Each-length IsGrown kept.voices.items c.reserve_all.new.voices grown in
    let count : kept.voices.len ≡ length kept.voices.items = omega (arith, c.as_mut_slice.ensures.len, ap length c.as_mut_slice.ensures.value) in
    let back = written_back kept.voices.len kept.voices.items c.reserve_all.new.voices count (sym long) in
    record {
      readable = c.self.invariant.readable;
      planned = c.self.invariant.planned;
      formed = c.self.invariant.formed;
      few_notes = c.self.invariant.few_notes;
      few_cells = c.self.invariant.few_cells;
      starts = c.self.invariant.starts;
      some_worker = c.self.invariant.some_worker;
      few_workers = c.self.invariant.few_workers;
      each = subst (Each (IsKeptVoice kept.grammar kept.performance kept.room) kept.performance.channels) (sym back) each;
      memory = c.self.invariant.memory;
    }

pub invariant_of-self-2 : goal.invariant_of-self-2
invariant_of-self-2 c =
    let kept = c.self.inside in
    let grown : Each IsGrown kept.voices.items c.reserve_all.new.voices = subst (λ (vs : List VoiceTables). Each IsGrown vs c.reserve_all.new.voices) c.as_mut_slice.ensures.value c.reserve_all.ensures.grown in
    let each = grown_kept kept.grammar kept.performance kept.room kept.performance.channels kept.voices.items c.reserve_all.new.voices c.self.invariant.each grown in
    let raised : c.max-self-inside.result ≡ max kept.room c.args.bars = search rules in
    let more = raised_kept kept.grammar kept.performance kept.room c.args.bars c.max-self-inside.result kept.performance.channels c.reserve_all.new.voices raised each c.in_ok-reserve_all.ensures.ok in
    let long = Each-length IsGrown kept.voices.items c.reserve_all.new.voices grown in
    let count : kept.voices.len ≡ length kept.voices.items = omega (arith, c.as_mut_slice.ensures.len, ap length c.as_mut_slice.ensures.value) in
    let back = written_back kept.voices.len kept.voices.items c.reserve_all.new.voices count (sym long) in
    record {
      readable = c.self.invariant.readable;
      planned = c.self.invariant.planned;
      formed = c.self.invariant.formed;
      few_notes = c.self.invariant.few_notes;
      few_cells = c.self.invariant.few_cells;
      starts = c.self.invariant.starts;
      some_worker = c.self.invariant.some_worker;
      few_workers = c.self.invariant.few_workers;
      each = subst (Each (IsKeptVoice kept.grammar kept.performance c.max-self-inside.result) kept.performance.channels) (sym back) more;
      memory = omega (arith, c.self.invariant.memory, raised);
    }
