use Rattle.std.proofs.Common.{◌≡◌, ℕ, suc, ◌+◌, ◌<◌, List, [], ◌++◌, Option, None, Some, length, get_or, map, drop, refl, sym, ap, ◌∙◌, subst, arith}
use Rattle.std.specs.Prelude.{All}
use Rattle.std.proofs.lemmas.List.{append-nil, append_assoc, drop_all, drop_more, length-map, with_items_is}
use Rattle.std.proofs.lemmas.List.Elements.{All-drop, All-weaker}
use Rattle.rhythm_base.specs.declared.sound.Sound.{Sound}
use Rattle.rhythm_base.specs.Lists.{Each}
use Rattle.derivation.specs.WellSounded.{StandInBars}
use Rattle.derivation.specs.declared.score.ScoreBar.{ScoreBar}
use Rattle.kern_writer.specs.Ahead.{AreTokensAhead, laters}
use Rattle.derivation.specs.Ahead.{later_sounds}
use Rattle.voice_values.specs.Ahead.{FillBar}
use Rattle.kern_writer.specs.Records.{AreBarRecords, Record}
use Rattle.derivation.specs.Score.{IsScoreBar}
use Rattle.kern_writer.specs.Tokens.{Token}
use Rattle.kern_writer.proofs.AllRecords.{AreRecordsAhead, ahead_are, ahead_end, ahead_exist, ahead_next, stand_each}
use Rattle.voice_values.proofs.BarSounds.{stand_fill, stand_later}
use Rattle.kern_writer.proofs.Merging.{all_mapped_to}
use Rattle.kern_writer.proofs.Writing.{fault_handed, memory_handed, past_among, written_after}
use Rattle.kern_writer.proofs.kern.write_bars.Goals as goal

pub returns-in_err-ahead : goal.returns-in_err-ahead
returns-in_err-ahead c =
    let r = c.args.resolution in
    let bars = c.args.bars.now in
    let voices = c.args.voices.now in
    let all = ahead_exist r None 0 bars voices (omega (arith, c.count-units.ensures.is, c.count-units.ensures.some)) c.requires.bars in
    let are = ahead_are r bars voices all.0 c.requires.bars (stand_each r (length bars) voices c.requires.voices) all.1 in
    (all.0, (are.0, are.1, are.2), memory_handed c.args.text.now c.args.text.now all.0 c.from_residual.result c.from_residual.ensures)

pub write_bar-requires-clause-full : goal.write_bar-requires-clause-full
write_bar-requires-clause-full c =
    let r = c.args.resolution in
    let n = c.bars.number in
    let bars = length c.args.bars.now in
    subst (λ a. All (FillBar r n) (laters a)) (sym c.deref_mut.ensures.value)
    (All-weaker (StandInBars r bars n 0) (FillBar r n) (λ s h. stand_fill r bars n s c.bars-test.true h) (laters c.bars.ahead.items) c.bars.invariant.stand)

-- the records of the next bar, and then those of the bars after it
next_bar :
    (r : ℕ) (before : Option ScoreBar) (n : ℕ) (bars : List ScoreBar) (d : ScoreBar) (ahead : List (List Sound)) (columns : List (List Token)) (own others : List Record) → n < length bars
    → Each (AreTokensAhead r (get_or bars n d) n) ahead columns → AreBarRecords before (get_or bars n d) n columns own
    → AreRecordsAhead r (Some (get_or bars n d)) (suc n) (drop (n + 1) bars) (map (later_sounds n) ahead) others → AreRecordsAhead r before n (drop n bars) ahead (own ++ others)
next_bar r before n bars d ahead columns own others lt tokens records rest =
    subst (λ bs. AreRecordsAhead r before n bs ahead (own ++ others)) (sym (drop_more bars n d lt)) (ahead_next r before n (get_or bars n d) (drop (n + 1) bars) ahead columns own others tokens records rest)

pub returns-in_err-write_bar : goal.returns-in_err-write_bar
returns-in_err-write_bar c =
    let r = c.args.resolution in
    let bars = c.args.bars.now in
    let voices = c.args.voices.now in
    let n = c.bars.number in
    let d : ScoreBar = record { num = 0; den = 0; tempo = 0; sf = None } in
    let h = c.bars.invariant.so_far in
    let own = c.in_err-write_bar.ensures.records in
    let tokens = subst (λ a. Each (AreTokensAhead r (get_or bars n d) n) (laters a) own.1.0) c.deref_mut.ensures.value own.1.1 in
    let ahead = laters c.bars.ahead.items in
    let rest = ahead_exist r (Some (get_or bars n d)) (suc n) (drop (n + 1) bars) (map (later_sounds n) ahead) (omega (arith, c.count-units.ensures.is, c.count-units.ensures.some)) (All-drop IsScoreBar (n + 1) bars c.requires.bars) in
    let all = h.0 ++ (own.0 ++ rest.0) in
    let left = h.2 (own.0 ++ rest.0) (next_bar r c.bars.before n bars d ahead own.1.0 own.0 rest.0 c.bars-test.true tokens own.1.2 rest.1) in
    let are = ahead_are r bars voices all c.requires.bars (stand_each r (length bars) voices c.requires.voices) left in
    let e = c.in_err-write_bar.field-0.0 in (
      all,
      (are.0, are.1, are.2),
      fault_handed c.args.text.now c.write_bar.new.text all c.from_residual-in_err-write_bar.result e c.from_residual-in_err-write_bar.ensures
          (past_among c.args.text.now c.bars.text h.0 own.0 rest.0 all e h.1 refl own.2),
    )

pub bars-preserved : goal.bars-preserved
bars-preserved c =
    let r = c.args.resolution in
    let bars = c.args.bars.now in
    let n = c.bars.number in
    let d : ScoreBar = record { num = 0; den = 0; tempo = 0; sf = None } in
    let h = c.bars.invariant.so_far in
    let own = c.in_ok-write_bar.ensures.records in
    let ahead = laters c.bars.ahead.items in
    let tokens = subst (λ a. Each (AreTokensAhead r (get_or bars n d) n) (laters a) own.1.0) c.deref_mut.ensures.value own.1.1 in
    let next : laters c.write_bar.new.ahead ≡ map (later_sounds n) ahead = c.in_ok-write_bar.ensures.rest ∙ ap (λ a. map (later_sounds n) (laters a)) c.deref_mut.ensures.value in
    let count : length c.write_bar.new.ahead ≡ c.bars.ahead.len =
    sym (length-map c.write_bar.new.ahead (λ a. a.later)) ∙ ap length c.in_ok-write_bar.ensures.rest ∙ length-map (laters c.deref_mut.result.now) (later_sounds n)
    ∙ length-map c.deref_mut.result.now (λ a. a.later) ∙ c.deref_mut.ensures.len in
    let items = ap laters (with_items_is c.bars.ahead c.write_bar.new.ahead count) ∙ next in
    let up : suc n ≡ n + 1 = omega arith in
    let later = all_mapped_to (StandInBars r (length bars) n 0) (StandInBars r (length bars) (suc n) 0) (later_sounds n) ahead c.bars.invariant.stand (λ a. stand_later r (length bars) n a c.bars-test.true) in
    record {
      before = c.requires.bars n d c.bars-test.true;
      stand = subst (All (StandInBars r (length bars) (n + 1) 0)) (sym items) (subst (λ k. All (StandInBars r (length bars) k 0) (map (later_sounds n) ahead)) up later);
      so_far = (
        h.0 ++ own.0,
        written_after c.args.text.now c.bars.text c.write_bar.new.text h.0 own.0 h.1 own.2,
        λ (rest : List Record) k.
            let there = subst (λ m. AreRecordsAhead r (Some (get_or bars n d)) m (drop (n + 1) bars) (map (later_sounds n) ahead) rest) (sym up)
            (subst (λ a. AreRecordsAhead r (Some (get_or bars n d)) (n + 1) (drop (n + 1) bars) a rest) items k) in
            let left = h.2 (own.0 ++ rest) (next_bar r c.bars.before n bars d ahead own.1.0 own.0 rest c.bars-test.true tokens own.1.2 there) in
            subst (AreRecordsAhead r None 0 bars c.args.voices.now) (sym (append_assoc h.0 own.0 rest)) left,
      );
    }

pub returns : goal.returns
returns c =
    let r = c.args.resolution in
    let bars = c.args.bars.now in
    let voices = c.args.voices.now in
    let h = c.bars.invariant.so_far in
    let none : drop c.bars.number bars ≡ [] = drop_all c.bars.number bars c.bars-test.false in
    let end = subst (λ bs. AreRecordsAhead r c.bars.before c.bars.number bs (laters c.bars.ahead.items) []) (sym none) (ahead_end r c.bars.before c.bars.number (laters c.bars.ahead.items)) in
    let all = subst (AreRecordsAhead r None 0 bars voices) (append-nil h.0) (h.2 [] end) in
    let are = ahead_are r bars voices h.0 c.requires.bars (stand_each r (length bars) voices c.requires.voices) all in
    (h.0, (are.0, are.1, are.2), h.1)
