use Rattle.std.proofs.Common.{rules, ◌≡◌, ◌≤◌, ◌+◌, ◌++◌, ◌∷◌, [], length, reverse, subst, sym, ap, ◌∙◌, arith}
use Rattle.std.specs.Prelude.{All}
use Rattle.std.specs.List.{flat_map}
use Rattle.std.proofs.lemmas.List.Elements.{All-push}
use Rattle.std.proofs.lemmas.List.{length-append, length-reverse}
use Rattle.rhythm_base.specs.declared.limits.TheConstants.{DEAREST_CELL}
use Rattle.rhythm_base.specs.Paths.{AreCheap}
use Rattle.chain_bars.specs.Laws.{matrices}
use Rattle.edit_session.specs.VoiceTables.{HasTables, VoiceTables}
use Rattle.edit_session.proofs.Runs.{cheap_front, cheap_rest, run_more, run_less}
use Rattle.edit_session.proofs.kept_voices.voices_of.Goals as goal

pub new-requires-clause-cheap : goal.new-requires-clause-cheap
new-requires-clause-cheap g c κs within =
    let kept = flat_map (λ (v : VoiceTables). v.tables) c.voices.kept.items in
    let all : AreCheap DEAREST_CELL (matrices (kept ++ reverse c.voices.tables.items)) = subst (λ l. AreCheap DEAREST_CELL (matrices l)) (sym c.voices.invariant.all) c.requires.cheap in
    let rest = cheap_rest DEAREST_CELL kept (reverse c.voices.tables.items) all in
    cheap_front DEAREST_CELL c.in_ok-own.own.items (reverse c.taken.new.tables.items) (subst (λ l. AreCheap DEAREST_CELL (matrices l)) c.in_ok-own.ensures.tables rest)

pub voices-preserved : goal.voices-preserved
voices-preserved g c =
    let pushed : c.push.new.self.items ≡ c.voices.kept.items ++ c.in_ok-new.field-0 ∷ [] = search rules in
    let long : length c.voices.tables.items ≡ c.args.bars + length c.taken.new.tables.items =
    sym (length-reverse c.voices.tables.items) ∙ ap length c.in_ok-own.ensures.tables ∙ length-append c.in_ok-own.own.items (reverse c.taken.new.tables.items)
    ∙ ap (λ n. n + length (reverse c.taken.new.tables.items)) c.in_ok-own.ensures.count ∙ ap (λ n. c.args.bars + n) (length-reverse c.taken.new.tables.items) in
    let has : HasTables c.args.bars c.in_ok-new.field-0 = record {
      each = ap length c.in_ok-new.ensures.tables ∙ c.in_ok-own.ensures.count;
      memory = subst (λ n. n ≤ c.in_ok-new.field-0.room) c.in_ok-own.ensures.count c.in_ok-new.ensures.room;
    } in
    record {
      all = ap (λ l. flat_map (λ (v : VoiceTables). v.tables) l ++ reverse c.taken.new.tables.items) pushed
          ∙ run_more c.voices.kept.items c.in_ok-new.field-0 c.in_ok-own.own.items (reverse c.voices.tables.items) (reverse c.taken.new.tables.items) c.args.tables.items
          c.in_ok-new.ensures.tables c.in_ok-own.ensures.tables c.voices.invariant.all;
      count = ap length pushed ∙ length-append c.voices.kept.items (c.in_ok-new.field-0 ∷ []) ∙ ap (λ n. n + 1) c.voices.invariant.count;
      bars = subst (All (HasTables c.args.bars)) (sym pushed) (All-push (HasTables c.args.bars) c.voices.kept.items c.in_ok-new.field-0 c.voices.invariant.bars has);
      rises = omega (arith, c.voices.invariant.rises, c.new.ensures.rises);
      rest = run_less c.voices._number c.args.voices c.args.bars (length c.voices.tables.items) (length c.taken.new.tables.items) long c.voices.invariant.rest;
    }
