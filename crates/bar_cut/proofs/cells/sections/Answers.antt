use Rattle.std.proofs.Common.{rules, arith, subst, sym, ap, ◌∙◌, ◌≡◌, ◌<◌, ◌+◌, ◌++◌, ◌∷◌, [], map, length, get_or, Some}
use Rattle.std.specs.Prelude.{filter}
use Rattle.rhythm_base.specs.declared.note.Bar.{Bar}
use Rattle.rhythm_base.specs.Lists.{last_end}
use Rattle.rhythm_base.specs.Barlines.{barline}
use Rattle.rhythm_base.specs.Grammar.{root_of}
use Rattle.performance_laws.proofs.EditedBars.{barline_is}
use Rattle.bar_cut.specs.Cuts.{AreInside, Rises, inputs}
use Rattle.bar_cut.proofs.Passes.{all_from_start, end_before, is_from}
use Rattle.bar_cut.proofs.Turns as turn
use Rattle.bar_cut.proofs.cells.sections.Goals as goal

abbrev no_bar : Bar
no_bar = record { start = 0; num = 0; den = 0 }

pub bars-init : goal.bars-init
bars-init c =
    let zero : barline c.args.bars.now c.args.last 0 ≡ 0 = barline_is c.args.bars.now c.args.last 0 (omega (arith, c.requires.voice.some_bar)) ∙ c.requires.voice.first_bar in
    let all = all_from_start 0 c.args.voice.now c.requires.voice.chords_rise in
    record {
      made = ap (λ l. l ++ inputs c.args.grammar.now c.args.pins.now c.args.channel c.args.last c.args.bars.now c.args.voice.now) c.in_ok-sections.ensures.items;
      later = sym all.1 ∙ ap (λ t. filter (is_from t) c.args.voice.now) (sym zero);
      before = ap (λ cs. last_end 0 (map (λ c. c.end) cs)) (sym all.0) ∙ ap (λ t. end_before t c.args.voice.now) (sym zero);
    }

pub of-requires-clause-bar : goal.of-requires-clause-bar
of-requires-clause-bar c =
    let lt : c.bars.number < length c.args.bars.now = search rules in
    let front = turn.front_is c.args.grammar.now c.args.pins.now c.args.channel c.args.last c.bars.number c.args.bars.now c.args.voice.now no_bar c.requires.voice lt
    c.split_at.result.0.now c.bars.later.now c.count_before.result c.barline_after-end.result c.split_at.ensures.front c.count_before.ensures c.barline_after-end.ensures c.bars.invariant.later in
    let b : Bar = get_or c.args.bars.now c.bars.number no_bar in
    let rise = turn.rise c.args.grammar.now c.args.pins.now c.args.channel c.args.last c.bars.number c.args.bars.now c.args.voice.now no_bar c.requires.voice lt in
    let start = turn.start_is c.args.grammar.now c.args.pins.now c.args.channel c.args.last c.bars.number c.args.bars.now c.args.voice.now no_bar c.requires.voice lt in
    let inside = turn.own_inside c.args.grammar.now c.args.pins.now c.args.channel c.args.last c.bars.number c.args.bars.now c.args.voice.now no_bar c.requires.voice lt in
    record {
      signature = turn.signature_is c.args.grammar.now c.args.pins.now c.args.channel c.args.last c.bars.number c.args.bars.now c.args.voice.now no_bar c.requires.voice lt;
      some_tick = omega (arith, rise.0, start, c.barline_after-end.ensures);
      few_ticks = omega (arith, rise.1, c.requires.voice.last_barline, c.barline_after-end.ensures);
      rise = subst (λ cs. Rises b.start cs) (sym front) (turn.own_rises c.args.grammar.now c.args.pins.now c.args.channel c.args.last c.bars.number c.args.bars.now c.args.voice.now no_bar c.requires.voice lt);
      inside = subst (λ e. AreInside b.start e c.split_at.result.0.now) (sym c.barline_after-end.ensures)
          (subst (λ cs. AreInside b.start (barline c.args.bars.now c.args.last (c.bars.number + 1)) cs) (sym front) inside);
    }

pub bars-preserved : goal.bars-preserved
bars-preserved c =
    let lt : c.bars.number < length c.args.bars.now = search rules in
    let front = turn.front_is c.args.grammar.now c.args.pins.now c.args.channel c.args.last c.bars.number c.args.bars.now c.args.voice.now no_bar c.requires.voice lt
    c.split_at.result.0.now c.bars.later.now c.count_before.result c.barline_after-end.result c.split_at.ensures.front c.count_before.ensures c.barline_after-end.ensures c.bars.invariant.later in
    let back = turn.back_is c.args.grammar.now c.args.pins.now c.args.channel c.args.last c.bars.number c.args.bars.now c.args.voice.now no_bar c.requires.voice lt
    c.split_at.result.1.now c.bars.later.now c.count_before.result c.barline_after-end.result c.split_at.ensures.back c.count_before.ensures c.barline_after-end.ensures c.bars.invariant.later in
    let b : Bar = get_or c.args.bars.now c.bars.number no_bar in
    let root : Some c.unwrap-symbol.result ≡ root_of c.args.grammar.now.starts b.num b.den = sym c.unwrap-symbol.ensures ∙ c.root_of.ensures in
    let is = c.of.ensures
    ∙ turn.cell_is c.args.grammar.now c.args.pins.now c.args.channel c.args.last c.bars.number c.args.bars.now c.args.voice.now no_bar c.requires.voice lt c.unwrap-symbol.result c.bars.before c.barline_after-end.result c.split_at.result.0.now _ c.barline_after-end.ensures front c.pin_of-pin.ensures
    ∙ turn.input_is c.args.grammar.now c.args.pins.now c.args.channel c.args.last c.bars.number c.args.bars.now c.args.voice.now no_bar c.requires.voice lt c.unwrap-symbol.result c.bars.before root c.bars.invariant.before in
    let pushed : c.push.new.self.items ≡ c.bars.sections.items ++ c.of.result ∷ [] = search rules in
    record {
      made = rw pushed (turn.made_next c.args.grammar.now c.args.pins.now c.args.channel c.args.last c.bars.number c.args.bars.now c.args.voice.now no_bar c.requires.voice lt c.bars.sections.items c.of.result _ is c.bars.invariant.made);
      later = back ∙ turn.rest_is c.args.grammar.now c.args.pins.now c.args.channel c.args.last c.bars.number c.args.bars.now c.args.voice.now no_bar c.requires.voice lt;
      before = c.last_end-before.ensures ∙ ap (λ l. last_end c.bars.before (map (λ c. c.end) l)) front ∙ turn.before_is c.args.grammar.now c.args.pins.now c.args.channel c.args.last c.bars.number c.args.bars.now c.args.voice.now no_bar c.requires.voice lt c.bars.before c.bars.invariant.before;
    }
