use Rattle.std.proofs.Common.{arith, subst, sym, ap, ◌∙◌, ◌≡◌, ◌+◌, get_or, Some}
use Rattle.rhythm_base.specs.declared.note.Bar.{Bar}
use Rattle.rhythm_base.specs.Barlines.{barline}
use Rattle.rhythm_base.specs.Grammar.{root_of}
use Rattle.bar_cut.specs.Cuts.{AreInside, Rises}
use Rattle.bar_cut.proofs.Turns as turn
use Rattle.bar_cut.proofs.cells.section_of.Goals as goal

abbrev no_bar : Bar
no_bar = record { start = 0; num = 0; den = 0 }

pub of-requires-clause-bar : goal.of-requires-clause-bar
of-requires-clause-bar c =
    let later = turn.later_is c.args.grammar.now c.args.pins.now c.args.channel c.args.last c.args.number c.args.bars.now c.args.voice.now no_bar c.requires.voice c.requires.number
    c.split_at.result.1.now c.count_before.result c.split_at.ensures.back c.count_before.ensures in
    let front = turn.front_is c.args.grammar.now c.args.pins.now c.args.channel c.args.last c.args.number c.args.bars.now c.args.voice.now no_bar c.requires.voice c.requires.number
    c.split_at-2.result.0.now c.split_at.result.1.now c.count_before-2.result c.barline_after-end.result c.split_at-2.ensures.front c.count_before-2.ensures c.barline_after-end.ensures later in
    let b : Bar = get_or c.args.bars.now c.args.number no_bar in
    let rise = turn.rise c.args.grammar.now c.args.pins.now c.args.channel c.args.last c.args.number c.args.bars.now c.args.voice.now no_bar c.requires.voice c.requires.number in
    let start = turn.start_is c.args.grammar.now c.args.pins.now c.args.channel c.args.last c.args.number c.args.bars.now c.args.voice.now no_bar c.requires.voice c.requires.number in
    let inside = turn.own_inside c.args.grammar.now c.args.pins.now c.args.channel c.args.last c.args.number c.args.bars.now c.args.voice.now no_bar c.requires.voice c.requires.number in
    record {
      signature = turn.signature_is c.args.grammar.now c.args.pins.now c.args.channel c.args.last c.args.number c.args.bars.now c.args.voice.now no_bar c.requires.voice c.requires.number;
      some_tick = omega (arith, rise.0, start, c.barline_after-end.ensures);
      few_ticks = omega (arith, rise.1, c.requires.voice.last_barline, c.barline_after-end.ensures);
      rise = subst (λ cs. Rises b.start cs) (sym front) (turn.own_rises c.args.grammar.now c.args.pins.now c.args.channel c.args.last c.args.number c.args.bars.now c.args.voice.now no_bar c.requires.voice c.requires.number);
      inside = subst (λ e. AreInside b.start e c.split_at-2.result.0.now) (sym c.barline_after-end.ensures)
          (subst (λ cs. AreInside b.start (barline c.args.bars.now c.args.last (c.args.number + 1)) cs) (sym front) inside);
    }

pub returns : goal.returns
returns c =
    let later = turn.later_is c.args.grammar.now c.args.pins.now c.args.channel c.args.last c.args.number c.args.bars.now c.args.voice.now no_bar c.requires.voice c.requires.number
    c.split_at.result.1.now c.count_before.result c.split_at.ensures.back c.count_before.ensures in
    let front = turn.front_is c.args.grammar.now c.args.pins.now c.args.channel c.args.last c.args.number c.args.bars.now c.args.voice.now no_bar c.requires.voice c.requires.number
    c.split_at-2.result.0.now c.split_at.result.1.now c.count_before-2.result c.barline_after-end.result c.split_at-2.ensures.front c.count_before-2.ensures c.barline_after-end.ensures later in
    let before = c.last_end-before.ensures
    ∙ turn.earlier_is c.args.grammar.now c.args.pins.now c.args.channel c.args.last c.args.number c.args.bars.now c.args.voice.now no_bar c.requires.voice c.requires.number
    c.split_at.result.0.now c.count_before.result c.split_at.ensures.front c.count_before.ensures in
    let b : Bar = get_or c.args.bars.now c.args.number no_bar in
    let root : Some c.unwrap-symbol.result ≡ root_of c.args.grammar.now.starts b.num b.den = sym c.unwrap-symbol.ensures ∙ c.root_of.ensures in
    let is = c.of.ensures
    ∙ turn.cell_is c.args.grammar.now c.args.pins.now c.args.channel c.args.last c.args.number c.args.bars.now c.args.voice.now no_bar c.requires.voice c.requires.number
    c.unwrap-symbol.result c.last_end-before.result c.barline_after-end.result c.split_at-2.result.0.now _ c.barline_after-end.ensures front c.pin_of-pin.ensures
    ∙ turn.input_is c.args.grammar.now c.args.pins.now c.args.channel c.args.last c.args.number c.args.bars.now c.args.voice.now no_bar c.requires.voice c.requires.number
    c.unwrap-symbol.result c.last_end-before.result root before in
    turn.input_at c.args.grammar.now c.args.pins.now c.args.channel c.args.last c.args.number c.args.bars.now c.args.voice.now no_bar c.requires.voice c.requires.number ∙ ap Some (sym is)
