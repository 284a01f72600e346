use Rattle.std.proofs.Common.{rules, arith, subst, sym, ap, ◌∙◌, ◌≡◌, ◌<◌, ◌≤◌, length, get_or, None, true, false, not}
use Rattle.std.proofs.lemmas.List.{take_all}
use Rattle.std.proofs.lemmas.List.Elements.{All-nil}
use Rattle.std.specs.Option.{is_some}
use Rattle.std.specs.Prelude.{◌≢◌}
use Rattle.rhythm_base.specs.declared.note.Bar.{Bar}
use Rattle.rhythm_base.specs.Grammar.{root_of}
use Rattle.rhythm_base.specs.Voices.{HasStarts}
use Rattle.bar_cut.proofs.Barlines.{All-take-next}
use Rattle.bar_cut.proofs.starts.check_starts.Goals as goal

abbrev no_bar : Bar
no_bar = record { start = 0; num = 0; den = 0 }

pub bars-init : goal.bars-init
bars-init c = All-nil _

pub bars-preserved : goal.bars-preserved
bars-preserved c =
    let lt : c.bars.number < length c.args.bars.now = search rules in
    let b : Bar = get_or c.args.bars.now c.bars.number no_bar in
    let P : Bar → Type 0 = λ b. root_of c.args.grammar.now.starts b.num b.den ≢ None in
    All-take-next P c.args.bars.now c.bars.number no_bar lt c.bars.invariant (λ h.
    let gone : c.root_of.result ≡ None = c.root_of.ensures ∙ h in
    let wrong : false ≡ true = sym (ap is_some gone) ∙ c.is_none.ensures ∙ ap not c.if-is_none.false in
    absurd (cc))

pub returns-clause-starts : goal.returns-clause-starts
returns-clause-starts c =
    let all : length c.args.bars.now ≤ c.bars.number = omega (arith, c.bars-test.false) in
    subst (HasStarts c.args.grammar.now) (take_all c.bars.number c.args.bars.now all) c.bars.invariant
