use Rattle.std.proofs.Common.{rules, ◌≡◌, ◌+◌, ◌<◌, ◌≤◌, length, get_or, true, false, refl, sym, subst}
use Rattle.std.specs.Prelude.{Some, slice_get}
use Rattle.std.proofs.lemmas.Option.{slice_get_read}
use Rattle.grammar_plan.specs.Drafts.{HasMoreCuts, cuts_pair}
use Rattle.grammar_plan.specs.declared.draft.Draft.{Draft}
use Rattle.grammar_plan.proofs.Cutting.{cuts-all, cuts-next, cuts-none, cuts-skip}
use Rattle.grammar_plan.proofs.draft.Draft.push_cuts.Goals as goal
use Rattle.grammar_plan.proofs.draft.Draft.push_cuts.Goals.{then-cuts+in_ok-push_cut, else-cuts}

pub rules-init : goal.rules-init
rules-init c = cuts-none c.args.grammar.now c.args.self.now.pairs.found.items c.args.self.now.parts.items c.args.self.now.cuts.items c.args.width c.args.symbol c.args.span.first c.args.span.end c.requires.each

pub rules-preserved : goal.rules-preserved
rules-preserved c =
    let g = c.args.grammar.now in
    let n = c.rules.number in
    let x = c.index-rule.result.now in
    let own : c.grammar.inside.rules.items ≡ g.rules = search rules in
    let within : n < length g.rules = search rules in
    let at : slice_get g.rules n ≡ Some x = slice_get_read g.rules (length g.rules) n x refl within (subst (λ l. x ≡ get_or l n x) own c.index-rule.ensures) in
    let s = c.rules.self in
    let old = c.args.self.now in
    let M : Draft → Type 0 = λ d. HasMoreCuts g (c.args.width, c.args.symbol) old.pairs.found.items d.pairs.found.items old.parts.items d.parts.items old.cuts.items d.cuts.items (n + 1) in
    elim c.if-cuts.branch [
      | then-cuts+in_ok-push_cut w ↦
          let on : cuts_pair x (c.args.width, c.args.symbol) ≡ true = search rules in
          let new = w.push_cut.new.self in
          subst M (sym w.self-is)
          (cuts-next g (c.args.width, c.args.symbol) old.pairs.found.items s.pairs.found.items old.parts.items s.parts.items old.cuts.items s.cuts.items n c.rules.invariant x at new.pairs.found.items new.parts.items new.cuts.items c.requires.readable on w.in_ok-push_cut.ensures.parts w.in_ok-push_cut.ensures.cut)
      | else-cuts w ↦
          let off : cuts_pair x (c.args.width, c.args.symbol) ≡ false = search rules in
          subst M (sym w.self-is)
          (cuts-skip g (c.args.width, c.args.symbol) old.pairs.found.items s.pairs.found.items old.parts.items s.parts.items old.cuts.items s.cuts.items n c.rules.invariant x at off)
    ]

pub returns : goal.returns
returns c =
    let past : c.args.span.end ≤ c.rules.number = search rules in
    let few : c.rules.number ≤ length c.args.grammar.now.rules = search rules in
    cuts-all c.args.grammar.now c.args.self.now.pairs.found.items c.rules.self.pairs.found.items c.args.self.now.parts.items c.rules.self.parts.items c.args.self.now.cuts.items c.rules.self.cuts.items
    c.args.width c.args.symbol c.args.span.first c.args.span.end c.rules.number c.requires.each past few c.rules.invariant
