use Rattle.std.proofs.Common.{rules, ◌≡◌, ℕ, ◌++◌, ◌∷◌, [], ◌∙◌, List, sym, subst, arith}
use Rattle.std.specs.Prelude.{reverse}
use Rattle.edit_session.specs.Prepared.{Prepared}
use Rattle.rhythm_base.specs.Grammar.{Grammar}
use Rattle.rhythm_base.specs.Performance.{Performance}
use Rattle.barline_follow.specs.Trial.{LeadBack}
use Rattle.barline_follow.proofs.WayBack.{back_taken}
use Rattle.barline_follow.proofs.trial.take_all_back.Goals as goal

pub backs-preserved : goal.backs-preserved
backs-preserved g c =
    let popped : c.backs.backs.items ≡ c.pop.new.self.items ++ (c.in-Some.back ∷ []) = search rules in
    let rest : List Prepared = reverse c.pop.new.self.items in (
      c.take_back.ensures.made.grammar ∙ c.backs.invariant.0,
      c.take_back.ensures.made.room ∙ c.backs.invariant.1,
      λ start h.
          let one = back_taken c.backs.session.grammar c.backs.session.room c.backs.session.performance c.backs.backs.items c.pop.new.self.items c.in-Some.back start popped (c.backs.invariant.2 start h) in
          subst (λ (q : Performance). LeadBack c.take_back.new.self.grammar c.take_back.new.self.room q rest start) (sym c.take_back.ensures.made.performance)
          (subst (λ (n : ℕ). LeadBack c.take_back.new.self.grammar n c.in-Some.back.next rest start) (sym c.take_back.ensures.made.room)
          (subst (λ (k : Grammar). LeadBack k c.backs.session.room c.in-Some.back.next rest start) (sym c.take_back.ensures.made.grammar) one.1)),
      (let more = c.take_back.ensures.products.rises in omega (arith, c.backs.invariant.3, more)),
    )
