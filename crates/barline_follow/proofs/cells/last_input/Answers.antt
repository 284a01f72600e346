use Rattle.std.proofs.Common.{rules, ◌≡◌, ◌++◌, ◌∷◌, [], List, Result, Ok, Err, ap, sym, ◌∙◌}
use Rattle.std.specs.Prelude.{IfOk}
use Rattle.bar_cut.specs.Cuts.{inputs}
use Rattle.rhythm_base.specs.BarInput.{BarInput}
use Rattle.barline_follow.proofs.cells.last_input.Goals as goal

ends_with : {E : Type 0} (r : Result BarInput E) (all front : List BarInput) (k : BarInput) → all ≡ front ++ (k ∷ []) → IfOk r (λ l. l ≡ k)
    → IfOk r (λ l. (others : List BarInput) × (all ≡ others ++ (l ∷ [])))
ends_with (Ok l) all front k is same = (front, is ∙ ap (λ x. front ++ (x ∷ [])) (sym same))
ends_with (Err e) all front k is same = same

pub returns : goal.returns
returns c =
    let popped : c.in-Ok.sections.items ≡ c.pop.new.self.items ++ (c.in-Some.section ∷ []) = search rules in
    ends_with c.input.result (inputs c.args.grammar.now c.args.pins.now 0 c.args.end c.args.bars.now c.args.voice.now) c.pop.new.self.items c.in-Some.section
    (sym c.in-Ok.ensures.inputs ∙ popped) c.input.ensures
