-- A cut on top of the nearer of two ways.
use Rattle.std.proofs.Common.{◌≡◌, ℕ, ◌+◌, ◌*◌, ◌^◌, Bool, true, false, refl, sym, ap, ◌∙◌, arith}
use Rattle.std.specs.Prelude.{Option, Some, None, if◌then◌else◌}
use Rattle.std.proofs.lemmas.Bool.Decides.{nat_tests}
use Rattle.row_laws.specs.BestRules.{is_nearer}
use Rattle.grammar_plan.specs.declared.cut.Cut.{Cut}
use Rattle.least_rows.specs.Choices.{nearer_choice, topped_choice}
use Rattle.least_rows.specs.Ways.{nearer_way}
use Rattle.least_rows.specs.declared.choice.Choice.{Choice}
use Rattle.least_rows.specs.declared.way.Way.{Way}

both-more : (w r a b x y : ℕ) → is_nearer (w + a, r + b) (w + x, r + y) ≡ is_nearer (a, b) (x, y)
both-more w r a b x y = grind (arith, nat_tests)

nearer-chain : (a b x y u v : ℕ) → is_nearer (a, b) (x, y) ≡ true → is_nearer (x, y) (u, v) ≡ true → is_nearer (a, b) (u, v) ≡ true
nearer-chain a b x y u v h k = grind (arith, nat_tests)

farther-chain : (a b x y u v : ℕ) → is_nearer (a, b) (x, y) ≡ false → is_nearer (x, y) (u, v) ≡ false → is_nearer (a, b) (u, v) ≡ false
farther-chain a b x y u v h k = grind (arith, nat_tests)

-- three of which the nearest is taken, two by two
two-by-two : (s x y : Choice) (f g e : Bool)
    → is_nearer (x.cost, x.order) (s.cost, s.order) ≡ f → is_nearer (y.cost, y.order) (x.cost, x.order) ≡ g → is_nearer (y.cost, y.order) (s.cost, s.order) ≡ e
    → nearer_choice (if f then Some x else Some s) (Some y) ≡ nearer_choice (Some s) (if g then Some y else Some x)
two-by-two s x y true true e h k l =
    let yes = nearer-chain y.cost y.order x.cost x.order s.cost s.order k h in
    ap (λ t. if t then Some y else Some x) k ∙ sym (ap (λ t. if t then Some y else Some s) yes)
two-by-two s x y true false e h k l = ap (λ t. if t then Some y else Some x) k ∙ sym (ap (λ t. if t then Some x else Some s) h)
two-by-two s x y false true e h k l = refl
two-by-two s x y false false e h k l =
    let no = farther-chain y.cost y.order x.cost x.order s.cost s.order k h in
    ap (λ t. if t then Some y else Some s) no ∙ sym (ap (λ t. if t then Some x else Some s) h)

-- the cut on top of the nearer way
topped-of : (cut : Cut) (n : ℕ) (x y : Way) (g : Bool) → topped_choice cut n (if g then Some y else Some x) ≡ (if g then topped_choice cut n (Some y) else topped_choice cut n (Some x))
topped-of cut n x y true = refl
topped-of cut n x y false = refl

abbrev top : Cut → ℕ → Way → Choice
top cut n w = record { cost = cut.weight + w.cost; order = cut.rule * 2 ^ 48 + w.order; cut = Some n; way = w.way }

pub nearer-topped : (cut : Cut) (n : ℕ) (o : Option Choice) (x y : Option Way)
    → nearer_choice (nearer_choice o (topped_choice cut n x)) (topped_choice cut n y) ≡ nearer_choice o (topped_choice cut n (nearer_way x y))
nearer-topped cut n o x None = refl
nearer-topped cut n o None (Some y) = refl
nearer-topped cut n None (Some x) (Some y) =
    let shift = both-more cut.weight (cut.rule * 2 ^ 48) y.cost y.order x.cost x.order in
    ap (λ t. if t then Some (top cut n y) else Some (top cut n x)) shift ∙ sym (topped-of cut n x y (is_nearer (y.cost, y.order) (x.cost, x.order)))
    ∙ alone (topped_choice cut n (nearer_way (Some x) (Some y)))
  where
    alone : (o : Option Choice) → o ≡ nearer_choice None o
    alone None = refl
    alone (Some c) = refl
nearer-topped cut n (Some s) (Some x) (Some y) =
    let shift = both-more cut.weight (cut.rule * 2 ^ 48) y.cost y.order x.cost x.order in
    two-by-two s (top cut n x) (top cut n y) _ _ _ refl shift refl
    ∙ ap (nearer_choice (Some s)) (sym (topped-of cut n x y (is_nearer (y.cost, y.order) (x.cost, x.order))))
