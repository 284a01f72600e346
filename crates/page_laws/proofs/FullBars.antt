-- A bar that is read is as long as its signature says.
use Rattle.std.proofs.Common.{◌≡◌, ℕ, ◌==◌, ◌&&◌, Bool, true, false, List, [], ◌∷◌, Some, None, arith, subst}
use Rattle.std.specs.Prelude.{if◌then◌else◌}
use Rattle.std.proofs.lemmas.Bool.{and_parts, false≢true}
use Rattle.std.proofs.lemmas.Bool.Decides.{nat_tests}
use Rattle.rhythm_base.specs.declared.span.Frac.{Frac}
use Rattle.lily_writer.specs.Fractions.{frac_plus, same_frac}
use Rattle.lily_writer.specs.Pitches.{words}
use Rattle.lily_writer.specs.Reading.{words_of_bar}
use Rattle.text_words.specs.Steps.{◌>>=◌}
use Rattle.notation.specs.Notes.{is_empty}
use Rattle.notation_laws.proofs.Says.{heard_first}
use Rattle.page_laws.specs.Hearing.{HeardStaff, is_unbracketed}
use Rattle.page_laws.specs.Laws.{BarsAreFull}
use Rattle.page_laws.specs.Reading.{after_page_bar, hear_page_bar, hear_page_words}

same_is : (f g : Frac) → same_frac f g ≡ true → f ≡ g
same_is f g h =
    let (num, den) = and_parts (f.num == g.num) (f.den == g.den) h in
    let one : f.num ≡ g.num = grind (arith, nat_tests, num) in
    let two : f.den ≡ g.den = grind (arith, nat_tests, den) in
    λ i. record { num = one i; den = two i }

none_is : (graces : List ℕ) → is_empty graces ≡ true → graces ≡ []
none_is [] h = λ i. []
none_is (g ∷ graces) h = absurd (false≢true h)

pub full_bars : BarsAreFull
unfolding hear_page_bar
full_bars signature before next line e =
    let (ws, one, rest) = heard_first (words_of_bar (words line))
    (λ ws. hear_page_words before ws >>= λ h. after_page_bar signature before h) next e in
    let (h, two, last) = heard_first (hear_page_words before ws) (λ h. after_page_bar signature before h) next rest in
    go h (is_unbracketed h && (is_empty h.heard.graces && same_frac h.heard.at (frac_plus before.heard.at signature))) (λ k. k) last
  where
    some : (a b : HeardStaff) → Some a ≡ Some b → a ≡ b
    some a b e = cc

    go : (h : HeardStaff) (b : Bool)
        → (b ≡ true → (is_unbracketed h && (is_empty h.heard.graces && same_frac h.heard.at (frac_plus before.heard.at signature))) ≡ true)
        → (if b then Some h else None) ≡ Some next → (next.heard.at ≡ frac_plus before.heard.at signature) × (next.heard.graces ≡ [])
    go h true all e =
        let (out, parts) = and_parts (is_unbracketed h) _ (all (λ i. true)) in
        let (bare, at) = and_parts (is_empty h.heard.graces) (same_frac h.heard.at (frac_plus before.heard.at signature)) parts in
        subst (λ (n : HeardStaff). (n.heard.at ≡ frac_plus before.heard.at signature) × (n.heard.graces ≡ [])) (some h next e)
        (same_is h.heard.at (frac_plus before.heard.at signature) at, none_is h.heard.graces bare)
    go h false all e = absurd (cc)
