-- What readers gave.
use Rattle.std.proofs.Common.{◌≡◌, ℕ, if◌then◌else◌, Bool, true, false, Result, Ok, Err, IfErr, IfOk, OnOk, refl, subst}
use Rattle.grammar_file.specs.Outcome.{◌>>=◌, GivesGrammar, GivesAt, on_line}
use Rattle.grammar_file.specs.declared.fault.GrammarFault.{GrammarFault}
use Rattle.grammar_file.specs.declared.fault.GrammarWhat.{GrammarWhat}

-- what holds of a value that came
pub at_ok : {T E : Type 0} (P : T → Type 0) (r : Result T E) (x : T) → r ≡ Ok x → IfOk r P → P x
at_ok P r x is holds = subst (λ o. IfOk o P) is holds

-- what holds of a fault that came
pub err_holds : {T E : Type 0} (P : E → Type 0) (r : Result T E) (x : E) → r ≡ Err x → IfErr r P → P x
err_holds P r x is holds = subst (λ o. IfErr o P) is holds

-- a clause that does not look at the value
pub on_ok : {T E : Type 0} (Q : Type 0) (r : Result T E) → Q → OnOk r Q
on_ok Q (Ok x) q = q
on_ok Q (Err e) q = tt

-- an outcome gives itself
pub gives_itself : {A : Type 0} (r : Result A GrammarWhat) → GivesGrammar r r
gives_itself (Ok x) = refl
gives_itself (Err what) = λ _. refl

pub gives_itself_at : {A : Type 0} (r : Result A GrammarFault) → GivesAt r r
gives_itself_at (Ok x) = refl
gives_itself_at (Err fault) = λ _. refl

-- a fault of a line
pub on_line-err : {A : Type 0} (number : ℕ) (r : Result A GrammarWhat) (fault : GrammarFault) → on_line number r ≡ Err fault
    → (what : GrammarWhat) × (r ≡ Err what) × (fault ≡ record { line = number; what = what })
on_line-err number (Ok x) fault e = absurd (cc)
on_line-err number (Err what) fault e = (what, refl, (cc))

-- the fact about a value, which an outcome that gives it has
pub given_ok : {A : Type 0} (P : A → Type 0) (r outcome : Result A GrammarFault) → GivesAt r outcome → IfOk outcome P → IfOk r P
given_ok P (Ok x) outcome gives holds = subst (λ o. IfOk o P) gives holds
given_ok P (Err fault) outcome gives holds = tt

-- what holds of a fault where another fact does
pub err_weaker : {T E : Type 0} (r : Result T E) (P Q : E → Type 0) → ((x : E) → P x → Q x) → IfErr r P → IfErr r Q
err_weaker (Ok x) P Q less holds = tt
err_weaker (Err e) P Q less holds = less e holds

-- what a line came to without a fault
pub on_line-ok : {A : Type 0} (number : ℕ) (r : Result A GrammarWhat) (x : A) → on_line number r ≡ Ok x → r ≡ Ok x
on_line-ok number (Ok y) x e = cc
on_line-ok number (Err what) x e = absurd (cc)

pub on_ok_holds : {T E : Type 0} (Q : Type 0) (r : Result T E) (x : T) → r ≡ Ok x → OnOk r Q → Q
on_ok_holds Q r x is holds = subst (λ o. OnOk o Q) is holds

-- what holds of each step's value holds of the chain's
pub then_ok : {A B E : Type 0} (P : A → Type 0) (Q : B → Type 0) (r : Result A E) (next : A → Result B E)
    → IfOk r P → ((x : A) → P x → IfOk (next x) Q) → IfOk (r >>= next) Q
then_ok P Q (Ok x) next first rest = rest x first
then_ok P Q (Err e) next first rest = tt

-- what holds where the test passes
pub test_ok : {A E : Type 0} (P : A → Type 0) (test : Bool) (r : Result A E) (e : E) → (test ≡ true → IfOk r P) → IfOk (if test then r else Err e) P
test_ok P true r e passed = passed refl
test_ok P false r e passed = tt
