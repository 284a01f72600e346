-- The words of a line.
use Rattle.std.proofs.Common.{◌≡◌, ◌↔◌, ◌==◌, ℕ, Bor, IsTrue, subst, Bool, true, false, not, Some, None, List, [], ◌∷◌, length, drop, arith, refl, sym, ap, ◌∙◌}
use Rattle.std.proofs.lemmas.List.Splits.{length-slice_split}
use Rattle.std.specs.List.{slice_split}
use Rattle.std.specs.Prelude.{Option, is_none, option_map}
use Rattle.edit_script.specs.Finds.{Finds}
use Rattle.edit_script.specs.LineWords.{Begins, words_in}
use Rattle.edit_script.specs.ScriptLines.{Are}

-- the parts of what is asked of words
pub first_is : (Is : List ℕ → Type 0) (more : List (List ℕ → Type 0)) (words : List (List ℕ)) → Are (Is ∷ more) words → Begins Is words
first_is Is more [] are = are
first_is Is more (word ∷ words) are = are.0

pub rest_are : (Is : List ℕ → Type 0) (more : List (List ℕ → Type 0)) (words : List (List ℕ)) → Are (Is ∷ more) words → Are more (drop 1 words)
rest_are Is more [] are = absurd are
rest_are Is more (word ∷ words) are = are.1

-- nothing is found where there is nothing of the kind
pub finds_none : {T : Type 0} (Is : T → Type 0) (found : Option T) → found ≡ None → ((x : T) → Is x → ⊥) → Finds Is found
finds_none Is (Some x) e none = cc
finds_none Is None e none = none

-- no word is left over
pub none_left : (words : List (List ℕ)) → Are [] words → words ≡ []
none_left [] are = refl
none_left (word ∷ words) are = absurd are

-- some text has a word
some_word : (p : ℕ → Bool) (text : List ℕ) → slice_split p text ≡ [] → ⊥
some_word p text e = let n = length-slice_split p text in let z = ap length e in absurd (omega (arith, n, z))

-- the word alone is as asked
pub one_word : (Is : List ℕ → Type 0) (words : List (List ℕ)) → Begins Is words → drop 1 words ≡ [] → Are (Is ∷ []) words
one_word Is [] begins e = begins
one_word Is (word ∷ []) begins e = (begins, tt)
one_word Is (word ∷ next ∷ words) begins e = cc

-- no word is left exactly where no text is
pub done : (rest : Option (Bor (List ℕ))) (words : List (List ℕ)) → words_in (option_map (λ x. x.now) rest) ≡ words → IsTrue (is_none rest) ↔ Are [] words
done None words e = (λ none. subst (Are []) e tt, λ are. refl)
done (Some text) words e = (λ none. cc, λ are. absurd (some_word (λ b. b == 32) text.now (e ∙ none_left words are)))

pub turned : (a b : Bool) → a ≡ not b → not a ≡ b
turned true true e = sym e
turned true false e = refl
turned false true e = refl
turned false false e = sym e
