-- The endings: their numbers are in their ranges, their words are plain and say them again, and a body that ends its interval
-- is that of its ending.
use Rattle.std.proofs.Common.{◌≡◌, ℕ, true, false, List, [], ◌∷◌, Option, Some, None, Ok, IfOk, refl, arith}
use Rattle.std.specs.List.{AllByRecursion}
use Rattle.std.specs.Prelude.{codes}
use Rattle.std.specs.Str.{bytes_eq}
use Rattle.rhythm_base.specs.Bodies.{Cut, IsLeafEnding, cut_of, ending_of, equal, unequal}
use Rattle.rhythm_base.specs.Readable.{IsBody}
use Rattle.rhythm_base.specs.declared.rule.Body.{Body}
use Rattle.rhythm_base.specs.declared.rule.Body.TheVariants as bodies
use Rattle.rhythm_base.specs.declared.rule.Ending.{Ending}
use Rattle.rhythm_base.specs.declared.rule.Ending.TheVariants.{Note, Short, Tie, Rest, Grace}
use Rattle.grammar_file.proofs.NumberLemmas.{IsWithin, number_sound, numeral_decimal, within_decimal}
use Rattle.grammar_file.proofs.OutcomeLemmas.{then_ok}
use Rattle.grammar_file.proofs.PlainLemmas.{IsPlain, decimal_plain}
use Rattle.grammar_file.specs.Endings.{body_of_ending, ending_of_words, ending_word_of, ending_words, graces_of}
use Rattle.grammar_file.specs.Names.{is_name}
use Rattle.grammar_file.specs.Numbers.{is_numeral, number_within}
use Rattle.grammar_file.specs.Said.{kind_of, said_by}
use Rattle.grammar_file.specs.declared.endings.EndingWord.{EndingWord}
use Rattle.grammar_file.specs.declared.endings.EndingWord.TheVariants as word
use Rattle.grammar_file.specs.declared.said.NamedBody.TheVariants as named_bodies
use Rattle.grammar_file.specs.declared.said.Said.TheVariants.{Rule}

-- the body of an ending ends its interval so, and does not cut it
pub ending_of_body : (e : Ending) → ending_of (body_of_ending e) ≡ Some e
ending_of_body Note = refl
ending_of_body Short = refl
ending_of_body Tie = refl
ending_of_body Rest = refl
ending_of_body (Grace graces) = refl

pub no_cut_of_body : (e : Ending) → cut_of (body_of_ending e) ≡ None
no_cut_of_body Note = refl
no_cut_of_body Short = refl
no_cut_of_body Tie = refl
no_cut_of_body Rest = refl
no_cut_of_body (Grace graces) = refl

-- the body that cuts its interval so or ends it so; a body does one of the two
abbrev pub body_from : Option Cut → Option Ending → Body
body_from (Some (equal symbols)) ending = bodies.Split symbols
body_from (Some (unequal parts)) ending = bodies.Parts parts
body_from None (Some ending) = body_of_ending ending
body_from None None = bodies.Split []

pub body_from-is : (body : Body) → body_from (cut_of body) (ending_of body) ≡ body
body_from-is (bodies.Split symbols) = refl
body_from-is (bodies.Parts parts) = refl
body_from-is bodies.Note = refl
body_from-is bodies.Short = refl
body_from-is bodies.Tie = refl
body_from-is bodies.Rest = refl
body_from-is (bodies.Grace graces) = refl

-- the body of an ending that is in its range is one that a rule can have
pub ending_readable : (version names : ℕ) (e : Ending) → IsLeafEnding e → IsBody version names (body_of_ending e)
ending_readable version names e is = rw (no_cut_of_body e, ending_of_body e) is

-- the number of grace chords is in its range
graces_sound : (words : List (List ℕ)) → IfOk (graces_of words) (IsWithin 1 3)
graces_sound [] = tt
graces_sound (digits ∷ []) = number_sound 1 3 digits
graces_sound (digits ∷ more ∷ words) = tt

pub ending_sound : (w : EndingWord) (words : List (List ℕ)) → IfOk (ending_of_words w words) IsLeafEnding
ending_sound word.Note words = tt
ending_sound word.Short words = tt
ending_sound word.Tie words = tt
ending_sound word.Rest words = tt
ending_sound word.Grace words = then_ok (IsWithin 1 3) IsLeafEnding (graces_of words) _ (graces_sound words) (λ graces few. few)

-- the words of an ending are plain
pub ending_plain : (e : Ending) → IsLeafEnding e → AllByRecursion IsPlain (ending_words e)
ending_plain Note is = ((refl, omega arith), tt)
ending_plain Short is = ((refl, omega arith), tt)
ending_plain Tie is = ((refl, omega arith), tt)
ending_plain Rest is = ((refl, omega arith), tt)
ending_plain (Grace graces) is = ((refl, omega arith), (decimal_plain graces (omega (arith, is.1)), tt))

-- a rule line with the words of an ending says that ending
module _ (version : ℕ) (name weight : List ℕ) (w : ℕ) (other : bytes_eq name (codes "start") ≡ false) (spelled : is_name name ≡ true)
    (digits : is_numeral weight ≡ true) (within : number_within 0 1000000 weight ≡ Ok w) where
  pub ending_said : (e : Ending) → IsLeafEnding e → said_by version (name ∷ weight ∷ ending_words e) ≡ Ok (Rule name w (named_bodies.Ending e))
  unfolding said_by kind_of ending_word_of
  ending_said Note is = rw (other, spelled, digits, within) refl
  ending_said Short is = rw (other, spelled, digits, within) refl
  ending_said Tie is = rw (other, spelled, digits, within) refl
  ending_said Rest is = rw (other, spelled, digits, within) refl
  ending_said (Grace graces) is =
      rw (other, spelled, digits, within, numeral_decimal graces (omega (arith, is.1)), within_decimal 1 3 graces is.0 is.1 (omega (arith, is.1))) refl
