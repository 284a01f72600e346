-- The lines of a grammar's text say what they were written for.
use Rattle.std.proofs.Common.{◌≡◌, ◌⊎◌, ℕ, ◌+◌, ◌*◌, ◌<◌, ◌≤◌, ◌^◌, ◌==◌, ◌&&◌, if◌then◌else◌, Bool, true, false, not, cond, List, [], ◌∷◌, ◌++◌, Option, Some, None, length, take, drop, map, Result, Ok, IsTrue, All, suc, inl, inr, refl, ap, ◌∙◌, subst, arith}
use Rattle.std.proofs.lemmas.Bool.{and_parts, le-leb}
use Rattle.std.proofs.lemmas.Bool.Decides.{nat_tests}
use Rattle.std.proofs.lemmas.Fmt.{decimal_digit, digits_decimal, digits_value-decimal}
use Rattle.std.proofs.lemmas.List.{append_assoc, length-map}
use Rattle.std.proofs.lemmas.List.Elements.{All-head, All-tail}
use Rattle.std.proofs.lemmas.Slice.Eq.{bytes_eq-Decides}
use Rattle.std.specs.Char.{is_ascii_digit}
use Rattle.std.specs.Fmt.{decimal}
use Rattle.std.specs.List.{after_first, before_first, flat_map, list_all, position_or_len}
use Rattle.std.specs.Prelude.{codes}
use Rattle.std.specs.Str.{bytes_eq}
use Rattle.rhythm_base.specs.Bodies.{Cut, cut_of, ending_of, equal, unequal}
use Rattle.rhythm_base.specs.Readable.{IsBody, IsBodyOf}
use Rattle.rhythm_base.specs.Signatures.{IsSignature, is_den}
use Rattle.rhythm_base.specs.declared.rule.Body.{Body}
use Rattle.rhythm_base.specs.declared.rule.Ending.{Ending}
use Rattle.rhythm_base.proofs.Numerals.{numerals}
use Rattle.grammar_file.proofs.EndingLemmas.{ending_said}
use Rattle.grammar_file.proofs.NumberLemmas.{numeral_decimal, within_decimal}
use Rattle.grammar_file.specs.Header.{said_number, version_of, weights_of}
use Rattle.grammar_file.specs.Names.{is_name}
use Rattle.grammar_file.specs.Numbers.{beat_of}
use Rattle.grammar_file.specs.Printed.{body_words, symbol_name, words_of_body}
use Rattle.grammar_file.specs.Said.{are_parts, kind_of, said_parts, said_by}
use Rattle.grammar_file.specs.declared.fault.GrammarWhat.{GrammarWhat}
use Rattle.grammar_file.specs.declared.said.NamedBody.{NamedBody}
use Rattle.grammar_file.specs.declared.said.NamedBody.TheVariants as named_bodies
use Rattle.grammar_file.specs.declared.said.Said.TheVariants.{Start, Rule}

-- the lines of the header
pub version_line : (version : ℕ) → (version ≡ 1) ⊎ (version ≡ 2) → version_of (codes "rhythm" ∷ decimal version ∷ []) ≡ Ok version
version_line version (inl is) = rw is (rw (decimal_digit 1 (omega arith)) refl)
version_line version (inr is) = rw is (rw (decimal_digit 2 (omega arith)) refl)

pub number_line : (key : List ℕ) (low high n : ℕ) → bytes_eq key key ≡ true → low ≤ n → n ≤ high → n < 2 ^ 64 → said_number key low high (key ∷ decimal n ∷ []) ≡ Ok n
number_line key low high n same least most small = rw (same, numeral_decimal n small) (within_decimal low high n least most small)

pub weights_line : (version early late : ℕ) → (version ≡ 1) ⊎ (version ≡ 2) → (version ≡ 1 → early ≡ late) → early ≤ 1000 → late ≤ 1000
    → weights_of version (codes "onset" ∷ decimal early ∷ (if version == 2 then decimal late ∷ [] else [])) ≡ Ok (early, late)
weights_line version early late (inl is) one few less =
    let same = one is in
    rw is (rw (number_line (codes "onset") 0 1000 early refl (omega arith) few (omega (arith, few))) (ap (λ (w : ℕ). ok_pair early w) same))
  where
    ok_pair : ℕ → ℕ → Result (ℕ × ℕ) GrammarWhat
    ok_pair x y = Ok (x, y)
weights_line version early late (inr is) one few less =
    rw is (rw (numeral_decimal early (omega (arith, few)), numeral_decimal late (omega (arith, less)), within_decimal 0 1000 early (omega arith) few (omega (arith, few)), within_decimal 0 1000 late (omega arith) less (omega (arith, less))) refl)

-- a start line
place_of : (p : ℕ → Bool) (xs : List ℕ) (y : ℕ) (ys : List ℕ) → list_all (λ x. not (p x)) xs ≡ true → p y ≡ true
    → (before_first p (xs ++ y ∷ ys) ≡ xs) × (after_first p (xs ++ y ∷ ys) ≡ ys)
place_of p [] y ys none here = rw here (refl, refl)
place_of p (x ∷ xs) y ys none here = at (p x) none (place_of p xs y ys)
  where
    rest : List ℕ
    rest = xs ++ y ∷ ys

    at : (b : Bool) → (not b && list_all (λ x. not (p x)) xs) ≡ true
        → (list_all (λ x. not (p x)) xs ≡ true → p y ≡ true → (before_first p rest ≡ xs) × (after_first p rest ≡ ys))
        → (take (cond (not b) (1 + position_or_len p rest) 0) (x ∷ rest) ≡ x ∷ xs) × (drop (cond (not b) (1 + position_or_len p rest) 0 + 1) (x ∷ rest) ≡ ys)
    at true e more = absurd (cc)
    at false e more =
        let both = more e here in
        let front : 1 + position_or_len p rest ≡ suc (position_or_len p rest) = omega arith in
        let back : 1 + position_or_len p rest + 1 ≡ suc (position_or_len p rest + 1) = omega arith in
        (rw front (ap (λ bytes. x ∷ bytes) both.0), rw back both.1)

no_slash : (n : ℕ) → n < 2 ^ 64 → list_all (λ b. not (b == 47)) (decimal n) ≡ true
no_slash n small = each (decimal n) (digits_decimal numerals n small)
  where
    each : (bytes : List ℕ) → list_all is_ascii_digit bytes ≡ true → list_all (λ b. not (b == 47)) bytes ≡ true
    each [] all = refl
    each (b ∷ bytes) all =
        let parts = and_parts (is_ascii_digit b) (list_all is_ascii_digit bytes) all in
        let other : not (b == 47) ≡ true = grind (arith, nat_tests, parts.0) in
        rw other (each bytes parts.1)

pub beat_bound : (n : ℕ) → IsTrue (is_den n) → n ≤ 64
beat_bound n is = grind (arith, nat_tests, is)

beat_decimal : (n : ℕ) → IsTrue (is_den n) → beat_of (decimal n) ≡ Ok n
beat_decimal n is = let few = beat_bound n is in rw (digits_value-decimal numerals n (omega (arith, few))) (rw is refl)

start_parts : (version num den : ℕ) (name : List ℕ) → IsSignature num den → is_name name ≡ true
    → said_by version (codes "start" ∷ (decimal num ++ 47 ∷ decimal den) ∷ name ∷ []) ≡ Ok (Start num den name)
unfolding said_by
start_parts version num den name signature spelled =
    let most = beat_bound den signature.power in
    let small : num < 2 ^ 64 = omega (arith, signature.few) in
    let halves = place_of (λ b. b == 47) (decimal num) 47 (decimal den) (no_slash num small) refl in
    rw (halves.0, halves.1) (rw (numeral_decimal num small, numeral_decimal den (omega (arith, most)), spelled, within_decimal 1 64 num signature.some signature.few small, beat_decimal den signature.power) refl)

pub start_said : (version num den : ℕ) (name : List ℕ) → IsSignature num den → is_name name ≡ true
    → said_by version (codes "start" ∷ (decimal num ++ codes "/" ++ decimal den) ∷ name ∷ []) ≡ Ok (Start num den name)
start_said version num den name signature spelled =
    ap (λ word. said_by version (codes "start" ∷ word ∷ name ∷ [])) (append_assoc (decimal num) (codes "/") (decimal den))
    ∙ start_parts version num den name signature spelled

-- a rule line
abbrev pub named_from : List (List ℕ) → Option Cut → Option Ending → NamedBody
named_from names (Some (equal symbols)) ending = named_bodies.Split (map (symbol_name names) symbols)
named_from names (Some (unequal parts)) ending = named_bodies.Parts (map (λ part. (part.0, symbol_name names part.1)) parts)
named_from names None (Some ending) = named_bodies.Ending ending
named_from names None None = named_bodies.Split []

abbrev pub named : List (List ℕ) → Body → NamedBody
named names body = named_from names (cut_of body) (ending_of body)

module _ (version : ℕ) (names : List (List ℕ)) (spelled : All (λ n. IsTrue (is_name n)) names) where
  name_spelled : (symbol : ℕ) → symbol < length names → is_name (symbol_name names symbol) ≡ true
  name_spelled symbol within = spelled symbol [] within

  kids_spelled : (symbols : List ℕ) → All (λ s. s < length names) symbols → list_all is_name (map (symbol_name names) symbols) ≡ true
  kids_spelled [] bound = refl
  kids_spelled (symbol ∷ symbols) bound =
      rw (name_spelled symbol (All-head (λ s. s < length names) symbol symbols bound))
      (kids_spelled symbols (All-tail (λ s. s < length names) symbol symbols bound))

  abbrev IsPart : ℕ × ℕ → Type 0
  IsPart q = (1 ≤ q.0) × (q.0 ≤ 96) × (q.1 < length names)

  abbrev part_words : ℕ × ℕ → List (List ℕ)
  part_words part = decimal part.0 ∷ symbol_name names part.1 ∷ []

  parts_spelled : (parts : List (ℕ × ℕ)) → All IsPart parts → are_parts (flat_map part_words parts) ≡ true
  parts_spelled [] bound = refl
  parts_spelled (part ∷ parts) bound =
      let here = All-head IsPart part parts bound in
      rw (numeral_decimal part.0 (omega (arith, here.1)), name_spelled part.1 here.2) (parts_spelled parts (All-tail IsPart part parts bound))

  parts_long : (parts : List (ℕ × ℕ)) → length (flat_map part_words parts) ≡ 2 * length parts
  parts_long [] = refl
  parts_long (part ∷ parts) = let more = parts_long parts in omega (arith, more)

  parts_said : (parts : List (ℕ × ℕ)) → All IsPart parts → said_parts (flat_map part_words parts) ≡ Ok (map (λ part. (part.0, symbol_name names part.1)) parts)
  parts_said [] bound = refl
  parts_said (part ∷ parts) bound =
      let here = All-head IsPart part parts bound in
      rw (within_decimal 1 96 part.0 here.0 here.1 (omega (arith, here.1)), parts_said parts (All-tail IsPart part parts bound)) refl

  not_start : (name : List ℕ) → is_name name ≡ true → bytes_eq name (codes "start") ≡ false
  unfolding is_name
  not_start name is = at (bytes_eq name (codes "start")) refl
    where
      at : (b : Bool) → bytes_eq name (codes "start") ≡ b → b ≡ false
      at false e = refl
      at true e = let same = (bytes_eq-Decides name (codes "start")).0 e in let wrong : is_name (codes "start") ≡ true = subst (λ n. is_name n ≡ true) same is in absurd (cc)

  views_said : (name : List ℕ) (weight : ℕ) (cut : Option Cut) (ending : Option Ending) → is_name name ≡ true → weight ≤ 1000000 → IsBodyOf version (length names) cut ending
      → said_by version (name ∷ decimal weight ∷ words_of_body names cut ending) ≡ Ok (Rule name weight (named_from names cut ending))
  unfolding said_by kind_of
  views_said name weight (Some (equal symbols)) ending is few bound =
      let long = length-map symbols (symbol_name names) in
      rw (
        not_start name is,
        is,
        numeral_decimal weight (omega (arith, few)),
        le-leb 2 (length (map (symbol_name names) symbols)) (omega (arith, long, bound.0)),
        le-leb (length (map (symbol_name names) symbols)) 16 (omega (arith, long, bound.1)),
        kids_spelled symbols bound.2,
        within_decimal 0 1000000 weight (omega arith) few (omega (arith, few)),
      ) refl
  views_said name weight (Some (unequal parts)) ending is few bound =
      let long = parts_long parts in
      let two : (version == 2) ≡ true = grind (arith, nat_tests, bound.0) in
      rw (
        not_start name is,
        is,
        numeral_decimal weight (omega (arith, few)),
        two,
        le-leb 4 (length (flat_map part_words parts)) (omega (arith, long, bound.1)),
        le-leb (length (flat_map part_words parts)) 32 (omega (arith, long, bound.2)),
        parts_spelled parts bound.3,
        within_decimal 0 1000000 weight (omega arith) few (omega (arith, few)),
        parts_said parts bound.3,
      ) refl
  views_said name weight None (Some ending) is few bound =
      ending_said version name (decimal weight) weight (not_start name is) is (numeral_decimal weight (omega (arith, few)))
      (within_decimal 0 1000000 weight (omega arith) few (omega (arith, few))) ending bound
  views_said name weight None None is few bound = absurd bound

  pub rule_said : (name : List ℕ) (weight : ℕ) (body : Body) → is_name name ≡ true → weight ≤ 1000000 → IsBody version (length names) body
      → said_by version (name ∷ decimal weight ∷ body_words names body) ≡ Ok (Rule name weight (named names body))
  rule_said name weight body is few bound = views_said name weight (cut_of body) (ending_of body) is few bound
