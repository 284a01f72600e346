-- What holds of what a line says by itself.
use Rattle.std.proofs.Common.{◌≡◌, ◌⊎◌, ℕ, ◌+◌, ◌*◌, ◌≤◌, ◌==◌, ◌&&◌, if◌then◌else◌, Bool, true, false, nat_le, List, [], ◌∷◌, length, Option, Some, None, Result, Ok, Err, IfOk, IsTrue, All, slice_get, subst, inl, inr, refl, arith}
use Rattle.std.proofs.lemmas.Bool.{and_parts, leb-true}
use Rattle.std.proofs.lemmas.Bool.Decides.{nat_tests}
use Rattle.std.proofs.lemmas.List.Elements.{All-cons, All-nil}
use Rattle.std.specs.List.{after_first, before_first}
use Rattle.std.specs.Prelude.{codes}
use Rattle.std.specs.Str.{bytes_eq}
use Rattle.std.specs.Str.Parse.{digits_value}
use Rattle.rhythm_base.specs.Signatures.{IsSignature, is_den}
use Rattle.rhythm_base.specs.Bodies.{IsLeafEnding}
use Rattle.grammar_file.proofs.EndingLemmas.{ending_sound}
use Rattle.grammar_file.proofs.NumberLemmas.{IsWithin, number_sound}
use Rattle.grammar_file.proofs.OutcomeLemmas.{test_ok, then_ok}
use Rattle.grammar_file.specs.Content.{Content}
use Rattle.grammar_file.specs.Endings.{ending_of_words}
use Rattle.grammar_file.specs.Header.{header_of, line_says, most_units, said_number, numbers_of, version_of, weights_of}
use Rattle.grammar_file.specs.Names.{is_name}
use Rattle.grammar_file.specs.Numbers.{beat_of, is_numeral, number_within}
use Rattle.grammar_file.specs.Outcome.{◌>>=◌, on_line}
use Rattle.grammar_file.specs.Said.{body_of, has_form, kind_of, said_parts, rule_of_kind, said_by, start_of}
use Rattle.grammar_file.specs.declared.fault.GrammarWhat.{GrammarWhat}
use Rattle.grammar_file.specs.declared.fault.GrammarWhat.TheVariants.{Header as header, Line as no_form}
use Rattle.grammar_file.specs.declared.header.Header.{Header}
use Rattle.grammar_file.specs.declared.kind.Kind.{Kind}
use Rattle.grammar_file.specs.declared.kind.Kind.TheVariants as kind
use Rattle.grammar_file.specs.declared.line.Line.{Line}
use Rattle.grammar_file.specs.declared.said.NamedBody.{NamedBody}
use Rattle.grammar_file.specs.declared.said.NamedBody.TheVariants.{Split, Parts, Ending}
use Rattle.grammar_file.specs.declared.said.Said.{Said}
use Rattle.grammar_file.specs.declared.said.Said.TheVariants.{Start, Rule}

pub beat_sound : (digits : List ℕ) → IfOk (beat_of digits) (λ n. IsTrue (is_den n))
beat_sound digits = test_ok (λ n. IsTrue (is_den n)) (is_den (digits_value 10 digits)) (Ok (digits_value 10 digits)) _ (λ passed. passed)

-- what holds of a body, and of what a line says
abbrev pub IsSoundBody : ℕ → NamedBody → Type 0
IsSoundBody version (Split names) = (2 ≤ length names) × (length names ≤ 16)
IsSoundBody version (Parts parts) = (version ≡ 2) × (2 ≤ length parts) × (length parts ≤ 16) × All (λ part. IsWithin 1 96 part.0) parts
IsSoundBody version (Ending ending) = IsLeafEnding ending

abbrev pub IsSound : ℕ → Said → Type 0
IsSound version (Start num den name) = IsSignature num den
IsSound version (Rule name weight body) = IsTrue (is_name name) × (weight ≤ 1000000) × IsSoundBody version body

start_sound : (version : ℕ) (signature name : List ℕ) → IfOk (start_of signature name) (IsSound version)
start_sound version signature name =
    test_ok (IsSound version) (is_numeral num && is_numeral den && is_name name)
    (number_within 1 64 num >>= λ beats. (beat_of den >>= λ beat. Ok (Start beats beat name))) no_form
    (λ passed. then_ok (IsWithin 1 64) (IsSound version) (number_within 1 64 num) (λ beats. beat_of den >>= λ beat. Ok (Start beats beat name)) (number_sound 1 64 num)
    (λ beats few. then_ok (λ n. IsTrue (is_den n)) (IsSound version) (beat_of den) (λ beat. Ok (Start beats beat name)) (beat_sound den)
    (λ beat power. signature_of beats beat few power)))
  where
    num : List ℕ
    num = before_first (λ b. b == 47) signature

    den : List ℕ
    den = after_first (λ b. b == 47) signature

    signature_of : (num den : ℕ) → IsWithin 1 64 num → IsTrue (is_den den) → IsSignature num den
    signature_of num den few power = record { some = few.0; few = few.1; power = power }

-- parts are half as many as words
abbrev AreHalf : ℕ → List (ℕ × List ℕ) → Type 0
AreHalf words parts = All (λ part. IsWithin 1 96 part.0) parts × (2 * length parts ≤ words) × (words ≤ 2 * length parts + 1)

parts_sound : (words : List (List ℕ)) → IfOk (said_parts words) (AreHalf (length words))
parts_sound [] = (All-nil _, omega arith, omega arith)
parts_sound (size ∷ []) = (All-nil _, omega arith, omega arith)
parts_sound (size ∷ name ∷ more) =
    then_ok (IsWithin 1 96) (AreHalf (length (size ∷ name ∷ more))) (number_within 1 96 size) _ (number_sound 1 96 size)
    (λ first within. then_ok (AreHalf (length more)) (AreHalf (length (size ∷ name ∷ more))) (said_parts more) _ (parts_sound more)
    (λ others half. (All-cons (λ part. IsWithin 1 96 part.0) (first, name) others within half.0, omega (arith, half.1), omega (arith, half.2))))

body_sound : (version : ℕ) (k : Kind) (words : List (List ℕ)) → has_form version k words ≡ true → IfOk (body_of k words) (IsSoundBody version)
body_sound version kind.Split words form =
    let outer = and_parts (nat_le 2 (length words) && nat_le (length words) 16) _ form in
    let inner = and_parts (nat_le 2 (length words)) _ outer.0 in
    (leb-true _ _ inner.0, leb-true _ _ inner.1)
body_sound version kind.Parts words form =
    let a = and_parts ((version == 2) && nat_le 4 (length words) && nat_le (length words) 32) _ form in
    let b = and_parts ((version == 2) && nat_le 4 (length words)) _ a.0 in
    let d = and_parts (version == 2) _ b.0 in
    let is : version ≡ 2 = grind (arith, nat_tests, d.0) in
    let some = leb-true _ _ d.1 in
    let few = leb-true _ _ b.1 in
    then_ok (AreHalf (length words)) (IsSoundBody version) (said_parts words) _ (parts_sound words)
    (λ parts half. (is, omega (arith, half.2, some), omega (arith, half.1, few), half.0))
body_sound version (kind.Ending word) words form =
    then_ok IsLeafEnding (IsSoundBody version) (ending_of_words word words) _ (ending_sound word words) (λ ending is. is)

rule_sound : (version : ℕ) (name weight : List ℕ) (k : Option Kind) (words : List (List ℕ)) → IfOk (rule_of_kind version name weight k words) (IsSound version)
rule_sound version name weight None words = tt
rule_sound version name weight (Some k) words =
    test_ok (IsSound version) (is_name name && is_numeral weight && has_form version k words) _ _
    (λ passed. let a = and_parts (is_name name && is_numeral weight) _ passed in
    let b = and_parts (is_name name) _ a.0 in
    then_ok (IsWithin 0 1000000) (IsSound version) (number_within 0 1000000 weight) _ (number_sound 0 1000000 weight)
    (λ w few. then_ok (IsSoundBody version) (IsSound version) (body_of k words) _ (body_sound version k words a.1)
    (λ body sound. (b.0, few.1, sound))))

pub said_sound : (version : ℕ) (words : List (List ℕ)) → IfOk (said_by version words) (IsSound version)
unfolding said_by
said_sound version [] = tt
said_sound version (a ∷ []) = tt
said_sound version (a ∷ b ∷ []) = tt
said_sound version (first ∷ second ∷ third ∷ words) = at (bytes_eq first (codes "start") && (length words == 0))
  where
    at : (t : Bool) → IfOk (if t then start_of second third else rule_of_kind version first second (kind_of third) words) (IsSound version)
    at true = start_sound version second third
    at false = rule_sound version first second (kind_of third) words

-- what holds of the header
pub record IsSoundHeader (h : Header) : Type 0 where
  pub version : (h.version ≡ 1) ⊎ (h.version ≡ 2)
  pub some_unit : 1 ≤ h.resolution
  pub few_units : h.resolution ≤ most_units h.version
  pub window : h.window ≤ 1000000
  pub early : h.early ≤ 1000
  pub late : h.late ≤ 1000
  pub one_weight : h.version ≡ 1 → h.early ≡ h.late

version_sound : (words : List (List ℕ)) → IfOk (version_of words) (λ v. (v ≡ 1) ⊎ (v ≡ 2))
version_sound [] = tt
version_sound (a ∷ []) = tt
version_sound (a ∷ b ∷ []) = at (bytes_eq a (codes "rhythm") && bytes_eq b (codes "1")) (bytes_eq a (codes "rhythm") && bytes_eq b (codes "2"))
  where
    at : (x y : Bool) → IfOk {T = ℕ} (if x then Ok 1 else if y then Ok 2 else Err header) (λ v. (v ≡ 1) ⊎ (v ≡ 2))
    at true y = inl refl
    at false true = inr refl
    at false false = tt
version_sound (a ∷ b ∷ c ∷ words) = tt

number_of_sound : (key : List ℕ) (low high : ℕ) (words : List (List ℕ)) → IfOk (said_number key low high words) (IsWithin low high)
number_of_sound key low high [] = tt
number_of_sound key low high (a ∷ []) = tt
number_of_sound key low high (a ∷ b ∷ []) =
    test_ok (IsWithin low high) (bytes_eq a key) _ _ (λ _. test_ok (IsWithin low high) (is_numeral b) (number_within low high b) _ (λ _. number_sound low high b))
number_of_sound key low high (a ∷ b ∷ c ∷ words) = tt

abbrev AreWeights : ℕ → ℕ × ℕ → Type 0
AreWeights version w = (w.0 ≤ 1000) × (w.1 ≤ 1000) × (version ≡ 1 → w.0 ≡ w.1)

numbers_of_sound : (words : List (List ℕ)) → IfOk (numbers_of (codes "onset") 0 1000 words) (AreWeights 2)
numbers_of_sound [] = tt
numbers_of_sound (a ∷ []) = tt
numbers_of_sound (a ∷ b ∷ []) = tt
numbers_of_sound (a ∷ b ∷ c ∷ []) =
    test_ok (AreWeights 2) (bytes_eq a (codes "onset")) _ _
    (λ _. test_ok (AreWeights 2) (is_numeral b && is_numeral c) _ _
    (λ _. then_ok (IsWithin 0 1000) (AreWeights 2) (number_within 0 1000 b) _ (number_sound 0 1000 b)
    (λ x few. then_ok (IsWithin 0 1000) (AreWeights 2) (number_within 0 1000 c) _ (number_sound 0 1000 c)
    (λ y less. (few.1, less.1, λ other. absurd (omega arith))))))
numbers_of_sound (a ∷ b ∷ c ∷ d ∷ words) = tt

weights_sound : (version : ℕ) (words : List (List ℕ)) → IfOk (weights_of version words) (AreWeights version)
weights_sound version words = at (version == 2) refl
  where
    at : (t : Bool) → (version == 2) ≡ t
        → IfOk (if t then numbers_of (codes "onset") 0 1000 words else (said_number (codes "onset") 0 1000 words >>= λ weight. Ok (weight, weight))) (AreWeights version)
    at true e = let is : 2 ≡ version = grind (arith, nat_tests, e) in subst (λ v. IfOk (numbers_of (codes "onset") 0 1000 words) (AreWeights v)) is (numbers_of_sound words)
    at false e = then_ok (IsWithin 0 1000) (AreWeights version) (said_number (codes "onset") 0 1000 words) _ (number_of_sound (codes "onset") 0 1000 words)
        (λ weight few. (few.1, few.1, λ _. refl))

line_sound : {A : Type 0} (P : A → Type 0) (end : ℕ) (say : List (List ℕ) → Result A GrammarWhat) (o : Option Line)
    → ((words : List (List ℕ)) → IfOk (say words) P) → IfOk (line_says end say o) P
line_sound P end say None each = tt
line_sound {A} P end say (Some line) each = at (say line.words) (each line.words)
  where
    at : (r : Result A GrammarWhat) → IfOk r P → IfOk (on_line line.number r) P
    at (Ok x) h = h
    at (Err what) h = tt

pub header_sound : (content : Content) → IfOk (header_of content) IsSoundHeader
unfolding header_of
header_sound content =
    then_ok (λ v. (v ≡ 1) ⊎ (v ≡ 2)) IsSoundHeader _ _ (line_sound _ content.end version_of (slice_get content.lines 0) version_sound)
    (λ v version. then_ok (IsWithin 1 (most_units v)) IsSoundHeader _ _
    (line_sound _ content.end (said_number (codes "resolution") 1 (most_units v)) (slice_get content.lines 1) (number_of_sound _ 1 (most_units v)))
    (λ r units. then_ok (IsWithin 0 1000000) IsSoundHeader _ _
    (line_sound _ content.end (said_number (codes "window") 0 1000000) (slice_get content.lines 2) (number_of_sound _ 0 1000000))
    (λ w window. then_ok (AreWeights v) IsSoundHeader _ _
    (line_sound _ content.end (weights_of v) (slice_get content.lines 3) (weights_sound v))
    (λ weights are. sound v r w weights version units window are))))
  where
    sound : (v r w : ℕ) (weights : ℕ × ℕ) → (v ≡ 1) ⊎ (v ≡ 2) → IsWithin 1 (most_units v) r → IsWithin 0 1000000 w → AreWeights v weights
        → IsSoundHeader (record { version = v; resolution = r; window = w; early = weights.0; late = weights.1 })
    sound v r w weights version units window are =
        record { version = version; some_unit = units.0; few_units = units.1; window = window.1; early = are.0; late = are.1; one_weight = are.2 }
