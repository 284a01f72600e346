-- What lines say by their words.
use Rattle.std.proofs.Common.{◌≡◌, ℕ, ◌<◌, ◌≤◌, ◌==◌, ◌&&◌, if◌then◌else◌, true, false, List, [], ◌∷◌, ◌++◌, length, get_or, drop, map, Result, Ok, Err, refl, ap, ◌∙◌, arith}
use Rattle.std.proofs.lemmas.Bool.{and_parts}
use Rattle.std.proofs.lemmas.List.{append-nil, append_assoc, length-map}
use Rattle.std.specs.Prelude.{codes}
use Rattle.std.specs.Str.{bytes_eq}
use Rattle.grammar_file.specs.Numbers.{number_within}
use Rattle.grammar_file.specs.Outcome.{◌>>=◌}
use Rattle.grammar_file.specs.Said.{are_parts, kind_of, said_parts, rule_of_kind, said_by, start_of}
use Rattle.grammar_file.specs.declared.fault.GrammarWhat.{GrammarWhat}
use Rattle.grammar_file.specs.declared.fault.GrammarWhat.TheVariants.{Line}

-- parts after others
abbrev pub after : List (ℕ × List ℕ) → Result (List (ℕ × List ℕ)) GrammarWhat → Result (List (ℕ × List ℕ)) GrammarWhat
after parts others = others >>= λ more. Ok (parts ++ more)

after_one : (parts : List (ℕ × List ℕ)) (part : ℕ × List ℕ) (others : Result (List (ℕ × List ℕ)) GrammarWhat)
    → after (parts ++ part ∷ []) others ≡ after parts (others >>= λ more. Ok (part ∷ more))
after_one parts part (Ok more) = ap Ok (append_assoc parts (part ∷ []) more)
after_one parts part (Err what) = refl

-- a size and a name more
pub parts_more : {X : Type 0} (text : X → List ℕ) (rest : List X) (d : X) (n : ℕ) (parts : List (ℕ × List ℕ))
    → 2 ≤ length rest → number_within 1 96 (text (get_or rest 0 d)) ≡ Ok n
    → after (parts ++ (n, text (get_or rest 1 d)) ∷ []) (said_parts (map text (drop 2 rest))) ≡ after parts (said_parts (map text rest))
parts_more text [] d n parts some e = absurd (omega arith)
parts_more text (x ∷ []) d n parts some e = absurd (omega arith)
parts_more text (x ∷ y ∷ rest) d n parts some e = after_one parts (n, text y) (said_parts (map text rest)) ∙ ap (after parts) (rw e refl)

-- the form of what is after a size and a name
pub parts_form : {X : Type 0} (text : X → List ℕ) (rest : List X) → 2 ≤ length rest → are_parts (map text rest) ≡ true → are_parts (map text (drop 2 rest)) ≡ true
parts_form text [] some form = absurd (omega arith)
parts_form text (x ∷ []) some form = absurd (omega arith)
parts_form text (x ∷ y ∷ rest) some form = (and_parts _ _ form).1

-- nothing is left where no pair is
pub parts_end : {X : Type 0} (text : X → List ℕ) (rest : List X) (parts : List (ℕ × List ℕ)) → length rest < 2 → are_parts (map text rest) ≡ true
    → after parts (said_parts (map text rest)) ≡ Ok parts
parts_end text [] parts few form = ap Ok (append-nil parts)
parts_end text (x ∷ []) parts few form = cc
parts_end text (x ∷ y ∷ rest) parts few form = absurd (omega arith)

-- too few words
pub said_by-short : {X : Type 0} (text : X → List ℕ) (version : ℕ) (words : List X) → length words < 3 → said_by version (map text words) ≡ Err Line
unfolding said_by
said_by-short text version [] few = refl
said_by-short text version (a ∷ []) few = refl
said_by-short text version (a ∷ b ∷ []) few = refl
said_by-short text version (a ∷ b ∷ c ∷ words) few = absurd (omega arith)

-- three words or more
pub said_by-long : {X : Type 0} (text : X → List ℕ) (version : ℕ) (words : List X) (d : X) → 3 ≤ length words
    → said_by version (map text words)
    ≡ (if bytes_eq (text (get_or words 0 d)) (codes "start") && (length (drop 3 words) == 0)
    then start_of (text (get_or words 1 d)) (text (get_or words 2 d))
    else rule_of_kind version (text (get_or words 0 d)) (text (get_or words 1 d)) (kind_of (text (get_or words 2 d))) (map text (drop 3 words)))
unfolding said_by
said_by-long text version [] d some = absurd (omega arith)
said_by-long text version (a ∷ []) d some = absurd (omega arith)
said_by-long text version (a ∷ b ∷ []) d some = absurd (omega arith)
said_by-long text version (a ∷ b ∷ c ∷ words) d some = rw (length-map words text) refl

module _ {X : Type 0} (text : X → List ℕ) (version : ℕ) (words : List X) (d : X) (some : 3 ≤ length words) where
  -- three words, the first of which is `start`
  pub said_by-start : bytes_eq (text (get_or words 0 d)) (codes "start") ≡ true → (length (drop 3 words) == 0) ≡ true
      → said_by version (map text words) ≡ start_of (text (get_or words 1 d)) (text (get_or words 2 d))
  said_by-start first none = said_by-long text version words d some ∙ rw (first, none) refl

  -- other words
  pub said_by-other : bytes_eq (text (get_or words 0 d)) (codes "start") ≡ false
      → said_by version (map text words)
      ≡ rule_of_kind version (text (get_or words 0 d)) (text (get_or words 1 d)) (kind_of (text (get_or words 2 d))) (map text (drop 3 words))
  said_by-other first = said_by-long text version words d some ∙ rw first refl

  pub said_by-more : bytes_eq (text (get_or words 0 d)) (codes "start") ≡ true → (length (drop 3 words) == 0) ≡ false
      → said_by version (map text words)
      ≡ rule_of_kind version (text (get_or words 0 d)) (text (get_or words 1 d)) (kind_of (text (get_or words 2 d))) (map text (drop 3 words))
  said_by-more first more = said_by-long text version words d some ∙ rw (first, more) refl
