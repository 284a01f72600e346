-- Texts written piece by piece.
use Rattle.std.proofs.Common.{◌≡◌, ℕ, ◌+◌, ◌<◌, ◌≤◌, ◌==◌, if◌then◌else◌, Bool, true, false, List, [], ◌∷◌, ◌++◌, map, All, refl, sym, ap, ◌∙◌, arith}
use Rattle.std.proofs.lemmas.List.{append-nil, append_assoc}
use Rattle.std.proofs.lemmas.Bool.Decides.{nat_tests}
use Rattle.std.proofs.lemmas.List.Elements.{All-from_recursion}
use Rattle.std.specs.List.{AllByRecursion, flat_map, join_with_byte}
use Rattle.std.specs.Prelude.{codes, decimal}
use Rattle.rhythm_base.specs.Readable.{AppearInOrder}
use Rattle.rhythm_base.specs.declared.rule.Rule.{Rule}
use Rattle.std.proofs.lemmas.Grind.{flat_map-append}
use Rattle.rhythm_base.specs.Grammar.{Grammar}
use Rattle.grammar_file.specs.Printed.{header_words, line_text, symbol_name, printed, rule_words, start_words}

-- four pieces, one after the other
pub four_pieces : (text a b c d p q r s : List ℕ) → a ≡ text ++ p → b ≡ a ++ q → c ≡ b ++ r → d ≡ c ++ s
    → d ≡ text ++ (p ++ (q ++ (r ++ (s ++ []))))
four_pieces text a b c d p q r s e f g h =
    h ∙ ap (λ t. t ++ s) (g ∙ ap (λ t. t ++ r) (f ∙ ap (λ t. t ++ q) e))
    ∙ append_assoc ((text ++ p) ++ q) r s ∙ append_assoc (text ++ p) q (r ++ s) ∙ append_assoc text p (q ++ (r ++ s))
    ∙ ap (λ t. text ++ (p ++ (q ++ (r ++ t)))) (sym (append-nil s))

-- words after a first one, each after a space
pub spaced : (word : List ℕ) (words : List (List ℕ)) → join_with_byte 32 (word ∷ words) ≡ word ++ flat_map (λ w. 32 ∷ w) words
spaced word [] = sym (append-nil word)
spaced word (next ∷ words) = ap (λ text. word ++ 32 ∷ text) (spaced next words)

spaced_names : (names : List (List ℕ)) (symbols : List ℕ) → flat_map (λ w. 32 ∷ w) (map (symbol_name names) symbols) ≡ flat_map (λ s. 32 ∷ symbol_name names s) symbols
spaced_names names [] = refl
spaced_names names (symbol ∷ symbols) = ap (λ text. 32 ∷ (symbol_name names symbol ++ text)) (spaced_names names symbols)

-- a split, and parts
pub split_text : (names : List (List ℕ)) (symbols : List ℕ)
    → codes "split" ++ flat_map (λ s. 32 ∷ symbol_name names s) symbols ≡ join_with_byte 32 (codes "split" ∷ map (symbol_name names) symbols)
split_text names symbols = ap (λ text. codes "split" ++ text) (sym (spaced_names names symbols)) ∙ sym (spaced (codes "split") (map (symbol_name names) symbols))

abbrev part_words : List (List ℕ) → ℕ × ℕ → List (List ℕ)
part_words names part = decimal part.0 ∷ symbol_name names part.1 ∷ []

spaced_parts : (names : List (List ℕ)) (parts : List (ℕ × ℕ))
    → flat_map (λ w. 32 ∷ w) (flat_map (part_words names) parts) ≡ flat_map (λ q. 32 ∷ (decimal q.0 ++ 32 ∷ symbol_name names q.1)) parts
spaced_parts names [] = refl
spaced_parts names (part ∷ parts) =
    ap (λ text. 32 ∷ (decimal part.0 ++ 32 ∷ (symbol_name names part.1 ++ text))) (spaced_parts names parts)
    ∙ ap (λ text. 32 ∷ text) (sym (append_assoc (decimal part.0) (32 ∷ symbol_name names part.1) (flat_map (λ q. 32 ∷ (decimal q.0 ++ 32 ∷ symbol_name names q.1)) parts)))

pub parts_text : (names : List (List ℕ)) (parts : List (ℕ × ℕ))
    → codes "parts" ++ flat_map (λ q. 32 ∷ (decimal q.0 ++ 32 ∷ symbol_name names q.1)) parts ≡ join_with_byte 32 (codes "parts" ∷ flat_map (part_words names) parts)
parts_text names parts = ap (λ text. codes "parts" ++ text) (sym (spaced_parts names parts)) ∙ sym (spaced (codes "parts") (flat_map (part_words names) parts))

-- left sides that appear in order are symbols
pub sides_bound : (k : ℕ) (symbols : List ℕ) (names : ℕ) → AppearInOrder k symbols names → (k ≤ names) × AllByRecursion (λ s. s < names) symbols
sides_bound k [] names order = (omega (arith, order), tt)
sides_bound k (symbol ∷ symbols) names order = at (symbol == k) refl order.1 (λ j rest. sides_bound j symbols names rest)
  where
    at : (b : Bool) → (symbol == k) ≡ b → AppearInOrder (if b then k + 1 else k) symbols names
        → ((j : ℕ) → AppearInOrder j symbols names → (j ≤ names) × AllByRecursion (λ s. s < names) symbols)
        → (k ≤ names) × ((symbol < names) × AllByRecursion (λ s. s < names) symbols)
    at true e rest bound =
        let more = bound (k + 1) rest in
        let is : symbol ≡ k = grind (arith, nat_tests, e) in
        (omega (arith, more.0), (omega (arith, is, more.0), more.1))
    at false e rest bound =
        let more = bound k rest in
        let other : symbol < k = grind (arith, nat_tests, e, order.0) in
        (more.0, (omega (arith, other, more.0), more.1))

pub sides_of_rules : (rules : List Rule) (names : ℕ) → AppearInOrder 0 (map (λ r. r.lhs) rules) names → All (λ r. r.lhs < names) rules
sides_of_rules rules names order = All-from_recursion (λ r. r.lhs < names) rules (of_rules rules (sides_bound 0 (map (λ r. r.lhs) rules) names order).1)
  where
    of_rules : (rules : List Rule) → AllByRecursion (λ s. s < names) (map (λ r. r.lhs) rules) → AllByRecursion (λ r. r.lhs < names) rules
    of_rules [] all = tt
    of_rules (rule ∷ rules) all = (all.0, of_rules rules all.1)

-- the text of a grammar, in its three parts
pub printed_parts : (g : Grammar) (text a b : List ℕ) → text ≡ flat_map line_text (header_words g) → a ≡ text ++ flat_map line_text (map (start_words g.names) g.starts)
    → b ≡ a ++ flat_map line_text (map (rule_words g.names) g.rules) → b ≡ printed g
unfolding printed
printed_parts g text a b head starts rules =
    rules ∙ ap (λ t. t ++ flat_map line_text (map (rule_words g.names) g.rules)) starts
    ∙ append_assoc text (flat_map line_text (map (start_words g.names) g.starts)) (flat_map line_text (map (rule_words g.names) g.rules))
    ∙ ap (λ t. t ++ (flat_map line_text (map (start_words g.names) g.starts) ++ flat_map line_text (map (rule_words g.names) g.rules))) head
    ∙ ap (λ t. flat_map line_text (header_words g) ++ t) (sym (flat_map-append line_text (map (start_words g.names) g.starts) (map (rule_words g.names) g.rules)))
    ∙ sym (flat_map-append line_text (header_words g) (map (start_words g.names) g.starts ++ map (rule_words g.names) g.rules))
