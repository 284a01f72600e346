-- The lines after the header, one more at a time.
use Rattle.std.proofs.Common.{◌≡◌, ℕ, Bool, true, false, cond, List, [], ◌∷◌, ◌++◌, map, refl, ap, ◌∙◌}
use Rattle.std.proofs.lemmas.Grind.{flat_map-append}
use Rattle.std.proofs.lemmas.List.{append-nil, map-append}
use Rattle.std.specs.List.{list_any}
use Rattle.std.specs.Str.{bytes_eq}
use Rattle.rhythm_base.proofs.Positions.{list_any-map}
use Rattle.grammar_file.proofs.AppearanceLemmas.{first_appearances-push}
use Rattle.rhythm_base.proofs.Texts.{bytes_eq-sym}
use Rattle.grammar_file.specs.Names.{first_appearances, is_known, with_name}
use Rattle.grammar_file.specs.Statements.{left_side, left_sides, names_of}
use Rattle.grammar_file.specs.declared.draft.Spoken.{Spoken}
use Rattle.grammar_file.specs.declared.said.NamedBody.{NamedBody}
use Rattle.grammar_file.specs.declared.said.Said.TheVariants.{Start, Rule}

-- a line that is a start
pub names_of-start : (before : List Spoken) (line num den : ℕ) (name : List ℕ)
    → names_of (before ++ record { line = line; said = Start num den name } ∷ []) ≡ names_of before
names_of-start before line num den name =
    ap first_appearances (flat_map-append left_side before (record { line = line; said = Start num den name } ∷ []) ∙ append-nil (left_sides before))

-- a line that is a rule
known_turned : (names : List (List ℕ)) (name : List ℕ) → list_any (λ y. bytes_eq y name) names ≡ is_known names name
known_turned [] name = refl
known_turned (first ∷ names) name = rw (bytes_eq-sym first name, known_turned names name) refl

pub first_appearances-with : (texts : List (List ℕ)) (x : List ℕ) → first_appearances (texts ++ x ∷ []) ≡ with_name (first_appearances texts) x
first_appearances-with texts x =
    first_appearances-push texts x ∙ ap (λ b. cond b (first_appearances texts) (first_appearances texts ++ x ∷ [])) (known_turned (first_appearances texts) x)

pub names_of-rule : (before : List Spoken) (line : ℕ) (name : List ℕ) (weight : ℕ) (body : NamedBody)
    → names_of (before ++ record { line = line; said = Rule name weight body } ∷ []) ≡ with_name (names_of before) name
names_of-rule before line name weight body =
    ap first_appearances (flat_map-append left_side before (record { line = line; said = Rule name weight body } ∷ []))
    ∙ first_appearances-push (left_sides before) name
    ∙ ap (λ b. cond b (names_of before) (names_of before ++ name ∷ [])) (known_turned (names_of before) name)

-- a name among borrowed names
pub with_name-map : {X : Type 0} (text : X → List ℕ) (keys : List X) (key : X)
    → map text (cond (list_any (λ k. bytes_eq (text key) (text k)) keys) keys (keys ++ key ∷ [])) ≡ with_name (map text keys) (text key)
with_name-map {X} text keys key = rw (list_any-map (bytes_eq (text key)) text keys) (at (list_any (λ k. bytes_eq (text key) (text k)) keys))
  where
    at : (b : Bool) → map text (cond b keys (keys ++ key ∷ [])) ≡ cond b (map text keys) (map text keys ++ text key ∷ [])
    at true = refl
    at false = map-append text keys (key ∷ [])
