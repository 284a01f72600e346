-- Runs of lines of one kind, with lines of other kinds after them.
use Rattle.std.proofs.Common.{◌≡◌, ◌≢◌, ℕ, List, [], ◌∷◌, ◌++◌, refl, sym, ap, ◌∙◌, append_assoc}
use Rattle.std.specs.Prelude.{All}
use Rattle.std.specs.List.{flat_map}
use Rattle.std.proofs.lemmas.List.Elements.{All-nil}
use Rattle.rhythm_base.proofs.OrderedLists.{all_cons, all_head, all_tail}
use Rattle.notes_writer.specs.Line.{words_line}
use Rattle.notes_writer.proofs.WordsApart.{AreGraphic, after_word, line_begins, lines_apart}

-- lines whose name begins with a byte, and whose later words say what they are of
pub record IsKind {X : Type 0} (byte : ℕ) (P : X → Type 0) (line : X → List ℕ) : Type 0 where
  pub name : List ℕ
  pub words : X → List (List ℕ)
  pub is : (x : X) → line x ≡ words_line ((byte ∷ name) ∷ words x)
  pub graphic : (x : X) → P x → AreGraphic ((byte ∷ name) ∷ words x)
  pub one : (x y : X) → P x → P y → words x ≡ words y → x ≡ y

-- a text begins otherwise
abbrev pub BeginsNot : ℕ → List ℕ → Type 0
BeginsNot byte text = (rest : List ℕ) → text ≡ byte ∷ rest → ⊥

module _ {X : Type 0} (byte : ℕ) (P : X → Type 0) (line : X → List ℕ) (kind : IsKind byte P line) where
  -- the first line of a run, and what is after it
  run_begins : (x : X) (xs : List X) (r : List ℕ)
      → flat_map line (x ∷ xs) ++ r ≡ words_line ((byte ∷ kind.name) ∷ kind.words x) ++ (flat_map line xs ++ r)
  run_begins x xs r = append_assoc (line x) (flat_map line xs) r ∙ ap (λ t. t ++ (flat_map line xs ++ r)) (kind.is x)

  first_byte : (x : X) (xs : List X) (r : List ℕ)
      → flat_map line (x ∷ xs) ++ r ≡ byte ∷ (kind.name ++ after_word (kind.words x) (flat_map line xs ++ r))
  first_byte x xs r = run_begins x xs r ∙ line_begins (byte ∷ kind.name) (kind.words x) (flat_map line xs ++ r)

  pub other_run : (other : ℕ) → byte ≢ other → (xs : List X) (r : List ℕ) → BeginsNot other r → BeginsNot other (flat_map line xs ++ r)
  other_run other differ [] r h = h
  other_run other differ (x ∷ xs) r h = λ rest e.
      let begins = sym (first_byte x xs r) ∙ e in
      differ (cc)

  pub runs_apart : (xs ys : List X) (r s : List ℕ) → All P xs → All P ys → BeginsNot byte r → BeginsNot byte s
      → flat_map line xs ++ r ≡ flat_map line ys ++ s → (xs ≡ ys) × (r ≡ s)
  runs_apart [] [] r s p q f g e = (refl, e)
  runs_apart [] (y ∷ ys) r s p q f g e = absurd (f _ (e ∙ first_byte y ys s))
  runs_apart (x ∷ xs) [] r s p q f g e = absurd (g _ (sym e ∙ first_byte x xs r))
  runs_apart (x ∷ xs) (y ∷ ys) r s p q f g e =
      let here : P x = all_head P x xs p in
      let there : P y = all_head P y ys q in
      let apart = lines_apart (byte ∷ kind.name) (byte ∷ kind.name) (kind.words x) (kind.words y) (flat_map line xs ++ r) (flat_map line ys ++ s)
      (kind.graphic x here) (kind.graphic y there) (sym (run_begins x xs r) ∙ e ∙ run_begins y ys s) in
      let rest = runs_apart xs ys r s (all_tail P x xs p) (all_tail P y ys q) f g apart.1 in
      let same = kind.one x y here there apart.0 in
      ((λ i. same i ∷ rest.0 i), rest.1)

  -- one line alone
  pub line_apart : (x y : X) → P x → P y → line x ≡ line y → x ≡ y
  line_apart x y h k e =
      let empty : BeginsNot byte [] = λ rest f. absurd (cc) in
      let apart = runs_apart (x ∷ []) (y ∷ []) [] [] (all_cons P x [] h (All-nil P)) (all_cons P y [] k (All-nil P)) empty empty
      (ap (λ t. (t ++ []) ++ []) e) in
      let same : x ∷ [] ≡ y ∷ [] = apart.0 in
      cc
