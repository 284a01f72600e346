-- Words with something between them are told apart, and so are the lines of words.
use Rattle.std.proofs.Common.{◌≡◌, ℕ, Bool, true, false, List, [], ◌∷◌, ◌++◌, refl, sym, ap, ◌∙◌, append_assoc}
use Rattle.std.specs.Prelude.{⊤, nat_lt}
use Rattle.std.specs.List.{join_with_byte, list_all}
use Rattle.std.proofs.lemmas.Bool.{and_parts}
use Rattle.notes_writer.specs.Line.{words_line}

-- of bytes that pass a test, what stands before one that fails it
pub pieces_apart : (p : ℕ → Bool) (u v : List ℕ) (c d : ℕ) (r s : List ℕ) → list_all p u ≡ true → list_all p v ≡ true → p c ≡ false → p d ≡ false
    → u ++ (c ∷ r) ≡ v ++ (d ∷ s) → (u ≡ v) × (c ∷ r ≡ d ∷ s)
pieces_apart p [] [] c d r s h k f g e = (refl, e)
pieces_apart p [] (y ∷ v) c d r s h k f g e =
    let same : c ≡ y = cc in
    let yes : p y ≡ true = (and_parts (p y) (list_all p v) k).0 in
    let both : p c ≡ p y = ap p same in
    absurd (cc)
pieces_apart p (x ∷ u) [] c d r s h k f g e =
    let same : x ≡ d = cc in
    let yes : p x ≡ true = (and_parts (p x) (list_all p u) h).0 in
    let both : p x ≡ p d = ap p same in
    absurd (cc)
pieces_apart p (x ∷ u) (y ∷ v) c d r s h k f g e =
    let same : x ≡ y = cc in
    let later : u ++ (c ∷ r) ≡ v ++ (d ∷ s) = cc in
    let rest = pieces_apart p u v c d r s (and_parts (p x) (list_all p u) h).1 (and_parts (p y) (list_all p v) k).1 f g later in
    ((λ i. same i ∷ rest.0 i), rest.1)

-- a byte that stands in a word: it is above the space and the newline
abbrev pub is_graphic : ℕ → Bool
is_graphic b = nat_lt 32 b

abbrev pub AreGraphic : List (List ℕ) → Type 0
AreGraphic [] = ⊤
AreGraphic (w ∷ words) = (list_all is_graphic w ≡ true) × AreGraphic words

-- the later words of a line, its newline, and what follows
abbrev pub after_word : List (List ℕ) → List ℕ → List ℕ
after_word [] rest = 10 ∷ rest
after_word (w ∷ words) rest = 32 ∷ (w ++ after_word words rest)

pub line_begins : (w : List ℕ) (words : List (List ℕ)) (rest : List ℕ) → words_line (w ∷ words) ++ rest ≡ w ++ after_word words rest
line_begins w [] rest = append_assoc w (10 ∷ []) rest
line_begins w (v ∷ words) rest =
    ap (λ t. t ++ rest) (append_assoc w (32 ∷ join_with_byte 32 (v ∷ words)) (10 ∷ []))
    ∙ append_assoc w (32 ∷ words_line (v ∷ words)) rest ∙ ap (λ t. w ++ (32 ∷ t)) (line_begins v words rest)

-- a word ends where the next one, or the newline, is set off
word_apart : (u v : List ℕ) (us vs : List (List ℕ)) (r s : List ℕ) → list_all is_graphic u ≡ true → list_all is_graphic v ≡ true
    → u ++ after_word us r ≡ v ++ after_word vs s → (u ≡ v) × (after_word us r ≡ after_word vs s)
word_apart u v [] [] r s h k e = pieces_apart is_graphic u v 10 10 r s h k refl refl e
word_apart u v [] (y ∷ vs) r s h k e = pieces_apart is_graphic u v 10 32 r (y ++ after_word vs s) h k refl refl e
word_apart u v (x ∷ us) [] r s h k e = pieces_apart is_graphic u v 32 10 (x ++ after_word us r) s h k refl refl e
word_apart u v (x ∷ us) (y ∷ vs) r s h k e = pieces_apart is_graphic u v 32 32 (x ++ after_word us r) (y ++ after_word vs s) h k refl refl e

words_apart : (us vs : List (List ℕ)) (r s : List ℕ) → AreGraphic us → AreGraphic vs → after_word us r ≡ after_word vs s → (us ≡ vs) × (r ≡ s)
words_apart [] [] r s h k e = (refl, cc)
words_apart [] (v ∷ vs) r s h k e = absurd (cc)
words_apart (u ∷ us) [] r s h k e = absurd (cc)
words_apart (u ∷ us) (v ∷ vs) r s h k e =
    let later : u ++ after_word us r ≡ v ++ after_word vs s = cc in
    let here = word_apart u v us vs r s h.0 k.0 later in
    let rest = words_apart us vs r s h.1 k.1 here.1 in
    ((λ i. here.0 i ∷ rest.0 i), rest.1)

-- lines with something after them
pub lines_apart : (u v : List ℕ) (us vs : List (List ℕ)) (r s : List ℕ) → AreGraphic (u ∷ us) → AreGraphic (v ∷ vs)
    → words_line (u ∷ us) ++ r ≡ words_line (v ∷ vs) ++ s → (us ≡ vs) × (r ≡ s)
lines_apart u v us vs r s h k e =
    let here = word_apart u v us vs r s h.0 k.0 (sym (line_begins u us r) ∙ e ∙ line_begins v vs s) in
    words_apart us vs r s h.1 k.1 here.1
