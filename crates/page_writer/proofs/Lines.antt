-- Texts of words and of lines.
use Rattle.std.proofs.Common.{◌≡◌, ℕ, ◌+◌, List, [], ◌∷◌, ◌++◌, append_assoc, refl, sym, ap, ◌∙◌}
use Rattle.std.specs.Prelude.{codes, replicate}
use Rattle.std.proofs.lemmas.List.{append-nil, replicate_more}
use Rattle.std.proofs.lemmas.List.Concat.{flat_map-append}
use Rattle.page_writer.specs.Groups.{silent_graces_text}
use Rattle.score_words.specs.TextLines.{lines_text}
use Rattle.page_writer.specs.Words.{words_text}
use Rattle.score_words.proofs.TextLines.{line_after, lines_append}

pub words_append : (xs ys : List (List ℕ)) → words_text (xs ++ ys) ≡ words_text xs ++ words_text ys
words_append xs ys = flat_map-append (λ (word : List ℕ). word ++ 32 ∷ []) xs ys

-- a text with a word after it
pub word_after : (text word new : List ℕ) → new ≡ text ++ (word ++ 32 ∷ []) → new ≡ text ++ words_text (word ∷ [])
word_after text word new is = is ∙ ap (λ t. text ++ t) (sym (append-nil (word ++ 32 ∷ [])))

-- one silent grace note more
pub silent_more : (n : ℕ) → silent_graces_text (n + 1) ≡ silent_graces_text n ++ codes "s8 "
silent_more n = ap words_text (sym (replicate_more n (codes "s8"))) ∙ words_append (replicate n (codes "s8")) (codes "s8" ∷ [])

-- ---- a line or a word after a text, piece by piece

pub line_of_two : (text a b one two new : List ℕ) → one ≡ text ++ a → two ≡ one ++ b → new ≡ two ++ 10 ∷ []
    → new ≡ text ++ lines_text ((a ++ b) ∷ [])
line_of_two text a b one two new f g h =
    line_after text (a ++ b) new
    (h ∙ ap (λ t. t ++ 10 ∷ []) (g ∙ ap (λ t. t ++ b) f ∙ append_assoc text a b) ∙ append_assoc text (a ++ b) (10 ∷ []))

pub line_of_three : (text a b c one two new : List ℕ) → one ≡ text ++ a → two ≡ one ++ b → new ≡ two ++ (c ++ 10 ∷ [])
    → new ≡ text ++ lines_text ((a ++ b ++ c) ∷ [])
line_of_three text a b c one two new f g h =
    line_of_two text (a ++ b) c two (two ++ c) new (g ∙ ap (λ t. t ++ b) f ∙ append_assoc text a b) refl (h ∙ sym (append_assoc two c (10 ∷ [])))

pub line_of_five : (text a b c d e one two three four new : List ℕ) → one ≡ text ++ a → two ≡ one ++ b
    → three ≡ two ++ c → four ≡ three ++ d → new ≡ four ++ (e ++ 10 ∷ []) → new ≡ text ++ lines_text ((a ++ b ++ c ++ d ++ e) ∷ [])
line_of_five text a b c d e one two three four new f g h i j =
    line_of_three text (a ++ b ++ c) d e three four new
    (h ∙ ap (λ t. t ++ c) (g ∙ ap (λ t. t ++ b) f ∙ append_assoc text a b) ∙ append_assoc text (a ++ b) c) i j

pub word_of_four : (text a b c d one two three new : List ℕ) → one ≡ text ++ a → two ≡ one ++ b → three ≡ two ++ c → new ≡ three ++ (d ++ 32 ∷ [])
    → new ≡ text ++ words_text ((a ++ b ++ c ++ d) ∷ [])
word_of_four text a b c d one two three new f g h i =
    let front : three ≡ text ++ (a ++ b ++ c) =
    h ∙ ap (λ t. t ++ c) (g ∙ ap (λ t. t ++ b) f ∙ append_assoc text a b) ∙ append_assoc text (a ++ b) c in
    word_after text (a ++ b ++ c ++ d) new
    (i ∙ ap (λ t. t ++ (d ++ 32 ∷ [])) front ∙ append_assoc text (a ++ b ++ c) (d ++ 32 ∷ [])
    ∙ ap (λ t. text ++ t) (sym (append_assoc (a ++ b ++ c) d (32 ∷ []))))

-- lines, a line, and lines
pub lines_of_three : (text : List ℕ) (a : List (List ℕ)) (b : List ℕ) (c : List (List ℕ)) (one two new : List ℕ) → one ≡ text ++ lines_text a
    → two ≡ one ++ lines_text (b ∷ []) → new ≡ two ++ lines_text c → new ≡ text ++ lines_text (a ++ b ∷ c)
lines_of_three text a b c one two new f g h =
    let parts : lines_text (a ++ b ∷ c) ≡ lines_text a ++ (lines_text (b ∷ []) ++ lines_text c) =
    lines_append a (b ∷ c) ∙ ap (λ t. lines_text a ++ t) (lines_append (b ∷ []) c) in
    h ∙ ap (λ t. t ++ lines_text c) (g ∙ ap (λ t. t ++ lines_text (b ∷ [])) f) ∙ append_assoc (text ++ lines_text a) (lines_text (b ∷ [])) (lines_text c)
    ∙ append_assoc text (lines_text a) (lines_text (b ∷ []) ++ lines_text c) ∙ ap (λ t. text ++ t) (sym parts)
