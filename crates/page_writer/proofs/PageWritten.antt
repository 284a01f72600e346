-- The parts of a page, written one after another.
use Rattle.std.proofs.Common.{◌≡◌, ℕ, List, [], ◌++◌, length, sym, ap, ◌∙◌}
use Rattle.rhythm_base.specs.Lists.{Each}
use Rattle.derivation.specs.Score.{Score}
use Rattle.notation.specs.Bars.{AreVoiceGroups}
use Rattle.notation.specs.Notes.{Group}
use Rattle.page_writer.specs.Page.{IsPage, closing_lines, head_lines, opening_lines, score_lines, tail_lines}
use Rattle.score_words.specs.TextLines.{lines_text}
use Rattle.score_words.proofs.TextLines.{lines_append}

-- the staves of a score stand after a text
abbrev pub HasStaves : Score → List ℕ → List ℕ → List ℕ → Type 0
HasStaves s channels text new =
    (written : List (List (List Group))) × Each (AreVoiceGroups s.resolution 0 s.bars) s.voices written
    × (new ≡ text ++ lines_text (score_lines s channels written))

lines_grow : (xs ys : List (List ℕ)) (text new : List ℕ) → text ≡ lines_text xs → new ≡ text ++ lines_text ys → new ≡ lines_text (xs ++ ys)
lines_grow xs ys text new is next = next ∙ ap (λ t. t ++ lines_text ys) is ∙ sym (lines_append xs ys)

five_parts : (a b c d e : List (List ℕ)) (zero one two three four new : List ℕ) → zero ≡ [] → one ≡ zero ++ lines_text a → two ≡ one ++ lines_text b
    → three ≡ two ++ lines_text c → four ≡ three ++ lines_text d → new ≡ four ++ lines_text e → new ≡ lines_text (a ++ b ++ c ++ d ++ e)
five_parts a b c d e zero one two three four new f g h i j k =
    lines_grow (a ++ b ++ c ++ d) e four new
    (lines_grow (a ++ b ++ c) d three four (lines_grow (a ++ b) c two three (lines_grow a b one two (lines_grow [] a zero one f g) h) i) j) k

pub page_written : (s : Score) (channels : List ℕ) (n : ℕ) (zero one two three four new : List ℕ) → n ≡ length s.voices → zero ≡ []
    → one ≡ zero ++ lines_text (head_lines n) → two ≡ one ++ lines_text (opening_lines n) → HasStaves s channels two three
    → four ≡ three ++ lines_text (closing_lines n) → new ≡ four ++ lines_text tail_lines → IsPage s channels new
page_written s channels n zero one two three four new count begin head opening (written, each, staves) closing tail = (
  written,
  each,
  five_parts (head_lines n) (opening_lines n) (score_lines s channels written) (closing_lines n) tail_lines zero one two three four new begin head opening
      staves closing tail
      ∙ ap (λ m. lines_text (head_lines m ++ opening_lines m ++ score_lines s channels written ++ closing_lines m ++ tail_lines)) count,
)
