-- Notes and groups written one after another.
use Rattle.std.proofs.Common.{◌≡◌, ℕ, ◌+◌, ◌<◌, ◌≤◌, Bool, false, List, ◌∷◌, ◌++◌, append_assoc, drop, get_or, length, sym, ap, ◌∙◌}
use Rattle.std.specs.Prelude.{ℤ, Option}
use Rattle.std.proofs.lemmas.List.{append-nil, at_drop_all, drop_more}
use Rattle.notation.specs.Notes.{Group, Note}
use Rattle.page_writer.specs.Groups.{group_words, groups_words, note_words, notes_words}
use Rattle.page_writer.specs.Words.{words_text}
use Rattle.page_writer.proofs.Lines.{words_append}

-- the words of one thing after a text, and of the others after them
words_next : (first others : List (List ℕ)) (before new : List ℕ) → new ≡ before ++ words_text first
    → new ++ words_text others ≡ before ++ words_text (first ++ others)
words_next first others before new is =
    ap (λ t. t ++ words_text others) is ∙ append_assoc before (words_text first) (words_text others)
    ∙ ap (λ t. before ++ t) (sym (words_append first others))

pub notes_next : (sf : Option ℤ) (written : Bool) (notes : List Note) (i : ℕ) (n : Note) (before new whole : List ℕ)
    → i < length notes → n ≡ get_or notes i n → new ≡ before ++ words_text (note_words sf written n)
    → before ++ words_text (notes_words sf written (drop i notes)) ≡ whole
    → new ++ words_text (notes_words sf false (drop (i + 1) notes)) ≡ whole
notes_next sf written notes i n before new whole within is one all =
    let later = drop (i + 1) notes in
    let next : drop i notes ≡ n ∷ later = drop_more notes i n within ∙ ap (λ m. m ∷ later) (sym is) in
    words_next (note_words sf written n) (notes_words sf false later) before new one
    ∙ ap (λ ns. before ++ words_text (notes_words sf written ns)) (sym next) ∙ all

pub notes_all : (sf : Option ℤ) (written : Bool) (notes : List Note) (i : ℕ) (before whole : List ℕ) → length notes ≤ i
    → before ++ words_text (notes_words sf written (drop i notes)) ≡ whole → before ≡ whole
notes_all sf written notes i before whole past all =
    sym (append-nil before) ∙ ap (λ t. before ++ t) (sym (at_drop_all (λ ns. words_text (notes_words sf written ns)) notes i past)) ∙ all

pub groups_next : (sf : Option ℤ) (written : Bool) (groups : List Group) (i : ℕ) (g : Group) (before new whole : List ℕ)
    → i < length groups → g ≡ get_or groups i g → new ≡ before ++ words_text (group_words sf written g)
    → before ++ words_text (groups_words sf written (drop i groups)) ≡ whole
    → new ++ words_text (groups_words sf false (drop (i + 1) groups)) ≡ whole
groups_next sf written groups i g before new whole within is one all =
    let later = drop (i + 1) groups in
    let next : drop i groups ≡ g ∷ later = drop_more groups i g within ∙ ap (λ m. m ∷ later) (sym is) in
    words_next (group_words sf written g) (groups_words sf false later) before new one
    ∙ ap (λ gs. before ++ words_text (groups_words sf written gs)) (sym next) ∙ all

pub groups_all : (sf : Option ℤ) (written : Bool) (groups : List Group) (i : ℕ) (before whole : List ℕ) → length groups ≤ i
    → before ++ words_text (groups_words sf written (drop i groups)) ≡ whole → before ≡ whole
groups_all sf written groups i before whole past all =
    sym (append-nil before) ∙ ap (λ t. before ++ t) (sym (at_drop_all (λ gs. words_text (groups_words sf written gs)) groups i past)) ∙ all
