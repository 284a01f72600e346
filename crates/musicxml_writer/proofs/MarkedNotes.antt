-- Where something is drawn at a note, and where nothing is.
use Rattle.std.proofs.Common.{◌≡◌, Bool, true, false, List, [], ◌++◌, refl}
use Rattle.std.specs.Prelude.{ℕ, ◌&&◌, ◌||◌, codes}
use Rattle.notation.specs.Notes.{Note}
use Rattle.musicxml_writer.specs.declared.marks.Bracket.{Bracket}
use Rattle.musicxml_writer.specs.Elements.{attribute_start, element, empty_with, opening, some_element, text_if}
use Rattle.musicxml_writer.specs.Notes.{bracket_ends, key_marks, notations, short_mark, start_tag, stop_tag, tie_ends}

some_bracket : (name : List ℕ) (starts stops : Bool) → (starts || stops) ≡ true
    → some_element name (text_if starts (start_tag (codes "tuplet")) ++ text_if stops (stop_tag (codes "tuplet")))
    ≡ element name (text_if starts (start_tag (codes "tuplet")) ++ text_if stops (stop_tag (codes "tuplet")))
unfolding attribute_start empty_with some_element
some_bracket name true stops h = refl
some_bracket name false true h = refl
some_bracket name false false h = cc

no_bracket : (name : List ℕ) (starts stops : Bool) → (starts || stops) ≡ false
    → some_element name (text_if starts (start_tag (codes "tuplet")) ++ text_if stops (stop_tag (codes "tuplet"))) ≡ []
unfolding some_element
no_bracket name true stops h = cc
no_bracket name false true h = cc
no_bracket name false false h = refl

-- at a rest
pub rest_marked : (bracket : Bracket) → (bracket.starts || bracket.stops) ≡ true
    → notations (bracket_ends bracket) ≡ element (codes "notations") (bracket_ends bracket)
unfolding bracket_ends
rest_marked bracket h = some_bracket (codes "notations") bracket.starts bracket.stops h

pub rest_unmarked : (bracket : Bracket) → (bracket.starts || bracket.stops) ≡ false → notations (bracket_ends bracket) ≡ []
unfolding bracket_ends
rest_unmarked bracket h = no_bracket (codes "notations") bracket.starts bracket.stops h

-- ---- at a key of a chord

abbrev marks : Bool → Bool → Bool → Bool → Bool → Bool → List ℕ
marks comes goes lowest starts stops short =
    text_if comes (stop_tag (codes "tied")) ++ text_if goes (start_tag (codes "tied"))
    ++ text_if lowest ((text_if starts (start_tag (codes "tuplet")) ++ text_if stops (stop_tag (codes "tuplet"))) ++ short_mark short)

abbrev is_any : Bool → Bool → Bool → Bool → Bool → Bool → Bool
is_any comes goes lowest starts stops short = comes || goes || (lowest && (starts || stops || short))

some_marks : (name : List ℕ) (comes goes lowest starts stops short : Bool) → is_any comes goes lowest starts stops short ≡ true
    → some_element name (marks comes goes lowest starts stops short) ≡ element name (marks comes goes lowest starts stops short)
unfolding attribute_start empty_with element opening some_element short_mark
some_marks name true goes lowest starts stops short h = refl
some_marks name false true lowest starts stops short h = refl
some_marks name false false false starts stops short h = cc
some_marks name false false true true stops short h = refl
some_marks name false false true false true short h = refl
some_marks name false false true false false true h = refl
some_marks name false false true false false false h = cc

no_marks : (name : List ℕ) (comes goes lowest starts stops short : Bool) → is_any comes goes lowest starts stops short ≡ false
    → some_element name (marks comes goes lowest starts stops short) ≡ []
unfolding some_element short_mark
no_marks name true goes lowest starts stops short h = cc
no_marks name false true lowest starts stops short h = cc
no_marks name false false false starts stops short h = refl
no_marks name false false true true stops short h = cc
no_marks name false false true false true short h = cc
no_marks name false false true false false true h = cc
no_marks name false false true false false false h = refl

pub key_marked : (bracket : Bracket) (n : Note) (lowest : Bool) → is_any n.comes n.goes lowest bracket.starts bracket.stops n.short ≡ true
    → notations (key_marks bracket n lowest) ≡ element (codes "notations") (key_marks bracket n lowest)
unfolding bracket_ends key_marks tie_ends
key_marked bracket n lowest h = some_marks (codes "notations") n.comes n.goes lowest bracket.starts bracket.stops n.short h

pub key_unmarked : (bracket : Bracket) (n : Note) (lowest : Bool) → is_any n.comes n.goes lowest bracket.starts bracket.stops n.short ≡ false
    → notations (key_marks bracket n lowest) ≡ []
unfolding bracket_ends key_marks tie_ends
key_unmarked bracket n lowest h = no_marks (codes "notations") n.comes n.goes lowest bracket.starts bracket.stops n.short h
