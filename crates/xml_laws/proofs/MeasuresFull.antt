-- A measure that is read is as long as its signature says.
use Rattle.std.proofs.Common.{◌≡◌, ℕ, ◌-◌, ◌==◌, ◌&&◌, Bool, true, false, List, [], ◌∷◌, ◌++◌, Option, Some, None, refl, subst, arith}
use Rattle.std.specs.Prelude.{if◌then◌else◌}
use Rattle.std.proofs.lemmas.Bool.{and_parts, false≢true}
use Rattle.std.proofs.lemmas.Bool.Decides.{nat_tests}
use Rattle.notation.specs.Notes.{is_empty}
use Rattle.notation_laws.specs.Hearing.{is_none}
use Rattle.notation_laws.proofs.Says.{heard_first}
use Rattle.xml_laws.specs.Hearing.{HeardPart, bar_ends, hear_tag, heard_with, is_of_beats}
use Rattle.xml_laws.specs.Laws.{IsFullMeasure, MeasuresAreFull}
use Rattle.xml_laws.proofs.NotesRead.{if_some}

some_same : {X : Type 0} (b : Bool) (x y : X) → (if b then Some x else None) ≡ Some y → x ≡ y
some_same true x y e = cc
some_same false x y e = absurd (cc)

none_is : (graces : List ℕ) → is_empty graces ≡ true → graces ≡ []
none_is [] h = λ i. []
none_is (g ∷ graces) h = absurd (false≢true h)

pub measures_full : MeasuresAreFull
unfolding hear_tag
measures_full h next e =
    let (v, _, rest) = heard_first (heard_with h.heard h.chord) (bar_ends h) next e in
    let len = v.at - h.began in
    let whole : HeardPart = record h { heard = v; chord = None; began = v.at; lengths = h.lengths ++ len ∷ [] } in
    let test = is_none h.note && (is_empty v.graces && is_of_beats h.divisions h.beats h.beat_type len) in
    let (_, parts) = and_parts (is_none h.note) _ (if_some test whole next rest) in
    let (bare, full) = and_parts (is_empty v.graces) _ parts in
    subst (λ (n : HeardPart). IsFullMeasure h n) (some_same test whole next rest)
    (go whole (none_is v.graces bare) h.divisions h.beats h.beat_type refl refl refl full)
  where
    same : (x y : ℕ) → (x == y) ≡ true → x ≡ y
    same x y h = grind (arith, nat_tests, h)

    go : (n : HeardPart) → n.heard.graces ≡ [] → (d b t : Option ℕ) → h.divisions ≡ d → h.beats ≡ b → h.beat_type ≡ t
        → is_of_beats d b t (n.heard.at - h.began) ≡ true → IsFullMeasure h n
    go n bare (Some quarter) (Some beats) (Some kind) one two three full = record {
      quarter = quarter;
      said = one;
      beats = beats;
      of_beats = two;
      beat_type = kind;
      of_type = three;
      is = same _ _ full;
      graces = bare;
    }
    go n bare None b t one two three full = absurd (false≢true full)
    go n bare (Some quarter) None t one two three full = absurd (false≢true full)
    go n bare (Some quarter) (Some beats) None one two three full = absurd (false≢true full)
