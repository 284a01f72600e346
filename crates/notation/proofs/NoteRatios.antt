-- A note lasts as much of its value as the ratio of its group says.
use Rattle.std.proofs.Common.{◌≡◌, ℕ, ◌-◌, ◌*◌, ◌/◌, ◌≤◌, Bool, true, false, List, [], ◌∷◌, sym, ap, ◌∙◌, subst, arith}
use Rattle.std.specs.Prelude.{All}
use Rattle.std.proofs.Math.Nat.{div-mul_cancel}
use Rattle.std.proofs.lemmas.List.Elements.{All-append, All-cons, All-head, All-nil, All-tail}
use Rattle.durations.specs.declared.value.Value.{Value}
use Rattle.durations.specs.Value.{IsWide, parts, value_grid, width}
use Rattle.durations.proofs.Sums.{values_sum}
use Rattle.notation.specs.Laws.{NotesHaveTheirRatio}
use Rattle.notation.specs.Notes.{AreNotes, Note, is_empty, joined_ties, note, spelled_whole, token_notes}
use Rattle.notation.specs.Places.{whole_of}
use Rattle.notation.specs.Tokens.{Token}
use Rattle.notation.proofs.Spelled.{odd_whole, whole_some}

-- so many parts of the grid are a value of so many in a whole note
abbrev IsSpelledBy : ℕ → ℕ → Note → Type 0
IsSpelledBy grid whole n = n.duration * value_grid n.value ≡ parts n.value * whole * grid

turned : (w g n : ℕ) → w * g * n ≡ w * n * g
turned w g n = grind arith

values_spelled : (grid whole : ℕ) (t : Token) (first : Bool) (vs : List Value) → All (IsWide whole) vs → All (IsSpelledBy grid whole)
    (token_notes grid whole t first vs)
values_spelled grid whole t first [] wide = All-nil (IsSpelledBy grid whole)
values_spelled grid whole t first (v ∷ vs) wide =
    let here : width whole v * value_grid v ≡ parts v * whole = div-mul_cancel (value_grid v) (All-head (IsWide whole) v vs wide) in
    All-cons (IsSpelledBy grid whole) (note grid whole t first (is_empty vs) v) (token_notes grid whole t false vs)
    (turned (width whole v) grid (value_grid v) ∙ ap (λ x. x * grid) here) (values_spelled grid whole t false vs (All-tail (IsWide whole) v vs wide))

notes_spelled : (grid whole : ℕ) (ts : List Token) (notes : List Note) → 1 ≤ whole → AreNotes grid whole ts notes → All (IsSpelledBy grid whole) notes
notes_spelled grid whole [] notes some h = subst (All (IsSpelledBy grid whole)) (sym h) (All-nil (IsSpelledBy grid whole))
notes_spelled grid whole (t ∷ ts) notes some (vs, others, values, are, is) =
    let wide = (values_sum ((t.end - t.start) / grid) whole vs some values).wide in
    subst (All (IsSpelledBy grid whole)) (sym is)
    (All-append (IsSpelledBy grid whole) (token_notes grid whole t true vs) others (values_spelled grid whole t true vs wide)
    (notes_spelled grid whole ts others some are))

-- of o * g = odd parts in the grid, and u * odd in a whole note
in_ratio : (d n p u normal grid actual odd all : ℕ) → d * n ≡ p * (u * normal) * grid → odd ≡ actual * grid → u * odd ≡ all
    → d * (n * actual) ≡ p * (all * normal)
in_ratio d n p u normal grid actual odd all spelled is whole =
    first d n actual ∙ ap (λ x. x * actual) spelled ∙ second p u normal grid actual ∙ ap (λ x. p * (u * x * normal)) (sym is) ∙ ap
    (λ x. p * (x * normal)) whole
  where
    first : (a b c : ℕ) → a * (b * c) ≡ a * b * c
    first a b c = grind arith

    second : (p u m g o : ℕ) → p * (u * m) * g * o ≡ p * (u * (o * g) * m)
    second p u m g o = grind arith

pub notes_in_ratio : NotesHaveTheirRatio
notes_in_ratio r odd ts g some part h k d lt =
    let whole = spelled_whole r odd g.ratio.normal in
    let all = notes_spelled h.grid whole (joined_ties g.ratio.actual h.grid whole ts) g.notes
    (whole_some r odd g.ratio.normal some part h.normal.0) h.notes in
    in_ratio _ _ _ (whole_of r / odd) g.ratio.normal h.grid g.ratio.actual odd (whole_of r) (all k d lt) h.actual (odd_whole r odd part)
