-- Events have one text.
use Rattle.std.proofs.Common.{◌≡◌, ℕ, ◌+◌, ◌-◌, ◌*◌, ◌==◌, ◌≤◌, Bool, List, [], ◌∷◌, ◌++◌, Option, Some, None, sym, ap, ◌∙◌, arith}
use Rattle.std.specs.Prelude.{codes}
use Rattle.std.specs.List.{flat_map, range_with_len}
use Rattle.rhythm_base.specs.declared.span.Span.{Span}
use Rattle.rhythm_base.specs.Lists.{Each}
use Rattle.durations.proofs.OneList.{values_one}
use Rattle.derivation.specs.declared.score.ScoreBar.{ScoreBar}
use Rattle.score_words.specs.Changes.{has_flats}
use Rattle.voice_events.specs.Parts.{score_bar_parts, score_parts}
use Rattle.score_words.specs.LilyChanges.{lily_changes}
use Rattle.lily_writer.specs.Elements.{Element}
use Rattle.lily_writer.specs.Laws.{PagesAreOne}
use Rattle.lily_writer.specs.Pieces.{AreElements, Piece, Stretch, piece_begins, elements_of, piece_goes_on, bar_pieces, stretches}
use Rattle.lily_writer.specs.Staves.{AreBarElements, AreBarsOfStaff, AreStaffLines, staff_bar, voice_spans}
use Rattle.lily_writer.specs.Text.{IsStaff, page_head, page_tail}
use Rattle.score_words.specs.TextLines.{lines_text}

-- where each has one partner, a list has one
each_same : {X Y : Type 0} (R : X → Y → Type 0) (xs : List X) (ys zs : List Y) → ((x : X) (y z : Y) → R x y → R x z → y ≡ z) → Each R xs ys
    → Each R xs zs → ys ≡ zs
each_same R [] ys zs one h k = h ∙ sym k
each_same R (x ∷ xs) [] zs one h k = absurd h
each_same R (x ∷ xs) (y ∷ ys) [] one h k = absurd k
each_same R (x ∷ xs) (y ∷ ys) (z ∷ zs) one h k =
    let first = one x y z h.0 k.0 in
    let rest = each_same R xs ys zs one h.1 k.1 in
    λ i. first i ∷ rest i

elements_one : (resolution : ℕ) (p : Piece) (es fs : List Element) → 1 ≤ resolution → AreElements resolution p es
    → AreElements resolution p fs → es ≡ fs
elements_one resolution p es fs some (vs, values, is) (ws, others, same) =
    let one = values_one (p.to - p.from) (64 * resolution) vs ws (omega (arith, some)) values others in
    is ∙ ap (λ xs. elements_of p.whole.span (piece_begins p) (piece_goes_on p) xs) one ∙ sym same

bar_elements_one : (resolution from to : ℕ) (ss : List Stretch) (es fs : List Element) → 1 ≤ resolution
    → AreBarElements resolution from to ss es → AreBarElements resolution from to ss fs → es ≡ fs
bar_elements_one resolution from to ss es fs some (own, each, is) (others, too, same) =
    let one = each_same (AreElements resolution) (bar_pieces from to ss) own others
    (λ p xs ys h k. elements_one resolution p xs ys some h k) each too in
    is ∙ ap (λ (xs : List (List Element)). flat_map (λ x. x) xs) one ∙ sym same

bar_lines_one : (resolution : ℕ) (first : Bool) (ss : List Stretch) (before : Option ScoreBar) (from : ℕ) (bars : List ScoreBar)
    (xs ys : List (List ℕ)) → 1 ≤ resolution
    → AreBarsOfStaff resolution first ss before from bars xs → AreBarsOfStaff resolution first ss before from bars ys → xs ≡ ys
bar_lines_one resolution first ss before from [] xs ys some h k = h ∙ sym k
bar_lines_one resolution first ss before from (bar ∷ bars) xs ys some (es, others, own, rest, is) (fs, others', own', rest', same) =
    let to = from + score_bar_parts resolution bar in
    let one = bar_elements_one resolution from to ss es fs some own own' in
    let two = bar_lines_one resolution first ss (Some bar) to bars others others' some rest rest' in
    is ∙ (λ i. lily_changes first before bar ++ staff_bar (has_flats bar.sf) (one i) ∷ two i) ∙ sym same

staff_one : (resolution : ℕ) (bars : List ScoreBar) (first : Bool) (spans : List Span) (xs ys : List (List ℕ)) → 1 ≤ resolution
    → AreStaffLines resolution bars first spans xs → AreStaffLines resolution bars first spans ys → xs ≡ ys
staff_one resolution bars first spans xs ys some (own, lines, is) (others, too, same) =
    let one = bar_lines_one resolution first (stretches resolution 0 (score_parts resolution bars) spans) None 0 bars own others some lines
    too in
    is ∙ ap (λ ls. codes "\\new Staff {" ∷ (ls ++ codes "}" ∷ [])) one ∙ sym same

pub pages_one : PagesAreOne
pages_one resolution bars voices events a b some (staves, each, is) (others, too, same) =
    let one = each_same (IsStaff resolution bars events) (range_with_len 1 voices) staves others
    (λ spine xs ys h k. staff_one resolution bars (spine == 1) (voice_spans spine events) xs ys some h k) each too in
    is ∙ ap (λ (xs : List (List (List ℕ))). lines_text (page_head ++ flat_map (λ x. x) xs ++ page_tail)) one ∙ sym same
