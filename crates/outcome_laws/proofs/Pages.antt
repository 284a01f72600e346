-- Events have a LilyPond text.
use Rattle.std.proofs.Common.{ℕ, ◌+◌, ◌-◌, ◌*◌, ◌==◌, ◌≤◌, Bool, List, [], ◌∷◌, refl, Option, Some, None, arith}
use Rattle.std.specs.List.{range_with_len}
use Rattle.derivation.specs.declared.score.ScoreBar.{ScoreBar}
use Rattle.durations.proofs.ValuesExist.{values_exist}
use Rattle.voice_events.specs.declared.event.KernEvent.{KernEvent}
use Rattle.lily_writer.specs.Elements.{Element}
use Rattle.lily_writer.specs.Pieces.{AreElements, Piece, Stretch, bar_pieces, stretches}
use Rattle.lily_writer.specs.Staves.{AreBarElements, AreBarsOfStaff, AreStaffLines, voice_spans}
use Rattle.lily_writer.specs.Text.{IsLilyText, IsStaff}
use Rattle.rhythm_base.specs.declared.span.Span.{Span}
use Rattle.rhythm_base.specs.Lists.{Each}
use Rattle.voice_events.specs.Parts.{score_bar_parts, score_parts}

-- where each has a partner, a list has partners
pub some_each : {X Y : Type 0} (Of : X → Y → Type 0) → ((x : X) → (y : Y) × Of x y) → (xs : List X) → (ys : List Y) × Each Of xs ys
some_each Of some [] = ([], refl)
some_each Of some (x ∷ xs) =
    let own = some x in
    let others = some_each Of some xs in
    (own.0 ∷ others.0, (own.1, others.1))

module _ (resolution : ℕ) (some : 1 ≤ resolution) where
  some_elements : (p : Piece) → (es : List Element) × AreElements resolution p es
  some_elements p = let values = values_exist (p.to - p.from) (64 * resolution) (omega (arith, some)) in (_, (values.0, values.1, refl))

  some_bar : (from to : ℕ) (ss : List Stretch) → (es : List Element) × AreBarElements resolution from to ss es
  some_bar from to ss = let own = some_each (AreElements resolution) some_elements (bar_pieces from to ss) in (_, (own.0, own.1, refl))

  some_bars : (first : Bool) (ss : List Stretch) (before : Option ScoreBar) (from : ℕ) (bars : List ScoreBar)
      → (lines : List (List ℕ)) × AreBarsOfStaff resolution first ss before from bars lines
  some_bars first ss before from [] = ([], refl)
  some_bars first ss before from (bar ∷ bars) =
      let own = some_bar from (from + score_bar_parts resolution bar) ss in
      let others = some_bars first ss (Some bar) (from + score_bar_parts resolution bar) bars in
      (_, (own.0, others.0, own.1, others.1, refl))

  some_staff : (bars : List ScoreBar) (first : Bool) (spans : List Span) → (lines : List (List ℕ)) × AreStaffLines resolution bars first spans lines
  some_staff bars first spans =
      let own = some_bars first (stretches resolution 0 (score_parts resolution bars) spans) None 0 bars in
      (_, (own.0, own.1, refl))

  pub some_page : (bars : List ScoreBar) (voices : ℕ) (events : List KernEvent) → (text : List ℕ) × IsLilyText resolution bars voices events text
  some_page bars voices events =
      let staves = some_each (IsStaff resolution bars events) (λ spine. some_staff bars (spine == 1) (voice_spans spine events)) (range_with_len 1 voices) in
      (_, (staves.0, staves.1, refl))
