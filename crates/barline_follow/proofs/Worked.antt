-- Barlines, scripts and offers of eight quarters at 475 ticks each, where the file's quarters have 480; and the cells that lines reach.
use Rattle.std.specs.Prelude.{◌≡◌, ℕ, List, [], ◌∷◌, All}
use Rattle.std.proofs.Common.{refl, sym, subst, arith, inl, inr}
use Rattle.rhythm_base.specs.declared.edit.Edit.TheVariants.{AddBar, Barline, DropBar}
use Rattle.rhythm_base.specs.declared.edit_fault.EditFault.TheVariants.{NoBar}
use Rattle.rhythm_base.specs.declared.note.Bar.{Bar}
use Rattle.rhythm_base.specs.Grammar.{Grammar}
use Rattle.rhythm_base.specs.Performance.{Performance}
use Rattle.rhythm_base.specs.Voices.{HasDerivation}
use Rattle.rhythm_base.proofs.FirstLists.{contains_split}
use Rattle.edit_laws.specs.Reached.{AreReached, IsReached}
use Rattle.barline_follow.specs.Bars.{barlines_of, with_barlines}
use Rattle.barline_follow.specs.Builds.{AreReachedInTurn}
use Rattle.barline_follow.specs.Script.{script}
use Rattle.barline_follow.proofs.FewReached.{added_last}
use Rattle.barline_follow.proofs.ReachedInTurn.{reached_append, reached_last, reached_once, refused_alone, would_reach, would_reach_none}

abbrev bar : ℕ → Bar
bar start = record { start = start; num = 4; den = 4 }

abbrev performed : List Bar → ℕ → Performance
performed bars last = record {
  division = 480;
  tempos = [];
  key_marks = [];
  bars = bars;
  last = last;
  channels = 0 ∷ [];
  notes = [];
  pins = [];
}

abbrev two_bars : Performance
two_bars = performed (bar 0 ∷ bar 1920 ∷ []) 3840

abbrev four_bars : Performance
four_bars = performed (bar 0 ∷ bar 1920 ∷ bar 3840 ∷ bar 5760 ∷ []) 7680

barlines : barlines_of two_bars ≡ 0 ∷ 1920 ∷ 3840 ∷ []
barlines = refl

moved : with_barlines two_bars (0 ∷ 1900 ∷ 3800 ∷ []) ≡ performed (bar 0 ∷ bar 1900 ∷ []) 3800
moved = refl

faster : script two_bars (0 ∷ 1900 ∷ 3800 ∷ []) ≡ Barline 1 1900 ∷ Barline 2 3800 ∷ []
faster = refl

unchanged : script two_bars (0 ∷ 1920 ∷ 3840 ∷ []) ≡ []
unchanged = refl

a_bar_fewer : script four_bars (0 ∷ 2000 ∷ 4000 ∷ 6000 ∷ [])
    ≡ Barline 4 7920 ∷ Barline 3 6000 ∷ Barline 2 4000 ∷ Barline 1 2000 ∷ DropBar ∷ []
a_bar_fewer = refl

-- ---- lines in turn

abbrev three_bars : Performance
three_bars = performed (bar 0 ∷ bar 1920 ∷ bar 3840 ∷ []) 5760

-- a bar that is added is reached
the_new_bar : (g : Grammar) → AreReached g two_bars three_bars ((0, 2) ∷ [])
the_new_bar g = record {
  in_order = λ i j d lt within. absurd (omega (arith, lt, within));
  exactly = λ channel bar. (
    λ c. elim (contains_split (channel, bar) (0, 2) [] c) [
      | inl same ↦
          subst (λ (x : ℕ × ℕ). IsReached g two_bars three_bars x.0 x.1) same
          ((0, omega arith, refl), omega arith, inl (omega arith))
      | inr rest ↦ absurd (omega (arith, rest.1))
    ],
    λ reached. elim (contains_split channel 0 [] reached.0) [
      | inl same ↦
          let last : bar ≡ 2 = added_last g two_bars channel bar reached in
          (0, omega arith, λ i. (same i, sym last i))
      | inr rest ↦ absurd (omega (arith, rest.1))
    ],
  );
}

-- the line after it is refused, and the one after that is not tried
up_to_a_refusal : (g : Grammar) → All (HasDerivation g three_bars) (0 ∷ []) → AreReachedInTurn g two_bars (AddBar ∷ Barline 0 5 ∷ AddBar ∷ []) 1
up_to_a_refusal g derivations =
    let first = reached_once g two_bars AddBar three_bars ((0, 2) ∷ []) (tt, refl, derivations)
    (would_reach g two_bars AddBar three_bars ((0, 2) ∷ []) refl (the_new_bar g)) in
    let second = reached_last g three_bars (Barline 0 5) (AddBar ∷ []) []
    (inl ((omega arith, omega arith), would_reach_none g three_bars (Barline 0 5) (NoBar 0) refl))
    (refused_alone g three_bars (Barline 0 5) (NoBar 0) refl) in
    reached_append g two_bars three_bars (AddBar ∷ []) (Barline 0 5 ∷ AddBar ∷ []) 1 0 (three_bars, (tt, refl, derivations), refl) first second
