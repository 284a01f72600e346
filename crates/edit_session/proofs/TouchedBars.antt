-- What an edit leaves: the bars that it does not touch.
use Rattle.std.proofs.Common.{◌≡◌, ◌⊎◌, ℕ, zero, suc, ◌+◌, ◌-◌, ◌<◌, ◌≤◌, ◌==◌, true, false, if◌then◌else◌, List, [], ◌∷◌, ◌++◌, Option, Some, None, length, get_or, take, refl, ap, inl, inr, arith}
use Rattle.std.proofs.lemmas.Bool.{cases_lt}
use Rattle.std.proofs.lemmas.Bool.Decides.{eqb_tells}
use Rattle.std.proofs.lemmas.List.{get_or-take, get_or_append_left, length-append, length-take}
use Rattle.rhythm_base.specs.declared.edit.Edit.{Edit}
use Rattle.rhythm_base.specs.declared.edit.Edit.TheVariants.{Add, Drop, Move, Barline, Pin, Unpin, AddBar, DropBar}
use Rattle.rhythm_base.specs.declared.note.Bar.{Bar}
use Rattle.rhythm_base.specs.Barlines.{barline, next_barline, nominal_of}
use Rattle.rhythm_base.specs.Lists.{last_of}
use Rattle.rhythm_base.specs.Performance.{Performance}
use Rattle.edit_laws.specs.Edits.{next_bar, performance_after, with_barline}
use Rattle.edit_laws.proofs.BarEdits.{length-with_barline}
use Rattle.edit_laws.proofs.EditedCounts.{one_bar}
use Rattle.edit_session.specs.Spans.{IsSameBar}
use Rattle.edit_session.specs.Touched.{LeavesBar}

-- ---- a barline is set

other_bar : (k tick j : ℕ) (bars : List Bar) (d : Bar) → (k ≡ j → ⊥) → get_or (with_barline k tick bars) j d ≡ get_or bars j d
other_bar k tick j [] d other = refl
other_bar zero tick zero (b ∷ bars) d other = absurd (other refl)
other_bar zero tick (suc j) (b ∷ bars) d other = refl
other_bar (suc k) tick zero (b ∷ bars) d other = refl
other_bar (suc k) tick (suc j) (b ∷ bars) d other = other_bar k tick j bars d (λ same. other (ap suc same))

-- the last barline is another one only where it is the one that is set
other_line : (k tick last later j : ℕ) (bars : List Bar) → (k ≡ j → ⊥) → ((k ≡ length bars → ⊥) → later ≡ last) → j ≤ length bars
    → barline (with_barline k tick bars) later j ≡ barline bars last j
other_line k tick last later j [] other stays le = stays (λ same. other (omega (arith, same, le)))
other_line zero tick last later zero (b ∷ bars) other stays le = absurd (other refl)
other_line zero tick last later (suc j) (b ∷ bars) other stays le = ap (λ n. barline bars n j) (stays (λ same. omega (arith, same)))
other_line (suc k) tick last later zero (b ∷ bars) other stays le = refl
other_line (suc k) tick last later (suc j) (b ∷ bars) other stays le =
    other_line k tick last later j bars (λ same. other (ap suc same)) (λ not_last. stays (λ same. not_last (omega (arith, same)))) (omega (arith, le))

last_kept : (k n tick last : ℕ) → (k ≡ n → ⊥) → (if k == n then tick else last) ≡ last
last_kept k n tick last other = at (eqb_tells k n)
  where
    at : (((k == n) ≡ true) × (k ≡ n)) ⊎ (((k == n) ≡ false) × (k ≡ n → ⊥)) → (if k == n then tick else last) ≡ last
    at (inl same) = absurd (other same.1)
    at (inr differ) = ap (λ b. if b then tick else last) differ.0

-- ---- a bar is added, or the last one dropped

line_before : (last later j : ℕ) (bars more : List Bar) → barline more later 0 ≡ last → j ≤ length bars → barline (bars ++ more) later j ≡ barline bars last j
line_before last later zero [] more is le = is
line_before last later (suc j) [] more is le = absurd (omega (arith, le))
line_before last later zero (b ∷ bars) more is le = refl
line_before last later (suc j) (b ∷ bars) more is le = line_before last later j bars more is (omega (arith, le))

last_added : (last division : ℕ) (o : Option Bar) → barline (next_bar last o) (last + nominal_of division o) 0 ≡ last
last_added last division None = omega arith
last_added last division (Some b) = refl

line_left : (n last j : ℕ) (bars : List Bar) → j ≤ n → barline (take n bars) (barline bars last n) j ≡ barline bars last j
line_left zero last zero bars le = refl
line_left zero last (suc j) bars le = absurd (omega (arith, le))
line_left (suc n) last j [] le = refl
line_left (suc n) last zero (b ∷ bars) le = refl
line_left (suc n) last (suc j) (b ∷ bars) le = line_left n last j bars (omega (arith, le))

-- ---- a bar that an edit leaves is as before

module _ (p : Performance) (bar : ℕ) where
  same_bars : bar < length p.bars → (q : Performance) → q.bars ≡ p.bars → q.last ≡ p.last → IsSameBar p q bar
  same_bars lt q bars last = record {
    there = lt;
    bar = λ d. ap (λ (l : List Bar). get_or l bar d) bars;
    end = λ i. barline (bars i) (last i) (bar + 1);
  }

  pub bars_after : (edit : Edit) → bar < length (performance_after p edit).bars → LeavesBar edit (length (performance_after p edit).bars) bar → IsSameBar p (performance_after p edit) bar
  bars_after (Add channel key onset end) lt leaves = same_bars lt (performance_after p (Add channel key onset end)) refl refl
  bars_after (Drop channel key onset) lt leaves = same_bars lt (performance_after p (Drop channel key onset)) refl refl
  bars_after (Move channel key onset to) lt leaves = same_bars lt (performance_after p (Move channel key onset to)) refl refl
  bars_after (Pin channel number shape) lt leaves = same_bars lt (performance_after p (Pin channel number shape)) refl refl
  bars_after (Unpin channel number) lt leaves = same_bars lt (performance_after p (Unpin channel number)) refl refl
  bars_after (Barline number tick) lt leaves =
      let few : bar < length p.bars = omega (arith, lt, length-with_barline number tick p.bars) in
      record {
        there = few;
        bar = λ d. other_bar number tick bar p.bars d leaves.0;
        end = other_line number tick p.last (performance_after p (Barline number tick)).last (bar + 1) p.bars leaves.1 (last_kept number (length p.bars) tick p.last) (omega (arith, few));
      }
  bars_after AddBar lt leaves =
      let more : List Bar = next_bar p.last (last_of p.bars) in
      let long = length-append p.bars more in
      let few : bar < length p.bars = elim (cases_lt bar (length p.bars)) [
        | inl within ↦ within
        | inr past ↦ absurd (leaves (omega (arith, lt, past, long, one_bar p.last (last_of p.bars))))
      ] in
      record {
        there = few;
        bar = λ d. get_or_append_left p.bars more d bar few;
        end = line_before p.last (next_barline p) (bar + 1) p.bars more (last_added p.last p.division (last_of p.bars)) (omega (arith, few));
      }
  bars_after DropBar lt leaves =
      let most : ℕ = length p.bars - 1 in
      let few : bar < most = omega (arith, lt, length-take most p.bars) in
      record {
        there = omega (arith, few);
        bar = λ d. get_or-take most p.bars bar d few;
        end = line_left most p.last (bar + 1) p.bars (omega (arith, few));
      }
