-- A session can be opened on a performance, or there is a fault that is no want of memory.
use Rattle.rhythm_base.specs.declared.limits.TheConstants.{MOST_CELLS}
use Rattle.std.proofs.Common.{◌≡◌, ◌≢◌, ℕ, zero, suc, ◌≤◌, ◌<◌, ◌⊎◌, inl, inr, List, [], ◌∷◌, take, refl, Option, Some, None}
use Rattle.std.specs.Prelude.{All}
use Rattle.std.proofs.lemmas.Bool.{cases_lt}
use Rattle.std.proofs.lemmas.List.Elements.{All-nil}
use Rattle.bar_cut.specs.Cuts.{IsFirstWithoutStart}
use Rattle.edit_session.specs.Opening.{CanOpen, IsOpenFault, cells_of}
use Rattle.edit_session.specs.declared.open_fault.OpenFault.{OpenFault}
use Rattle.edit_session.specs.declared.open_fault.OpenFault.TheVariants.{Cells, NoStart, NoDerivation, Memory}
use Rattle.rhythm_base.specs.declared.note.Bar.{Bar}
use Rattle.rhythm_base.specs.Grammar.{Grammar, root_of}
use Rattle.rhythm_base.specs.Performance.{IsWellFormed, Performance}
use Rattle.rhythm_base.specs.Readable.{IsReadable}
use Rattle.rhythm_base.specs.Voices.{HasDerivation, HasStarts, IsDeadVoice}
use Rattle.rhythm_base.proofs.OrderedLists.{all_cons}
use Rattle.table_laws.proofs.Performances.{all_or_dead}

-- ---- root symbols

module _ (g : Grammar) where
  abbrev HasRoot : Bar → Type 0
  HasRoot b = root_of g.starts b.num b.den ≢ None

  abbrev LacksStart : List Bar → Type 0
  LacksStart bars = (bar : ℕ) × (num : ℕ) × (den : ℕ) × IsFirstWithoutStart g bars bar num den

  -- each bar has a root symbol, or one is the first that has none
  starts_or_first : (bars : List Bar) → HasStarts g bars ⊎ LacksStart bars
  starts_or_first [] = inl (All-nil HasRoot)
  starts_or_first (b ∷ bars) = go (root_of g.starts b.num b.den) refl (starts_or_first bars)
    where
      go : (o : Option ℕ) → root_of g.starts b.num b.den ≡ o → HasStarts g bars ⊎ LacksStart bars → HasStarts g (b ∷ bars) ⊎ LacksStart (b ∷ bars)
      go None none rest =
          inr (zero, b.num, b.den, record { it = b; there = refl; signature = (refl, refl); none = none; first = All-nil HasRoot })
      go (Some symbol) root (inl all) = inl (all_cons HasRoot b bars (λ none. cc) all)
      go (Some symbol) root (inr (bar, num, den, first)) =
          inr (
            suc bar,
            num,
            den,
            record {
              it = first.it;
              there = first.there;
              signature = first.signature;
              none = first.none;
              first = all_cons HasRoot b (take bar bars) (λ none. cc) first.first;
            },
          )

-- ---- openings

module _ (g : Grammar) (p : Performance) (readable : IsReadable g) (formed : IsWellFormed p) where
  abbrev HasOpening : Type 0
  HasOpening = CanOpen g p ⊎ ((fault : OpenFault) × (fault ≢ Memory) × IsOpenFault g p fault)

  by_voices : cells_of p ≤ MOST_CELLS → HasStarts g p.bars → All (HasDerivation g p) p.channels ⊎ ((channel : ℕ) × (bar : ℕ) × IsDeadVoice g p channel bar)
      → HasOpening
  by_voices few starts (inl all) = inl record { cells = few; starts = starts; derivations = all }
  by_voices few starts (inr (channel, bar, dead)) = inr (NoDerivation channel bar, (λ e. cc), (few, dead))

  pub opening_or_fault : HasOpening
  opening_or_fault = go (cases_lt MOST_CELLS (cells_of p)) (starts_or_first g p.bars)
    where
      go : (MOST_CELLS < cells_of p) ⊎ (cells_of p ≤ MOST_CELLS) → HasStarts g p.bars ⊎ LacksStart g p.bars → HasOpening
      go (inl many) starts = inr (Cells (cells_of p), (λ e. cc), (refl, many))
      go (inr few) (inr (bar, num, den, first)) = inr (NoStart bar num den, (λ e. cc), (few, first))
      go (inr few) (inl starts) = by_voices few starts (all_or_dead g p readable formed starts)
