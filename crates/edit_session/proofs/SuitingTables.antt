-- The tables of the reached cells suit the session.
use Rattle.std.proofs.Common.{◌≡◌, ℕ, ◌+◌, ◌*◌, ◌-◌, ◌≤◌, List, [], ◌∷◌, length, map, sym, ap, ◌∙◌, subst, arith}
use Rattle.std.specs.Prelude.{All, nat_lt}
use Rattle.std.proofs.lemmas.List.{length-map}
use Rattle.std.proofs.lemmas.List.Elements.{All-nil}
use Rattle.bar_pool.specs.Pool.{AreTablesOf, IsTableOf}
use Rattle.rhythm_base.specs.declared.limits.TheConstants.{MOST_CELLS, MOST_NOTES}
use Rattle.rhythm_base.specs.BarInput.{BarInput}
use Rattle.rhythm_base.specs.Grammar.{Grammar}
use Rattle.rhythm_base.specs.Lists.{Each}
use Rattle.rhythm_base.specs.Performance.{Performance}
use Rattle.edit_laws.specs.Reached.{AreReached, IsInputOf}
use Rattle.rhythm_base.specs.Voices.{HasStarts}
use Rattle.edit_laws.proofs.OneReached.{one_reached}
use Rattle.rhythm_base.proofs.OrderedLists.{all_cons}
use Rattle.edit_session.specs.declared.reached.CellPlace.{CellPlace}
use Rattle.edit_session.specs.Opening.{cells_of}
use Rattle.edit_session.specs.Prepared.{CellTable, IsCellTable, IsTableOfCell, Suits, cell_of, bar_table_of}
use Rattle.edit_session.specs.ReachedCells.{AreReachedInputs, place_pair}
use Rattle.edit_session.proofs.EachRuns.{Each-length, Each-through}
use Rattle.rhythm_base.proofs.ListParts.{filter_few}

abbrev IsOf : Grammar → Performance → ℕ × ℕ → BarInput → Type 0
IsOf g q c k = IsInputOf g q c.0 c.1 k

pub cells_units : (g : Grammar) (q : Performance) (cells : List (ℕ × ℕ)) (inputs : List BarInput) → Each (IsOf g q) cells inputs → All (λ k. k.resolution ≡ g.resolution) inputs
cells_units g q [] inputs h = subst (All (λ k. k.resolution ≡ g.resolution)) (sym h) (All-nil (λ k. k.resolution ≡ g.resolution))
cells_units g q (c ∷ cells) [] h = absurd h
cells_units g q (c ∷ cells) (k ∷ inputs) h =
    all_cons (λ k. k.resolution ≡ g.resolution) k inputs (ap (λ (l : BarInput). l.resolution) h.0.is) (cells_units g q cells inputs h.1)

pub inputs_count : (g : Grammar) (p q : Performance) (cells : List CellPlace) (inputs : List BarInput) → AreReachedInputs g p q cells inputs → length inputs ≡ length cells
inputs_count g p q cells inputs h = sym (Each-length (IsOf g q) (map place_pair cells) inputs h.each) ∙ length-map cells place_pair

pub tables_number : (cells : List CellPlace) (tables : List CellTable) → map cell_of tables ≡ map place_pair cells → length tables ≡ length cells
tables_number cells tables h = sym (length-map tables cell_of) ∙ ap length h ∙ length-map cells place_pair

-- the reached cells are as many as those of any list of them
pub reached_number : (g : Grammar) (p q : Performance) (cells : List CellPlace) (inputs : List BarInput) (others : List (ℕ × ℕ)) → AreReachedInputs g p q cells inputs
    → AreReached g p q others → length cells ≡ length others
reached_number g p q cells inputs others h k = sym (length-map cells place_pair) ∙ ap length (one_reached g p q (map place_pair cells) others h.are k)

of_cells : (g : Grammar) (q : Performance) (tables : List CellTable) → Each (λ c x. IsTableOfCell g q c.0 c.1 x) (map cell_of tables) (map bar_table_of tables) → All (IsCellTable g q) tables
of_cells g q [] h = All-nil (IsCellTable g q)
of_cells g q (x ∷ tables) h = all_cons (IsCellTable g q) x tables h.0 (of_cells g q tables h.1)

pub suits : (g : Grammar) (p q : Performance) (cells : List CellPlace) (inputs : List BarInput) (tables : List CellTable) (room lost voices count : ℕ) → AreReachedInputs g p q cells inputs
    → map cell_of tables ≡ map place_pair cells → AreTablesOf g inputs (map bar_table_of tables) → q.channels ≡ p.channels → HasStarts g q.bars → cells_of q ≤ MOST_CELLS → length q.notes ≤ MOST_NOTES
    → count ≡ length tables → voices ≡ length p.channels → lost ≡ length p.bars - length q.bars → count + voices * lost ≤ room
    → Suits g p (record { next = q; tables = tables; place = room })
suits g p q cells inputs tables room lost voices count h are of channels starts few_cells few_notes number many less memory = record {
  channels = channels;
  starts = starts;
  few_cells = few_cells;
  few_notes = few_notes;
  reached = subst (AreReached g p q) (sym are) h.are;
  tables = of_cells g q tables
      (subst (λ cs. Each (λ c x. IsTableOfCell g q c.0 c.1 x) cs (map bar_table_of tables)) (sym are)
      (Each-through (IsOf g q) (IsTableOf g) (λ c x. IsTableOfCell g q c.0 c.1 x) (λ c k x is made. record { is = made.is; of_input = subst (IsInputOf g q c.0 c.1) (sym made.of_input) is })
      (map place_pair cells) inputs (map bar_table_of tables) h.each of));
  place =
      let all : voices * lost ≡ length p.channels * (length p.bars - length q.bars) = (λ i. many i * less i) in
      omega (arith, filter_few (λ t. nat_lt t.bar (length p.bars)) tables, memory, number, all);
}
