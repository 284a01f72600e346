-- The tables of a voice are exchanged one bar further.
use Rattle.std.proofs.Common.{◌≡◌, ℕ, suc, ◌+◌, ◌<◌, ◌≤◌, ◌⊎◌, List, [], ◌∷◌, ◌++◌, length, get_or, set, map, refl, sym, ap, ◌∙◌, subst, inl, inr, arith}
use Rattle.std.specs.Prelude.{Contains}
use Rattle.std.proofs.lemmas.Bool.{cases_lt}
use Rattle.std.proofs.lemmas.List.{get_or-set_other, get_or-set_same, get_or_append_left, get_or_push, length-append, length-set, map-append}
use Rattle.std.proofs.lemmas.List.Elements.{All-push}
use Rattle.rhythm_base.specs.BarTables.{BarTable}
use Rattle.rhythm_base.specs.Grammar.{Grammar}
use Rattle.rhythm_base.specs.Performance.{Performance}
use Rattle.edit_laws.specs.Reached.{IsReached}
use Rattle.rhythm_base.proofs.OrderedLists.{all_head, all_tail}
use Rattle.edit_session.specs.Exchange.{AreChangedUpTo, AreExchangedUpTo, Change, IsCellBefore, IsChange}
use Rattle.edit_session.specs.Prepared.{CellTable, IsCellTable, IsTableOfCell, cell_of}
use Rattle.edit_session.specs.ReachedCells.{AreCellsWhere}
use Rattle.edit_session.proofs.CellHeads.{first_cell, rest_cells}
use Rattle.edit_session.proofs.CellPlaces.{IsEarlierCell, cells_append, cells_same, lower_bar, lower_voice, one_cell}
use Rattle.edit_session.proofs.CellTables.{reached_back, reached_forth, unreached_serves}

at_cell : (g : Grammar) (p : Performance) (channel n : ℕ) (t : CellTable) → cell_of t ≡ (channel, n) → IsCellTable g p t → IsTableOfCell g p channel n t.table
at_cell g p channel n t e h = subst (λ (c : ℕ × ℕ). IsTableOfCell g p c.0 c.1 t.table) e h

not_before_itself : (channel n : ℕ) → IsCellBefore channel n channel n → ⊥
not_before_itself channel n (inl lt) = omega (arith, lt)
not_before_itself channel n (inr here) = let lt = here.1 in omega (arith, lt)

before_more : (channel n c i : ℕ) → IsCellBefore channel n c i → IsCellBefore channel (n + 1) c i
before_more channel n c i (inl lt) = inl lt
before_more channel n c i (inr here) = let lt = here.1 in inr (here.0, omega (arith, lt))

before_or_here : (channel n c i : ℕ) → IsCellBefore channel (n + 1) c i → IsCellBefore channel n c i ⊎ ((c ≡ channel) × (i ≡ n))
before_or_here channel n c i (inl lt) = inl (inl lt)
before_or_here channel n c i (inr here) = elim (cases_lt i n) [
  | inl lt ↦ inl (inr (here.0, lt))
  | inr le ↦ let lt = here.1 in inr (here.0, omega (arith, le, lt))
]

module _ (x : Change) (is : IsChange x) (channel : ℕ) (voice : Contains x.before.channels channel) where
  abbrev Coming : ℕ → ℕ → ℕ → Type 0
  Coming n c i = IsReached x.grammar x.before x.after c i × (IsCellBefore channel n c i → ⊥)

  abbrev Gone : ℕ → ℕ → ℕ → Type 0
  Gone n c i = IsReached x.grammar x.after x.before c i × IsCellBefore channel n c i

  -- ---- cells

  coming_rest : (n : ℕ) (rest : List (ℕ × ℕ)) → AreCellsWhere (λ c i. Coming n c i × ((c ≡ channel) × (i ≡ n) → ⊥)) rest → AreCellsWhere (Coming (n + 1)) rest
  coming_rest n rest h =
      cells_same (λ c i. Coming n c i × ((c ≡ channel) × (i ≡ n) → ⊥)) (Coming (n + 1)) rest
      (λ c i. (
        λ u. (u.0.0, λ before. elim (before_or_here channel n c i before) [ inl b ↦ u.0.1 b | inr same ↦ u.1 same ]),
        λ u. ((u.0, λ before. u.1 (before_more channel n c i before)), λ same. u.1 (let at = same.1 in inr (same.0, omega (arith, at)))),
      )) h

  coming_same : (n : ℕ) (cells : List (ℕ × ℕ)) → (Coming n channel n → ⊥) → AreCellsWhere (Coming n) cells → AreCellsWhere (Coming (n + 1)) cells
  coming_same n cells not h =
      cells_same (Coming n) (Coming (n + 1)) cells
      (λ c i. (
        λ u. (
          u.0,
          λ before. elim (before_or_here channel n c i before) [
            | inl b ↦ u.1 b
            | inr same ↦ not (subst (λ d. Coming n d n) same.0 (subst (λ j. Coming n c j) same.1 u))
          ],
        ),
        λ u. (u.0, λ before. u.1 (before_more channel n c i before)),
      )) h

  gone_more : (n : ℕ) (cells : List (ℕ × ℕ)) → IsReached x.grammar x.after x.before channel n → AreCellsWhere (Gone n) cells → AreCellsWhere (Gone (n + 1)) (cells ++ (channel, n) ∷ [])
  gone_more n cells reached h =
      cells_same (λ c i. Gone n c i ⊎ ((c ≡ channel) × (i ≡ n))) (Gone (n + 1)) (cells ++ (channel, n) ∷ []) (λ c i. (there c i, back c i))
      (cells_append (Gone n) (λ c i. (c ≡ channel) × (i ≡ n)) cells ((channel, n) ∷ []) h (one_cell channel n) earlier)
    where
      there : (c i : ℕ) → Gone n c i ⊎ ((c ≡ channel) × (i ≡ n)) → Gone (n + 1) c i
      there c i (inl u) = (u.0, before_more channel n c i u.1)
      there c i (inr same) = (
        subst (λ d. IsReached x.grammar x.after x.before d i) (sym same.0) (subst (λ j. IsReached x.grammar x.after x.before channel j) (sym same.1) reached),
        let at = same.1 in inr (same.0, omega (arith, at)),
      )

      back : (c i : ℕ) → Gone (n + 1) c i → Gone n c i ⊎ ((c ≡ channel) × (i ≡ n))
      back c i u = elim (before_or_here channel n c i u.1) [ inl b ↦ inl (u.0, b) | inr same ↦ inr same ]

      earlier : (c i d j : ℕ) → Gone n c i → (d ≡ channel) × (j ≡ n) → IsEarlierCell (c, i) (d, j)
      earlier c i d j u same = elim u.1 [
        | inl lt ↦ let at = same.0 in lower_voice c i d j (omega (arith, lt, at))
        | inr here ↦ let lt = here.1 in let at = same.1 in lower_bar c i d j (here.0 ∙ sym same.0) (omega (arith, lt, at))
      ]

  gone_same : (n : ℕ) (cells : List (ℕ × ℕ)) → (IsReached x.grammar x.after x.before channel n → ⊥) → AreCellsWhere (Gone n) cells → AreCellsWhere (Gone (n + 1)) cells
  gone_same n cells not h =
      cells_same (Gone n) (Gone (n + 1)) cells
      (λ c i. (
        λ u. (u.0, before_more channel n c i u.1),
        λ u. (
          u.0,
          elim (before_or_here channel n c i u.1) [
            | inl b ↦ b
            | inr same ↦ absurd (not (subst (λ d. IsReached x.grammar x.after x.before d n) same.0 (subst (λ j. IsReached x.grammar x.after x.before c j) same.1 u.0)))
          ],
        ),
      )) h

  -- ---- the table of the next cell comes in

  came : (n : ℕ) (t : CellTable) (rest : List CellTable) → cell_of t ≡ (channel, n) → AreCellsWhere (Coming n) (map cell_of (t ∷ rest)) → AreCellsWhere (Coming (n + 1)) (map cell_of rest)
  came n t rest e h = coming_rest n (map cell_of rest) (rest_cells (Coming n) channel n (map cell_of rest) (subst (λ c. AreCellsWhere (Coming n) (c ∷ map cell_of rest)) e h))

  reached_here : (n : ℕ) (t : CellTable) (rest : List CellTable) → cell_of t ≡ (channel, n) → AreCellsWhere (Coming n) (map cell_of (t ∷ rest)) → IsReached x.grammar x.before x.after channel n
  reached_here n t rest e h = ((h.exactly channel n).0 (0, omega arith, e)).0

  pub swapped : (n : ℕ) (t u : CellTable) (rest gone : List CellTable) (tables : List BarTable) (d : BarTable) → n < length tables → cell_of t ≡ (channel, n)
      → u ≡ record { channel = t.channel; bar = t.bar; table = get_or tables n d }
      → AreChangedUpTo x channel n tables → AreExchangedUpTo x channel n (t ∷ rest) gone
      → AreChangedUpTo x channel (n + 1) (set tables n t.table) × AreExchangedUpTo x channel (n + 1) rest (gone ++ u ∷ [])
  swapped n t u rest gone tables d lt e made h k = (
    record {
      long = omega (arith, length-set tables n t.table, h.long, lt);
      changed = λ i b low. elim (cases_lt i n) [
        | inl less ↦ subst (IsTableOfCell x.grammar x.after channel i) (sym (get_or-set_other tables n i t.table b (λ same. omega (arith, less, same)))) (h.changed i b less)
        | inr le ↦
            let here : i ≡ n = omega (arith, low, le) in
            subst (λ j. IsTableOfCell x.grammar x.after channel j (get_or (set tables n t.table) j b)) (sym here)
            (subst (IsTableOfCell x.grammar x.after channel n) (sym (get_or-set_same tables n t.table b lt)) now)
      ];
      kept = λ i b le within. subst (IsTableOfCell x.grammar x.before channel i) (sym (get_or-set_other tables n i t.table b (λ same. omega (arith, le, same)))) (h.kept i b (omega (arith, le)) within);
    },
    record {
      cells_coming = came n t rest e k.cells_coming;
      tables_coming = all_tail (IsCellTable x.grammar x.after) t rest k.tables_coming;
      cells_gone =
          let cell : cell_of u ≡ (channel, n) = ap cell_of made ∙ e in
          subst (AreCellsWhere (Gone (n + 1))) (sym (map-append cell_of gone (u ∷ []) ∙ ap (λ c. map cell_of gone ++ c ∷ []) cell))
          (gone_more n (map cell_of gone) (reached_back x is channel voice n before (reached_here n t rest e k.cells_coming)) k.cells_gone);
      tables_gone = All-push (IsCellTable x.grammar x.before) gone u k.tables_gone
          (subst (IsCellTable x.grammar x.before) (sym made)
          (subst (λ (c : ℕ × ℕ). IsTableOfCell x.grammar x.before c.0 c.1 (get_or tables n d)) (sym e) (h.kept n d (omega arith) before)));
    },
  )
    where
      before : n < length x.before.bars
      before = omega (arith, lt, h.long)

      now : IsTableOfCell x.grammar x.after channel n t.table
      now = at_cell x.grammar x.after channel n t e (all_head (IsCellTable x.grammar x.after) t rest k.tables_coming)

  pub pushed : (n : ℕ) (t : CellTable) (rest gone : List CellTable) (tables : List BarTable) → length tables ≤ n → cell_of t ≡ (channel, n)
      → AreChangedUpTo x channel n tables → AreExchangedUpTo x channel n (t ∷ rest) gone
      → AreChangedUpTo x channel (n + 1) (tables ++ t.table ∷ []) × AreExchangedUpTo x channel (n + 1) rest gone
  pushed n t rest gone tables le e h k = (
    record {
      long = omega (arith, length-append tables (t.table ∷ []), h.long, le);
      changed = λ i b low. elim (cases_lt i n) [
        | inl less ↦ subst (IsTableOfCell x.grammar x.after channel i) (sym (get_or_append_left tables (t.table ∷ []) b i (omega (arith, less, h.long)))) (h.changed i b less)
        | inr more ↦
            let here : i ≡ n = omega (arith, low, more) in
            subst (λ j. IsTableOfCell x.grammar x.after channel j (get_or (tables ++ t.table ∷ []) j b)) (sym here)
            (subst (IsTableOfCell x.grammar x.after channel n) (sym (get_or_push tables t.table b n (omega (arith, h.long, le)))) now)
      ];
      kept = λ i b more within. absurd (omega (arith, more, within, h.long, le));
    },
    record {
      cells_coming = came n t rest e k.cells_coming;
      tables_coming = all_tail (IsCellTable x.grammar x.after) t rest k.tables_coming;
      cells_gone = gone_same n (map cell_of gone) (λ reached. let within = reached.1 in omega (arith, within, h.long, le)) k.cells_gone;
      tables_gone = k.tables_gone;
    },
  )
    where
      now : IsTableOfCell x.grammar x.after channel n t.table
      now = at_cell x.grammar x.after channel n t e (all_head (IsCellTable x.grammar x.after) t rest k.tables_coming)

  -- ---- the next cell keeps its table

  not_coming : (n : ℕ) (coming : List CellTable) → ((t : CellTable) (rest : List CellTable) → coming ≡ t ∷ rest → cell_of t ≡ (channel, n) → ⊥) → AreCellsWhere (Coming n) (map cell_of coming)
      → IsReached x.grammar x.before x.after channel n → ⊥
  not_coming n coming other h reached = at coming other (first_cell (Coming n) channel n (map cell_of coming) h (reached, not_before_itself channel n) (λ c i u. u.1))
    where
      at : (coming : List CellTable) → ((t : CellTable) (rest : List CellTable) → coming ≡ t ∷ rest → cell_of t ≡ (channel, n) → ⊥)
          → (rest : List (ℕ × ℕ)) × (map cell_of coming ≡ (channel, n) ∷ rest) → ⊥
      at [] other found = let none : length (map cell_of []) ≡ suc (length found.0) = ap length found.1 in omega (arith, none)
      at (t ∷ rest) other found = other t rest refl (ap (λ (cs : List (ℕ × ℕ)). get_or cs 0 (channel, n)) found.1)

  pub stayed : (n : ℕ) (coming gone : List CellTable) (tables : List BarTable) → n < length x.after.bars
      → ((t : CellTable) (rest : List CellTable) → coming ≡ t ∷ rest → cell_of t ≡ (channel, n) → ⊥)
      → AreChangedUpTo x channel n tables → AreExchangedUpTo x channel n coming gone
      → AreChangedUpTo x channel (n + 1) tables × AreExchangedUpTo x channel (n + 1) coming gone
  stayed n coming gone tables lt other h k = (
    record {
      long = omega (arith, h.long, before);
      changed = λ i b low. elim (cases_lt i n) [
        | inl less ↦ h.changed i b less
        | inr le ↦
            let here : i ≡ n = omega (arith, low, le) in
            subst (λ j. IsTableOfCell x.grammar x.after channel j (get_or tables j b)) (sym here)
            (unreached_serves x is channel voice n (get_or tables n b) lt unreached (h.kept n b (omega arith) before))
      ];
      kept = λ i b le within. h.kept i b (omega (arith, le)) within;
    },
    record {
      cells_coming = coming_same n (map cell_of coming) (λ u. unreached u.0) k.cells_coming;
      tables_coming = k.tables_coming;
      cells_gone = gone_same n (map cell_of gone) (λ reached. unreached (reached_forth x is channel voice n lt reached)) k.cells_gone;
      tables_gone = k.tables_gone;
    },
  )
    where
      unreached : IsReached x.grammar x.before x.after channel n → ⊥
      unreached = not_coming n coming other k.cells_coming

      before : n < length x.before.bars
      before = elim (cases_lt n (length x.before.bars)) [
        | inl low ↦ low
        | inr le ↦ absurd (unreached (subst (λ cs. Contains cs channel) (sym is.channels) voice, lt, inl le))
      ]
