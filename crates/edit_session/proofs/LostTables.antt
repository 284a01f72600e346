-- The tables of the bars that are no more go out, and so all tables of a voice are exchanged.
use Rattle.std.proofs.Common.{◌≡◌, ℕ, suc, ◌+◌, ◌-◌, ◌<◌, ◌≤◌, ◌↔◌, ◌⊎◌, List, [], ◌∷◌, ◌++◌, length, get_or, take, drop, map, max, append_assoc, refl, sym, ap, ◌∙◌, subst, inl, inr, arith}
use Rattle.std.specs.Prelude.{All, Contains, reverse}
use Rattle.std.proofs.lemmas.Bool.{cases_lt}
use Rattle.std.proofs.lemmas.List.{drop_all, drop_at, drop_more, get_or-drop, get_or-take, get_or_push, length-append, length-drop, length-reverse, length-take-le, map-append, reverse-append, reverse-reverse, take-take, take_all, take_at}
use Rattle.std.proofs.lemmas.List.Elements.{All-append, All-nil}
use Rattle.rhythm_base.specs.BarTables.{BarTable}
use Rattle.rhythm_base.specs.Grammar.{Grammar}
use Rattle.rhythm_base.specs.Performance.{Performance}
use Rattle.edit_laws.specs.Reached.{IsReached}
use Rattle.rhythm_base.proofs.OrderedLists.{all_cons}
use Rattle.edit_session.specs.Exchange.{AreChangedUpTo, AreExchangedUpTo, Change, IsCellBefore, IsChange, IsVoiceAfter, IsVoiceUpTo, tables_of_bars, tables_below}
use Rattle.edit_session.specs.Kept.{AreTablesOfVoice}
use Rattle.edit_session.specs.Prepared.{CellTable, IsCellTable, IsTableOfCell, cell_of}
use Rattle.edit_session.specs.ReachedCells.{AreCellsWhere}
use Rattle.edit_session.proofs.CellPlaces.{IsEarlierCell, cells_append, cells_same, lower_bar, lower_voice, no_cells, one_cell}
use Rattle.edit_session.proofs.CellTables.{cell_of_voice, voice_of_cells}
use Rattle.edit_session.proofs.Tables.{voice_long}
use Rattle.edit_session.proofs.TablesBelow.{below_append, numbered_not_below}

-- ---- numbered tables

pub numbered_length : (channel n : ℕ) (tables : List BarTable) → length (tables_of_bars channel n tables) ≡ length tables
numbered_length channel n [] = refl
numbered_length channel n (table ∷ tables) = ap suc (numbered_length channel (n + 1) tables)

pub numbered_more : (channel n : ℕ) (tables : List BarTable) (d : BarTable) → n < length tables
    → tables_of_bars channel n (drop n tables) ≡ record { channel = channel; bar = n; table = get_or tables n d } ∷ tables_of_bars channel (n + 1) (drop (n + 1) tables)
numbered_more channel n tables d lt = ap (tables_of_bars channel n) (drop_more tables n d lt)

abbrev IsAmong : ℕ → ℕ → ℕ → ℕ → ℕ → Type 0
IsAmong channel n count c i = (c ≡ channel) × (n ≤ i) × (i < n + count)

numbered_cells : (channel n : ℕ) (tables : List BarTable) → AreCellsWhere (IsAmong channel n (length tables)) (map cell_of (tables_of_bars channel n tables))
numbered_cells channel n [] = no_cells (IsAmong channel n 0) (λ c i u. let le = u.1 in let lt = u.2 in omega (arith, le, lt))
numbered_cells channel n (table ∷ tables) =
    cells_same (λ c i. ((c ≡ channel) × (i ≡ n)) ⊎ IsAmong channel (n + 1) (length tables) c i) (IsAmong channel n (suc (length tables))) ((channel, n) ∷ map cell_of (tables_of_bars channel (n + 1) tables))
    (λ c i. (there c i, back c i))
    (cells_append (λ c i. (c ≡ channel) × (i ≡ n)) (IsAmong channel (n + 1) (length tables)) ((channel, n) ∷ []) (map cell_of (tables_of_bars channel (n + 1) tables)) (one_cell channel n)
    (numbered_cells channel (n + 1) tables)
    (λ c i d j p q. let at = p.1 in let le = q.1 in lower_bar c i d j (p.0 ∙ sym q.0) (omega (arith, at, le))))
  where
    there : (c i : ℕ) → ((c ≡ channel) × (i ≡ n)) ⊎ IsAmong channel (n + 1) (length tables) c i → IsAmong channel n (suc (length tables)) c i
    there c i (inl p) = let at = p.1 in (p.0, omega (arith, at), omega (arith, at))
    there c i (inr q) = let le = q.1 in let lt = q.2 in (q.0, omega (arith, le), omega (arith, lt))

    back : (c i : ℕ) → IsAmong channel n (suc (length tables)) c i → ((c ≡ channel) × (i ≡ n)) ⊎ IsAmong channel (n + 1) (length tables) c i
    back c i u = elim (cases_lt n i) [
      | inl lt ↦ let low = u.2 in inr (u.0, omega (arith, lt), omega (arith, low))
      | inr le ↦ let most = u.1 in inl (u.0, omega (arith, le, most))
    ]

numbered_tables : (g : Grammar) (p : Performance) (channel n : ℕ) (tables : List BarTable) → ((i : ℕ) (d : BarTable) → i < length tables → IsTableOfCell g p channel (n + i) (get_or tables i d))
    → All (IsCellTable g p) (tables_of_bars channel n tables)
numbered_tables g p channel n [] h = All-nil (IsCellTable g p)
numbered_tables g p channel n (table ∷ tables) h =
    all_cons (IsCellTable g p) (record { channel = channel; bar = n; table = table }) (tables_of_bars channel (n + 1) tables)
    (subst (λ k. IsTableOfCell g p channel k table) (omega arith) (h 0 table (omega arith)))
    (numbered_tables g p channel (n + 1) tables (λ i d lt. subst (λ k. IsTableOfCell g p channel k (get_or tables i d)) (omega arith) (h (suc i) d (omega (arith, lt)))))

-- the last table of a voice is taken off
pub lost_one : (channel : ℕ) (all before after : List BarTable) (t : BarTable) (begin gone more : List CellTable) → length before ≤ length all → before ≡ take (length before) all → before ≡ after ++ t ∷ []
    → gone ≡ begin ++ reverse (tables_of_bars channel (length before) (drop (length before) all)) → more ≡ gone ++ record { channel = channel; bar = length after; table = t } ∷ []
    → (after ≡ take (length after) all) × (more ≡ begin ++ reverse (tables_of_bars channel (length after) (drop (length after) all)))
lost_one channel all before after t begin gone more few is split h pushed = (
  sym (take_at after (t ∷ []) m refl) ∙ ap (λ l. take m l) (sym split ∙ is) ∙ take-take m (length before) all (omega (arith, long)),
  pushed ∙ ap (λ l. l ++ last ∷ []) (h ∙ ap (λ n. begin ++ reverse (tables_of_bars channel n (drop n all))) long)
      ∙ append_assoc begin (reverse (tables_of_bars channel (m + 1) (drop (m + 1) all))) (last ∷ [])
      ∙ ap (λ l. begin ++ l) (sym (reverse-append (last ∷ []) (tables_of_bars channel (m + 1) (drop (m + 1) all))) ∙ ap reverse (sym turned)),
)
  where
    m : ℕ
    m = length after

    last : CellTable
    last = record { channel = channel; bar = m; table = t }

    long : length before ≡ m + 1
    long = ap length split ∙ length-append after (t ∷ [])

    at : get_or all m t ≡ t
    at = sym (get_or-take (length before) all m t (omega (arith, long))) ∙ ap (λ l. get_or l m t) (sym is ∙ split) ∙ get_or_push after t t m refl

    turned : tables_of_bars channel m (drop m all) ≡ last ∷ tables_of_bars channel (m + 1) (drop (m + 1) all)
    turned = numbered_more channel m all t (omega (arith, few, long)) ∙ ap (λ (x : BarTable). record { channel = channel; bar = m; table = x } ∷ tables_of_bars channel (m + 1) (drop (m + 1) all)) at

-- the end of a list is turned back
pub turned_end : (start : ℕ) (begin end all written : List CellTable) → start ≡ length begin → all ≡ begin ++ reverse end → written ≡ take start all ++ reverse (drop start all)
    → (written ≡ begin ++ end) × (length written ≡ length all)
turned_end start begin end all written at e h =
    let is : written ≡ begin ++ end =
    h ∙ ap (λ l. take start l ++ reverse (drop start l)) e
    ∙ (λ i. take_at begin (reverse end) start (sym at) i ++ reverse (drop_at begin (reverse end) start (sym at) i))
    ∙ ap (λ l. begin ++ l) (reverse-reverse end) in
    (is, ap length is ∙ length-append begin end ∙ ap (λ n. length begin + n) (sym (length-reverse end)) ∙ sym (ap length e ∙ length-append begin (reverse end)))

-- where so many are left
pub lost_all : (channel bars m : ℕ) (all : List BarTable) → m ≤ bars → (bars ≤ m) ⊎ (m ≡ length all) → (take m all ≡ take bars all) × (tables_of_bars channel m (drop m all) ≡ tables_of_bars channel bars (drop bars all))
lost_all channel bars m all le (inl more) = let same : m ≡ bars = omega (arith, le, more) in (ap (λ n. take n all) same, ap (λ n. tables_of_bars channel n (drop n all)) same)
lost_all channel bars m all le (inr whole) = (
  take_all m all (omega (arith, whole)) ∙ sym (take_all bars all (omega (arith, whole, le))),
  ap (tables_of_bars channel m) (drop_all m all (omega (arith, whole))) ∙ sym (ap (tables_of_bars channel bars) (drop_all bars all (omega (arith, whole, le)))),
)

-- ---- a voice

module _ (x : Change) where
  -- a cell is before the one exactly where it is before the other, if it is of one of the two performances
  same_up_to : (c i d j : ℕ) (coming gone : List CellTable)
      → ((a b : ℕ) → IsReached x.grammar x.before x.after a b → IsCellBefore c i a b ↔ IsCellBefore d j a b)
      → ((a b : ℕ) → IsReached x.grammar x.after x.before a b → IsCellBefore c i a b ↔ IsCellBefore d j a b)
      → AreExchangedUpTo x c i coming gone → AreExchangedUpTo x d j coming gone
  same_up_to c i d j coming gone forth back h = record {
    cells_coming =
        cells_same (λ a b. IsReached x.grammar x.before x.after a b × (IsCellBefore c i a b → ⊥)) (λ a b. IsReached x.grammar x.before x.after a b × (IsCellBefore d j a b → ⊥)) (map cell_of coming)
        (λ a b. (λ u. (u.0, λ before. u.1 ((forth a b u.0).1 before)), λ u. (u.0, λ before. u.1 ((forth a b u.0).0 before)))) h.cells_coming;
    tables_coming = h.tables_coming;
    cells_gone =
        cells_same (λ a b. IsReached x.grammar x.after x.before a b × IsCellBefore c i a b) (λ a b. IsReached x.grammar x.after x.before a b × IsCellBefore d j a b) (map cell_of gone)
        (λ a b. (λ u. (u.0, (back a b u.0).0 u.1), λ u. (u.0, (back a b u.0).1 u.1))) h.cells_gone;
    tables_gone = h.tables_gone;
  }

  pub next_voice : (c d : ℕ) (coming gone : List CellTable) → IsChange x → ((a : ℕ) → Contains x.before.channels a → (a < c) ↔ (a < d)) → AreExchangedUpTo x c 0 coming gone → AreExchangedUpTo x d 0 coming gone
  next_voice c d coming gone is same h =
      same_up_to c 0 d 0 coming gone (λ a b r. at a b (subst (λ cs. Contains cs a) is.channels r.0)) (λ a b r. at a b r.0) h
    where
      move : (c d a b : ℕ) → (a < c → a < d) → IsCellBefore c 0 a b → IsCellBefore d 0 a b
      move c d a b by (inl lt) = inl (by lt)
      move c d a b by (inr here) = let lt = here.1 in absurd (omega (arith, lt))

      at : (a b : ℕ) → Contains x.before.channels a → IsCellBefore c 0 a b ↔ IsCellBefore d 0 a b
      at a b there = (move c d a b (same a there).0, move d c a b (same a there).1)

  module _ (is : IsChange x) (channel : ℕ) (voice : Contains x.before.channels channel) where
    pub begun : (tables : List BarTable) → AreTablesOfVoice x.grammar x.before channel tables → AreChangedUpTo x channel 0 tables
    begun tables h = record {
      long = omega (arith, voice_long x.grammar x.before channel tables h);
      changed = λ i d lt. absurd (omega (arith, lt));
      kept = λ i d le lt. cell_of_voice x.grammar x.before channel i tables d h (omega (arith, lt, voice_long x.grammar x.before channel tables h));
    }

    pub voice_changed : (tables : List BarTable) → AreChangedUpTo x channel (length x.after.bars) tables → AreTablesOfVoice x.grammar x.after channel (take (length x.after.bars) tables)
    voice_changed tables h =
        let long : length (take (length x.after.bars) tables) ≡ length x.after.bars = length-take-le (length x.after.bars) tables (omega (arith, h.long)) in
        voice_of_cells x.grammar x.after channel (take (length x.after.bars) tables) long
        (λ i d lt.
        let low : i < length x.after.bars = omega (arith, lt, long) in
        subst (IsTableOfCell x.grammar x.after channel i) (sym (get_or-take (length x.after.bars) tables i d low)) (h.changed i d low))

    pub voice_lost : (coming gone : List CellTable) (tables : List BarTable) → AreChangedUpTo x channel (length x.after.bars) tables → AreExchangedUpTo x channel (length x.after.bars) coming gone
        → AreExchangedUpTo x (channel + 1) 0 coming (gone ++ tables_of_bars channel (length x.after.bars) (drop (length x.after.bars) tables))
    voice_lost coming gone tables h k = record {
      cells_coming =
          cells_same (λ c i. IsReached x.grammar x.before x.after c i × (IsCellBefore channel bars c i → ⊥)) (λ c i. IsReached x.grammar x.before x.after c i × (IsCellBefore (channel + 1) 0 c i → ⊥)) (map cell_of coming)
          (λ c i. (
            λ u. let within = u.0.1 in (u.0, λ before. u.1 (earlier c i within before)),
            λ u. (u.0, λ before. u.1 (later c i before)),
          )) k.cells_coming;
      tables_coming = k.tables_coming;
      cells_gone =
          subst (AreCellsWhere (λ c i. IsReached x.grammar x.after x.before c i × IsCellBefore (channel + 1) 0 c i)) (sym (map-append cell_of gone (tables_of_bars channel bars (drop bars tables))))
          (cells_same (λ c i. Gone c i ⊎ IsAmong channel bars (length (drop bars tables)) c i) (λ c i. IsReached x.grammar x.after x.before c i × IsCellBefore (channel + 1) 0 c i)
          (map cell_of gone ++ map cell_of (tables_of_bars channel bars (drop bars tables))) (λ c i. (there c i, back c i))
          (cells_append Gone (IsAmong channel bars (length (drop bars tables))) (map cell_of gone) (map cell_of (tables_of_bars channel bars (drop bars tables))) k.cells_gone
          (numbered_cells channel bars (drop bars tables)) apart));
      tables_gone = All-append (IsCellTable x.grammar x.before) gone (tables_of_bars channel bars (drop bars tables)) k.tables_gone
          (numbered_tables x.grammar x.before channel bars (drop bars tables)
          (λ i d lt. subst (IsTableOfCell x.grammar x.before channel (bars + i)) (sym (get_or-drop bars tables i d)) (h.kept (bars + i) d (omega arith) (omega (arith, lt, dropped)))));
    }
      where
        bars : ℕ
        bars = length x.after.bars

        Gone : ℕ → ℕ → Type 0
        Gone c i = IsReached x.grammar x.after x.before c i × IsCellBefore channel bars c i

        dropped : length (drop bars tables) ≡ max (length x.before.bars) bars - bars
        dropped = length-drop bars tables ∙ ap (λ n. n - bars) h.long

        later : (c i : ℕ) → IsCellBefore channel bars c i → IsCellBefore (channel + 1) 0 c i
        later c i (inl lt) = inl (omega (arith, lt))
        later c i (inr here) = let same = here.0 in inl (omega (arith, same))

        earlier : (c i : ℕ) → i < bars → IsCellBefore (channel + 1) 0 c i → IsCellBefore channel bars c i
        earlier c i within (inl lt) = elim (cases_lt c channel) [ inl low ↦ inl low | inr le ↦ inr (omega (arith, lt, le), within) ]
        earlier c i within (inr here) = let lt = here.1 in absurd (omega (arith, lt))

        there : (c i : ℕ) → Gone c i ⊎ IsAmong channel bars (length (drop bars tables)) c i → IsReached x.grammar x.after x.before c i × IsCellBefore (channel + 1) 0 c i
        there c i (inl u) = (u.0, later c i u.1)
        there c i (inr u) =
            let same = u.0 in
            let le = u.1 in
            let lt = u.2 in
            ((subst (Contains x.before.channels) (sym same) voice, omega (arith, le, lt, dropped), inl le), inl (omega (arith, same)))

        back : (c i : ℕ) → IsReached x.grammar x.after x.before c i × IsCellBefore (channel + 1) 0 c i → Gone c i ⊎ IsAmong channel bars (length (drop bars tables)) c i
        back c i u = elim (cases_lt i bars) [
          | inl lt ↦ inl (u.0, earlier c i lt u.1)
          | inr le ↦
              let within = u.0.1 in
              elim u.1 [
                | inr here ↦ let lt = here.1 in absurd (omega (arith, lt))
                | inl lt ↦ elim (cases_lt c channel) [
                  | inl low ↦ inl (u.0, inl low)
                  | inr more ↦ inr (omega (arith, lt, more), le, omega (arith, within, le, dropped))
                ]
              ]
        ]

        apart : (c i d j : ℕ) → Gone c i → IsAmong channel bars (length (drop bars tables)) d j → IsEarlierCell (c, i) (d, j)
        apart c i d j u v = elim u.1 [
          | inl lt ↦ let same = v.0 in lower_voice c i d j (omega (arith, lt, same))
          | inr here ↦ let lt = here.1 in let le = v.1 in lower_bar c i d j (here.0 ∙ sym v.0) (omega (arith, lt, le))
        ]

    pub voice_done : (bars : ℕ) (mid tables : List BarTable) (first begin left gone out : List CellTable) → bars ≡ length x.after.bars → tables ≡ take bars mid
        → out ≡ gone ++ tables_of_bars channel bars (drop bars mid) → IsVoiceUpTo x channel bars mid first begin left gone → IsVoiceAfter x channel tables first begin left out
    voice_done bars mid tables first begin left gone out same cut pushed h =
        let changed = subst (λ n. AreChangedUpTo x channel n mid) same h.changed in
        let lost : List CellTable = tables_of_bars channel (length x.after.bars) (drop (length x.after.bars) mid) in
        let now : out ≡ gone ++ lost = pushed ∙ ap (λ n. gone ++ tables_of_bars channel n (drop n mid)) same in
        let none = numbered_not_below (length x.after.bars) channel (length x.after.bars) (drop (length x.after.bars) mid) (omega arith) in
        let even : tables_below (length x.after.bars) gone + (bars - length x.before.bars) + length left ≡ tables_below (length x.after.bars) begin + length first = h.even in
        record {
          tables_after = subst (AreTablesOfVoice x.grammar x.after channel) (sym (cut ∙ ap (λ n. take n mid) same)) (voice_changed mid changed);
          exchanged = subst (AreExchangedUpTo x (channel + 1) 0 left) (sym now) (voice_lost left gone mid changed (subst (λ n. AreExchangedUpTo x channel n left gone) same h.exchanged));
          even = omega (arith, ap (tables_below (length x.after.bars)) now, below_append (length x.after.bars) gone lost, none, even, same);
        }
