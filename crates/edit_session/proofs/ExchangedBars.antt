-- A voice is exchanged one bar further, or up to the next table, and the tables are counted.
use Rattle.std.proofs.Common.{◌≡◌, ℕ, zero, suc, ◌+◌, ◌-◌, ◌<◌, ◌≤◌, ◌↔◌, List, [], ◌∷◌, ◌++◌, length, get_or, set, max, sym, ap, ◌∙◌, subst, inl, inr, arith}
use Rattle.std.specs.Prelude.{All, Contains, reverse}
use Rattle.std.proofs.lemmas.List.Elements.{All-nil, All-push}
use Rattle.rhythm_base.proofs.OrderedLists.{all_cons, all_head, all_tail}
use Rattle.std.proofs.lemmas.Bool.{cases_lt}
use Rattle.std.proofs.lemmas.List.{length-append, length-set, reverse-append, reverse-reverse, same_from_push}
use Rattle.rhythm_base.specs.BarTables.{BarTable}
use Rattle.edit_session.specs.Exchange.{Change, IsChange, IsLastOf, IsNextBar, IsVoiceUpTo, table_out, tables_below}
use Rattle.edit_session.specs.Prepared.{CellTable, cell_of}
use Rattle.edit_session.proofs.Exchanges.{pushed, stayed, swapped}
use Rattle.edit_session.proofs.TablesBelow.{below_push, not_below_push}

-- the last table is that of the cell
pub cell_is : (coming rest : List CellTable) (next : CellTable) (channel bar : ℕ) → coming ≡ rest ++ next ∷ [] → IsLastOf coming channel bar → cell_of next ≡ (channel, bar)
cell_is coming rest next channel bar split (t, others, e, cell) =
    let same = same_from_push rest others next t (sym split ∙ e) in
    ap cell_of same.1 ∙ cell

pub some_last : (coming : List CellTable) (channel bar : ℕ) → IsLastOf coming channel bar → 0 < length coming
some_last coming channel bar (t, rest, e, cell) = omega (arith, ap length e, length-append rest (t ∷ []))

-- it is that of one bar alone
pub one_last : (coming : List CellTable) (channel bar other : ℕ) → IsLastOf coming channel bar → IsLastOf coming channel other → bar ≡ other
one_last coming channel bar other (t, rest, e, cell) last = ap (λ (c : ℕ × ℕ). c.1) (sym cell ∙ cell_is coming rest t channel other e last)

pub bar_is : (coming rest : List CellTable) (next : CellTable) (channel first bars bar : ℕ) → coming ≡ rest ++ next ∷ [] → IsNextBar coming channel first bars bar → next.bar ≡ bar
bar_is coming rest next channel first bars bar split is_next = ap (λ (c : ℕ × ℕ). c.1) (cell_is coming rest next channel bar split is_next.last)

pub turned_last : (coming rest : List CellTable) (next : CellTable) → coming ≡ rest ++ next ∷ [] → reverse coming ≡ next ∷ reverse rest
turned_last coming rest next split = ap reverse split ∙ reverse-append rest (next ∷ [])

pub not_first : (coming : List CellTable) (channel bar : ℕ) → (IsLastOf coming channel bar → ⊥) → (t : CellTable) (rest : List CellTable) → reverse coming ≡ t ∷ rest → cell_of t ≡ (channel, bar) → ⊥
not_first coming channel bar not t rest e cell =
    not (t, reverse rest, sym (reverse-reverse coming) ∙ ap reverse e ∙ reverse-append (t ∷ []) rest, cell)

pub last_below : (coming : List CellTable) (channel bar n : ℕ) → IsLastOf coming channel bar → bar < n → 1 ≤ tables_below n coming
last_below coming channel bar n (t, rest, e, cell) lt =
    let at : t.bar ≡ bar = ap (λ (c : ℕ × ℕ). c.1) cell in
    omega (arith, ap (tables_below n) e, below_push n rest t (omega (arith, at, lt)))

pub all_but_last : (P : CellTable → Type 0) (rest : List CellTable) (next : CellTable) → All P (rest ++ next ∷ []) → All P rest × P next
all_but_last P [] next h = (All-nil P, all_head P next [] h)
all_but_last P (t ∷ rest) next h =
    let more = all_but_last P rest next (all_tail P t (rest ++ next ∷ []) h) in
    (all_cons P t rest (all_head P t (rest ++ next ∷ []) h) more.0, more.1)

pub all_reverse : (P : CellTable → Type 0) (ts : List CellTable) → All P ts → All P (reverse ts)
all_reverse P [] h = h
all_reverse P (t ∷ ts) h =
    let turned : reverse (t ∷ ts) ≡ reverse ts ++ t ∷ [] = reverse-append (t ∷ []) ts in
    subst (All P) (sym turned) (All-push P (reverse ts) t (all_reverse P ts (all_tail P t ts h)) (all_head P t ts h))

-- what goes out where the table comes in
abbrev pub Swaps : List BarTable → List BarTable → CellTable → List CellTable → List CellTable → Type 0
Swaps tables later next gone more = next.bar < length tables → (later ≡ set tables next.bar next.table) × (more ≡ gone ++ table_out tables next ∷ [])

abbrev pub Pushes : List BarTable → List BarTable → CellTable → List CellTable → List CellTable → Type 0
Pushes tables later next gone more = length tables ≤ next.bar → (later ≡ tables ++ next.table ∷ []) × (more ≡ gone)

pub came_long : (tables later : List BarTable) (next : CellTable) (gone more : List CellTable) (bar : ℕ) → next.bar ≡ bar → Swaps tables later next gone more → Pushes tables later next gone more
    → length later ≤ max (length tables) (bar + 1)
came_long tables later next gone more bar at swaps pushes = elim (cases_lt next.bar (length tables)) [
  | inl lt ↦ let now = swaps lt in omega (arith, ap length now.0, length-set tables next.bar next.table)
  | inr le ↦ let now = pushes le in omega (arith, ap length now.0, length-append tables (next.table ∷ []), le, at)
]

pub came_longer : (tables later : List BarTable) (next : CellTable) (gone more : List CellTable) → Swaps tables later next gone more → Pushes tables later next gone more → length tables ≤ length later
came_longer tables later next gone more swaps pushes = elim (cases_lt next.bar (length tables)) [
  | inl lt ↦ let now = swaps lt in omega (arith, ap length now.0, length-set tables next.bar next.table)
  | inr le ↦ let now = pushes le in omega (arith, ap length now.0, length-append tables (next.table ∷ []))
]

pub came_count : (tables later : List BarTable) (next : CellTable) (coming rest gone more : List CellTable) (bar n : ℕ) → next.bar ≡ bar → coming ≡ rest ++ next ∷ [] → Swaps tables later next gone more
    → Pushes tables later next gone more → (bar < n) ↔ (bar < length tables) → length more + tables_below n rest ≡ length gone + tables_below n coming
came_count tables later next coming rest gone more bar n at split swaps pushes same = elim (cases_lt next.bar (length tables)) [
  | inl lt ↦
      let now = swaps lt in
      let low = same.1 (omega (arith, at, lt)) in
      omega (arith, ap length now.1, length-append gone (table_out tables next ∷ []), ap (tables_below n) split, below_push n rest next (omega (arith, at, low)))
  | inr le ↦
      let now = pushes le in
      let high : n ≤ next.bar = elim (cases_lt next.bar n) [ inr more ↦ more | inl lt ↦ let wrong = same.0 (omega (arith, at, lt)) in absurd (omega (arith, wrong, at, le)) ] in
      omega (arith, ap length now.1, ap (tables_below n) split, not_below_push n rest next high)
]

module _ (x : Change) (is : IsChange x) (channel : ℕ) (voice : Contains x.before.channels channel) (coming first : List CellTable) where
  pub bar_swapped : (n : ℕ) (t u : CellTable) (rest gone : List CellTable) (tables : List BarTable) (d : BarTable) → n < length x.after.bars → n < length tables → cell_of t ≡ (channel, n)
      → u ≡ record { channel = t.channel; bar = t.bar; table = get_or tables n d } → IsVoiceUpTo x channel n tables coming first (t ∷ rest) gone
      → IsVoiceUpTo x channel (n + 1) (set tables n t.table) coming first rest (gone ++ u ∷ [])
  bar_swapped n t u rest gone tables d low lt e made h =
      let step = swapped x is channel voice n t u rest gone tables d lt e made h.changed h.exchanged in
      let at : u.bar ≡ n = ap (λ (v : CellTable). v.bar) made ∙ ap (λ (c : ℕ × ℕ). c.1) e in
      let more = below_push (length x.after.bars) gone u (omega (arith, at, low)) in
      let long = h.changed.long in
      let even : tables_below (length x.after.bars) gone + (n - length x.before.bars) + suc (length rest) ≡ tables_below (length x.after.bars) first + length coming = h.even in
      record { changed = step.0; exchanged = step.1; even = omega (arith, more, long, lt, even) }

  pub bar_pushed : (n : ℕ) (t : CellTable) (rest gone : List CellTable) (tables : List BarTable) → length tables ≤ n → cell_of t ≡ (channel, n)
      → IsVoiceUpTo x channel n tables coming first (t ∷ rest) gone → IsVoiceUpTo x channel (n + 1) (tables ++ t.table ∷ []) coming first rest gone
  bar_pushed n t rest gone tables le e h =
      let step = pushed x is channel voice n t rest gone tables le e h.changed h.exchanged in
      let long = h.changed.long in
      let even : tables_below (length x.after.bars) gone + (n - length x.before.bars) + suc (length rest) ≡ tables_below (length x.after.bars) first + length coming = h.even in
      record { changed = step.0; exchanged = step.1; even = omega (arith, long, le, even) }

  pub bar_stayed : (n : ℕ) (left gone : List CellTable) (tables : List BarTable) → n < length x.after.bars
      → ((t : CellTable) (rest : List CellTable) → left ≡ t ∷ rest → cell_of t ≡ (channel, n) → ⊥)
      → IsVoiceUpTo x channel n tables coming first left gone → IsVoiceUpTo x channel (n + 1) tables coming first left gone
  bar_stayed n left gone tables low other h =
      let step = stayed x is channel voice n left gone tables low other h.changed h.exchanged in
      let long = h.changed.long in
      let longer = step.0.long in
      let even : tables_below (length x.after.bars) gone + (n - length x.before.bars) + length left ≡ tables_below (length x.after.bars) first + length coming = h.even in
      record { changed = step.0; exchanged = step.1; even = omega (arith, long, longer, even) }

  pub bar_came : (n : ℕ) (next : CellTable) (left rest gone more : List CellTable) (tables later : List BarTable) → n < length x.after.bars → left ≡ rest ++ next ∷ [] → cell_of next ≡ (channel, n)
      → Swaps tables later next gone more → Pushes tables later next gone more
      → IsVoiceUpTo x channel n tables coming first (reverse left) gone → IsVoiceUpTo x channel (n + 1) later coming first (reverse rest) more
  bar_came n next left rest gone more tables later low split e swaps pushes h =
      let now : IsVoiceUpTo x channel n tables coming first (next ∷ reverse rest) gone = subst (λ l. IsVoiceUpTo x channel n tables coming first l gone) (turned_last left rest next split) h in
      let at : next.bar ≡ n = ap (λ (c : ℕ × ℕ). c.1) e in
      elim (cases_lt next.bar (length tables)) [
        | inl lt ↦
            let is = swaps lt in
            let step = bar_swapped n next (table_out tables next) (reverse rest) gone tables next.table low (omega (arith, lt, at)) e
            (ap (λ m. record { channel = next.channel; bar = next.bar; table = get_or tables m next.table }) at) now in
            subst (λ ts. IsVoiceUpTo x channel (n + 1) ts coming first (reverse rest) more) (sym (is.0 ∙ ap (λ m. set tables m next.table) at))
            (subst (λ l. IsVoiceUpTo x channel (n + 1) (set tables n next.table) coming first (reverse rest) l) (sym is.1) step)
        | inr le ↦
            let is = pushes le in
            let step = bar_pushed n next (reverse rest) gone tables (omega (arith, le, at)) e now in
            subst (λ ts. IsVoiceUpTo x channel (n + 1) ts coming first (reverse rest) more) (sym is.0)
            (subst (λ l. IsVoiceUpTo x channel (n + 1) (tables ++ next.table ∷ []) coming first (reverse rest) l) (sym is.1) step)
      ]

  -- bars that no table comes for keep theirs
  bars_stayed : (count n : ℕ) (left gone : List CellTable) (tables : List BarTable) → n + count ≤ length x.after.bars → ((bar : ℕ) → n ≤ bar → bar < n + count → IsLastOf left channel bar → ⊥)
      → IsVoiceUpTo x channel n tables coming first (reverse left) gone → IsVoiceUpTo x channel (n + count) tables coming first (reverse left) gone
  bars_stayed zero n left gone tables low none h = subst (λ m. IsVoiceUpTo x channel m tables coming first (reverse left) gone) (omega arith) h
  bars_stayed (suc count) n left gone tables low none h =
      subst (λ m. IsVoiceUpTo x channel m tables coming first (reverse left) gone) (omega arith)
      (bars_stayed count (n + 1) left gone tables (omega (arith, low)) (λ bar from lt. none bar (omega (arith, from)) (omega (arith, lt)))
      (bar_stayed n (reverse left) gone tables (omega (arith, low)) (not_first left channel n (none n (omega arith) (omega arith))) h))

  pub stayed_up_to : (n bar : ℕ) (left gone : List CellTable) (tables : List BarTable) → n ≤ bar → bar ≤ length x.after.bars → ((k : ℕ) → n ≤ k → k < bar → IsLastOf left channel k → ⊥)
      → IsVoiceUpTo x channel n tables coming first (reverse left) gone → IsVoiceUpTo x channel bar tables coming first (reverse left) gone
  stayed_up_to n bar left gone tables le low none h =
      let there : n + (bar - n) ≡ bar = omega (arith, le) in
      subst (λ m. IsVoiceUpTo x channel m tables coming first (reverse left) gone) there
      (bars_stayed (bar - n) n left gone tables (omega (arith, there, low)) (λ k from lt. none k from (omega (arith, there, lt))) h)

  -- up to the next table, which comes in
  pub next_came : (n bars bar : ℕ) (next : CellTable) (left rest gone more : List CellTable) (tables later : List BarTable) → bars ≡ length x.after.bars → IsNextBar left channel n bars bar
      → left ≡ rest ++ next ∷ [] → Swaps tables later next gone more → Pushes tables later next gone more
      → IsVoiceUpTo x channel n tables coming first (reverse left) gone → IsVoiceUpTo x channel (bar + 1) later coming first (reverse rest) more
  next_came n bars bar next left rest gone more tables later same is_next split swaps pushes h =
      let low : bar < length x.after.bars = omega (arith, is_next.within, same) in
      bar_came bar next left rest gone more tables later low split (cell_is left rest next channel bar split is_next.last) swaps pushes
      (stayed_up_to n bar left gone tables is_next.from (omega (arith, low)) (λ k from lt last. let one = one_last left channel k bar last is_next.last in omega (arith, one, lt)) h)
