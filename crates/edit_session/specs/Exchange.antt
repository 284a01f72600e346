-- What is exchanged where a session changes to another performance: the tables that come in, and those that go out.
use Rattle.std.specs.Prelude.{◌≡◌, ◌⊎◌, ℕ, ◌+◌, ◌*◌, ◌-◌, ◌<◌, ◌≤◌, List, [], ◌∷◌, ◌++◌, All, Contains, filter, Vec, ◌^◌, length, map, max, nat_lt, reverse, slice_index_or, slice_set, vec_capacity}
use Rattle.rhythm_base.specs.declared.limits.TheConstants.{DEAREST_CELL, MOST_BARS}
use Rattle.edit_session.specs.Kept.{AreTablesOfVoice, AreTablesOfVoices}
use Rattle.edit_session.specs.Prepared.{CellTable, IsCellTable, IsTableOfCell, cell_of}
use Rattle.edit_session.specs.Products.{moved_tables}
use Rattle.edit_session.specs.ReachedCells.{AreCellsWhere}
use Rattle.edit_session.specs.VoiceTables.{VoiceTables}
use Rattle.rhythm_base.specs.BarTables.{BarTable}
use Rattle.rhythm_base.specs.Counter.{risen}
use Rattle.rhythm_base.specs.Grammar.{Grammar}
use Rattle.rhythm_base.specs.Performance.{IsWellFormed, Performance}
use Rattle.rhythm_base.specs.Paths.{IsCheap}
use Rattle.edit_laws.specs.Reached.{AreReached, IsReached}

-- the performance before and that afterwards, under a grammar
pub record Change : Type 0 where
  pub grammar : Grammar
  pub before : Performance
  pub after : Performance

-- both are well formed, and have the same voices
pub record IsChange (x : Change) : Type 0 where
  pub formed : IsWellFormed x.before
  pub formed_after : IsWellFormed x.after
  pub channels : x.after.channels ≡ x.before.channels

-- the cell of the voice c and the bar i comes before that of this channel and bar
abbrev pub IsCellBefore : ℕ → ℕ → ℕ → ℕ → Type 0
IsCellBefore channel bar c i = (c < channel) ⊎ ((c ≡ channel) × (i < bar))

-- the tables of a voice that is changed up to a bar: those before it are of the performance afterwards, and the others still of
-- the one before
pub record AreChangedUpTo (x : Change) (channel bar : ℕ) (tables : List BarTable) : Type 0 where
  pub long : length tables ≡ max (length x.before.bars) bar
  pub changed : (i : ℕ) (d : BarTable) → i < bar → IsTableOfCell x.grammar x.after channel i (slice_index_or tables i d)
  pub kept : (i : ℕ) (d : BarTable) → bar ≤ i → i < length x.before.bars → IsTableOfCell x.grammar x.before channel i (slice_index_or tables i d)

-- up to a cell the tables are exchanged: of it and the reached cells after it they have still to come, and those of the cells
-- before it that the way back would reach are gone
pub record AreExchangedUpTo (x : Change) (channel bar : ℕ) (coming gone : List CellTable) : Type 0 where
  pub cells_coming : AreCellsWhere (λ c i. IsReached x.grammar x.before x.after c i × (IsCellBefore channel bar c i → ⊥)) (map cell_of coming)
  pub tables_coming : All (IsCellTable x.grammar x.after) coming
  pub cells_gone : AreCellsWhere (λ c i. IsReached x.grammar x.after x.before c i × IsCellBefore channel bar c i) (map cell_of gone)
  pub tables_gone : All (IsCellTable x.grammar x.before) gone

-- how many of the tables are of the first bars
abbrev pub tables_below : ℕ → List CellTable → ℕ
tables_below bars tables = length (filter (λ t. nat_lt t.bar bars) tables)

-- the tables of the bars of a voice, from a number on
abbrev pub tables_of_bars : ℕ → ℕ → List BarTable → List CellTable
tables_of_bars channel bar [] = []
tables_of_bars channel bar (table ∷ tables) = record { channel = channel; bar = bar; table = table } ∷ tables_of_bars channel (bar + 1) tables

-- the last of the tables is that of this cell
abbrev pub IsLastOf : List CellTable → ℕ → ℕ → Type 0
IsLastOf tables channel bar = (t : CellTable) × (rest : List CellTable) × (tables ≡ rest ++ t ∷ []) × (cell_of t ≡ (channel, bar))

-- the last of the tables is that of a bar of the voice, from one bar up to another
pub record IsNextBar (tables : List CellTable) (channel first bars bar : ℕ) : Type 0 where
  pub from : first ≤ bar
  pub within : bar < bars
  pub last : IsLastOf tables channel bar

-- what goes out where the table of a cell comes in: the one in its place
abbrev pub table_out : List BarTable → CellTable → CellTable
table_out tables t = record { channel = t.channel; bar = t.bar; table = slice_index_or tables t.bar t.table }

-- a voice of the performance before, with nothing exchanged from it on
pub record IsVoiceBefore (x : Change) (channel : ℕ) (tables : List BarTable) (coming gone : List CellTable) : Type 0 where
  pub is : IsChange x
  pub voice : Contains x.before.channels channel
  pub tables_before : AreTablesOfVoice x.grammar x.before channel tables
  pub exchanged : AreExchangedUpTo x channel 0 coming gone

-- For each table that has come in, one of a bar that both performances have has gone out, or it is that of a new bar.
abbrev pub IsEven : Change → ℕ → List CellTable → List CellTable → List CellTable → List CellTable → Type 0
IsEven x added coming gone left out =
    tables_below (length x.after.bars) out + added + length left ≡ tables_below (length x.after.bars) gone + length coming

-- the voice is changed up to a bar
pub record IsVoiceUpTo (x : Change) (channel bar : ℕ) (tables : List BarTable) (coming gone left out : List CellTable) : Type 0 where
  pub changed : AreChangedUpTo x channel bar tables
  pub exchanged : AreExchangedUpTo x channel bar left out
  pub even : IsEven x (bar - length x.before.bars) coming gone left out

-- the voice is changed
pub record IsVoiceAfter (x : Change) (channel : ℕ) (tables : List BarTable) (coming gone left out : List CellTable) : Type 0 where
  pub tables_after : AreTablesOfVoice x.grammar x.after channel tables
  pub exchanged : AreExchangedUpTo x (channel + 1) 0 left out
  pub even : IsEven x (length x.after.bars - length x.before.bars) coming gone left out

-- the voices of the performance before, and the tables of the cells that the change reaches
pub record AreVoicesBefore (x : Change) (voices : List VoiceTables) (coming : List CellTable) : Type 0 where
  pub is : IsChange x
  pub tables : AreTablesOfVoices x.grammar x.before voices
  pub reached : AreReached x.grammar x.before x.after (map cell_of coming)
  pub tables_coming : All (IsCellTable x.grammar x.after) coming

-- the voices afterwards, and the tables of the cells that the way back reaches, with place for those that it puts out
pub record AreVoicesAfter (x : Change) (voices : List VoiceTables) (gone : List CellTable) (place : ℕ) : Type 0 where
  pub tables : AreTablesOfVoices x.grammar x.after voices
  pub reached : AreReached x.grammar x.after x.before (map cell_of gone)
  pub tables_gone : All (IsCellTable x.grammar x.before) gone
  pub enough : tables_below (length x.after.bars) gone + length x.before.channels * (length x.after.bars - length x.before.bars) ≤ place

-- how many bars a performance may have
pub record IsBarCount (bars : ℕ) : Type 0 where
  pub some : 1 ≤ bars
  pub few : bars ≤ MOST_BARS

-- each voice has as many tables, and there is place for all tables that go out where these come in
pub record HasPlace (voices : List VoiceTables) (bars : ℕ) (coming : List CellTable) (place : ℕ) : Type 0 where
  pub count : ℕ
  pub few : count ≤ MOST_BARS
  pub each : All (λ v. length v.tables ≡ count) voices
  pub enough : tables_below count coming + length voices * (count - bars) ≤ place

abbrev pub IsCheapTable : CellTable → Type 0
IsCheapTable t = IsCheap DEAREST_CELL t.table.matrix

-- ---- what the exchange of a voice and of all voices does. The tables that come are kept in turned order

-- no other tables of these bars go out than come in
abbrev pub HasEvenCount : {A : Type 0} → ℕ → Vec CellTable A → Vec CellTable A → Vec CellTable A → Vec CellTable A → Type 0
HasEvenCount n coming left gone out =
    length out.items + tables_below n left.items ≡ length gone.items + tables_below n coming.items

abbrev pub HasCountWithLost : {A : Type 0} → ℕ → VoiceTables → Vec CellTable A → Vec CellTable A → Vec CellTable A → Vec CellTable A → Type 0
HasCountWithLost bars voice coming left gone out =
    length out.items + tables_below (length voice.tables) left.items
    ≡ length gone.items + tables_below (length voice.tables) coming.items + (length voice.tables - bars)

abbrev pub IsNoMoreThanCame : ℕ → List VoiceTables → List CellTable → List CellTable → Type 0
IsNoMoreThanCame bars voices coming gone =
    (n : ℕ) → All (λ v. length v.tables ≡ n) voices → length gone ≤ length coming + length voices * (n - bars)

-- there is place for the tables of a voice that go out
abbrev pub HasPlaceForVoice : {A : Type 0} → ℕ → VoiceTables → Vec CellTable A → Vec CellTable A → Type 0
HasPlaceForVoice bars voice coming gone =
    length gone.items + tables_below (length voice.tables) coming.items + (length voice.tables - bars) ≤ vec_capacity gone

-- the table takes the place of another, which goes out; or it is that of a new bar
abbrev pub IsSwapped : {A : Type 0} → VoiceTables → VoiceTables → CellTable → Vec CellTable A → Vec CellTable A → Type 0
IsSwapped voice after coming gone out =
    coming.bar < length voice.tables → (after.tables ≡ slice_set voice.tables coming.bar coming.table)
    × (out.items ≡ gone.items ++ table_out voice.tables coming ∷ [])

abbrev pub IsPushed : {A : Type 0} → VoiceTables → VoiceTables → CellTable → Vec CellTable A → Vec CellTable A → Type 0
IsPushed voice after coming gone out =
    length voice.tables ≤ coming.bar → (after.tables ≡ voice.tables ++ coming.table ∷ []) × (out.items ≡ gone.items)

abbrev pub ExchangesBars : {A : Type 0} → ℕ → ℕ → VoiceTables → VoiceTables → Vec CellTable A → Vec CellTable A → Vec CellTable A → Vec CellTable A → Type 0
ExchangesBars channel bars voice after coming left gone out =
    (x : Change) → IsVoiceBefore x channel voice.tables (reverse coming.items) gone.items → bars ≡ length x.after.bars
    → IsVoiceUpTo x channel bars after.tables (reverse coming.items) gone.items (reverse left.items) out.items

abbrev pub ExchangesVoice : {A : Type 0} → ℕ → ℕ → VoiceTables → VoiceTables → Vec CellTable A → Vec CellTable A → Vec CellTable A → Vec CellTable A → Type 0
ExchangesVoice channel bars voice after coming left gone out =
    (x : Change) → IsVoiceBefore x channel voice.tables (reverse coming.items) gone.items → bars ≡ length x.after.bars
    → IsVoiceAfter x channel after.tables (reverse coming.items) gone.items (reverse left.items) out.items

-- these tables are exchanged for those that come, whatever the performances are
abbrev pub ExchangesVoices : List ℕ → ℕ → List VoiceTables → List VoiceTables → List CellTable → List CellTable → ℕ → Type 0
ExchangesVoices channels bars voices after coming gone place =
    (x : Change) → AreVoicesBefore x voices coming → channels ≡ x.before.channels → bars ≡ length x.after.bars
    → AreVoicesAfter x after gone place

-- the way back moves no more tables
abbrev pub HasShortWayBack : List ℕ → ℕ → List VoiceTables → List CellTable → List CellTable → Type 0
HasShortWayBack channels bars voices coming gone =
    (x : Change) → AreVoicesBefore x voices coming → channels ≡ x.before.channels → bars ≡ length x.after.bars
    → moved_tables x.after x.before (length gone) ≤ moved_tables x.before x.after (length coming)

-- ---- its products

-- at most d products for each table that came in, where there are at most 2 ^ d bars
abbrev pub RisesForBars : {A : Type 0} → ℕ → VoiceTables → Vec CellTable A → Vec CellTable A → ℕ → ℕ → Type 0
RisesForBars bars voice coming left old new =
    (old ≤ new) × ((d m : ℕ) → length voice.tables ≤ 2 ^ d → bars ≤ 2 ^ d → length coming.items ≡ length left.items + m
    → new ≤ risen old (m * d))

-- and for each that goes off the end
abbrev pub RisesForLost : ℕ → VoiceTables → ℕ → ℕ → Type 0
RisesForLost bars voice old new =
    (old ≤ new) × ((d : ℕ) → length voice.tables ≤ 2 ^ d → new ≤ risen old ((length voice.tables - bars) * d))

abbrev pub RisesForVoice : {A : Type 0} → ℕ → VoiceTables → Vec CellTable A → Vec CellTable A → ℕ → ℕ → Type 0
RisesForVoice bars voice coming left old new =
    (old ≤ new) × ((d m : ℕ) → length voice.tables ≤ 2 ^ d → bars ≤ 2 ^ d → length coming.items ≡ length left.items + m
    → new ≤ risen old ((m + (length voice.tables - bars)) * d))

abbrev pub RisesForVoices : ℕ → List VoiceTables → List CellTable → ℕ → ℕ → Type 0
RisesForVoices bars voices coming old new =
    (old ≤ new) × ((d n : ℕ) → All (λ v. length v.tables ≡ n) voices → n ≤ 2 ^ d → bars ≤ 2 ^ d
    → new ≤ risen old ((length coming + length voices * (n - bars)) * d))
