-- The products of a session that is put on what is prepared, and of an edit.
use Rattle.std.proofs.Common.{◌≡◌, ℕ, ◌+◌, ◌-◌, ◌*◌, ◌≤◌, ◌^◌, List, Ok, length, map, refl, sym, ap, ◌∙◌, subst, arith}
use Rattle.std.specs.Prelude.{All, Err, Result}
use Rattle.std.proofs.lemmas.List.{length-map}
use Rattle.rhythm_base.specs.declared.edit.Edit.{Edit}
use Rattle.rhythm_base.specs.declared.edit_fault.EditFault.{EditFault}
use Rattle.rhythm_base.specs.declared.edit_fault.EditFault.TheVariants.{Memory, NoDerivation}
use Rattle.rhythm_base.specs.Counter.{risen}
use Rattle.edit_laws.specs.Edits.{edited}
use Rattle.rhythm_base.specs.Grammar.{Grammar}
use Rattle.rhythm_base.specs.Performance.{Performance}
use Rattle.edit_laws.specs.Reached.{AreReached}
use Rattle.edit_laws.proofs.OneReached.{one_reached}
use Rattle.derivation.proofs.Pairs.{each_length}
use Rattle.grammar_plan.specs.declared.plan.Plan.{Plan}
use Rattle.edit_session.specs.Exchange.{AreVoicesBefore, Change}
use Rattle.edit_session.specs.Kept.{IsKeptVoice, IsSession}
use Rattle.edit_session.specs.Prepared.{CellTable, Prepared, Suits, cell_of}
use Rattle.edit_session.specs.Products.{AreProductsOf, AreProductsOfEdit, changes_of_edit, moved_tables}
use Rattle.edit_session.specs.Session.{Session}
use Rattle.edit_session.specs.VoiceTables.{VoiceTables}
use Rattle.edit_session.proofs.Commits.{IsExchanged, all_long, change, suited, suits_kept}
use Rattle.edit_session.proofs.Risen.{risen_both, risen_upto}
use Rattle.edit_session.proofs.Voices.{all_tables}

-- what an exchange of the tables of these voices for those that come in makes of a counter
abbrev pub Exchanges : List VoiceTables → ℕ → List CellTable → ℕ → ℕ → Type 0
Exchanges voices bars coming old new =
    (d n : ℕ) → All (λ v. length v.tables ≡ n) voices → n ≤ 2 ^ d → bars ≤ 2 ^ d → new ≤ risen old ((length coming + length voices * (n - bars)) * d)

module _ {plan : Plan} (g : Grammar) (p : Performance) (workers room : ℕ) (voices : List VoiceTables) (s : Session) (x : Prepared) (next : Performance) (tables : List CellTable) (place : ℕ)
    (session : IsSession g plan p workers voices room) (view : record { grammar = g; performance = p; workers = workers; room = room } ≡ s) (next_is : next ≡ x.next) (tables_is : tables ≡ x.tables) (place_is : place ≡ x.place)
    (suiting : Suits s.grammar s.performance x) (slice : List VoiceTables) (bars : ℕ) (slice_is : slice ≡ voices) (bars_is : bars ≡ length next.bars) where
  as_many : (q r : Performance) → q ≡ r → length q.bars ≡ length r.bars
  as_many q r e = ap (λ (it : Performance). length it.bars) e

  bars_before : length p.bars ≡ length s.performance.bars
  bars_before = ap (λ (it : Session). length it.performance.bars) view

  number : length slice ≡ length p.channels
  number = ap length slice_is ∙ sym (each_length (IsKeptVoice g p room) p.channels voices session.each)

  -- as many tables move as the reached cells and the lost bars are
  moved : (cells : List (ℕ × ℕ)) → AreReached s.grammar s.performance x.next cells → length tables + length slice * (length p.bars - bars) ≡ moved_tables s.performance x.next (length cells)
  moved cells reached =
      let count : length tables ≡ length cells =
      ap length tables_is ∙ sym (length-map x.tables cell_of) ∙ ap length (one_reached s.grammar s.performance x.next (map cell_of x.tables) cells suiting.reached reached) in
      let many : length slice ≡ length s.performance.channels = number ∙ ap (λ (it : Session). length it.performance.channels) view in
      let after : bars ≡ length x.next.bars = bars_is ∙ as_many next x.next next_is in
      λ i. count i + many i * (bars_before i - after i)

  long : All (λ v. length v.tables ≡ length p.bars) slice
  long = subst (All (λ v. length v.tables ≡ length p.bars)) (sym slice_is) (all_long g p p.channels voices (all_tables g p room p.channels voices session.each))

  most_there : (old new : ℕ) → Exchanges slice bars tables old new → (cells : List (ℕ × ℕ)) (d : ℕ) → AreReached s.grammar s.performance x.next cells
      → length s.performance.bars ≤ 2 ^ d → length x.next.bars ≤ 2 ^ d → new ≤ risen old (1 * moved_tables s.performance x.next (length cells) * d)
  most_there old new exchange = λ cells d reached few fits.
      let here = exchange d (length p.bars) long (omega (arith, few, bars_before)) (omega (arith, fits, bars_is, as_many next x.next next_is)) in
      let once : 1 * moved_tables s.performance x.next (length cells) ≡ moved_tables s.performance x.next (length cells) = omega arith in
      subst (λ m. new ≤ risen old (m * d)) (moved cells reached ∙ sym once) here

  pub products_there : (old new : ℕ) → old ≤ new → Exchanges slice bars tables old new → AreProductsOf 1 s.grammar s.performance x.next old new
  products_there old new low exchange = record { rises = low; most = most_there old new exchange }

  pub products_back : (now : List VoiceTables) (gone : List CellTable) (capacity : ℕ) (back : List VoiceTables) (channels : List ℕ) (before old mid new : ℕ) → IsExchanged g p next room voices now gone capacity
      → channels ≡ next.channels → ((y : Change) → AreVoicesBefore y slice tables → channels ≡ y.before.channels → bars ≡ length y.after.bars
      → moved_tables y.after y.before (length gone) ≤ moved_tables y.before y.after (length tables))
      → back ≡ now → before ≡ length p.bars → Exchanges slice bars tables old mid → Exchanges back before gone mid new → old ≤ mid → mid ≤ new
      → AreProductsOf 2 s.grammar s.performance x.next old new
  products_back now gone capacity back channels before old mid new h channels_is fewer back_is before_is there exchange low low_back = record {
    rises = omega (arith, low, low_back);
    most = λ cells d reached few fits.
        let suits = suits_kept g p workers room s x next tables place view next_is tables_is place_is suiting in
        let standing = subst (λ vs. AreVoicesBefore (change g p next) vs tables) (sym slice_is)
        (suited g p (record { next = next; tables = tables; place = place }) voices session.formed h.is.formed_after (all_tables g p room p.channels voices session.each) suits) in
        let less = fewer (change g p next) standing (channels_is ∙ h.is.channels) bars_is in
        let each = subst (All (λ v. length v.tables ≡ length next.bars)) (sym back_is) (all_long g next next.channels now h.after.tables) in
        let after : length next.bars ≡ length x.next.bars = as_many next x.next next_is in
        let first = there d (length p.bars) long (omega (arith, few, bars_before)) (omega (arith, fits, bars_is, after)) in
        let second = exchange d (length next.bars) each (omega (arith, fits, after)) (omega (arith, few, before_is, bars_before)) in
        let most : ℕ = length tables + length slice * (length p.bars - bars) in
        let return : length gone + length back * (length next.bars - before) ≡ moved_tables next p (length gone) =
        (let many : length back ≡ length next.channels = ap length back_is ∙ h.number in λ i. length gone + many i * (length next.bars - before_is i)) in
        let going : most ≡ moved_tables p next (length tables) = (λ i. length tables + number i * (length p.bars - bars_is i)) in
        let low : length gone + length back * (length next.bars - before) ≤ most = omega (arith, return, going, less) in
        let later = risen_upto mid (length gone + length back * (length next.bars - before)) most d new low second in
        let twice : most + most ≡ 2 * moved_tables s.performance x.next (length cells) = (let e = moved cells reached in omega (arith, e)) in
        subst (λ m. new ≤ risen old (m * d)) twice (risen_both old most most d mid new first later);
  }

-- ---- edits

rises_none : (old n : ℕ) → old ≤ risen old n
rises_none old n = omega arith

pub idle_edit : {A : Type 0} {result : Result A EditFault} (g : Grammar) (p : Performance) (edit : Edit) (old : ℕ) → AreProductsOfEdit g p edit result old old
idle_edit {A} {result} g p edit old = record {
  rises = omega arith;
  most = λ after made. record { rises = omega arith; most = λ cells d reached few fits. rises_none old (changes_of_edit result * moved_tables p after (length cells) * d) };
  none = λ e. refl;
}

-- where memory is wanting none are made
pub memory_idles : {A : Type 0} {g : Grammar} {p : Performance} {edit : Edit} {old new : ℕ} (fault : EditFault) → fault ≡ Memory → AreProductsOfEdit {A = A} g p edit (Err fault) old new
    → new ≡ old
memory_idles {A} {g} {p} {edit} {old} {new} fault is h = (subst (λ f. AreProductsOfEdit {A = A} g p edit (Err f) old new) is h).none refl

module _ (g : Grammar) (p next : Performance) (edit : Edit) (old new : ℕ) (made : edited p edit ≡ Ok next) where
  only_next : (n : ℕ) → AreProductsOf n g p next old new → (after : Performance) → edited p edit ≡ Ok after → AreProductsOf n g p after old new
  only_next n h after is =
      let same : next ≡ after = cc in
      subst (λ q. AreProductsOf n g p q old new) same h

  pub made_edit : {A : Type 0} (a : A) → AreProductsOf 1 g p next old new → AreProductsOfEdit g p edit (Ok a) old new
  made_edit a h = record { rises = h.rises; most = only_next 1 h; none = λ e. (let one : 1 ≡ 0 = e in absurd (omega (arith, one))) }

  pub dead_edit : {A : Type 0} (channel bar : ℕ) → AreProductsOf 2 g p next old new → AreProductsOfEdit {A = A} g p edit (Err (NoDerivation channel bar)) old new
  dead_edit channel bar h = record { rises = h.rises; most = only_next 2 h; none = λ e. (let two : 2 ≡ 0 = e in absurd (omega (arith, two))) }
