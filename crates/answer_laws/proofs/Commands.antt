-- Words say a command, or say none.
use Rattle.std.proofs.Common.{◌≡◌, ℕ, ◌≤◌, ◌⊎◌, inl, inr, List, [], ◌∷◌, length, codes, refl, sym, subst, ◌∙◌}
use Rattle.std.specs.Char.{is_ascii_digit}
use Rattle.std.specs.List.{join_with_byte, list_all}
use Rattle.std.specs.Str.Parse.{digits_value}
use Rattle.std.proofs.lemmas.Bool.{cases_eq}
use Rattle.rhythm_base.specs.declared.edit.Edit.TheVariants.{Add, Drop, Move, Barline, Pin, Unpin, AddBar, DropBar}
use Rattle.rhythm_base.specs.declared.limits.TheConstants.{LATEST_TICK, MOST_BARS}
use Rattle.rhythm_base.specs.Numerals.{IsNumber}
use Rattle.rhythm_base.specs.Shape.{Shape}
use Rattle.edit_script.specs.declared.command.Command.{Command}
use Rattle.edit_script.specs.declared.command.Command.TheVariants.{Change, Score, Alternatives, Quit}
use Rattle.edit_script.specs.ScriptLines.{Are, AreCommand, Is, IsBarWord, IsChannelWord, IsCountWord, IsKeyWord, IsTickWord, SaysCommand, SaysNothing, script_words}
use Rattle.answer_laws.proofs.Decisions.{Decided, decided_both, decided_like, decided_lists, decided_most, decided_true}
use Rattle.answer_laws.proofs.Shapes.{decided_shape}

-- ---- numbers

decided_number : (most : ℕ) (word : List ℕ) → Decided ((n : ℕ) × IsNumber most n word)
decided_number most word =
    decided_like (λ h. (digits_value 10 word, record { some = h.0; few = h.1.0; digits = h.1.1.0; value = refl; high = h.1.1.1 }))
    (λ h. (h.1.some, (h.1.few, (h.1.digits, subst (λ n. n ≤ most) (sym h.1.value) h.1.high))))
    (decided_both (decided_most 1 (length word))
    (decided_both (decided_most (length word) 10)
    (decided_both (decided_true (list_all is_ascii_digit word)) (decided_most (digits_value 10 word) most))))

decided_count : (word : List ℕ) → Decided ((n : ℕ) × IsCountWord n word)
decided_count word = go (decided_number 16 word)
  where
    value : (n : ℕ) → IsNumber 16 n word → digits_value 10 word ≡ n
    value n is = is.value

    go : Decided ((n : ℕ) × IsNumber 16 n word) → Decided ((n : ℕ) × IsCountWord n word)
    go (inr never) = inr (λ h. never (h.0, h.1.0))
    go (inl (n, is)) =
        decided_like (λ some. (n, (is, some))) (λ h. subst (λ m. 1 ≤ m) (sym (value h.0 h.1.0) ∙ value n is) h.1.1) (decided_most 1 n)

-- ---- words of a kind

-- no more words
decided_end : (words : List (List ℕ)) → Decided ((u : Unit {0}) × Are [] words)
decided_end [] = inl (tt, tt)
decided_end (word ∷ words) = inr (λ h. h.1)

-- a word that says a number, and others after it
decided_word : {N : Type 0} (Asks : ℕ → List ℕ → Type 0) (Others : N → List (List ℕ → Type 0))
    → ((word : List ℕ) → Decided ((n : ℕ) × Asks n word)) → ((words : List (List ℕ)) → Decided ((m : N) × Are (Others m) words))
    → (words : List (List ℕ)) → Decided ((q : ℕ × N) × Are (Asks q.0 ∷ Others q.1) words)
decided_word Asks Others own others [] = inr (λ h. h.1)
decided_word Asks Others own others (word ∷ words) =
    decided_like (λ h. ((h.0.0, h.1.0), (h.0.1, h.1.1))) (λ h. ((h.0.0, h.1.0), (h.0.1, h.1.1))) (decided_both (own word) (others words))

-- a name, and others after it
decided_name : {N : Type 0} (name : List ℕ) (Others : N → List (List ℕ → Type 0)) → ((words : List (List ℕ)) → Decided ((m : N) × Are (Others m) words))
    → (words : List (List ℕ)) → Decided ((m : N) × Are (Is name ∷ Others m) words)
decided_name name Others others [] = inr (λ h. h.1)
decided_name name Others others (word ∷ words) =
    decided_like (λ h. (h.1.0, (h.0, h.1.1))) (λ h. (h.1.0, (h.0, h.1.1))) (decided_both (decided_lists cases_eq word name) (others words))

-- ---- the numbers of commands

abbrev One : Type 0
One = ℕ × Unit {0}

abbrev Two : Type 0
Two = ℕ × One

abbrev Three : Type 0
Three = ℕ × Two

abbrev Four : Type 0
Four = ℕ × Three

module _ (words : List (List ℕ)) where
  -- whether the words say a command of a kind, by its numbers
  abbrev Tells : {N : Type 0} → (N → Command) → Type 0
  Tells {N} of = Decided ((n : N) × AreCommand (of n) words)

tick : (words : List (List ℕ)) → Decided ((q : One) × Are (IsTickWord q.0 ∷ []) words)
tick = decided_word {N = Unit {0}} IsTickWord (λ _. []) (decided_number LATEST_TICK) decided_end

two_ticks : (words : List (List ℕ)) → Decided ((q : Two) × Are (IsTickWord q.0 ∷ IsTickWord q.1.0 ∷ []) words)
two_ticks = decided_word {N = One} IsTickWord (λ q. IsTickWord q.0 ∷ []) (decided_number LATEST_TICK) tick

key_tick : (words : List (List ℕ)) → Decided ((q : Two) × Are (IsKeyWord q.0 ∷ IsTickWord q.1.0 ∷ []) words)
key_tick = decided_word {N = One} IsKeyWord (λ q. IsTickWord q.0 ∷ []) (decided_number 127) tick

key_ticks : (words : List (List ℕ)) → Decided ((q : Three) × Are (IsKeyWord q.0 ∷ IsTickWord q.1.0 ∷ IsTickWord q.1.1.0 ∷ []) words)
key_ticks = decided_word {N = Two} IsKeyWord (λ q. IsTickWord q.0 ∷ IsTickWord q.1.0 ∷ []) (decided_number 127) two_ticks

note : (words : List (List ℕ)) → Decided ((q : Three) × Are (IsChannelWord q.0 ∷ IsKeyWord q.1.0 ∷ IsTickWord q.1.1.0 ∷ []) words)
note = decided_word {N = Two} IsChannelWord (λ q. IsKeyWord q.0 ∷ IsTickWord q.1.0 ∷ []) (decided_number 15) key_tick

note_tick : (words : List (List ℕ))
    → Decided ((q : Four) × Are (IsChannelWord q.0 ∷ IsKeyWord q.1.0 ∷ IsTickWord q.1.1.0 ∷ IsTickWord q.1.1.1.0 ∷ []) words)
note_tick = decided_word {N = Three} IsChannelWord (λ q. IsKeyWord q.0 ∷ IsTickWord q.1.0 ∷ IsTickWord q.1.1.0 ∷ []) (decided_number 15) key_ticks

bar_tick : (words : List (List ℕ)) → Decided ((q : Two) × Are (IsBarWord q.0 ∷ IsTickWord q.1.0 ∷ []) words)
bar_tick = decided_word {N = One} IsBarWord (λ q. IsTickWord q.0 ∷ []) (decided_number MOST_BARS) tick

bar_only : (words : List (List ℕ)) → Decided ((q : One) × Are (IsBarWord q.0 ∷ []) words)
bar_only = decided_word {N = Unit {0}} IsBarWord (λ _. []) (decided_number MOST_BARS) decided_end

cell : (words : List (List ℕ)) → Decided ((q : Two) × Are (IsChannelWord q.0 ∷ IsBarWord q.1.0 ∷ []) words)
cell = decided_word {N = One} IsChannelWord (λ q. IsBarWord q.0 ∷ []) (decided_number 15) bar_only

count_only : (words : List (List ℕ)) → Decided ((q : One) × Are (IsCountWord q.0 ∷ []) words)
count_only = decided_word {N = Unit {0}} IsCountWord (λ _. []) decided_count decided_end

bar_count : (words : List (List ℕ)) → Decided ((q : Two) × Are (IsBarWord q.0 ∷ IsCountWord q.1.0 ∷ []) words)
bar_count = decided_word {N = One} IsBarWord (λ q. IsCountWord q.0 ∷ []) (decided_number MOST_BARS) count_only

cell_count : (words : List (List ℕ)) → Decided ((q : Three) × Are (IsChannelWord q.0 ∷ IsBarWord q.1.0 ∷ IsCountWord q.1.1.0 ∷ []) words)
cell_count = decided_word {N = Two} IsChannelWord (λ q. IsBarWord q.0 ∷ IsCountWord q.1.0 ∷ []) (decided_number 15) bar_count

-- ---- each command

abbrev added : Four → Command
added q = Change (Add q.0 q.1.0 q.1.1.0 q.1.1.1.0)

abbrev dropped : Three → Command
dropped q = Change (Drop q.0 q.1.0 q.1.1.0)

abbrev moved : Four → Command
moved q = Change (Move q.0 q.1.0 q.1.1.0 q.1.1.1.0)

abbrev barline : Two → Command
barline q = Change (Barline q.0 q.1.0)

abbrev pinned : ℕ × (ℕ × Shape) → Command
pinned q = Change (Pin q.0 q.1.0 q.1.1)

abbrev unpinned : Two → Command
unpinned q = Change (Unpin q.0 q.1.0)

abbrev asked : Three → Command
asked q = Alternatives q.0 q.1.0 q.1.1.0

-- a command without numbers
abbrev alone : Command → Unit {0} → Command
alone command u = command

tells_pin : (words : List (List ℕ)) → Tells words pinned
tells_pin [] = inr (λ h. h.1)
tells_pin (name ∷ []) = inr (λ h. h.1)
tells_pin (name ∷ first ∷ []) = inr (λ h. h.1)
tells_pin (name ∷ first ∷ second ∷ rest) =
    decided_like (λ h. ((h.1.0.0, (h.1.1.0.0, h.1.1.1.0)), (h.0, h.1.0.1, h.1.1.0.1, h.1.1.1.1)))
    (λ h. (h.1.0, ((h.0.0, h.1.1), ((h.0.1.0, h.1.2), (h.0.1.1, h.1.3)))))
    (decided_both (decided_lists cases_eq name (codes "pin"))
    (decided_both (decided_number 15 first) (decided_both (decided_number MOST_BARS second) (decided_shape (join_with_byte 32 rest)))))

module _ (words : List (List ℕ)) where
  tells_add : Tells words added
  tells_add =
      decided_name {N = Four} (codes "add") (λ q. IsChannelWord q.0 ∷ IsKeyWord q.1.0 ∷ IsTickWord q.1.1.0 ∷ IsTickWord q.1.1.1.0 ∷ []) note_tick words

  tells_drop : Tells words dropped
  tells_drop = decided_name {N = Three} (codes "drop") (λ q. IsChannelWord q.0 ∷ IsKeyWord q.1.0 ∷ IsTickWord q.1.1.0 ∷ []) note words

  tells_move : Tells words moved
  tells_move =
      decided_name {N = Four} (codes "move") (λ q. IsChannelWord q.0 ∷ IsKeyWord q.1.0 ∷ IsTickWord q.1.1.0 ∷ IsTickWord q.1.1.1.0 ∷ []) note_tick words

  tells_barline : Tells words barline
  tells_barline = decided_name {N = Two} (codes "barline") (λ q. IsBarWord q.0 ∷ IsTickWord q.1.0 ∷ []) bar_tick words

  tells_unpin : Tells words unpinned
  tells_unpin = decided_name {N = Two} (codes "unpin") (λ q. IsChannelWord q.0 ∷ IsBarWord q.1.0 ∷ []) cell words

  tells_alt : Tells words asked
  tells_alt = decided_name {N = Three} (codes "alt") (λ q. IsChannelWord q.0 ∷ IsBarWord q.1.0 ∷ IsCountWord q.1.1.0 ∷ []) cell_count words

  tells_addbar : Tells words (alone (Change AddBar))
  tells_addbar = decided_name {N = Unit {0}} (codes "addbar") (λ _. []) decided_end words

  tells_dropbar : Tells words (alone (Change DropBar))
  tells_dropbar = decided_name {N = Unit {0}} (codes "dropbar") (λ _. []) decided_end words

  tells_score : Tells words (alone Score)
  tells_score = decided_name {N = Unit {0}} (codes "score") (λ _. []) decided_end words

  tells_quit : Tells words (alone Quit)
  tells_quit = decided_name {N = Unit {0}} (codes "quit") (λ _. []) decided_end words

  -- ---- a command, or none

  abbrev Denies : {N : Type 0} → (N → Command) → Type 0
  Denies {N} of = (n : N) → AreCommand (of n) words → ⊥

  abbrev Said : Type 0
  Said = (command : Command) × AreCommand command words

  -- a command of the kind, or what is known where there is none
  or_else : {N : Type 0} {Q : Type 0} (of : N → Command) → Tells words of → (Denies of → Said ⊎ Q) → Said ⊎ Q
  or_else of (inl told) next = inl (of told.0, told.1)
  or_else of (inr never) next = next (λ n are. never (n, are))

  said_by_none : Denies added → Denies dropped → Denies moved → Denies barline → Denies pinned → Denies unpinned → Denies asked
      → Denies (alone (Change AddBar)) → Denies (alone (Change DropBar)) → Denies (alone Score) → Denies (alone Quit)
      → (command : Command) → AreCommand command words → ⊥
  said_by_none add drop move bar pin unpin alt addbar dropbar score quit (Change (Add channel key onset until)) are = add (channel, (key, (onset, (until, tt)))) are
  said_by_none add drop move bar pin unpin alt addbar dropbar score quit (Change (Drop channel key onset)) are = drop (channel, (key, (onset, tt))) are
  said_by_none add drop move bar pin unpin alt addbar dropbar score quit (Change (Move channel key onset to)) are = move (channel, (key, (onset, (to, tt)))) are
  said_by_none add drop move bar pin unpin alt addbar dropbar score quit (Change (Barline number at)) are = bar (number, (at, tt)) are
  said_by_none add drop move bar pin unpin alt addbar dropbar score quit (Change (Pin channel number shape)) are = pin (channel, (number, shape)) are
  said_by_none add drop move bar pin unpin alt addbar dropbar score quit (Change (Unpin channel number)) are = unpin (channel, (number, tt)) are
  said_by_none add drop move bar pin unpin alt addbar dropbar score quit (Change AddBar) are = addbar tt are
  said_by_none add drop move bar pin unpin alt addbar dropbar score quit (Change DropBar) are = dropbar tt are
  said_by_none add drop move bar pin unpin alt addbar dropbar score quit Score are = score tt are
  said_by_none add drop move bar pin unpin alt addbar dropbar score quit (Alternatives channel number count) are = alt (channel, (number, (count, tt))) are
  said_by_none add drop move bar pin unpin alt addbar dropbar score quit Quit are = quit tt are

  words_say : Said ⊎ ((command : Command) → AreCommand command words → ⊥)
  words_say =
      or_else {N = Four} added tells_add (λ add.
      or_else {N = Three} dropped tells_drop (λ drop.
      or_else {N = Four} moved tells_move (λ move.
      or_else {N = Two} barline tells_barline (λ bar.
      or_else {N = ℕ × (ℕ × Shape)} pinned (tells_pin words) (λ pin.
      or_else {N = Two} unpinned tells_unpin (λ unpin.
      or_else {N = Three} asked tells_alt (λ alt.
      or_else {N = Unit {0}} (alone (Change AddBar)) tells_addbar (λ addbar.
      or_else {N = Unit {0}} (alone (Change DropBar)) tells_dropbar (λ dropbar.
      or_else {N = Unit {0}} (alone Score) tells_score (λ score.
      or_else {N = Unit {0}} (alone Quit) tells_quit (λ quit.
      inr (said_by_none add drop move bar pin unpin alt addbar dropbar score quit))))))))))))

-- a line says a command, or none
pub says_or_not : (line : List ℕ) → ((command : Command) × SaysCommand line command) ⊎ SaysNothing line
says_or_not line = words_say (script_words line)

pub quits_or_not : (line : List ℕ) → Decided (SaysCommand line Quit)
quits_or_not line = decided_like (λ told. told.1) (λ says. (tt, says)) (tells_quit (script_words line))
