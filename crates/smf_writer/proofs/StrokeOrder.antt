-- Strokes that follow one another: their messages and their notes are in order.
use Rattle.std.proofs.Common.{◌≡◌, ◌⊎◌, ℕ, ◌<◌, ◌≤◌, ◌==◌, Bool, true, false, List, [], ◌∷◌, bit_or, refl, sym, ap, ◌∙◌, subst, inl, inr, arith}
use Rattle.std.specs.Prelude.{if◌then◌else◌}
use Rattle.std.specs.Int.{bit_at}
use Rattle.std.specs.List.{flat_map}
use Rattle.std.specs.Ordering.{nat_cmp}
use Rattle.std.specs.Cmp.Lexicographic.{slice_cmp}
use Rattle.std.specs.declared.cmp.Ordering.TheVariants.{Less}
use Rattle.std.proofs.lemmas.Bool.Decides.{nat_tests}
use Rattle.rhythm_base.specs.declared.note.Note.{Note}
use Rattle.rhythm_base.specs.Performance.{place_of_note}
use Rattle.score_words.specs.Keys.{rising_keys}
use Rattle.smf_writer.specs.NoteMessages.{Message, begins, ends, event_of, message_note}
use Rattle.smf_writer.specs.Strokes.{stroke_messages, stroke_note, stroke_notes}
use Rattle.smf_writer.specs.declared.stroke.Stroke.{Stroke}
use Rattle.smf_writer.proofs.KeyBits.{among_keys, keys_rise}
use Rattle.rhythm_base.proofs.Members.{Among, Pairwise, among_flat, from_flat, from_map, pairs_join, pairs_map, pairs_weaken}
use Rattle.smf_writer.proofs.MessageOrder.{AreStruck, IsBefore, IsFrom, all_messages, from_earlier, of_notes, parted, struck_from, struck_up_to, together_order}

-- each begins at a tick or later and ends by a later one, up to which none of the others begins; all end by a last tick
abbrev pub Succeed : ℕ → List Stroke → ℕ → Type 0
Succeed low [] last = low ≤ last
Succeed low (s ∷ strokes) last = (next : ℕ) × (low ≤ s.onset) × (s.onset ≤ s.end) × (s.end ≤ next) × (s.onset < next) × Succeed next strokes last

pub strokes_within : (low last : ℕ) (strokes : List Stroke) → Succeed low strokes last → low ≤ last
strokes_within low last [] h = h
strokes_within low last (s ∷ strokes) (next, le, order, end, less, later) = omega (arith, le, order, end, strokes_within next last strokes later)

abbrev pub IsEarlier : Note → Note → Type 0
IsEarlier m n = slice_cmp nat_cmp (place_of_note m) (place_of_note n) ≡ Less

-- of two notes of one key the later begins where the earlier ends or after that
abbrev pub DoesNotOverlap : Note → Note → Type 0
DoesNotOverlap m n = m.key ≡ n.key → m.end ≤ n.onset

module _ (channel : ℕ) where
  -- ---- one stroke

  pub record IsOfStroke (s : Stroke) (n : Note) : Type 0 where
    pub channel_is : n.channel ≡ channel
    pub onset : n.onset ≡ s.onset
    pub end : (n.end ≡ s.onset) ⊎ (n.end ≡ s.end)
    pub key : n.key < 128

  pub of_stroke : (s : Stroke) (n : Note) → Among n (stroke_notes channel s) → IsOfStroke s n
  of_stroke s n h =
      let r = from_map (stroke_note channel s) (rising_keys (bit_or s.held s.passing)) n h in
      let k : ℕ = r.0 in
      let low = among_keys (bit_or s.held s.passing) k r.1 in
      record {
        channel_is = ap (λ (x : Note). x.channel) r.2;
        onset = ap (λ (x : Note). x.onset) r.2;
        end = by (bit_at s.held k == 1) n.end (ap (λ (x : Note). x.end) r.2);
        key = subst (λ j. j < 128) (sym (ap (λ (x : Note). x.key) r.2)) low.0;
      }
    where
      by : (b : Bool) (e : ℕ) → e ≡ (if b then s.end else s.onset) → (e ≡ s.onset) ⊎ (e ≡ s.end)
      by true e is = inr is
      by false e is = inl is

  keys_in_order : (s : Stroke) → Pairwise (λ (m : Note) n. m.key < n.key) (stroke_notes channel s)
  keys_in_order s =
      pairs_map (λ (j : ℕ) k. j < k) (λ (m : Note) n. m.key < n.key) (stroke_note channel s) (rising_keys (bit_or s.held s.passing)) (λ j k less. less)
      (keys_rise (bit_or s.held s.passing))

  note_order : (s : Stroke) (n : Note) → s.onset ≤ s.end → IsOfStroke s n → n.onset ≤ n.end
  note_order s n order is = by is.end
    where
      by : (n.end ≡ s.onset) ⊎ (n.end ≡ s.end) → n.onset ≤ n.end
      by (inl e) = omega (arith, is.onset, e)
      by (inr e) = omega (arith, is.onset, e, order)

  stroke_struck : (s : Stroke) → s.onset ≤ s.end → AreStruck s.onset s.end (stroke_notes channel s)
  stroke_struck s order = record {
    begin = λ n a. (of_stroke s n a).onset;
    order = λ n a. note_order s n order (of_stroke s n a);
    ending = λ n a less. ending n (of_stroke s n a) (of_stroke s n a).end less;
    rise = keys_in_order s;
  }
    where
      ending : (n : Note) → IsOfStroke s n → (n.end ≡ s.onset) ⊎ (n.end ≡ s.end) → n.onset < n.end → n.end ≡ s.end
      ending n is (inl e) less = absurd (omega (arith, is.onset, e, less))
      ending n is (inr e) less = e

  -- ---- messages

  abbrev pub all_of : List Stroke → List Message
  all_of strokes = flat_map (stroke_messages channel) strokes

  strokes_from : (low last : ℕ) (strokes : List Stroke) (m : Message) → Succeed low strokes last → Among m (all_of strokes) → IsFrom low m
  strokes_from low last strokes m h a = go low strokes h (from_flat (stroke_messages channel) strokes m a)
    where
      go : (low : ℕ) (strokes : List Stroke) → Succeed low strokes last → (s : Stroke) × Among s strokes × Among m (stroke_messages channel s) → IsFrom low m
      go low [] h (s, there, b) = absurd there
      go low (x ∷ strokes) (next, le, order, end, less, later) (s, inl is, b) =
          let c : Among m (stroke_messages channel x) = subst (λ y. Among m (stroke_messages channel y)) is b in
          struck_from x.onset x.end low (stroke_notes channel x) m (stroke_struck x order) le c
      go low (x ∷ strokes) (next, le, order, end, less, later) (s, inr there, b) = from_earlier low next m (omega (arith, le, less)) (go next strokes later (s, there, b))

  pub messages_order : (low last : ℕ) (strokes : List Stroke) → Succeed low strokes last → Pairwise IsBefore (all_of strokes)
  messages_order low last [] h = tt
  messages_order low last (s ∷ strokes) (next, le, order, end, less, later) =
      let struck = stroke_struck s order in
      let notes : List Note = stroke_notes channel s in
      pairs_join IsBefore (stroke_messages channel s) (all_of strokes) (together_order s.onset s.end notes struck) (messages_order next last strokes later)
      (λ m n a b. parted next m n (struck_up_to s.onset s.end next notes m struck less end a) (strokes_from next last strokes n later b))

  abbrev pub notes_of : List Stroke → List Note
  notes_of strokes = flat_map (stroke_notes channel) strokes

  -- each of the strokes is in its order
  among_ordered : (low last : ℕ) (strokes : List Stroke) (s : Stroke) → Succeed low strokes last → Among s strokes → (low ≤ s.onset) × (s.onset ≤ s.end) × (s.end ≤ last)
  among_ordered low last [] s h a = absurd a
  among_ordered low last (x ∷ strokes) s (next, le, order, end, less, later) (inl is) =
      subst (λ (y : Stroke). (low ≤ y.onset) × (y.onset ≤ y.end) × (y.end ≤ last)) (sym is) (le, order, omega (arith, end, strokes_within next last strokes later))
  among_ordered low last (x ∷ strokes) s (next, le, order, end, less, later) (inr a) =
      let r = among_ordered next last strokes s later a in
      (omega (arith, le, less, r.0), r.1, r.2)

  pub messages_of_notes : (low last : ℕ) (strokes : List Stroke) (m : Message) → Succeed low strokes last → Among m (all_of strokes) → Among (message_note m) (notes_of strokes)
  messages_of_notes low last strokes m h a =
      let r = from_flat (stroke_messages channel) strokes m a in
      let s : Stroke = r.0 in
      let ordered = among_ordered low last strokes s h r.1 in
      among_flat (stroke_notes channel) strokes s (message_note m) r.1 (of_notes (stroke_notes channel s) m (λ n b. note_order s n ordered.1 (of_stroke s n b)) r.2)

  pub notes_have_messages : (strokes : List Stroke) (m : Message) → Among (message_note m) (notes_of strokes) → Among m (all_of strokes)
  notes_have_messages strokes m a =
      let r = from_flat (stroke_notes channel) strokes (message_note m) a in
      among_flat (stroke_messages channel) strokes r.0 m r.1 (all_messages (stroke_notes channel r.0) m r.2)

  -- ---- notes

  by_onset : (c o k d p j : ℕ) → c ≡ d → o < p → slice_cmp nat_cmp (c ∷ o ∷ k ∷ []) (d ∷ p ∷ j ∷ []) ≡ Less
  by_onset c o k d p j same less = grind (arith, nat_tests)

  by_note_key : (c o k d p j : ℕ) → c ≡ d → o ≡ p → k < j → slice_cmp nat_cmp (c ∷ o ∷ k ∷ []) (d ∷ p ∷ j ∷ []) ≡ Less
  by_note_key c o k d p j same alike less = grind (arith, nat_tests)

  stroke_order : (s : Stroke) → Pairwise IsEarlier (stroke_notes channel s)
  stroke_order s =
      pairs_map (λ (j : ℕ) k. j < k) IsEarlier (stroke_note channel s) (rising_keys (bit_or s.held s.passing)) (λ j k less. by_note_key channel s.onset j channel s.onset k refl refl less)
      (keys_rise (bit_or s.held s.passing))

  pub notes_order : (low last : ℕ) (strokes : List Stroke) → Succeed low strokes last → Pairwise IsEarlier (notes_of strokes)
  notes_order low last [] h = tt
  notes_order low last (s ∷ strokes) (next, le, order, end, less, later) =
      pairs_join IsEarlier (stroke_notes channel s) (notes_of strokes) (stroke_order s) (notes_order next last strokes later)
      (λ m n a b.
      let r = from_flat (stroke_notes channel) strokes n b in
      let t : Stroke = r.0 in
      let first = of_stroke s m a in
      let second = of_stroke t n r.2 in
      let ordered = among_ordered next last strokes t later r.1 in
      by_onset m.channel m.onset m.key n.channel n.onset n.key (first.channel_is ∙ sym second.channel_is) (omega (arith, first.onset, second.onset, ordered.0, less)))

  -- they are within the last tick
  pub record IsWithin (last : ℕ) (n : Note) : Type 0 where
    pub channel_is : n.channel ≡ channel
    pub key : n.key < 128
    pub order : n.onset ≤ n.end
    pub onset : n.onset ≤ last
    pub end : n.end ≤ last

  -- so are the messages of a note
  pub message_within : (last : ℕ) (m : Message) → IsWithin last (message_note m) → (event_of m).tick ≤ last
  message_within last (begins n) is = is.onset
  message_within last (ends n) is = is.end

  pub notes_within : (low last : ℕ) (strokes : List Stroke) (n : Note) → Succeed low strokes last → Among n (notes_of strokes) → IsWithin last n
  notes_within low last strokes n h a =
      let r = from_flat (stroke_notes channel) strokes n a in
      let s : Stroke = r.0 in
      let is = of_stroke s n r.2 in
      let ordered = among_ordered low last strokes s h r.1 in
      record {
        channel_is = is.channel_is;
        key = is.key;
        order = note_order s n ordered.1 is;
        onset = omega (arith, is.onset, ordered.1, ordered.2);
        end = by s n.end is.end ordered.1 ordered.2;
      }
    where
      by : (s : Stroke) (e : ℕ) → (e ≡ s.onset) ⊎ (e ≡ s.end) → s.onset ≤ s.end → s.end ≤ last → e ≤ last
      by s e (inl is) order end = omega (arith, is, order, end)
      by s e (inr is) order end = omega (arith, is, end)

  pub notes_apart : (low last : ℕ) (strokes : List Stroke) → Succeed low strokes last → Pairwise DoesNotOverlap (notes_of strokes)
  notes_apart low last [] h = tt
  notes_apart low last (s ∷ strokes) (next, le, order, end, less, later) =
      pairs_join DoesNotOverlap (stroke_notes channel s) (notes_of strokes)
      (pairs_weaken (λ (m : Note) n. m.key < n.key) DoesNotOverlap (stroke_notes channel s) (λ m n rise same. absurd (omega (arith, rise, same))) (keys_in_order s))
      (notes_apart next last strokes later)
      (λ m n a b.
      let r = from_flat (stroke_notes channel) strokes n b in
      let t : Stroke = r.0 in
      let first = of_stroke s m a in
      let second = of_stroke t n r.2 in
      let ordered = among_ordered next last strokes t later r.1 in
      λ same. up_to m.end first.end n.onset (omega (arith, second.onset, ordered.0, less, order)) (omega (arith, second.onset, ordered.0, end)))
    where
      up_to : (e : ℕ) → (e ≡ s.onset) ⊎ (e ≡ s.end) → (o : ℕ) → s.onset ≤ o → s.end ≤ o → e ≤ o
      up_to e (inl is) o first second = omega (arith, is, first)
      up_to e (inr is) o first second = omega (arith, is, second)
