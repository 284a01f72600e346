-- The track of a voice, key by key: its notes begin and end one after another.
use Rattle.std.proofs.Common.{◌≡◌, ℕ, ◌<◌, ◌≤◌, Bool, true, false, List, [], ◌∷◌, map, refl, sym, ap, ◌∙◌, subst, inl, inr, arith}
use Rattle.std.specs.Prelude.{filter, if◌then◌else◌, nat_lt}
use Rattle.std.specs.List.{flat_map}
use Rattle.std.specs.Cmp.Lexicographic.{nat_list_cmp_total}
use Rattle.std.proofs.lemmas.Bool.{cases_lt}
use Rattle.std.proofs.lemmas.Bool.Decides.{nat_tests}
use Rattle.rhythm_base.proofs.FirstLists.{one_earlier, one_order}
use Rattle.rhythm_base.specs.declared.event.Event.{Event}
use Rattle.rhythm_base.specs.declared.note.Note.{Note}
use Rattle.smf_bytes.specs.Track.{AreTimed}
use Rattle.smf_laws.specs.Written.{AreLater}
use Rattle.smf_reader.specs.Ranges.{IsSaid}
use Rattle.smf_writer.specs.NoteMessages.{Message, begins, ends, event_of, message_note, place_of_message}
use Rattle.rhythm_base.proofs.Members.{Among, Pairwise, among_contained, among_flat, from_flat, kept_by, out_of, pairs_filter, pairs_from, pairs_join, place_among}
use Rattle.smf_writer.proofs.MessageOrder.{IsBefore, by_late, by_off, by_tick, late_of, messages_timed}
use Rattle.smf_writer.proofs.StrokeOrder.{DoesNotOverlap, IsEarlier, IsWithin, message_within}
use Rattle.render_laws.proofs.PlayedNotes.{at_key, touching}
use Rattle.smf_laws.proofs.PlayedNotes.{played_note}

-- what is known of the track of a voice: its messages are those of the notes, in their order, and notes of one key do not overlap
pub record IsTrackOf (channel last : ℕ) (notes : List Note) (events : List Event) : Type 0 where
  pub messages : List Message
  pub order : Pairwise IsBefore messages
  pub from : (m : Message) → Among m messages → Among (message_note m) notes
  pub to : (m : Message) → Among (message_note m) notes → Among m messages
  pub are : events ≡ map event_of messages
  pub notes_order : Pairwise IsEarlier notes
  pub apart : Pairwise DoesNotOverlap notes
  pub each : (n : Note) → Among n notes → IsWithin channel last n

-- ---- messages of one note after another

abbrev pair : Note → List Message
pair n = begins n ∷ ends n ∷ []

pairs_played : (notes : List Note) → map event_of (flat_map pair notes) ≡ flat_map played_note notes
pairs_played [] = refl
pairs_played (n ∷ ns) = ap (λ (es : List Event). event_of (begins n) ∷ event_of (ends n) ∷ es) (pairs_played ns)

late_one : (n : Note) → n.end ≤ n.onset → late_of n ≡ 1
late_one n le = let t : nat_lt n.onset n.end ≡ false = grind (arith, nat_tests) in rw t refl

late_none : (n : Note) → n.onset < n.end → late_of n ≡ 0
late_none n less = let t : nat_lt n.onset n.end ≡ true = grind (arith, nat_tests) in rw t refl

begins_first : (n : Note) → n.onset ≤ n.end → IsBefore (begins n) (ends n)
begins_first n le = elim (cases_lt n.onset n.end) [
  | inl less ↦ by_tick n.onset 1 n.key 0 n.end (late_of n) n.key 1 less
  | inr more ↦ by_off n.onset 1 n.key 0 n.end (late_of n) n.key 1 (omega arith) (sym (late_one n more)) refl (omega arith)
]

-- a note of which another one of its key begins later
pub record IsPast (m n : Note) : Type 0 where
  pub begins_earlier : m.onset < n.onset
  pub ends_by : m.end ≤ n.onset
  pub order : n.onset ≤ n.end

ends_before_begins : (m n : Note) → IsPast m n → IsBefore (ends m) (begins n)
ends_before_begins m n past = elim (cases_lt m.end n.onset) [
  | inl less ↦ by_tick m.end (late_of m) m.key 1 n.onset 1 n.key 0 less
  | inr more ↦ (let same : m.end ≡ n.onset = omega (arith, past.ends_by, more) in
      let none = late_none m (omega (arith, past.begins_earlier, same)) in
      by_late m.end (late_of m) m.key 1 n.onset 1 n.key 0 same (omega (arith, none)))
]

ends_before_ends : (m n : Note) → IsPast m n → IsBefore (ends m) (ends n)
ends_before_ends m n past = elim (cases_lt m.end n.end) [
  | inl less ↦ by_tick m.end (late_of m) m.key 1 n.end (late_of n) n.key 1 less
  | inr more ↦ (let same : m.end ≡ n.end = omega (arith, past.ends_by, past.order, more) in
      let none = late_none m (omega (arith, past.begins_earlier, past.order, same)) in
      let one = late_one n (omega (arith, past.ends_by, same)) in
      by_late m.end (late_of m) m.key 1 n.end (late_of n) n.key 1 same (omega (arith, none, one)))
]

moved : (x y a b : Message) → x ≡ a → y ≡ b → IsBefore a b → IsBefore x y
moved x y a b e f less = subst (λ z. IsBefore z y) (sym e) (subst (IsBefore a) (sym f) less)

across : (m n : Note) (x y : Message) → IsPast m n → Among x (pair m) → Among y (pair n) → IsBefore x y
across m n x y past (inl a) (inl b) = moved x y (begins m) (begins n) a b (by_tick m.onset 1 m.key 0 n.onset 1 n.key 0 past.begins_earlier)
across m n x y past (inl a) (inr (inl b)) = moved x y (begins m) (ends n) a b (by_tick m.onset 1 m.key 0 n.end (late_of n) n.key 1 (omega (arith, past.begins_earlier, past.order)))
across m n x y past (inl a) (inr (inr b)) = absurd b
across m n x y past (inr (inl a)) (inl b) = moved x y (ends m) (begins n) a b (ends_before_begins m n past)
across m n x y past (inr (inl a)) (inr (inl b)) = moved x y (ends m) (ends n) a b (ends_before_ends m n past)
across m n x y past (inr (inl a)) (inr (inr b)) = absurd b
across m n x y past (inr (inr a)) b = absurd a

pairs_order : (notes : List Note) → ((n : Note) → Among n notes → n.onset ≤ n.end) → Pairwise IsPast notes → Pairwise IsBefore (flat_map pair notes)
pairs_order [] order past = tt
pairs_order (n ∷ ns) order past =
    pairs_join IsBefore (pair n) (flat_map pair ns) ((λ m a. one m a), ((λ m a. absurd a), tt)) (pairs_order ns (λ m a. order m (inr a)) past.1)
    (λ x y a b. let r = from_flat pair ns y b in across n r.0 x y (past.0 r.0 r.1) a r.2)
  where
    one : (m : Message) → Among m (ends n ∷ []) → IsBefore (begins n) m
    one m (inl e) = subst (IsBefore (begins n)) (sym e) (begins_first n (order n (inl refl)))
    one m (inr b) = absurd b

-- ---- the events of one key

later_onset : (m n : Note) → m.channel ≡ n.channel → m.key ≡ n.key → IsEarlier m n → m.onset < n.onset
later_onset m n same alike less = grind (arith, nat_tests)

module _ (channel last : ℕ) (notes : List Note) (events : List Event) (h : IsTrackOf channel last notes events) where
  module _ (c k : ℕ) where
    abbrev of_key : Message → Bool
    of_key m = at_key c k (message_note m)

    passing : (ms : List Message) → filter (touching c k) (map event_of ms) ≡ map event_of (filter of_key ms)
    passing [] = refl
    passing (begins n ∷ ms) = go (at_key c k n) (passing ms)
      where
        go : (b : Bool) → filter (touching c k) (map event_of ms) ≡ map event_of (filter of_key ms)
            → (if b then event_of (begins n) ∷ filter (touching c k) (map event_of ms) else filter (touching c k) (map event_of ms)) ≡ map event_of (if b then begins n ∷ filter of_key ms else filter of_key ms)
        go true rest = ap (λ (es : List Event). event_of (begins n) ∷ es) rest
        go false rest = rest
    passing (ends n ∷ ms) = go (at_key c k n) (passing ms)
      where
        go : (b : Bool) → filter (touching c k) (map event_of ms) ≡ map event_of (filter of_key ms)
            → (if b then event_of (ends n) ∷ filter (touching c k) (map event_of ms) else filter (touching c k) (map event_of ms)) ≡ map event_of (if b then ends n ∷ filter of_key ms else filter of_key ms)
        go true rest = ap (λ (es : List Event). event_of (ends n) ∷ es) rest
        go false rest = rest

    abbrev own : List Note
    own = filter (at_key c k) notes

    is_of_key : (n : Note) → at_key c k n ≡ true → (n.channel ≡ c) × (n.key ≡ k)
    is_of_key n is = (grind (arith, nat_tests, is), grind (arith, nat_tests, is))

    -- each ends before the next begins
    in_turn : (ns : List Note) → ((n : Note) → Among n ns → Among n notes) → Pairwise IsEarlier ns → Pairwise DoesNotOverlap ns → Pairwise IsPast (filter (at_key c k) ns)
    in_turn [] there order apart = tt
    in_turn (n ∷ ns) there order apart = go (at_key c k n) refl (in_turn ns (λ m a. there m (inr a)) order.1 apart.1)
      where
        past : at_key c k n ≡ true → (m : Note) → Among m (filter (at_key c k) ns) → IsPast n m
        past is m a =
            let r = out_of (at_key c k) ns m a in
            let first = is_of_key n is in
            let second = is_of_key m r.1 in
            record {
              begins_earlier = later_onset n m (first.0 ∙ sym second.0) (first.1 ∙ sym second.1) (order.0 m r.0);
              ends_by = apart.0 m r.0 (first.1 ∙ sym second.1);
              order = (h.each m (there m (inr r.0))).order;
            }

        go : (b : Bool) → at_key c k n ≡ b → Pairwise IsPast (filter (at_key c k) ns) → Pairwise IsPast (if b then n ∷ filter (at_key c k) ns else filter (at_key c k) ns)
        go true is rest = (past is, rest)
        go false is rest = rest

    pub own_past : Pairwise IsPast own
    own_past = in_turn notes (λ n a. a) h.notes_order h.apart

    own_order : Pairwise IsBefore (flat_map pair own)
    own_order = pairs_order own (λ n a. (h.each n (out_of (at_key c k) notes n a).0).order) own_past

    among_pair : (m : Message) → Among m (pair (message_note m))
    among_pair (begins n) = inl refl
    among_pair (ends n) = inr (inl refl)

    of_pair : (n : Note) (m : Message) → Among m (pair n) → message_note m ≡ n
    of_pair n m (inl e) = ap message_note e
    of_pair n m (inr (inl e)) = ap message_note e
    of_pair n m (inr (inr a)) = absurd a

    same_messages : filter of_key h.messages ≡ flat_map pair own
    same_messages =
        one_order IsBefore (λ m n. one_earlier nat_list_cmp_total (place_of_message m) (place_of_message n)) (filter of_key h.messages) (flat_map pair own)
        (pairs_from IsBefore (filter of_key h.messages) (pairs_filter IsBefore of_key h.messages h.order)) (pairs_from IsBefore (flat_map pair own) own_order)
        (λ m there.
        let r = out_of of_key h.messages m (among_contained (filter of_key h.messages) m there) in
        place_among (flat_map pair own) m (among_flat pair own (message_note m) m (kept_by (at_key c k) notes (message_note m) (h.from m r.0) r.1) (among_pair m)))
        (λ m there.
        let r = from_flat pair own m (among_contained (flat_map pair own) m there) in
        let n : Note = r.0 in
        let is : message_note m ≡ n = of_pair n m r.2 in
        let kept = out_of (at_key c k) notes n r.1 in
        place_among (filter of_key h.messages) m (kept_by of_key h.messages m (h.to m (subst (λ x. Among x notes) (sym is) kept.0)) (ap (at_key c k) is ∙ kept.1)))

    -- the events of a track that touch a key are those of its notes, one after another
    pub track_passing : filter (touching c k) events ≡ flat_map played_note (filter (at_key c k) notes)
    track_passing = ap (filter (touching c k)) h.are ∙ passing h.messages ∙ ap (map event_of) same_messages ∙ pairs_played own

  -- ---- the events can be read

  message_said : channel < 16 → (m : Message) → IsWithin channel last (message_note m) → IsSaid (event_of m).what
  message_said small (begins n) is = (omega (arith, small, is.channel_is), is.key)
  message_said small (ends n) is = (omega (arith, small, is.channel_is), is.key)

  messages_later : (low : ℕ) (ms : List Message) → channel < 16 → ((m : Message) → Among m ms → IsWithin channel last (message_note m)) → AreTimed low (map event_of ms) last
      → AreLater low (map event_of ms) last
  messages_later low [] small within timed = timed
  messages_later low (m ∷ ms) small within timed =
      (timed.0, message_said small m (within m (inl refl)), messages_later (event_of m).tick ms small (λ n a. within n (inr a)) timed.1)

  pub track_later : channel < 16 → AreLater 0 events last
  track_later small =
      subst (λ (es : List Event). AreLater 0 es last) (sym h.are)
      (messages_later 0 h.messages small (λ m a. h.each (message_note m) (h.from m a))
      (messages_timed 0 last h.messages (omega arith) (λ m a. omega arith) (λ m a. message_within channel last m (h.each (message_note m) (h.from m a))) h.order))
