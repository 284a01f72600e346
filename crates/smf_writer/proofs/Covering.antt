-- The notes of strokes are the kept ones of the notes that events are played as.
use Rattle.std.proofs.Common.{◌≡◌, ◌⊎◌, ℕ, ◌+◌, ◌<◌, ◌≤◌, ◌==◌, Bool, true, false, List, [], ◌∷◌, ◌++◌, bit_or, refl, sym, ap, ◌∙◌, subst, inl, inr, arith}
use Rattle.std.specs.Prelude.{Contains, fold, if◌then◌else◌}
use Rattle.std.specs.Int.{bit_at}
use Rattle.std.specs.List.{flat_map}
use Rattle.std.proofs.lemmas.Bool.Decides.{nat_tests}
use Rattle.rhythm_base.specs.declared.note.Note.{Note}
use Rattle.rhythm_base.specs.Notes.{IsKept}
use Rattle.smf_writer.specs.EventNotes.{AreKept, chord_notes, grace_notes}
use Rattle.score_words.specs.Keys.{rising_keys}
use Rattle.smf_writer.specs.Strokes.{grace_strokes, joined_keys, stroke_note, stroke_notes}
use Rattle.smf_writer.specs.declared.stroke.Stroke.{Stroke}
use Rattle.smf_writer.proofs.KeyBits.{among_keys, keys_among, no_bit, of_either, one_bit, or_left, or_right}
use Rattle.rhythm_base.proofs.Members.{Among, Pairwise, all_among, all_from_among, among_both, among_contained, among_flat, among_left, among_map, among_right, from_flat, from_map, pairs_from, place_among}
use Rattle.smf_writer.proofs.StrokeOrder.{IsEarlier}
use Rattle.rhythm_base.proofs.NotePlaces.{same_note, ArePlacedAlike}

-- each is one of those that are played, and each of those has one at its place with no earlier end
pub record Cover (played notes : List Note) : Type 0 where
  pub inside : (n : Note) → Among n notes → Among n played
  pub best : (n : Note) → Among n played → (g : Note) × Among g notes × ArePlacedAlike n g × (n.end ≤ g.end)

pub cover_nothing : Cover [] []
cover_nothing = record { inside = λ n a. a; best = λ n a. absurd a }

pub cover_both : (p q g h : List Note) → Cover p g → Cover q h → Cover (p ++ q) (g ++ h)
cover_both p q g h c d = record {
  inside = λ n a. elim (among_both g h n a) [
    | inl b ↦ among_left p q n (c.inside n b)
    | inr b ↦ among_right p q n (d.inside n b)
  ];
  best = λ n a. elim (among_both p q n a) [
    | inl b ↦ (let r = c.best n b in (r.0, among_left g h r.0 r.1, r.2, r.3))
    | inr b ↦ (let r = d.best n b in (r.0, among_right g h r.0 r.1, r.2, r.3))
  ];
}

-- ---- in order they are the kept notes

never_earlier : (m n : Note) → ArePlacedAlike m n → IsEarlier m n → ⊥
never_earlier m n same less = grind (arith, nat_tests)

-- notes in order with one place are one
pub one_at : (notes : List Note) (m n : Note) → Pairwise IsEarlier notes → Among m notes → Among n notes → ArePlacedAlike m n → m ≡ n
one_at [] m n order a b same = absurd a
one_at (x ∷ xs) m n order (inl e) (inl f) same = e ∙ sym f
one_at (x ∷ xs) m n order (inl e) (inr b) same = absurd (never_earlier m n same (subst (λ y. IsEarlier y n) (sym e) (order.0 n b)))
one_at (x ∷ xs) m n order (inr a) (inl f) same =
    absurd (never_earlier n m (record { channel = sym same.channel; onset = sym same.onset; key = sym same.key }) (subst (λ y. IsEarlier y m) (sym f) (order.0 m a)))
one_at (x ∷ xs) m n order (inr a) (inr b) same = one_at xs m n order.1 a b same

pub kept_notes : (played notes : List Note) → Pairwise IsEarlier notes → Cover played notes → AreKept played notes
kept_notes played notes order cover = record { in_order = pairs_from IsEarlier notes order; kept = λ n. (to n, from n) }
  where
    to : (n : Note) → Contains notes n → IsKept played n
    to n c =
        let a = among_contained notes n c in (
          place_among played n (cover.inside n a),
          all_from_among (λ m. m.channel ≡ n.channel → m.key ≡ n.key → m.onset ≡ n.onset → m.end ≤ n.end) played
              (λ m b channel key onset.
              let r = cover.best m b in
              let g : Note = r.0 in
              let alike = r.2 in
              let same : g ≡ n = one_at notes g n order r.1 a (record { channel = sym alike.channel ∙ channel; onset = sym alike.onset ∙ onset; key = sym alike.key ∙ key }) in
              omega (arith, r.3, ap (λ (x : Note). x.end) same)),
        )

    from : (n : Note) → IsKept played n → Contains notes n
    from n kept =
        let r = cover.best n (among_contained played n kept.0) in
        let g : Note = r.0 in
        let alike = r.2 in
        let most : g.end ≤ n.end =
        all_among (λ m. m.channel ≡ n.channel → m.key ≡ n.key → m.onset ≡ n.onset → m.end ≤ n.end) played kept.1 g (cover.inside g r.1) (sym alike.channel) (sym alike.key) (sym alike.onset) in
        place_among notes n (subst (λ m. Among m notes) (sym (same_note n g alike (omega (arith, r.3, most)))) r.1)

-- ---- one stroke

-- notes of no length, one for each key of a set
pub record ArePassing (channel onset passing : ℕ) (notes : List Note) : Type 0 where
  pub each : (n : Note) → Among n notes → (k : ℕ) × (k < 128) × (bit_at passing k ≡ 1) × (n ≡ record { channel = channel; key = k; onset = onset; end = onset })
  pub all : (k : ℕ) → k < 128 → bit_at passing k ≡ 1 → Among (record { channel = channel; key = k; onset = onset; end = onset }) notes

pub none_passing : (channel onset : ℕ) → ArePassing channel onset 0 []
none_passing channel onset = record { each = λ n a. absurd a; all = λ k within set. absurd (no_bit k set) }

module _ (channel : ℕ) (s : Stroke) (order : s.onset ≤ s.end) (first : List Note) (passing : ArePassing channel s.onset s.passing first) where
  abbrev sounding : ℕ → ℕ → Note
  sounding k end = record { channel = channel; key = k; onset = s.onset; end = end }

  abbrev ends_by : Bool → ℕ
  ends_by b = if b then s.end else s.onset

  held_note : (k : ℕ) → bit_at s.held k ≡ 1 → stroke_note channel s k ≡ sounding k s.end
  held_note k set = ap (λ (b : ℕ). sounding k (ends_by (b == 1))) set

  released_note : (k : ℕ) → (bit_at s.held k == 1) ≡ false → stroke_note channel s k ≡ sounding k s.onset
  released_note k clear = ap (λ b. sounding k (ends_by b)) clear

  struck : (k : ℕ) → k < 128 → (bit_at s.held k ≡ 1) ⊎ (bit_at s.passing k ≡ 1) → Among (stroke_note channel s k) (stroke_notes channel s)
  struck k within either = among_map (stroke_note channel s) (rising_keys (bit_or s.held s.passing)) k (keys_among (bit_or s.held s.passing) k within (by either))
    where
      by : (bit_at s.held k ≡ 1) ⊎ (bit_at s.passing k ≡ 1) → bit_at (bit_or s.held s.passing) k ≡ 1
      by (inl set) = or_left s.held s.passing k set
      by (inr set) = or_right s.held s.passing k set

  held_among : (k : ℕ) → k < 128 → bit_at s.held k ≡ 1 → Among (sounding k s.end) (chord_notes channel s.onset s.end s.held)
  held_among k within set = among_map (λ j. sounding j s.end) (rising_keys s.held) k (keys_among s.held k within set)

  late_end : (b : Bool) → s.onset ≤ ends_by b
  late_end true = order
  late_end false = omega arith

  pub stroke_cover : Cover (first ++ chord_notes channel s.onset s.end s.held) (stroke_notes channel s)
  stroke_cover = record { inside = inside; best = best }
    where
      chord : List Note
      chord = chord_notes channel s.onset s.end s.held

      of_key : (k : ℕ) → k < 128 → (b : Bool) → (bit_at s.held k == 1) ≡ b → (bit_at s.held k ≡ 1) ⊎ (bit_at s.passing k ≡ 1) → Among (stroke_note channel s k) (first ++ chord)
      of_key k within true is either = let set : bit_at s.held k ≡ 1 = one_bit (bit_at s.held k) is in
          subst (λ n. Among n (first ++ chord)) (sym (held_note k set)) (among_right first chord (sounding k s.end) (held_among k within set))
      of_key k within false is (inl set) = let yes : (bit_at s.held k == 1) ≡ true = ap (λ (b : ℕ). b == 1) set in absurd (cc)
      of_key k within false is (inr set) =
          subst (λ n. Among n (first ++ chord)) (sym (released_note k is)) (among_left first chord (sounding k s.onset) (passing.all k within set))

      inside : (n : Note) → Among n (stroke_notes channel s) → Among n (first ++ chord)
      inside n a =
          let r = from_map (stroke_note channel s) (rising_keys (bit_or s.held s.passing)) n a in
          let k : ℕ = r.0 in
          let low = among_keys (bit_or s.held s.passing) k r.1 in
          subst (λ m. Among m (first ++ chord)) (sym r.2) (of_key k low.0 (bit_at s.held k == 1) refl (of_either s.held s.passing k low.1))

      best : (n : Note) → Among n (first ++ chord) → (g : Note) × Among g (stroke_notes channel s) × ArePlacedAlike n g × (n.end ≤ g.end)
      best n a = elim (among_both first chord n a) [
        | inl b ↦ (let r = passing.each n b in
            let k : ℕ = r.0 in
            let e = r.3 in (
              stroke_note channel s k,
              struck k r.1 (inr r.2),
              record { channel = ap (λ (x : Note). x.channel) e; onset = ap (λ (x : Note). x.onset) e; key = ap (λ (x : Note). x.key) e },
              omega (arith, ap (λ (x : Note). x.end) e, late_end (bit_at s.held k == 1)),
            ))
        | inr b ↦ (let r = from_map (λ j. sounding j s.end) (rising_keys s.held) n b in
            let k : ℕ = r.0 in
            let e = r.2 in
            let low = among_keys s.held k r.1 in (
              stroke_note channel s k,
              struck k low.0 (inl low.1),
              record { channel = ap (λ (x : Note). x.channel) e; onset = ap (λ (x : Note). x.onset) e; key = ap (λ (x : Note). x.key) e },
              omega (arith, ap (λ (x : Note). x.end) e, ap (λ (x : Note). x.end) (held_note k low.1)),
            ))
      ]

-- ---- grace chords

-- each of a tick
pub graces_cover : (channel onset : ℕ) (graces : List ℕ) → Cover (grace_notes channel onset 1 graces) (flat_map (stroke_notes channel) (grace_strokes onset graces))
graces_cover channel onset [] = cover_nothing
graces_cover channel onset (keys ∷ graces) =
    cover_both (chord_notes channel onset (onset + 1) keys) (grace_notes channel (onset + 1) 1 graces) (stroke_notes channel (record { onset = onset; end = onset + 1; held = keys; passing = 0 }))
    (flat_map (stroke_notes channel) (grace_strokes (onset + 1) graces))
    (stroke_cover channel (record { onset = onset; end = onset + 1; held = keys; passing = 0 }) (omega arith) [] (none_passing channel onset)) (graces_cover channel (onset + 1) graces)

-- of no time
still : (channel onset : ℕ) (graces : List ℕ) → grace_notes channel onset 0 graces ≡ flat_map (chord_notes channel onset onset) graces
still channel onset [] = refl
still channel onset (keys ∷ graces) =
    let same : onset + 0 ≡ onset = omega arith in
    ap (λ (t : ℕ). chord_notes channel onset t keys ++ grace_notes channel t 0 graces) same ∙ ap (λ (ns : List Note). chord_notes channel onset onset keys ++ ns) (still channel onset graces)

has_first : (keys : ℕ) (graces : List ℕ) (k : ℕ) → bit_at keys k ≡ 1 → bit_at (fold bit_or keys graces) k ≡ 1
has_first keys [] k set = set
has_first keys (more ∷ graces) k set = has_first (bit_or keys more) graces k (or_left keys more k set)

has_grace : (keys : ℕ) (graces : List ℕ) (k more : ℕ) → Among more graces → bit_at more k ≡ 1 → bit_at (fold bit_or keys graces) k ≡ 1
has_grace keys [] k more a set = absurd a
has_grace keys (first ∷ graces) k more (inl is) set = has_first (bit_or keys first) graces k (or_right keys first k (subst (λ x. bit_at x k ≡ 1) is set))
has_grace keys (first ∷ graces) k more (inr a) set = has_grace (bit_or keys first) graces k more a set

of_some : (keys : ℕ) (graces : List ℕ) (k : ℕ) → bit_at (fold bit_or keys graces) k ≡ 1 → (bit_at keys k ≡ 1) ⊎ ((more : ℕ) × Among more graces × (bit_at more k ≡ 1))
of_some keys [] k set = inl set
of_some keys (first ∷ graces) k set = elim (of_some (bit_or keys first) graces k set) [
  | inl some ↦ (elim (of_either keys first k some) [
    | inl own ↦ inl own
    | inr here ↦ inr (first, inl refl, here)
  ])
  | inr later ↦ inr (later.0, inr later.1, later.2)
]

pub graces_passing : (channel onset : ℕ) (graces : List ℕ) → ArePassing channel onset (joined_keys graces) (grace_notes channel onset 0 graces)
graces_passing channel onset graces = subst (ArePassing channel onset (joined_keys graces)) (sym (still channel onset graces)) (record { each = each; all = all })
  where
    each : (n : Note) → Among n (flat_map (chord_notes channel onset onset) graces)
        → (k : ℕ) × (k < 128) × (bit_at (joined_keys graces) k ≡ 1) × (n ≡ record { channel = channel; key = k; onset = onset; end = onset })
    each n a =
        let r = from_flat (chord_notes channel onset onset) graces n a in
        let keys : ℕ = r.0 in
        let m = from_map (λ k. record { channel = channel; key = k; onset = onset; end = onset }) (rising_keys keys) n r.2 in
        let low = among_keys keys m.0 m.1 in
        (m.0, low.0, has_grace 0 graces m.0 keys r.1 low.1, m.2)

    all : (k : ℕ) → k < 128 → bit_at (joined_keys graces) k ≡ 1 → Among (record { channel = channel; key = k; onset = onset; end = onset }) (flat_map (chord_notes channel onset onset) graces)
    all k within set = elim (of_some 0 graces k set) [
      | inl none ↦ absurd (no_bit k none)
      | inr some ↦ among_flat (chord_notes channel onset onset) graces some.0 (record { channel = channel; key = k; onset = onset; end = onset }) some.1
          (among_map (λ j. record { channel = channel; key = j; onset = onset; end = onset }) (rising_keys some.0) k (keys_among some.0 k within some.2))
    ]
