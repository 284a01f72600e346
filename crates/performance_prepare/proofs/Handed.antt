-- The notes of two hands are at different places, and well formed.
use Rattle.std.proofs.Common.{◌≡◌, ◌≢◌, ◌⊎◌, ℕ, ◌+◌, ◌-◌, ◌<◌, ◌≤◌, eqb, Bool, true, false, not, cond, inl, inr, List, [], ◌∷◌, ◌++◌, length, map, drop, get_or, refl, sym, ap, ◌∙◌, subst, arith, append_assoc, length-append, length-drop, Ok}
use Rattle.std.specs.Prelude.{IfOk, ◌==◌, ◌||◌, nat_lt}
use Rattle.std.specs.List.{IsDistinct, flat_map, slice_range}
use Rattle.std.specs.List.Sorted.{IsPermutation}
use Rattle.std.proofs.lemmas.Bool.Decides.{nat_tests}
use Rattle.std.proofs.lemmas.List.{append-nil, drop_more, length-take}
use Rattle.std.proofs.lemmas.List.Sorted.{All-permutation, IsPermutation-filter_both, length_permutation}
use Rattle.std.proofs.lemmas.Map.Keys.{IsDistinct-from_apart}
use Rattle.note_list.proofs.OneList.{placed_in_order}
use Rattle.note_list.specs.Kept.{same_place}
use Rattle.note_list.specs.Pairing.{IsPlayed}
use Rattle.rhythm_base.proofs.Members.{Among, Pairwise, among_both, among_left, among_right, out_of, pairs_filter, pairs_from, pairs_join, pairs_weaken}
use Rattle.rhythm_base.proofs.PairedLists.{each_append, each_length}
use Rattle.rhythm_base.specs.Lists.{AreInOrder, Each}
use Rattle.rhythm_base.specs.Performance.{place_of_note}
use Rattle.rhythm_base.specs.declared.event.Tempo.{Tempo}
use Rattle.rhythm_base.specs.declared.note.Note.{Note}
use Rattle.hand_borders.proofs.FirstLeast.{are_least}
use Rattle.hand_borders.specs.Borders.{AreBorders}
use Rattle.performance_load.specs.Take.{Take}
use Rattle.performance_load.specs.Taking.{IsTakeFormed}
use Rattle.performance_prepare.specs.Groups.{begins_near, costs, costs_after, groups}
use Rattle.performance_prepare.specs.Hands.{borders_of, handed_note, handed_notes, is_one_hand, left_notes, middle_of, notes_below, notes_of, other_notes, with_hands, with_left}
use Rattle.performance_prepare.specs.Laws.{unvoiced}
use Rattle.performance_prepare.specs.Parts.{parts, parts_from}
use Rattle.performance_prepare.specs.Ready.{IsReady}
use Rattle.performance_prepare.specs.Split.{free_channels, in_order, sounds}
use Rattle.performance_prepare.proofs.Answered.{if_ok}
use Rattle.performance_prepare.proofs.Parting.{free_below, order_permuted, same_order, silent}
use Rattle.performance_prepare.proofs.Strummed.{all_each, each_mapped}
use Rattle.performance_prepare.proofs.Strumming.{Before, channel_apart, notes_before, spot_apart}

-- ---- where groups or borders end

pub no_left : (gs : List (List Note)) → left_notes gs [] ≡ []
no_left [] = refl
no_left (g ∷ gs) = refl

pub no_handed : (left : ℕ) (gs : List (List Note)) → handed_notes left gs [] ≡ []
no_handed left [] = refl
no_handed left (g ∷ gs) = refl

no_items : {X : Type 0} (ys : List X) → length ys ≡ 0 → ys ≡ []
no_items [] e = refl
no_items (y ∷ ys) e = absurd (omega (arith, e))

pub drop_all : {X : Type 0} (xs : List X) (n : ℕ) → length xs ≤ n → drop n xs ≡ []
drop_all xs n past = no_items (drop n xs) (let long = length-drop n xs in omega (arith, long, past))

pub slice_few : {X : Type 0} (xs : List X) (start end : ℕ) → length (slice_range xs start end) ≤ end - start
slice_few xs start end = let long = length-take (end - start) (drop start xs) in omega (arith, long)

module _ (tempos : List Tempo) (division within : ℕ) where
  abbrev G : List Note → List (List Note)
  G notes = groups tempos division within notes

  pub count_more : (notes : List Note) (borders : List ℕ) (start end i b count more all : ℕ) → i < length borders → b ≡ get_or borders i 0
      → G (drop start notes) ≡ slice_range notes start end ∷ G (drop end notes)
      → more ≡ count + length (notes_below b (slice_range notes start end))
      → count + length (left_notes (G (drop start notes)) (drop i borders)) ≡ all
      → more + length (left_notes (G (drop end notes)) (drop (i + 1) borders)) ≡ all
  count_more notes borders start end i b count more all lt is first e h =
      let here : left_notes (G (drop start notes)) (drop i borders)
      ≡ notes_below b (slice_range notes start end) ++ left_notes (G (drop end notes)) (drop (i + 1) borders) =
      (λ j. left_notes (first j) (drop_more borders i 0 lt j))
      ∙ ap (λ k. notes_below k (slice_range notes start end) ++ left_notes (G (drop end notes)) (drop (i + 1) borders)) (sym is) in
      let long : length (left_notes (G (drop start notes)) (drop i borders))
      ≡ length (notes_below b (slice_range notes start end)) + length (left_notes (G (drop end notes)) (drop (i + 1) borders)) =
      ap length here ∙ length-append (notes_below b (slice_range notes start end))
      (left_notes (G (drop end notes)) (drop (i + 1) borders)) in
      omega (arith, long, e, h)

  pub count_early : (notes : List Note) (bs : List ℕ) (start count all : ℕ) → length notes ≤ start
      → count + length (left_notes (G (drop start notes)) bs) ≡ all → count ≡ all
  count_early notes bs start count all past h =
      let none : left_notes (G (drop start notes)) bs ≡ [] = ap (λ ns. left_notes (G ns) bs) (drop_all notes start past) in
      let zero_long : length (left_notes (G (drop start notes)) bs) ≡ 0 = ap length none in
      omega (arith, zero_long, h)

  pub count_end : (notes : List Note) (borders : List ℕ) (start i count all : ℕ) → length borders ≤ i
      → count + length (left_notes (G (drop start notes)) (drop i borders)) ≡ all → count ≡ all
  count_end notes borders start i count all past h =
      let none : left_notes (G (drop start notes)) (drop i borders) ≡ [] = ap (left_notes (G (drop start notes))) (drop_all borders i past)
      ∙ no_left (G (drop start notes)) in
      let zero_long : length (left_notes (G (drop start notes)) (drop i borders)) ≡ 0 = ap length none in
      omega (arith, zero_long, h)

  pub handed_end : (left : ℕ) (notes list all : List Note) (borders : List ℕ) (start i : ℕ) → length borders ≤ i
      → list ++ handed_notes left (G (drop start notes)) (drop i borders) ≡ all → list ≡ all
  handed_end left notes list all borders start i past h =
      sym (append-nil list)
      ∙ ap (λ ns. list ++ ns) (sym (ap (handed_notes left (G (drop start notes))) (drop_all borders i past)
      ∙ no_handed left (G (drop start notes)))) ∙ h

-- ---- the parts of a list are the list

module _ {X : Type 0} (joins : List X → X → X → Bool) where
  flat_from : (xs : List X) (part : List X) (last : X) → flat_map (λ p. p) (parts_from joins part last xs) ≡ part ++ xs
  flat_from [] part last = refl
  flat_from (x ∷ xs) part last = go (joins part last x) (flat_from xs (part ++ x ∷ []) x) (flat_from xs (x ∷ []) x)
    where
      go : (b : Bool) → flat_map (λ p. p) (parts_from joins (part ++ x ∷ []) x xs) ≡ (part ++ x ∷ []) ++ xs
          → flat_map (λ p. p) (parts_from joins (x ∷ []) x xs) ≡ x ∷ xs
          → flat_map (λ p. p) (cond b (parts_from joins (part ++ x ∷ []) x xs) (part ∷ parts_from joins (x ∷ []) x xs)) ≡ part ++ x ∷ xs
      go true on next = on ∙ append_assoc part (x ∷ []) xs
      go false on next = ap (λ ys. part ++ ys) next

  pub flat_parts : (xs : List X) → flat_map (λ p. p) (parts joins xs) ≡ xs
  flat_parts [] = refl
  flat_parts (x ∷ xs) = flat_from xs (x ∷ []) x

-- ---- a border for each group

pub each_group : (tempos : List Tempo) (division middle : ℕ) (before : List Note) (gs : List (List Note)) (bs : List ℕ)
    → AreBorders (costs_after tempos division middle before gs) bs → Each (λ (g : List Note) (b : ℕ). b < 129) gs bs
each_group tempos division middle before [] bs h = h
each_group tempos division middle before (g ∷ gs) [] h = absurd h
each_group tempos division middle before (g ∷ gs) (b ∷ bs) h = (h.0, each_group tempos division middle (before ++ g) gs bs h.1)

-- ---- a channel and the others

pub sides_permuted : (channel : ℕ) (notes : List Note) → IsPermutation notes (other_notes channel notes ++ notes_of channel notes)
sides_permuted channel notes =
    IsPermutation-filter_both (λ n. not (n.channel == channel)) (λ n. n.channel == channel) (λ n. twice (n.channel == channel)) notes
  where
    twice : (b : Bool) → b ≡ not (not b)
    twice true = refl
    twice false = refl

-- ---- a channel without a note

not_sounding : (notes : List Note) (c : ℕ) → sounds notes c ≡ false → (n : Note) → Among n notes → n.channel ≢ c
not_sounding [] c e n am same = absurd am
not_sounding (m ∷ notes) c e n (inl is) same = let at : m.channel ≡ c = sym (ap (λ (x : Note). x.channel) is) ∙ same in
    absurd (here (eqb m.channel c) refl at e)
  where
    here : (b : Bool) → eqb m.channel c ≡ b → m.channel ≡ c → (b || sounds notes c) ≡ false → ⊥
    here true is at h = cc
    here false is at h = grind (arith, nat_tests)
not_sounding (m ∷ notes) c e n (inr am) same = not_sounding notes c (later (eqb m.channel c) e) n am same
  where
    later : (b : Bool) → (b || sounds notes c) ≡ false → sounds notes c ≡ false
    later true h = absurd (cc)
    later false h = h

-- ---- the notes in the channels of their hands

test_is : (a b : ℕ) → eqb a b ≡ true → a ≡ b
test_is a b e = grind (arith, nat_tests)

test_not : (a b : ℕ) → not (eqb a b) ≡ true → a ≢ b
test_not a b e same = grind (arith, nat_tests)

module _ (c left : ℕ) where
  abbrev pub IsHanded : Note → Note → Type 0
  IsHanded n z = (z ≡ n) ⊎ ((n.channel ≡ c) × (z ≡ record n { channel = left }))

  one_handed : (border : ℕ) (n : Note) → n.channel ≡ c → IsHanded n (handed_note left border n)
  one_handed border n own = by (nat_lt n.key border)
    where
      by : (b : Bool) → IsHanded n (cond b (record n { channel = left }) n)
      by true = inr (own, refl)
      by false = inl refl

  each_handed : (gs : List (List Note)) (bs : List ℕ) → Each (λ (g : List Note) (b : ℕ). b < 129) gs bs
      → ((n : Note) → Among n (flat_map (λ g. g) gs) → n.channel ≡ c) → Each IsHanded (flat_map (λ g. g) gs) (handed_notes left gs bs)
  each_handed [] bs h own = refl
  each_handed (g ∷ gs) [] h own = absurd h
  each_handed (g ∷ gs) (b ∷ bs) h own =
      each_append IsHanded g (flat_map (λ p. p) gs) (map (handed_note left b) g) (handed_notes left gs bs)
      (each_mapped IsHanded (handed_note left b) g (λ n am. one_handed b n (own n (among_left g (flat_map (λ p. p) gs) n am))))
      (each_handed gs bs h.1 (λ n am. own n (among_right g (flat_map (λ p. p) gs) n am)))

  each_self : (ns : List Note) → Each IsHanded ns ns
  each_self [] = refl
  each_self (n ∷ ns) = (inl refl, each_self ns)

  pub partner : (ns zs : List Note) → Each IsHanded ns zs → (w : Note) → Among w zs → (m : Note) × Among m ns × IsHanded m w
  partner [] zs h w aw = absurd (subst (Among w) h aw)
  partner (n ∷ ns) [] h w aw = absurd h
  partner (n ∷ ns) (z ∷ zs) h w (inl e) = (n, inl refl, subst (IsHanded n) (sym e) h.0)
  partner (n ∷ ns) (z ∷ zs) h w (inr aw) = let p = partner ns zs h.1 w aw in (p.0, inr p.1, p.2)

  abbrev Apart : Note → Note → Type 0
  Apart m n = same_place m n ≡ false

  pair_apart : (n m z w : Note) → IsHanded n z → IsHanded m w → n.channel ≢ left → m.channel ≢ left → Apart n m → Apart z w
  pair_apart n m z w hn hm nl ml apart = by (same_place z w) refl
    where
      same : n.channel ≡ m.channel → n.onset ≡ m.onset → n.key ≡ m.key → ⊥
      same a b d = grind (arith, nat_tests)

      clash : z.channel ≡ w.channel → z.onset ≡ w.onset → z.key ≡ w.key → IsHanded n z → IsHanded m w → ⊥
      clash a b d (inl e) (inl f) = same (sym (ap (λ (x : Note). x.channel) e) ∙ a
          ∙ ap (λ (x : Note). x.channel) f) (sym (ap (λ (x : Note). x.onset) e) ∙ b
          ∙ ap (λ (x : Note). x.onset) f) (sym (ap (λ (x : Note). x.key) e) ∙ d ∙ ap (λ (x : Note). x.key) f)
      clash a b d (inl e) (inr f) = nl (sym (ap (λ (x : Note). x.channel) e) ∙ a ∙ ap (λ (x : Note). x.channel) f.1)
      clash a b d (inr e) (inl f) = ml (sym (ap (λ (x : Note). x.channel) f) ∙ sym a ∙ ap (λ (x : Note). x.channel) e.1)
      clash a b d (inr e) (inr f) = same (e.0 ∙ sym f.0) (sym (ap (λ (x : Note). x.onset) e.1) ∙ b
          ∙ ap (λ (x : Note). x.onset) f.1) (sym (ap (λ (x : Note). x.key) e.1) ∙ d ∙ ap (λ (x : Note). x.key) f.1)

      by : (t : Bool) → same_place z w ≡ t → t ≡ false
      by true e = absurd (clash (grind (arith, nat_tests)) (grind (arith, nat_tests)) (grind (arith, nat_tests)) hn hm)
      by false e = refl

  pairs_apart : (ns zs : List Note) → Each IsHanded ns zs → ((n : Note) → Among n ns → n.channel ≢ left) → Pairwise Apart ns
      → Pairwise Apart zs
  pairs_apart [] zs h others apart = subst (Pairwise Apart) (sym h) tt
  pairs_apart (n ∷ ns) [] h others apart = absurd h
  pairs_apart (n ∷ ns) (z ∷ zs) h others apart = (
    (λ w aw. let p = partner ns zs h.1 w aw in pair_apart n p.0 z w h.0 p.2 (others n (inl refl)) (others p.0 (inr p.1)) (apart.0 p.0 p.1)),
    pairs_apart ns zs h.1 (λ m am. others m (inr am)) apart.1,
  )

  handed_played : (latest : ℕ) → left < 16 → (n z : Note) → IsPlayed latest n → IsHanded n z → IsPlayed latest z
  handed_played latest low n z h (inl e) = subst (IsPlayed latest) (sym e) h
  handed_played latest low n z h (inr e) = subst (IsPlayed latest) (sym e.1) (record {
    channel = low;
    key = h.key;
    after = h.after;
    within = h.within;
  })

  pub handed_unvoiced : (ns zs : List Note) → Each IsHanded ns zs → map unvoiced zs ≡ map unvoiced ns
  handed_unvoiced [] zs h = ap (map unvoiced) h
  handed_unvoiced (n ∷ ns) [] h = absurd h
  handed_unvoiced (n ∷ ns) (z ∷ zs) h = λ i. one h.0 i ∷ handed_unvoiced ns zs h.1 i
    where
      one : IsHanded n z → unvoiced z ≡ unvoiced n
      one (inl e) = ap unvoiced e
      one (inr e) = ap unvoiced e.1

-- ---- the notes of a take

module _ (channel within left : ℕ) (t : Take) (formed : IsTakeFormed t) where
  abbrev pub Own : List Note
  Own = notes_of channel t.notes

  abbrev pub Others : List Note
  Others = other_notes channel t.notes

  abbrev Groups : List (List Note)
  Groups = groups t.tempos t.division within Own

  abbrev Borders : List ℕ
  Borders = borders_of t.tempos t.division within Own

  abbrev pub Hands : List Note
  Hands = Others ++ handed_notes left Groups Borders

  own : (n : Note) → Among n Own → n.channel ≡ channel
  own n am = test_is n.channel channel (out_of (λ m. m.channel == channel) t.notes n am).1

  other : (n : Note) → Among n Others → n.channel ≢ channel
  other n am = test_not n.channel channel (out_of (λ m. not (m.channel == channel)) t.notes n am).1

  flat : flat_map (λ g. g) Groups ≡ Own
  flat = flat_parts (λ g last n. begins_near t.tempos t.division within last n) Own

  pub hands_each : Each (IsHanded channel left) (Others ++ Own) Hands
  hands_each =
      let borders = each_group t.tempos t.division (middle_of Own) [] Groups Borders
      (are_least (costs t.tempos t.division (middle_of Own) Groups)).are in
      let each = each_handed channel left Groups Borders borders (λ n am. own n (subst (Among n) flat am)) in
      each_append (IsHanded channel left) Others Own Others (handed_notes left Groups Borders) (each_self channel left Others)
      (subst (λ ns. Each (IsHanded channel left) ns (handed_notes left Groups Borders)) flat each)

  pub both_permuted : IsPermutation t.notes (Others ++ Own)
  both_permuted = sides_permuted channel t.notes

  places : Pairwise (λ m n. same_place m n ≡ false) t.notes
  places = pairs_weaken Before (λ m n. same_place m n ≡ false) t.notes apart
      (notes_before 1000000000 t.notes formed.notes formed.notes_in_order)
    where
      apart : (m n : Note) → Before m n → same_place m n ≡ false
      apart m n (inl lt) = channel_apart [] 0 0 m n lt
      apart m n (inr h) = spot_apart [] 0 0 m n h.2

  both_apart : Pairwise (λ m n. same_place m n ≡ false) (Others ++ Own)
  both_apart =
      pairs_join (λ m n. same_place m n ≡ false) Others Own
      (pairs_filter (λ m n. same_place m n ≡ false) (λ m. not (m.channel == channel)) t.notes places)
      (pairs_filter (λ m n. same_place m n ≡ false) (λ m. m.channel == channel) t.notes places)
      (λ m n am an. differ m n (other m am) (own n an))
    where
      differ : (m n : Note) → m.channel ≢ channel → n.channel ≡ channel → same_place m n ≡ false
      differ m n h k = by (same_place m n) refl
        where
          by : (b : Bool) → same_place m n ≡ b → b ≡ false
          by true e = let c : m.channel ≡ n.channel = grind (arith, nat_tests) in absurd (h (c ∙ k))
          by false e = refl

  pub in_take : (n : Note) → Among n (Others ++ Own) → Among n t.notes
  in_take n am = by (among_both Others Own n am)
    where
      by : Among n Others ⊎ Among n Own → Among n t.notes
      by (inl a) = (out_of (λ m. not (m.channel == channel)) t.notes n a).0
      by (inr a) = (out_of (λ m. m.channel == channel) t.notes n a).0

  pub hands_distinct : sounds t.notes left ≡ false → IsDistinct same_place Hands
  hands_distinct free =
      IsDistinct-from_apart same_place Hands (pairs_from (λ m n. same_place m n ≡ false) Hands
      (pairs_apart channel left (Others ++ Own) Hands hands_each (λ n am. not_sounding t.notes left free n (in_take n am)) both_apart))

  pub hands_formed : sounds t.notes left ≡ false → left < 16 → IsTakeFormed (record t { notes = in_order Hands })
  hands_formed free low =
      let moved = order_permuted Hands in
      let long = length_permutation Hands (in_order Hands) moved in
      let many = each_length (IsHanded channel left) (Others ++ Own) Hands hands_each in
      let whole = length_permutation t.notes (Others ++ Own) both_permuted in
      record {
        division_low = formed.division_low;
        division_high = formed.division_high;
        some_note = omega (arith, formed.some_note, long, many, whole);
        few_notes = omega (arith, formed.few_notes, long, many, whole);
        notes = All-permutation (IsPlayed 1000000000) Hands (in_order Hands) moved
            (all_each (IsHanded channel left) (IsPlayed 1000000000) (IsPlayed 1000000000) (Others ++ Own) Hands
            (λ n z p h. handed_played channel left 1000000000 low n z p h) hands_each
            (All-permutation (IsPlayed 1000000000) t.notes (Others ++ Own) both_permuted formed.notes));
        notes_in_order = subst (AreInOrder place_of_note) (sym (same_order Hands)) (placed_in_order Hands (hands_distinct free));
        tempos = formed.tempos;
        tempos_in_order = formed.tempos_in_order;
        key_marks = formed.key_marks;
        key_marks_in_order = formed.key_marks_in_order;
        signatures_in_order = formed.signatures_in_order;
      }

-- the first free channel is one of sixteen, without a note
pub first_free : (t : Take) (left : ℕ) (rest : List ℕ) → free_channels t.notes ≡ left ∷ rest → (sounds t.notes left ≡ false) × (left < 16)
first_free t left rest e =
    let some : 0 < length (free_channels t.notes) = (let long = ap length e in omega (arith, long)) in
    let at : get_or (free_channels t.notes) 0 0 ≡ left = ap (λ cs. get_or cs 0 0) e in
    (subst (λ c. sounds t.notes c ≡ false) at (silent 0 t.notes 0 some), subst (λ c. c < 16) at (free_below 0 t.notes 0 0 some))

-- what hands come to
module _ (channel within : ℕ) (t : Take) where
  abbrev pub Gs : List (List Note)
  Gs = groups t.tempos t.division within (notes_of channel t.notes)

  abbrev pub Bs : List ℕ
  Bs = borders_of t.tempos t.division within (notes_of channel t.notes)

  abbrev pub Parted : ℕ → Take
  Parted left = record t { notes = in_order (other_notes channel t.notes ++ handed_notes left Gs Bs) }

  abbrev pub IsParted : Take → Type 0
  IsParted u = (t ≡ u) ⊎ ((left : ℕ) × (rest : List ℕ) × (free_channels t.notes ≡ left ∷ rest) × (Parted left ≡ u))

  parted_free : (u : Take) (fs : List ℕ) → free_channels t.notes ≡ fs → with_left fs channel Gs Bs t ≡ Ok u → IsParted u
  parted_free u [] e is = absurd (cc)
  parted_free u (left ∷ rest) e is = let same : Parted left ≡ u = cc (is) in inr (left, rest, e, same)

  pub hands_ok : (u : Take) → with_hands channel within t ≡ Ok u → IsParted u
  hands_ok u is = go (is_one_hand (notes_of channel t.notes) (left_notes Gs Bs)) is
    where
      go : (b : Bool) → cond b (Ok t) (with_left (free_channels t.notes) channel Gs Bs t) ≡ Ok u → IsParted u
      go true is = let same : t ≡ u = cc (is) in inl same
      go false is = parted_free u (free_channels t.notes) refl is

hands_ready : (latest channel within : ℕ) (t u : Take) → with_hands channel within t ≡ Ok u → IsReady latest t
    → IsReady latest u
hands_ready latest channel within t u is ready = elim (hands_ok channel within t u is) [
  | inl same ↦ subst (IsReady latest) same ready
  | inr h ↦ (
      let f = first_free t h.0 h.1 h.2 in
      subst (IsReady latest) h.3 (record {
        formed = hands_formed channel within h.0 t ready.formed f.0 f.1;
        marks = record { tempos = ready.marks.tempos; key_marks = ready.marks.key_marks; signatures = ready.marks.signatures };
      })
      )
]

pub hands_kept : (latest channel within : ℕ) (t : Take) → IsReady latest t
    → IfOk (with_hands channel within t) (IsReady latest)
hands_kept latest channel within t ready =
    if_ok (IsReady latest) (with_hands channel within t) (λ u is. hands_ready latest channel within t u is ready)

pub distinct_hands : (channel within : ℕ) (t : Take) → IsTakeFormed t
    → (free : List ℕ) (own others hands : List Note) (borders : List ℕ) (left : ℕ) → 0 < length free → free ≡ free_channels t.notes
    → left ≡ get_or free 0 0
    → own ≡ notes_of channel t.notes → others ≡ other_notes channel t.notes → borders ≡ borders_of t.tempos t.division within own
    → hands ≡ others ++ handed_notes left (groups t.tempos t.division within own) borders
    → IsDistinct same_place hands
distinct_hands channel within t formed free own others hands borders left some is first e f g h =
    let quiet : sounds t.notes left ≡ false =
    subst (λ c. sounds t.notes c ≡ false) (sym (first ∙ ap (λ cs. get_or cs 0 0) is))
    (silent 0 t.notes 0 (subst (λ cs. 0 < length cs) is some)) in
    let whole : hands ≡ other_notes channel t.notes ++ handed_notes left (groups t.tempos t.division within (notes_of channel t.notes))
    (borders_of t.tempos t.division within (notes_of channel t.notes)) =
    h ∙ (λ i. f i ++ handed_notes left (groups t.tempos t.division within (e i)) (g i))
    ∙ (λ i. other_notes channel t.notes ++ handed_notes left (groups t.tempos t.division within (notes_of channel t.notes))
    (borders_of t.tempos t.division within (e i))) in
    subst (IsDistinct same_place) (sym whole) (hands_distinct channel within left t formed quiet)

pub has_some : (n : ℕ) → false ≡ eqb n 0 → 0 < n
has_some n e = grind (arith, nat_tests)
