-- The sounds of a derivation that fits are well sounded: the law for each leaf, and for the ties along the line.
use Rattle.std.proofs.Common.{◌≡◌, ℕ, suc, ◌-◌, ◌*◌, ◌≤◌, Bool, true, false, List, [], ◌∷◌, ◌++◌, length, take, refl, sym, ap, ap₂, ◌∙◌, subst, arith, append-nil}
use Rattle.std.specs.Prelude.{◌≢◌, All, filter, nat_lt, Option, Some, None, if◌then◌else◌}
use Rattle.std.proofs.lemmas.Bool.{false_from_ne_true, false≢true, true≢false}
use Rattle.std.proofs.lemmas.Bool.Decides.{nat_tests}
use Rattle.std.proofs.lemmas.List.{length-append, length-map, length-take}
use Rattle.std.proofs.lemmas.List.Elements.{All-cons, All-filter, All-map, All-nil, All-take, filter_agree}
use Rattle.rhythm_base.proofs.Booleans.{and_left, and_right}
use Rattle.rhythm_base.specs.declared.chord.Chord.{Chord}
use Rattle.rhythm_base.specs.declared.sound.SoundKind.{SoundKind}
use Rattle.rhythm_base.specs.declared.sound.SoundKind.TheVariants.{Begin, Short, Tie, Rest}
use Rattle.rhythm_base.specs.Bodies.{sound_kind}
use Rattle.rhythm_base.specs.DeadBars.{end_of_bars}
use Rattle.rhythm_base.specs.Leaves.{Leaf, looks, soundings, sounds, voice_leaves}
use Rattle.rhythm_base.specs.Line.{Rising, agree_from, agrees, agrees_with, ends_at, ends_before, placements, seat}
use Rattle.rhythm_base.specs.Lists.{last_of}
use Rattle.rhythm_base.specs.SoundKinds.{begins_chord, is_rest, is_short, is_tie}
use Rattle.tree_laws.proofs.Attachments.{onsets_attached}
use Rattle.tree_laws.proofs.Runs.{agrees-begins, agrees-few, agrees-one_short, agrees-rest, agrees-short, agrees-silent, agrees-tied}
use Rattle.tree_laws.proofs.Ticks.{le_from, le_tells}
use Rattle.derivation.proofs.AttachedChords.{agrees_by_chords, attached_before, attached_by, attached_by_is, last_holds, last_some, lt_next, sounds_of_chord}
use Rattle.derivation.proofs.Middles.{Touch, end_of, middle_of, voice_touch}
use Rattle.derivation.proofs.NumberedLeaves.{line_sounds, numbered, plain_leaves, plain_voice, voice_along}
use Rattle.derivation.proofs.SoundPlaces.{voice_stands}
use Rattle.derivation.specs.Laws.{DerivationsAreWellSounded}
use Rattle.derivation.specs.Sounds.{attached_to, derivation_sounds, graces_in, keys_in, keys_or_none, latest_chord, sound_of}
use Rattle.derivation.specs.WellSounded.{AreKeys, GoesOn, IsWellSounding, TiesGoOn}

-- ---- kinds of sounds

tie_of : (k : SoundKind) → is_rest k ≡ false → begins_chord k ≡ false → is_tie k ≡ true
tie_of Begin r b = absurd (true≢false b)
tie_of Short r b = absurd (true≢false b)
tie_of Tie r b = refl
tie_of Rest r b = absurd (true≢false r)

begin_of_kind : (k : SoundKind) → begins_chord k ≡ true → is_short k ≡ false → k ≡ Begin
begin_of_kind Begin b s = refl
begin_of_kind Short b s = absurd (true≢false s)
begin_of_kind Tie b s = absurd (false≢true b)
begin_of_kind Rest b s = absurd (false≢true b)

pub tie_begins_none : (k : SoundKind) → is_tie k ≡ true → begins_chord k ≡ false
tie_begins_none Begin t = absurd (false≢true t)
tie_begins_none Short t = absurd (false≢true t)
tie_begins_none Tie t = refl
tie_begins_none Rest t = absurd (false≢true t)

pub tie_no_rest : (k : SoundKind) → is_tie k ≡ true → is_rest k ≡ false
tie_no_rest Begin t = refl
tie_no_rest Short t = refl
tie_no_rest Tie t = refl
tie_no_rest Rest t = absurd (false≢true t)

-- a chord that sounds is one
sounding_some : (s : ℕ → Bool) (o : Option Chord) → sounds_of_chord s o ≡ true → (c : Chord) × (o ≡ Some c)
sounding_some s None h = absurd (false≢true h)
sounding_some s (Some c) h = (c, refl)

-- a chord that sounds at a middle sounds at an earlier one
sounds_earlier : (r : ℕ) (x y : Leaf) (o : Option Chord) → middle_of r x ≤ middle_of r y → sounds_of_chord (sounds r y) o ≡ true → sounds_of_chord (sounds r x) o ≡ true
sounds_earlier r x y None le h = h
sounds_earlier r x y (Some c) le h =
    let late = le_tells (middle_of r y) (2 * c.end * r) h in
    le_from (middle_of r x) (2 * c.end * r) (omega (arith, late, le))

keys_of : (o : Option Chord) (c : Chord) → o ≡ Some c → AreKeys c.keys → AreKeys (keys_or_none o)
keys_of o c is h = subst (λ o. AreKeys (keys_or_none o)) (sym is) h

no_items : {X : Type 0} (xs : List X) → length xs ≡ 0 → xs ≡ []
no_items [] h = refl
no_items (x ∷ xs) h = absurd (omega (arith, h))

-- ---- one leaf

module _ (r : ℕ) (xs : List Leaf) (cs : List Chord) (keys : All (λ c. AreKeys c.keys) cs) (low : ℕ) (rise : Rising low (soundings cs))
    (order : (t u : ℕ) → t ≤ u → seat (looks r) xs t ≤ seat (looks r) xs u) where
  -- the rule of leaf i agrees with the chords that are attached to it and with the latest chord
  abbrev Agreed : ℕ → Leaf → Type 0
  Agreed i x = agrees x.part.ending (length (attached_to r xs cs i)) (sounds_of_chord (sounds r x) (latest_chord r xs cs i)) ≡ true

  -- there is a latest chord in a leaf that is no rest
  latest_some : (i : ℕ) (x : Leaf) → Agreed i x → is_rest (sound_kind x.part.ending) ≡ false → (c : Chord) × (latest_chord r xs cs i ≡ Some c)
  latest_some i x h sounding = go (begins_chord (sound_kind x.part.ending)) refl
    where
      go : (b : Bool) → begins_chord (sound_kind x.part.ending) ≡ b → (c : Chord) × (latest_chord r xs cs i ≡ Some c)
      go true b =
          let one = agrees-begins x.part.ending _ _ b h in
          let all = ap length (attached_by_is r xs cs low rise order i) ∙ length-append (attached_before r xs cs low rise order i) (attached_to r xs cs i) in
          last_some (attached_by r xs cs low rise order i) (omega (arith, one, all))
      go false b = sounding_some (sounds r x) (latest_chord r xs cs i) (agrees-tied x.part.ending _ _ (tie_of (sound_kind x.part.ending) sounding b) h)

  -- the sound of the leaf, where its bar is n
  well_sounding : (n i : ℕ) (x : Leaf) → Agreed i x → IsWellSounding (sound_of r xs cs n i x)
  well_sounding n i x h = record {
    silent = λ rest. ap (λ b. if b then 0 else keys_or_none (latest_chord r xs cs i)) rest;
    sounding = sounding;
    few_graces = omega (arith, count, few);
    graces = All-map AreKeys (λ (c : Chord). c.keys) _ (All-take (λ (c : Chord). AreKeys c.keys) _ here (All-filter _ (λ (c : Chord). AreKeys c.keys) cs keys));
    graced = graced;
  }
    where
      k : SoundKind
      k = sound_kind x.part.ending

      here : List Chord
      here = attached_to r xs cs i

      few : length here ≤ 4
      few = agrees-few x.part.ending _ _ h

      count : length (graces_in r xs cs i) ≤ length here - 1
      count = rw (length-map (take (length here - 1) here) (λ (c : Chord). c.keys), length-take (length here - 1) here) (omega arith)

      sounding : is_rest k ≡ false → AreKeys (keys_in r xs cs i k)
      sounding heard =
          let c = latest_some i x h heard in
          let own = last_holds (λ (c : Chord). AreKeys c.keys) (attached_by r xs cs low rise order i) (All-filter _ (λ (c : Chord). AreKeys c.keys) cs keys) c.0 c.1 in
          subst (λ b. AreKeys (if b then 0 else keys_or_none (latest_chord r xs cs i))) (sym heard) (keys_of (latest_chord r xs cs i) c.0 c.1 own)

      graced : graces_in r xs cs i ≢ [] → k ≡ Begin
      graced some = begin_of_kind k (begins (begins_chord k) refl) (not_short (is_short k) refl)
        where
          -- two chords or more
          more : length here ≤ 1 → ⊥
          more le = some (no_items (graces_in r xs cs i) (omega (arith, count, le)))

          begins : (b : Bool) → begins_chord k ≡ b → b ≡ true
          begins true e = refl
          begins false e = let none = agrees-silent x.part.ending _ _ e h in absurd (more (omega (arith, none)))

          not_short : (b : Bool) → is_short k ≡ b → b ≡ false
          not_short true e = let one = agrees-one_short x.part.ending _ _ e h in absurd (more (omega (arith, one)))
          not_short false e = refl

  -- where no chord is attached to the next leaf, its latest chord is that of this leaf
  latest_stays : (i : ℕ) → length (attached_to r xs cs (suc i)) ≡ 0 → latest_chord r xs cs (suc i) ≡ latest_chord r xs cs i
  latest_stays i none =
      ap last_of (attached_by_is r xs cs low rise order (suc i) ∙ ap (λ l. attached_before r xs cs low rise order (suc i) ++ l) (no_items (attached_to r xs cs (suc i)) none)
      ∙ append-nil (attached_before r xs cs low rise order (suc i)) ∙ filter_agree _ _ (λ c. lt_next (seat (looks r) xs c.onset) i) cs)

  -- a tie goes on from the leaf before it
  tie_goes_on : (m n i : ℕ) (x y : Leaf) → Agreed i x → Agreed (suc i) y → middle_of r x ≤ middle_of r y → is_tie (sound_kind y.part.ending) ≡ true
      → GoesOn (Some (sound_of r xs cs m i x)) (sound_of r xs cs n (suc i) y)
  tie_goes_on m n i x y h next le tie =
      let none = agrees-silent y.part.ending _ _ (tie_begins_none (sound_kind y.part.ending) tie) next in
      let stays = latest_stays i none in
      let late = agrees-tied y.part.ending _ _ tie next in
      let early = sounds_earlier r x y (latest_chord r xs cs i) le (subst (λ o. sounds_of_chord (sounds r y) o ≡ true) stays late) in
      let no_rest = false_from_ne_true (is_rest (sound_kind x.part.ending)) (λ rest. false≢true (sym (agrees-rest x.part.ending _ _ rest h) ∙ early)) in
      let no_short = false_from_ne_true (is_short (sound_kind x.part.ending)) (λ short. false≢true (sym (agrees-short x.part.ending _ _ short h) ∙ early)) in
      let own : keys_in r xs cs i (sound_kind x.part.ending) ≡ keys_or_none (latest_chord r xs cs i) = ap (λ b. if b then 0 else keys_or_none (latest_chord r xs cs i)) no_rest in
      let other : keys_in r xs cs (suc i) (sound_kind y.part.ending) ≡ keys_or_none (latest_chord r xs cs (suc i)) =
      ap (λ b. if b then 0 else keys_or_none (latest_chord r xs cs (suc i))) (tie_no_rest (sound_kind y.part.ending) tie) in
      (no_rest, no_short, own ∙ sym (ap keys_or_none stays) ∙ sym other)

  -- the first leaf is no tie
  first_no_tie : (x : Leaf) → Agreed 0 x → is_tie (sound_kind x.part.ending) ≡ true → ⊥
  first_no_tie x h tie =
      let none = agrees-silent x.part.ending _ _ (tie_begins_none (sound_kind x.part.ending) tie) h in
      let late = agrees-tied x.part.ending _ _ tie h in
      let nothing : attached_before r xs cs low rise order 0 ≡ [] = lower cs in
      let all = attached_by_is r xs cs low rise order 0 ∙ ap₂ ◌++◌ nothing (no_items (attached_to r xs cs 0) none) in
      false≢true (sym (ap (λ l. sounds_of_chord (sounds r x) (last_of l)) all) ∙ late)
    where
      lower : (ds : List Chord) → filter (λ c. nat_lt (seat (looks r) xs c.onset) 0) ds ≡ []
      lower [] = refl
      lower (d ∷ ds) = let no : nat_lt (seat (looks r) xs d.onset) 0 ≡ false = grind (arith, nat_tests) in rw no (lower ds)

  -- ---- the line

  abbrev LeavesAgree : ℕ → List Leaf → Type 0
  LeavesAgree i ys = agree_from (looks r) [] (placements (looks r) xs [] (soundings cs)) i ys ≡ true

  agreed_first : (i : ℕ) (y : Leaf) (ys : List Leaf) → LeavesAgree i (y ∷ ys) → Agreed i y
  agreed_first i y ys h =
      sym (agrees_by_chords r xs cs low rise order i y.part.ending (sounds r y))
      ∙ and_left (agrees_with y.part.ending (sounds r y) (ends_at i (placements (looks r) xs [] (soundings cs))) (ends_before i (placements (looks r) xs [] (soundings cs)))) _ h

  agreed_rest : (i : ℕ) (y : Leaf) (ys : List Leaf) → LeavesAgree i (y ∷ ys) → LeavesAgree (suc i) ys
  agreed_rest i y ys h =
      and_right (agrees_with y.part.ending (sounds r y) (ends_at i (placements (looks r) xs [] (soundings cs))) (ends_before i (placements (looks r) xs [] (soundings cs)))) _ h

  all_well_sounding : (i : ℕ) (qs : List (ℕ × Leaf)) → LeavesAgree i (plain_leaves qs) → All IsWellSounding (line_sounds r xs cs i qs)
  all_well_sounding i [] h = All-nil IsWellSounding
  all_well_sounding i (q ∷ qs) h =
      All-cons IsWellSounding (sound_of r xs cs q.0 i q.1) (line_sounds r xs cs (suc i) qs) (well_sounding q.0 i q.1 (agreed_first i q.1 (plain_leaves qs) h))
      (all_well_sounding (suc i) qs (agreed_rest i q.1 (plain_leaves qs) h))

  ties_after : (m i : ℕ) (x : Leaf) (qs : List (ℕ × Leaf)) (z : ℕ) → Agreed i x → middle_of r x ≤ end_of r x → Touch r (end_of r x) (plain_leaves qs) z
      → LeavesAgree (suc i) (plain_leaves qs) → TiesGoOn (Some (sound_of r xs cs m i x)) (line_sounds r xs cs (suc i) qs)
  ties_after m i x [] z own within line h = tt
  ties_after m i x (q ∷ qs) z own within line h =
      let next = agreed_first (suc i) q.1 (plain_leaves qs) h in (
        tie_goes_on m q.0 i x q.1 own next (omega (arith, within, line.1)),
        ties_after q.0 (suc i) q.1 qs z next (omega (arith, line.2)) line.3 (agreed_rest (suc i) q.1 (plain_leaves qs) h),
      )

  ties_go_on : (qs : List (ℕ × Leaf)) (s z : ℕ) → Touch r s (plain_leaves qs) z → LeavesAgree 0 (plain_leaves qs) → TiesGoOn None (line_sounds r xs cs 0 qs)
  ties_go_on [] s z line h = tt
  ties_go_on (q ∷ qs) s z line h =
      let own = agreed_first 0 q.1 (plain_leaves qs) h in
      (first_no_tie q.1 own, ties_after q.0 0 q.1 qs z own (omega (arith, line.2)) line.3 (agreed_rest 0 q.1 (plain_leaves qs) h))

-- ---- the law

pub well_sounded : DerivationsAreWellSounded
well_sounded g bars cs ts voice keys fit =
    let r : ℕ = g.resolution in
    let xs : List Leaf = voice_leaves g bars ts in
    let qs : List (ℕ × Leaf) = numbered g 0 bars ts in
    let plain : plain_leaves qs ≡ xs = plain_voice g 0 bars ts in
    let same : derivation_sounds g bars cs ts ≡ line_sounds r xs cs 0 qs = voice_along g xs cs 0 0 bars ts in
    let order : (t u : ℕ) → t ≤ u → seat (looks r) xs t ≤ seat (looks r) xs u = λ t u le. onsets_attached.in_order g bars ts t u voice.some voice.near fit.trees le in
    let leaves : agree_from (looks r) [] (placements (looks r) xs [] (soundings cs)) 0 (plain_leaves qs) ≡ true =
    subst (λ l. agree_from (looks r) [] (placements (looks r) xs [] (soundings cs)) 0 l ≡ true) (sym plain) fit.leaves in
    let line : Touch r (2 * 0 * r) (plain_leaves qs) (2 * end_of_bars 0 bars * r) =
    subst (λ l. Touch r (2 * 0 * r) l (2 * end_of_bars 0 bars * r)) (sym plain) (voice_touch g bars ts 0 (end_of_bars 0 bars) voice.some voice.near fit.trees) in
    record {
      places = voice_stands g xs cs (length bars) 0 0 bars ts voice.some fit.trees (omega arith);
      each = subst (All IsWellSounding) (sym same) (all_well_sounding r xs cs keys 0 voice.rise order 0 qs leaves);
      ties = subst (TiesGoOn None) (sym same) (ties_go_on r xs cs keys 0 voice.rise order qs (2 * 0 * r) (2 * end_of_bars 0 bars * r) line leaves);
    }
