-- What sounds in a voice does not depend on its pins.
use Rattle.std.proofs.Common.{◌≡◌, ℕ, suc, ◌+◌, ◌-◌, ◌==◌, true, ◌&&◌, List, [], ◌∷◌, ◌++◌, length, map, refl, sym, ap, ap₂, ◌∙◌, subst}
use Rattle.std.specs.Prelude.{None, if◌then◌else◌, nat_le, nat_lt, filter}
use Rattle.std.specs.List.{list_all}
use Rattle.std.proofs.lemmas.List.{length-map, map-append}
use Rattle.rhythm_base.proofs.Booleans.{and_left, and_right}
use Rattle.rhythm_base.specs.declared.chord.Chord.{Chord}
use Rattle.rhythm_base.specs.declared.inner.Inner.{Inner}
use Rattle.rhythm_base.specs.declared.note.Bar.{Bar}
use Rattle.rhythm_base.specs.declared.pin.Pin.{Pin}
use Rattle.rhythm_base.specs.declared.sound.Sound.{Sound}
use Rattle.rhythm_base.specs.Bodies.{sound_kind}
use Rattle.rhythm_base.specs.Barlines.{barline}
use Rattle.rhythm_base.specs.DeadBars.{end_of_bars}
use Rattle.rhythm_base.specs.Forest.{Tree, more, none}
use Rattle.rhythm_base.specs.Grammar.{Grammar}
use Rattle.rhythm_base.specs.Leaves.{FitsVoice, Leaf, VoiceBar, are_bars, goes_left, lies_in, looks, soundings, sounds, voice_leaves}
use Rattle.rhythm_base.specs.Line.{agree_from, agrees_with, ends_at, ends_before, past, placements, seat}
use Rattle.rhythm_base.specs.Lists.{last_of}
use Rattle.rhythm_base.specs.SoundKinds.{is_rest}
use Rattle.rhythm_base.specs.Trees.{are_trees, is_tree, leaves_of}
use Rattle.rhythm_base.specs.Voices.{voice_bar, voice_bars_from}
use Rattle.tree_laws.proofs.Lists.{map_twice}
use Rattle.tree_laws.specs.Voices.{Adjacent, IsVoice}
use Rattle.derivation.specs.Laws.{PinsDoNotSound}
use Rattle.derivation.specs.Sounds.{bar_sounds, but_last, derivation_sounds, keys_or_none, sound_of, sounds_from, tree_leaves}

-- ---- a leaf without the pin of its bar

abbrev unpinned_bar : VoiceBar → VoiceBar
unpinned_bar b = record { start = b.start; length = b.length; num = b.num; den = b.den; symbol = b.symbol; pin = None }

abbrev unpinned : Leaf → Leaf
unpinned x = record { bar = unpinned_bar x.bar; part = x.part }

-- a sound, by the seats of the onsets
abbrev sound_by : List Chord → ℕ → ℕ → Leaf → (ℕ → ℕ) → Sound
sound_by cs n i x f = record {
  bar = n;
  place = x.part.place;
  width = x.part.width;
  kind = sound_kind x.part.ending;
  keys = if is_rest (sound_kind x.part.ending) then 0 else keys_or_none (last_of (filter (λ c. nat_le (f c.onset) i) cs));
  graces = map (λ c. c.keys) (but_last (filter (λ c. f c.onset == i) cs));
}

module _ (r : ℕ) where
  seat_same : (xs : List Leaf) (t : ℕ) → seat (looks r) (map unpinned xs) t ≡ seat (looks r) xs t
  seat_same [] t = refl
  seat_same (x ∷ xs) t = ap (λ n. if lies_in r x t then (if goes_left r x t then 0 else 1) else suc n) (seat_same xs t)

  seats_same : (xs : List Leaf) → seat (looks r) (map unpinned xs) ≡ seat (looks r) xs
  seats_same xs = λ i t. seat_same xs t i

  placed_same : (xs : List Leaf) (cs : List Inner) → placements (looks r) (map unpinned xs) [] cs ≡ placements (looks r) xs [] cs
  placed_same xs cs = ap (λ (f : ℕ → ℕ). map (λ c. (f c.onset, c.end)) cs) (seats_same xs)

  agree_same : (ps : List (ℕ × ℕ)) (i : ℕ) (xs : List Leaf) → agree_from (looks r) [] ps i (map unpinned xs) ≡ agree_from (looks r) [] ps i xs
  agree_same ps i [] = refl
  agree_same ps i (x ∷ xs) = ap (λ b. agrees_with x.part.ending (sounds r x) (ends_at i ps) (ends_before i ps) && b) (agree_same ps (suc i) xs)

  past_same : (xs : List Leaf) (cs : List Inner) → past (looks r) [] cs (map unpinned xs) ≡ past (looks r) [] cs xs
  past_same xs cs = ap₂ (λ n ps. length (ends_at n ps)) (length-map xs unpinned) (placed_same xs cs)

  sound_same : (xs : List Leaf) (cs : List Chord) (n i : ℕ) (x : Leaf) → sound_of r (map unpinned xs) cs n i (unpinned x) ≡ sound_of r xs cs n i x
  sound_same xs cs n i x = ap (sound_by cs n i x) (seats_same xs)

  bar_same : (xs : List Leaf) (cs : List Chord) (n i : ℕ) (ys : List Leaf) → bar_sounds r (map unpinned xs) cs n i (map unpinned ys) ≡ bar_sounds r xs cs n i ys
  bar_same xs cs n i [] = refl
  bar_same xs cs n i (y ∷ ys) = ap₂ ◌∷◌ (sound_same xs cs n i y) (bar_same xs cs n (suc i) ys)

-- ---- a voice

leaves_unpinned : (g : Grammar) (b : VoiceBar) (t : Tree) → tree_leaves g (unpinned_bar b) t ≡ map unpinned (tree_leaves g b t)
leaves_unpinned g b t = sym (map_twice unpinned (λ p. record { bar = b; part = p }) (leaves_of g.rules g.resolution b.symbol t))

module _ (g : Grammar) (pins : List Pin) (channel last : ℕ) where
  line_unpinned : (i j : ℕ) (bars : List Bar) (ts : List Tree)
      → voice_leaves g (voice_bars_from g [] 0 last j bars) ts ≡ map unpinned (voice_leaves g (voice_bars_from g pins channel last i bars) ts)
  line_unpinned i j [] ts = refl
  line_unpinned i j (b ∷ bars) [] = refl
  line_unpinned i j (b ∷ bars) (t ∷ ts) =
      let bar : VoiceBar = voice_bar g pins channel i b (barline bars last 0) in
      ap₂ ◌++◌ (leaves_unpinned g bar t) (line_unpinned (suc i) (suc j) bars ts)
      ∙ sym (map-append unpinned (tree_leaves g bar t) (voice_leaves g (voice_bars_from g pins channel last (suc i) bars) ts))

  trees_unpinned : (i j : ℕ) (bars : List Bar) (ts : List Tree) → are_bars g (voice_bars_from g pins channel last i bars) ts ≡ true
      → are_bars g (voice_bars_from g [] 0 last j bars) ts ≡ true
  trees_unpinned i j [] [] h = refl
  trees_unpinned i j [] (t ∷ ts) h = h
  trees_unpinned i j (b ∷ bars) [] h = h
  trees_unpinned i j (b ∷ bars) (t ∷ ts) h =
      let bar : VoiceBar = voice_bar g pins channel i b (barline bars last 0) in
      let own = and_left (are_trees g.rules ((g.resolution, bar.symbol) ∷ []) (more t.rule t.kids none)) _ (and_left (is_tree g.rules g.resolution bar.symbol bar.pin t) _ h) in
      let others = trees_unpinned (suc i) (suc j) bars ts (and_right (is_tree g.rules g.resolution bar.symbol bar.pin t) _ h) in
      ap₂ (λ a b. (a && true) && b) own others

  sounds_unpinned : (xs : List Leaf) (cs : List Chord) (n k i j : ℕ) (bars : List Bar) (ts : List Tree)
      → sounds_from g xs cs n k (voice_bars_from g pins channel last i bars) ts ≡ sounds_from g (map unpinned xs) cs n k (voice_bars_from g [] 0 last j bars) ts
  sounds_unpinned xs cs n k i j [] ts = refl
  sounds_unpinned xs cs n k i j (b ∷ bars) [] = refl
  sounds_unpinned xs cs n k i j (b ∷ bars) (t ∷ ts) =
      let bar : VoiceBar = voice_bar g pins channel i b (barline bars last 0) in
      let own : List Leaf = tree_leaves g bar t in
      let others : ℕ → List Sound = λ k. sounds_from g (map unpinned xs) cs (suc n) k (voice_bars_from g [] 0 last (suc j) bars) ts in
      ap₂ ◌++◌ (sym (bar_same g.resolution xs cs n k own)) (sounds_unpinned xs cs (suc n) (k + length own) (suc i) (suc j) bars ts)
      ∙ ap (λ m. bar_sounds g.resolution (map unpinned xs) cs n k (map unpinned own) ++ others (k + m)) (sym (length-map own unpinned))
      ∙ ap (λ l. bar_sounds g.resolution (map unpinned xs) cs n k l ++ others (k + length l)) (sym (leaves_unpinned g bar t))

  pub fits_unpinned : (bars : List Bar) (cs : List Chord) (ts : List Tree) → FitsVoice g (voice_bars_from g pins channel last 0 bars) (soundings cs) ts
      → FitsVoice g (voice_bars_from g [] 0 last 0 bars) (soundings cs) ts
  fits_unpinned bars cs ts h =
      let xs : List Leaf = voice_leaves g (voice_bars_from g pins channel last 0 bars) ts in
      let line = line_unpinned 0 0 bars ts in
      record {
        trees = trees_unpinned 0 0 bars ts h.trees;
        leaves = ap (λ l. agree_from (looks g.resolution) [] (placements (looks g.resolution) l [] (soundings cs)) 0 l) line
            ∙ ap (λ ps. agree_from (looks g.resolution) [] ps 0 (map unpinned xs)) (placed_same g.resolution xs (soundings cs))
            ∙ agree_same g.resolution (placements (looks g.resolution) xs [] (soundings cs)) 0 xs
            ∙ h.leaves;
        leave = ap (past (looks g.resolution) [] (soundings cs)) line ∙ past_same g.resolution xs (soundings cs) ∙ h.leave;
      }

  same_unpinned : (bars : List Bar) (cs : List Chord) (ts : List Tree)
      → derivation_sounds g (voice_bars_from g pins channel last 0 bars) cs ts ≡ derivation_sounds g (voice_bars_from g [] 0 last 0 bars) cs ts
  same_unpinned bars cs ts =
      let xs : List Leaf = voice_leaves g (voice_bars_from g pins channel last 0 bars) ts in
      sounds_unpinned xs cs 0 0 0 0 bars ts
      ∙ ap (λ l. sounds_from g l cs 0 0 (voice_bars_from g [] 0 last 0 bars) ts) (sym (line_unpinned 0 0 bars ts))

  near_unpinned : (b e i j : ℕ) (bars : List Bar) → Adjacent b (voice_bars_from g pins channel last i bars) e → Adjacent b (voice_bars_from g [] 0 last j bars) e
  near_unpinned b e i j [] near = near
  near_unpinned b e i j (bar ∷ bars) near = (near.0, near.1, near_unpinned (b + (barline bars last 0 - bar.start)) e (suc i) (suc j) bars near.2)

  ends_unpinned : (b i j : ℕ) (bars : List Bar) → end_of_bars b (voice_bars_from g pins channel last i bars) ≡ end_of_bars b (voice_bars_from g [] 0 last j bars)
  ends_unpinned b i j [] = refl
  ends_unpinned b i j (bar ∷ bars) = ends_unpinned (bar.start + (barline bars last 0 - bar.start)) (suc i) (suc j) bars

  voice_unpinned : (bars : List Bar) (cs : List Inner) → IsVoice g (voice_bars_from g pins channel last 0 bars) cs → IsVoice g (voice_bars_from g [] 0 last 0 bars) cs
  voice_unpinned bars cs h =
      let end = ends_unpinned 0 0 0 bars in
      record {
        some = h.some;
        near = subst (Adjacent 0 (voice_bars_from g [] 0 last 0 bars)) end (near_unpinned 0 _ 0 0 bars h.near);
        rise = h.rise;
        below = ap (λ e. list_all (λ c. nat_lt c.onset e) cs) (sym end) ∙ h.below;
      }

pub pins_are_silent : PinsDoNotSound
pins_are_silent = record {
  voices = λ g p channel cs. voice_unpinned g p.pins channel p.last p.bars (soundings cs);
  fits = λ g p channel cs ts. fits_unpinned g p.pins channel p.last p.bars cs ts;
  sounds = λ g p channel cs ts. same_unpinned g p.pins channel p.last p.bars cs ts;
}
