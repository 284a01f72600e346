-- The sounds of a derivation: one for each of its leaves, in order.
use Rattle.std.specs.Prelude.{ℕ, ◌+◌, ◌-◌, ◌==◌, nat_le, if◌then◌else◌, List, [], ◌∷◌, ◌++◌, length, filter, map, take, Option, Some, None}
use Rattle.std.proofs.Common.{suc}
use Rattle.rhythm_base.specs.declared.chord.Chord.{Chord}
use Rattle.rhythm_base.specs.declared.note.Bar.{Bar}
use Rattle.rhythm_base.specs.declared.sound.Sound.{Sound}
use Rattle.rhythm_base.specs.declared.sound.SoundKind.{SoundKind}
use Rattle.rhythm_base.specs.Bodies.{sound_kind}
use Rattle.rhythm_base.specs.Forest.{Tree}
use Rattle.rhythm_base.specs.Grammar.{Grammar}
use Rattle.rhythm_base.specs.Leaves.{Leaf, VoiceBar, in_bar, looks, voice_leaves}
use Rattle.rhythm_base.specs.Line.{seat}
use Rattle.rhythm_base.specs.Lists.{last_of}
use Rattle.rhythm_base.specs.SoundKinds.{is_rest}
use Rattle.rhythm_base.specs.Trees.{leaves_of}
use Rattle.rhythm_base.specs.Voices.{voice_bars_from}

-- ---- what sounds in leaf i of a line of leaves, in a bar of r units

-- the chords that are attached to the leaf, first to last
abbrev pub attached_to : ℕ → List Leaf → List Chord → ℕ → List Chord
attached_to r xs cs i = filter (λ c. seat (looks r) xs c.onset == i) cs

-- the latest chord that is attached to the leaf or to an earlier one
abbrev pub latest_chord : ℕ → List Leaf → List Chord → ℕ → Option Chord
latest_chord r xs cs i = last_of (filter (λ c. nat_le (seat (looks r) xs c.onset) i) cs)

abbrev pub keys_or_none : Option Chord → ℕ
keys_or_none None = 0
keys_or_none (Some c) = c.keys

-- a rest has no keys; any other leaf has those of the latest chord, which begins in it or goes on
abbrev pub keys_in : ℕ → List Leaf → List Chord → ℕ → SoundKind → ℕ
keys_in r xs cs i kind = if is_rest kind then 0 else keys_or_none (latest_chord r xs cs i)

-- all but the last of a list
abbrev pub but_last : {X : Type 0} → List X → List X
but_last xs = take (length xs - 1) xs

-- of the chords that are attached to a leaf the last is the main one, and those before it are its grace chords
abbrev pub graces_in : ℕ → List Leaf → List Chord → ℕ → List ℕ
graces_in r xs cs i = map (λ c. c.keys) (but_last (attached_to r xs cs i))

-- the sound of leaf i, x, which is one of bar n
abbrev pub sound_of : ℕ → List Leaf → List Chord → ℕ → ℕ → Leaf → Sound
sound_of r xs cs n i x = record {
  bar = n;
  place = x.part.place;
  width = x.part.width;
  kind = sound_kind x.part.ending;
  keys = keys_in r xs cs i (sound_kind x.part.ending);
  graces = graces_in r xs cs i;
}

-- ---- a voice

-- its bars up to the last barline, without pins, which do not sound
abbrev pub plain_bars : Grammar → ℕ → List Bar → List VoiceBar
plain_bars g last bars = voice_bars_from g [] 0 last 0 bars

-- the sounds of leaves of bar n, which are those of the line from leaf i on
abbrev pub bar_sounds : ℕ → List Leaf → List Chord → ℕ → ℕ → List Leaf → List Sound
bar_sounds r xs cs n i [] = []
bar_sounds r xs cs n i (y ∷ ys) = sound_of r xs cs n i y ∷ bar_sounds r xs cs n (suc i) ys

-- the leaves of one bar's tree
abbrev pub tree_leaves : Grammar → VoiceBar → Tree → List Leaf
tree_leaves g bar t = in_bar bar (leaves_of g.rules g.resolution bar.symbol t)

-- the sounds from bar n and leaf i of the voice's line on
abbrev pub sounds_from : Grammar → List Leaf → List Chord → ℕ → ℕ → List VoiceBar → List Tree → List Sound
sounds_from g xs cs n i [] ts = []
sounds_from g xs cs n i (bar ∷ bars) [] = []
sounds_from g xs cs n i (bar ∷ bars) (t ∷ ts) =
    bar_sounds g.resolution xs cs n i (tree_leaves g bar t)
    ++ sounds_from g xs cs (suc n) (i + length (tree_leaves g bar t)) bars ts

-- the sounds of a derivation of a voice
abbrev pub derivation_sounds : Grammar → List VoiceBar → List Chord → List Tree → List Sound
derivation_sounds g bars cs ts = sounds_from g (voice_leaves g bars ts) cs 0 0 bars ts
