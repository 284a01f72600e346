-- The leaves of a voice as the chords are read along them: each with how it sounds and the last tick up to its middle.
use Rattle.rhythm_base.specs.declared.limits.TheConstants.{LATEST_TICK}
use Rattle.std.specs.Prelude.{ℕ, suc, ◌+◌, ◌*◌, ◌/◌, ◌≤◌, nat_le, nat_lt, if◌then◌else◌, List, [], ◌∷◌, ◌++◌, filter, map, Option, Some, None}
use Rattle.rhythm_base.specs.declared.chord.Chord.{Chord}
use Rattle.rhythm_base.specs.declared.sound.Sound.{Sound}
use Rattle.rhythm_base.specs.Bodies.{sound_kind}
use Rattle.rhythm_base.specs.Forest.{Tree}
use Rattle.rhythm_base.specs.Grammar.{Grammar}
use Rattle.rhythm_base.specs.Leaves.{VoiceBar}
use Rattle.rhythm_base.specs.Lists.{last_of}
use Rattle.rhythm_base.specs.SoundKinds.{is_rest}
use Rattle.rhythm_base.specs.Trees.{BarLeaf, leaves_of}
use Rattle.derivation.specs.declared.leaf.TimedBar.{TimedBar}
use Rattle.derivation.specs.declared.leaf.TimedLeaf.{TimedLeaf}
use Rattle.derivation.specs.Sounds.{but_last}

-- a bar of some units, within the ticks of a performance
pub record IsTimedBar (bar : TimedBar) : Type 0 where
  pub start : bar.start ≤ LATEST_TICK
  pub length : bar.length ≤ LATEST_TICK

abbrev pub timed_bar : ℕ → ℕ → VoiceBar → TimedBar
timed_bar r n bar = record { number = n; start = bar.start; length = bar.length; resolution = r }

-- the last tick that is not after the middle of a leaf is the middle's whole part
abbrev pub timed_leaf : TimedBar → BarLeaf → TimedLeaf
timed_leaf bar x = record {
  bar = bar.number;
  place = x.place;
  width = x.width;
  kind = sound_kind x.ending;
  middle = (2 * bar.start * bar.resolution + (2 * x.place + x.width) * bar.length) / (2 * bar.resolution);
}

-- the leaves of all bars from bar n on
abbrev pub timed_leaves : Grammar → ℕ → List VoiceBar → List Tree → List TimedLeaf
timed_leaves g n [] ts = []
timed_leaves g n (bar ∷ bars) [] = []
timed_leaves g n (bar ∷ bars) (t ∷ ts) =
    map (timed_leaf (timed_bar g.resolution n bar)) (leaves_of g.rules g.resolution bar.symbol t)
    ++ timed_leaves g (suc n) bars ts

-- ---- chords read along leaves

abbrev pub chords_until : ℕ → List Chord → List Chord
chords_until t cs = filter (λ c. nat_le c.onset t) cs

abbrev pub chords_after : ℕ → List Chord → List Chord
chords_after t cs = filter (λ c. nat_lt t c.onset) cs

-- the keys of a chord, or those before it where there is none
abbrev pub keys_after : ℕ → Option Chord → ℕ
keys_after keys None = keys
keys_after keys (Some c) = c.keys

-- what sounds in a leaf to which these chords are attached, where `keys` are those of the latest chord
abbrev pub sound_with : TimedLeaf → List Chord → ℕ → Sound
sound_with x here keys = record {
  bar = x.bar;
  place = x.place;
  width = x.width;
  kind = x.kind;
  keys = if is_rest x.kind then 0 else keys;
  graces = map (λ c. c.keys) (but_last here);
}

-- what sounds in leaves, where `keys` are those of the latest chord before them and the chords are those that are left:
-- each leaf takes the chords up to its middle
abbrev pub sounds_along : ℕ → List Chord → List TimedLeaf → List Sound
sounds_along keys cs [] = []
sounds_along keys cs (x ∷ xs) =
    sound_with x (chords_until x.middle cs) (keys_after keys (last_of (chords_until x.middle cs)))
    ∷ sounds_along (keys_after keys (last_of (chords_until x.middle cs))) (chords_after x.middle cs) xs
