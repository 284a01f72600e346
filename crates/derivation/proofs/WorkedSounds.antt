-- Sounds and runs of small derivations, by the definitions.
use Rattle.std.specs.Prelude.{◌≡◌, ℕ, ◌^◌, List, [], ◌∷◌, refl}
use Rattle.rhythm_base.specs.declared.chord.Chord.{Chord}
use Rattle.rhythm_base.specs.declared.note.Bar.{Bar}
use Rattle.rhythm_base.specs.declared.rule.Body.{Body}
use Rattle.rhythm_base.specs.declared.rule.Body.TheVariants as bodies
use Rattle.rhythm_base.specs.declared.rule.Rule.{Rule}
use Rattle.rhythm_base.specs.declared.sound.Sound.{Sound}
use Rattle.rhythm_base.specs.declared.sound.SoundKind.{SoundKind}
use Rattle.rhythm_base.specs.declared.sound.SoundKind.TheVariants.{Begin, Tie, Rest}
use Rattle.rhythm_base.specs.Forest.{Tree, forest_of, none}
use Rattle.rhythm_base.specs.Grammar.{Grammar}
use Rattle.rhythm_base.specs.Leaves.{FitsVoice, VoiceBar, soundings}
use Rattle.durations.specs.Spans.{chord_runs}
use Rattle.rhythm_base.specs.Voices.{voice_bars_from}
use Rattle.derivation.specs.Sounds.{derivation_sounds}

abbrev rule : ℕ → Body → Rule
rule symbol body = record { lhs = symbol; weight = 0; body = body }

abbrev book : ℕ → List Rule → Grammar
book resolution rules = record {
  version = 1;
  resolution = resolution;
  window = 0;
  early = 1;
  late = 1;
  names = [];
  starts = record { num = 4; den = 4; symbol = 0 } ∷ [];
  rules = rules;
}

abbrev bar : ℕ → Bar
bar start = record { start = start; num = 4; den = 4 }

abbrev leaf : ℕ → Tree
leaf rule = record { rule = rule; kids = none }

abbrev node : ℕ → List Tree → Tree
node rule kids = record { rule = rule; kids = forest_of kids }

abbrev sound : ℕ → ℕ → ℕ → SoundKind → ℕ → List ℕ → Sound
sound bar place width kind keys graces = record { bar = bar; place = place; width = width; kind = kind; keys = keys; graces = graces }

-- ---- a tie over the barline: a bar is a whole, or two halves

abbrev halves : Grammar
halves = book 2 (rule 0 bodies.Note ∷ rule 0 bodies.Tie ∷ rule 0 (bodies.Split (1 ∷ 1 ∷ [])) ∷ rule 1 bodies.Note ∷ rule 1 bodies.Rest ∷ rule 1 bodies.Tie ∷ [])

abbrev two_bars : List VoiceBar
two_bars = voice_bars_from halves [] 0 3840 0 (bar 0 ∷ bar 1920 ∷ [])

abbrev held : List Chord
held = record { onset = 970; end = 2900; keys = 2 ^ 60 } ∷ []

-- a rest, and a half note that is held to the middle of the next bar
abbrev held_trees : List Tree
held_trees = node 2 (leaf 4 ∷ leaf 3 ∷ []) ∷ node 2 (leaf 5 ∷ leaf 4 ∷ []) ∷ []

held_fits : FitsVoice halves two_bars (soundings held) held_trees
held_fits = record { trees = refl; leaves = refl; leave = refl }

abbrev held_sounds : List Sound
held_sounds = sound 0 0 1 Rest 0 [] ∷ sound 0 1 1 Begin (2 ^ 60) [] ∷ sound 1 0 1 Tie (2 ^ 60) [] ∷ sound 1 1 1 Rest 0 [] ∷ []

held_over : derivation_sounds halves two_bars held held_trees ≡ held_sounds
held_over = refl

one_run : chord_runs held_sounds ≡ (sound 0 1 1 Begin (2 ^ 60) [], sound 1 0 1 Tie (2 ^ 60) [] ∷ []) ∷ []
one_run = refl

-- ---- two grace chords before a chord, attached from the leaf before: four quarters

abbrev quarters : Grammar
quarters = book 4 (rule 0 (bodies.Split (1 ∷ 1 ∷ 1 ∷ 1 ∷ [])) ∷ rule 1 bodies.Note ∷ rule 1 bodies.Rest ∷ rule 1 (bodies.Grace 2) ∷ [])

abbrev one_bar : List VoiceBar
one_bar = voice_bars_from quarters [] 0 1920 0 (bar 0 ∷ [])

abbrev graced : List Chord
graced =
    record { onset = 400; end = 440; keys = 2 ^ 62 }
    ∷ record { onset = 440; end = 480; keys = 2 ^ 64 }
    ∷ record { onset = 480; end = 960; keys = 2 ^ 60 }
    ∷ []

abbrev graced_trees : List Tree
graced_trees = node 0 (leaf 2 ∷ leaf 3 ∷ leaf 2 ∷ leaf 2 ∷ []) ∷ []

graced_fits : FitsVoice quarters one_bar (soundings graced) graced_trees
graced_fits = record { trees = refl; leaves = refl; leave = refl }

abbrev graced_sounds : List Sound
graced_sounds = sound 0 0 1 Rest 0 [] ∷ sound 0 1 1 Begin (2 ^ 60) (2 ^ 62 ∷ 2 ^ 64 ∷ []) ∷ sound 0 2 1 Rest 0 [] ∷ sound 0 3 1 Rest 0 [] ∷ []

grace_leaf : derivation_sounds quarters one_bar graced graced_trees ≡ graced_sounds
grace_leaf = refl

graced_run : chord_runs graced_sounds ≡ (sound 0 1 1 Begin (2 ^ 60) (2 ^ 62 ∷ 2 ^ 64 ∷ []), []) ∷ []
graced_run = refl
