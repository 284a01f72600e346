-- What is read within a note, and the chord that notes make.
use Rattle.std.specs.Prelude.{◌≡◌, ℕ, ◌-◌, ◌*◌, ◌^◌, Bool, true, false, ◌==◌, ◌&&◌, ◌||◌, not, if◌then◌else◌, List, [], ◌∷◌, ◌++◌, codes, position, Option, Some, None}
use Rattle.std.specs.Str.{bytes_eq}
use Rattle.text_words.specs.Steps.{◌>>=◌}
use Rattle.text_words.specs.Numbers.{number_of}
use Rattle.text_words.specs.Marks.{same_bool}
use Rattle.lily_writer.specs.Hearing.{key_set}
use Rattle.notation.specs.Notes.{is_empty}
use Rattle.notation_laws.specs.Hearing.{Stretch, is_none}

-- numbers are below 2 ^ 32
abbrev pub xml_number : List ℕ → Option ℕ
xml_number text = number_of (2 ^ 32 - 1) text

-- What was read within a note: whether it is a grace note, a further note of a chord, and a rest of a whole measure; the
-- texts of its pitch; its key, of a rest none; how long it is; its type, its dots, and how many are in the time of how
-- many; whether it is marked short; and whether a tie comes to it, and one goes on from it
pub record ReadNote : Type 0 where
  pub grace : Bool
  pub further : Bool
  pub whole : Bool
  pub step : List ℕ
  pub alter : List ℕ
  pub octave : List ℕ
  pub keys : Option (List ℕ)
  pub duration : Option ℕ
  pub kind : List ℕ
  pub dots : ℕ
  pub actual : ℕ
  pub normal : ℕ
  pub short : Bool
  pub comes : Bool
  pub goes : Bool

abbrev pub blank_note : ReadNote
blank_note = record {
  grace = false;
  further = false;
  whole = false;
  step = [];
  alter = [];
  octave = [];
  keys = None;
  duration = None;
  kind = [];
  dots = 0;
  actual = 1;
  normal = 1;
  short = false;
  comes = false;
  goes = false;
}

-- ---- values

-- types, each half as long as the one before it, from four whole notes on
unfoldable pub kinds : List (List ℕ)
kinds =
    codes "long" ∷ codes "breve" ∷ codes "whole" ∷ codes "half" ∷ codes "quarter" ∷ codes "eighth" ∷ codes "16th" ∷ codes "32nd"
    ∷ codes "64th" ∷ codes "128th" ∷ codes "256th" ∷ codes "512th" ∷ codes "1024th" ∷ []

-- a type at a place, with dots, and so many in the time of so many, is as long as this, where a quarter has so many parts
abbrev pub IsOfValue : ℕ → ReadNote → ℕ → ℕ → Type 0
IsOfValue quarter n len place =
    len * (2 ^ place * 2 ^ n.dots * n.actual) ≡ 4 * (2 * 2 ^ n.dots - 1) * (4 * quarter * n.normal)

abbrev pub is_of_value : ℕ → ReadNote → ℕ → Option ℕ → Bool
is_of_value quarter n len None = false
is_of_value quarter n len (Some place) =
    len * (2 ^ place * 2 ^ n.dots * n.actual) == 4 * (2 * 2 ^ n.dots - 1) * (4 * quarter * n.normal)

-- the value of a note says its duration, but for a rest of a whole measure, which has none
abbrev pub says_duration : ℕ → ReadNote → ℕ → Bool
says_duration quarter n len = n.whole || is_of_value quarter n len (position (bytes_eq n.kind) kinds)

-- ---- chords

-- a chord, a grace chord or a rest, by the notes of it that were read
pub record ReadChord : Type 0 where
  pub grace : Bool
  pub keys : List ℕ
  pub len : ℕ
  pub short : Bool
  pub comes : Bool
  pub goes : Bool

abbrev pub read_stretch : ReadChord → Stretch ℕ
read_stretch c = record { len = c.len; keys = key_set c.keys; short = c.short; comes = c.comes; goes = c.goes }

-- a grace note has a key, and neither a duration nor a mark nor a tie
abbrev pub grace_chord : ReadNote → List ℕ → Option ReadChord
grace_chord n keys =
    if is_none n.duration && not (is_empty keys || (n.short || (n.comes || n.goes)))
    then Some (record { grace = true; keys = keys; len = 0; short = false; comes = false; goes = false })
    else None

abbrev pub long_chord : ℕ → ReadNote → List ℕ → ℕ → Option ReadChord
long_chord quarter n keys len =
    if says_duration quarter n len
    then Some (record { grace = false; keys = keys; len = len; short = n.short; comes = n.comes; goes = n.goes })
    else None

-- the chord of a note alone
abbrev pub chord_of : Option ℕ → ReadNote → Option ReadChord
chord_of divisions n = do
  keys ← n.keys
  if n.grace then grace_chord n keys else (divisions >>= λ quarter. n.duration >>= long_chord quarter n keys)

-- A further note is as long as the chord and has its ties. Its mark stands at the lowest key alone, and a rest has no
-- further notes
abbrev pub goes_with : ReadChord → ReadChord → Bool
goes_with c m =
    (same_bool c.grace m.grace && ((c.len == m.len) && (same_bool c.comes m.comes && same_bool c.goes m.goes)))
    && not (m.short || (is_empty c.keys || is_empty m.keys))

abbrev pub with_key : ReadChord → ReadChord → Option ReadChord
with_key c m = if goes_with c m then Some (record c { keys = c.keys ++ m.keys }) else None
