-- What can be told of a take: its ranges, whether anything is told, and nothing.
use Rattle.std.specs.Prelude.{ℕ, ℤ, pos, negsuc, ◌≤ℤ◌, ◌≢◌, ◌<◌, ◌≤◌, ◌||◌, Bool, false, IsTrue, Option, Some, None, is_some, ⊤}
use Rattle.rhythm_base.specs.declared.limits.TheConstants.{SLOWEST_TEMPO}
use Rattle.rhythm_base.specs.Signatures.{is_den}
use Rattle.performance_prepare.specs.Drums.{drum_channel}
use Rattle.performance_prepare.specs.declared.options.Fraction.{Fraction}
use Rattle.performance_prepare.specs.declared.options.Options.{Options}

-- it holds of what is given, if anything is
abbrev pub IfGiven : {X : Type 0} → Option X → (X → Type 0) → Type 0
IfGiven None P = ⊤
IfGiven (Some x) P = P x

-- at most 64 times 1, 1/2, 1/4, .. or 1/64
pub record IsFraction (part : Fraction) : Type 0 where
  pub few : part.num ≤ 64
  pub power : IsTrue (is_den part.den)

-- a channel but that of drums
pub record IsKeyboard (c : ℕ) : Type 0 where
  pub channel : c < 16
  pub pitched : c ≢ drum_channel

-- milliseconds from note to note of a strum
pub record IsReach (within : ℕ) : Type 0 where
  pub some : 1 ≤ within
  pub few : within ≤ 100

pub record IsPace (quarters : ℕ) : Type 0 where
  pub some : 1 ≤ quarters
  pub few : quarters ≤ 1000

-- microseconds of a quarter that a tempo can have
pub record IsMicros (micros : ℕ) : Type 0 where
  pub some : 1 ≤ micros
  pub few : micros ≤ SLOWEST_TEMPO

pub record IsKey (sf : ℤ) : Type 0 where
  pub low : negsuc 6 ≤ℤ sf
  pub high : sf ≤ℤ pos 7

-- hands are not those of drums, strums reach over 1 to 100 ms, the meter and the upbeat are fractions, quarters a minute are 1 to
-- 1,000, and keys seven flats to seven sharps
pub record AreInRange (o : Options) : Type 0 where
  pub hands : IfGiven o.hands IsKeyboard
  pub strum : IfGiven o.strum IsReach
  pub meter : IfGiven o.meter IsFraction
  pub tempo : IfGiven o.tempo IsPace
  pub upbeat : IfGiven o.upbeat IsFraction
  pub key : IfGiven o.key IsKey

-- whether anything is told
abbrev pub is_told : Options → Bool
is_told o =
    o.no_drums || (is_some o.split || (is_some o.hands || (is_some o.strum
    || (is_some o.meter || (is_some o.tempo || (is_some o.upbeat || is_some o.key))))))

-- nothing is told
abbrev pub no_options : Options
no_options =
    record {
      no_drums = false;
      split = None;
      hands = None;
      strum = None;
      meter = None;
      tempo = None;
      upbeat = None;
      key = None;
    }
