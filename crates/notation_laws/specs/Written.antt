-- Notes as they can be written: their values are halves, quarters, eighths .. with dots, and last as long as they do
-- under their bracket.
use Rattle.rhythm_base.specs.declared.limits.TheConstants.{MOST_UNITS}
use Rattle.std.specs.Prelude.{◌≡◌, ℕ, ◌*◌, ◌^◌, ◌<◌, ◌≤◌, ◌==◌, false, All, ⊤}
use Rattle.durations.specs.declared.value.Recip.{Recip}
use Rattle.durations.specs.declared.value.Recip.TheVariants.{Of, Breve, Long}
use Rattle.durations.specs.declared.value.Value.{Value}
use Rattle.durations.specs.Value.{parts, value_grid}
use Rattle.derivation.specs.WellSounded.{AreKeys}
use Rattle.notation.specs.declared.note.Ratio.{Ratio}
use Rattle.notation.specs.Notes.{Group, Note}
use Rattle.notation.specs.Places.{whole_of}

-- a whole note, or a half, a quarter .. of one, down to 1/32768; or two whole notes, or four
abbrev pub IsHalvedPart : Recip → Type 0
IsHalvedPart (Of n) = (halvings : ℕ) × (halvings < 16) × (n ≡ 2 ^ halvings)
IsHalvedPart Breve = ⊤
IsHalvedPart Long = ⊤

pub record IsWrittenValue (v : Value) : Type 0 where
  pub part : IsHalvedPart v.recip
  pub dots : v.dots ≤ 2

-- a note lasts as much of its value as the ratio says, a chord has some keys, and so has each grace chord
pub record IsWrittenNote (resolution : ℕ) (ratio : Ratio) (n : Note) : Type 0 where
  pub value : IsWrittenValue n.value
  pub long : n.duration * (value_grid n.value * ratio.actual) ≡ parts n.value * (whole_of resolution * ratio.normal)
  pub keys : (n.keys == 0) ≡ false → AreKeys n.keys
  pub graces : All AreKeys n.graces

pub record IsWrittenGroup (resolution : ℕ) (g : Group) : Type 0 where
  pub some_actual : 1 ≤ g.ratio.actual
  pub few_actual : g.ratio.actual ≤ MOST_UNITS
  pub some_normal : 1 ≤ g.ratio.normal
  pub few_normal : g.ratio.normal ≤ g.ratio.actual
  pub notes : All (IsWrittenNote resolution g.ratio) g.notes
