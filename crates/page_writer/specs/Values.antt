-- The text of a value: its number or its word, and dots. There are no flags for less than 1/1024, which is written as a scaled 1/1024.
use Rattle.std.specs.Prelude.{ℕ, ◌/◌, nat_le, if◌then◌else◌, List, [], ◌++◌, codes, decimal, min, replicate}
use Rattle.durations.specs.declared.value.Recip.{Recip}
use Rattle.durations.specs.declared.value.Recip.TheVariants.{Of, Breve, Long}
use Rattle.durations.specs.declared.value.Value.{Value}

abbrev pub base_text : Recip → List ℕ
base_text (Of n) = decimal (min n 1024)
base_text Breve = codes "\\breve"
base_text Long = codes "\\longa"

abbrev pub scale_text : Recip → List ℕ
scale_text (Of n) = if nat_le n 1024 then [] else codes "*1/" ++ decimal (n / 1024)
scale_text Breve = []
scale_text Long = []

-- dots stand before the scale
abbrev pub page_value : Value → List ℕ
page_value v = base_text v.recip ++ replicate v.dots 46 ++ scale_text v.recip
