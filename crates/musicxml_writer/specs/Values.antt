-- How a value is written under its bracket: its type, its dots, and its ratio.
use Rattle.std.specs.Prelude.{ℕ, ◌*◌, ◌/◌, ◌==◌, nat_lt, if◌then◌else◌, List, ◌++◌, codes, decimal}
use Rattle.std.specs.List.{repeat}
use Rattle.durations.specs.declared.value.Recip.{Recip}
use Rattle.durations.specs.declared.value.Recip.TheVariants.{Of, Breve, Long}
use Rattle.durations.specs.declared.value.Value.{Value}
use Rattle.notation.specs.declared.note.Ratio.{Ratio}
use Rattle.musicxml_writer.specs.Elements.{element, empty_element, text_if}

-- the type of 1/n of a whole note. A 1024th is the shortest
abbrev pub part_type : ℕ → List ℕ
part_type n =
    if n == 1 then codes "whole"
    else if n == 2 then codes "half"
    else if n == 4 then codes "quarter"
    else if n == 8 then codes "eighth"
    else if n == 16 then codes "16th"
    else if n == 32 then codes "32nd"
    else if n == 64 then codes "64th"
    else if n == 128 then codes "128th"
    else if n == 256 then codes "256th"
    else if n == 512 then codes "512th"
    else codes "1024th"

abbrev pub type_text : Recip → List ℕ
type_text (Of n) = part_type n
type_text Breve = codes "breve"
type_text Long = codes "long"

-- what is shorter than a 1024th is one at a finer ratio: half of it with twice as many in the same time, and so on
abbrev pub finer : ℕ → Recip → ℕ
finer actual (Of n) = if nat_lt 1024 n then actual * (n / 1024) else actual
finer actual Breve = actual
finer actual Long = actual

-- so many in the time of so many
unfoldable pub ratio_text : ℕ → ℕ → List ℕ
ratio_text actual normal = text_if (nat_lt 1 actual)
    (element (codes "time-modification") (element (codes "actual-notes") (decimal actual) ++ element (codes "normal-notes") (decimal normal)))

unfoldable pub value_text : Ratio → Value → List ℕ
value_text ratio v =
    element (codes "type") (type_text v.recip) ++ repeat v.dots (empty_element (codes "dot")) ++ ratio_text (finer ratio.actual v.recip) ratio.normal
