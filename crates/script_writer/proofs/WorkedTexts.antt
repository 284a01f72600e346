-- The text of one edit of each kind.
use Rattle.std.specs.Prelude.{◌≡◌, [], ◌∷◌, codes, refl}
use Rattle.std.specs.Fmt.{digits}
use Rattle.rhythm_base.specs.declared.edit.Edit.TheVariants.{Add, Drop, Move, Barline, Pin, Unpin, AddBar, DropBar}
use Rattle.rhythm_base.specs.Shape.{Shape, end, part}
use Rattle.rhythm_base.specs.ShapeText.{shape_text}
use Rattle.script_writer.specs.EditText.{script_text}

-- two halves, of which the second is cut in two
abbrev half_and_quarters : Shape
half_and_quarters = part end (part (part end (part end end)) end)

notes : script_text (Add 0 76 2880 3830 ∷ Move 0 76 2880 0 ∷ Drop 15 127 0 ∷ []) ≡ codes "add 0 76 2880 3830\nmove 0 76 2880 0\ndrop 15 127 0\n"
unfolding digits
notes = refl

bars : script_text (Barline 1 2000000000 ∷ AddBar ∷ DropBar ∷ []) ≡ codes "barline 1 2000000000\naddbar\ndropbar\n"
unfolding digits
bars = refl

pins : script_text (Pin 1 0 half_and_quarters ∷ Pin 1 4096 end ∷ Unpin 1 0 ∷ []) ≡ codes "pin 1 0 2(. 2(. .))\npin 1 4096 .\nunpin 1 0\n"
unfolding digits shape_text
pins = refl

nothing : script_text [] ≡ []
nothing = refl
