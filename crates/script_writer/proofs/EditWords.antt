-- The line of an edit in range says this edit.
use Rattle.rhythm_base.specs.declared.limits.TheConstants.{LATEST_TICK, MOST_BARS}
use Rattle.std.proofs.Common.{◌≡◌, ℕ, ◌≤◌, ◌<◌, ◌^◌, List, [], ◌∷◌, codes, decimal, map, refl, sym, ap, ◌∙◌, subst, arith, true}
use Rattle.std.specs.List.{All, AllByRecursion, join_with_byte, list_all}
use Rattle.std.specs.Prelude.{nat_le}
use Rattle.std.proofs.lemmas.Fmt.{decimal_nonempty, digits_decimal, digits_value-decimal, length-decimal-le}
use Rattle.std.proofs.lemmas.List.Elements.{All-cons, All-from_recursion, All-map, All-weaker}
use Rattle.std.proofs.lemmas.List.Splits.{join_with_byte-slice_split}
use Rattle.std.proofs.lemmas.List.Sums.{AllPass-from_list_all}
use Rattle.edit_script.specs.declared.command.Command.TheVariants.{Change}
use Rattle.rhythm_base.specs.declared.edit.Edit.{Edit}
use Rattle.rhythm_base.specs.declared.edit.Edit.TheVariants.{Add, Drop, Move, Barline, Pin, Unpin, AddBar, DropBar}
use Rattle.rhythm_base.specs.EditRanges.{IsEditInRange}
use Rattle.rhythm_base.specs.Shape.{Shape}
use Rattle.rhythm_base.specs.ShapeText.{shape_text}
use Rattle.edit_script.specs.ScriptLines.{AreEdit, IsBarWord, IsChannelWord, IsKeyWord, IsTickWord, SaysCommand, script_words, words_of}
use Rattle.rhythm_base.specs.Numerals.{IsNumber}
use Rattle.rhythm_base.proofs.Numerals.{numerals}
use Rattle.script_writer.specs.EditText.{edit_line, edit_words}
use Rattle.script_writer.proofs.PrintedBytes.{IsGraphic, IsPrinting, graphic_prints, joined_prints, number_graphic, shape_prints}
use Rattle.script_writer.proofs.WordSplits.{first_word, joined_words, words_of_line}

-- a number in decimal digits is read as this number
number_word : (most n : ℕ) → most < 10 ^ 10 → n ≤ most → IsNumber most n (decimal n)
number_word most n small high =
    let few : n < 2 ^ 64 = omega (arith, small, high) in
    record {
      some = omega (arith, decimal_nonempty n few);
      few = length-decimal-le 10 n (omega arith) (omega (arith, small, high)) few;
      digits = digits_decimal numerals n few;
      value = digits_value-decimal numerals n few;
      high = high;
    }

-- none of the numbers is above the last tick
abbrev AreTicks : List ℕ → Type 0
AreTicks numbers = AllByRecursion (λ n. n ≤ LATEST_TICK) numbers

all_graphic : (name : List ℕ) (numbers : List ℕ) → IsGraphic name → AreTicks numbers → All IsGraphic (name ∷ map decimal numbers)
all_graphic name numbers graphic ticks =
    All-cons IsGraphic name (map decimal numbers) graphic
    (All-map IsGraphic decimal numbers
    (All-weaker (λ n. n ≤ LATEST_TICK) (λ n. IsGraphic (decimal n)) (λ n h. number_graphic n (omega (arith, h))) numbers
    (All-from_recursion (λ n. n ≤ LATEST_TICK) numbers ticks)))

-- the line of an edit is printed, and says it
pub record IsSaid (edit : Edit) : Type 0 where
  pub printing : IsPrinting (edit_line edit)
  pub says : SaysCommand (edit_line edit) (Change edit)

-- an edit whose words are a name and numbers
module _ (edit : Edit) (name : List ℕ) (numbers : List ℕ) (are : edit_words edit ≡ name ∷ map decimal numbers)
    (graphic : IsGraphic name) (ticks : AreTicks numbers) where
  abbrev words : List (List ℕ)
  words = name ∷ map decimal numbers

  words_graphic : All IsGraphic words
  words_graphic = all_graphic name numbers graphic ticks

  prints : IsPrinting (join_with_byte 32 words)
  prints = joined_prints words (All-weaker IsGraphic IsPrinting graphic_prints words words_graphic)

  reads : script_words (join_with_byte 32 words) ≡ words
  reads = words_of_line (join_with_byte 32 words) words prints (joined_words name (map decimal numbers) words_graphic)

  said : AreEdit edit words → IsSaid edit
  said says = record {
    printing = subst (λ ws. IsPrinting (join_with_byte 32 ws)) (sym are) prints;
    says = subst (λ ws. AreEdit edit (script_words (join_with_byte 32 ws))) (sym are) (subst (AreEdit edit) (sym reads) says);
  }

-- the name of an edit is printed
named : (name : List ℕ) → list_all (nat_le 33) name ≡ true → IsGraphic name
named name h = AllPass-from_list_all (nat_le 33) name h

channel_word : (n : ℕ) → n < 16 → IsChannelWord n (decimal n)
channel_word n h = number_word 15 n (omega arith) (omega (arith, h))

key_word : (n : ℕ) → n < 128 → IsKeyWord n (decimal n)
key_word n h = number_word 127 n (omega arith) (omega (arith, h))

bar_word : (n : ℕ) → n ≤ MOST_BARS → IsBarWord n (decimal n)
bar_word n h = number_word MOST_BARS n (omega arith) h

tick_word : (n : ℕ) → n ≤ LATEST_TICK → IsTickWord n (decimal n)
tick_word n h = number_word LATEST_TICK n (omega arith) h

-- the words of a pin, of which the last has words of its own
module _ (channel bar : ℕ) (shape : Shape) (range : IsEditInRange (Pin channel bar shape)) where
  channel_graphic : IsGraphic (decimal channel)
  channel_graphic = number_graphic channel (omega (arith, range.0))

  bar_graphic : IsGraphic (decimal bar)
  bar_graphic = number_graphic bar (omega (arith, range.1))

  pin_prints : IsPrinting (edit_line (Pin channel bar shape))
  pin_prints =
      joined_prints (edit_words (Pin channel bar shape))
      (All-from_recursion IsPrinting (edit_words (Pin channel bar shape)) (
        graphic_prints (codes "pin") (named (codes "pin") refl),
        (
          graphic_prints (decimal channel) channel_graphic,
          (graphic_prints (decimal bar) bar_graphic, (shape_prints shape range.2, tt)),
        ),
      ))

  pin_words : words_of (edit_line (Pin channel bar shape))
      ≡ codes "pin" ∷ decimal channel ∷ decimal bar ∷ words_of (shape_text shape)
  pin_words =
      first_word (codes "pin") (join_with_byte 32 (decimal channel ∷ decimal bar ∷ shape_text shape ∷ [])) (named (codes "pin") refl)
      ∙ ap (λ ws. codes "pin" ∷ ws) (first_word (decimal channel) (join_with_byte 32 (decimal bar ∷ shape_text shape ∷ [])) channel_graphic
      ∙ ap (λ ws. decimal channel ∷ ws) (first_word (decimal bar) (shape_text shape) bar_graphic))

  pin_said : IsSaid (Pin channel bar shape)
  pin_said = record {
    printing = pin_prints;
    says =
        subst (AreEdit (Pin channel bar shape)) (sym (words_of_line (edit_line (Pin channel bar shape)) _ pin_prints pin_words))
        (refl, channel_word channel range.0, bar_word bar range.1, record { shape = range.2; is = join_with_byte-slice_split 32 (shape_text shape) });
  }

-- the line of an edit in range
pub edit_said : (edit : Edit) → IsEditInRange edit → IsSaid edit
edit_said (Add channel key onset until) range =
    said (Add channel key onset until) (codes "add") (channel ∷ key ∷ onset ∷ until ∷ []) refl (named (codes "add") refl)
    (omega (arith, range.0), (omega (arith, range.1), (range.2, (range.3, tt))))
    (refl, (channel_word channel range.0, (key_word key range.1, (tick_word onset range.2, (tick_word until range.3, tt)))))
edit_said (Drop channel key onset) range =
    said (Drop channel key onset) (codes "drop") (channel ∷ key ∷ onset ∷ []) refl (named (codes "drop") refl)
    (omega (arith, range.0), (omega (arith, range.1), (range.2, tt)))
    (refl, (channel_word channel range.0, (key_word key range.1, (tick_word onset range.2, tt))))
edit_said (Move channel key onset to) range =
    said (Move channel key onset to) (codes "move") (channel ∷ key ∷ onset ∷ to ∷ []) refl (named (codes "move") refl)
    (omega (arith, range.0), (omega (arith, range.1), (range.2, (range.3, tt))))
    (refl, (channel_word channel range.0, (key_word key range.1, (tick_word onset range.2, (tick_word to range.3, tt)))))
edit_said (Barline bar tick) range =
    said (Barline bar tick) (codes "barline") (bar ∷ tick ∷ []) refl (named (codes "barline") refl)
    (omega (arith, range.0), (range.1, tt)) (refl, (bar_word bar range.0, (tick_word tick range.1, tt)))
edit_said (Pin channel bar shape) range = pin_said channel bar shape range
edit_said (Unpin channel bar) range =
    said (Unpin channel bar) (codes "unpin") (channel ∷ bar ∷ []) refl (named (codes "unpin") refl)
    (omega (arith, range.0), (omega (arith, range.1), tt)) (refl, (channel_word channel range.0, (bar_word bar range.1, tt)))
edit_said AddBar range = said AddBar (codes "addbar") [] refl (named (codes "addbar") refl) tt (refl, tt)
edit_said DropBar range = said DropBar (codes "dropbar") [] refl (named (codes "dropbar") refl) tt (refl, tt)
