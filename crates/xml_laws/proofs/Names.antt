-- The name of each key is read as the key.
use Rattle.std.proofs.Common.{◌≡◌, ℕ, ◌<◌, ◌&&◌, Bool, true, Option, Some, None, refl, arith}
use Rattle.std.specs.Prelude.{ℤ, pos, negsuc, IfSome}
use Rattle.std.specs.Fmt.{digits, signed_decimal}
use Rattle.std.proofs.lemmas.Bool.{and_parts}
use Rattle.std.proofs.lemmas.Int.{ints}
use Rattle.rhythm_base.proofs.NumbersBelow.{all_below, one_below}
use Rattle.derivation.specs.Score.{IsKeySignature}
use Rattle.text_words.proofs.ReadKeys.{read_key, is_key}
use Rattle.notation.specs.declared.names.Alteration.{Alteration}
use Rattle.notation.specs.declared.names.Alteration.TheVariants.{DoubleFlat, Flat, Natural, Sharp, DoubleSharp}
use Rattle.notation.specs.declared.names.Letter.{Letter}
use Rattle.notation.specs.declared.names.Letter.TheVariants.{C, D, E, F, G, A, B}
use Rattle.notation.specs.declared.names.PitchName.{PitchName}
use Rattle.notation.specs.Names.{first_place, pitch_name}
use Rattle.musicxml_writer.specs.Pitches.{alter_text, letter_text}
use Rattle.xml_laws.specs.Pitches.{xml_key}
use Rattle.xml_laws.proofs.Cutting.{is_plain_content}

abbrev pub name_key : PitchName → Option ℕ
name_key name = xml_key (letter_text name.letter) (alter_text name.alteration) (signed_decimal name.octave)

abbrev is_read_name : Option ℤ → ℕ → Bool
is_read_name sf k = is_key k (name_key (pitch_name sf k)) && is_plain_content (signed_decimal (pitch_name sf k).octave)

without_key : all_below (is_read_name None) 128 ≡ true
unfolding xml_key is_key first_place digits
without_key = refl

with_sharps : all_below (λ n. all_below (is_read_name (Some (pos n))) 128) 8 ≡ true
unfolding xml_key is_key first_place digits
with_sharps = refl

with_flats : all_below (λ n. all_below (is_read_name (Some (negsuc n))) 128) 7 ≡ true
unfolding xml_key is_key first_place digits
with_flats = refl

all_of : (sf : Option ℤ) (k : ℕ) → IfSome sf IsKeySignature → k < 128 → is_read_name sf k ≡ true
all_of None k is within = one_below (is_read_name None) 128 k without_key within
all_of (Some (pos n)) k is within =
    one_below (is_read_name (Some (pos n))) 128 k
    (one_below (λ n. all_below (is_read_name (Some (pos n))) 128) 8 n with_sharps (omega (arith, ints, is.low, is.high))) within
all_of (Some (negsuc n)) k is within =
    one_below (is_read_name (Some (negsuc n))) 128 k
    (one_below (λ n. all_below (is_read_name (Some (negsuc n))) 128) 7 n with_flats (omega (arith, ints, is.low, is.high))) within

pub name_read : (sf : Option ℤ) (k : ℕ) → IfSome sf IsKeySignature → k < 128 → name_key (pitch_name sf k) ≡ Some k
name_read sf k is within =
    read_key k (name_key (pitch_name sf k)) (and_parts (is_key k (name_key (pitch_name sf k))) _ (all_of sf k is within)).0

pub octave_plain : (sf : Option ℤ) (k : ℕ) → IfSome sf IsKeySignature → k < 128
    → is_plain_content (signed_decimal (pitch_name sf k).octave) ≡ true
octave_plain sf k is within = (and_parts (is_key k (name_key (pitch_name sf k))) _ (all_of sf k is within)).1

pub letter_plain : (letter : Letter) → is_plain_content (letter_text letter) ≡ true
letter_plain C = refl
letter_plain D = refl
letter_plain E = refl
letter_plain F = refl
letter_plain G = refl
letter_plain A = refl
letter_plain B = refl

pub alter_plain : (alteration : Alteration) → is_plain_content (alter_text alteration) ≡ true
alter_plain DoubleFlat = refl
alter_plain Flat = refl
alter_plain Natural = refl
alter_plain Sharp = refl
alter_plain DoubleSharp = refl
