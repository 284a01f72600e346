-- Meta events (Standard MIDI Files 1.0, "Meta-Events"): a byte ff, a type, the length of the content, and the content. Of
-- four types the length and the content must be right; the others are skipped.
use Rattle.std.specs.Prelude.{ℕ, ◌+◌, ◌*◌, ◌==◌, ◌&&◌, ◌||◌, nat_le, if◌then◌else◌, List, [], ◌∷◌, Option, Some, None, Result, Ok}
use Rattle.std.specs.Int.{w8, cast_signed}
use Rattle.rhythm_base.specs.declared.event.What.TheVariants.{Tempo, Signature, KeySig}
use Rattle.smf_reader.specs.declared.fault.SmfFault.{SmfFault}
use Rattle.smf_reader.specs.declared.fault.SmfFault.TheVariants.{BadMeta}
use Rattle.smf_reader.specs.declared.meaning.Meaning.{Meaning}
use Rattle.smf_reader.specs.declared.meaning.Meaning.TheVariants.{Event, Skipped, EndOfTrack}
use Rattle.smf_reader.specs.Outcome.{◌>>=◌, or_smf_fault}
use Rattle.smf_reader.specs.Bytes.{byte, content}
use Rattle.smf_reader.specs.Quantity.{quantity}

-- "End of Track" has no content
abbrev pub end_of_track : List ℕ → Option Meaning
end_of_track [] = Some EndOfTrack
end_of_track _ = None

-- "Set Tempo": microseconds of a quarter note in three bytes, the most significant first, and not 0
abbrev pub tempo : List ℕ → Option Meaning
tempo (high ∷ middle ∷ low ∷ []) =
    if high * 65536 + middle * 256 + low == 0 then None else Some (Event (Tempo (high * 65536 + middle * 256 + low)))
tempo _ = None

-- "Time Signature": numerator, denominator as a power of two, clocks of a click, and 32nd notes of a quarter note
abbrev pub signature : List ℕ → Option Meaning
signature (num ∷ dd ∷ clocks ∷ parts ∷ []) = Some (Event (Signature num dd))
signature _ = None

-- "Key Signature": sharps, or flats where below 0, at most seven of them; and 0 for major or 1 for minor
abbrev pub key_signature : List ℕ → Option Meaning
key_signature (sharps ∷ minor ∷ []) =
    if (nat_le sharps 7 || nat_le 249 sharps) && nat_le minor 1 then Some (Event (KeySig (cast_signed w8 sharps))) else None
key_signature _ = None

-- what a meta event of this type says
abbrev pub meta_meaning : ℕ → List ℕ → Option Meaning
meta_meaning type said =
    if type == 0x2f then end_of_track said
    else (if type == 0x51 then tempo said
    else (if type == 0x58 then signature said
    else (if type == 0x59 then key_signature said
    else Some Skipped)))

-- the meta event whose ff stands at the place p, and the place after it
unfoldable pub meta_event : List ℕ → ℕ → Result (Meaning × ℕ) SmfFault
meta_event bytes p = do
  type ← byte bytes (p + 1)
  size ← quantity bytes (p + 2)
  said ← content bytes size.1 size.0
  meaning ← or_smf_fault (meta_meaning type said) (BadMeta p)
  Ok (meaning, size.1 + size.0)
