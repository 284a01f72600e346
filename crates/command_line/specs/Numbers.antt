-- The numbers of a command line.
use Rattle.std.specs.Prelude.{ℕ, ℤ, pos, neg_ℤ, ◌==◌, ◌&&◌, Bool, if◌then◌else◌, List, [], ◌∷◌, length, nat_le, Option, Some, None, option_and_then, option_map}
use Rattle.std.specs.Char.{is_ascii_digit}
use Rattle.std.specs.List.{after_first, before_first, list_all}
use Rattle.std.specs.Str.Parse.{digits_value}
use Rattle.performance_prepare.specs.declared.options.Fraction.{Fraction}
use Rattle.rhythm_base.specs.Signatures.{is_den}

-- one to ten decimal digits
abbrev pub is_number : List ℕ → Bool
is_number word = nat_le 1 (length word) && (nat_le (length word) 10 && list_all is_ascii_digit word)

-- the number that a word says, where it lies in the range; leading zeros are read
abbrev pub number_in : ℕ → ℕ → List ℕ → Option ℕ
number_in least most word =
    if is_number word && (nat_le least (digits_value 10 word) && nat_le (digits_value 10 word) most)
    then Some (digits_value 10 word)
    else None

-- the number of workers, 1 to 16, by the word of the option; 1 without the option
abbrev pub workers_of : Option (List ℕ) → Option ℕ
workers_of None = Some 1
workers_of (Some word) = number_in 1 16 word

abbrev pub is_slash : ℕ → Bool
is_slash byte = byte == 47

-- the fraction of two numbers, where the second is a power of two
abbrev pub fraction_of : ℕ → ℕ → Option Fraction
fraction_of num den = if is_den den then Some (record { num = num; den = den }) else None

-- the fraction that a word says: a number up to 64, a slash, and a power of two up to 64
abbrev pub fraction_in : ℕ → List ℕ → Option Fraction
fraction_in least word =
    option_and_then (λ (num : ℕ). option_and_then (λ (den : ℕ). fraction_of num den) (number_in 1 64 (after_first is_slash word)))
    (number_in least 64 (before_first is_slash word))

-- what stands after a hyphen
abbrev pub after_hyphen : List ℕ → Option (List ℕ)
after_hyphen [] = None
after_hyphen (byte ∷ bytes) = if byte == 45 then Some bytes else None

-- so many sharps, or so many flats after a hyphen, 0 to 7
abbrev pub key_by : List ℕ → Option (List ℕ) → Option ℤ
key_by word None = option_map pos (number_in 0 7 word)
key_by word (Some flats) = option_map (λ (n : ℕ). neg_ℤ (pos n)) (number_in 0 7 flats)

abbrev pub key_in : List ℕ → Option ℤ
key_in word = key_by word (after_hyphen word)

-- a channel but that of drums
abbrev pub keyboard_of : ℕ → Option ℕ
keyboard_of channel = if channel == 9 then None else Some channel

abbrev pub keyboard_in : List ℕ → Option ℕ
keyboard_in word = option_and_then keyboard_of (number_in 0 15 word)
