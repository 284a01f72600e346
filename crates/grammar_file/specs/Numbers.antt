-- The numbers of a grammar file.
use Rattle.std.specs.Prelude.{ℕ, Bool, ◌&&◌, if◌then◌else◌, List, length, nat_le, Result, Ok, Err}
use Rattle.std.specs.Char.{is_ascii_digit}
use Rattle.std.specs.List.{list_all}
use Rattle.std.specs.Str.Parse.{digits_value}
use Rattle.rhythm_base.specs.Signatures.{is_den}
use Rattle.grammar_file.specs.declared.fault.GrammarWhat.{GrammarWhat}
use Rattle.grammar_file.specs.declared.fault.GrammarWhat.TheVariants.{Number}

-- decimal digits, one or more
unfoldable pub is_numeral : List ℕ → Bool
is_numeral word = nat_le 1 (length word) && list_all is_ascii_digit word

-- the number of these digits, leading zeros read, in its range
abbrev pub number_within : ℕ → ℕ → List ℕ → Result ℕ GrammarWhat
number_within low high digits =
    if nat_le low (digits_value 10 digits) && nat_le (digits_value 10 digits) high
    then Ok (digits_value 10 digits) else Err (Number high)

-- the value of a beat
abbrev pub beat_of : List ℕ → Result ℕ GrammarWhat
beat_of digits = if is_den (digits_value 10 digits) then Ok (digits_value 10 digits) else Err (Number 64)
