-- Words that say a number.
use Rattle.std.specs.Prelude.{◌≡◌, ℕ, ◌≤◌, IsTrue, List, length}
use Rattle.std.specs.Char.{is_ascii_digit}
use Rattle.std.specs.List.{list_all}
use Rattle.std.specs.Str.Parse.{digits_value}

-- a number up to a greatest one, in one to ten decimal digits; leading zeros are read
pub record IsNumber (most n : ℕ) (word : List ℕ) : Type 0 where
  pub some : 1 ≤ length word
  pub few : length word ≤ 10
  pub digits : IsTrue (list_all is_ascii_digit word)
  pub value : digits_value 10 word ≡ n
  pub high : n ≤ most
