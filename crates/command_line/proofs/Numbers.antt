-- Numbers by a test and as a relation.
use Rattle.std.proofs.Common.{◌≡◌, ℕ, ◌≤◌, Bool, ◌&&◌, true, false, Some, None, refl, arith, length}
use Rattle.std.specs.Prelude.{◌↔◌, if◌then◌else◌, nat_le}
use Rattle.std.specs.Char.{is_ascii_digit}
use Rattle.std.specs.List.{list_all}
use Rattle.std.specs.Str.Parse.{digits_value}
use Rattle.std.proofs.lemmas.Bool.{and_parts}
use Rattle.std.proofs.lemmas.Bool.Decides.{nat_tests}
use Rattle.rhythm_base.specs.Numerals.{IsNumber}
use Rattle.command_line.specs.Numbers.{is_number, number_in}
use Rattle.command_line.proofs.Rows.{Text}

some_where : (test : Bool) (v n : ℕ) → (if test then Some v else None) ≡ Some n → (test ≡ true) × (v ≡ n)
some_where true v n e = (refl, cc)
some_where false v n e = cc

pub as_in_scripts : (least most n : ℕ) (word : Text) → (number_in least most word ≡ Some n) ↔ (IsNumber most n word × (least ≤ n))
as_in_scripts least most n word = (to, from)
  where
    to : number_in least most word ≡ Some n → IsNumber most n word × (least ≤ n)
    to e =
        let found = some_where (is_number word && (nat_le least (digits_value 10 word) && nat_le (digits_value 10 word) most)) (digits_value 10 word) n e in
        let parts = and_parts (is_number word) (nat_le least (digits_value 10 word) && nat_le (digits_value 10 word) most) found.0 in
        let range = and_parts (nat_le least (digits_value 10 word)) (nat_le (digits_value 10 word) most) parts.1 in
        let form = and_parts (nat_le 1 (length word)) (nat_le (length word) 10 && list_all is_ascii_digit word) parts.0 in
        let rest = and_parts (nat_le (length word) 10) (list_all is_ascii_digit word) form.1 in (
          record {
            some = grind (arith, nat_tests, form.0);
            few = grind (arith, nat_tests, rest.0);
            digits = rest.1;
            value = found.1;
            high = grind (arith, nat_tests, range.1, found.1);
          },
          grind (arith, nat_tests, range.0, found.1),
        )

    from : IsNumber most n word × (least ≤ n) → number_in least most word ≡ Some n
    from is =
        let some : nat_le 1 (length word) ≡ true = grind (arith, nat_tests, is.0.some) in
        let few : nat_le (length word) 10 ≡ true = grind (arith, nat_tests, is.0.few) in
        let digits : list_all is_ascii_digit word ≡ true = is.0.digits in
        let value : digits_value 10 word ≡ n = is.0.value in
        let low : nat_le least n ≡ true = grind (arith, nat_tests, is.1) in
        let high : nat_le n most ≡ true = grind (arith, nat_tests, is.0.high) in
        rw (value, some, few, digits, low, high) refl
