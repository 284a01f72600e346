use Rattle.std.proofs.Common.{◌≡◌, take, min}
use Rattle.std.specs.Str.Parse.{digits_value}
use Rattle.kern_reader.proofs.number.digits_number.Given as goal

abbrev pub invariant-digits : goal.invariant-digits
invariant-digits l = l.value ≡ min (digits_value 10 (take l.digit-index l.digits)) 4294967295
