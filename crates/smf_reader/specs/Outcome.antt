-- What reading comes to: a value, or the one fault that stands in the bytes.
use Rattle.std.specs.Prelude.{◌≡◌, ◌≢◌, Option, Some, None, Result, Ok, Err}
use Rattle.smf_reader.specs.declared.fault.SmfFault.{SmfFault}
use Rattle.smf_reader.specs.declared.fault.SmfFault.TheVariants.{Memory}

-- readers one after the other: the next takes what the one before it read, and after a fault nothing is read
infixl 10 ◌>>=◌
abbrev pub ◌>>=◌ : {A B : Type 0} → Result A SmfFault → (A → Result B SmfFault) → Result B SmfFault
(Ok x) >>= next = next x
(Err fault) >>= next = Err fault

-- what is there, or else the fault
abbrev pub or_smf_fault : {A : Type 0} → Option A → SmfFault → Result A SmfFault
or_smf_fault None fault = Err fault
or_smf_fault (Some x) fault = Ok x

-- what was read, seen as a contract sees it
abbrev pub seen_file : {A B : Type 0} → (A → B) → Result A SmfFault → Result B SmfFault
seen_file view (Ok x) = Ok (view x)
seen_file view (Err fault) = Err fault

-- what a reader returned is what reading comes to, unless memory ran out
abbrev pub GivesFile : {A : Type 0} → Result A SmfFault → Result A SmfFault → Type 0
GivesFile (Ok x) outcome = outcome ≡ Ok x
GivesFile (Err fault) outcome = fault ≢ Memory → outcome ≡ Err fault
