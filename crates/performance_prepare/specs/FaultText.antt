-- How it is told to people why a take cannot be prepared.
use Rattle.std.specs.Prelude.{ℕ, List, ◌++◌, codes, decimal}
use Rattle.performance_prepare.specs.declared.prepare_fault.PrepareFault.{PrepareFault}
use Rattle.performance_prepare.specs.declared.prepare_fault.PrepareFault.TheVariants.{BadUpbeat, Memory, NoNotes, TooLate, TooManyVoices, WrongDivision}

abbrev pub fault_text : PrepareFault → List ℕ
fault_text NoNotes = codes "without drums there are no notes"
fault_text (TooManyVoices count) = codes "there would be " ++ (decimal count ++ codes " voices")
fault_text (WrongDivision division) = codes "a quarter note would have " ++ (decimal division ++ codes " ticks")
fault_text (TooLate tick) = codes "the last note would end at tick " ++ decimal tick
fault_text (BadUpbeat num den) = decimal num ++ (codes "/" ++ (decimal den ++ codes " is no upbeat of the first bar"))
fault_text Memory = codes "not enough memory"
