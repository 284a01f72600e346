-- What holds of takes and of their performances.
use Rattle.rhythm_base.specs.declared.limits.TheConstants.{LATEST_EVENT}
use Rattle.std.specs.Prelude.{◌≡◌, ◌≢◌, ◌↔◌, Result, Err}
use Rattle.note_list.specs.declared.fault.NoteFault.{NoteFault}
use Rattle.note_list.specs.declared.fault.NoteFault.TheVariants as note
use Rattle.rhythm_base.specs.Performance.{IsWellFormed, Performance}
use Rattle.smf_reader.specs.Played.{Smf}
use Rattle.smf_reader.specs.Ranges.{IsPlayedFile}
use Rattle.performance_load.specs.Loading.{IsLoaded}
use Rattle.performance_load.specs.Take.{Take}
use Rattle.performance_load.specs.Taking.{AreMarksUpTo, IsLoadedOf, IsTake, IsTakeFormed, LoadsTake, Takes}
use Rattle.performance_load.specs.declared.load_fault.LoadFault.{LoadFault}
use Rattle.performance_load.specs.declared.load_fault.LoadFault.TheVariants.{Memory}

-- a file has one take, or one fault, but for want of memory
abbrev pub TakesAreOne : Type 0
TakesAreOne = (f : Smf) (r s : Result Take NoteFault) → Takes f r → Takes f s → r ≢ Err note.Memory → s ≢ Err note.Memory → r ≡ s

-- the take of a file that is in the ranges of what a file can say is well formed, and its changes are no later than the file's ticks
abbrev pub TakesAreFormed : Type 0
TakesAreFormed = (f : Smf) (t : Take) → IsPlayedFile f → IsTake f t → IsTakeFormed t × AreMarksUpTo LATEST_EVENT t

pub record TakesAreLoadedAsOne : Type 0 where
  -- a take has one performance, or one fault, but for want of memory
  pub one : (t : Take) (r s : Result Performance LoadFault) → LoadsTake t r → LoadsTake t s → r ≢ Err Memory → s ≢ Err Memory → r ≡ s
  -- and that of a well-formed take is well formed
  pub formed : (t : Take) (p : Performance) → IsTakeFormed t → IsLoadedOf t p → IsWellFormed p

-- a file is loaded as its take is
abbrev pub LoadingsAreOfTakes : Type 0
LoadingsAreOfTakes = (f : Smf) (p : Performance) → IsLoaded f p ↔ ((t : Take) × IsTake f t × IsLoadedOf t p)
