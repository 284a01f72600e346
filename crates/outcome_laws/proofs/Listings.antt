-- The score of a **kern file has the text of its events.
use Rattle.std.proofs.Common.{refl, Result, Ok}
use Rattle.kern_laws.proofs.EventsExist.{events_exist}
use Rattle.kern_reader.specs.EventText.{events_text}
use Rattle.kern_reader.specs.Score.{IsKernScore, KernColumns}
use Rattle.rhythm_app.specs.Outcome.{IsListing, Ready, say}
use Rattle.rhythm_app.specs.declared.stop.Stop.{Stop}

pub some_listing : (score : KernColumns) → IsKernScore score → (r : Result Ready Stop) × IsListing score r
some_listing score well = let list = events_exist score well in (Ok (say (events_text list.0)), (list.0, list.1, refl))
