-- A session that answers a script is opened, or has a fault.
use Rattle.std.proofs.Common.{inl, inr, refl, Result, Ok, Err}
use Rattle.answer_laws.proofs.Openings.{opening_or_fault}
use Rattle.rhythm_app.specs.Outcome.{IsAnswering, Ready, open_stop, serve}
use Rattle.rhythm_app.specs.declared.request.Talk.{Talk}
use Rattle.rhythm_app.specs.declared.stop.Stop.{Stop}
use Rattle.rhythm_base.specs.Grammar.{Grammar}
use Rattle.rhythm_base.specs.Performance.{IsWellFormed, Performance}
use Rattle.rhythm_base.specs.Readable.{IsReadable}

pub some_answering : (talk : Talk) (g : Grammar) (p : Performance) → IsReadable g → IsWellFormed p → (r : Result Ready Stop) × IsAnswering talk g p r
some_answering talk g p readable formed = elim (opening_or_fault g p readable formed) [
  | inl can ↦ (Ok (serve talk g p), (can, refl, refl, refl))
  | inr fault ↦ (Err (open_stop fault.0), (fault.0, fault.2, fault.1, refl))
]
