-- A first part of a text that is short was taken.
use Rattle.std.proofs.Common.{◌≡◌, ◌<◌, ℕ, List, Option, Result, Ok, Err, length, take, arith}
use Rattle.std.specs.Io.KnownBytes.{Appends}
use Rattle.std.specs.Prelude.{IfErr}
use Rattle.edit_script.specs.Sending.{TakesPart, counted}
use Rattle.rhythm_ports.specs.declared.sink.Partial.{Partial}
use Rattle.session_history.specs.StudioReplies.{no_step_text}

-- the count of so few bytes does not stand still
few_counted : (n : ℕ) → n < length no_step_text → n ≡ counted 0 n
few_counted n few = let short : n < 15 = few in omega (arith, short)

pub part_taken : {T : Type 0} (old new : Option (List ℕ)) (result : Result T Partial) → IfErr result (λ e. Appends old new (take e.sent no_step_text))
    → IfErr result (λ e. e.sent < length no_step_text) → IfErr result (λ e. TakesPart old new e.sent no_step_text)
part_taken old new (Ok done) part within = tt
part_taken old new (Err e) part within = (e.sent, within, few_counted e.sent within, part)
