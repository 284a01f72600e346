-- Each file says one thing or has one fault.
use Rattle.std.proofs.Common.{◌≡◌, ◌⊎◌, ℕ, List, Result, Ok, Err, refl, sym, ◌∙◌, inl, inr}
use Rattle.smf_reader.specs.declared.fault.SmfFault.{SmfFault}
use Rattle.smf_reader.specs.Played.{Smf}
use Rattle.smf_reader.specs.SmfFile.{smf}
use Rattle.smf_reader.proofs.NeverMemory.{never_memory}
use Rattle.smf_reader.specs.Outcomes.{SaysFile, FaultStands, HasOneOutcome}

some : (bytes : List ℕ) (outcome : Result Smf SmfFault) → smf bytes ≡ outcome → ((played : Smf) × SaysFile bytes played) ⊎ ((fault : SmfFault) × FaultStands bytes fault)
some bytes (Ok played) h = inl (played, h)
some bytes (Err fault) h = inr (fault, h)

same_reading : (p q : Smf) → ◌≡◌ {A = Result Smf SmfFault} (Ok p) (Ok q) → p ≡ q
same_reading p q h = cc

same_fault : (e f : SmfFault) → ◌≡◌ {A = Result Smf SmfFault} (Err e) (Err f) → e ≡ f
same_fault e f h = cc

not_both : (p : Smf) (f : SmfFault) → ◌≡◌ {A = Result Smf SmfFault} (Ok p) (Err f) → ⊥
not_both p f h = cc

pub one_outcome : (bytes : List ℕ) → HasOneOutcome bytes
one_outcome bytes = record {
  some_outcome = some bytes (smf bytes) refl;
  one_reading = λ p q says too. same_reading p q (sym says ∙ too);
  one_fault = λ e f stands too. same_fault e f (sym stands ∙ too);
  never_both = λ p f says stands. not_both p f (sym says ∙ stands);
  never_memory = never_memory bytes;
}
