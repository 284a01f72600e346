use Rattle.edit_session.proofs.Faults.{one_fault, fault_or_open}
use Rattle.edit_session.proofs.laws.openings_are_one.Goals as goal

pub returns : goal.returns
returns c = record { fault = one_fault; either = fault_or_open }
