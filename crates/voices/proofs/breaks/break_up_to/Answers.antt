use Rattle.std.proofs.Common.{rules, ◌≡◌, ℕ, subst, inl, inr, arith}
use Rattle.std.proofs.lemmas.Bool.{cases_lt}
use Rattle.voices.specs.Breaks.{IsBreak}
use Rattle.voices.proofs.breaks.break_up_to.Goals as goal

pub notes-preserved : goal.notes-preserved
notes-preserved c =
    let Break : ℕ → Type 0 = IsBreak c.args.map.now.tempos c.args.division c.args.window c.args.notes.now in
    let not : Break c.notes.place → ⊥ = λ is. let wrong = c.is_break.ensures.1 is in absurd (cc) in
    record {
      within = omega (arith, c.notes.invariant.within);
      last = λ k lt le is. elim (cases_lt c.notes.place k) [
        | inl later ↦ c.notes.invariant.last k later le is
        | inr here ↦ let same : k ≡ c.notes.place = omega (arith, here, lt) in not (subst Break same is)
      ];
    }

pub returns : goal.returns
returns c = record { within = c.notes.invariant.within; break = c.is_break.ensures.0 (search rules); last = c.notes.invariant.last }
