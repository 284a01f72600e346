use Rattle.std.proofs.Common.{rules, ◌≡◌, ℕ, length, subst, inl, inr, arith}
use Rattle.std.proofs.lemmas.Bool.{cases_lt}
use Rattle.voices.specs.Breaks.{IsBreak}
use Rattle.voices.proofs.NoteBreaks.{break_end}
use Rattle.voices.proofs.breaks.break_from.Goals as goal

pub notes-preserved : goal.notes-preserved
notes-preserved c =
    let Break : ℕ → Type 0 = IsBreak c.args.map.now.tempos c.args.division c.args.window c.args.notes.now in
    let not : Break c.notes.place → ⊥ = λ is. let wrong = c.is_break.ensures.1 is in absurd (cc) in
    record {
      from = omega (arith, c.notes.invariant.from);
      within = elim (cases_lt c.notes.place (length c.args.notes.now)) [
        | inl lt ↦ omega (arith, lt)
        | inr le ↦ absurd (not (break_end c.args.map.now.tempos c.args.division c.args.window c.args.notes.now c.notes.place le))
      ];
      first = λ k le lt is. elim (cases_lt k c.notes.place) [
        | inl earlier ↦ c.notes.invariant.first k le earlier is
        | inr here ↦ let same : k ≡ c.notes.place = omega (arith, here, lt) in not (subst Break same is)
      ];
    }

pub returns : goal.returns
returns c = record { from = c.notes.invariant.from; within = c.notes.invariant.within; break = c.is_break.ensures.0 (search rules); first = c.notes.invariant.first }
