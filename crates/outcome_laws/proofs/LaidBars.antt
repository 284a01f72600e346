-- Bars can be laid, up to enough of them or to the first fault.
use Rattle.std.proofs.Common.{◌≡◌, ℕ, zero, suc, ◌+◌, ◌-◌, ◌*◌, ◌^◌, ◌≤◌, inl, inr, List, [], ◌∷◌, ◌++◌, length, refl, arith, Option, Some, None, Result, Ok, Err}
use Rattle.std.proofs.lemmas.List.{length-append}
use Rattle.answer_laws.proofs.Decisions.{Decided, decided_both, decided_like, decided_most}
use Rattle.rhythm_base.specs.declared.bar_fault.BarFault.{BarFault}
use Rattle.rhythm_base.specs.declared.event.Signature.{Signature}
use Rattle.rhythm_base.specs.declared.note.Bar.{Bar}
use Rattle.rhythm_base.specs.Bars.{AreEnough, IsAtBarline, IsLaying, fault_at, nominal_at, signature_at}
use Rattle.rhythm_base.specs.Lists.{last_of}
use Rattle.tempo_map.proofs.BarByBar.{Laying, is_fault, is_laying, laying_more, laying_none}
use Rattle.outcome_laws.proofs.Decided.{decided_less, decided_not}

decided_at_barline : (onset : ℕ) (last : Option Bar) (e : ℕ) → Decided (IsAtBarline onset last e)
decided_at_barline onset None e = inr (λ h. h)
decided_at_barline onset (Some bar) e = decided_both (decided_most bar.start onset) (decided_less (15 * (e - bar.start)) (16 * (onset - bar.start)))

decided_enough : (onset end : ℕ) (bars : List Bar) (e : ℕ) → Decided (AreEnough onset end bars e)
decided_enough onset end bars e =
    decided_like (λ h. record { ends = h.0; begins = h.1.0; inside = h.1.1 }) (λ h. (h.ends, (h.begins, h.inside)))
    (decided_both (decided_most end e) (decided_both (decided_less onset e) (decided_not (decided_at_barline onset (last_of bars) e))))

module _ (division : ℕ) (signatures : List Signature) (onset end : ℕ) (few : division ≤ 32767) (early : onset ≤ end) (near : end ≤ 1000000000) where
  abbrev HasLaying : Type 0
  HasLaying = (r : Result (List Bar × ℕ) BarFault) × IsLaying division signatures onset end r

  -- after these bars at most so many more are laid
  laid_after : (more : ℕ) (bars : List Bar) (e : ℕ) → Laying division signatures onset end bars e → 4097 ≤ more + length bars → HasLaying
  laid_after zero bars e laid many = absurd (omega (arith, laid.count, many))
  laid_after (suc more) bars e laid many = go (decided_enough onset end bars e) (fault_at division signatures (length bars) e) refl (laid_after more)
    where
      go : Decided (AreEnough onset end bars e) → (o : Option BarFault) → fault_at division signatures (length bars) e ≡ o
          → ((longer : List Bar) (f : ℕ) → Laying division signatures onset end longer f → 4097 ≤ more + length longer → HasLaying) → HasLaying
      go (inl enough) o is later = (Ok (bars, e), is_laying division signatures onset end bars e laid enough)
      go (inr never) (Some fault) is later = (Err fault, is_fault division signatures onset end bars e fault laid never is)
      go (inr never) None is later =
          let own : Bar = record { start = e; num = (signature_at signatures e).0; den = 2 ^ (signature_at signatures e).1 } in
          later (bars ++ own ∷ []) (e + nominal_at division signatures e)
          (laying_more division signatures onset end bars e own few early near laid never (is, refl)) (omega (arith, many, length-append bars (own ∷ [])))

  pub some_laying : HasLaying
  some_laying = laid_after 4097 [] 0 (laying_none division signatures onset end) (omega arith)
