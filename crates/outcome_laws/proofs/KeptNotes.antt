-- The notes of events are some list; they are paired, or have a fault.
use Rattle.std.proofs.Common.{◌≡◌, ◌≢◌, ℕ, ◌≤◌, ◌⊎◌, inl, inr, false, Bool, true, List, length, ap, get_or, refl, sym, arith}
use Rattle.std.proofs.lemmas.Bool.{cases_eq, cases_lt}
use Rattle.answer_laws.proofs.Decisions.{Decided, decided_both, decided_like, decided_most}
use Rattle.answer_laws.proofs.FiniteSets.{IsFinite, all_of, decided_member}
use Rattle.note_list.specs.Pairing.{ArePaired, AreSilent, IsNoteFault, begins}
use Rattle.note_list.specs.declared.fault.NoteFault.{NoteFault}
use Rattle.note_list.specs.declared.fault.NoteFault.TheVariants as note
use Rattle.rhythm_base.specs.declared.event.Event.{Event}
use Rattle.rhythm_base.specs.declared.limits.TheConstants.{MOST_NOTES}
use Rattle.rhythm_base.specs.declared.note.Note.{Note}
use Rattle.rhythm_base.specs.Notes.{AreNotes, IsKept, begun}
use Rattle.rhythm_base.specs.Performance.{place_of_note}
use Rattle.rhythm_base.proofs.FirstLists.{all_contained}
use Rattle.rhythm_base.proofs.NotePlaces.{ArePlacedAlike, same_note}
use Rattle.outcome_laws.proofs.Decided.{decided_every, decided_if}
use Rattle.outcome_laws.proofs.OrderedSets.{AreMembers, some_members}

-- ---- equal notes, and notes that are kept

decided_notes : (m n : Note) → Decided (m ≡ n)
decided_notes m n =
    let channel : Note → ℕ = λ x. x.channel in
    let key : Note → ℕ = λ x. x.key in
    let onset : Note → ℕ = λ x. x.onset in
    let end : Note → ℕ = λ x. x.end in
    decided_like (λ same i. record { channel = same.0 i; key = same.1.0 i; onset = same.1.1.0 i; end = same.1.1.1 i })
    (λ e. (ap channel e, (ap key e, (ap onset e, ap end e))))
    (decided_both (cases_eq m.channel n.channel) (decided_both (cases_eq m.key n.key) (decided_both (cases_eq m.onset n.onset) (cases_eq m.end n.end))))

module _ (played : List Note) where
  decided_kept : (n : Note) → Decided (IsKept played n)
  decided_kept n =
      decided_both (decided_member decided_notes n played)
      (decided_every (λ (m : Note). m.channel ≡ n.channel → m.key ≡ n.key → m.onset ≡ n.onset → m.end ≤ n.end)
      (λ m. decided_if (cases_eq m.channel n.channel) (decided_if (cases_eq m.key n.key) (decided_if (cases_eq m.onset n.onset) (decided_most m.end n.end)))) played)

  finite_kept : IsFinite (IsKept played)
  finite_kept = all_of (IsKept played) (played, λ n kept. kept.0) (λ n there. decided_kept n)

  no_later : (m n : Note) → IsKept played m → IsKept played n → ArePlacedAlike m n → m.end ≤ n.end
  no_later m n h k same =
      all_contained (λ (m : Note). m.channel ≡ n.channel → m.key ≡ n.key → m.onset ≡ n.onset → m.end ≤ n.end) played m k.1 h.0 same.channel same.key same.onset

  turned : (m n : Note) → ArePlacedAlike m n → ArePlacedAlike n m
  turned m n same = record { channel = sym same.channel; onset = sym same.onset; key = sym same.key }

  -- of two that are kept at one place both have the greatest end
  one_kept : (m n : Note) → IsKept played m → IsKept played n → place_of_note m ≡ place_of_note n → m ≡ n
  one_kept m n h k e =
      let same = alike e in
      let up = no_later m n h k same in
      let down = no_later n m k h (turned m n same) in
      same_note m n same (omega (arith, up, down))
    where
      alike : place_of_note m ≡ place_of_note n → ArePlacedAlike m n
      alike e = record { channel = ap (λ l. get_or l 0 0) e; onset = ap (λ l. get_or l 1 0) e; key = ap (λ l. get_or l 2 0) e }

  -- the notes that are kept, in their order
  pub some_kept : (list : List Note) × AreMembers place_of_note (IsKept played) list
  some_kept = some_members place_of_note (IsKept played) one_kept finite_kept

-- ---- the notes of events

module _ (last : ℕ) (events : List Event) where
  some_notes : (list : List Note) × AreNotes last events list
  some_notes =
      let kept = some_kept (begun last events) in
      (kept.0, record { in_order = kept.1.in_order; kept = kept.1.exactly })

  decided_silent : Decided (AreSilent events)
  decided_silent = decided_every (λ (e : Event). begins e.what ≡ false) (λ e. never (begins e.what)) events
    where
      never : (b : Bool) → Decided (b ≡ false)
      never true = inr (λ e. cc)
      never false = inl refl

  -- they are paired, or have a fault that is no want of memory
  pub paired_or_fault : ((notes : List Note) × ArePaired last events notes) ⊎ ((fault : NoteFault) × IsNoteFault last events fault × (fault ≢ note.Memory))
  paired_or_fault = go decided_silent some_notes
    where
      go : Decided (AreSilent events) → (list : List Note) × AreNotes last events list
          → ((notes : List Note) × ArePaired last events notes) ⊎ ((fault : NoteFault) × IsNoteFault last events fault × (fault ≢ note.Memory))
      go (inl silent) (list, are) = inr (note.NoNotes, silent, λ e. cc)
      go (inr sounding) (list, are) = elim (cases_lt MOST_NOTES (length list)) [
        | inl many ↦ inr (note.TooManyNotes (length list), (list, are, refl, many), λ e. cc)
        | inr few ↦ inl (list, record { sounding = sounding; notes = are; few = few })
      ]
