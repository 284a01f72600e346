-- The way back over edits that were made, and that the edits lead to where it begins.
use Rattle.std.proofs.Common.{◌≡◌, ℕ, ◌≤◌, List, [], ◌∷◌, ◌++◌, refl, ap, sym, ◌∙◌, subst, arith, Ok}
use Rattle.std.specs.Prelude.{All, reverse}
use Rattle.std.proofs.lemmas.List.{reverse-append}
use Rattle.edit_session.specs.Prepared.{Prepared}
use Rattle.rhythm_base.specs.declared.edit.Edit.{Edit}
use Rattle.rhythm_base.specs.EditRanges.{IsEditInRange}
use Rattle.edit_laws.specs.Edits.{edited}
use Rattle.rhythm_base.specs.Grammar.{Grammar}
use Rattle.rhythm_base.specs.Performance.{Performance}
use Rattle.rhythm_base.specs.Voices.{HasDerivation}
use Rattle.barline_follow.specs.Script.{Accepts, Leads}
use Rattle.barline_follow.specs.Trial.{IsStepBack, LeadBack}
use Rattle.barline_follow.proofs.OneAnswers.{same_next}

step_grown : (g : Grammar) (p : Performance) (a b : ℕ) (back : Prepared) → a ≤ b → IsStepBack g p a back → IsStepBack g p b back
step_grown g p a b back le h = record {
  suits = h.suits;
  formed = h.formed;
  derivations = h.derivations;
  room_back = omega (arith, le, h.room_back);
}

-- more room does no harm
pub back_grown : (g : Grammar) (a b : ℕ) (p : Performance) (backs : List Prepared) (start : Performance) → a ≤ b
    → LeadBack g a p backs start → LeadBack g b p backs start
back_grown g a b p [] start le h = h
back_grown g a b p (back ∷ backs) start le h = (step_grown g p a b back le h.0, back_grown g a b back.next backs start le h.1)

-- one step more
pub back_more : (g : Grammar) (a b : ℕ) (p q : Performance) (backs : List Prepared) (back : Prepared) (start : Performance) → a ≤ b
    → LeadBack g a p (reverse backs) start → IsStepBack g q b back → back.next ≡ p → LeadBack g b q (reverse (backs ++ (back ∷ []))) start
back_more g a b p q backs back start le h step next =
    let turned : reverse (backs ++ (back ∷ [])) ≡ back ∷ reverse backs = reverse-append backs (back ∷ []) in
    let rest : LeadBack g b p (reverse backs) start = back_grown g a b p (reverse backs) start le h in
    subst (λ l. LeadBack g b q l start) (sym turned) (step, subst (λ r. LeadBack g b r (reverse backs) start) (sym next) rest)

-- the last step first
pub back_taken : (g : Grammar) (room : ℕ) (p : Performance) (all rest : List Prepared) (back : Prepared) (start : Performance)
    → all ≡ rest ++ (back ∷ []) → LeadBack g room p (reverse all) start
    → IsStepBack g p room back × LeadBack g room back.next (reverse rest) start
back_taken g room p all rest back start is h =
    let turned : reverse all ≡ back ∷ reverse rest = ap reverse is ∙ reverse-append rest (back ∷ []) in
    subst (λ l. LeadBack g room p l start) turned h

-- one edit more
pub leads_more : (g : Grammar) (p q : Performance) (edits : List Edit) (edit : Edit) (next : Performance) → Leads g p edits q
    → IsEditInRange edit → edited q edit ≡ Ok next → All (HasDerivation g next) next.channels → Leads g p (edits ++ (edit ∷ [])) next
leads_more g p q [] edit next h range is derivations =
    let from : edited p edit ≡ Ok next = ap (λ r. edited r edit) (sym h) ∙ is in
    (next, (range, from, derivations), refl)
leads_more g p q (e ∷ edits) edit next h range is derivations =
    (h.0, h.1, leads_more g h.0 q edits edit next h.2 range is derivations)

-- after edits that are accepted the next one is accepted too, where all are
pub next_accepted : (g : Grammar) (p was q : Performance) (edits : List Edit) (edit : Edit) (later : List Edit) → Leads g p edits was
    → Leads g p (edits ++ (edit ∷ later)) q → (next : Performance) × Accepts g was edit next
next_accepted g p was q [] edit later h k = subst (λ (r : Performance). (next : Performance) × Accepts g r edit next) (sym h) (k.0, k.1)
next_accepted g p was q (e ∷ edits) edit later h k =
    let same : k.0 ≡ h.0 = same_next (edited p e) k.0 h.0 k.1.1 h.1.1 in
    next_accepted g h.0 was q edits edit later h.2 (subst (λ (r : Performance). Leads g r (edits ++ (edit ∷ later)) q) same k.2)
