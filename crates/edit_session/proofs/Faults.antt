-- There is one reason why a performance is not opened, and none where it is.
use Rattle.std.proofs.Common.{◌≡◌, ◌≢◌, ℕ, ◌<◌, List, length, get_or, take, refl, sym, ap, ◌∙◌, subst, inl, inr, arith}
use Rattle.std.specs.Prelude.{Some, None, slice_get}
use Rattle.std.proofs.lemmas.Bool.{cases_order}
use Rattle.std.proofs.lemmas.List.{get_or-take, length-take-le}
use Rattle.std.proofs.lemmas.List.Elements.{All-contains}
use Rattle.std.proofs.lemmas.Option.{get_or_from_slice_get, slice_get_within}
use Rattle.bar_cut.specs.Cuts.{IsFirstWithoutStart}
use Rattle.bar_cut.specs.declared.fault.CutFault.{CutFault}
use Rattle.bar_cut.specs.declared.fault.CutFault.TheVariants as cut
use Rattle.rhythm_base.specs.declared.note.Bar.{Bar}
use Rattle.rhythm_base.specs.Grammar.{Grammar, root_of}
use Rattle.rhythm_base.specs.Performance.{IsWellFormed, Performance}
use Rattle.rhythm_base.specs.Readable.{IsReadable}
use Rattle.rhythm_base.specs.Voices.{HasDerivation, HasStarts}
use Rattle.performance_laws.proofs.OneVoices.{dead_has_none, one_dead_voice}
use Rattle.edit_session.specs.Opening.{CanOpen, IsInputFault, IsOpenFault, fault_of_cut}
use Rattle.edit_session.specs.declared.open_fault.OpenFault.{OpenFault}
use Rattle.edit_session.specs.declared.open_fault.OpenFault.TheVariants.{Cells, NoStart, NoDerivation, Memory}

abbrev HasRoot : Grammar → Bar → Type 0
HasRoot g b = root_of g.starts b.num b.den ≢ None

-- a bar without a root symbol is not one of bars that all have one
wanting : (g : Grammar) (bars : List Bar) (bar num den : ℕ) → IsFirstWithoutStart g bars bar num den → HasStarts g bars → ⊥
wanting g bars bar num den h all =
    let lt = slice_get_within bars bar h.it h.there in
    let is : get_or bars bar h.it ≡ h.it = get_or_from_slice_get bars bar h.it h.it h.there in
    let root : HasRoot g h.it = subst (HasRoot g) is (all bar h.it lt) in
    root ((λ i. root_of g.starts (sym h.signature.0 i) (sym h.signature.1 i)) ∙ h.none)

-- nor is it one of the bars before another that is the first
earlier : (g : Grammar) (bars : List Bar) (i num den j num' den' : ℕ) → IsFirstWithoutStart g bars i num den → IsFirstWithoutStart g bars j num' den' → i < j → ⊥
earlier g bars i num den j num' den' h k lt =
    let within = slice_get_within bars j k.it k.there in
    let front : length (take j bars) ≡ j = length-take-le j bars (omega (arith, within)) in
    let is : get_or (take j bars) i h.it ≡ h.it = get_or-take j bars i h.it lt ∙ get_or_from_slice_get bars i h.it h.it h.there in
    let root : HasRoot g h.it = subst (HasRoot g) is (k.first i h.it (omega (arith, front, lt))) in
    root ((λ m. root_of g.starts (sym h.signature.0 m) (sym h.signature.1 m)) ∙ h.none)

one_wanting : (g : Grammar) (bars : List Bar) (i num den j num' den' : ℕ) → IsFirstWithoutStart g bars i num den → IsFirstWithoutStart g bars j num' den' → NoStart i num den ≡ NoStart j num' den'
one_wanting g bars i num den j num' den' h k = elim (cases_order i j) [
  | inl same ↦
      let there : Some h.it ≡ Some k.it = sym h.there ∙ ap (λ n. slice_get bars n) same ∙ k.there in
      let it : h.it ≡ k.it = cc in
      let first : num ≡ num' = h.signature.0 ∙ ap (λ (b : Bar). b.num) it ∙ sym k.signature.0 in
      let second : den ≡ den' = h.signature.1 ∙ ap (λ (b : Bar). b.den) it ∙ sym k.signature.1 in
      λ m. NoStart (same m) (first m) (second m)
  | inr other ↦ elim other [ inl less ↦ absurd (earlier g bars i num den j num' den' h k less) | inr more ↦ absurd (earlier g bars j num' den' i num den k h more) ]
]

pub one_fault : (g : Grammar) (p : Performance) (a b : OpenFault) → IsReadable g → IsWellFormed p → a ≢ Memory → b ≢ Memory → IsOpenFault g p a → IsOpenFault g p b → a ≡ b
one_fault g p (Cells m) (Cells n) r w x y h k = ap Cells (h.0 ∙ sym k.0)
one_fault g p (Cells m) (NoStart bar num den) r w x y h k = absurd (omega (arith, h.1, k.0))
one_fault g p (Cells m) (NoDerivation channel bar) r w x y h k = absurd (omega (arith, h.1, k.0))
one_fault g p (Cells m) Memory r w x y h k = absurd (y refl)
one_fault g p (NoStart bar num den) (Cells n) r w x y h k = absurd (omega (arith, h.0, k.1))
one_fault g p (NoStart bar num den) (NoStart bar' num' den') r w x y h k = one_wanting g p.bars bar num den bar' num' den' h.1 k.1
one_fault g p (NoStart bar num den) (NoDerivation channel dead) r w x y h k = absurd (wanting g p.bars bar num den h.1 k.1.starts)
one_fault g p (NoStart bar num den) Memory r w x y h k = absurd (y refl)
one_fault g p (NoDerivation channel bar) (Cells n) r w x y h k = absurd (omega (arith, h.0, k.1))
one_fault g p (NoDerivation channel dead) (NoStart bar num den) r w x y h k = absurd (wanting g p.bars bar num den k.1 h.1.starts)
one_fault g p (NoDerivation channel bar) (NoDerivation channel' bar') r w x y h k =
    let same = one_dead_voice g p r.ranges.some_unit w channel bar channel' bar' h.1 k.1 in
    λ m. NoDerivation (same.0 m) (same.1 m)
one_fault g p (NoDerivation channel bar) Memory r w x y h k = absurd (y refl)
one_fault g p Memory b r w x y h k = absurd (x refl)

pub fault_or_open : (g : Grammar) (p : Performance) (a : OpenFault) → IsReadable g → IsWellFormed p → a ≢ Memory → CanOpen g p → IsOpenFault g p a → ⊥
fault_or_open g p (Cells n) r w x can h = omega (arith, can.cells, h.1)
fault_or_open g p (NoStart bar num den) r w x can h = wanting g p.bars bar num den h.1 can.starts
fault_or_open g p (NoDerivation channel bar) r w x can h =
    dead_has_none g p r.ranges.some_unit w channel bar h.1 (All-contains (HasDerivation g p) p.channels channel can.derivations h.1.voice)
fault_or_open g p Memory r w x can h = x refl

-- what is wrong where a voice is not cut, in bars that all have a root symbol or of which one is the first without
pub input_fault : (g : Grammar) (p : Performance) (fault : CutFault) → HasStarts g p.bars → ((bar num den : ℕ) → fault ≡ cut.NoStart bar num den → IsFirstWithoutStart g p.bars bar num den)
    → IsInputFault g p (fault_of_cut fault)
input_fault g p (cut.NoStart bar num den) starts first = first bar num den refl
input_fault g p cut.Memory starts first = starts
