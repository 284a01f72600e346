-- Events of which one begins a note have a note.
use Rattle.std.proofs.Common.{◌≡◌, ℕ, zero, suc, ◌<◌, ◌≤◌, inl, inr, List, [], ◌∷◌, length, refl, ◌∙◌, arith}
use Rattle.std.specs.Prelude.{All, Contains}
use Rattle.std.proofs.lemmas.Bool.{cases_order}
use Rattle.std.proofs.lemmas.Bool.Decides.{eqb_tells}
use Rattle.std.proofs.lemmas.List.Elements.{All-cons, All-nil}
use Rattle.rhythm_base.specs.declared.event.Event.{Event}
use Rattle.rhythm_base.specs.declared.note.Note.{Note}
use Rattle.rhythm_base.specs.Notes.{IsKept, begun}
use Rattle.note_list.proofs.Ending.{silent_if_none}
use Rattle.note_list.specs.Pairing.{ArePaired}

abbrev Longer : Note → Note → Type 0
Longer n m = m.channel ≡ n.channel → m.key ≡ n.key → m.onset ≡ n.onset → m.end ≤ n.end

later : (k : Note) (ns : List Note) (n m : Note) → Contains (n ∷ ns) m → Contains (n ∷ k ∷ ns) m
later k ns n m (zero, lt, at) = (0, omega arith, at)
later k ns n m (suc i, lt, at) = (suc (suc i), omega (arith, lt), at)

-- a longer note at one place takes the place of the one kept so far
replaced : (n k m : Note) (ns : List Note) → IsKept (n ∷ ns) m → k.channel ≡ m.channel → k.key ≡ m.key → k.onset ≡ m.onset → m.end < k.end → IsKept (n ∷ k ∷ ns) k
replaced n k m ns kept c e o longer =
    let all : All (Longer k) (n ∷ ns) = λ i d lt channel key onset. (
    let le = kept.1 i d lt (channel ∙ c) (key ∙ e) (onset ∙ o) in
    omega (arith, le, longer)) in (
      (1, omega arith, refl),
      All-cons (Longer k) n (k ∷ ns) (all 0 n (omega arith)) (All-cons (Longer k) k ns (λ _ _ _. omega arith) (λ i d lt. all (suc i) d (omega (arith, lt)))),
    )

-- or it does not
stays : (n k m : Note) (ns : List Note) → IsKept (n ∷ ns) m → Longer m k → IsKept (n ∷ k ∷ ns) m
stays n k m ns kept longer = (
  later k ns n m kept.0,
  All-cons (Longer m) n (k ∷ ns) (kept.1 0 n (omega arith)) (All-cons (Longer m) k ns longer (λ i d lt. kept.1 (suc i) d (omega (arith, lt)))),
)

-- of one note or more some is kept
some_kept : (n : Note) (ns : List Note) → (m : Note) × IsKept (n ∷ ns) m
some_kept n [] = (n, ((0, omega arith, refl), All-cons (Longer n) n [] (λ _ _ _. omega arith) (All-nil (Longer n))))
some_kept n (k ∷ ns) = by (some_kept n ns)
  where
    by : (m : Note) × IsKept (n ∷ ns) m → (m : Note) × IsKept (n ∷ k ∷ ns) m
    by (m, kept) =
        elim (eqb_tells k.channel m.channel) [
          | inr other ↦ (m, stays n k m ns kept (λ c e o. absurd (other.1 c)))
          | inl c ↦ elim (eqb_tells k.key m.key) [
            | inr other ↦ (m, stays n k m ns kept (λ c e o. absurd (other.1 e)))
            | inl e ↦ elim (eqb_tells k.onset m.onset) [
              | inr other ↦ (m, stays n k m ns kept (λ c e o. absurd (other.1 o)))
              | inl o ↦ elim (cases_order m.end k.end) [
                | inl same ↦ (m, stays n k m ns kept (λ _ _ _. omega (arith, same)))
                | inr order ↦ elim order [
                  | inl less ↦ (k, replaced n k m ns kept c.1 e.1 o.1 less)
                  | inr more ↦ (m, stays n k m ns kept (λ _ _ _. omega (arith, more)))
                ]
              ]
            ]
          ]
        ]

kept_in : (notes : List Note) (ns : List Note) → ((n : Note) → IsKept ns n → Contains notes n) → (ns ≡ [] → ⊥) → 1 ≤ length notes
kept_in notes [] kept some = absurd (some refl)
kept_in [] (n ∷ ns) kept some = let one = some_kept n ns in let h = kept one.0 one.1 in absurd (omega (arith, h.1))
kept_in (m ∷ notes) (n ∷ ns) kept some = omega arith

pub some_note : (last : ℕ) (events : List Event) (notes : List Note) → ArePaired last events notes → 1 ≤ length notes
some_note last events notes h = kept_in notes (begun last events) (λ n kept. (h.notes.kept n).1 kept) (λ none. h.sounding (silent_if_none last events none))
