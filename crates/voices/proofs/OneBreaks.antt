-- Of two last breaks up to a place, as of two next ones from a place on, neither is before the other.
use Rattle.std.proofs.Common.{◌≡◌, ℕ, inl, inr, List, arith}
use Rattle.std.proofs.lemmas.Bool.{cases_lt}
use Rattle.rhythm_base.specs.declared.event.Tempo.{Tempo}
use Rattle.rhythm_base.specs.declared.note.Note.{Note}
use Rattle.voices.specs.Breaks.{IsLastBreak, IsNextBreak}

pub one_last : (tempos : List Tempo) (division window : ℕ) (notes : List Note) (most some other : ℕ)
    → IsLastBreak tempos division window notes most some → IsLastBreak tempos division window notes most other → some ≡ other
one_last tempos division window notes most some other a b = elim (cases_lt some other) [
  | inl less ↦ absurd (a.last other less b.within b.break)
  | inr above ↦ elim (cases_lt other some) [
    | inl less ↦ absurd (b.last some less a.within a.break)
    | inr below ↦ omega (arith, above, below)
  ]
]

pub one_next : (tempos : List Tempo) (division window : ℕ) (notes : List Note) (least some other : ℕ)
    → IsNextBreak tempos division window notes least some → IsNextBreak tempos division window notes least other → some ≡ other
one_next tempos division window notes least some other a b = elim (cases_lt some other) [
  | inl less ↦ absurd (b.first some a.from less a.break)
  | inr above ↦ elim (cases_lt other some) [
    | inl less ↦ absurd (a.first other b.from less b.break)
    | inr below ↦ omega (arith, above, below)
  ]
]
