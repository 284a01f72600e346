-- Bars that are laid for the notes of a file are such as a performance wants.
use Rattle.std.proofs.Common.{◌≡◌, ℕ, ◌+◌, ◌<◌, ◌≤◌, List, [], ◌∷◌, ◌++◌, length, subst, sym, arith}
use Rattle.std.specs.Prelude.{Ok}
use Rattle.std.proofs.Math.Seq.{take-append_seam}
use Rattle.std.proofs.lemmas.List.{append-nil, append_assoc, length-append}
use Rattle.rhythm_base.specs.Bars.{AreEnough, AreLaid, AreTooFew, IsLaying, nominal_at}
use Rattle.rhythm_base.specs.declared.event.Signature.{Signature}
use Rattle.rhythm_base.specs.declared.note.Bar.{Bar}
use Rattle.tempo_map.proofs.BarByBar.{Laying, are_bars, laying_more, laying_none}
use Rattle.tempo_map.specs.Laying.{AreBars}

module _ (division : ℕ) (signatures : List Signature) (onset end : ℕ) (few : division ≤ 32767) (early : onset ≤ end) (near : end ≤ 1000000000) where
  abbrev AreLaying : List Bar → ℕ → Type 0
  AreLaying bars e = Laying division signatures onset end bars e

  abbrev AreFewest : List Bar → Type 0
  AreFewest bars = (k : ℕ) → k < length bars → AreTooFew division signatures onset end bars k

  -- the first bars, which others follow, are not enough
  not_enough : (front rest : List Bar) (bar : Bar) (b : ℕ) → AreLaying front b → AreFewest (front ++ bar ∷ rest) → AreEnough onset end front b → ⊥
  not_enough front rest bar b h fewest enough =
      let before : length front < length (front ++ bar ∷ rest) = omega (arith, length-append front (bar ∷ rest)) in
      let same = sym (take-append_seam front (bar ∷ rest)) in
      fewest (length front) before b (subst (λ l. AreLaid division signatures 0 0 l b) same h.laid) (subst (λ l. AreEnough onset end l b) same enough)

  -- bars after those laid so far
  laying_on : (front rest : List Bar) (b e : ℕ) → AreLaying front b → AreLaid division signatures (length front) b rest e → AreFewest (front ++ rest)
      → AreLaying (front ++ rest) e
  laying_on front [] b e h laid fewest = subst (AreLaying (front ++ [])) laid (subst (λ l. AreLaying l b) (sym (append-nil front)) h)
  laying_on front (bar ∷ rest) b e h laid fewest =
      let next = laying_more division signatures onset end front b bar few early near h (not_enough front rest bar b h fewest) (laid.0, laid.1) in
      let long : length front + 1 ≡ length (front ++ bar ∷ []) = omega (arith, length-append front (bar ∷ [])) in
      let joined = append_assoc front (bar ∷ []) rest in
      subst (λ l. AreLaying l e) joined
      (laying_on (front ++ bar ∷ []) rest (b + nominal_at division signatures b) e next
      (subst (λ n. AreLaid division signatures n (b + nominal_at division signatures b) rest e) long laid.2) (subst AreFewest (sym joined) fewest))

  pub laid_are_bars : (bars : List Bar) (last : ℕ) → 1 ≤ division → IsLaying division signatures onset end (Ok (bars, last)) → AreBars division bars last
  laid_are_bars bars last some h =
      are_bars division signatures onset end bars last some (laying_on [] bars 0 last (laying_none division signatures onset end) h.0 h.2) h.1
