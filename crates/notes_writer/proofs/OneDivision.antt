-- The division of bars that are as long as their signatures say.
use Rattle.std.proofs.Common.{◌≡◌, ℕ, ◌+◌, ◌*◌, ◌/◌, ◌%◌, ◌≤◌, List, [], ◌∷◌, length, sym, ap, ◌∙◌, subst, arith}
use Rattle.std.specs.Prelude.{All}
use Rattle.std.proofs.Math.Nat.{div-add-mod', mul-div_cancel}
use Rattle.rhythm_base.specs.declared.event.Signature.{Signature}
use Rattle.rhythm_base.specs.declared.note.Bar.{Bar}
use Rattle.rhythm_base.specs.Bars.{AreLaid, nominal_at}
use Rattle.rhythm_base.specs.Performance.{IsBarOf, IsWellFormed, Performance}
use Rattle.rhythm_base.proofs.OrderedLists.{all_head}
use Rattle.notes_writer.specs.Told.{HasLaidBars}

-- the barline before some bars
barline_before : List Bar → ℕ → ℕ
barline_before [] last = last
barline_before (b ∷ bars) last = b.start

laid_from : (division : ℕ) (signatures : List Signature) (i b : ℕ) (bars : List Bar) (last : ℕ) → AreLaid division signatures i b bars last
    → b ≡ barline_before bars last
unfolding barline_before
laid_from division signatures i b [] last h = h
laid_from division signatures i b (bar ∷ bars) last h = sym (ap (λ (x : Bar). x.start) h.1)

-- a bar that is laid is as long as its own signature says
long_as_signed : (division : ℕ) (signatures : List Signature) (i b : ℕ) (bar : Bar) (bars : List Bar) (last : ℕ)
    → AreLaid division signatures i b (bar ∷ bars) last → b + (4 * division * bar.num) / bar.den ≡ barline_before bars last
long_as_signed division signatures i b bar bars last h =
    ap (λ (x : Bar). b + (4 * division * x.num) / x.den) h.1
    ∙ laid_from division signatures (i + 1) (b + nominal_at division signatures b) bars last h.2

one_division : (division other num den : ℕ) → 1 ≤ num → (4 * division * num) % den ≡ 0 → (4 * other * num) % den ≡ 0
    → (4 * division * num) / den ≡ (4 * other * num) / den → division ≡ other
one_division division other num den some h k e =
    let m = 4 * division * num in
    let n = 4 * other * num in
    let first : m / den * den + m % den ≡ m = div-add-mod' m den in
    let second : n / den * den + n % den ≡ n = div-add-mod' n den in
    let parts : m / den * den ≡ n / den * den = ap (λ q. q * den) e in
    let ticks : m ≡ n = omega (arith, first, second, parts, h, k) in
    let fours : 4 * division ≡ 4 * other = sym (mul-div_cancel (4 * division) some) ∙ ap (λ t. t / num) ticks ∙ mul-div_cancel (4 * other) some in
    omega (arith, fours)

same_first : (division other : ℕ) (signatures others : List Signature) (bars : List Bar) (last : ℕ) → 1 ≤ length bars
    → All (IsBarOf division last) bars → All (IsBarOf other last) bars
    → AreLaid division signatures 0 0 bars last → AreLaid other others 0 0 bars last → division ≡ other
same_first division other signatures others [] last some f g h k = absurd (omega (arith, some))
same_first division other signatures others (b ∷ bars) last some f g h k =
    let here : IsBarOf division last b = all_head (IsBarOf division last) b bars f in
    let there : IsBarOf other last b = all_head (IsBarOf other last) b bars g in
    let first = long_as_signed division signatures 0 0 b bars last h in
    let second = long_as_signed other others 0 0 b bars last k in
    one_division division other b.num b.den here.signature.some here.whole there.whole (omega (arith, first, second))

-- performances of the same bars, each as long as its signature says, have one division
pub same_division : (p q : Performance) → IsWellFormed p → IsWellFormed q → p.bars ≡ q.bars → p.last ≡ q.last → HasLaidBars p → HasLaidBars q
    → p.division ≡ q.division
same_division p q formed other bars last (signatures, h) (others, k) =
    let P : List Bar → ℕ → Type 0 = λ bars last. AreLaid q.division others 0 0 bars last × All (IsBarOf q.division last) bars in
    let of_q : P p.bars p.last = subst (λ l. P l p.last) (sym bars) (subst (P q.bars) (sym last) (k, other.bars)) in
    same_first p.division q.division signatures others p.bars p.last formed.some_bar formed.bars of_q.1 h of_q.0
