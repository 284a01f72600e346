-- Barlines after others: how many there are, and where the last is.
use Rattle.std.proofs.Common.{◌≡◌, ℕ, zero, suc, ◌+◌, ◌-◌, ◌*◌, ◌≤◌, List, [], ◌∷◌, ◌++◌, length, map, refl, ap, ◌∙◌, arith}
use Rattle.std.specs.Prelude.{All}
use Rattle.std.proofs.lemmas.List.{append_assoc, length-append, length-map}
use Rattle.rhythm_base.specs.Lists.{last_end}
use Rattle.rhythm_base.specs.Performance.{Performance}
use Rattle.barline_follow.specs.Bars.{barlines_of}
use Rattle.barline_follow.specs.Script.{further, lengthened}
use Rattle.barline_follow.proofs.Paired.{last_is}

-- one more of those that are to come
pub further_more : (longer : List ℕ) (bar last left : ℕ) → 1 ≤ left
    → (longer ++ ((last + bar) ∷ [])) ++ further bar (last + bar) (left - 1) ≡ longer ++ further bar last left
further_more longer bar last zero h = absurd (omega (arith, h))
further_more longer bar last (suc left) h =
    let one : suc left - 1 ≡ left = omega arith in
    append_assoc longer ((last + bar) ∷ []) (further bar (last + bar) (suc left - 1))
    ∙ ap (λ n. longer ++ ((last + bar) ∷ further bar (last + bar) n)) one

pub last_more : (bar last left : ℕ) → 1 ≤ left → last + bar + (left - 1) * bar ≡ last + left * bar
last_more bar last zero h = absurd (omega (arith, h))
last_more bar last (suc left) h =
    let one : suc left - 1 ≡ left = omega arith in
    ap (λ n. last + bar + n * bar) one ∙ omega arith

pub length-further : (bar tick n : ℕ) → length (further bar tick n) ≡ n
length-further bar tick zero = refl
length-further bar tick (suc n) = ap suc (length-further bar (tick + bar) n)

pub length-lengthened : (bar count : ℕ) (ticks : List ℕ) → length (lengthened bar count ticks) ≡ length ticks + (count - length ticks)
length-lengthened bar count ticks =
    length-append ticks (further bar (last_end 0 ticks) (count - length ticks))
    ∙ ap (λ n. length ticks + n) (length-further bar (last_end 0 ticks) (count - length ticks))

pub last_pushed : (e t : ℕ) (xs : List ℕ) → last_end e (xs ++ (t ∷ [])) ≡ t
last_pushed e t [] = refl
last_pushed e t (x ∷ xs) = last_pushed x t xs

pub last_below : (most : ℕ) (xs : List ℕ) → All (λ t. t ≤ most) xs → last_end 0 xs ≤ most
last_below most [] h = omega arith
last_below most (x ∷ xs) h =
    let e = last_is 0 (x ∷ xs) 0 (omega arith) in
    let low = h (length (x ∷ xs) - 1) 0 (omega arith) in
    omega (arith, e, low)

pub last_of_all : (p : Performance) → last_end 0 (barlines_of p) ≡ p.last
last_of_all p = last_pushed 0 p.last (map (λ b. b.start) p.bars)

pub length-barlines : (p : Performance) → length (barlines_of p) ≡ length p.bars + 1
length-barlines p =
    length-append (map (λ b. b.start) p.bars) (p.last ∷ []) ∙ ap (λ n. n + 1) (length-map p.bars (λ b. b.start))
