-- A look-up in a list, first to last, is a search for the first that suits.
use Rattle.std.proofs.Common.{◌≡◌, ℕ, zero, suc, ◌+◌, Bool, true, false, ◌&&◌, ◌==◌, List, [], ◌∷◌, length, map, get_or, refl, arith, Some}
use Rattle.std.specs.Prelude.{find, if◌then◌else◌}
use Rattle.std.specs.Option.{option_map}
use Rattle.rhythm_base.specs.declared.chord.Chord.{Chord}
use Rattle.rhythm_base.specs.declared.grammar.Start.{Start}
use Rattle.rhythm_base.specs.Lists.{last_end}
use Rattle.rhythm_base.specs.Grammar.{root_of}

pub root-find : (starts : List Start) (num den : ℕ) → option_map (λ s. s.symbol) (find (λ s. (s.num == num) && (s.den == den)) starts) ≡ root_of starts num den
root-find [] num den = refl
root-find (s ∷ starts) num den = by ((s.num == num) && (s.den == den)) (root-find starts num den)
  where
    by : (b : Bool) → option_map (λ s. s.symbol) (find (λ s. (s.num == num) && (s.den == den)) starts) ≡ root_of starts num den
        → option_map (λ s. s.symbol) (if b then Some s else find (λ s. (s.num == num) && (s.den == den)) starts) ≡ (if b then Some s.symbol else root_of starts num den)
    by true rest = refl
    by false rest = rest

-- the last end is that of the last chord
pub last_end-last : (cs : List Chord) (e n : ℕ) (d : Chord) → n + 1 ≡ length cs → last_end e (map (λ c. c.end) cs) ≡ (get_or cs n d).end
last_end-last [] e n d size = absurd (omega (arith, size))
last_end-last (c ∷ cs) e zero d size = by cs (omega (arith, size))
  where
    by : (cs : List Chord) → 0 ≡ length cs → last_end c.end (map (λ c. c.end) cs) ≡ c.end
    by [] none = refl
    by (c' ∷ cs) none = absurd (omega (arith, none))
last_end-last (c ∷ cs) e (suc n) d size = last_end-last cs c.end n d (omega (arith, size))
