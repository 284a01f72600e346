-- The grid of tokens: the greatest common divisor of their places and the odd part of the resolution.
use Rattle.std.proofs.Common.{◌≡◌, ℕ, ◌+◌, ◌<◌, List, [], ◌∷◌, ◌++◌, length, get_or, take, sym, subst}
use Rattle.std.specs.Int.{◌∣◌, IsGcd}
use Rattle.std.proofs.lemmas.List.{take_more}
use Rattle.std.proofs.lemmas.List.Elements.{All-append, All-cons, All-nil, All-weaker, All-head, All-tail}
use Rattle.std.proofs.lemmas.Nat.Gcd.{dvd_refl, dvd_trans}
use Rattle.notation.specs.Notes.{IsGrid}
use Rattle.notation.specs.Tokens.{Token}
use Rattle.notation.proofs.Fronts.{all_parts}

-- the places of a token count in so many parts
abbrev pub CountIn : ℕ → Token → Type 0
CountIn d t = (d ∣ t.start) × (d ∣ t.end)

pub grid_none : (odd : ℕ) → IsGrid odd [] odd
grid_none odd = record { odd_part = dvd_refl odd; places = All-nil (CountIn odd); greatest = λ d h all. h }

grid_push : (odd : ℕ) (ts : List Token) (t : Token) (grid own next : ℕ) → IsGrid odd ts grid → IsGcd t.start t.end own → IsGcd grid own next → IsGrid odd
    (ts ++ t ∷ []) next
grid_push odd ts t grid own next h one all = record {
  odd_part = dvd_trans next all.0 h.odd_part;
  places = All-append (CountIn next) ts (t ∷ []) (All-weaker (CountIn grid) (CountIn next)
      (λ u k. (dvd_trans next all.0 k.0, dvd_trans next all.0 k.1)) ts h.places)
      (All-cons (CountIn next) t [] (dvd_trans next all.1 one.0, dvd_trans next all.1 one.1) (All-nil (CountIn next)));
  greatest = λ d part counts.
      let parts = all_parts (CountIn d) ts (t ∷ []) counts in
      let last = All-head (CountIn d) t [] parts.1 in
      all.2 d (h.greatest d part parts.0) (one.2 d last.0 last.1);
}

-- one more token
pub grid_step : (odd : ℕ) (ts : List Token) (i : ℕ) (t : Token) (grid own next : ℕ) → i < length ts → t ≡ get_or ts i t → IsGrid odd (take i ts) grid
    → IsGcd t.start t.end own → IsGcd grid own next
    → IsGrid odd (take (i + 1) ts) next
grid_step odd ts i t grid own next lt is h one all =
    let last = subst (λ (u : Token). IsGcd u.start u.end own) is one in
    subst (λ us. IsGrid odd us next) (sym (take_more ts i t lt)) (grid_push odd (take i ts) (get_or ts i t) grid own next h last all)

-- one more in front
pub grid_front : (odd : ℕ) (t : Token) (ts : List Token) (grid own next : ℕ) → IsGrid odd ts grid → IsGcd t.start t.end own → IsGcd grid own next
    → IsGrid odd (t ∷ ts) next
grid_front odd t ts grid own next h one all = record {
  odd_part = dvd_trans next all.0 h.odd_part;
  places = All-cons (CountIn next) t ts (dvd_trans next all.1 one.0, dvd_trans next all.1 one.1)
      (All-weaker (CountIn grid) (CountIn next) (λ u k. (dvd_trans next all.0 k.0, dvd_trans next all.0 k.1)) ts h.places);
  greatest = λ d part counts.
      let first = All-head (CountIn d) t ts counts in
      all.2 d (h.greatest d part (All-tail (CountIn d) t ts counts)) (one.2 d first.0 first.1);
}
