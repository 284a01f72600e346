-- The rows of quiet trees, seat by seat.
use Rattle.std.proofs.Common.{◌≡◌, ◌≢◌, ℕ, zero, suc, ◌+◌, ◌<◌, ◌≤◌, inl, inr, List, [], ◌∷◌, ◌++◌, length, get_or, refl, sym, ap, subst, ◌∙◌, arith, Bool, false}
use Rattle.std.specs.Prelude.{Option, Some, None, slice_get, slice_set, slice_index_or}
use Rattle.std.proofs.lemmas.Bool.{cases_eq, cases_lt}
use Rattle.std.proofs.lemmas.Grind.{get_or-set_at}
use Rattle.std.proofs.lemmas.List.{get_or-set_other, length-set}
use Rattle.std.proofs.lemmas.Option.{get_or_from_slice_get, slice_get_within}
use Rattle.rhythm_base.specs.Grammar.{Grammar}
use Rattle.row_laws.specs.declared.quiet.Quiet.{Quiet}
use Rattle.grammar_plan.specs.Frames.{IsFrame}
use Rattle.grammar_plan.specs.Plans.{HasQuietTree, IsQuietTree, IsSeat, pair_of}
use Rattle.grammar_plan.specs.QuietRows.{AreMarked, AreQuietRows, IsSeatBefore, entry}
use Rattle.grammar_plan.specs.declared.plan.Plan.{Plan}
use Rattle.grammar_plan.specs.declared.quiet_tree.QuietTree.{QuietTree}
use Rattle.grammar_plan.specs.declared.seat.Seat.{Seat}
use Rattle.grammar_plan.proofs.LeafTables.{last_of, some_one}

get-past : {X : Type 0} (xs : List X) (n : ℕ) (d : X) → length xs ≤ n → get_or xs n d ≡ d
get-past [] n d h = refl
get-past (x ∷ xs) zero d h = absurd (omega (arith, h))
get-past (x ∷ xs) (suc n) d h = get-past xs n d (omega (arith, h))

pub seat-at : (g : Grammar) (plan : Plan) → IsFrame g plan → (n : ℕ) (s : Seat) → slice_get plan.seats.items n ≡ Some s → IsSeat g plan s
seat-at g plan frame n s e = subst (IsSeat g plan) (get_or_from_slice_get plan.seats.items n s s e) (frame.seats n s (slice_get_within plan.seats.items n s e))

module _ (g : Grammar) (plan : Plan) (quiet : Quiet) (rows : List (List (Option QuietTree))) where
  tree-cheap : (q : ℕ × ℕ) (a : ℕ) (o : Option QuietTree) (t : QuietTree) → o ≡ Some t → IsQuietTree g plan quiet q a o → t.cost ≤ 3000000000
  tree-cheap q a None t e h = absurd (cc)
  tree-cheap q a (Some x) t e h = subst (λ (t : QuietTree). t.cost ≤ 3000000000) (some_one x t e) h.3

  -- no trees yet
  pub rows-none : IsFrame g plan → length rows ≡ length plan.seats.items → ((n from : ℕ) → entry rows n from ≡ None) → AreQuietRows g plan quiet rows 1 0
  rows-none frame long none = record {
    long = long;
    cheap = λ n from t e. let no = sym (none n from) ∙ e in absurd (cc);
    least = λ n s from e before few. elim before [
      | inl low ↦ let wide = (seat-at g plan frame n s e).wide in absurd (omega (arith, low, wide))
      | inr same ↦ let low = same.1 in absurd (omega (arith, low))
    ];
  }

  module _ (w m : ℕ) (h : AreQuietRows g plan quiet rows w m) where
    -- the row of one seat more
    pub rows-next : (s : Seat) (row : List (Option QuietTree)) → slice_get plan.seats.items m ≡ Some s → length row ≡ 5 → ((from : ℕ) → from < 5 → IsQuietTree g plan quiet (pair_of s) from (slice_index_or row from None))
        → AreQuietRows g plan quiet (slice_set rows m row) w (m + 1)
    rows-next s row at long least = record {
      long = length-set rows m row ∙ h.long;
      cheap = λ n from t e. elim (cases_eq n m) [
        | inl same ↦ elim (cases_lt from 5) [
          | inl few ↦ tree-cheap (pair_of s) from (slice_index_or row from None) t (sym (here n from same) ∙ e) (least from few)
          | inr past ↦ let no = sym (get-past row from None (omega (arith, long, past))) ∙ sym (here n from same) ∙ e in absurd (cc)
        ]
        | inr other ↦ h.cheap n from t (sym (there n from other) ∙ e)
      ];
      least = λ n x from e before few. elim (cases_eq n m) [
        | inl same ↦
            let own : s ≡ x = some_one s x (sym at ∙ ap (slice_get plan.seats.items) (sym same) ∙ e) in
            subst (IsQuietTree g plan quiet (pair_of x) from) (sym (here n from same)) (subst (λ x. IsQuietTree g plan quiet (pair_of x) from (slice_index_or row from None)) own (least from few))
        | inr other ↦ subst (IsQuietTree g plan quiet (pair_of x) from) (sym (there n from other)) (h.least n x from e (earlier n x other before) few)
      ];
    }
      where
        within : m < length rows
        within = let low = slice_get_within plan.seats.items m s at in let all = h.long in omega (arith, low, all)

        here : (n from : ℕ) → n ≡ m → entry (slice_set rows m row) n from ≡ slice_index_or row from None
        here n from same = ap (λ l. slice_index_or l from None) (get_or-set_at rows m n row [] same within)

        there : (n from : ℕ) → n ≢ m → entry (slice_set rows m row) n from ≡ entry rows n from
        there n from other = ap (λ l. slice_index_or l from None) (get_or-set_other rows m n row [] other)

        earlier : (n : ℕ) (x : Seat) → n ≢ m → IsSeatBefore w (m + 1) n x → IsSeatBefore w m n x
        earlier n x other (inl low) = inl low
        earlier n x other (inr same) = elim (last_of n m same.1) [
          | inl below ↦ inr (same.0, below)
          | inr is ↦ absurd (other is)
        ]

    -- the seat has another width
    pub rows-skip : (s : Seat) → slice_get plan.seats.items m ≡ Some s → s.width ≢ w → AreQuietRows g plan quiet rows w (m + 1)
    rows-skip s at other = record { long = h.long; cheap = h.cheap; least = λ n x from e before few. h.least n x from e (earlier n x e before) few }
      where
        earlier : (n : ℕ) (x : Seat) → slice_get plan.seats.items n ≡ Some x → IsSeatBefore w (m + 1) n x → IsSeatBefore w m n x
        earlier n x e (inl low) = inl low
        earlier n x e (inr same) = elim (last_of n m same.1) [
          | inl below ↦ inr (same.0, below)
          | inr is ↦
              let own : x ≡ s = some_one x s (sym e ∙ ap (slice_get plan.seats.items) is ∙ at) in
              absurd (other (ap (λ (s : Seat). s.width) (sym own) ∙ same.0))
        ]

    -- all seats of the width
    pub rows-width : length plan.seats.items ≤ m → AreQuietRows g plan quiet rows (w + 1) 0
    rows-width past = record { long = h.long; cheap = h.cheap; least = λ n x from e before few. h.least n x from e (earlier n x e before) few }
      where
        earlier : (n : ℕ) (x : Seat) → slice_get plan.seats.items n ≡ Some x → IsSeatBefore (w + 1) 0 n x → IsSeatBefore w m n x
        earlier n x e (inl low) = elim (last_of x.width w low) [
          | inl below ↦ inl below
          | inr same ↦ let within = slice_get_within plan.seats.items n x e in inr (same, omega (arith, within, past))
        ]
        earlier n x e (inr same) = let low = same.1 in absurd (omega (arith, low))

  -- all widths
  pub rows-all : (w : ℕ) → IsFrame g plan → g.resolution < w → AreQuietRows g plan quiet rows w 0 → (n from : ℕ) → n < length plan.seats.items → from < 5 → HasQuietTree g plan n quiet from (entry rows n from)
  rows-all w frame past h n from low few s e = let within = (seat-at g plan frame n s e).within in h.least n s from e (inl (omega (arith, within, past))) few

-- one row more that has no trees
pub none-next : (rows : List (List (Option QuietTree))) → ((n from : ℕ) → entry rows n from ≡ None) → (n from : ℕ) → entry (rows ++ (None ∷ None ∷ None ∷ None ∷ None ∷ []) ∷ []) n from ≡ None
none-next [] h zero zero = refl
none-next [] h zero (suc zero) = refl
none-next [] h zero (suc (suc zero)) = refl
none-next [] h zero (suc (suc (suc zero))) = refl
none-next [] h zero (suc (suc (suc (suc zero)))) = refl
none-next [] h zero (suc (suc (suc (suc (suc from))))) = refl
none-next [] h (suc n) from = refl
none-next (row ∷ rows) h zero from = h zero from
none-next (row ∷ rows) h (suc n) from = none-next rows (λ n from. h (suc n) from) n from

-- ---- the widths of seats

-- no seat has the width
pub rows-absent : (g : Grammar) (plan : Plan) (quiet : Quiet) (rows : List (List (Option QuietTree))) (w : ℕ) (widths : List Bool) → AreMarked plan.seats.items (length plan.seats.items) widths → w < length widths
    → slice_index_or widths w false ≡ false → AreQuietRows g plan quiet rows w 0 → AreQuietRows g plan quiet rows (w + 1) 0
rows-absent g plan quiet rows w widths marked low off h = record { long = h.long; cheap = h.cheap; least = λ n x from e before few. h.least n x from e (earlier n x e before) few }
  where
    earlier : (n : ℕ) (x : Seat) → slice_get plan.seats.items n ≡ Some x → IsSeatBefore (w + 1) 0 n x → IsSeatBefore w 0 n x
    earlier n x e (inl less) = elim (last_of x.width w less) [
      | inl below ↦ inl below
      | inr same ↦
          let on = marked n x (slice_get_within plan.seats.items n x e) e (omega (arith, same, low)) in
          let off' : slice_index_or widths x.width false ≡ false = ap (λ v. slice_index_or widths v false) same ∙ off in
          absurd (cc)
    ]
    earlier n x e (inr same) = let low = same.1 in absurd (omega (arith, low))
