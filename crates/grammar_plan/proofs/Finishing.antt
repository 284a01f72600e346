-- A plan with its quiet trees.
use Rattle.std.proofs.Common.{◌≡◌, ℕ, ◌<◌, List, [], ◌∷◌, length, get_or, refl, sym, ap, subst, ◌∙◌, arith}
use Rattle.std.specs.Prelude.{Option, Some, None, slice_get, slice_index_or}
use Rattle.std.proofs.lemmas.Option.{get_or_from_slice_get, slice_get-get_or, slice_get_read}
use Rattle.rhythm_base.specs.Bodies.{children}
use Rattle.rhythm_base.specs.Grammar.{Grammar}
use Rattle.row_laws.specs.declared.quiet.Quiet.{Quiet}
use Rattle.grammar_plan.specs.Frames.{IsFrame}
use Rattle.grammar_plan.specs.Plans.{HasLeafRule, HasQuietTree, HasSeat, HaveSeats, HaveSeatsOverBars, IsCutOf, IsPlan, IsQuietMade, IsQuietTree, IsSeat, between, pair_of, place_of_leaf, quiet_rows_of}
use Rattle.grammar_plan.specs.declared.cut.Cut.{Cut}
use Rattle.grammar_plan.specs.declared.plan.Plan.{Plan}
use Rattle.grammar_plan.specs.declared.quiet_tree.QuietTree.{QuietTree}
use Rattle.grammar_plan.specs.declared.seat.Seat.{Seat}
use Rattle.grammar_plan.proofs.QuietSteps.{seat-at}

-- the same seats, cuts and parts stand in another plan
module _ (g : Grammar) (plan new : Plan) (seats : new.seats.items ≡ plan.seats.items) (cuts : new.cuts.items ≡ plan.cuts.items) (parts : new.parts.items ≡ plan.parts.items)
    (leaves : new.leaves.items ≡ plan.leaves.items) (roots : new.roots.items ≡ plan.roots.items) where
  has-moved : (n : ℕ) (q : ℕ × ℕ) → HasSeat plan n q → HasSeat new n q
  has-moved n q h = (h.0, ap (λ l. slice_get l n) seats ∙ h.1, h.2)

  have-moved : (ns : List ℕ) (qs : List (ℕ × ℕ)) → HaveSeats plan ns qs → HaveSeats new ns qs
  have-moved [] [] h = h
  have-moved [] (q ∷ qs) h = h
  have-moved (n ∷ ns) [] h = h
  have-moved (n ∷ ns) (q ∷ qs) h = (has-moved n q h.0, have-moved ns qs h.1)

  cut-moved : (q : ℕ × ℕ) (c : Cut) → IsCutOf g plan q c → IsCutOf g new q c
  cut-moved q c h = record {
    rule = h.rule;
    is = h.is;
    weighs = h.weighs;
    order = h.order;
    within = let long = ap length parts in let within = h.within in omega (arith, long, within);
    parts = subst (λ l. HaveSeats new (between l c.first c.end) (children h.rule.body q.0)) (sym parts) (have-moved (between plan.parts.items c.first c.end) (children h.rule.body q.0) h.parts);
  }

  cut-back : (i : ℕ) (c : Cut) → slice_get new.cuts.items i ≡ Some c → slice_get plan.cuts.items i ≡ Some c
  cut-back i c e = ap (λ l. slice_get l i) (sym cuts) ∙ e

  cut-there : (i : ℕ) (c : Cut) → slice_get plan.cuts.items i ≡ Some c → slice_get new.cuts.items i ≡ Some c
  cut-there i c e = ap (λ l. slice_get l i) cuts ∙ e

  seat-moved : (s : Seat) → IsSeat g plan s → IsSeat g new s
  seat-moved s h = record {
    wide = h.wide;
    within = h.within;
    symbol = let long = ap length leaves in let low = h.symbol in omega (arith, long, low);
    order = h.order;
    inside = let long = ap length cuts in let inside = h.inside in omega (arith, long, inside);
    cuts = λ i c from low e. cut-moved (pair_of s) c (h.cuts i c from low (cut-back i c e));
    rise = λ i j c d from order low e f. h.rise i j c d from order low (cut-back i c e) (cut-back j d f);
    whole = λ r rule is. let there = h.whole r rule is in (there.0, there.1, there.2, there.3, cut-there there.0 there.1 there.4, there.5);
  }

  made-moved : (quiet : Quiet) (q : ℕ × ℕ) (from rule : ℕ) (cut : Option ℕ) (list : List ℕ) → IsQuietMade g plan quiet q from rule cut list → IsQuietMade g new quiet q from rule cut list
  made-moved quiet q from rule None list h = h
  made-moved quiet q from rule (Some n) list h = (h.0, h.1, h.2, cut-there n h.0 h.3, h.4, cut-moved q h.0 h.5, h.6, h.7, h.8)

  tree-moved : (quiet : Quiet) (q : ℕ × ℕ) (from : ℕ) (o : Option QuietTree) → IsQuietTree g plan quiet q from o → IsQuietTree g new quiet q from o
  tree-moved quiet q from None h = h
  tree-moved quiet q from (Some t) h = (h.0, h.1, h.2, h.3, made-moved quiet q from t.rule t.cut h.0.1 h.4)

  pub plan-is : IsFrame g plan → ((quiet : Quiet) → length (quiet_rows_of new quiet) ≡ length plan.seats.items)
      → ((quiet : Quiet) (n from : ℕ) → n < length plan.seats.items → from < 5 → HasQuietTree g plan n quiet from (slice_index_or (slice_index_or (quiet_rows_of new quiet) n []) from None)) → IsPlan g new
  plan-is frame long least = record {
    seats = λ n d low.
        let at = slice_get-get_or new.seats.items n d low in
        seat-moved (get_or new.seats.items n d) (seat-at g plan frame n (get_or new.seats.items n d) (ap (λ l. slice_get l n) (sym seats) ∙ at));
    roots = λ symbol n e. has-moved n (g.resolution, symbol) (frame.roots symbol n (ap (λ l. slice_get l symbol) (sym roots) ∙ e));
    starts = subst (λ l. HaveSeatsOverBars l g.starts) (sym roots) frame.starts;
    leaves = λ symbol n sounds low few.
        subst (λ l. HasLeafRule g symbol n sounds (slice_index_or (slice_index_or l symbol []) (place_of_leaf n sounds) None)) (sym leaves)
        (frame.leaves symbol n sounds (subst (λ l. symbol < length l) leaves low) few);
    rows_long = λ quiet. long quiet ∙ sym (ap length seats);
    quiet = λ n from quiet low few s e.
        tree-moved quiet (pair_of s) from (slice_index_or (slice_index_or (quiet_rows_of new quiet) n []) from None)
        (least quiet n from (subst (λ l. n < length l) seats low) few s (ap (λ l. slice_get l n) (sym seats) ∙ e));
  }

-- a row that is read
pub row-read : {X : Type 0} (xs : List (List X)) (n : ℕ) (x : List X) → n < length xs → x ≡ get_or xs n x → x ≡ get_or xs n []
row-read xs n x low e = sym (get_or_from_slice_get xs n x [] (slice_get_read xs (length xs) n x refl low e))
