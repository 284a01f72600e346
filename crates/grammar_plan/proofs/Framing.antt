-- A plan's seats and leaves, from what was found.
use Rattle.std.proofs.Common.{◌≡◌, ℕ, List, [], ◌∷◌, length, get_or, sym, ◌∙◌, arith}
use Rattle.std.specs.Prelude.{Some, None, slice_get, slice_index_or}
use Rattle.std.proofs.lemmas.Option.{slice_get_within, slice_get-get_or}
use Rattle.rhythm_base.specs.Bodies.{children}
use Rattle.rhythm_base.specs.Grammar.{Grammar}
use Rattle.grammar_plan.specs.Drafts.{HasPair, HavePairs, IsCutIn, IsDraft}
use Rattle.grammar_plan.specs.Frames.{IsFrame}
use Rattle.grammar_plan.specs.LeafTables.{AreAllFirst}
use Rattle.grammar_plan.specs.Plans.{HasSeat, HaveSeats, HaveSeatsOverBars, IsCutOf, IsSeat, between, pair_of, place_of_leaf}
use Rattle.grammar_plan.specs.declared.cut.Cut.{Cut}
use Rattle.grammar_plan.specs.declared.plan.Plan.{Plan}
use Rattle.grammar_plan.specs.declared.seat.Seat.{Seat}
use Rattle.grammar_plan.proofs.Growing.{get-within}
use Rattle.grammar_plan.proofs.LeafTables.{leaf-first, place_of_leaf-low, some_one}
use Rattle.grammar_plan.proofs.SeatLemmas.{HaveRoots}

module _ (g : Grammar) (plan : Plan) (pairs : List (ℕ × ℕ)) (draft : IsDraft g pairs plan.parts.items plan.cuts.items plan.seats.items) (all : length plan.seats.items ≡ length pairs) where
  pub has-seat : (n : ℕ) (q : ℕ × ℕ) → HasPair pairs n q → HasSeat plan n q
  has-seat n q h =
      let low = slice_get_within pairs n q h in
      let s = get-within plan.seats.items n (omega (arith, low, all)) in
      (s.0, s.1, some_one (pair_of s.0) q (sym (draft.each n s.0 s.1).0 ∙ h))

  have-seats : (ns : List ℕ) (qs : List (ℕ × ℕ)) → HavePairs pairs ns qs → HaveSeats plan ns qs
  have-seats [] [] h = h
  have-seats [] (q ∷ qs) h = h
  have-seats (n ∷ ns) [] h = h
  have-seats (n ∷ ns) (q ∷ qs) h = (has-seat n q h.0, have-seats ns qs h.1)

  cut-of : (q : ℕ × ℕ) (c : Cut) → IsCutIn g pairs plan.parts.items q c → IsCutOf g plan q c
  cut-of q c h = record {
    rule = h.rule;
    is = h.is;
    weighs = h.weighs;
    order = h.order;
    within = h.within;
    parts = have-seats (between plan.parts.items c.first c.end) (children h.rule.body q.0) h.have;
  }

  seat-of : length plan.leaves.items ≡ length g.names → (n : ℕ) (s : Seat) → slice_get plan.seats.items n ≡ Some s → IsSeat g plan s
  seat-of long n s e =
      let own = draft.each n s e in
      let law = draft.lawful n (pair_of s) own.0 in
      let low = law.2 in
      record {
        wide = law.0;
        within = law.1;
        symbol = omega (arith, low, long);
        order = own.1.order;
        inside = own.1.inside;
        cuts = λ i c from low e. cut-of (pair_of s) c (own.1.each i c from low e);
        rise = own.1.rise;
        whole = own.1.whole;
      }

  pub frame-is : length plan.leaves.items ≡ length g.names → AreAllFirst g plan.leaves.items
      → HaveRoots g.resolution pairs plan.roots.items → HaveSeatsOverBars plan.roots.items g.starts → IsFrame g plan
  frame-is long first roots starts = record {
    seats = λ i d low. seat-of long i (get_or plan.seats.items i d) (slice_get-get_or plan.seats.items i d low);
    roots = λ symbol n e. has-seat n (g.resolution, symbol) (roots symbol n e);
    starts = starts;
    leaves = λ symbol n sounds low few.
        leaf-first g symbol n sounds (slice_index_or (slice_index_or plan.leaves.items symbol []) (place_of_leaf n sounds) None) (first symbol low (place_of_leaf n sounds) (place_of_leaf-low n sounds few));
  }
