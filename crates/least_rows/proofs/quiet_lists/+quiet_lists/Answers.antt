use Rattle.std.proofs.Common.{rules, ◌≡◌, ◌<◌, ◌≤◌, ◌-◌, ◌++◌, inl, inr, ℕ, List, [], ◌∷◌, drop, get_or, length, take, refl, sym, ap, ◌∙◌, subst, arith, append_assoc, append-nil}
use Rattle.std.specs.Prelude.{Some, slice_get}
use Rattle.std.proofs.lemmas.Option.{slice_get_cases, slice_get_read}
use Rattle.rhythm_base.specs.Grammar.{Grammar}
use Rattle.grammar_plan.specs.Plans.{HasSeat, HaveSeats, IsCutOf, between, pair_of}
use Rattle.grammar_plan.specs.declared.cut.Cut.{Cut}
use Rattle.grammar_plan.specs.declared.plan.Plan.{Plan}
use Rattle.grammar_plan.specs.declared.seat.Seat.{Seat}
use Rattle.row_laws.specs.QuietTrees.{IsQuietLeast, IsQuietList}
use Rattle.row_laws.specs.declared.quiet.Quiet.{Quiet}
use Rattle.least_rows.proofs.PlanSeats.{on_ok, one_at, parts-first}
use Rattle.least_rows.proofs.QuietLists.{quiet_cut, quiet_leaf, quiet_none, quiet_part, quiet_parts}
use Rattle.least_rows.proofs.ListCopies.{longer-later}
use Rattle.least_rows.proofs.quiet_lists.+quiet_lists.Goals as goal
use Rattle.rhythm_base.proofs.Conjunctions.{and_then}

-- where no part is left, no rule is left
nothing_left : (plan : Plan) (g : Grammar) (quiet : Quiet) (a b from : ℕ) (rs : List (ℕ × ℕ)) (ys list : List ℕ) → b ≤ a → HaveSeats plan (between plan.parts.items a b) rs → IsQuietList g quiet rs from ys → list ≡ list ++ ys
nothing_left plan g quiet a b from [] ys list over seats made = sym (ap (λ l. list ++ l) made ∙ append-nil list)
nothing_left plan g quiet a b from (r ∷ rs) ys list over seats made =
    let none : b - a ≡ 0 = omega (arith, over) in
    absurd (subst (λ ns. HaveSeats plan ns (r ∷ rs)) (ap (λ n. take n (drop a plan.parts.items)) none) seats)

-- the seat, and its cut that stands at the number
cut_there : (g : Grammar) (plan : Plan) (seat number : ℕ) → seat < length plan.seats.items → number < length plan.cuts.items
    → ((s : Seat) (c : Cut) → slice_get plan.seats.items seat ≡ Some s → slice_get plan.cuts.items number ≡ Some c → IsCutOf g plan (pair_of s) c)
    → (c : Cut) → c ≡ get_or plan.cuts.items number c → (s : Seat) × (slice_get plan.seats.items seat ≡ Some s) × IsCutOf g plan (pair_of s) c × (slice_get plan.cuts.items number ≡ Some c)
cut_there g plan seat number low few cut c is = elim (slice_get_cases plan.seats.items seat).1 [
  | inl there ↦
      let at : slice_get plan.cuts.items number ≡ Some c = slice_get_read plan.cuts.items (length plan.cuts.items) number c refl few is in
      (there.0, there.2, cut there.0 c there.2 at, at)
  | inr past ↦ absurd (omega (arith, low, past.0))
]

pub write_quiet-returns-in-None-clause-list : goal.write_quiet-returns-in-None-clause-list
write_quiet-returns-in-None-clause-list t c s k at least =
    absurd (quiet_none c.args.grammar.now c.args.plan.now c.requires.plan c.args.quiet c.args.seat c.args.from s at c.in-None.ensures k least)

pub write_tree-returns-in-None-clause-list : goal.write_tree-returns-in-None-clause-list
write_tree-returns-in-None-clause-list t c s k at least =
    let pushed : c.push.new.self.items ≡ c.args.list.now.items ++ c.args.tree.rule ∷ [] = search rules in
    pushed ∙ ap (λ l. c.args.list.now.items ++ l) (sym (quiet_leaf c.args.grammar.now c.args.plan.now c.requires.plan c.args.quiet c.args.seat c.args.from s at c.args.tree c.requires.tree c.in-None.is k least))

pub write_tree-returns-in-Some-clause-list : goal.write_tree-returns-in-Some-clause-list
write_tree-returns-in-Some-clause-list t c =
    let g = c.args.grammar.now in
    let plan = c.args.plan.now in
    let pushed : c.push.new.self.items ≡ c.args.list.now.items ++ c.args.tree.rule ∷ [] = search rules in
    on_ok c.write_quiet_parts.result
    (λ h s k at least.
    let cut = quiet_cut g plan c.requires.plan c.args.quiet c.args.seat c.args.from s at c.args.tree c.requires.tree c.in-Some.number c.in-Some.is in
    let made = quiet_parts g plan c.requires.plan c.args.quiet c.args.seat c.args.from s at c.args.tree c.requires.tree c.in-Some.number c.in-Some.is cut.0 cut.1 k least in
    h cut.0 made.0 made.1 cut.1 made.2 made.3 ∙ ap (λ l. l ++ made.1) pushed ∙ append_assoc c.args.list.now.items (c.args.tree.rule ∷ []) made.1 ∙ ap (λ l. c.args.list.now.items ++ l) (sym made.4))
    c.write_quiet_parts.ensures.list

pub write_quiet_parts-index-requires : goal.write_quiet_parts-index-requires
write_quiet_parts-index-requires t c =
    let own = cut_there c.args.grammar.now c.args.plan.now c.args.seat c.args.number c.requires.seat c.requires.number c.requires.cut c.index-cut.result.now c.index-cut.ensures in
    let within = own.2.within in
    omega (arith, within, c.parts-test.true)

pub write_quiet_parts-write_quiet-requires : goal.write_quiet_parts-write_quiet-requires
write_quiet_parts-write_quiet-requires t c =
    let g = c.args.grammar.now in
    let plan = c.args.plan.now in
    let own = cut_there g plan c.args.seat c.args.number c.requires.seat c.requires.number c.requires.cut c.index-cut.result.now c.index-cut.ensures in
    let part = quiet_part g plan c.requires.plan c.args.seat own.0 own.1 c.index-cut.result.now own.2 c.parts.part c.index.result.now c.parts.invariant.order c.parts-test.true c.index.ensures in
    and_then (omega (arith, part.1, c.decreases)) (and_then c.requires.plan part.0)

pub write_quiet_parts-parts-preserved : goal.write_quiet_parts-parts-preserved
write_quiet_parts-parts-preserved t c =
    let g = c.args.grammar.now in
    let plan = c.args.plan.now in
    let old = c.parts.invariant in
    let low = old.order in
    let own = cut_there g plan c.args.seat c.args.number c.requires.seat c.requires.number c.requires.cut c.index-cut.result.now c.index-cut.ensures in
    let first = c.in_ok-write_quiet.ensures.list in
    record {
      order = omega (arith, low);
      grows = longer-later c.args.list.now.items c.parts.list.items c.write_quiet.new.list.items old.grows c.in_ok-write_quiet.ensures.grows;
      rest = λ qs xs seats list.
          let left = old.rest qs xs seats list in
          let one = parts-first plan (record { first = c.parts.part; end = c.index-cut.result.now.end; width = 0 }) left.0 c.index.result.now c.parts-test.true own.2.within left.2 in
          let seat : HasSeat plan c.index.result.now one.0 = subst (λ n. HasSeat plan n one.0) (sym c.index.ensures) one.3 in
          let made : IsQuietList g c.args.quiet (one.0 ∷ one.1) c.parts.carried left.1 = subst (λ qs. IsQuietList g c.args.quiet qs c.parts.carried left.1) one.2 left.3 in
          let here = first seat.0 made.0 seat.1 (subst (λ q. IsQuietLeast g c.args.quiet q c.parts.carried (Some made.0)) (sym seat.2) made.2) in
          (one.1, made.1, one.4, subst (λ n. IsQuietList g c.args.quiet one.1 n made.1) (sym c.none-carried.ensures) made.3, ap (λ l. l ++ made.1) here ∙ append_assoc c.parts.list.items made.0.1 made.1 ∙ ap (λ l. c.parts.list.items ++ l) (sym made.4) ∙ left.4);
    }

pub write_quiet_parts-returns-clause-list : goal.write_quiet_parts-returns-clause-list
write_quiet_parts-returns-clause-list t c cut qs xs at seats made =
    let g = c.args.grammar.now in
    let plan = c.args.plan.now in
    let own = cut_there g plan c.args.seat c.args.number c.requires.seat c.requires.number c.requires.cut c.index-cut.result.now c.index-cut.ensures in
    let same : cut ≡ c.index-cut.result.now = one_at plan.cuts.items c.args.number cut c.index-cut.result.now at own.3 in
    let left = c.parts.invariant.rest qs xs (subst (λ (c : Cut). HaveSeats plan (between plan.parts.items c.first c.end) qs) same seats) made in
    let over : c.index-cut.result.now.end ≤ c.parts.part = search rules in
    nothing_left plan g c.args.quiet c.parts.part c.index-cut.result.now.end c.parts.carried left.0 left.1 c.parts.list.items over left.2 left.3 ∙ left.4
