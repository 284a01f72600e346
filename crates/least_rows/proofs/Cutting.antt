-- The parts of a cut of a seat, first to last.
use Rattle.std.proofs.Common.{◌≡◌, ℕ, zero, suc, ◌+◌, ◌-◌, ◌*◌, ◌/◌, max, ◌<◌, ◌≤◌, ◌==◌, true, List, [], ◌∷◌, length, take, drop, refl, sym, ap, ◌∙◌, subst, arith}
use Rattle.std.specs.Prelude.{Option, Some, None, slice_get, slice_index_or}
use Rattle.std.proofs.lemmas.List.{length-map}
use Rattle.std.proofs.lemmas.Option.{get_or_from_slice_get, slice_get_within}
use Rattle.rhythm_base.specs.BarInput.{BarInput}
use Rattle.rhythm_base.specs.Bodies.{Cut, can_cut, children, cut_of, ending_of, equal, parts_of_cut, sizes, unequal}
use Rattle.rhythm_base.specs.Grammar.{Grammar}
use Rattle.rhythm_base.specs.Readable.{IsBody, IsBodyOf}
use Rattle.rhythm_base.specs.Trees.{leaf_of, leaf_of_ending}
use Rattle.rhythm_base.specs.declared.rule.Ending.{Ending}
use Rattle.rhythm_base.specs.declared.rule.Rule.{Rule}
use Rattle.rhythm_base.proofs.Booleans.{and_right}
use Rattle.tree_laws.specs.Forests.{AreWide}
use Rattle.tree_laws.specs.Shares.{AreBelow}
use Rattle.tree_laws.proofs.Shares.{below-wide, children-below, children-whole}
use Rattle.row_laws.specs.Grounds.{IsReady}
use Rattle.grammar_plan.specs.Plans.{HasSeat, HaveSeats, IsCutOf, IsSeat, between, pair_of}
use Rattle.least_rows.proofs.Known.{between-long}
use Rattle.grammar_plan.specs.declared.cut.Cut.{Cut as PlanCut}
use Rattle.grammar_plan.specs.declared.plan.Plan.{Plan}
use Rattle.grammar_plan.specs.declared.seat.Seat.{Seat}

have-seat : (plan : Plan) (ns : List ℕ) (qs : List (ℕ × ℕ)) → HaveSeats plan ns qs → (i m : ℕ) → slice_get ns i ≡ Some m → (i < length qs) × HasSeat plan m (slice_index_or qs i (0, 0))
have-seat plan [] [] h i m e = absurd (cc)
have-seat plan [] (q ∷ qs) h i m e = absurd h
have-seat plan (n ∷ ns) [] h i m e = absurd h
have-seat plan (n ∷ ns) (q ∷ qs) h zero m e = let is : n ≡ m = cc in (omega arith, subst (λ n. HasSeat plan n q) is h.0)
have-seat plan (n ∷ ns) (q ∷ qs) h (suc i) m e = let ih = have-seat plan ns qs h.1 i m e in (omega (arith, ih.0), ih.1)

have-long : (plan : Plan) (ns : List ℕ) (qs : List (ℕ × ℕ)) → HaveSeats plan ns qs → length ns ≡ length qs
have-long plan [] [] h = refl
have-long plan [] (q ∷ qs) h = absurd h
have-long plan (n ∷ ns) [] h = absurd h
have-long plan (n ∷ ns) (q ∷ qs) h = ap suc (have-long plan ns qs h.1)

get-take : {X : Type 0} (n i : ℕ) (xs : List X) → i < n → slice_get (take n xs) i ≡ slice_get xs i
get-take zero i xs h = absurd (omega arith)
get-take (suc n) i [] h = refl
get-take (suc n) zero (x ∷ xs) h = refl
get-take (suc n) (suc i) (x ∷ xs) h = get-take n i xs (omega (arith, h))

get-drop : {X : Type 0} (n i : ℕ) (xs : List X) → slice_get (drop n xs) i ≡ slice_get xs (n + i)
get-drop zero i xs = let e : i ≡ 0 + i = omega arith in ap (slice_get xs) e
get-drop (suc n) i [] = refl
get-drop (suc n) i (x ∷ xs) = let e : suc (n + i) ≡ suc n + i = omega arith in get-drop n i xs ∙ ap (slice_get (x ∷ xs)) e

sizes-upto : (i : ℕ) (qs : List (ℕ × ℕ)) → i < length qs → sizes (take i qs) + (slice_index_or qs i (0, 0)).0 ≤ sizes qs
sizes-upto i [] h = absurd (omega arith)
sizes-upto zero (q ∷ qs) h = omega arith
sizes-upto (suc i) (q ∷ qs) h = let ih = sizes-upto i qs (omega (arith, h)) in omega (arith, ih)

sizes-next : (i : ℕ) (qs : List (ℕ × ℕ)) → i < length qs → sizes (take (suc i) qs) ≡ sizes (take i qs) + (slice_index_or qs i (0, 0)).0
sizes-next i [] h = absurd (omega arith)
sizes-next zero (q ∷ qs) h = omega arith
sizes-next (suc i) (q ∷ qs) h = let ih = sizes-next i qs (omega (arith, h)) in omega (arith, ih)

below-at : (w i : ℕ) (qs : List (ℕ × ℕ)) → AreBelow w qs → i < length qs → (slice_index_or qs i (0, 0)).0 < w
below-at w i [] b h = absurd (omega arith)
below-at w zero (q ∷ qs) b h = b.1
below-at w (suc i) (q ∷ qs) b h = below-at w i qs b.2 (omega (arith, h))

drop-upto : {X : Type 0} (first end : ℕ) (xs : List X) → first ≤ end → end ≤ length xs → length (take (end - first) (drop first xs)) ≡ end - first
drop-upto first end xs low high =
    let n : ℕ = end - first in
    let there : first + (end - first) ≡ end = omega (arith, low) in
    let within : first + (end - first) ≤ length xs = omega (arith, there, high) in
    let own = between-long first (end - first) xs within in
    subst (λ m. length (take (m - first) (drop first xs)) ≡ end - first) there own

cut_body : (b : Rule) (p w : ℕ) → ending_of b.body ≡ None → leaf_of b.body p w ≡ []
cut_body b p w e = ap (λ o. leaf_of_ending o p w) e

pub cut-long : (g : Grammar) (plan : Plan) (s : Seat) (cut : PlanCut) (c : IsCutOf g plan (pair_of s) cut) → length (children c.rule.body s.width) ≡ cut.end - cut.first
cut-long g plan s cut c =
    let long = have-long plan (between plan.parts.items cut.first cut.end) (children c.rule.body s.width) c.parts in
    let whole = drop-upto cut.first cut.end plan.parts.items c.order c.within in
    sym long ∙ whole

module _ (g : Grammar) (k : BarInput) (plan : Plan) (ready : IsReady g k) (s : Seat) (seat : IsSeat g plan s) (cut : PlanCut) (c : IsCutOf g plan (pair_of s) cut) where
  can : can_cut c.rule.body s.width ≡ true
  can = and_right (c.rule.lhs == s.symbol) _ c.is.suit

  pub cut-below : AreBelow s.width (children c.rule.body s.width)
  cut-below = children-below c.rule.body s.width seat.wide can

  pub cut-wide : AreWide (children c.rule.body s.width)
  cut-wide = below-wide s.width (children c.rule.body s.width) cut-below

  pub cut-whole : sizes (children c.rule.body s.width) ≡ s.width
  cut-whole = (children-whole c.rule.body 0 s.width seat.wide can (cut_body c.rule 0 s.width c.is.cuts)).0

  many : (version names : ℕ) (o : Option Cut) (e : Option Ending) (w : ℕ) → IsBodyOf version names o e → length (parts_of_cut o w) ≤ 16
  many version names (Some (equal ks)) e w h = let few : length ks ≤ 16 = h.1 in omega (arith, few, length-map {B = ℕ × ℕ} ks (λ s. (w / max 1 (length ks), s)))
  many version names (Some (unequal ps)) e w h = let few : length ps ≤ 16 = h.2 in omega (arith, few, length-map {B = ℕ × ℕ} ps (λ q. (q.0 * (w / max 1 (sizes ps)), q.1)))
  many version names None e w h = omega arith

  pub cut-few : length (children c.rule.body s.width) ≤ 16
  cut-few =
      let P : Rule → Type 0 = λ r. IsBody g.version (length g.names) r.body in
      many g.version (length g.names) (cut_of c.rule.body) (ending_of c.rule.body) s.width (subst P (get_or_from_slice_get g.rules cut.rule c.rule c.rule c.is.at) (ready.readable.bodies cut.rule c.rule (slice_get_within g.rules cut.rule c.rule c.is.at)))

  pub part-seat : (part m : ℕ) → cut.first ≤ part → part < cut.end → slice_get plan.parts.items part ≡ Some m
      → (part - cut.first < length (children c.rule.body s.width)) × HasSeat plan m (slice_index_or (children c.rule.body s.width) (part - cut.first) (0, 0))
  part-seat part m low high at =
      let i : ℕ = part - cut.first in
      let there : cut.first + (part - cut.first) ≡ part = omega (arith, low) in
      let inside : part - cut.first < cut.end - cut.first = omega (arith, low, high) in
      have-seat plan (between plan.parts.items cut.first cut.end) (children c.rule.body s.width) c.parts (part - cut.first) m
      (get-take (cut.end - cut.first) (part - cut.first) (drop cut.first plan.parts.items) inside ∙ get-drop cut.first (part - cut.first) plan.parts.items ∙ ap (slice_get plan.parts.items) there ∙ at)

  pub part-inside : (i : ℕ) → i < length (children c.rule.body s.width) → sizes (take i (children c.rule.body s.width)) + (slice_index_or (children c.rule.body s.width) i (0, 0)).0 ≤ s.width
  part-inside i h = let upto = sizes-upto i (children c.rule.body s.width) h in let whole = cut-whole in omega (arith, upto, whole)

  pub part-below : (i : ℕ) → i < length (children c.rule.body s.width) → (slice_index_or (children c.rule.body s.width) i (0, 0)).0 < s.width
  part-below i h = below-at s.width i (children c.rule.body s.width) cut-below h

  pub part-next : (i : ℕ) → i < length (children c.rule.body s.width) → sizes (take (suc i) (children c.rule.body s.width)) ≡ sizes (take i (children c.rule.body s.width)) + (slice_index_or (children c.rule.body s.width) i (0, 0)).0
  part-next i h = sizes-next i (children c.rule.body s.width) h
