-- Rule lists over quiet intervals.
use Rattle.std.proofs.Common.{◌≡◌, ℕ, ◌<◌, ◌≤◌, ◌-◌, inl, inr, List, [], ◌∷◌, length, get_or, refl, sym, ap, ◌∙◌, subst, arith}
use Rattle.std.specs.Prelude.{Option, Some, None, slice_get}
use Rattle.std.proofs.Math.Nat.{mul-le-mul_left}
use Rattle.std.proofs.lemmas.Option.{get_or_from_slice_get, slice_get_cases}
use Rattle.rhythm_base.specs.Grammar.{Grammar}
use Rattle.rhythm_base.specs.Leaves.{VoiceBar}
use Rattle.rhythm_base.specs.Ranked.{Key}
use Rattle.tree_laws.specs.Forests.{Ground, IsForestKey, IsGround}
use Rattle.path_laws.proofs.LeastKeys.{IsLeast-one}
use Rattle.row_laws.specs.QuietTrees.{IsQuiet, IsQuietLeast, IsQuietList}
use Rattle.row_laws.specs.declared.quiet.Quiet.{Quiet}
use Rattle.row_laws.specs.declared.quiet.Quiet.TheVariants.{Sounding, Silent}
use Rattle.rhythm_base.specs.Bodies.{children}
use Rattle.rhythm_base.specs.declared.rule.Rule.{Rule}
use Rattle.grammar_plan.specs.Plans.{HasQuietTree, HasSeat, HaveSeats, IsCutOf, IsPlan, IsQuietMade, IsQuietTree, between, pair_of}
use Rattle.grammar_plan.specs.declared.cut.Cut.{Cut}
use Rattle.grammar_plan.specs.declared.plan.Plan.{Plan}
use Rattle.grammar_plan.specs.declared.quiet_tree.QuietTree.{QuietTree}
use Rattle.grammar_plan.specs.declared.seat.Seat.{Seat}
use Rattle.least_rows.specs.declared.parts.Parts.{Parts}
use Rattle.least_rows.proofs.PlanSeats.{below-at, cut_below, has_seat-within, one_at, parts-at, parts-length, parts_lower, seat_lower, seat_measure, seat_of}

-- a bar of one tick without chords
still : VoiceBar
still = record { start = 0; length = 1; num = 1; den = 1; symbol = 0; pin = None }

abbrev at_rest : Grammar → ℕ → Ground
at_rest g before = record { book = g; bar = still; chords = []; before = before }

at_rest-ground : (g : Grammar) (before : ℕ) → IsGround (at_rest g before)
unfolding still
at_rest-ground g before = record { long = omega arith; rise = tt }

-- there is a quiet interval of each width
at_rest-quiet : (g : Grammar) (quiet : Quiet) (w : ℕ) → 1 ≤ g.resolution → (before : ℕ) × IsQuiet quiet (at_rest g before) 0 w
unfolding still
at_rest-quiet g Sounding w unit = (w, record { quiet = refl; through = let more = mul-le-mul_left w unit in omega (arith, more) })
at_rest-quiet g Silent w unit = (0, record { quiet = refl; over = omega arith })

pub quiet-one : (g : Grammar) (quiet : Quiet) (q : ℕ × ℕ) (a : ℕ) (o u : Option Key) → 1 ≤ g.resolution → IsQuietLeast g quiet q a o → IsQuietLeast g quiet q a u → o ≡ u
quiet-one g quiet q a o u unit h k =
    let here = at_rest-quiet g quiet q.0 unit in
    IsLeast-one (IsForestKey (at_rest g here.0) None 0 (q ∷ []) a 0) o u
    (h still [] here.0 (at_rest-ground g here.0) 0 here.1) (k still [] here.0 (at_rest-ground g here.0) 0 here.1)

module _ (g : Grammar) (plan : Plan) (plan_of : IsPlan g plan) (quiet : Quiet) (n from : ℕ) (s : Seat) (at : slice_get plan.seats.items n ≡ Some s) where
  unit : 1 ≤ g.resolution
  unit = let own = seat_of g plan plan_of n s at in let wide = own.wide in let within = own.within in omega arith

  -- no tree is kept, and none is there
  pub quiet_none : HasQuietTree g plan n quiet from None → (k : Key) → IsQuietLeast g quiet (pair_of s) from (Some k) → ⊥
  quiet_none h k least = let same = quiet-one g quiet (pair_of s) from None (Some k) unit (h s at) least in absurd (cc)

  -- how the list of the least tree is made
  pub quiet_made : (t : QuietTree) → HasQuietTree g plan n quiet from (Some t) → (k : Key) → IsQuietLeast g quiet (pair_of s) from (Some k) → IsQuietMade g plan quiet (pair_of s) from t.rule t.cut k.1
  quiet_made t h k least =
      let tree = h s at in
      let same : Some tree.0 ≡ Some k = quiet-one g quiet (pair_of s) from (Some tree.0) (Some k) unit tree.1 least in
      let key : tree.0 ≡ k = cc in
      let P : Key → Type 0 = λ k. IsQuietMade g plan quiet (pair_of s) from t.rule t.cut k.1 in
      subst P key tree.4

  -- a leaf's rule is the whole list
  pub quiet_leaf : (t : QuietTree) → HasQuietTree g plan n quiet from (Some t) → t.cut ≡ None → (k : Key) → IsQuietLeast g quiet (pair_of s) from (Some k) → k.1 ≡ t.rule ∷ []
  quiet_leaf t h leaf k least =
      let P : Option ℕ → Type 0 = λ o. IsQuietMade g plan quiet (pair_of s) from t.rule o k.1 in
      subst P leaf (quiet_made t h k least)

  -- the cut, and the list below its rule
  pub quiet_parts : (t : QuietTree) → HasQuietTree g plan n quiet from (Some t) → (m : ℕ) → t.cut ≡ Some m → (c : Cut) → slice_get plan.cuts.items m ≡ Some c → (k : Key) → IsQuietLeast g quiet (pair_of s) from (Some k)
      → (qs : List (ℕ × ℕ)) × (xs : List ℕ) × HaveSeats plan (between plan.parts.items c.first c.end) qs × IsQuietList g quiet qs from xs × (k.1 ≡ t.rule ∷ xs)
  quiet_parts t h m cut c at_cut k least =
      let P : Option ℕ → Type 0 = λ o. IsQuietMade g plan quiet (pair_of s) from t.rule o k.1 in
      let made = subst P cut (quiet_made t h k least) in
      let same : made.0 ≡ c = one_at plan.cuts.items m made.0 c made.3 at_cut in
      let body : made.5.rule ≡ made.1 = one_at g.rules made.0.rule made.5.rule made.1 made.5.is.at made.6.at in
      let Q : Cut → Type 0 = λ c. HaveSeats plan (between plan.parts.items c.first c.end) (children made.1.body s.width) in
      let R : Rule → Type 0 = λ r. HaveSeats plan (between plan.parts.items made.0.first made.0.end) (children r.body s.width) in
      (children made.1.body s.width, made.2, subst Q same (subst R body made.5.parts), made.7, made.8)

  -- the cut of a least tree is one of the plan's
  pub quiet_cut : (t : QuietTree) → HasQuietTree g plan n quiet from (Some t) → (m : ℕ) → t.cut ≡ Some m → (c : Cut) × (slice_get plan.cuts.items m ≡ Some c) × IsCutOf g plan (pair_of s) c
  quiet_cut t h m cut = go (h s at)
    where
      go : IsQuietTree g plan quiet (pair_of s) from (Some t) → (c : Cut) × (slice_get plan.cuts.items m ≡ Some c) × IsCutOf g plan (pair_of s) c
      go (k, least, cost, low, made) =
          let P : Option ℕ → Type 0 = λ o. IsQuietMade g plan quiet (pair_of s) from t.rule o k.1 in
          let own = subst P cut made in
          (own.0, own.3, own.5)

-- the seat, and the cut that stands at the number
pub quiet_cut_of : (g : Grammar) (plan : Plan) → IsPlan g plan → (quiet : Quiet) (n from : ℕ) → n < length plan.seats.items → (t : QuietTree) → HasQuietTree g plan n quiet from (Some t) → (m : ℕ) → t.cut ≡ Some m
    → (c : Cut) → c ≡ get_or plan.cuts.items m c → (s : Seat) × (slice_get plan.seats.items n ≡ Some s) × IsCutOf g plan (pair_of s) c × (slice_get plan.cuts.items m ≡ Some c)
quiet_cut_of g plan plan_of quiet n from low t h m cut c is = elim (slice_get_cases plan.seats.items n).1 [
  | inl there ↦
      let own = quiet_cut g plan plan_of quiet n from there.0 there.2 t h m cut in
      let same : own.0 ≡ c = sym (get_or_from_slice_get plan.cuts.items m own.0 c own.1) ∙ sym is in
      (there.0, there.2, subst (IsCutOf g plan (pair_of there.0)) same own.2, own.1 ∙ ap Some same)
  | inr past ↦ absurd (omega (arith, low, past.0))
]

-- the part of a cut at a place, which is narrower than what is cut
pub quiet_part : (g : Grammar) (plan : Plan) → IsPlan g plan → (n : ℕ) (s : Seat) → slice_get plan.seats.items n ≡ Some s → (c : Cut) → IsCutOf g plan (pair_of s) c → (part seat : ℕ) → c.first ≤ part → part < c.end
    → seat ≡ get_or plan.parts.items part seat → (seat < length plan.seats.items) × (seat_measure plan seat < seat_measure plan n)
quiet_part g plan plan_of n s at c cut part seat low high is =
    let wide = (seat_of g plan plan_of n s at).wide in
    let x : Parts = record { first = c.first; end = c.end; width = s.width } in
    let qs = children cut.rule.body s.width in
    let within = cut.within in
    let here = parts-at plan x qs part seat low high within cut.parts in
    let q = get_or qs (part - c.first) (0, 0) in
    let own : HasSeat plan seat q = subst (λ n. HasSeat plan n q) (sym is) here in
    let long = parts-length plan x qs cut.order within cut.parts in
    let below = below-at s.width qs (part - c.first) (cut_below g plan (pair_of s) c wide cut) (omega (arith, long, low, high)) in
    let lower = seat_lower plan seat s.width 0 q own below.1 in
    let whole = parts_lower plan n s.width 0 s at refl (omega arith) in
    (has_seat-within plan seat q own, omega (arith, lower, whole))
