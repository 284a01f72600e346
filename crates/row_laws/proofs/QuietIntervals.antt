-- Quiet intervals: their parts are quiet in the same way, no chord is carried out of them, and a leaf over one asks of no chord
-- but those carried in.
use Rattle.std.proofs.Common.{◌≡◌, ℕ, ◌<◌, ◌≤◌, ◌+◌, ◌-◌, ◌*◌, ◌&&◌, ◌==◌, Bool, true, false, not, List, [], ◌∷◌, cond, filter, map, refl, sym, ap, ◌∙◌, subst, arith}
use Rattle.std.specs.Prelude.{Option, nat_le, if◌then◌else◌}
use Rattle.std.specs.List.{list_all}
use Rattle.std.proofs.Math.Nat.{mul-le-mul_right}
use Rattle.std.proofs.lemmas.Bool.Decides.{nat_tests}
use Rattle.std.proofs.lemmas.List.Sums.{sum_by-cons}
use Rattle.rhythm_base.specs.Bodies.{sizes}
use Rattle.rhythm_base.specs.Cost.{charge, charge_in, charges}
use Rattle.rhythm_base.specs.Leaves.{Leaf, VoiceBar, in_bar, lies_in, looks, sounds}
use Rattle.rhythm_base.specs.Line.{agrees}
use Rattle.rhythm_base.specs.Lists.{last_end}
use Rattle.rhythm_base.specs.Grammar.{Grammar}
use Rattle.rhythm_base.specs.Shape.{Shape}
use Rattle.rhythm_base.specs.Forest.{Forest}
use Rattle.rhythm_base.specs.Trees.{BarLeaf, leaves}
use Rattle.rhythm_base.specs.declared.inner.Inner.{Inner}
use Rattle.rhythm_base.specs.declared.rule.Ending.{Ending}
use Rattle.rhythm_base.proofs.Booleans.{and_left, and_right}
use Rattle.tree_laws.specs.Forests.{AreWide, Ground, IsGround, StandsInBar}
use Rattle.tree_laws.specs.Places.{FitsAt, reach}
use Rattle.tree_laws.specs.Quiet.{end_at, is_quiet}
use Rattle.tree_laws.specs.Runs.{IsLine, leaving, runs}
use Rattle.tree_laws.proofs.Bars.{SideBySide, leaves-fill}
use Rattle.tree_laws.proofs.Quiet.{carried_by, leaving-calm, runs-calm, doubled}
use Rattle.tree_laws.proofs.Ranks.{both}
use Rattle.tree_laws.proofs.Ticks.{le_from, le_not, leaf-step, parts-line}
use Rattle.row_laws.specs.QuietTrees.{IsQuiet, sounds_so}
use Rattle.row_laws.specs.declared.quiet.Quiet.{Quiet}
use Rattle.row_laws.specs.declared.quiet.Quiet.TheVariants.{Sounding, Silent}
use Rattle.row_laws.proofs.LeafKeys.{and_true}

-- ---- parts of quiet intervals

-- what reaches a unit reaches those before it
reach-lower : (r : ℕ) (bar : VoiceBar) (p q t : ℕ) → p ≤ q → reach r bar q t ≡ true → reach r bar p t ≡ true
reach-lower r bar p q t le h =
    let start = and_left (nat_le bar.start t) _ h in
    let far = and_right (nat_le bar.start t) _ h in
    let more : p * bar.length ≤ q * bar.length = mul-le-mul_right bar.length le in
    let reached : q * bar.length ≤ (t - bar.start) * r = grind (arith, nat_tests) in
    and_true (nat_le bar.start t) (nat_le (p * bar.length) ((t - bar.start) * r)) start (le_from _ _ (omega (arith, more, reached)))

begins : (r : ℕ) (bar : VoiceBar) (p v q w t : ℕ) → p ≤ q → q + w ≤ p + v → reach r bar q t && not (reach r bar (q + w) t) ≡ true → reach r bar p t && not (reach r bar (p + v) t) ≡ true
begins r bar p v q w t low high h =
    let in_part = both (reach r bar q t) (not (reach r bar (q + w) t)) h in
    and_true (reach r bar p t) (not (reach r bar (p + v) t)) (reach-lower r bar p q t low in_part.0) (go (reach r bar (p + v) t) refl in_part.1)
  where
    go : (b : Bool) → reach r bar (p + v) t ≡ b → not (reach r bar (q + w) t) ≡ true → not b ≡ true
    go true e k = let back = reach-lower r bar (q + w) (p + v) t high e in absurd (cc)
    go false e k = refl

all-not : (f g : ℕ → Bool) (cs : List Inner) → ((t : ℕ) → g t ≡ true → f t ≡ true) → list_all (λ c. not (f c.onset)) cs ≡ true → list_all (λ c. not (g c.onset)) cs ≡ true
all-not f g [] less h = refl
all-not f g (c ∷ cs) less h =
    let here = both (not (f c.onset)) _ h in
    and_true (not (g c.onset)) _ (go (g c.onset) refl here.0) (all-not f g cs less here.1)
  where
    go : (b : Bool) → g c.onset ≡ b → not (f c.onset) ≡ true → not b ≡ true
    go true e k = let on = less c.onset e in absurd (cc)
    go false e k = refl

-- chords that reach the one unit are those that reach the other
same-kept : (f g h : ℕ → Bool) (cs : List Inner) → ((t : ℕ) → g t ≡ true → f t ≡ true) → ((t : ℕ) → h t ≡ true → g t ≡ true)
    → list_all (λ c. not (f c.onset && not (h c.onset))) cs ≡ true → filter (λ c. not (g c.onset)) cs ≡ filter (λ c. not (f c.onset)) cs
same-kept f g h [] lower upper quiet = refl
same-kept f g h (c ∷ cs) lower upper quiet =
    let here = both (not (f c.onset && not (h c.onset))) _ quiet in
    λ i. cond (not (alike (f c.onset) (g c.onset) (h c.onset) (lower c.onset) (upper c.onset) here.0 i)) (c ∷ same-kept f g h cs lower upper here.1 i) (same-kept f g h cs lower upper here.1 i)
  where
    alike : (x y z : Bool) → (y ≡ true → x ≡ true) → (z ≡ true → y ≡ true) → not (x && not z) ≡ true → y ≡ x
    alike true true z l u e = refl
    alike true false true l u e = u refl
    alike true false false l u e = absurd (cc)
    alike false true z l u e = sym (l refl)
    alike false false z l u e = refl

module _ (d : Ground) (p v q w : ℕ) (low : p ≤ q) (high : q + w ≤ p + v) where
  is_quiet-part : is_quiet d p v ≡ true → is_quiet d q w ≡ true
  is_quiet-part h =
      all-not (λ t. reach d.book.resolution d.bar p t && not (reach d.book.resolution d.bar (p + v) t)) (λ t. reach d.book.resolution d.bar q t && not (reach d.book.resolution d.bar (q + w) t))
      d.chords (λ t k. begins d.book.resolution d.bar p v q w t low high k) h

  end_at-part : is_quiet d p v ≡ true → end_at d q ≡ end_at d p
  end_at-part h =
      ap (λ cs. last_end d.before (map (λ c. c.end) cs))
      (same-kept (λ t. reach d.book.resolution d.bar p t) (λ t. reach d.book.resolution d.bar q t) (λ t. reach d.book.resolution d.bar (p + v) t) d.chords
      (λ t k. reach-lower d.book.resolution d.bar p q t low k) (λ t k. reach-lower d.book.resolution d.bar q (p + v) t (omega (arith, high)) k) h)

  -- part of a quiet interval is quiet in the same way
  pub quiet-part : (quiet : Quiet) → IsQuiet quiet d p v → IsQuiet quiet d q w
  quiet-part Sounding h =
      let more : (q + w) * d.bar.length ≤ (p + v) * d.bar.length = mul-le-mul_right d.bar.length high in
      let same : end_at d q * d.book.resolution ≡ end_at d p * d.book.resolution = ap (λ e. e * d.book.resolution) (end_at-part h.quiet) in
      let through = h.through in
      record { quiet = is_quiet-part h.quiet; through = omega (arith, more, same, through) }
  quiet-part Silent h =
      let more : p * d.bar.length ≤ q * d.bar.length = mul-le-mul_right d.bar.length low in
      let same : end_at d q * d.book.resolution ≡ end_at d p * d.book.resolution = ap (λ e. e * d.book.resolution) (end_at-part h.quiet) in
      let over = h.over in
      record { quiet = is_quiet-part h.quiet; over = omega (arith, more, same, over) }

pub quiet_is : (d : Ground) (p w : ℕ) (quiet : Quiet) → IsQuiet quiet d p w → is_quiet d p w ≡ true
quiet_is d p w Sounding h = h.quiet
quiet_is d p w Silent h = h.quiet

-- ---- no chord is carried out

carried-nothing : (ys : List Ending) → carried_by 0 ys ≡ 0
carried-nothing [] = refl
carried-nothing (y ∷ ys) = carried-nothing ys

pub none-out : (d : Ground) → IsGround d → (s : Option Shape) (p : ℕ) (q : ℕ × ℕ) (qs : List (ℕ × ℕ)) → AreWide (q ∷ qs) → (f : Forest) (a b : ℕ) → is_quiet d p (sizes (q ∷ qs)) ≡ true → StandsInBar d s p (q ∷ qs) f a b → b ≡ 0
none-out d ground s p q qs wide f a b quiet stands =
    sym stands.fits.leave ∙ go (leaves d.book.rules p (q ∷ qs) f) (leaves-fill d.book.rules f p (q ∷ qs) wide stands.trees)
  where
    go : (xs : List BarLeaf) → SideBySide p xs (p + sizes (q ∷ qs)) → leaving (looks d.book.resolution) d.chords a (in_bar d.bar xs) ≡ 0
    go [] side = let some = wide.0 in absurd (omega (arith, side, some))
    go (x ∷ xs) side =
        leaving-calm (looks d.book.resolution) d.chords (reach d.book.resolution d.bar p) (reach d.book.resolution d.bar (p + sizes (q ∷ qs))) a (in_bar d.bar (x ∷ xs))
        (parts-line d.book.resolution d.bar p (p + sizes (q ∷ qs)) (x ∷ xs) ground.long side) quiet
        ∙ carried-nothing (map (λ x. x.part.ending) (in_bar d.bar xs))

-- ---- a leaf

no-charge : (g : Grammar) (x : Leaf) (f : ℕ → Bool) (cs : List Inner) → ((t : ℕ) → lies_in g.resolution x t ≡ f t) → list_all (λ c. not (f c.onset)) cs ≡ true → charges g (x ∷ []) cs ≡ 0
no-charge g x f [] lies h = refl
no-charge g x f (c ∷ cs) lies h =
    let here = both (not (f c.onset)) _ h in
    let all = sum_by-cons (λ c. charge g (x ∷ []) c.onset) c cs in
    let rest = no-charge g x f cs lies here.1 in
    let one : charge g (x ∷ []) c.onset ≡ 0 = go (lies_in g.resolution x c.onset) (lies c.onset) here.0 in
    omega (arith, all, rest, one)
  where
    go : (b : Bool) → b ≡ f c.onset → not (f c.onset) ≡ true → (if b then charge_in g x c.onset else 0) ≡ 0
    go true e k = absurd (cc)
    go false e k = refl

module _ (d : Ground) (ground : IsGround d) (quiet : Quiet) (p w : ℕ) (wide : 1 ≤ w) (h : IsQuiet quiet d p w) (ending : Ending) where
  abbrev part : BarLeaf
  part = record { ending = ending; place = p; width = w }

  abbrev leaf : Leaf
  leaf = record { bar = d.bar; part = record { ending = ending; place = p; width = w } }

  line : IsLine (looks d.book.resolution) (reach d.book.resolution d.bar p) (leaf ∷ []) (reach d.book.resolution d.bar (p + w))
  line = parts-line d.book.resolution d.bar p (p + w) (part ∷ []) ground.long (refl, wide, refl)

  sounds-so : (quiet : Quiet) → IsQuiet quiet d p w → sounds d.book.resolution leaf (end_at d p) ≡ sounds_so quiet
  sounds-so Sounding h =
      let more : (2 * p + w) * d.bar.length ≤ (2 * (p + w)) * d.bar.length = mul-le-mul_right d.bar.length (omega arith) in
      let one = doubled d.bar.start d.book.resolution in
      let two = doubled (p + w) d.bar.length in
      let three = doubled (end_at d p) d.book.resolution in
      let through = h.through in
      le_from _ _ (omega (arith, more, one, two, three, through))
  sounds-so Silent h =
      let more : (2 * p + 1) * d.bar.length ≤ (2 * p + w) * d.bar.length = mul-le-mul_right d.bar.length (omega (arith, wide)) in
      let apart : (2 * p + 1) * d.bar.length ≡ 2 * (p * d.bar.length) + d.bar.length = grind arith in
      let one = doubled d.bar.start d.book.resolution in
      let three = doubled (end_at d p) d.book.resolution in
      let over = h.over in
      let long = ground.long in
      le_not _ _ (omega (arith, more, apart, one, three, over, long))

  runs-is : (a : ℕ) → runs (looks d.book.resolution) d.chords (end_at d p) a (leaf ∷ []) ≡ (agrees ending (a + 0) (sounds_so quiet) && true)
  runs-is a =
      runs-calm (looks d.book.resolution) d.chords (reach d.book.resolution d.bar p) (reach d.book.resolution d.bar (p + w)) (end_at d p) a (sounds_so quiet) (leaf ∷ []) line (quiet_is d p w quiet h)
      (sounds-so quiet h, tt)

  leaves-nothing : (a : ℕ) → leaving (looks d.book.resolution) d.chords a (leaf ∷ []) ≡ 0
  leaves-nothing a =
      leaving-calm (looks d.book.resolution) d.chords (reach d.book.resolution d.bar p) (reach d.book.resolution d.bar (p + w)) a (leaf ∷ []) line (quiet_is d p w quiet h)

  pub quiet_leaf-fits : (a b : ℕ) → FitsAt d.book.resolution d.bar d.chords d.before p (record { ending = ending; place = p; width = w } ∷ []) a b → agrees ending a (sounds_so quiet) && (0 == b) ≡ true
  quiet_leaf-fits a b fits =
      let same : a + 0 ≡ a = omega arith in
      let on : agrees ending (a + 0) (sounds_so quiet) ≡ true = (both (agrees ending (a + 0) (sounds_so quiet)) true (sym (runs-is a) ∙ fits.runs)).0 in
      let out : 0 ≡ b = sym (leaves-nothing a) ∙ fits.leave in
      and_true (agrees ending a (sounds_so quiet)) (0 == b) (subst (λ n. agrees ending n (sounds_so quiet) ≡ true) same on) (grind (arith, nat_tests))

  pub quiet_leaf-agrees : (a b : ℕ) → a < 5 → b < 5 → agrees ending a (sounds_so quiet) && (0 == b) ≡ true → FitsAt d.book.resolution d.bar d.chords d.before p (record { ending = ending; place = p; width = w } ∷ []) a b
  quiet_leaf-agrees a b la lb e =
      let t = both (agrees ending a (sounds_so quiet)) (0 == b) e in
      let same : a ≡ a + 0 = omega arith in
      let out : 0 ≡ b = let zero = t.1 in grind (arith, nat_tests) in
      record {
        runs = runs-is a ∙ and_true (agrees ending (a + 0) (sounds_so quiet)) true (subst (λ n. agrees ending n (sounds_so quiet) ≡ true) same t.0) refl;
        leave = leaves-nothing a ∙ out;
        few_from = omega (arith, la);
        few_to = omega (arith, lb);
      }

  pub quiet_leaf-charges : 0 ≡ charges d.book (in_bar d.bar (record { ending = ending; place = p; width = w } ∷ [])) d.chords
  quiet_leaf-charges = sym (no-charge d.book leaf (λ t. reach d.book.resolution d.bar p t && not (reach d.book.resolution d.bar (p + w) t)) d.chords (leaf-step d.book.resolution d.bar part wide ground.long).inside (quiet_is d p w quiet h))
