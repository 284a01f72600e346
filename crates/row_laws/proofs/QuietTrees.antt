-- The least trees over quiet intervals: of a leaf, of trees side by side, and of the rules one after the other.
use Rattle.std.proofs.Common.{◌≡◌, ◌≢◌, ℕ, ◌<◌, ◌≤◌, ◌+◌, ◌==◌, ◌⊎◌, Bool, true, false, List, [], ◌∷◌, ◌++◌, refl, sym, ap, ◌∙◌, subst, arith, append-nil, append_assoc}
use Rattle.std.specs.Prelude.{Option, Some, None, slice_get, if◌then◌else◌}
use Rattle.std.specs.Ordering.{nat_cmp, ordering_then, is_lt}
use Rattle.std.specs.declared.cmp.Ordering.{Ordering}
use Rattle.std.specs.declared.cmp.Ordering.TheVariants.{Less, Equal, Greater}
use Rattle.std.proofs.lemmas.Bool.Decides.{nat_tests}
use Rattle.rhythm_base.specs.Bodies.{can_cut, children, sizes}
use Rattle.rhythm_base.specs.Grammar.{Grammar}
use Rattle.rhythm_base.specs.Ranked.{Key, is_before, key_sum, list_cmp}
use Rattle.rhythm_base.specs.Readable.{IsInRange}
use Rattle.rhythm_base.specs.Trees.{leaf_of_ending, suits}
use Rattle.rhythm_base.specs.declared.rule.Rule.{Rule}
use Rattle.tree_laws.specs.Forests.{AreWide, Ground, IsForestKey, IsGround, forest_cost}
use Rattle.path_laws.specs.Tables.{IsLeastKey}
use Rattle.tree_laws.proofs.ForestLemmas.{join_key, keys-parse, nothing-least, split_key}
use Rattle.path_laws.proofs.LeastKeys.{Both, IsLeast-one, IsLeast-same, joined-least}
use Rattle.path_laws.proofs.Picks.{decides}
use Rattle.tree_laws.proofs.Ranks.{both}
use Rattle.tree_laws.proofs.Shares.{children-whole}
use Rattle.row_laws.specs.BestRules.{IsKeyOfRules, is_nearer}
use Rattle.row_laws.specs.LeafRules.{EndsInterval}
use Rattle.row_laws.specs.QuietTrees.{AreQuietLeast, IsQuiet, IsQuietBest, IsQuietLeast, IsQuietList, sounds_so}
use Rattle.row_laws.specs.Rows.{AreLeastRow}
use Rattle.row_laws.specs.RuleKeys.{IsCutRule}
use Rattle.row_laws.specs.declared.quiet.Quiet.{Quiet}
use Rattle.row_laws.specs.declared.quiet.Quiet.TheVariants.{Sounding, Silent}
use Rattle.row_laws.proofs.Bounds.{stands-cheap}
use Rattle.row_laws.proofs.LeafKeys.{IsLeafRuleOf, leaf_key, leaf_keys-least}
use Rattle.row_laws.proofs.Lower.{lower_of, on_top}
use Rattle.row_laws.proofs.QuietIntervals.{none-out, quiet-part, quiet_is, quiet_leaf-agrees, quiet_leaf-charges, quiet_leaf-fits}
use Rattle.row_laws.proofs.RowProducts.{join_last, split_last}
use Rattle.row_laws.proofs.RuleSets.{rules-all, rules-more, rules-same}

-- ---- none is carried out

module _ (d : Ground) (ground : IsGround d) (quiet : Quiet) (p : ℕ) (q : ℕ × ℕ) (qs : List (ℕ × ℕ)) (wide : AreWide (q ∷ qs)) (h : IsQuiet quiet d p (sizes (q ∷ qs))) where
  pub quiet-out : (a b : ℕ) (k : Key) → IsForestKey d None p (q ∷ qs) a b k → b ≡ 0
  quiet-out a b k (f, stands, is) = none-out d ground None p q qs wide f a b (quiet_is d p (sizes (q ∷ qs)) quiet h) stands

-- the first of trees side by side, and the others
module _ (d : Ground) (quiet : Quiet) (p : ℕ) (q : ℕ × ℕ) (qs : List (ℕ × ℕ)) (h : IsQuiet quiet d p (sizes (q ∷ qs))) where
  pub quiet-first : IsQuiet quiet d p q.0
  quiet-first = quiet-part d p (sizes (q ∷ qs)) p q.0 (omega arith) (omega arith) quiet h

  pub quiet-others : IsQuiet quiet d (p + q.0) (sizes qs)
  quiet-others = quiet-part d p (sizes (q ∷ qs)) (p + q.0) (sizes qs) (omega arith) (omega arith) quiet h

sizes-append : (xs ys : List (ℕ × ℕ)) → sizes (xs ++ ys) ≡ sizes xs + sizes ys
sizes-append [] ys = omega arith
sizes-append (x ∷ xs) ys = let ih = sizes-append xs ys in omega (arith, ih)

wide-before : (xs ys : List (ℕ × ℕ)) → AreWide (xs ++ ys) → AreWide xs
wide-before [] ys h = tt
wide-before (x ∷ xs) ys h = (h.0, wide-before xs ys h.1)

-- the first of trees side by side, and the last
module _ (d : Ground) (quiet : Quiet) (p : ℕ) (qs rs : List (ℕ × ℕ)) (h : IsQuiet quiet d p (sizes (qs ++ rs))) where
  pub quiet-before : IsQuiet quiet d p (sizes qs)
  quiet-before = let all = sizes-append qs rs in quiet-part d p (sizes (qs ++ rs)) p (sizes qs) (omega arith) (omega (arith, all)) quiet h

  pub quiet-after : IsQuiet quiet d (p + sizes qs) (sizes rs)
  quiet-after = let all = sizes-append qs rs in quiet-part d p (sizes (qs ++ rs)) (p + sizes qs) (sizes rs) (omega arith) (omega (arith, all)) quiet h

-- ---- a leaf

-- the key of a leaf by its rule and the rule's weight
abbrev pub quiet_leaf : Option (ℕ × ℕ) → Option Key
quiet_leaf None = None
quiet_leaf (Some x) = Some (x.1, x.0 ∷ [])

pub quiet-leaf : (g : Grammar) (quiet : Quiet) (q : ℕ × ℕ) (a : ℕ) → 1 ≤ q.0 → a < 5 → (o : Option (ℕ × ℕ)) → IsLeafRuleOf g q.1 a (sounds_so quiet) o → IsQuietBest g quiet q (EndsInterval g) a (quiet_leaf o)
quiet-leaf g quiet q a wide low o best bar chords before ground p h =
    subst (IsLeastKey (IsKeyOfRules d p q (EndsInterval g) a 0)) (same o)
    (leaf_keys-least d p q.0 q.1 a a 0 0 (sounds_so quiet)
    (λ ending b fits. quiet_leaf-fits d ground quiet p q.0 wide h ending a b fits)
    (λ ending b lb e. quiet_leaf-agrees d ground quiet p q.0 wide h ending a b low lb e)
    (λ ending. quiet_leaf-charges d ground quiet p q.0 wide h ending)
    o best 0 (omega arith))
  where
    d : Ground
    d = record { book = g; bar = bar; chords = chords; before = before }

    same : (o : Option (ℕ × ℕ)) → leaf_key o 0 0 0 ≡ quiet_leaf o
    same None = refl
    same (Some x) = let sum : x.1 + 0 ≡ x.1 = omega arith in λ i. Some (sum i, x.0 ∷ [])

-- ---- trees side by side

module _ (g : Grammar) (quiet : Quiet) where
  pub quiet-nothing : AreQuietLeast g quiet [] 0 (Some (0, []))
  quiet-nothing bar chords before ground p h = nothing-least (record { book = g; bar = bar; chords = chords; before = before }) p 0 0 (omega arith)

  -- one tree
  pub quiet-one : (q : ℕ × ℕ) (a : ℕ) (o : Option Key) → IsQuietLeast g quiet q a o → AreQuietLeast g quiet (q ∷ []) a o
  quiet-one q a o least bar chords before ground p h =
      least bar chords before ground p (quiet-first (record { book = g; bar = bar; chords = chords; before = before }) quiet p q [] h)

  -- the first tree, and those after it
  pub quiet-beside : (q : ℕ × ℕ) (qs : List (ℕ × ℕ)) (a : ℕ) → AreWide (q ∷ qs) → (o u : Option Key) → IsQuietLeast g quiet q a o → AreQuietLeast g quiet qs 0 u → AreQuietLeast g quiet (q ∷ qs) a (key_sum o u)
  quiet-beside q qs a wide o u first others bar chords before ground p h =
      IsLeast-same (Both (IsForestKey d None p (q ∷ []) a 0) (IsForestKey d None (p + q.0) qs 0 0)) (IsForestKey d None p (q ∷ qs) a 0) (key_sum o u)
      (λ k b. join_key d ground p q qs wide None a 0 k (0, omega arith, b)) back
      (joined-least (IsForestKey d None p (q ∷ []) a 0) (IsForestKey d None (p + q.0) qs 0 0) o u (λ k l s t. keys-parse d None p (q ∷ []) a 0 0 k l s t)
      (first bar chords before ground p here) (others bar chords before ground (p + q.0) (quiet-others d quiet p q qs h)))
    where
      d : Ground
      d = record { book = g; bar = bar; chords = chords; before = before }

      here : IsQuiet quiet d p q.0
      here = quiet-first d quiet p q qs h

      back : (k : Key) → IsForestKey d None p (q ∷ qs) a 0 k → Both (IsForestKey d None p (q ∷ []) a 0) (IsForestKey d None (p + q.0) qs 0 0) k
      back k f =
          let parts = split_key d ground p q qs wide None a 0 k f in
          let both = parts.2 in
          let one : q.0 ≡ q.0 + 0 = omega arith in
          let out : parts.0 ≡ 0 = quiet-out d ground quiet p q [] (wide.0, tt) (subst (λ w. IsQuiet quiet d p w) one here) a parts.0 both.0 both.2 in
          subst (λ n. Both (IsForestKey d None p (q ∷ []) a n) (IsForestKey d None (p + q.0) qs n 0) k) out both

  -- the trees before the last, and the last
  pub quiet-next : (v : ℕ × ℕ) (vs : List (ℕ × ℕ)) (q : ℕ × ℕ) (a : ℕ) → AreWide (v ∷ vs ++ q ∷ []) → (o u : Option Key) → AreQuietLeast g quiet (v ∷ vs) a o → IsQuietLeast g quiet q 0 u
      → AreQuietLeast g quiet (v ∷ vs ++ q ∷ []) a (key_sum o u)
  quiet-next v vs q a wide o u first last bar chords before ground p h =
      IsLeast-same (Both (IsForestKey d None p (v ∷ vs) a 0) (IsForestKey d None (p + sizes (v ∷ vs)) (q ∷ []) 0 0)) (IsForestKey d None p (v ∷ vs ++ q ∷ []) a 0) (key_sum o u)
      (λ k b. join_last d ground (v ∷ vs) q p a 0 k wide (0, omega arith, b)) back
      (joined-least (IsForestKey d None p (v ∷ vs) a 0) (IsForestKey d None (p + sizes (v ∷ vs)) (q ∷ []) 0 0) o u (λ k l s t. keys-parse d None p (v ∷ vs) a 0 0 k l s t)
      (first bar chords before ground p here) (last bar chords before ground (p + sizes (v ∷ vs)) (quiet-first d quiet (p + sizes (v ∷ vs)) q [] (quiet-after d quiet p (v ∷ vs) (q ∷ []) h))))
    where
      d : Ground
      d = record { book = g; bar = bar; chords = chords; before = before }

      here : IsQuiet quiet d p (sizes (v ∷ vs))
      here = quiet-before d quiet p (v ∷ vs) (q ∷ []) h

      back : (k : Key) → IsForestKey d None p (v ∷ vs ++ q ∷ []) a 0 k → Both (IsForestKey d None p (v ∷ vs) a 0) (IsForestKey d None (p + sizes (v ∷ vs)) (q ∷ []) 0 0) k
      back k f =
          let parts = split_last d ground (v ∷ vs) q p a 0 k wide f in
          let both = parts.2 in
          let out : parts.0 ≡ 0 = quiet-out d ground quiet p v vs (wide-before (v ∷ vs) (q ∷ []) wide) here a parts.0 both.0 both.2 in
          subst (λ n. Both (IsForestKey d None p (v ∷ vs) a n) (IsForestKey d None (p + sizes (v ∷ vs)) (q ∷ []) n 0) k) out both

  one-stopped : (v : ℕ × ℕ) (vs : List (ℕ × ℕ)) (q : ℕ × ℕ) (a : ℕ) → AreWide (v ∷ vs ++ q ∷ []) → AreQuietLeast g quiet (v ∷ vs) a None → AreQuietLeast g quiet (v ∷ vs ++ q ∷ []) a None
  one-stopped v vs q a wide least bar chords before ground p h k f =
      let d : Ground = record { book = g; bar = bar; chords = chords; before = before } in
      let here = quiet-before d quiet p (v ∷ vs) (q ∷ []) h in
      let parts = split_last d ground (v ∷ vs) q p a 0 k wide f in
      let both = parts.2 in
      let out : parts.0 ≡ 0 = quiet-out d ground quiet p v vs (wide-before (v ∷ vs) (q ∷ []) wide) here a parts.0 both.0 both.2 in
      least bar chords before ground p here both.0 (subst (λ n. IsForestKey d None p (v ∷ vs) a n both.0) out both.2)

  -- where the first trees have none, trees side by side have none
  pub quiet-stopped : (v : ℕ × ℕ) (vs rs : List (ℕ × ℕ)) (a : ℕ) → AreWide (v ∷ vs ++ rs) → AreQuietLeast g quiet (v ∷ vs) a None → AreQuietLeast g quiet (v ∷ vs ++ rs) a None
  quiet-stopped v vs [] a wide least = subst (λ l. AreQuietLeast g quiet (v ∷ l) a None) (sym (append-nil vs)) least
  quiet-stopped v vs (r ∷ rs) a wide least =
      let one : (vs ++ r ∷ []) ++ rs ≡ vs ++ r ∷ rs = append_assoc vs (r ∷ []) rs in
      let all : AreWide (v ∷ (vs ++ r ∷ []) ++ rs) = subst (λ l. AreWide (v ∷ l)) (sym one) wide in
      subst (λ l. AreQuietLeast g quiet (v ∷ l) a None) one (quiet-stopped v (vs ++ r ∷ []) rs a all (one-stopped v vs r a (wide-before (v ∷ vs ++ r ∷ []) rs all) least))

-- ---- the rules

module _ (g : Grammar) (quiet : Quiet) (q : ℕ × ℕ) (a : ℕ) (wide : 1 ≤ q.0) (rules : ℕ → Type 0) where
  -- one that cuts
  pub quiet-cut : (r : ℕ) (rule : Rule) → IsCutRule g q r rule → (o u : Option Key) → IsQuietBest g quiet q rules a o → AreQuietLeast g quiet (children rule.body q.0) a u
      → IsQuietBest g quiet q (λ s. rules s ⊎ (s ≡ r)) a (lower_of o (on_top rule.weight r u))
  quiet-cut r rule cut o u best below bar chords before ground p h =
      let d : Ground = record { book = g; bar = bar; chords = chords; before = before } in
      let whole = children-whole rule.body p q.0 wide (both (rule.lhs == q.1) (can_cut rule.body q.0) cut.suit).1 (ap (λ o. leaf_of_ending o p q.0) cut.cuts) in
      rules-more d p q a 0 rules r rule cut o u (best bar chords before ground p h) (below bar chords before ground p (subst (λ w. IsQuiet quiet d p w) (sym whole.0) h))

  -- all rules that suit
  pub quiet-whole : ((r : ℕ) → suits (slice_get g.rules r) q ≡ true → rules r) → (o : Option Key) → IsQuietBest g quiet q rules a o → IsQuietLeast g quiet q a o
  quiet-whole whole o best bar chords before ground p h = rules-all (record { book = g; bar = bar; chords = chords; before = before }) p q a 0 rules whole o (best bar chords before ground p h)

-- sets of the same rules
pub quiet-rules : (g : Grammar) (quiet : Quiet) (q : ℕ × ℕ) (a : ℕ) (rules others : ℕ → Type 0) → ((r : ℕ) → rules r → others r) → ((r : ℕ) → others r → rules r) → (o : Option Key) → IsQuietBest g quiet q rules a o → IsQuietBest g quiet q others a o
quiet-rules g quiet q a rules others there back o best bar chords before ground p h =
    rules-same (record { book = g; bar = bar; chords = chords; before = before }) p q a 0 rules others there back o (best bar chords before ground p h)

-- of two rules the lighter is taken, or at equal costs the first
pub tops-before : (k l : Key) (r s : ℕ) (xs ys : List ℕ) → k.1 ≡ r ∷ xs → l.1 ≡ s ∷ ys → r ≢ s → is_before k l ≡ is_nearer (k.0, r) (l.0, s)
tops-before k l r s xs ys ek el other =
    (λ i. is_lt (ordering_then (nat_cmp k.0 l.0) (list_cmp (ek i) (el i))))
    ∙ ap (λ o. is_lt (ordering_then (nat_cmp k.0 l.0) o)) (sym (then_equal (nat_cmp r s)))
    ∙ decides k.0 l.0 r s (list_cmp xs ys) other
  where
    then_equal : (o : Ordering) → ordering_then (ordering_then o Equal) (list_cmp xs ys) ≡ ordering_then o (list_cmp xs ys)
    then_equal Less = refl
    then_equal Equal = refl
    then_equal Greater = refl

-- ---- lists

-- the list of the first trees, and that of the last
pub quiet_list-next : (g : Grammar) (quiet : Quiet) (v : ℕ × ℕ) (vs : List (ℕ × ℕ)) (q : ℕ × ℕ) (a : ℕ) (xs : List ℕ) (k : Key) → IsQuietList g quiet (v ∷ vs) a xs → IsQuietLeast g quiet q 0 (Some k)
    → IsQuietList g quiet (v ∷ vs ++ q ∷ []) a (xs ++ k.1)
quiet_list-next g quiet v vs q a xs k list least = (list.0, list.1 ++ k.1, list.2, go vs list.1 list.3, ap (λ l. l ++ k.1) list.4 ∙ append_assoc list.0.1 list.1 k.1)
  where
    go : (vs : List (ℕ × ℕ)) (xs : List ℕ) → IsQuietList g quiet vs 0 xs → IsQuietList g quiet (vs ++ q ∷ []) 0 (xs ++ k.1)
    go [] xs e = (k, [], least, refl, ap (λ l. l ++ k.1) e ∙ sym (append-nil k.1))
    go (v ∷ vs) xs list = (list.0, list.1 ++ k.1, list.2, go vs list.1 list.3, ap (λ l. l ++ k.1) list.4 ∙ append_assoc list.0.1 list.1 k.1)

-- ---- rows

-- the row over a quiet interval: one place
pub quiet-row : (d : Ground) → IsGround d → (quiet : Quiet) (p : ℕ) (q : ℕ × ℕ) (a : ℕ) (o : Option Key) → 1 ≤ q.0 → IsQuiet quiet d p q.0 → IsQuietLeast d.book quiet q a o
    → AreLeastRow d p (q ∷ []) a (λ b. if b == 0 then o else None)
quiet-row d ground quiet p q a o wide h least b lb = go (b == 0) refl
  where
    go : (t : Bool) → (b == 0) ≡ t → IsLeastKey (IsForestKey d None p (q ∷ []) a b) (if t then o else None)
    go true e = let out : 0 ≡ b = grind (arith, nat_tests) in subst (λ b. IsLeastKey (IsForestKey d None p (q ∷ []) a b) o) out (least d.bar d.chords d.before ground p h)
    go false e = λ k f.
        let one : q.0 ≡ q.0 + 0 = omega arith in
        let out : b ≡ 0 = quiet-out d ground quiet p q [] (wide, tt) (subst (λ w. IsQuiet quiet d p w) one h) a b k f in
        let on : (b == 0) ≡ true = grind (arith, nat_tests) in
        absurd (cc)

-- ---- bars without chords

abbrev end_so : Quiet → ℕ
end_so Sounding = 1
end_so Silent = 0

-- a bar of one tick in which no chord begins
abbrev quiet_ground : Grammar → Quiet → Ground
quiet_ground g quiet = record { book = g; bar = record { start = 0; length = 1; num = 1; den = 1; symbol = 0; pin = None }; chords = []; before = end_so quiet }

quiet_ground-is : (g : Grammar) (quiet : Quiet) → IsGround (quiet_ground g quiet)
quiet_ground-is g quiet = record { long = omega arith; rise = tt }

quiet_ground-quiet : (g : Grammar) (quiet : Quiet) (w : ℕ) → w ≤ g.resolution → IsQuiet quiet (quiet_ground g quiet) 0 w
quiet_ground-quiet g Sounding w within = record { quiet = refl; through = omega (arith, within) }
quiet_ground-quiet g Silent w within = record { quiet = refl; over = omega arith }

-- such trees cost little
pub quiet-cheap : (g : Grammar) → IsInRange g → (quiet : Quiet) (qs : List (ℕ × ℕ)) (a : ℕ) (k : Key) → AreWide qs → sizes qs ≤ g.resolution → AreQuietLeast g quiet qs a (Some k) → k.0 ≤ 3000000000
quiet-cheap g ranges quiet qs a k wide within least =
    let d : Ground = quiet_ground g quiet in
    let one = (least d.bar d.chords d.before (quiet_ground-is g quiet) 0 (quiet_ground-quiet g quiet (sizes qs) within)).0 in
    let cost : k.0 ≡ forest_cost d 0 qs one.0 = ap (λ (k : Key). k.0) one.2 in
    let low = stands-cheap d (quiet_ground-is g quiet) (record { ranges = ranges; some_beat = omega arith; few_beats = omega arith; some_den = omega arith }) None 0 qs one.0 a 0 wide within one.1 in
    omega (arith, cost, low)

-- there is one key
pub quiet-same : (g : Grammar) (quiet : Quiet) (q : ℕ × ℕ) (a : ℕ) (o u : Option Key) → q.0 ≤ g.resolution → IsQuietLeast g quiet q a o → IsQuietLeast g quiet q a u → o ≡ u
quiet-same g quiet q a o u within first second =
    let d : Ground = quiet_ground g quiet in
    let calm = quiet_ground-quiet g quiet q.0 within in
    IsLeast-one (IsForestKey d None 0 (q ∷ []) a 0) o u (first d.bar d.chords d.before (quiet_ground-is g quiet) 0 calm) (second d.bar d.chords d.before (quiet_ground-is g quiet) 0 calm)
