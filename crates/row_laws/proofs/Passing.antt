-- What need not be searched: no more chords are carried out of an interval than have their onsets in its right half, and trees side
-- by side cost no less than the first of them.
use Rattle.std.proofs.Common.{◌≡◌, ℕ, ◌<◌, ◌≤◌, ◌+◌, ◌-◌, ◌*◌, ◌&&◌, inl, inr, nat_lt, Bool, true, false, not, List, [], ◌∷◌, ◌++◌, cond, filter, length, map, refl, ap, subst, arith}
use Rattle.std.specs.Prelude.{Option, Some, None, nat_le}
use Rattle.std.specs.Cmp.{nat_cmp_is}
use Rattle.std.specs.Ordering.{ordering_then, is_lt}
use Rattle.std.specs.declared.cmp.Ordering.TheVariants.{Less}
use Rattle.std.proofs.Math.Nat.{mul-le-mul_right}
use Rattle.std.proofs.lemmas.Bool.{cases_lt, not-true}
use Rattle.std.proofs.lemmas.Bool.Decides.{nat_tests}
use Rattle.rhythm_base.specs.BarInput.{BarInput}
use Rattle.rhythm_base.specs.Bodies.{children}
use Rattle.rhythm_base.specs.Grammar.{Grammar}
use Rattle.rhythm_base.specs.Cells.{bar_of}
use Rattle.rhythm_base.specs.Leaves.{Leaf, VoiceBar, goes_left, in_bar, lies_in, looks}
use Rattle.rhythm_base.specs.Ranked.{Key, is_before, list_cmp, plus}
use Rattle.rhythm_base.specs.Trees.{BarLeaf, leaf_of_ending, leaves}
use Rattle.rhythm_base.specs.declared.inner.Inner.{Inner}
use Rattle.rhythm_base.specs.declared.rule.Ending.TheVariants.{Note}
use Rattle.rhythm_base.specs.declared.rule.Rule.{Rule}
use Rattle.tree_laws.specs.Forests.{AreWide, Ground, IsForestKey, IsGround}
use Rattle.tree_laws.specs.Runs.{leaving, rights}
use Rattle.path_laws.specs.Tables.{IsLeastKey}
use Rattle.tree_laws.proofs.Bars.{SideBySide, leaves-fill}
use Rattle.tree_laws.proofs.ForestLemmas.{join_key, split_key}
use Rattle.tree_laws.proofs.Ranks.{both}
use Rattle.tree_laws.proofs.Ticks.{le_from, le_not}
use Rattle.row_laws.specs.Grounds.{IsReady, ground_of}
use Rattle.row_laws.specs.Leaves.{next_ends}
use Rattle.row_laws.specs.Rows.{AreLeastRow}
use Rattle.row_laws.specs.RuleKeys.{IsCutRule, IsRuleKey}
use Rattle.row_laws.proofs.Grounds.{grounded}
use Rattle.row_laws.proofs.LeafKeys.{and_true}
use Rattle.row_laws.proofs.RowProducts.{no_trees}
use Rattle.row_laws.proofs.RuleKeys.{cut-key}

-- ---- the right half of an interval

-- an onset in the right half of the last leaf of an interval lies in the right half of the interval
module _ (r : ℕ) (bar : VoiceBar) (x y : BarLeaf) (t : ℕ) (low : y.place ≤ x.place) (end : x.place + x.width ≡ y.place + y.width) where
  abbrev there : BarLeaf → Leaf
  there x = record { bar = bar; part = x }

  last-half : lies_in r (there x) t && not (goes_left r (there x) t) ≡ true → lies_in r (there y) t && not (goes_left r (there y) t) ≡ true
  last-half h =
      let lies = both (lies_in r (there x) t) (not (goes_left r (there x) t)) h in
      let start = both (nat_le bar.start t) _ lies.0 in
      let within = both (nat_le (x.place * bar.length) ((t - bar.start) * r)) (nat_lt ((t - bar.start) * r) ((x.place + x.width) * bar.length)) start.1 in
      let from : x.place * bar.length ≤ (t - bar.start) * r = let e = within.0 in grind (arith, nat_tests) in
      let until : (t - bar.start) * r < (x.place + x.width) * bar.length = let e = within.1 in grind (arith, nat_tests) in
      let half : x.width * bar.length < 2 * ((t - bar.start) * r - x.place * bar.length) = let e = lies.1 in far e in
      let less : y.place * bar.length ≤ x.place * bar.length = mul-le-mul_right bar.length low in
      let split : (x.place + x.width) * bar.length ≡ x.place * bar.length + x.width * bar.length = grind arith in
      let split' : (y.place + y.width) * bar.length ≡ y.place * bar.length + y.width * bar.length = grind arith in
      let same : (x.place + x.width) * bar.length ≡ (y.place + y.width) * bar.length = ap (λ n. n * bar.length) end in
      let begins : y.place * bar.length ≤ (t - bar.start) * r = omega (arith, less, from) in
      let ends : (t - bar.start) * r < (y.place + y.width) * bar.length = omega (arith, until, same) in
      let over : y.width * bar.length < 2 * ((t - bar.start) * r - y.place * bar.length) = omega (arith, half, less, split, split', same, from) in
      and_true (lies_in r (there y) t) (not (goes_left r (there y) t))
      (and_true (nat_le bar.start t) _ start.0 (and_true (nat_le (y.place * bar.length) ((t - bar.start) * r)) _ (le_from _ _ begins) (lt_from _ _ ends)))
      (ap not (le_not _ _ over))
    where
      lt_from : (a b : ℕ) → a < b → nat_lt a b ≡ true
      lt_from a b h = grind (arith, nat_tests)

      far : not (goes_left r (there x) t) ≡ true → x.width * bar.length < 2 * ((t - bar.start) * r - x.place * bar.length)
      far e = let off = not-true (goes_left r (there x) t) e in le_tells_not _ _ off
        where
          le_tells_not : (a b : ℕ) → nat_le a b ≡ false → b < a
          le_tells_not a b h = grind (arith, nat_tests)

-- no more of them where one test holds than where the other does, which it implies
fewer : (f g : ℕ → Bool) (cs : List Inner) → ((t : ℕ) → g t ≡ true → f t ≡ true) → length (map (λ c. c.end) (filter (λ c. g c.onset) cs)) ≤ length (map (λ c. c.end) (filter (λ c. f c.onset) cs))
fewer f g [] less = omega arith
fewer f g (c ∷ cs) less = go (f c.onset) (g c.onset) refl refl (fewer f g cs less)
  where
    go : (a b : Bool) → f c.onset ≡ a → g c.onset ≡ b → length (map (λ c. c.end) (filter (λ c. g c.onset) cs)) ≤ length (map (λ c. c.end) (filter (λ c. f c.onset) cs))
        → length (map (λ c. c.end) (cond b (c ∷ filter (λ c. g c.onset) cs) (filter (λ c. g c.onset) cs))) ≤ length (map (λ c. c.end) (cond a (c ∷ filter (λ c. f c.onset) cs) (filter (λ c. f c.onset) cs)))
    go true true e k ih = omega (arith, ih)
    go true false e k ih = omega (arith, ih)
    go false true e k ih = let on = less c.onset k in absurd (cc)
    go false false e k ih = ih

-- so no more are carried out of it than lie there
module _ (d : Ground) (p w : ℕ) where
  abbrev whole : Leaf
  whole = record { bar = d.bar; part = record { ending = Note; place = p; width = w } }

  abbrev right : ℕ
  right = length (rights (looks d.book.resolution) whole d.chords)

  leaving-most : (f m : ℕ) (x : BarLeaf) (xs : List BarLeaf) → p ≤ m → SideBySide m (x ∷ xs) (p + w) → leaving (looks d.book.resolution) d.chords f (in_bar d.bar (x ∷ xs)) ≤ right
  leaving-most f m x [] low side =
      let place : x.place ≡ m = side.0 in
      let end : m + x.width ≡ p + w = side.2 in
      fewer (λ t. lies_in d.book.resolution whole t && not (goes_left d.book.resolution whole t)) (λ t. lies_in d.book.resolution here t && not (goes_left d.book.resolution here t)) d.chords
      (λ t h. last-half d.book.resolution d.bar x whole.part t (omega (arith, place, low)) (omega (arith, place, end)) h)
    where
      here : Leaf
      here = record { bar = d.bar; part = x }
  leaving-most f m x (y ∷ ys) low side =
      leaving-most (length (rights (looks d.book.resolution) (record { bar = d.bar; part = x }) d.chords)) (m + x.width) y ys (omega (arith, low)) side.2

  pub carried-out : IsGround d → (symbol a b : ℕ) (k : Key) → 1 ≤ w → IsForestKey d None p ((w, symbol) ∷ []) a b k → b ≤ right
  carried-out ground symbol a b k wide (f, stands, is) =
      subst (λ n. n ≤ right) stands.fits.leave (go (leaves d.book.rules p ((w, symbol) ∷ []) f) (leaves-fill d.book.rules f p ((w, symbol) ∷ []) (wide, tt) stands.trees))
    where
      go : (xs : List BarLeaf) → SideBySide p xs (p + (w + 0)) → leaving (looks d.book.resolution) d.chords a (in_bar d.bar xs) ≤ right
      go [] side = absurd (omega (arith, side, wide))
      go (x ∷ xs) side = let one : p + (w + 0) ≡ p + w = omega arith in leaving-most a p x xs (omega arith) (subst (λ e. SideBySide p (x ∷ xs) e) one side)

-- of a cell: no more than the chords of the interval that are attached to the next leaf
pub next-most : (g : Grammar) (k : BarInput) → IsReady g k → (p w symbol a b : ℕ) (key : Key) → 1 ≤ w → IsForestKey (ground_of g k) None p ((w, symbol) ∷ []) a b key → b ≤ length (next_ends k p w)
next-most g k ready p w symbol a b key wide f =
    subst (λ r. b ≤ length (rights (looks r) (record { bar = bar_of k; part = record { ending = Note; place = p; width = w } }) k.chords)) ready.units
    (carried-out (ground_of g k) p w (grounded g k ready) symbol a b key wide f)

-- ---- costs so far

module _ (d : Ground) (ground : IsGround d) where
  -- the first of trees side by side cost no more than all
  pub first-cost : (qs rs : List (ℕ × ℕ)) (p a b : ℕ) (k : Key) → AreWide (qs ++ rs) → IsForestKey d None p (qs ++ rs) a b k → (n : ℕ) × (x : Key) × (n < 5) × IsForestKey d None p qs a n x × (x.0 ≤ k.0)
  first-cost [] rs p a b k wide f =
      let few : a ≤ 4 = f.1.fits.few_from in
      let low : a < 5 = omega (arith, few) in
      (a, (0, []), low, no_trees d p a low, omega arith)
  first-cost (q ∷ qs) rs p a b k wide f =
      let parts = split_key d ground p q (qs ++ rs) wide None a b k f in
      let both = parts.2 in
      let after = first-cost qs rs (p + q.0) parts.0 b both.1 wide.1 both.3 in
      let sum : k.0 ≡ both.0.0 + both.1.0 = ap (λ (k : Key). k.0) both.4 in
      let less = after.4 in (
        after.0,
        plus both.0 after.1,
        after.2,
        join_key d ground p q qs (wide.0, wide-part qs rs wide.1) None a after.0 (plus both.0 after.1) (parts.0, parts.1, (both.0, after.1, both.2, after.3, refl)),
        omega (arith, sum, less),
      )
    where
      wide-part : (xs ys : List (ℕ × ℕ)) → AreWide (xs ++ ys) → AreWide xs
      wide-part [] ys h = tt
      wide-part (x ∷ xs) ys h = (h.0, wide-part xs ys h.1)

  -- where the least of the first trees cost more, so do all
  pub row-over : (qs rs : List (ℕ × ℕ)) (p a : ℕ) (row : ℕ → Option Key) (limit : ℕ) → AreWide (qs ++ rs) → AreLeastRow d p qs a row → ((m : ℕ) (x : Key) → m < 5 → row m ≡ Some x → limit < x.0)
      → (b : ℕ) (k : Key) → IsForestKey d None p (qs ++ rs) a b k → limit < k.0
  row-over qs rs p a row limit wide least over b k f =
      let first = first-cost qs rs p a b k wide f in
      let less = first.4 in
      let more : limit < first.1.0 = go first.0 first.2 first.1 first.3 (row first.0) refl (least first.0 first.2) in
      omega (arith, less, more)
    where
      no_less : (x y : Key) → is_before x y ≡ false → y.0 ≤ x.0
      no_less x y h = elim (cases_lt x.0 y.0) [
        | inl low ↦ let on : true ≡ is_before x y = ap (λ o. is_lt (ordering_then o (list_cmp x.1 y.1))) (nat_cmp_is x.0 y.0 Less low) in absurd (cc)
        | inr le ↦ le
      ]

      go : (n : ℕ) → n < 5 → (x : Key) → IsForestKey d None p qs a n x → (o : Option Key) → row n ≡ o → IsLeastKey (IsForestKey d None p qs a n) o → limit < x.0
      go n low x f None e h = absurd (h x f)
      go n low x f (Some y) e h =
          let more = over n y low e in
          let least = no_less x y (h.1 x f) in
          omega (arith, more, least)

  -- a cut whose first parts cost more, with its own weight
  pub cut-over : (q : ℕ × ℕ) (r : ℕ) (rule : Rule) → IsCutRule d.book q r rule → (qs rs : List (ℕ × ℕ)) → children rule.body q.0 ≡ qs ++ rs → (p a : ℕ) (row : ℕ → Option Key) (limit : ℕ) → AreWide (qs ++ rs) → AreLeastRow d p qs a row
      → ((m : ℕ) (x : Key) → m < 5 → row m ≡ Some x → limit < rule.weight + x.0) → (b : ℕ) (k : Key) → IsRuleKey d None p q r a b k → limit < k.0
  cut-over q r rule cut qs rs parts p a row limit wide least over b k h =
      let below = cut-key d None p q r a b rule cut.at cut.suit (ap (λ o. leaf_of_ending o p q.0) cut.cuts) k h in
      let cost : k.0 ≡ rule.weight + below.0.0 = ap (λ (k : Key). k.0) below.2 in
      let key : IsForestKey d None p (qs ++ rs) a b below.0 = subst (λ qs. IsForestKey d None p qs a b below.0) parts below.1 in
      elim (cases_lt limit rule.weight) [
        | inl heavy ↦ omega (arith, cost, heavy)
        | inr light ↦
            let more = row-over qs rs p a row (limit - rule.weight) wide least (λ m x low e. let o = over m x low e in omega (arith, o, light)) b below.0 key in
            omega (arith, cost, light, more)
      ]
