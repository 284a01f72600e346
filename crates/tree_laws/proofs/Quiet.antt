-- Intervals in which no chord begins and which sound alike: the same forests fit them, and cost the same.
use Rattle.std.proofs.Common.{◌≡◌, ℕ, ◌+◌, ◌*◌, ◌≤◌, inl, inr, Bool, true, false, not, ◌&&◌, cond, List, [], ◌∷◌, ◌++◌, map, filter, length, refl, sym, ap, ap₂, ◌∙◌, arith}
use Rattle.std.specs.Prelude.{⊤, Option, Some, None, slice_get}
use Rattle.std.specs.List.{list_all}
use Rattle.std.proofs.Math.Nat.{mul-le-mul_right}
use Rattle.std.proofs.lemmas.List.{map-append}
use Rattle.std.proofs.lemmas.List.Sums.{sum_by-cons}
use Rattle.rhythm_base.specs.declared.rule.Ending.{Ending}
use Rattle.std.proofs.lemmas.Bool.{not-true}
use Rattle.rhythm_base.specs.declared.rule.Rule.{Rule}
use Rattle.rhythm_base.specs.Lists.{last_end}
use Rattle.rhythm_base.specs.Cost.{charge, charges, weights}
use Rattle.rhythm_base.specs.Forest.{Forest, none, more, preorder}
use Rattle.rhythm_base.specs.Leaves.{Leaf, VoiceBar, in_bar, lies_in, looks}
use Rattle.rhythm_base.specs.declared.inner.Inner.{Inner}
use Rattle.rhythm_base.specs.Line.{Looks, agrees}
use Rattle.rhythm_base.specs.Shape.{Shape}
use Rattle.rhythm_base.specs.Ranked.{Key}
use Rattle.rhythm_base.specs.Grammar.{Grammar}
use Rattle.rhythm_base.specs.Bodies.{sizes, ending_of}
use Rattle.rhythm_base.specs.Trees.{BarLeaf, are_trees, children_of, leaves, leaves_at, leaf_of_ending}
use Rattle.tree_laws.specs.Forests.{AreWide, Ground, IsForestKey, IsGround, StandsInBar, forest_cost}
use Rattle.tree_laws.specs.Places.{reach, runs_at}
use Rattle.tree_laws.specs.Quiet.{IsSilent, IsSounding, SoundAlike, end_at, is_quiet}
use Rattle.tree_laws.specs.Runs.{IsLine, leaving, lefts, rights, runs}
use Rattle.tree_laws.proofs.Bars.{SideBySide, leaves-fill}
use Rattle.tree_laws.proofs.Lists.{map_twice}
use Rattle.rhythm_base.proofs.Booleans.{and_left, and_right}
use Rattle.tree_laws.proofs.Reading.{between, reaches}
use Rattle.tree_laws.proofs.Ticks.{before_end, le_from, le_not, parts-line}

-- ---- no chord begins between the two ends of a line

abbrev pub none_between : (ℕ → Bool) → (ℕ → Bool) → List Inner → Bool
none_between s z cs = list_all (λ c. not (between s z c.onset)) cs

-- what begins in part of it begins in it, so nothing does
filter_quiet : (p q : ℕ → Bool) (cs : List Inner) → ((t : ℕ) → q t ≡ true → p t ≡ true) → list_all (λ c. not (p c.onset)) cs ≡ true → filter (λ c. q c.onset) cs ≡ []
filter_quiet p q [] in_p h = refl
filter_quiet p q (c ∷ cs) in_p h = go (q c.onset) refl (filter_quiet p q cs in_p (and_right (not (p c.onset)) _ h))
  where
    go : (b : Bool) → q c.onset ≡ b → filter (λ c. q c.onset) cs ≡ [] → cond b (c ∷ filter (λ c. q c.onset) cs) (filter (λ c. q c.onset) cs) ≡ []
    go true e ih = let on = in_p c.onset e in let no = not-true (p c.onset) (and_left (not (p c.onset)) _ h) in absurd (cc)
    go false e ih = ih

all_quiet : (p q : ℕ → Bool) (cs : List Inner) → ((t : ℕ) → q t ≡ true → p t ≡ true) → list_all (λ c. not (p c.onset)) cs ≡ true → list_all (λ c. not (q c.onset)) cs ≡ true
all_quiet p q [] in_p h = refl
all_quiet p q (c ∷ cs) in_p h = go (q c.onset) refl (all_quiet p q cs in_p (and_right (not (p c.onset)) _ h))
  where
    go : (b : Bool) → q c.onset ≡ b → list_all (λ c. not (q c.onset)) cs ≡ true → not b && list_all (λ c. not (q c.onset)) cs ≡ true
    go true e ih = let on = in_p c.onset e in let no = not-true (p c.onset) (and_left (not (p c.onset)) _ h) in absurd (cc)
    go false e ih = ih

inside_both : (a b c : Bool) → (c ≡ true → b ≡ true) → a && not b ≡ true → a && not c ≡ true
inside_both true true c h k = absurd (cc)
inside_both true false true h k = absurd (let no = h refl in cc)
inside_both true false false h k = refl
inside_both false b c h k = k

after_both : (a b c : Bool) → (b ≡ true → a ≡ true) → b && not c ≡ true → a && not c ≡ true
after_both true b c h k = go b c k
  where
    go : (b c : Bool) → b && not c ≡ true → not c ≡ true
    go true c k = k
    go false c k = absurd (cc)
after_both false true c h k = absurd (let no = h refl in cc)
after_both false false c h k = k

-- the rules of leaves agree with what is carried to the first alone, where all sound or none does
abbrev pub calm : Bool → ℕ → List Ending → Bool
calm b f [] = true
calm b f (y ∷ ys) = agrees y (f + 0) b && calm b 0 ys

abbrev pub carried_by : ℕ → List Ending → ℕ
carried_by f [] = f
carried_by f (y ∷ ys) = carried_by 0 ys

-- the end sounds in each leaf, or in none
abbrev pub AllSound : {X : Type 0} → Looks X → ℕ → Bool → List X → Type 0
AllSound K e b [] = ⊤
AllSound K e b (x ∷ xs) = (K.sounds x e ≡ b) × AllSound K e b xs

module _ {X : Type 0} (K : Looks X) (cs : List Inner) where
  module _ (s z : ℕ → Bool) (x : X) (xs : List X) (line : IsLine K s (x ∷ xs) z) (quiet : none_between s z cs ≡ true) where
    inside : (t : ℕ) → K.lies x t ≡ true → between s z t ≡ true
    inside t h = inside_both (s t) (line.0 t) (z t) (λ k. reaches K line.0 z xs line.2 t k) (sym (line.1.inside t) ∙ h)

    no_lefts : lefts K x cs ≡ []
    no_lefts = ap (map (λ c. c.end)) (filter_quiet (between s z) (λ t. K.lies x t && K.left x t) cs (λ t h. inside t (and_left (K.lies x t) _ h)) quiet)

    no_rights : rights K x cs ≡ []
    no_rights = ap (map (λ c. c.end)) (filter_quiet (between s z) (λ t. K.lies x t && not (K.left x t)) cs (λ t h. inside t (and_left (K.lies x t) _ h)) quiet)

    quiet_rest : none_between line.0 z cs ≡ true
    quiet_rest = all_quiet (between s z) (between line.0 z) cs (λ t h. after_both (s t) (line.0 t) (z t) (line.1.back t) h) quiet

  pub runs-calm : (s z : ℕ → Bool) (e f : ℕ) (b : Bool) (xs : List X) → IsLine K s xs z → none_between s z cs ≡ true → AllSound K e b xs → runs K cs e f xs ≡ calm b f (map K.ending xs)
  runs-calm s z e f b [] line quiet all = refl
  runs-calm s z e f b (x ∷ xs) line quiet all =
      ap₂ (λ l r. agrees (K.ending x) (f + length l) (K.sounds x (last_end e l)) && runs K cs (last_end (last_end e l) r) (length r) xs) (no_lefts s z x xs line quiet) (no_rights s z x xs line quiet)
      ∙ ap₂ (λ t r. agrees (K.ending x) (f + 0) t && r) all.0 (runs-calm line.0 z e 0 b xs line.2 (quiet_rest s z x xs line quiet) all.1)

  pub leaving-calm : (s z : ℕ → Bool) (f : ℕ) (xs : List X) → IsLine K s xs z → none_between s z cs ≡ true → leaving K cs f xs ≡ carried_by f (map K.ending xs)
  leaving-calm s z f [] line quiet = refl
  leaving-calm s z f (x ∷ xs) line quiet =
      ap (λ r. leaving K cs (length r) xs) (no_rights s z x xs line quiet)
      ∙ leaving-calm line.0 z 0 xs line.2 (quiet_rest s z x xs line quiet)

-- ---- nothing is charged

charge-quiet : (g : Grammar) (s z : ℕ → Bool) (xs : List Leaf) (t : ℕ) → IsLine (looks g.resolution) s xs z → between s z t ≡ false → charge g xs t ≡ 0
charge-quiet g s z [] t line h = refl
charge-quiet g s z (x ∷ xs) t line h = go (lies_in g.resolution x t) refl (charge-quiet g line.0 z xs t line.2 (off_too (between line.0 z t) refl))
  where
    off_too : (b : Bool) → between line.0 z t ≡ b → b ≡ false
    off_too true e = let on = after_both (s t) (line.0 t) (z t) (line.1.back t) e in absurd (cc)
    off_too false e = refl

    go : (b : Bool) → lies_in g.resolution x t ≡ b → charge g xs t ≡ 0 → charge g (x ∷ xs) t ≡ 0
    go true e ih =
        let on = inside_both (s t) (line.0 t) (z t) (λ k. reaches (looks g.resolution) line.0 z xs line.2 t k) (sym (line.1.inside t) ∙ e) in absurd (cc)
    go false e ih = rw e ih

charges-quiet : (g : Grammar) (s z : ℕ → Bool) (xs : List Leaf) (cs : List Inner) → IsLine (looks g.resolution) s xs z → none_between s z cs ≡ true → charges g xs cs ≡ 0
charges-quiet g s z xs [] line h = refl
charges-quiet g s z xs (c ∷ cs) line h =
    let all = sum_by-cons (λ c. charge g xs c.onset) c cs in
    let here = charge-quiet g s z xs c.onset line (not-true (between s z c.onset) (and_left (not (between s z c.onset)) _ h)) in
    let ih = charges-quiet g s z xs cs line (and_right (not (between s z c.onset)) _ h) in
    omega (arith, all, here, ih)

-- ---- the leaves of one forest at two places have the same rules

abbrev endings : List BarLeaf → List Ending
endings xs = map (λ x. x.ending) xs

leaf-ending : (e : Option Ending) (p q w : ℕ) → endings (leaf_of_ending e p w) ≡ endings (leaf_of_ending e q w)
leaf-ending None p q w = refl
leaf-ending (Some e) p q w = refl

leaf-endings : (o : Option Rule) (p q w : ℕ) → endings (leaves_at o p w) ≡ endings (leaves_at o q w)
leaf-endings None p q w = refl
leaf-endings (Some rule) p q w = leaf-ending (ending_of rule.body) p q w

forest-endings : (rules : List Rule) (f : Forest) (p q : ℕ) (qs : List (ℕ × ℕ)) → endings (leaves rules p qs f) ≡ endings (leaves rules q qs f)
forest-endings rules none p q qs = refl
forest-endings rules (more r k rest) p q [] = refl
forest-endings rules (more r k rest) p q (v ∷ qs) =
    let o : Option Rule = slice_get rules r in
    apart p
    ∙ ap₂ ◌++◌ (leaf-endings o p q v.0) (ap₂ ◌++◌ (forest-endings rules k p q (children_of o v.0)) (forest-endings rules rest (p + v.0) (q + v.0) qs))
    ∙ sym (apart q)
  where
    apart : (p : ℕ) → endings (leaves rules p (v ∷ qs) (more r k rest))
        ≡ endings (leaves_at (slice_get rules r) p v.0) ++ (endings (leaves rules p (children_of (slice_get rules r) v.0) k) ++ endings (leaves rules (p + v.0) qs rest))
    apart p =
        map-append (λ x. x.ending) (leaves_at (slice_get rules r) p v.0) (leaves rules p (children_of (slice_get rules r) v.0) k ++ leaves rules (p + v.0) qs rest)
        ∙ ap (λ l. endings (leaves_at (slice_get rules r) p v.0) ++ l) (map-append (λ x. x.ending) (leaves rules p (children_of (slice_get rules r) v.0) k) (leaves rules (p + v.0) qs rest))

-- ---- what sounds in an interval

pub doubled : (a b : ℕ) → 2 * a * b ≡ 2 * (a * b)
doubled a b = grind arith

module _ (r : ℕ) (bar : VoiceBar) (e : ℕ) where
  sounding-parts : (p m : ℕ) (xs : List BarLeaf) → SideBySide p xs m → bar.start * r + m * bar.length ≤ e * r → AllSound (looks r) e true (in_bar bar xs)
  sounding-parts p m [] side h = _
  sounding-parts p m (x ∷ xs) side h =
      let far = before_end (p + x.width) m xs side.2 in
      let place = side.0 in
      let low : 2 * x.place + x.width ≤ 2 * m = omega (arith, place, far) in
      let more = mul-le-mul_right bar.length low in
      let a = doubled bar.start r in
      let b = doubled m bar.length in
      let c = doubled e r in
      (le_from _ _ (omega (arith, more, a, b, c, h)), sounding-parts (p + x.width) m xs side.2 h)

  silent-parts : (o p m : ℕ) (xs : List BarLeaf) → 1 ≤ bar.length → SideBySide p xs m → o ≤ p → e * r ≤ bar.start * r + o * bar.length → AllSound (looks r) e false (in_bar bar xs)
  silent-parts o p m [] long side near h = _
  silent-parts o p m (x ∷ xs) long side near h =
      let place = side.0 in
      let wide = side.1 in
      let low : 2 * o + 1 ≤ 2 * x.place + x.width = omega (arith, place, wide, near) in
      let more = mul-le-mul_right bar.length low in
      let apart : (2 * o + 1) * bar.length ≡ 2 * (o * bar.length) + bar.length = grind arith in
      let a = doubled bar.start r in
      let c = doubled e r in
      (le_not _ _ (omega (arith, more, apart, a, c, h, long)), silent-parts o (p + x.width) m xs long side.2 (omega (arith, near)) h)

-- ---- forests

module _ (d : Ground) (ground : IsGround d) (s : Option Shape) (qs : List (ℕ × ℕ)) (wide : AreWide qs) where
  -- no chord begins over the forest, and all its leaves sound or none does
  pub record IsCalm (b : Bool) (p : ℕ) (f : Forest) : Type 0 where
    pub quiet : is_quiet d p (sizes qs) ≡ true
    pub all : AllSound (looks d.book.resolution) (end_at d p) b (in_bar d.bar (leaves d.book.rules p qs f))

  module _ (f : Forest) (trees : are_trees d.book.rules qs f ≡ true) where
    fills : (p : ℕ) → SideBySide p (leaves d.book.rules p qs f) (p + sizes qs)
    fills p = leaves-fill d.book.rules f p qs wide trees

    line : (p : ℕ) → IsLine (looks d.book.resolution) (reach d.book.resolution d.bar p) (in_bar d.bar (leaves d.book.rules p qs f)) (reach d.book.resolution d.bar (p + sizes qs))
    line p = parts-line d.book.resolution d.bar p (p + sizes qs) (leaves d.book.rules p qs f) ground.long (fills p)

    calm-sounding : (p : ℕ) → IsSounding d p (sizes qs) → IsCalm true p f
    calm-sounding p h = record { quiet = h.quiet; all = sounding-parts d.book.resolution d.bar (end_at d p) p (p + sizes qs) (leaves d.book.rules p qs f) (fills p) h.through }

    calm-silent : (p : ℕ) → IsSilent d p (sizes qs) → IsCalm false p f
    calm-silent p h = record { quiet = h.quiet; all = silent-parts d.book.resolution d.bar (end_at d p) p p (p + sizes qs) (leaves d.book.rules p qs f) ground.long (fills p) (omega arith) h.over }

    endings-here : (p : ℕ) → map (λ x. x.part.ending) (in_bar d.bar (leaves d.book.rules p qs f)) ≡ endings (leaves d.book.rules p qs f)
    endings-here p = map_twice (λ x. x.part.ending) (λ x. record { bar = d.bar; part = x }) (leaves d.book.rules p qs f)

    same-endings : (p q : ℕ) → map (λ x. x.part.ending) (in_bar d.bar (leaves d.book.rules p qs f)) ≡ map (λ x. x.part.ending) (in_bar d.bar (leaves d.book.rules q qs f))
    same-endings p q = endings-here p ∙ forest-endings d.book.rules f p q qs ∙ sym (endings-here q)

    moved-runs : (b : Bool) (p q n : ℕ) → IsCalm b p f → IsCalm b q f → runs_at d.book.resolution d.bar d.chords d.before p n (leaves d.book.rules p qs f) ≡ runs_at d.book.resolution d.bar d.chords d.before q n (leaves d.book.rules q qs f)
    moved-runs b p q n h k =
        runs-calm (looks d.book.resolution) d.chords _ _ (end_at d p) n b (in_bar d.bar (leaves d.book.rules p qs f)) (line p) h.quiet h.all
        ∙ ap (calm b n) (same-endings p q)
        ∙ sym (runs-calm (looks d.book.resolution) d.chords _ _ (end_at d q) n b (in_bar d.bar (leaves d.book.rules q qs f)) (line q) k.quiet k.all)

    moved-leaving : (b : Bool) (p q n : ℕ) → IsCalm b p f → IsCalm b q f → leaving (looks d.book.resolution) d.chords n (in_bar d.bar (leaves d.book.rules p qs f)) ≡ leaving (looks d.book.resolution) d.chords n (in_bar d.bar (leaves d.book.rules q qs f))
    moved-leaving b p q n h k =
        leaving-calm (looks d.book.resolution) d.chords _ _ n (in_bar d.bar (leaves d.book.rules p qs f)) (line p) h.quiet
        ∙ ap (carried_by n) (same-endings p q)
        ∙ sym (leaving-calm (looks d.book.resolution) d.chords _ _ n (in_bar d.bar (leaves d.book.rules q qs f)) (line q) k.quiet)

    moved-cost : (b : Bool) (p q : ℕ) → IsCalm b p f → IsCalm b q f → forest_cost d p qs f ≡ forest_cost d q qs f
    moved-cost b p q h k =
        ap (λ n. weights d.book (preorder f) + n)
        (charges-quiet d.book _ _ (in_bar d.bar (leaves d.book.rules p qs f)) d.chords (line p) h.quiet
        ∙ sym (charges-quiet d.book _ _ (in_bar d.bar (leaves d.book.rules q qs f)) d.chords (line q) k.quiet))

  calm-key : (b : Bool) (p q from to : ℕ) (key : Key) (f : Forest) (stands : StandsInBar d s p qs f from to) → key ≡ (forest_cost d p qs f, preorder f) → IsCalm b p f → IsCalm b q f → IsForestKey d s q qs from to key
  calm-key b p q from to key f stands is h k = (
    f,
    record {
      trees = stands.trees;
      shaped = stands.shaped;
      fits = record {
        runs = sym (moved-runs f stands.trees b p q from h k) ∙ stands.fits.runs;
        leave = sym (moved-leaving f stands.trees b p q from h k) ∙ stands.fits.leave;
        few_from = stands.fits.few_from;
        few_to = stands.fits.few_to;
      };
    },
    is ∙ (λ i. (moved-cost f stands.trees b p q h k i, preorder f)),
  )

  pub alike-key : (p q from to : ℕ) (key : Key) → SoundAlike d (sizes qs) p q → IsForestKey d s p qs from to key → IsForestKey d s q qs from to key
  alike-key p q from to key (inl both) (f, stands, is) =
      calm-key true p q from to key f stands is (calm-sounding f stands.trees p both.0) (calm-sounding f stands.trees q both.1)
  alike-key p q from to key (inr both) (f, stands, is) =
      calm-key false p q from to key f stands is (calm-silent f stands.trees p both.0) (calm-silent f stands.trees q both.1)

pub alike-turned : (d : Ground) (w p q : ℕ) → SoundAlike d w p q → SoundAlike d w q p
alike-turned d w p q (inl both) = inl (both.1, both.0)
alike-turned d w p q (inr both) = inr (both.1, both.0)
