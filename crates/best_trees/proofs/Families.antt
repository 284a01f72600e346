-- What was found for one interval is right for all that are answered alike, and which trees those are that are asked for.
use Rattle.std.proofs.Common.{◌≡◌, ℕ, ◌<◌, ◌≤◌, ◌+◌, inl, inr, List, [], ◌∷◌, ◌++◌, length, sym, ap, ◌∙◌, subst, arith}
use Rattle.std.specs.Prelude.{All, Option, Some, slice_get}
use Rattle.std.proofs.Math.Seq.{get_or-append_seam}
use Rattle.std.proofs.Math.ListN.{get_or-append}
use Rattle.std.proofs.lemmas.List.{length-append}
use Rattle.std.proofs.lemmas.List.Elements.{All-push}
use Rattle.std.proofs.lemmas.Option.{get_or_from_slice_get, slice_get-get_or, slice_get_within}
use Rattle.rhythm_base.specs.Bodies.{sizes}
use Rattle.rhythm_base.specs.Ranked.{Key}
use Rattle.rhythm_base.specs.Shape.{Shape}
use Rattle.tree_laws.specs.Forests.{AreWide, Ground, IsForestKey, IsGround, one_shape}
use Rattle.tree_laws.specs.Quiet.{SoundAlike}
use Rattle.tree_laws.proofs.Quiet.{alike-key, alike-turned}
use Rattle.best_trees.specs.declared.memo.Asked.{Asked}
use Rattle.best_trees.specs.declared.memo.Family.{Family}
use Rattle.best_trees.specs.declared.memo.Found.{Found}
use Rattle.best_trees.specs.declared.memo.LastParts.{LastParts}
use Rattle.best_trees.specs.declared.memo.LastParts.TheVariants.{One, Several}
use Rattle.best_trees.specs.declared.memo.Site.{Site}
use Rattle.best_trees.specs.declared.memo.Site.TheVariants.{From, Wherever}
use Rattle.best_trees.specs.declared.pins.Demand.{Demand}
use Rattle.best_trees.specs.declared.search.SearchedBar.{SearchedBar}
use Rattle.row_laws.specs.QuietTrees.{IsQuiet}
use Rattle.row_laws.specs.declared.quiet.Quiet.{Quiet}
use Rattle.row_laws.specs.declared.quiet.Quiet.TheVariants.{Silent, Sounding}
use Rattle.best_trees.specs.Grids.{ranking_at}
use Rattle.best_trees.specs.Memos.{AddsFound, AreThere, HasFound, IsGridOf, KeepsFound, LiesAt}
use Rattle.best_trees.specs.Nodes.{AreBestForests, AreBestLast, AreFound, AreDemanded, IsAnswerAt, IsAnswerOf, IsInBar, IsOf, ground_in, shapes_in}
use Rattle.best_trees.proofs.Firsts.{first-same}

-- ---- intervals that are answered alike

forests-alike : (d : Ground) → IsGround d → (s : Option Shape) (n : ℕ) (qs : List (ℕ × ℕ)) → AreWide qs → (p q : ℕ) (grid : List (List Key)) → SoundAlike d (sizes qs) p q → AreBestForests d s n p qs grid
    → AreBestForests d s n q qs grid
forests-alike d ground s n qs wide p q grid alike h a b la lb =
    first-same (IsForestKey d s p qs a b) (IsForestKey d s q qs a b) n (ranking_at grid a b)
    (λ key x. alike-key d ground s qs wide p q a b key alike x) (λ key x. alike-key d ground s qs wide q p a b key (alike-turned d (sizes qs) p q alike) x) (h a b la lb)

module _ (d : Ground) (ground : IsGround d) (s : Option Shape) (n w symbol : ℕ) (wide : 1 ≤ w) (p q : ℕ) (grid : List (List Key)) where
  quiet-alike : (quiet : Quiet) → IsQuiet quiet d p w → IsQuiet quiet d q w → SoundAlike d w p q
  quiet-alike Sounding h k = inl (h, k)
  quiet-alike Silent h k = inr (h, k)

  forests-there : (site : Site) → LiesAt d site p w → LiesAt d site q w → AreBestForests d s n p ((w, symbol) ∷ []) grid → AreBestForests d s n q ((w, symbol) ∷ []) grid
  forests-there (From o) h k best = subst (λ p. AreBestForests d s n p ((w, symbol) ∷ []) grid) (h ∙ sym k) best
  forests-there (Wherever quiet) h k best =
      let alone : w ≡ w + 0 = omega arith in
      forests-alike d ground s n ((w, symbol) ∷ []) (wide, tt) p q grid (subst (λ v. SoundAlike d v p q) alone (quiet-alike quiet h k)) best

-- ---- what was found

module _ (bar : SearchedBar) (ground : IsGround (ground_in bar)) where
  answer-of : (family : Family) (asked : Asked) (grid : List (List Key)) → IsInBar bar.input.now asked → IsOf bar family asked → AreDemanded bar asked grid → IsAnswerOf bar family grid
  answer-of family asked grid within is own p there =
      let d = ground_in bar in
      let P : ℕ → ℕ → Demand → Type 0 = λ w s o. AreBestForests d (one_shape (shapes_in bar o)) bar.count p ((w, s) ∷ []) grid in
      let here : LiesAt d family.site p asked.width = subst (LiesAt d family.site p) is.width there in
      let best = forests-there d ground (one_shape (shapes_in bar asked.demand)) bar.count asked.width asked.symbol within.wide asked.place p grid family.site is.site here own in
      subst (P family.width family.symbol) (sym is.demand) (subst (λ s. P family.width s asked.demand) (sym is.symbol) (subst (λ w. P w asked.symbol asked.demand) (sym is.width) best))

  answer-from : (family : Family) (asked : Asked) (grid : List (List Key)) → IsOf bar family asked → IsAnswerOf bar family grid → AreDemanded bar asked grid
  answer-from family asked grid is all =
      let d = ground_in bar in
      let P : ℕ → ℕ → Demand → Type 0 = λ w s o. AreBestForests d (one_shape (shapes_in bar o)) bar.count asked.place ((w, s) ∷ []) grid in
      let best = all asked.place (subst (LiesAt d family.site asked.place) (sym is.width) is.site) in
      subst (P asked.width asked.symbol) is.demand (subst (λ s. P asked.width s family.demand) is.symbol (subst (λ w. P w family.symbol family.demand) is.width best))

  pub found-add : (xs ys : List Found) (family : Family) (asked : Asked) (grid : List (List Key)) → IsInBar bar.input.now asked → IsOf bar family asked → AddsFound xs ys family grid
      → AreFound bar xs → AreDemanded bar asked grid → AreFound bar ys
  found-add xs ys family asked grid within is new h own =
      let all = answer-of family asked grid within is own in
      let P : Found → Type 0 = λ x. IsAnswerOf bar x.family x.grid in
      let Q : Family → Type 0 = λ f. IsAnswerOf bar f new.0.grid in
      let R : List (List Key) → Type 0 = λ t. IsAnswerOf bar family t in
      record { each = subst (All P) (sym new.1) (All-push P xs new.0 h.each (subst Q (sym new.2) (subst R (sym new.3) all))) }

  pub found-is : (xs : List Found) (family : Family) (asked : Asked) (n : ℕ) → IsOf bar family asked → AreFound bar xs → HasFound xs family n → IsAnswerAt bar xs asked n
  found-is xs family asked n is h f =
      let P : Found → Type 0 = λ x. IsAnswerOf bar x.family x.grid in
      let Q : Family → Type 0 = λ a. IsAnswerOf bar a f.0.grid in
      let here : P f.0 = subst P (get_or_from_slice_get xs n f.0 f.0 f.1) (h.each n f.0 (slice_get_within xs n f.0 f.1)) in
      (f.0, f.1, answer-from family asked f.0.grid is (subst Q f.2 here))

  -- what is kept last has the last number
  pub found-last : (xs ys : List Found) (family : Family) (asked : Asked) (grid : List (List Key)) (n : ℕ) → AddsFound xs ys family grid → n ≡ length xs → AreDemanded bar asked grid
      → IsAnswerAt bar ys asked n
  found-last xs ys family asked grid n new last own =
      let x : Found = new.0 in
      let at : slice_get ys n ≡ Some x =
      (λ i. slice_get (new.1 i) (last i)) ∙ slice_get-get_or (xs ++ x ∷ []) (length xs) x (longer xs x) ∙ ap (λ (y : Found). Some y) (get_or-append_seam xs x [] x) in
      (x, at, subst (AreDemanded bar asked) (sym new.3) own)
    where
      longer : (xs : List Found) (x : Found) → length xs < length (xs ++ x ∷ [])
      longer xs x = let long = length-append xs (x ∷ []) in omega (arith, long)

-- ---- the answer of a number

pub answer-low : (bar : SearchedBar) (xs : List Found) (asked : Asked) (n : ℕ) → IsAnswerAt bar xs asked n → n < length xs
answer-low bar xs asked n a = slice_get_within xs n a.0 a.1

pub answered : (bar : SearchedBar) (xs : List Found) (asked : Asked) (n : ℕ) (grid : List (List Key)) → IsAnswerAt bar xs asked n
    → ((x : Found) → slice_get xs n ≡ Some x → x.grid ≡ grid) → AreDemanded bar asked grid
answered bar xs asked n grid a is = subst (AreDemanded bar asked) (is a.0 a.1) a.2

-- ---- what stays found

pub kept_through : (xs ys zs : List Found) → KeepsFound xs ys → KeepsFound ys zs → KeepsFound xs zs
kept_through xs ys zs f g n x at = g n x (f n x at)

pub kept-add : (xs ys : List Found) (family : Family) (grid : List (List Key)) → AddsFound xs ys family grid → KeepsFound xs ys
kept-add xs ys family grid new n y at =
    let low : n < length xs = slice_get_within xs n y at in
    let all : List Found = xs ++ new.0 ∷ [] in
    let long = length-append xs (new.0 ∷ []) in
    let here : n < length all = omega (arith, low, long) in
    ap (λ l. slice_get l n) new.1 ∙ slice_get-get_or all n y here ∙ ap (λ (z : Found). Some z) (get_or-append xs (new.0 ∷ []) y n low ∙ get_or_from_slice_get xs n y y at)

-- ---- the last parts of a cut

module _ (d : Ground) (s : Option Shape) (count : ℕ) (p : ℕ) (qs : List (ℕ × ℕ)) where
  pub last-kept : (xs ys : List Found) (parts : LastParts) → KeepsFound xs ys → AreBestLast d s count xs p qs parts → AreBestLast d s count ys p qs parts
  last-kept xs ys (One n) keeps (x, at, best) = (x, keeps n x at, best)
  last-kept xs ys (Several own) keeps best = best

  pub last-there : (xs : List Found) (parts : LastParts) → AreBestLast d s count xs p qs parts → AreThere xs parts
  last-there xs (One n) (x, at, best) = slice_get_within xs n x at
  last-there xs (Several own) best = tt

  pub last-grid : (xs : List Found) (parts : LastParts) (grid : List (List Key)) → AreBestLast d s count xs p qs parts → IsGridOf xs parts grid → AreBestForests d s count p qs grid
  last-grid xs (One n) grid (x, at, best) is = subst (AreBestForests d s count p qs) (is x at) best
  last-grid xs (Several own) grid best is = subst (AreBestForests d s count p qs) is best
