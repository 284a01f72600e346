-- The bar that lists get in a round: its signature, and the bars that are tried.
use Rattle.std.proofs.Common.{◌≡◌, ◌≢◌, ℕ, zero, suc, ◌+◌, ◌-◌, ◌<◌, ◌≤◌, Bool, true, false, refl, arith, List, [], ◌∷◌, ◌++◌, length, length-append, ap, sym, subst, ◌∙◌, Result, Ok, Err}
use Rattle.std.specs.Prelude.{All, IfOk, Some, None, min, not, slice_get, filter, nat_le, ◌&&◌}
use Rattle.std.specs.List.{flat_map, list_any, zip}
use Rattle.std.specs.Result.{is_ok}
use Rattle.std.proofs.lemmas.Bool.{false≢true, true≢false}
use Rattle.bar_cut.specs.Cuts.{IsFirstWithoutStart}
use Rattle.bar_cut.specs.declared.fault.CutFault.{CutFault}
use Rattle.bar_cut.specs.declared.fault.CutFault.TheVariants.{Memory, NoStart}
use Rattle.std.proofs.lemmas.Bool.Decides.{nat_tests}
use Rattle.std.proofs.Common.{◌||◌, length-append, max}
use Rattle.std.proofs.lemmas.List.Folds.{list_any-append}
use Rattle.std.proofs.lemmas.List.{get_or-append-add, get_or_append_left, length-map}
use Rattle.std.proofs.lemmas.List.Elements.{All-append, All-nil}
use Rattle.std.proofs.lemmas.Option.{get_or_from_slice_get, slice_get_within}
use Rattle.barline_follow.specs.declared.next_bar.NextBar.{NextBar}
use Rattle.barline_follow.specs.declared.offers.Offer.{Offer}
use Rattle.rhythm_base.specs.declared.limits.TheConstants.{LATEST_TICK}
use Rattle.rhythm_base.specs.declared.note.Bar.{Bar}
use Rattle.rhythm_base.specs.declared.note.Note.{Note}
use Rattle.rhythm_base.specs.Lists.{Each}
use Rattle.edit_laws.specs.Edits.{is_past}
use Rattle.rhythm_base.specs.Grammar.{Grammar, root_of}
use Rattle.rhythm_base.specs.Performance.{IsWellFormed, Performance}
use Rattle.rhythm_base.specs.Signatures.{IsSignature}
use Rattle.rhythm_base.specs.Voices.{HasStarts}
use Rattle.rhythm_base.proofs.OrderedLists.{all_head}
use Rattle.barline_follow.specs.Bars.{pattern_of}
use Rattle.barline_follow.specs.Barring.{Course, barring_end}
use Rattle.barline_follow.specs.NextBars.{IsCourseOf, asked_cell, asked_cells, can_be}
use Rattle.barline_follow.specs.Courses.{AreHeads}

pub like_signature : (p : Performance) (i : ℕ) (b : Bar) → IsWellFormed p → pattern_of p i ≡ Some b → IsSignature b.num b.den
like_signature p i b formed is =
    let k : ℕ = min i (length p.bars - 1) in
    let within = slice_get_within p.bars k b is in
    subst (λ (x : Bar). IsSignature x.num x.den) (get_or_from_slice_get p.bars k b b is) (formed.bars k b within).signature

-- a bar that ends by a tick is no longer than what is left up to there
le_moved : (a b m : ℕ) → a ≤ m → nat_le b (m - a) ≡ nat_le (a + b) m
le_moved a b m le = by (nat_le (a + b) m) refl
  where
    by : (t : Bool) → nat_le (a + b) m ≡ t → nat_le b (m - a) ≡ t
    by true is = grind (arith, nat_tests, le, is)
    by false is = grind (arith, nat_tests, le, is)

pub left_is : (next : NextBar) (start most : ℕ) (offers : List Offer) → start ≤ LATEST_TICK → most ≡ LATEST_TICK - start
    → filter (λ o. next.is_rooted && nat_le o.ticks most) offers ≡ filter (can_be next start) offers
left_is next start most offers le is =
    let same : (o : Offer) → (next.is_rooted && nat_le o.ticks most) ≡ can_be next start o =
    λ o. ap (λ n. next.is_rooted && nat_le o.ticks n) is ∙ ap (λ b. next.is_rooted && b) (le_moved start o.ticks LATEST_TICK le) in
    ap (λ (f : Offer → Bool). filter f offers) (λ i o. same o i)

-- what holds of all rows holds of all
pub all_rows : {X Y : Type 0} (P : Y → Type 0) (f : X → List Y) (xs : List X) → ((x : X) → All P (f x)) → All P (flat_map f xs)
all_rows P f [] h = All-nil P
all_rows P f (x ∷ xs) h = All-append P (f x) (flat_map f xs) (h x) (all_rows P f xs h)

-- ---- how many cells there are

zip_long : {X Y : Type 0} (R : X → Y → Type 0) (xs : List X) (ys : List Y) → Each R xs ys → length (zip xs ys) ≡ length xs
zip_long R [] ys h = refl
zip_long R (x ∷ xs) [] h = absurd h
zip_long R (x ∷ xs) (y ∷ ys) h = ap suc (zip_long R xs ys h.1)

module _ (next : NextBar) (bars : ℕ) where
  -- one for each voice
  pub asked_long : (t : Course) → IsCourseOf next bars t → (o : Offer) → length (asked_cells next t o) ≡ length next.voices.now
  asked_long t is o =
      length-map (zip next.voices.now t.heads) (asked_cell next (barring_end t.barring) (barring_end t.barring + o.ticks))
      ∙ zip_long (AreHeads next.grammar.now next.performance.now t.barring.ticks) next.voices.now t.heads is.heads

-- whether the bar has a root symbol is what the look-up says
pub rooted_is : (g : Grammar) (b : Bar) (r : Result (Unit {0}) CutFault) → IfOk r (λ _. HasStarts g (b ∷ []))
    → ((bar num den : ℕ) → r ≡ Err (NoStart bar num den) → IsFirstWithoutStart g (b ∷ []) bar num den) → (r ≡ Err Memory → ⊥)
    → (is_ok r ≡ true → root_of g.starts b.num b.den ≢ None) × (is_ok r ≡ false → root_of g.starts b.num b.den ≡ None)
rooted_is g b (Ok u) starts first never = ((λ is. all_head (λ (b : Bar). root_of g.starts b.num b.den ≢ None) b [] starts), (λ is. absurd (true≢false is)))
rooted_is g b (Err Memory) starts first never = absurd (never refl)
rooted_is g b (Err (NoStart bar num den)) starts first never =
    let h = first bar num den refl in
    let only : h.it ≡ b = one_only bar h.it h.there in
    ((λ is. absurd (false≢true is)), (λ is. (λ i. root_of g.starts (sym (h.signature.0 ∙ ap (λ (x : Bar). x.num) only) i) (sym (h.signature.1 ∙ ap (λ (x : Bar). x.den) only) i)) ∙ h.none))
  where
    one_only : (k : ℕ) (x : Bar) → slice_get (b ∷ []) k ≡ Some x → x ≡ b
    one_only zero x is = let same : b ≡ x = cc in sym same
    one_only (suc k) x is = absurd (cc)

pub closed_from : (end tick : ℕ) (notes all : List Note) → notes ≡ all → not (list_any (is_past end) notes) ≡ nat_le tick end → not (list_any (is_past end) all) ≡ nat_le tick end
closed_from end tick notes all same is = ap (λ (l : List Note). not (list_any (is_past end) l)) (sym same) ∙ is

-- what holds of all of three lists holds of the second
pub all_inside : (P : Note → Type 0) (xs ys zs : List Note) → All P (xs ++ (ys ++ zs)) → All P ys
all_inside P xs ys zs all k d lt =
    let few : length xs + k < length (xs ++ (ys ++ zs)) = omega (arith, lt, length-append xs (ys ++ zs), length-append ys zs) in
    subst P (get_or-append-add xs (ys ++ zs) k d ∙ get_or_append_left ys zs d k lt) (all (length xs + k) d few)

-- the ticks from which on no note of two lists begins or ends later
pub closed_more : (end t u : ℕ) (xs ys : List Note) → not (list_any (is_past end) xs) ≡ nat_le t end → not (list_any (is_past end) ys) ≡ nat_le u end
    → not (list_any (is_past end) (xs ++ ys)) ≡ nat_le (max t u) end
closed_more end t u xs ys h k = ap not (list_any-append (is_past end) xs ys) ∙ both (list_any (is_past end) xs) (list_any (is_past end) ys) h k
  where
    both : (a b : Bool) → not a ≡ nat_le t end → not b ≡ nat_le u end → not (a || b) ≡ nat_le (max t u) end
    both true true h k = grind (arith, nat_tests, h, k)
    both true false h k = grind (arith, nat_tests, h, k)
    both false true h k = grind (arith, nat_tests, h, k)
    both false false h k = grind (arith, nat_tests, h, k)
