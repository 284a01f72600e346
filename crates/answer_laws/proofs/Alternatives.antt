-- The best trees of a bar are some list: the derivations are those of a list, and so are the trees that they have there.
use Rattle.std.proofs.Common.{◌≡◌, ℕ, zero, suc, ◌≤◌, ◌⊎◌, inl, inr, true, List, [], ◌∷◌, refl, sym, ap, ◌∙◌, subst, arith, append-nil, Option, Some, None}
use Rattle.std.specs.Cmp.{nat_cmp_total, ranked}
use Rattle.std.specs.Prelude.{All, Contains, slice_get}
use Rattle.std.specs.declared.cmp.Ordering.TheVariants.{Equal}
use Rattle.std.proofs.lemmas.Bool.{and_parts, cases_eq}
use Rattle.std.proofs.lemmas.List.Elements.{All-nil}
use Rattle.rhythm_base.specs.Cost.{cost}
use Rattle.rhythm_base.specs.declared.inner.Inner.{Inner}
use Rattle.rhythm_base.specs.Forest.{Forest, Tree, more, none, preorder_of}
use Rattle.rhythm_base.specs.Grammar.{Grammar}
use Rattle.rhythm_base.specs.Leaves.{FitsVoice, VoiceBar, are_bars, soundings}
use Rattle.rhythm_base.specs.Performance.{Performance}
use Rattle.rhythm_base.specs.Trees.{are_trees, is_tree}
use Rattle.rhythm_base.specs.Voices.{voice_bars}
use Rattle.rhythm_base.proofs.FirstLists.{contains_split}
use Rattle.rhythm_base.proofs.OrderedLists.{all_cons, all_head, all_tail}
use Rattle.rhythm_base.proofs.TotalOrders.{list_equal, then_equal}
use Rattle.tree_laws.specs.Alternatives.{AreAlternatives, AreBestOfBar, IsAlternative, IsEarlier, without_pin_at}
use Rattle.tree_laws.proofs.Parsing.{no_prefix}
use Rattle.tree_laws.proofs.Ranks.{ranks_total}
use Rattle.performance_laws.proofs.SomeChords.{some_chords}
use Rattle.answer_laws.proofs.Decisions.{Decided, decided_both, decided_like, decided_options}
use Rattle.answer_laws.proofs.FittingDerivations.{all_fitting, decided_fits}
use Rattle.answer_laws.proofs.LeastMembers.{least_of, not_lower, three_ways}
use Rattle.answer_laws.proofs.SortedMembers.{first_members}
use Rattle.answer_laws.proofs.FiniteSets.{IsFinite, all_of, member_first, member_later, no_member}

-- ---- equal trees

decided_forests : (f h : Forest) → Decided (f ≡ h)
decided_forests none none = inl refl
decided_forests none (more r kids rest) = inr (λ e. cc)
decided_forests (more r kids rest) none = inr (λ e. cc)
decided_forests (more r kids rest) (more s below others) =
    decided_like (λ same i. more (same.0 i) (same.1.0 i) (same.1.1 i))
    (λ e. (let first : r ≡ s = cc in first, (let second : kids ≡ below = cc in second, let third : rest ≡ others = cc in third)))
    (decided_both (cases_eq r s) (decided_both (decided_forests kids below) (decided_forests rest others)))

decided_trees : (t u : Tree) → Decided (t ≡ u)
decided_trees t u =
    let rule : Tree → ℕ = λ x. x.rule in
    let kids : Tree → Forest = λ x. x.kids in
    decided_like (λ same i. record { rule = same.0 i; kids = same.1 i }) (λ e. (ap rule e, ap kids e))
    (decided_both (cases_eq t.rule u.rule) (decided_forests t.kids u.kids))

-- ---- the tree of a bar

-- a tree of a derivation is one of its bar
bar_tree : (g : Grammar) (bars : List VoiceBar) (ts : List Tree) (i : ℕ) (t : Tree) → are_bars g bars ts ≡ true → slice_get ts i ≡ Some t
    → (q : ℕ × ℕ) × (are_trees g.rules (q ∷ []) (more t.rule t.kids none) ≡ true)
bar_tree g [] [] i t are there = cc
bar_tree g [] (u ∷ ts) i t are there = cc
bar_tree g (bar ∷ bars) [] i t are there = cc
bar_tree g (bar ∷ bars) (u ∷ ts) zero t are there =
    let same : u ≡ t = cc in
    let own = (and_parts (is_tree g.rules g.resolution bar.symbol bar.pin u) _ are).0 in (
      (g.resolution, bar.symbol),
      subst (λ (x : Tree). are_trees g.rules ((g.resolution, bar.symbol) ∷ []) (more x.rule x.kids none) ≡ true) same
          (and_parts (are_trees g.rules ((g.resolution, bar.symbol) ∷ []) (more u.rule u.kids none)) _ own).0,
    )
bar_tree g (bar ∷ bars) (u ∷ ts) (suc i) t are there =
    bar_tree g bars ts i t (and_parts (is_tree g.rules g.resolution bar.symbol bar.pin u) _ are).1 there

module _ (g : Grammar) (bars : List VoiceBar) (cs : List Inner) (i : ℕ) where
  abbrev IsOne : ℕ × Tree → Type 0
  IsOne = IsAlternative g bars cs i

  -- ---- their order

  same_tree : (a b : ℕ × Tree) → IsOne a → IsOne b → preorder_of a.1 ≡ preorder_of b.1 → a.1 ≡ b.1
  same_tree a b h k same =
      let first = bar_tree g bars h.trees i a.1 h.fits.trees h.tree in
      let second = bar_tree g bars k.trees i b.1 k.fits.trees k.tree in
      (no_prefix g.rules first.0 second.0 a.1 b.1 [] first.1 second.1 (append-nil (preorder_of a.1) ∙ same)).0

  in_turn : (a b : ℕ × Tree) → IsOne a → IsOne b → IsEarlier a b ⊎ ((a ≡ b) ⊎ IsEarlier b a)
  in_turn a b h k = elim (three_ways ranks_total (a.0, preorder_of a.1) (b.0, preorder_of b.1)) [
    | inl less ↦ inl less
    | inr other ↦ elim other [
      | inl equal ↦
          let parts = then_equal _ _ equal in
          let total : a.0 ≡ b.0 = ranked a.0 b.0 Equal (sym parts.0) in
          let tree = same_tree a b h k (list_equal (preorder_of a.1) (preorder_of b.1) parts.1) in
          inr (inl (λ j. (total j, tree j)))
      | inr later ↦ inr (inr later)
    ]
  ]

  -- ---- all of them

  module _ (some : 1 ≤ g.resolution) where
    abbrev HasThere : Tree → List Tree → Type 0
    HasThere t ts = FitsVoice g bars cs ts × (slice_get ts i ≡ Some t)

    all_with : (t : Tree) → IsFinite (HasThere t)
    all_with t =
        let fitting = all_fitting g bars cs some in
        all_of (HasThere t) (fitting.list, λ ts has. fitting.each ts has.0)
        (λ ts _. decided_both (decided_fits g bars cs ts 0) (decided_options decided_trees (slice_get ts i) (Some t)))

    -- a tree that a derivation has there is one of an alternative
    of_tree : (t : Tree) (ts : List Tree) → HasThere t ts → (total : ℕ) × IsOne (total, t)
    of_tree t ts has = elim (least_of nat_cmp_total (cost g bars cs) (HasThere t) (all_with t)) [
      | inl least ↦ (
        cost g bars cs least.0,
        record {
          trees = least.0;
          fits = least.1.0;
          tree = least.1.1;
          total = refl;
          least = λ us fits there. not_lower (cost g bars cs us) (cost g bars cs least.0) (least.2 us (fits, there));
        },
      )
      | inr never ↦ absurd (never ts has)
    ]

    same_total : (t : Tree) (m n : ℕ) → IsOne (m, t) → IsOne (n, t) → m ≡ n
    same_total t m n h k =
        let down = h.least k.trees k.fits k.tree in
        let up = k.least h.trees h.fits h.tree in
        omega (arith, down, up, h.total, k.total)

    -- the alternatives with the trees of these derivations
    abbrev HasEach : List (List Tree) → List (ℕ × Tree) → Type 0
    HasEach tss list = (ts : List Tree) → Contains tss ts → (t : Tree) → slice_get ts i ≡ Some t → (total : ℕ) × IsOne (total, t) × Contains list (total, t)

    abbrev AlternativesOf : List (List Tree) → Type 0
    AlternativesOf tss = (list : List (ℕ × Tree)) × All IsOne list × HasEach tss list

    alternatives_of : (tss : List (List Tree)) → All (FitsVoice g bars cs) tss → AlternativesOf tss
    alternatives_of [] all = ([], All-nil IsOne, λ ts there. absurd (no_member ts there))
    alternatives_of (us ∷ tss) all = go (slice_get us i) refl (alternatives_of tss (all_tail (FitsVoice g bars cs) us tss all))
      where
        go : (o : Option Tree) → slice_get us i ≡ o → AlternativesOf tss → AlternativesOf (us ∷ tss)
        go None missing rest = (
          rest.0,
          rest.1,
          λ ts there t is. elim (contains_split ts us tss there) [
            | inl same ↦
                let wrong : slice_get us i ≡ Some t = subst (λ x. slice_get x i ≡ Some t) (sym same) is in
                absurd (cc)
            | inr later ↦ rest.2 ts later t is
          ],
        )
        go (Some u) own rest =
            let one = of_tree u us (all_head (FitsVoice g bars cs) us tss all, own) in (
              (one.0, u) ∷ rest.0,
              all_cons IsOne (one.0, u) rest.0 one.1 rest.1,
              λ ts there t is. elim (contains_split ts us tss there) [
                | inl same ↦
                    let at : slice_get us i ≡ Some t = subst (λ x. slice_get x i ≡ Some t) (sym same) is in
                    let tree : u ≡ t = cc in
                    (one.0, subst (λ x. IsOne (one.0, x)) tree one.1, subst (λ x. Contains ((one.0, u) ∷ rest.0) (one.0, x)) tree (member_first (one.0, u) rest.0))
                | inr later ↦ let old = rest.2 ts later t is in (old.0, old.1, member_later (old.0, t) (one.0, u) rest.0 old.2)
              ],
            )

    all_alternatives : IsFinite IsOne
    all_alternatives =
        let fitting = all_fitting g bars cs some in
        let list = alternatives_of fitting.list fitting.are in
        record {
          list = list.0;
          are = list.1;
          each = λ a is.
              (let own = list.2 is.trees (fitting.each is.trees is.fits) a.1 is.tree in
              subst (λ n. Contains list.0 (n, a.1)) (same_total a.1 own.0 a.0 own.1 is) own.2);
        }

module _ (g : Grammar) (bars : List VoiceBar) (cs : List Inner) (i : ℕ) (some : 1 ≤ g.resolution) where
  pub some_alternatives : (count : ℕ) → (list : List (ℕ × Tree)) × AreAlternatives g bars cs i count list
  some_alternatives count =
      let lifted = without_pin_at i bars in
      let first = first_members (IsAlternative g lifted cs i) IsEarlier (in_turn g lifted cs i)
      (λ a b c. ranks_total.trans (a.0, preorder_of a.1) (b.0, preorder_of b.1) (c.0, preorder_of c.1)) count (all_alternatives g lifted cs i some) in
      (first.list, record { are = first.are; in_order = first.in_order; few = first.few; first = first.first })

pub some_best : (g : Grammar) (p : Performance) → 1 ≤ g.resolution → (channel bar count : ℕ) → (list : List (ℕ × Tree)) × AreBestOfBar g p channel bar count list
some_best g p some channel bar count =
    let chords = some_chords g p channel in
    let best = some_alternatives g (voice_bars g p channel) (soundings chords.0) bar some count in
    (best.0, record { chords = chords.0; are_chords = chords.1; best = best.1 })
