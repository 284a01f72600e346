-- There is at most one least derivation; and a tree that fits its bar alone is one of a voice.
use Rattle.std.proofs.Common.{◌≡◌, ℕ, Bool, true, false, ◌&&◌, List, [], ◌∷◌, ◌++◌, subst, refl, sym, ap, ◌∙◌, append-nil}
use Rattle.std.specs.Ordering.{is_lt}
use Rattle.std.specs.Prelude.{◌≢◌}
use Rattle.std.specs.declared.cmp.Ordering.TheVariants.{Less, Equal, Greater}
use Rattle.std.specs.declared.cmp.Ordering.{Ordering}
use Rattle.rhythm_base.specs.Cost.{sequence_of}
use Rattle.rhythm_base.specs.Forest.{Tree, Forest, more, none, preorder, preorder_of}
use Rattle.rhythm_base.specs.Least.{IsLeast, rank_cmp, rank_of}
use Rattle.rhythm_base.specs.Leaves.{FitsVoice, Leaf, VoiceBar, are_bars, in_bar, looks}
use Rattle.rhythm_base.specs.declared.inner.Inner.{Inner}
use Rattle.rhythm_base.specs.Line.{agree, past}
use Rattle.rhythm_base.specs.Grammar.{Grammar}
use Rattle.rhythm_base.specs.Trees.{are_trees, has_pin, is_tree, leaves_of}
use Rattle.rhythm_base.proofs.TotalOrders.{both_above, list_equal, then_equal}
use Rattle.path_laws.proofs.KeyOrders.{keys_total}
use Rattle.tree_laws.proofs.Parsing.{one_parse}
use Rattle.tree_laws.proofs.Ranks.{both}

-- ---- the least derivation

abbrev pub label_of : Forest → ℕ
label_of none = 0
label_of (more r kids rest) = r

abbrev pub kids_of : Forest → Forest
kids_of none = none
kids_of (more r kids rest) = kids

-- derivations of the same bars with one list of rule numbers are the same
pub one_derivation : (g : Grammar) (bars : List VoiceBar) (ts us : List Tree) → are_bars g bars ts ≡ true → are_bars g bars us ≡ true
    → sequence_of ts ≡ sequence_of us → ts ≡ us
one_derivation g [] [] [] p q e = refl
one_derivation g [] [] (u ∷ us) p q e = absurd (cc)
one_derivation g [] (t ∷ ts) us p q e = absurd (cc)
one_derivation g (bar ∷ bars) [] us p q e = absurd (cc)
one_derivation g (bar ∷ bars) (t ∷ ts) [] p q e = absurd (cc)
one_derivation g (bar ∷ bars) (t ∷ ts) (u ∷ us) p q e =
    let p' = both (is_tree g.rules g.resolution bar.symbol bar.pin t) (are_bars g bars ts) p in
    let q' = both (is_tree g.rules g.resolution bar.symbol bar.pin u) (are_bars g bars us) q in
    let t_tree = both (are_trees g.rules ((g.resolution, bar.symbol) ∷ []) (more t.rule t.kids none)) (has_pin bar.pin t) p'.0 in
    let u_tree = both (are_trees g.rules ((g.resolution, bar.symbol) ∷ []) (more u.rule u.kids none)) (has_pin bar.pin u) q'.0 in
    let lists : preorder (more t.rule t.kids none) ++ sequence_of ts ≡ preorder (more u.rule u.kids none) ++ sequence_of us =
    ap (λ l. l ++ sequence_of ts) (append-nil (preorder_of t)) ∙ e ∙ ap (λ l. l ++ sequence_of us) (sym (append-nil (preorder_of u))) in
    let one = one_parse g.rules ((g.resolution, bar.symbol) ∷ []) (more t.rule t.kids none) (more u.rule u.kids none) (sequence_of ts) (sequence_of us) t_tree.0 u_tree.0 lists in
    let rest = one_derivation g bars ts us p'.1 q'.1 one.1 in
    let rules_same : t.rule ≡ u.rule = ap label_of one.0 in
    let kids_same : t.kids ≡ u.kids = ap kids_of one.0 in
    λ i. record { rule = rules_same i; kids = kids_same i } ∷ rest i

pub not_less : (r : Ordering) → r ≢ Less → is_lt r ≡ false
not_less Less h = absurd (h refl)
not_less Equal h = refl
not_less Greater h = refl

-- there is at most one least derivation
pub one_least : (g : Grammar) (bars : List VoiceBar) (cs : List Inner) (ts us : List Tree) → IsLeast g bars cs ts → IsLeast g bars cs us → ts ≡ us
one_least g bars cs ts us t u =
    let up = not_less _ (t.first us u.fits) in
    let down = not_less _ (u.first ts t.fits) in
    let same : rank_cmp (rank_of g bars cs ts) (rank_of g bars cs us) ≡ Equal = both_above keys_total (rank_of g bars cs ts) (rank_of g bars cs us) down up in
    let lists = then_equal _ _ same in
    one_derivation g bars ts us t.fits.trees u.fits.trees (list_equal (sequence_of ts) (sequence_of us) lists.1)

-- ---- one bar

pub one_bar : (g : Grammar) (bar : VoiceBar) (cs : List Inner) (t : Tree) → is_tree g.rules g.resolution bar.symbol bar.pin t ≡ true
    → agree (looks g.resolution) [] [] cs (in_bar bar (leaves_of g.rules g.resolution bar.symbol t)) ≡ true
    → past (looks g.resolution) [] cs (in_bar bar (leaves_of g.rules g.resolution bar.symbol t)) ≡ 0
    → FitsVoice g (bar ∷ []) cs (t ∷ [])
one_bar g bar cs t tree agrees empty =
    let line : List Leaf = in_bar bar (leaves_of g.rules g.resolution bar.symbol t) in
    let whole : line ≡ line ++ [] = sym (append-nil line) in
    record {
      trees = and_true tree;
      leaves = subst (λ xs. agree (looks g.resolution) [] [] cs xs ≡ true) whole agrees;
      leave = subst (λ xs. past (looks g.resolution) [] cs xs ≡ 0) whole empty;
    }
  where
    and_true : {b : Bool} → b ≡ true → (b && true) ≡ true
    and_true {b} h = subst (λ c. (c && true) ≡ true) (sym h) refl
