-- The alternatives of a bar are one list.
use Rattle.std.proofs.Common.{◌≡◌, ℕ, List}
use Rattle.tree_laws.specs.Alternatives.{AreAlternatives, IsAlternative, IsEarlier, without_pin_at}
use Rattle.rhythm_base.specs.Forest.{Tree, preorder_of}
use Rattle.rhythm_base.specs.Leaves.{VoiceBar}
use Rattle.rhythm_base.specs.declared.inner.Inner.{Inner}
use Rattle.rhythm_base.specs.Grammar.{Grammar}
use Rattle.rhythm_base.proofs.FirstLists.{AreFirst, one_earlier, one_first}
use Rattle.tree_laws.proofs.Ranks.{ranks_total}

abbrev alternatives_are : Grammar → List VoiceBar → List Inner → ℕ → ℕ → List (ℕ × Tree) → Type 0
alternatives_are g bars cs i count xs = AreFirst IsEarlier (λ a b. one_earlier ranks_total (a.0, preorder_of a.1) (b.0, preorder_of b.1)) (IsAlternative g (without_pin_at i bars) cs i) count xs

first_alternatives : (g : Grammar) (bars : List VoiceBar) (cs : List Inner) (i count : ℕ) (xs : List (ℕ × Tree)) → AreAlternatives g bars cs i count xs → alternatives_are g bars cs i count xs
first_alternatives g bars cs i count xs h = record { are = h.are; in_order = h.in_order; few = h.few; first = h.first }

pub one_alternatives : (g : Grammar) (bars : List VoiceBar) (cs : List Inner) (i count : ℕ) (xs ys : List (ℕ × Tree))
    → AreAlternatives g bars cs i count xs → AreAlternatives g bars cs i count ys → xs ≡ ys
one_alternatives g bars cs i count xs ys h k =
    one_first IsEarlier (λ a b. one_earlier ranks_total (a.0, preorder_of a.1) (b.0, preorder_of b.1)) (IsAlternative g (without_pin_at i bars) cs i) count xs ys
    (first_alternatives g bars cs i count xs h) (first_alternatives g bars cs i count ys k)
