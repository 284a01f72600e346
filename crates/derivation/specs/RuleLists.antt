-- Derivations by their rule lists: the rules of each bar's tree in preorder. A list has one tree, and is walked from left to right.
use Rattle.std.specs.Prelude.{◌≡◌, ℕ, true, List, ◌++◌, map}
use Rattle.rhythm_base.specs.declared.chord.Chord.{Chord}
use Rattle.rhythm_base.specs.declared.inner.Inner.{Inner}
use Rattle.rhythm_base.specs.declared.rule.Rule.{Rule}
use Rattle.rhythm_base.specs.declared.sound.Sound.{Sound}
use Rattle.rhythm_base.specs.Forest.{Forest, Tree, preorder, preorder_of}
use Rattle.rhythm_base.specs.Grammar.{Grammar}
use Rattle.rhythm_base.specs.Leaves.{FitsVoice, VoiceBar, are_bars, soundings}
use Rattle.rhythm_base.specs.Trees.{are_trees, leaves}
use Rattle.derivation.specs.declared.leaf.TimedBar.{TimedBar}
use Rattle.derivation.specs.declared.leaf.TimedLeaf.{TimedLeaf}
use Rattle.derivation.specs.Sounds.{derivation_sounds}
use Rattle.derivation.specs.TimedLeaves.{timed_leaf, timed_leaves}

-- these trees have these rule lists in preorder
abbrev pub HaveLists : List Tree → List (List ℕ) → Type 0
HaveLists trees lists = map preorder_of trees ≡ lists

-- the derivation of a voice that rule lists tell, one for each bar: it fits, and its trees have these lists
pub record IsToldBy (g : Grammar) (bars : List VoiceBar) (cs : List Inner) (lists : List (List ℕ)) (trees : List Tree) : Type 0 where
  pub fits : FitsVoice g bars cs trees
  pub preorders : HaveLists trees lists

-- some derivation of the voice that fits has these rule lists
abbrev pub TellDerivation : Grammar → List VoiceBar → List Chord → List (List ℕ) → Type 0
TellDerivation g bars cs lists = (trees : List Tree) × IsToldBy g bars (soundings cs) lists trees

-- the sounds of the derivation that has these rule lists
abbrev pub AreToldSounds : Grammar → List VoiceBar → List Chord → List (List ℕ) → List Sound → Type 0
AreToldSounds g bars cs lists sounds =
    (trees : List Tree) → IsToldBy g bars (soundings cs) lists trees → sounds ≡ derivation_sounds g bars cs trees

-- the leaves of the trees that have these rule lists, one tree for each bar
abbrev pub AreToldLeaves : Grammar → List VoiceBar → List (List ℕ) → List TimedLeaf → Type 0
AreToldLeaves g bars lists found =
    (trees : List Tree) → are_bars g bars trees ≡ true → HaveLists trees lists → found ≡ timed_leaves g 0 bars trees

-- Trees over these parts, from unit p of the bar on, are read off a list that begins with their rules: what stands after their rules is
-- left, and their leaves come after those found before.
abbrev pub AreRead : List Rule → TimedBar → ℕ → List (ℕ × ℕ) → List ℕ → List ℕ → List TimedLeaf → List TimedLeaf → Type 0
AreRead rules bar p parts list rest before after =
    (f : Forest) (xs : List ℕ) → are_trees rules parts f ≡ true → preorder f ++ xs ≡ list
    → (rest ≡ xs) × (after ≡ before ++ map (timed_leaf bar) (leaves rules p parts f))
