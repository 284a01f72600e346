-- The leaves of the trees of a voice, read off one rule list more.
use Rattle.std.proofs.Common.{◌≡◌, ℕ, suc, ◌+◌, ◌-◌, ◌<◌, ◌≤◌, true, List, [], ◌∷◌, ◌++◌, length, get_or, drop, map, refl, sym, ap, ◌∙◌, subst, arith, add-one, append-nil, append_assoc, drop-cons}
use Rattle.rhythm_base.specs.declared.note.Bar.{Bar}
use Rattle.rhythm_base.specs.declared.rule.Rule.{Rule}
use Rattle.rhythm_base.specs.Barlines.{barline}
use Rattle.rhythm_base.specs.Forest.{Tree, more, none, preorder, preorder_of}
use Rattle.rhythm_base.specs.Grammar.{Grammar}
use Rattle.rhythm_base.specs.Leaves.{VoiceBar, are_bars}
use Rattle.rhythm_base.specs.Trees.{are_trees, is_tree, leaves_of}
use Rattle.rhythm_base.specs.Voices.{voice_bar, voice_bars_from}
use Rattle.tree_laws.proofs.Ranks.{both}
use Rattle.tree_laws.specs.Voices.{Adjacent}
use Rattle.derivation.specs.declared.leaf.TimedLeaf.{TimedLeaf}
use Rattle.derivation.specs.RuleLists.{AreRead, HaveLists}
use Rattle.derivation.specs.TimedLeaves.{timed_bar, timed_leaf, timed_leaves}

-- The trees that have the lists from number i on, over the bars from n on, are still to be read, and all other leaves are found.
pub record IsFound (g : Grammar) (whole : List TimedLeaf) (lists : List (List ℕ)) (i n : ℕ) (later : List VoiceBar) (found : List TimedLeaf) : Type 0 where
  pub left : List Tree
  pub have : HaveLists left (drop i lists)
  pub trees : are_bars g later left ≡ true
  pub made : found ++ timed_leaves g n later left ≡ whole

-- the first of some bars, and the others
first_bar : (later : List Bar) (d : Bar) → 1 ≤ length later → later ≡ get_or later 0 d ∷ drop 1 later
first_bar later d some = drop-cons later 0 d some

-- bars side by side begin at or before the last barline
barline_within : (g : Grammar) (last n b e : ℕ) (bars : List Bar) → Adjacent b (voice_bars_from g [] 0 last n bars) e → barline bars last 0 ≤ last
barline_within g last n b e [] near = omega arith
barline_within g last n b e (bar ∷ bars) near =
    let ih = barline_within g last (suc n) (b + (barline bars last 0 - bar.start)) e bars near.2 in omega (arith, ih, near.1)

module _ (g : Grammar) (last n : ℕ) (later after : List Bar) (d : Bar) (some : 1 ≤ length later) (rest : after ≡ drop 1 later) where
  abbrev first : Bar
  first = get_or later 0 d

  later_is : later ≡ first ∷ after
  later_is = first_bar later d some ∙ ap (λ l. first ∷ l) (sym rest)

  module _ (b e : ℕ) (near : Adjacent b (voice_bars_from g [] 0 last n later) e) where
    parted : Adjacent b (voice_bars_from g [] 0 last n (first ∷ after)) e
    parted = subst (λ l. Adjacent b (voice_bars_from g [] 0 last n l) e) later_is near

    -- the first bar, which runs to the start of the next
    pub bar_within : (first.start < barline after last 0) × (barline after last 0 ≤ last)
    bar_within = (omega (arith, parted.1), barline_within g last (suc n) _ e after parted.2)

    pub near_later : (b : ℕ) × (e : ℕ) × Adjacent b (voice_bars_from g [] 0 last (n + 1) after) e
    near_later = rw add-one (_, e, parted.2)

-- ---- one list more

module _ (g : Grammar) (whole : List TimedLeaf) (lists : List (List ℕ)) (i n : ℕ) (bar : VoiceBar) (others : List VoiceBar) (list left : List ℕ) (found longer : List TimedLeaf) where
  one_more : (trees : List Tree) → map preorder_of trees ≡ list ∷ drop (suc i) lists → are_bars g (bar ∷ others) trees ≡ true → found ++ timed_leaves g n (bar ∷ others) trees ≡ whole
      → ((symbol : ℕ) → AreRead g.rules (timed_bar g.resolution n bar) 0 ((g.resolution, symbol) ∷ []) list left found longer) → IsFound g whole lists (suc i) (suc n) others longer
  one_more [] have trees made read = absurd (cc)
  one_more (t ∷ ts) have trees made read =
      let own : preorder_of t ≡ list = cc in
      let rest_lists : map preorder_of ts ≡ drop (suc i) lists = cc in
      let parts = both (is_tree g.rules g.resolution bar.symbol bar.pin t) _ trees in
      let tree = both (are_trees g.rules ((g.resolution, bar.symbol) ∷ []) (more t.rule t.kids none)) _ parts.0 in
      let one = read bar.symbol (more t.rule t.kids none) [] tree.0 (append-nil (preorder (more t.rule t.kids none)) ∙ append-nil (preorder_of t) ∙ own) in
      let mine : List TimedLeaf = map (timed_leaf (timed_bar g.resolution n bar)) (leaves_of g.rules g.resolution bar.symbol t) in
      record {
        left = ts;
        have = rest_lists;
        trees = parts.1;
        made = ap (λ l. l ++ timed_leaves g (suc n) others ts) one.1 ∙ append_assoc found mine (timed_leaves g (suc n) others ts) ∙ made;
      }

module _ (g : Grammar) (last n : ℕ) (later after : List Bar) (d : Bar) (some : 1 ≤ length later) (rest : after ≡ drop 1 later) where
  pub list_read : (whole : List TimedLeaf) (lists : List (List ℕ)) (i : ℕ) (rules : List Rule) (r width end : ℕ) (list left : List ℕ) (found longer : List TimedLeaf)
      → rules ≡ g.rules → r ≡ g.resolution → width ≡ r → end ≡ barline after last 0 → i < length lists → list ≡ get_or lists i list
      → ((symbol : ℕ) → AreRead rules (record { number = n; start = (get_or later 0 d).start; length = end - (get_or later 0 d).start; resolution = r }) 0 ((width, symbol) ∷ []) list left found longer)
      → IsFound g whole lists i n (voice_bars_from g [] 0 last n later) found → IsFound g whole lists (i + 1) (n + 1) (voice_bars_from g [] 0 last (n + 1) after) longer
  list_read whole lists i rules r width end list left found longer same_rules same_units same_width same_end within is read h =
      let first : Bar = get_or later 0 d in
      let bar : VoiceBar = voice_bar g [] 0 n first (barline after last 0) in
      let others : List VoiceBar = voice_bars_from g [] 0 last (suc n) after in
      let Read : List Rule → ℕ → ℕ → Type 0 = λ rs u e. (symbol : ℕ) → AreRead rs (record { number = n; start = first.start; length = e - first.start; resolution = u }) 0 ((u, symbol) ∷ []) list left found longer in
      let own : Read g.rules g.resolution (barline after last 0) =
      subst (Read g.rules g.resolution) same_end (subst (λ u. Read g.rules u end) same_units (subst (λ rs. Read rs r end) same_rules (subst (λ w. (symbol : ℕ) → AreRead rules (record { number = n; start = first.start; length = end - first.start; resolution = r }) 0 ((w, symbol) ∷ []) list left found longer) same_width read))) in
      let bars : voice_bars_from g [] 0 last n later ≡ bar ∷ others = ap (voice_bars_from g [] 0 last n) (first_bar later d some ∙ ap (λ l. first ∷ l) (sym rest)) in
      let split : drop i lists ≡ list ∷ drop (suc i) lists = drop-cons lists i list within ∙ ap (λ l. l ∷ drop (suc i) lists) (sym is) in
      let more_found = one_more g whole lists i n bar others list left found longer h.left (h.have ∙ split)
      (subst (λ bs. are_bars g bs h.left ≡ true) bars h.trees) (ap (λ bs. found ++ timed_leaves g n bs h.left) (sym bars) ∙ h.made) own in
      subst (λ m. IsFound g whole lists m (n + 1) (voice_bars_from g [] 0 last (n + 1) after) longer) (sym (add-one i))
      (subst (λ m. IsFound g whole lists (suc i) m (voice_bars_from g [] 0 last m after) longer) (sym (add-one n)) more_found)

-- ---- all lists

none_left : (g : Grammar) (n : ℕ) (bars : List VoiceBar) → timed_leaves g n bars [] ≡ []
none_left g n [] = refl
none_left g n (b ∷ bars) = refl

all_found : (g : Grammar) (whole : List TimedLeaf) (n : ℕ) (bars : List VoiceBar) (found : List TimedLeaf) (trees : List Tree) → trees ≡ [] → found ++ timed_leaves g n bars trees ≡ whole → found ≡ whole
all_found g whole n bars found trees empty made =
    sym (append-nil found) ∙ ap (λ l. found ++ l) (sym (none_left g n bars) ∙ ap (timed_leaves g n bars) (sym empty)) ∙ made

no_lists : (trees : List Tree) → map preorder_of trees ≡ [] → trees ≡ []
no_lists [] e = refl
no_lists (t ∷ ts) e = absurd (cc)

pub lists_read : (g : Grammar) (whole : List TimedLeaf) (lists : List (List ℕ)) (i n : ℕ) (later : List VoiceBar) (found : List TimedLeaf) → drop i lists ≡ [] → IsFound g whole lists i n later found → found ≡ whole
lists_read g whole lists i n later found over h = all_found g whole n later found h.left (no_lists h.left (h.have ∙ over)) h.made

no_bars : (g : Grammar) (trees : List Tree) → are_bars g [] trees ≡ true → trees ≡ []
no_bars g [] e = refl
no_bars g (t ∷ ts) e = absurd (cc)

pub bars_read : (g : Grammar) (whole : List TimedLeaf) (lists : List (List ℕ)) (i n last : ℕ) (later : List Bar) (found : List TimedLeaf) → length later ≡ 0
    → IsFound g whole lists i n (voice_bars_from g [] 0 last n later) found → found ≡ whole
bars_read g whole lists i n last [] found empty h = all_found g whole n [] found h.left (no_bars g h.left h.trees) h.made
bars_read g whole lists i n last (bar ∷ later) found empty h = absurd (omega (arith, empty))
