-- The cost of a performance, a dead voice, and the alternatives of a bar, each of one bar of 4/4 with one note that fills it.
use Rattle.std.specs.Prelude.{◌≡◌, ℕ, ◌⊎◌, true, false, All, Contains, List, [], ◌∷◌, length, refl, slice_get, Option, Some, None}
use Rattle.std.proofs.Common.{zero, suc, arith, inl, inr, ap, ap₂, sym, subst, ◌∙◌}
use Rattle.std.specs.declared.cmp.Ordering.TheVariants.{Equal, Less}
use Rattle.std.proofs.lemmas.Bool.{and_parts}
use Rattle.std.proofs.lemmas.List.Elements.{All-cons, All-nil}
use Rattle.std.proofs.lemmas.List.Kept.{AllPairs-cons}
use Rattle.rhythm_base.specs.declared.chord.Chord.{Chord}
use Rattle.rhythm_base.specs.declared.note.Note.{Note}
use Rattle.rhythm_base.specs.declared.rule.Body.{Body}
use Rattle.rhythm_base.specs.declared.rule.Body.TheVariants.{Split, Note as note, Rest, Tie}
use Rattle.rhythm_base.specs.declared.rule.Rule.{Rule}
use Rattle.tree_laws.specs.Alternatives.{AreAlternatives, IsAlternative, IsEarlier, without_pin_at}
use Rattle.rhythm_base.specs.Chords.{chord_of}
use Rattle.rhythm_base.specs.Cost.{cost}
use Rattle.rhythm_base.specs.DeadBars.{HasRun}
use Rattle.rhythm_base.specs.Forest.{Tree, Forest, more, none}
use Rattle.rhythm_base.specs.Least.{rank_cmp, rank_of}
use Rattle.rhythm_base.specs.Leaves.{Fits, FitsVoice, VoiceBar, soundings}
use Rattle.rhythm_base.specs.Shape.{Shape, end, part}
use Rattle.rhythm_base.specs.Performance.{Performance}
use Rattle.rhythm_base.specs.Grammar.{Grammar}
use Rattle.rhythm_base.specs.declared.inner.Inner.{Inner}
use Rattle.rhythm_base.specs.Bodies.{children}
use Rattle.rhythm_base.specs.Trees.{are_trees, is_tree, suits}
use Rattle.rhythm_base.specs.Voices.{HasStarts, AreChordsOf, IsCostOf, IsDeadVoice}

-- a grammar of two units, by its rules
abbrev book : List Rule → Grammar
book rules = record {
  version = 1;
  resolution = 2;
  window = 0;
  early = 1;
  late = 1;
  names = [];
  starts = record { num = 4; den = 4; symbol = 0 } ∷ [];
  rules = rules;
}

abbrev whole_note : Note
whole_note = record { channel = 0; key = 60; onset = 0; end = 1920 }

abbrev performed : Performance
performed = record {
  division = 480;
  tempos = [];
  key_marks = [];
  bars = record { start = 0; num = 4; den = 4 } ∷ [];
  last = 1920;
  channels = 0 ∷ [];
  notes = whole_note ∷ [];
  pins = [];
}

abbrev chords : List Chord
chords = chord_of whole_note [] ∷ []

are_chords : (rules : List Rule) → AreChordsOf (book rules) performed 0 chords
are_chords rules = (whole_note, [], [], refl, All-nil _, tt, refl, refl)

abbrev bar_with : Option Shape → VoiceBar
bar_with pin = record { start = 0; length = 1920; num = 4; den = 4; symbol = 0; pin = pin }

-- ---- the only trees

-- a rule whose leaf has no parts has no children
no_kids : (rules : List Rule) (kids : Forest) → are_trees rules [] kids ≡ true → kids ≡ none
no_kids rules none are = refl
no_kids rules (more r kids rest) are = absurd (cc)

-- one bar has one tree
one_tree : (g : Grammar) (bar : VoiceBar) (cs : List Inner) (ts : List Tree) (to : ℕ) → Fits g (bar ∷ []) cs ts to
    → (t : Tree) × (ts ≡ t ∷ []) × (is_tree g.rules g.resolution bar.symbol bar.pin t ≡ true)
one_tree g bar cs [] to fits = let wrong : false ≡ true = fits.trees in absurd (cc)
one_tree g bar cs (t ∷ []) to fits = (t, refl, (and_parts (is_tree g.rules g.resolution bar.symbol bar.pin t) true fits.trees).0)
one_tree g bar cs (t ∷ u ∷ ts) to fits =
    let wrong : false ≡ true = (and_parts (is_tree g.rules g.resolution bar.symbol bar.pin t) false fits.trees).1 in absurd (cc)

abbrev leaf : ℕ → Tree
leaf r = record { rule = r; kids = none }

-- ---- a grammar of one rule, which is a leaf

abbrev one_rule : Body → Grammar
one_rule body = book (record { lhs = 0; weight = 7; body = body } ∷ [])

-- it is then the one tree
only_tree : (body : Body) (kids : Forest) (r : ℕ) → ((w : ℕ) → children body w ≡ []) → are_trees (one_rule body).rules ((2, 0) ∷ []) (more r kids none) ≡ true
    → (r ≡ 0) × (kids ≡ none)
only_tree body kids (suc r) ends are = absurd (cc)
only_tree body kids zero ends are =
    let parts = and_parts (suits (Some (record { lhs = 0; weight = 7; body = body })) (2, 0)) _ are in
    let below : are_trees (one_rule body).rules (children body 2) kids ≡ true = (and_parts _ _ parts.1).0 in
    (refl, no_kids (one_rule body).rules kids (subst (λ qs. are_trees (one_rule body).rules qs kids ≡ true) (ends 2) below))

only_derivation : (body : Body) (cs : List Inner) (ts : List Tree) (to : ℕ) → ((w : ℕ) → children body w ≡ [])
    → Fits (one_rule body) (bar_with None ∷ []) cs ts to → ts ≡ leaf 0 ∷ []
only_derivation body cs ts to ends fits =
    let one = one_tree (one_rule body) (bar_with None) cs ts to fits in
    let t : Tree = one.0 in
    let only = only_tree body t.kids t.rule ends (and_parts (are_trees (one_rule body).rules ((2, 0) ∷ []) (more t.rule t.kids none)) true one.2).0 in
    one.1 ∙ ap₂ (λ r kids. record { rule = r; kids = kids } ∷ []) only.0 only.1

-- the grammar has a root symbol for the bar
started : (body : Body) → HasStarts (one_rule body) performed.bars
started body zero d lt = λ none. absurd (cc)
started body (suc k) d lt = absurd (omega (arith, lt))

-- the note costs its rule
costs_seven : IsCostOf (one_rule note) performed 7
costs_seven = (
  7,
  0,
  record {
    starts = started note;
    chords = chords;
    are_chords = are_chords (one_rule note).rules;
    trees = leaf 0 ∷ [];
    least = record {
      fits = record { trees = refl; leaves = refl; leave = refl };
      first = λ us fits less. absurd (later us (only_derivation note (soundings chords) us 0 (λ w. refl) fits) less);
    };
    is = refl;
  },
  refl,
  refl,
)
  where
    later : (us : List Tree) → us ≡ leaf 0 ∷ []
        → rank_cmp (rank_of (one_rule note) (bar_with None ∷ []) (soundings chords) us) (7, 0 ∷ []) ≡ Less → ⊥
    later us same less =
        let wrong : Equal ≡ Less = subst (λ vs. rank_cmp (rank_of (one_rule note) (bar_with None ∷ []) (soundings chords) vs) (7, 0 ∷ []) ≡ Less) same less in cc

-- a grammar of a rest alone has no derivation of the note, and its one bar is dead
dead_at_once : IsDeadVoice (one_rule Rest) performed 0 0
dead_at_once = record {
  starts = started Rest;
  voice = (0, omega arith, refl);
  chords = chords;
  are_chords = are_chords (one_rule Rest).rules;
  dead = record {
    bar = omega arith;
    dead = no_run;
    first = λ j lt. absurd (omega (arith, lt));
  };
  first = λ c voice lt. absurd (omega (arith, lt));
}
  where
    no_run : HasRun (one_rule Rest) (bar_with None ∷ []) (soundings chords) 0 → ⊥
    no_run run =
        let same = only_derivation Rest (soundings chords) run.trees run.to (λ w. refl) run.fits in
        let wrong : false ≡ true = (subst (λ ts. Fits (one_rule Rest) (bar_with None ∷ []) (soundings chords) ts run.to) same run.fits).leaves in
        absurd (cc)

-- ---- a grammar of two trees: a note, or a note and a tie

abbrev two_trees : Grammar
two_trees = book
    (record { lhs = 0; weight = 7; body = note } ∷ record { lhs = 0; weight = 1; body = Split (1 ∷ 2 ∷ []) }
    ∷ record { lhs = 1; weight = 3; body = note } ∷ record { lhs = 2; weight = 4; body = Tie } ∷ [])

abbrev tied : Tree
tied = record { rule = 1; kids = more 2 none (more 3 none none) }

abbrev Passes : List (ℕ × ℕ) → Forest → Type 0
Passes qs f = are_trees two_trees.rules qs f ≡ true

second_half : (f : Forest) → Passes ((1, 2) ∷ []) f → f ≡ more 3 none none
second_half none are = absurd (cc)
second_half (more zero kids rest) are = absurd (cc)
second_half (more (suc zero) kids rest) are = absurd (cc)
second_half (more (suc (suc zero)) kids rest) are = absurd (cc)
second_half (more (suc (suc (suc zero))) kids rest) are =
    let both = and_parts (are_trees two_trees.rules [] kids) _ are in
    ap₂ (more 3) (no_kids two_trees.rules kids both.0) (no_kids two_trees.rules rest both.1)
second_half (more (suc (suc (suc (suc r)))) kids rest) are = absurd (cc)

both_halves : (f : Forest) → Passes ((1, 1) ∷ (1, 2) ∷ []) f → f ≡ more 2 none (more 3 none none)
both_halves none are = absurd (cc)
both_halves (more zero kids rest) are = absurd (cc)
both_halves (more (suc zero) kids rest) are = absurd (cc)
both_halves (more (suc (suc zero)) kids rest) are =
    let both = and_parts (are_trees two_trees.rules [] kids) _ are in
    ap₂ (more 2) (no_kids two_trees.rules kids both.0) (second_half rest both.1)
both_halves (more (suc (suc (suc zero))) kids rest) are = absurd (cc)
both_halves (more (suc (suc (suc (suc r)))) kids rest) are = absurd (cc)

either_tree : (r : ℕ) (kids : Forest) → Passes ((2, 0) ∷ []) (more r kids none)
    → ((r ≡ 0) × (kids ≡ none)) ⊎ ((r ≡ 1) × (kids ≡ more 2 none (more 3 none none)))
either_tree zero kids are = inl (refl, no_kids two_trees.rules kids (and_parts (are_trees two_trees.rules [] kids) true are).0)
either_tree (suc zero) kids are = inr (refl, both_halves kids (and_parts (are_trees two_trees.rules ((1, 1) ∷ (1, 2) ∷ []) kids) true are).0)
either_tree (suc (suc zero)) kids are = absurd (cc)
either_tree (suc (suc (suc zero))) kids are = absurd (cc)
either_tree (suc (suc (suc (suc r)))) kids are = absurd (cc)

-- the bar is pinned to a third shape, which the alternatives do not heed
abbrev pinned : List VoiceBar
pinned = bar_with (Some (part end (part end (part end end)))) ∷ []

abbrev note_alone : ℕ × Tree
note_alone = (7, leaf 0)

abbrev note_and_tie : ℕ × Tree
note_and_tie = (8, tied)

abbrev Alternative : ℕ × Tree → Type 0
Alternative a = IsAlternative two_trees (without_pin_at 0 pinned) (soundings chords) 0 a

first_is : (t u : Tree) (ts : List Tree) → ts ≡ t ∷ [] → slice_get ts 0 ≡ Some u → ts ≡ u ∷ []
first_is t u ts one first =
    let same : Some t ≡ Some u = subst (λ l. slice_get l 0 ≡ Some u) one first in
    let is : t ≡ u = cc in one ∙ ap (λ x. x ∷ []) is

-- the voice is the tree of its one bar
the_voice : (u : Tree) (us : List Tree) → FitsVoice two_trees (without_pin_at 0 pinned) (soundings chords) us → slice_get us 0 ≡ Some u → us ≡ u ∷ []
the_voice u us fits first = let one = one_tree two_trees (bar_with None) (soundings chords) us 0 fits in first_is one.0 u us one.1 first

is_alternative : (total : ℕ) (t : Tree) → FitsVoice two_trees (without_pin_at 0 pinned) (soundings chords) (t ∷ [])
    → total ≡ cost two_trees (without_pin_at 0 pinned) (soundings chords) (t ∷ []) → Alternative (total, t)
is_alternative total t fits is = record {
  trees = t ∷ [];
  fits = fits;
  tree = refl;
  total = is;
  least = λ us other first.
      let same = ap (cost two_trees (without_pin_at 0 pinned) (soundings chords)) (the_voice t us other first) in
      omega (arith, same, is);
}

note_alone-is : Alternative note_alone
note_alone-is = is_alternative 7 (leaf 0) (record { trees = refl; leaves = refl; leave = refl }) refl

note_and_tie-is : Alternative note_and_tie
note_and_tie-is = is_alternative 8 tied (record { trees = refl; leaves = refl; leave = refl }) refl

no_others : (a : ℕ × Tree) → Alternative a → (a ≡ note_alone) ⊎ (a ≡ note_and_tie)
no_others a is = by (either_tree a.1.rule a.1.kids (and_parts (are_trees two_trees.rules ((2, 0) ∷ []) (more a.1.rule a.1.kids none)) true tree).0)
  where
    voice : is.trees ≡ a.1 ∷ []
    voice = the_voice a.1 is.trees is.fits is.tree

    tree : is_tree two_trees.rules 2 0 None a.1 ≡ true
    tree = (and_parts (is_tree two_trees.rules 2 0 None a.1) true (subst (λ ts. FitsVoice two_trees (without_pin_at 0 pinned) (soundings chords) ts) voice is.fits).trees).0

    total : a.0 ≡ cost two_trees (without_pin_at 0 pinned) (soundings chords) (a.1 ∷ [])
    total = is.total ∙ ap (cost two_trees (without_pin_at 0 pinned) (soundings chords)) voice

    by : ((a.1.rule ≡ 0) × (a.1.kids ≡ none)) ⊎ ((a.1.rule ≡ 1) × (a.1.kids ≡ more 2 none (more 3 none none))) → (a ≡ note_alone) ⊎ (a ≡ note_and_tie)
    by (inl only) =
        let t : a.1 ≡ leaf 0 = ap₂ (λ r kids. record { rule = r; kids = kids }) only.0 only.1 in
        inl (ap₂ (λ n u. (n, u)) (total ∙ ap (λ u. cost two_trees (without_pin_at 0 pinned) (soundings chords) (u ∷ [])) t) t)
    by (inr only) =
        let t : a.1 ≡ tied = ap₂ (λ r kids. record { rule = r; kids = kids }) only.0 only.1 in
        inr (ap₂ (λ n u. (n, u)) (total ∙ ap (λ u. cost two_trees (without_pin_at 0 pinned) (soundings chords) (u ∷ [])) t) t)

-- both, where two are asked for
two_alternatives : AreAlternatives two_trees pinned (soundings chords) 0 2 (note_alone ∷ note_and_tie ∷ [])
two_alternatives = record {
  are = All-cons Alternative note_alone (note_and_tie ∷ []) note_alone-is (All-cons Alternative note_and_tie [] note_and_tie-is (All-nil Alternative));
  in_order =
      AllPairs-cons IsEarlier note_alone (note_and_tie ∷ []) (All-cons (IsEarlier note_alone) note_and_tie [] refl (All-nil (IsEarlier note_alone)))
      (AllPairs-cons IsEarlier note_and_tie [] (All-nil (IsEarlier note_and_tie)) (λ i j d lt within. absurd (omega (arith, within))));
  few = omega arith;
  first = λ a is. inl (listed a (no_others a is));
}
  where
    listed : (a : ℕ × Tree) → (a ≡ note_alone) ⊎ (a ≡ note_and_tie) → Contains (note_alone ∷ note_and_tie ∷ []) a
    listed a (inl is) = (0, omega arith, sym is)
    listed a (inr is) = (1, omega arith, sym is)

-- the cheaper, where one is
one_alternative : AreAlternatives two_trees pinned (soundings chords) 0 1 (note_alone ∷ [])
one_alternative = record {
  are = All-cons Alternative note_alone [] note_alone-is (All-nil Alternative);
  in_order = AllPairs-cons IsEarlier note_alone [] (All-nil (IsEarlier note_alone)) (λ i j d lt within. absurd (omega (arith, within)));
  few = omega arith;
  first = λ a is. listed a (no_others a is);
}
  where
    listed : (a : ℕ × Tree) → (a ≡ note_alone) ⊎ (a ≡ note_and_tie)
        → Contains (note_alone ∷ []) a ⊎ ((length (note_alone ∷ []) ≡ 1) × All (λ b. IsEarlier b a) (note_alone ∷ []))
    listed a (inl is) = inl (0, omega arith, sym is)
    listed a (inr is) =
        inr (refl, All-cons (λ b. IsEarlier b a) note_alone [] (subst (IsEarlier note_alone) (sym is) refl) (All-nil (λ b. IsEarlier b a)))
