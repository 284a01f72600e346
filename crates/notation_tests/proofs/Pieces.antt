-- The pieces of the tests: what their grammars' texts say, that their trees fit, and that what sounds in them is well sounded.
use Rattle.std.proofs.Common.{◌≡◌, ℕ, ◌<◌, ◌^◌, List, [], ◌∷◌, ◌++◌, Result, Ok, refl, sym, ◌∙◌, subst, arith}
use Rattle.std.specs.List.{flat_map}
use Rattle.std.specs.Prelude.{All, bit_or, codes, length}
use Rattle.std.proofs.lemmas.Nat.{le_or_l, or_lt}
use Rattle.std.proofs.lemmas.List.Elements.{All-from_recursion}
use Rattle.derivation.proofs.WellSounding.{well_sounded}
use Rattle.derivation.specs.RuleLists.{IsToldBy}
use Rattle.derivation.specs.Sounds.{derivation_sounds, plain_bars}
use Rattle.derivation.specs.WellSounded.{AreKeys, AreWellSounded}
use Rattle.std.proofs.Math.Nat.{one-le-pow}
use Rattle.std.proofs.Math.Pow.{pow-lt}
use Rattle.grammar_file.specs.declared.fault.GrammarFault.{GrammarFault}
use Rattle.grammar_file.specs.Content.{content_from}
use Rattle.grammar_file.specs.Endings.{ending_word_of}
use Rattle.grammar_file.specs.Grammar.{grammar_of}
use Rattle.grammar_file.specs.Header.{header_of}
use Rattle.grammar_file.specs.Names.{is_name, is_name_byte}
use Rattle.grammar_file.specs.Numbers.{is_numeral}
use Rattle.grammar_file.specs.Said.{kind_of, said_by}
use Rattle.rhythm_base.specs.declared.chord.Chord.{Chord}
use Rattle.rhythm_base.specs.declared.note.Bar.{Bar}
use Rattle.rhythm_base.specs.declared.rule.Body.{Body}
use Rattle.rhythm_base.specs.declared.rule.Body.TheVariants.{Split, Note, Short, Tie, Rest, Grace}
use Rattle.rhythm_base.specs.declared.rule.Rule.{Rule}
use Rattle.rhythm_base.specs.declared.sound.Sound.{Sound}
use Rattle.rhythm_base.specs.Forest.{Tree, forest_of, none}
use Rattle.rhythm_base.specs.Grammar.{Grammar}
use Rattle.rhythm_base.specs.Leaves.{soundings}

abbrev text : List (List ℕ) → List ℕ
text lines = flat_map (λ line. line ++ 10 ∷ []) lines

abbrev rule : ℕ → ℕ → Body → Rule
rule symbol weight body = record { lhs = symbol; weight = weight; body = body }

abbrev pub quarters : Grammar
quarters = record {
  version = 1;
  resolution = 4;
  window = 0;
  early = 1;
  late = 1;
  names = codes "B" ∷ codes "Q" ∷ [];
  starts = record { num = 4; den = 4; symbol = 0 } ∷ [];
  rules = rule 0 0 (Split (1 ∷ 1 ∷ 1 ∷ 1 ∷ [])) ∷ rule 1 0 Note ∷ rule 1 0 Rest ∷ rule 1 0 Tie ∷ rule 1 0 Short ∷ rule 1 5 (Grace 2) ∷ [];
}

abbrev pub quarters_text : List ℕ
quarters_text =
    text (codes "rhythm 1" ∷ codes "resolution 4" ∷ codes "window 0" ∷ codes "onset 1" ∷ codes "start 4/4 B" ∷ codes "B 0 split Q Q Q Q" ∷ codes "Q 0 note" ∷ codes "Q 0 rest" ∷ codes "Q 0 tie" ∷ codes "Q 0 short" ∷ codes "Q 5 grace 2" ∷ [])

pub quarters_said : grammar_of quarters_text ≡ Ok quarters
unfolding grammar_of header_of content_from is_numeral is_name is_name_byte kind_of ending_word_of said_by
quarters_said = refl

abbrev pub eighths : Grammar
eighths = record {
  version = 1;
  resolution = 8;
  window = 30000;
  early = 1;
  late = 1;
  names = codes "B" ∷ codes "H" ∷ codes "Q" ∷ codes "E" ∷ [];
  starts = record { num = 4; den = 4; symbol = 0 } ∷ [];
  rules =
      rule 0 10 Note ∷ rule 0 10 Tie ∷ rule 0 5 Rest ∷ rule 0 20 (Split (1 ∷ 1 ∷ []))
      ∷ rule 1 10 Note ∷ rule 1 10 Tie ∷ rule 1 10 Rest ∷ rule 1 20 (Split (2 ∷ 2 ∷ []))
      ∷ rule 2 10 Note ∷ rule 2 15 Short ∷ rule 2 10 Tie ∷ rule 2 10 Rest ∷ rule 2 40 (Split (3 ∷ 3 ∷ []))
      ∷ rule 3 10 Note ∷ rule 3 20 Short ∷ rule 3 10 Tie ∷ rule 3 10 Rest ∷ rule 3 60 (Grace 1) ∷ [];
}

abbrev pub eighths_text : List ℕ
eighths_text =
    text (codes "rhythm 1" ∷ codes "resolution 8" ∷ codes "window 30000" ∷ codes "onset 1" ∷ codes "start 4/4 B"
    ∷ codes "B 10 note" ∷ codes "B 10 tie" ∷ codes "B 5 rest" ∷ codes "B 20 split H H"
    ∷ codes "H 10 note" ∷ codes "H 10 tie" ∷ codes "H 10 rest" ∷ codes "H 20 split Q Q"
    ∷ codes "Q 10 note" ∷ codes "Q 15 short" ∷ codes "Q 10 tie" ∷ codes "Q 10 rest" ∷ codes "Q 40 split E E"
    ∷ codes "E 10 note" ∷ codes "E 20 short" ∷ codes "E 10 tie" ∷ codes "E 10 rest" ∷ codes "E 60 grace 1" ∷ [])

pub eighths_said : grammar_of eighths_text ≡ Ok eighths
unfolding grammar_of header_of content_from is_numeral is_name is_name_byte kind_of ending_word_of said_by
eighths_said = refl

-- ---- the derivations

abbrev leaf : ℕ → Tree
leaf rule = record { rule = rule; kids = none }

abbrev chord : ℕ → ℕ → ℕ → Chord
chord onset end keys = record { onset = onset; end = end; keys = keys }

abbrev pub one_bar : List Bar
one_bar = record { start = 0; num = 4; den = 4 } ∷ []

abbrev pub two_bars : List Bar
two_bars = record { start = 0; num = 4; den = 4 } ∷ record { start = 1920; num = 4; den = 4 } ∷ []

abbrev pub upper_trees : List Tree
upper_trees = record { rule = 3; kids = forest_of (record { rule = 7; kids = forest_of (leaf 8 ∷ leaf 8 ∷ []) } ∷ leaf 5 ∷ []) } ∷ leaf 0 ∷ []

abbrev pub upper_lists : List (List ℕ)
upper_lists = (3 ∷ 7 ∷ 8 ∷ 8 ∷ 5 ∷ []) ∷ (0 ∷ []) ∷ []

abbrev pub upper_chords : List Chord
upper_chords = chord 5 470 (bit_or (2 ^ 70) (2 ^ 74)) ∷ chord 485 1900 (2 ^ 72) ∷ chord 1910 3800 (2 ^ 70) ∷ []

abbrev pub lower_trees : List Tree
lower_trees = leaf 0 ∷ leaf 1 ∷ []

abbrev pub lower_lists : List (List ℕ)
lower_lists = (0 ∷ []) ∷ (1 ∷ []) ∷ []

abbrev pub lower_chords : List Chord
lower_chords = chord 0 3840 (2 ^ 46) ∷ []

abbrev pub graced_trees : List Tree
graced_trees = record { rule = 0; kids = forest_of (leaf 2 ∷ leaf 5 ∷ leaf 2 ∷ leaf 2 ∷ []) } ∷ []

abbrev pub graced_lists : List (List ℕ)
graced_lists = (0 ∷ 2 ∷ 5 ∷ 2 ∷ 2 ∷ []) ∷ []

abbrev pub graced_chords : List Chord
graced_chords = chord 400 440 (2 ^ 62) ∷ chord 440 480 (2 ^ 64) ∷ chord 480 960 (2 ^ 60) ∷ []

abbrev AreTold : Grammar → List Bar → ℕ → List Chord → List (List ℕ) → List Tree → Type 0
AreTold g bars last cs lists ts = IsToldBy g (plain_bars g last bars) (soundings cs) lists ts

pub upper_told : AreTold eighths two_bars 3840 upper_chords upper_lists upper_trees
upper_told = record { fits = record { trees = refl; leaves = refl; leave = refl }; preorders = refl }

pub lower_told : AreTold eighths two_bars 3840 lower_chords lower_lists lower_trees
lower_told = record { fits = record { trees = refl; leaves = refl; leave = refl }; preorders = refl }

pub graced_told : AreTold quarters one_bar 1920 graced_chords graced_lists graced_trees
graced_told = record { fits = record { trees = refl; leaves = refl; leave = refl }; preorders = refl }

some_keys : (k : ℕ) → k < 128 → AreKeys (2 ^ k)
some_keys k lt = (one-le-pow k 2 (omega arith), pow-lt lt)

two_keys : (a b : ℕ) → AreKeys a → AreKeys b → AreKeys (bit_or a b)
two_keys a b h k = let low = le_or_l a b in (omega (arith, low, h.0), or_lt 128 a b h.1 k.1)

abbrev HaveKeys : List Chord → Type 0
HaveKeys cs = All (λ c. AreKeys c.keys) cs

abbrev AreSounded : Grammar → List Bar → ℕ → List Chord → List Tree → Type 0
AreSounded g bars last cs ts = AreWellSounded g.resolution (length (plain_bars g last bars)) (derivation_sounds g (plain_bars g last bars) cs ts)

pub upper_sounded : AreSounded eighths two_bars 3840 upper_chords upper_trees
upper_sounded =
    let both = two_keys (2 ^ 70) (2 ^ 74) (some_keys 70 (omega arith)) (some_keys 74 (omega arith)) in
    let keys : HaveKeys upper_chords = All-from_recursion (λ c. AreKeys c.keys) upper_chords (both, (some_keys 72 (omega arith), (some_keys 70 (omega arith), tt))) in
    well_sounded eighths (plain_bars eighths 3840 two_bars) upper_chords upper_trees
    (record { some = omega arith; near = (refl, omega arith, (refl, omega arith, refl)); rise = (omega arith, (omega arith, (omega arith, tt))); below = refl }) keys upper_told.fits

pub lower_sounded : AreSounded eighths two_bars 3840 lower_chords lower_trees
lower_sounded =
    let keys : HaveKeys lower_chords = All-from_recursion (λ c. AreKeys c.keys) lower_chords (some_keys 46 (omega arith), tt) in
    well_sounded eighths (plain_bars eighths 3840 two_bars) lower_chords lower_trees
    (record { some = omega arith; near = (refl, omega arith, (refl, omega arith, refl)); rise = (omega arith, tt); below = refl }) keys lower_told.fits

pub graced_sounded : AreSounded quarters one_bar 1920 graced_chords graced_trees
graced_sounded =
    let keys : HaveKeys graced_chords =
    All-from_recursion (λ c. AreKeys c.keys) graced_chords (some_keys 62 (omega arith), (some_keys 64 (omega arith), (some_keys 60 (omega arith), tt))) in
    well_sounded quarters (plain_bars quarters 1920 one_bar) graced_chords graced_trees
    (record { some = omega arith; near = (refl, omega arith, refl); rise = (omega arith, (omega arith, (omega arith, tt))); below = refl }) keys graced_told.fits

-- ---- a piece as the code has it

module _ (words : List ℕ) (g h : Grammar) (bars bars' : List Bar) (last : ℕ) (cs cs' : List Chord) (ts : List Tree)
    (said : grammar_of words ≡ Ok g) (known : grammar_of words ≡ Ok h) (same_bars : bars ≡ bars') (same_chords : cs ≡ cs') where
  same : g ≡ h
  same = let both : ◌≡◌ {A = Result Grammar GrammarFault} (Ok g) (Ok h) = sym said ∙ known in (cc)

  pub told_too : (lists lists' : List (List ℕ)) → lists ≡ lists' → AreTold h bars' last cs' lists' ts → AreTold g bars last cs lists ts
  told_too lists lists' same_lists told = subst (λ x. x) (λ i. AreTold (sym same i) (sym same_bars i) last (sym same_chords i) (sym same_lists i) ts) told

  pub sounded_too : (r : ℕ) (sounds : List Sound) → r ≡ g.resolution → sounds ≡ derivation_sounds g (plain_bars g last bars) cs ts → AreSounded h bars' last cs' ts
      → AreWellSounded r (length (plain_bars g last bars)) sounds
  sounded_too r sounds units found sounded =
      let own : AreSounded g bars last cs ts = subst (λ x. x) (λ i. AreSounded (sym same i) (sym same_bars i) last (sym same_chords i) ts) sounded in
      subst (λ x. x) (λ i. AreWellSounded (sym units i) (length (plain_bars g last bars)) (sym found i)) own
