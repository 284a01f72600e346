-- The rule lists of least derivations: they are one, and name rules of the grammar.
use Rattle.std.proofs.Common.{◌≡◌, ◌∙◌, ℕ, ◌<◌, true, List, [], ◌∷◌, ap, length, map, refl, subst, sym}
use Rattle.std.specs.Prelude.{All, flat_map}
use Rattle.std.proofs.lemmas.Bool.{and_parts}
use Rattle.std.proofs.lemmas.List.Elements.{All-cons, All-nil}
use Rattle.derivation.proofs.Pairs.{each_one}
use Rattle.edit_session.specs.RuleLists.{AreLeastLists, AreRuleListsOf}
use Rattle.performance_laws.proofs.OneChords.{one_chords}
use Rattle.rhythm_base.specs.Forest.{Tree, more, none, preorder_of}
use Rattle.rhythm_base.specs.Grammar.{Grammar}
use Rattle.rhythm_base.specs.Least.{IsLeast}
use Rattle.rhythm_base.specs.Leaves.{VoiceBar, are_bars, soundings}
use Rattle.rhythm_base.specs.Performance.{IsWellFormed, Performance}
use Rattle.rhythm_base.specs.Trees.{are_trees, has_pin, is_tree}
use Rattle.rhythm_base.specs.Voices.{notes_of_voice, voice_bars}
use Rattle.rule_counts.proofs.TreeRules.{have_rules}
use Rattle.session_counts.specs.Laws.{RuleListsAreOne}
use Rattle.tree_laws.proofs.OneDerivations.{one_least}

-- ---- one answer

voice_one : (g : Grammar) (p : Performance) (channel : ℕ) (some other : List (List ℕ)) → AreLeastLists g p channel some → AreLeastLists g p channel other → some ≡ other
voice_one g p channel some other (ts, least, lists) (us, least', lists') =
    let bars = voice_bars g p channel in
    let chords = one_chords p.tempos p.division g.window (notes_of_voice p channel) least.chords least'.chords least.are_chords least'.are_chords in
    let trees = one_least g bars (soundings least'.chords) ts us (subst (λ cs. IsLeast g bars (soundings cs) ts) chords least.least) least'.least in
    sym lists ∙ ap (map preorder_of) trees ∙ lists'

pub are_one : RuleListsAreOne
are_one g p some other formed h k =
    let voices = each_one (AreLeastLists g p) (λ c. c < 16) p.channels h.voices k.voices (λ c xs ys _. voice_one g p c xs ys) formed.voices h.each k.each in
    h.are ∙ ap (flat_map (λ voice. voice)) voices ∙ sym k.are

-- ---- rules of the grammar

bars_have_rules : (g : Grammar) (bars : List VoiceBar) (ts : List Tree) → are_bars g bars ts ≡ true → All (λ list. All (λ r. r < length g.rules) list) (map preorder_of ts)
bars_have_rules g [] [] h = All-nil (λ list. All (λ r. r < length g.rules) list)
bars_have_rules g [] (t ∷ ts) h = absurd (cc)
bars_have_rules g (bar ∷ bars) [] h = absurd (cc)
bars_have_rules g (bar ∷ bars) (t ∷ ts) h =
    let both = and_parts (is_tree g.rules g.resolution bar.symbol bar.pin t) (are_bars g bars ts) h in
    let tree = and_parts (are_trees g.rules ((g.resolution, bar.symbol) ∷ []) (more t.rule t.kids none)) (has_pin bar.pin t) both.0 in
    All-cons (λ list. All (λ r. r < length g.rules) list) (preorder_of t) (map preorder_of ts) (have_rules g bar.symbol (preorder_of t) (t, (tree.0, refl)))
    (bars_have_rules g bars ts both.1)

pub lists_have_rules : (g : Grammar) (p : Performance) (channel : ℕ) (lists : List (List ℕ)) → AreLeastLists g p channel lists
    → All (λ list. All (λ r. r < length g.rules) list) lists
lists_have_rules g p channel lists (ts, least, same) =
    subst (All (λ list. All (λ r. r < length g.rules) list)) same (bars_have_rules g (voice_bars g p channel) ts least.least.fits.trees)
