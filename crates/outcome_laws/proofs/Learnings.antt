-- Weights are learned from files, or the first file that does not pass its tests has a stop.
use Rattle.std.proofs.Common.{◌≡◌, ◌∙◌, ◌+◌, ◌<◌, ℕ, zero, suc, inl, inr, ap, arith, [], ◌∷◌, ◌++◌, List, length, refl, map, Ok, Err}
use Rattle.std.specs.Prelude.{min, slice_index}
use Rattle.answer_laws.proofs.Openings.{opening_or_fault}
use Rattle.derivation.proofs.Pairs.{each_exist}
use Rattle.edit_session.specs.Opening.{CanOpen}
use Rattle.edit_session.specs.RuleLists.{AreLeastLists, AreRuleListsOf}
use Rattle.grammar_file.specs.Printed.{printed}
use Rattle.rhythm_app.proofs.OneOutcome.{well_formed}
use Rattle.rhythm_app.specs.Inputs.{file_content}
use Rattle.rhythm_app.specs.Learning.{AreAllListed, AreListsOf, AreOfFile, AreOfFiles, IsWeighed, in_file}
use Rattle.rhythm_app.specs.Outcome.{AreInTurn, IsLoading, IsRead, midi_tests, open_stop, say}
use Rattle.rhythm_base.specs.Forest.{preorder_of}
use Rattle.rhythm_base.specs.Grammar.{Grammar}
use Rattle.rhythm_base.specs.Performance.{IsWellFormed, Performance}
use Rattle.rhythm_base.specs.Readable.{IsReadable}
use Rattle.rhythm_base.specs.Voices.{HasDerivation}
use Rattle.rhythm_ports.specs.Files.{File}
use Rattle.rule_counts.specs.Counts.{AreRuleCounts, uses_in_all}
use Rattle.rule_counts.specs.declared.rule_counts.TheConstants.{MOST_USES}
use Rattle.table_laws.proofs.Performances.{derivation_or_none}
use Rattle.weight_learning.specs.Learned.{learned}
use Rattle.outcome_laws.specs.Laws.{HoldBytes, LearningsExist}
use Rattle.outcome_laws.proofs.FileTests.{content_bytes, read_in_range}
use Rattle.outcome_laws.proofs.InTurn.{ComesTo, in_turn}
use Rattle.outcome_laws.proofs.Loadings.{some_loading}

-- ---- a performance

module _ (g : Grammar) (p : Performance) (readable : IsReadable g) (formed : IsWellFormed p) where
  voice_lists : CanOpen g p → (channel : ℕ) → HasDerivation g p channel → (lists : List (List ℕ)) × AreLeastLists g p channel lists
  voice_lists can channel has = elim (derivation_or_none g p readable formed can.starts channel) [
    | inl least ↦ (map preorder_of least.0, (least.0, least.1, refl))
    | inr none ↦ absurd (none has)
  ]

  some_lists : CanOpen g p → (lists : List (List ℕ)) × AreRuleListsOf g p lists
  some_lists can =
      let voices = each_exist (AreLeastLists g p) (HasDerivation g p) p.channels (voice_lists can) can.derivations in
      (_, record { voices = voices.0; each = voices.1; are = refl })

  some_listed : ComesTo (AreListsOf g p)
  some_listed = elim (opening_or_fault g p readable formed) [
    | inl can ↦ let lists = some_lists can in (Ok lists.0, (can, lists.1))
    | inr fault ↦ (Err (open_stop fault.0), (fault.0, fault.2, fault.1, refl))
  ]

-- ---- files

module _ (files : List File) (holds : HoldBytes files) (g : Grammar) (readable : IsReadable g) where
  some_of_file : (name : List ℕ) → ComesTo (AreOfFile g (file_content files name))
  some_of_file name =
      let bytes = file_content files name in
      in_turn (IsRead bytes) (λ f. AreInTurn (IsLoading f) (AreListsOf g)) (midi_tests bytes, refl)
      (λ f read. in_turn (IsLoading f) (AreListsOf g) (some_loading f (read_in_range bytes (content_bytes files name holds) f read))
      (λ p loaded. some_listed g p readable (well_formed f p loaded)))

  -- a file that passes, before others
  of_files_before : (name : List ℕ) (midis : List (List ℕ)) (own lists : List (List ℕ)) → AreOfFile g (file_content files name) (Ok own) → AreOfFiles g files midis lists
      → AreOfFiles g files (name ∷ midis) (own ++ lists)
  of_files_before name midis own lists of h = record { own = own ∷ h.own; each = (of, h.each); are = ap (λ l. own ++ l) h.are }

  some_all : (midis : List (List ℕ)) → ComesTo (AreAllListed g files midis)
  some_all [] = (Ok [], record { own = []; each = refl; are = refl })
  some_all (name ∷ midis) = first (some_of_file name) (some_all midis)
    where
      after : (own : List (List ℕ)) → AreOfFile g (file_content files name) (Ok own) → ComesTo (AreAllListed g files midis) → ComesTo (AreAllListed g files (name ∷ midis))
      after own of (Ok lists, h) = (Ok (own ++ lists), of_files_before name midis own lists of h)
      after own of (Err s, (n, t, ((lt, (lists, before)), stopped), e)) =
          (Err (in_file (suc n + 1) t), (suc n, t, ((omega (arith, lt), (own ++ lists, of_files_before name _ own lists of before)), stopped), refl))

      first : ComesTo (AreOfFile g (file_content files name)) → ComesTo (AreAllListed g files midis) → ComesTo (AreAllListed g files (name ∷ midis))
      first (Ok own, of) rest = after own of rest
      first (Err s, stopped) rest = (Err (in_file 1 s), (0, s, ((omega arith, ([], record { own = []; each = refl; are = refl })), stopped), refl))

-- ---- weights

-- the values of a function at so many numbers from this one on
abbrev values : (ℕ → ℕ) → ℕ → ℕ → List ℕ
values f start zero = []
values f start (suc count) = f start ∷ values f (suc start) count

values_long : (f : ℕ → ℕ) (start count : ℕ) → length (values f start count) ≡ count
values_long f start zero = refl
values_long f start (suc count) = ap suc (values_long f (suc start) count)

value_at : (f : ℕ → ℕ) (start count k : ℕ) → k < count → slice_index (values f start count) k ≡ f (start + k)
value_at f start zero k lt = absurd (omega (arith, lt))
value_at f start (suc count) zero lt = ap f (omega arith)
value_at f start (suc count) (suc k) lt = value_at f (suc start) count k (omega (arith, lt)) ∙ ap f (omega arith)

some_counts : (rules : ℕ) (lists : List (List ℕ)) → (counts : List ℕ) × AreRuleCounts rules lists counts
some_counts rules lists =
    let count : ℕ → ℕ = λ rule. min (uses_in_all rule lists) MOST_USES in
    (values count 0 rules, record { of_each = values_long count 0 rules; are = λ rule lt. let from : 0 + rule ≡ rule = omega arith in value_at count 0 rules rule lt ∙ ap count from })

some_weighed : (bit : ℕ) (g : Grammar) (lists : List (List ℕ)) → ComesTo (IsWeighed bit g lists)
some_weighed bit g lists =
    let counts = some_counts (length g.rules) lists in
    (Ok (say (printed (learned g counts.0 bit))), (counts.0, counts.1, refl))

pub learnings : LearningsExist
learnings bit files midis g holds readable =
    in_turn (AreAllListed g files midis) (IsWeighed bit g) (some_all files holds g readable midis) (λ lists _. some_weighed bit g lists)
