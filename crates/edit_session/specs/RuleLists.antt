-- The rule lists of least derivations.
use Rattle.std.specs.Prelude.{◌≡◌, ℕ, List, flat_map, slice_index}
use Rattle.derivation.specs.RuleLists.{HaveLists}
use Rattle.edit_session.specs.Session.{Session}
use Rattle.rhythm_base.specs.Forest.{Tree}
use Rattle.rhythm_base.specs.Grammar.{Grammar}
use Rattle.rhythm_base.specs.Lists.{Each}
use Rattle.rhythm_base.specs.Performance.{Performance}
use Rattle.rhythm_base.specs.Voices.{IsLeastOf}

-- the rule lists of the least derivation of a voice, bar after bar
abbrev pub AreLeastLists : Grammar → Performance → ℕ → List (List ℕ) → Type 0
AreLeastLists g p channel lists = (trees : List Tree) × IsLeastOf g p channel trees × HaveLists trees lists

-- those of a voice of a session, by its number, from 0
abbrev pub AreLeastListsOf : Session → ℕ → List (List ℕ) → Type 0
AreLeastListsOf s voice lists = AreLeastLists s.grammar s.performance (slice_index s.performance.channels voice) lists

-- those of the least derivations of all voices, voice after voice
pub record AreRuleListsOf (g : Grammar) (p : Performance) (lists : List (List ℕ)) : Type 0 where
  pub voices : List (List (List ℕ))
  pub each : Each (AreLeastLists g p) p.channels voices
  pub are : lists ≡ flat_map (λ voice. voice) voices
