-- A grammar as contracts see it.
use Rattle.std.specs.Prelude.{ℕ, List, [], ◌∷◌, ◌==◌, ◌&&◌, if◌then◌else◌, Option, Some, None}
use Rattle.rhythm_base.specs.declared.grammar.Start.{Start}
use Rattle.rhythm_base.specs.declared.rule.Rule.{Rule}

pub record Grammar : Type 0 where
  pub version : ℕ
  pub resolution : ℕ
  pub window : ℕ
  pub early : ℕ
  pub late : ℕ
  pub names : List (List ℕ)
  pub starts : List Start
  pub rules : List Rule

-- the root symbol of a signature
abbrev pub root_of : List Start → ℕ → ℕ → Option ℕ
root_of [] num den = None
root_of (start ∷ starts) num den =
    if (start.num == num) && (start.den == den) then Some start.symbol else root_of starts num den
