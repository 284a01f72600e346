-- What stands before and after a cell, level by level.
use Rattle.std.specs.Prelude.{◌≡◌, ℕ, ◌+◌, ◌*◌, ◌/◌, ◌<◌, ◌≤◌, List, [], length, slice_index_or, Option}
use Rattle.rhythm_base.specs.Ranked.{CarryMatrix, five, least_key, product_of}
use Rattle.chain_bars.specs.Tower.{cost_of}

-- what begins before a node begins before the one above it: with the node to the left, where the node is the right one of two
pub record IsJoinedLeft (nodes : List CarryMatrix) (place : ℕ) (before joined : CarryMatrix) : Type 0 where
  pub right : 2 * (place / 2) < place → joined ≡ product_of (slice_index_or nodes (2 * (place / 2)) []) before
  pub left : place ≤ 2 * (place / 2) → joined ≡ before

-- and what ends after it: with the node to the right, where the node is the left one of two
pub record IsJoinedRight (nodes : List CarryMatrix) (place : ℕ) (after joined : CarryMatrix) : Type 0 where
  pub left : 2 * (place / 2) ≡ place → place + 1 < length nodes → joined ≡ product_of after (slice_index_or nodes (place + 1) [])
  pub lone : length nodes ≤ place + 1 → joined ≡ after
  pub right : 2 * (place / 2) < place → joined ≡ after

-- the costs of the least paths over cells that begin with nothing carried, by the number carried out
abbrev pub costs_from_none : List CarryMatrix → List (Option ℕ)
costs_from_none cells = five (λ to. cost_of (least_key cells 0 to))

-- and of those that end with nothing carried, by the number carried in
abbrev pub costs_to_none : List CarryMatrix → List (Option ℕ)
costs_to_none cells = five (λ from. cost_of (least_key cells from 0))
