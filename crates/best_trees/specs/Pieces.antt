-- The parts of a cut as the code holds them.
use Rattle.std.specs.Prelude.{◌≡◌, ℕ, List, map}
use Rattle.rhythm_base.specs.Bodies.{children}
use Rattle.rhythm_base.specs.declared.rule.Body.{Body}
use Rattle.best_trees.specs.declared.cut.Piece.{Piece}

-- a part as its width and its symbol
abbrev pub piece_pair : Piece → ℕ × ℕ
piece_pair p = (p.width, p.symbol)

-- these are the parts of a node of this width
abbrev pub ArePieces : Body → ℕ → List Piece → Type 0
ArePieces body width pieces = map piece_pair pieces ≡ children body width
