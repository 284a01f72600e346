-- The steps in which a text is read.
use Rattle.std.specs.Prelude.{Option, Some, None}

-- what is read of a text is read on where there is something
infixl 10 ◌>>=◌
abbrev pub ◌>>=◌ : {A B : Type 0} → Option A → (A → Option B) → Option B
None >>= next = None
(Some x) >>= next = next x
