-- The parts of a cut, read one after another.
use Rattle.std.proofs.Common.{◌≡◌, ℕ, ◌+◌, ◌-◌, ◌≤◌, List, [], ◌∷◌, ◌++◌, arith, subst}
use Rattle.rhythm_base.specs.Shape.{Shape, shape_of_parts}
use Rattle.rhythm_base.specs.ShapeReading.{AreParts, ByteText, IsPart, PartText, PartsText, StopsWith}
use Rattle.rhythm_base.specs.ShapeText.{shape_text, texts_of_parts}
use Rattle.rhythm_base.proofs.ShapeParts.{last_part, more_parts, stops_at_space, stops_in_others, stops_in_part}

-- so many parts are read from a text as far as what is after them, and come to those before
abbrev pub AreRead : ℕ → ℕ → List ℕ → List ℕ → List Shape → List Shape → Type 0
AreRead levels n text last before after =
    (read : List Shape) × AreParts levels n (shape_of_parts read) × (after ≡ before ++ read) × (text ≡ texts_of_parts (shape_of_parts read) ++ last)

-- of so many parts some are left: with them all are read, and where they stop, all do
pub record AreLeft (levels count n : ℕ) (text left : List ℕ) (before now : List Shape) : Type 0 where
  pub some : 1 ≤ n
  pub read : (last : List ℕ) (after : List Shape) → AreRead levels n left last now after → AreRead levels count text last before after
  pub stops : (many : ℕ) → StopsWith (PartsText levels n) left many → StopsWith (PartsText levels count) text many

pub all_left : (levels count : ℕ) (text : List ℕ) (before : List Shape) → 1 ≤ count → AreLeft levels count count text text before before
all_left levels count text before some = record {
  some = some;
  read = λ last after all. all;
  stops = λ many stop. stop;
}

-- where the next of them stops
pub part_stops : (levels count n : ℕ) (text left : List ℕ) (before now : List Shape) (many : ℕ) → 1 ≤ levels → AreLeft levels count n text left before now
    → StopsWith (PartText (levels - 1)) left many → StopsWith (PartsText levels count) text many
part_stops levels count n text left before now many deep are stop = are.stops many (stops_in_part levels n left many deep are.some stop)

-- the next of them is read, and is not the last: the space after it
pub space_stops : (levels count n : ℕ) (x : Shape) (text left rest : List ℕ) (before now : List Shape) (many : ℕ) → 1 ≤ levels → 2 ≤ n
    → AreLeft levels count n text left before now → IsPart (levels - 1) x → left ≡ shape_text x ++ rest
    → StopsWith (ByteText 32) rest many → StopsWith (PartsText levels count) text many
space_stops levels count n x text left rest before now many deep more are is_part is stop =
    let others : 1 ≤ n - 1 = omega (arith, more) in
    let whole : n - 1 + 1 ≡ n = omega (arith, more) in
    are.stops many (subst (λ k. StopsWith (PartsText levels k) left many) whole
    (stops_at_space levels (n - 1) x rest left many deep others is_part is stop))

-- and the others
pub others_left : (levels count n : ℕ) (x : Shape) (text left rest next : List ℕ) (before now later : List Shape) → 1 ≤ levels → 2 ≤ n
    → AreLeft levels count n text left before now → IsPart (levels - 1) x → left ≡ shape_text x ++ rest → later ≡ now ++ x ∷ [] → rest ≡ 32 ∷ next
    → AreLeft levels count (n - 1) text next before later
others_left levels count n x text left rest next before now later deep more are is_part is pushed space =
    let others : 1 ≤ n - 1 = omega (arith, more) in
    let whole : n - 1 + 1 ≡ n = omega (arith, more) in
    record {
      some = others;
      read = λ last after read. are.read last after (more_parts levels n x last rest left now later after deep others is_part is pushed next space read);
      stops = λ many stop. are.stops many (subst (λ k. StopsWith (PartsText levels k) left many) whole
          (stops_in_others levels (n - 1) x next rest left many deep others is_part is space stop));
    }

-- the last of them is read
pub all_read : (levels count n : ℕ) (x : Shape) (text left last : List ℕ) (before now after : List Shape) → 1 ≤ levels → n ≡ 1
    → AreLeft levels count n text left before now → IsPart (levels - 1) x → left ≡ shape_text x ++ last → after ≡ now ++ x ∷ []
    → AreRead levels count text last before after
all_read levels count n x text left last before now after deep one are is_part is pushed =
    are.read last after (last_part levels n x last left now after deep one is_part is pushed)
