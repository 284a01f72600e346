-- The type of a note, with its dots and its ratio, says its duration.
use Rattle.std.proofs.Common.{◌≡◌, ℕ, ◌+◌, ◌-◌, ◌*◌, ◌/◌, ◌^◌, ◌<◌, ◌≤◌, ◌==◌, ◌&&◌, Bool, true, false, Some, min, refl, sym, ap, ◌∙◌, subst, arith}
use Rattle.std.specs.Prelude.{decimal, if◌then◌else◌, nat_le, nat_lt, position}
use Rattle.std.specs.Str.{bytes_eq}
use Rattle.std.proofs.Math.Nat.{eq_of_mul-eq-mul_left}
use Rattle.std.proofs.lemmas.Bool.{and_parts}
use Rattle.std.proofs.lemmas.Bool.Decides.{nat_tests}
use Rattle.rhythm_base.specs.declared.limits.TheConstants.{MOST_UNITS}
use Rattle.rhythm_base.proofs.NumbersBelow.{all_below, one_below}
use Rattle.durations.specs.declared.value.Recip.{Recip}
use Rattle.durations.specs.declared.value.Recip.TheVariants.{Of, Breve, Long}
use Rattle.durations.specs.declared.value.Value.{Value}
use Rattle.durations.specs.Value.{plain_grid, plain_parts}
use Rattle.text_words.proofs.ReadKeys.{read_key, is_key}
use Rattle.notation.specs.declared.note.Ratio.{Ratio}
use Rattle.notation.specs.Notes.{Group, Note}
use Rattle.notation_laws.specs.Written.{IsHalvedPart, IsWrittenGroup, IsWrittenNote}
use Rattle.musicxml_writer.specs.Values.{finer, part_type, type_text}
use Rattle.xml_laws.specs.Notes.{ReadNote, is_of_value, kinds, xml_number}
use Rattle.xml_laws.proofs.Durations.{at_most, number_read}
use Rattle.durations.proofs.Wide.{some_parts}

-- ---- types

-- how many times finer than it is a ratio is shown
abbrev pub fineness : ℕ → ℕ
fineness n = if nat_lt 1024 n then n / 1024 else 1

abbrev place_of : ℕ → ℕ
place_of halvings = 2 + min halvings 10

abbrev is_placed : ℕ → Bool
is_placed k =
    (is_key (place_of k) (position (bytes_eq (part_type (2 ^ k))) kinds) && (2 ^ place_of k * fineness (2 ^ k) == 4 * 2 ^ k))
    && (nat_le 1 (fineness (2 ^ k)) && nat_le (fineness (2 ^ k)) 32)

all_placed : all_below is_placed 16 ≡ true
unfolding is_key kinds
all_placed = refl

-- a type stands at a place of all types, and a ratio is shown so much finer
pub record IsKind (r : Recip) : Type 0 where
  pub place : ℕ
  pub kind : position (bytes_eq (type_text r)) kinds ≡ Some place
  pub factor : ℕ
  pub some : 1 ≤ factor
  pub few : factor ≤ 32
  pub finer_is : (actual : ℕ) → finer actual r ≡ actual * factor
  pub same : 2 ^ place * factor * plain_parts r ≡ 4 * plain_grid r

times_one : (n : ℕ) → n ≡ n * 1
times_one n = grind arith

part_kind : (n k : ℕ) → k < 16 → n ≡ 2 ^ k → IsKind (Of n)
part_kind n k within is =
    let (first, second) = and_parts _ _ (one_below is_placed 16 k all_placed within) in
    let (kind, whole) = and_parts (is_key (place_of k) (position (bytes_eq (part_type (2 ^ k))) kinds)) _ first in
    let (some, few) = and_parts (nat_le 1 (fineness (2 ^ k))) _ second in
    let same : 2 ^ place_of k * fineness (2 ^ k) ≡ 4 * 2 ^ k = grind (arith, nat_tests, whole) in
    let some_factor : 1 ≤ fineness (2 ^ k) = grind (arith, nat_tests, some) in
    let few_factor : fineness (2 ^ k) ≤ 32 = grind (arith, nat_tests, few) in
    subst (λ n. IsKind (Of n)) (sym is) (record {
      place = place_of k;
      kind = read_key (place_of k) (position (bytes_eq (part_type (2 ^ k))) kinds) kind;
      factor = fineness (2 ^ k);
      some = some_factor;
      few = few_factor;
      finer_is = finer_is (2 ^ k);
      same = sym (times_one (2 ^ place_of k * fineness (2 ^ k))) ∙ same;
    })
  where
    finer_is : (n actual : ℕ) → (if nat_lt 1024 n then actual * (n / 1024) else actual) ≡ actual * fineness n
    finer_is n actual = go (nat_lt 1024 n)
      where
        go : (b : Bool) → (if b then actual * (n / 1024) else actual) ≡ actual * (if b then n / 1024 else 1)
        go true = refl
        go false = times_one actual

pub recip_kind : (r : Recip) → IsHalvedPart r → IsKind r
unfolding kinds
recip_kind (Of n) (k, few, is) = part_kind n k few is
recip_kind Breve is = record {
  place = 1;
  kind = refl;
  factor = 1;
  some = omega arith;
  few = omega arith;
  finer_is = times_one;
  same = refl;
}
recip_kind Long is = record {
  place = 0;
  kind = refl;
  factor = 1;
  some = omega arith;
  few = omega arith;
  finer_is = times_one;
  same = refl;
}

-- ---- the value of a note

-- what is read of a value
abbrev pub valued : ReadNote → Ratio → Value → ReadNote
valued m ratio v = record m { kind = type_text v.recip; dots = v.dots; actual = finer ratio.actual v.recip; normal = ratio.normal }

-- a ratio that can be read: of one in the time of one it is not written
pub record IsShown (ratio : Ratio) (v : Value) : Type 0 where
  pub actual : xml_number (decimal (finer ratio.actual v.recip)) ≡ Some (finer ratio.actual v.recip)
  pub normal : xml_number (decimal ratio.normal) ≡ Some ratio.normal
  pub some : 1 ≤ finer ratio.actual v.recip
  pub some_normal : 1 ≤ ratio.normal
  pub few_normal : ratio.normal ≤ finer ratio.actual v.recip

ring_first : (len p d a f q : ℕ) → q * (len * (p * d * (a * f))) ≡ len * (d * a) * (p * f * q)
ring_first len p d a f q = grind arith

ring_second : (len d a g : ℕ) → len * (d * a) * (4 * g) ≡ 4 * (len * (g * d * a))
ring_second len d a g = grind arith

ring_third : (q m w : ℕ) → 4 * (q * m * w) ≡ q * (4 * m * w)
ring_third q m w = grind arith

module _ (r : ℕ) (units : 1 ≤ r) (few : r ≤ MOST_UNITS) (g : Group) (n : Note) (group : IsWrittenGroup r g)
    (is : IsWrittenNote r g.ratio n) where
  pub value_shown : IsShown g.ratio n.value
  value_shown =
      let kind = recip_kind n.value.recip is.value.part in
      let actual = group.few_actual in
      let below = group.few_normal in
      let most : g.ratio.actual * kind.factor ≤ 960 * 32 = at_most g.ratio.actual kind.factor 960 32 actual kind.few in
      let least : g.ratio.actual * 1 ≤ g.ratio.actual * kind.factor = at_most g.ratio.actual 1 g.ratio.actual kind.factor
      (omega arith) kind.some in
      let one = times_one g.ratio.actual in
      let same = kind.finer_is g.ratio.actual in
      let some_a : 1 ≤ finer g.ratio.actual n.value.recip = let h = group.some_actual in omega (arith, least, one, same, h) in
      record {
        actual = number_read (finer g.ratio.actual n.value.recip) some_a (omega (arith, same, most));
        normal = number_read g.ratio.normal group.some_normal (omega (arith, below, actual));
        some = some_a;
        some_normal = group.some_normal;
        few_normal = omega (arith, below, least, one, same);
      }

  pub value_fits : (quarter : ℕ) → 4 * quarter ≡ 64 * r → (m : ReadNote)
      → is_of_value quarter (valued m g.ratio n.value) n.duration (position (bytes_eq (type_text n.value.recip)) kinds) ≡ true
  value_fits quarter whole m =
      let kind = recip_kind n.value.recip is.value.part in
      let v = n.value in
      let a = g.ratio.actual in
      let d = 2 ^ v.dots in
      let pp = plain_parts v.recip in
      let times = 2 * d - 1 in
      let all : pp * (n.duration * (2 ^ kind.place * d * (a * kind.factor))) ≡ pp * (4 * times * (64 * r * g.ratio.normal)) =
      ring_first n.duration (2 ^ kind.place) d a kind.factor pp ∙ ap (λ x. n.duration * (d * a) * x) kind.same
      ∙ ring_second n.duration d a (plain_grid v.recip) ∙ ap (λ x. 4 * x) is.long ∙ ring_third pp times (64 * r * g.ratio.normal) in
      let one : n.duration * (2 ^ kind.place * d * (a * kind.factor))
      ≡ 4 * times * (64 * r * g.ratio.normal) = eq_of_mul-eq-mul_left pp (some_parts v.recip) _ _ all in
      let same : n.duration * (2 ^ kind.place * d * finer a v.recip) ≡ 4 * times * (4 * quarter * g.ratio.normal) =
      ap (λ f. n.duration * (2 ^ kind.place * d * f)) (kind.finer_is a) ∙ one ∙ ap (λ w. 4 * times * (w * g.ratio.normal)) (sym whole) in
      ap (is_of_value quarter (valued m g.ratio v) n.duration) kind.kind ∙ tested _ _ same
    where
      tested : (x y : ℕ) → x ≡ y → (x == y) ≡ true
      tested x y e = grind (arith, nat_tests, e)
