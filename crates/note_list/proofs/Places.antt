-- The order of notes by channel, onset and key.
use Rattle.std.proofs.Common.{◌≡◌, false, ◌⊎◌, refl, inl, inr, arith}
use Rattle.std.proofs.lemmas.Bool.Decides.{nat_tests}
use Rattle.std.specs.Ordering.{is_lt, nat_cmp}
use Rattle.std.specs.declared.cmp.Ordering.{Ordering}
use Rattle.std.specs.declared.cmp.Ordering.TheVariants.{Less, Equal, Greater}
use Rattle.std.specs.Cmp.Lexicographic.{slice_cmp}
use Rattle.rhythm_base.specs.declared.note.Note.{Note}
use Rattle.rhythm_base.specs.Performance.{place_of_note}
use Rattle.rhythm_base.proofs.NotePlaces.{ArePlacedAlike}

abbrev pub IsBefore : Note → Note → Type 0
IsBefore m n = slice_cmp nat_cmp (place_of_note m) (place_of_note n) ≡ Less

pub not_before_itself : (m n : Note) → ArePlacedAlike m n → IsBefore m n → ⊥
not_before_itself m n same h = grind (arith, nat_tests)

pub not_both : (m n : Note) → IsBefore m n → IsBefore n m → ⊥
not_both m n h k = grind (arith, nat_tests)

pub before_alike : (l m n : Note) → IsBefore l m → ArePlacedAlike m n → IsBefore l n
before_alike l m n h same = grind (arith, nat_tests)

abbrev pub Follows : Note → Note → Type 0
Follows m n = IsBefore m n ⊎ ArePlacedAlike m n

pub follows : (m n : Note) → is_lt (slice_cmp nat_cmp (place_of_note n) (place_of_note m)) ≡ false → Follows m n
follows m n h = go (slice_cmp nat_cmp (place_of_note m) (place_of_note n)) refl
  where
    go : (o : Ordering) → slice_cmp nat_cmp (place_of_note m) (place_of_note n) ≡ o → Follows m n
    go Less e = inl e
    go Equal e = inr (record { channel = grind (arith, nat_tests); onset = grind (arith, nat_tests); key = grind (arith, nat_tests) })
    go Greater e = absurd (grind (arith, nat_tests))
