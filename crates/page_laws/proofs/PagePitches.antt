-- Each pitch that is written on a page is read as its key, and begins with a letter from a to g.
use Rattle.std.proofs.Common.{◌≡◌, ℕ, ◌<◌, ◌&&◌, Bool, true, false, List, [], ◌∷◌, Option, Some, None, refl, arith}
use Rattle.std.specs.Prelude.{ℤ, pos, negsuc, IfSome, nat_le}
use Rattle.std.specs.List.{list_all}
use Rattle.std.proofs.lemmas.Bool.{and_parts}
use Rattle.std.proofs.lemmas.Int.{ints}
use Rattle.rhythm_base.proofs.NumbersBelow.{all_below, one_below}
use Rattle.derivation.specs.Score.{IsKeySignature}
use Rattle.text_words.proofs.ReadKeys.{read_key, is_key}
use Rattle.lily_writer.specs.Words.{is_lily_pitch_byte}
use Rattle.notation.specs.Names.{first_place}
use Rattle.page_writer.specs.Pitches.{page_pitch}
use Rattle.page_laws.specs.Words.{page_key}

-- it is of the bytes of pitches, and its first one is a letter of a key
abbrev pub is_page_pitch : List ℕ → Bool
is_page_pitch [] = false
is_page_pitch (b ∷ bs) = (nat_le 97 b && nat_le b 103) && list_all is_lily_pitch_byte (b ∷ bs)

abbrev is_read_pitch : Option ℤ → ℕ → Bool
is_read_pitch sf k = is_key k (page_key (page_pitch sf k)) && is_page_pitch (page_pitch sf k)

without_key : all_below (is_read_pitch None) 128 ≡ true
unfolding page_key is_key first_place
without_key = refl

with_sharps : all_below (λ n. all_below (is_read_pitch (Some (pos n))) 128) 8 ≡ true
unfolding page_key is_key first_place
with_sharps = refl

with_flats : all_below (λ n. all_below (is_read_pitch (Some (negsuc n))) 128) 7 ≡ true
unfolding page_key is_key first_place
with_flats = refl

all_of : (sf : Option ℤ) (k : ℕ) → IfSome sf IsKeySignature → k < 128 → is_read_pitch sf k ≡ true
all_of None k is within = one_below (is_read_pitch None) 128 k without_key within
all_of (Some (pos n)) k is within =
    one_below (is_read_pitch (Some (pos n))) 128 k
    (one_below (λ n. all_below (is_read_pitch (Some (pos n))) 128) 8 n with_sharps (omega (arith, ints, is.low, is.high))) within
all_of (Some (negsuc n)) k is within =
    one_below (is_read_pitch (Some (negsuc n))) 128 k
    (one_below (λ n. all_below (is_read_pitch (Some (negsuc n))) 128) 7 n with_flats (omega (arith, ints, is.low, is.high))) within

pub pitch_read : (sf : Option ℤ) (k : ℕ) → IfSome sf IsKeySignature → k < 128 → page_key (page_pitch sf k) ≡ Some k
pitch_read sf k is within =
    read_key k (page_key (page_pitch sf k))
    (and_parts (is_key k (page_key (page_pitch sf k))) (is_page_pitch (page_pitch sf k)) (all_of sf k is within)).0

pub pitch_is : (sf : Option ℤ) (k : ℕ) → IfSome sf IsKeySignature → k < 128 → is_page_pitch (page_pitch sf k) ≡ true
pitch_is sf k is within = (and_parts (is_key k (page_key (page_pitch sf k))) (is_page_pitch (page_pitch sf k)) (all_of sf k is within)).1
