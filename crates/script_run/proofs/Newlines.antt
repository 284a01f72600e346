-- The lines of bytes with one byte more.
use Rattle.std.proofs.Common.{◌≡◌, ℕ, ◌-◌, ◌<◌, arith, List, [], ◌∷◌, ◌++◌, length, take, refl, sym, ap, ap₂, ◌∙◌, Bool, true, false, append_assoc, append-nil, length-append, Some}
use Rattle.std.proofs.lemmas.Bool.Decides.{nat_tests}
use Rattle.std.specs.Prelude.{◌==◌, cond, slice_get, unwrap_or}
use Rattle.std.specs.List.{onto_first, slice_split}
use Rattle.std.proofs.lemmas.List.Splits.{slice_split-cons_yes, length-slice_split}
use Rattle.std.proofs.Math.Seq.{take-append_seam, get_or-append_seam}
use Rattle.std.proofs.lemmas.Option.{slice_get-get_or}
use Rattle.rhythm_base.specs.Lists.{last_of}
use Rattle.edit_script.specs.ScriptLines.{between_newlines, open_line, script_lines}
use Rattle.script_run.specs.Bytes.{begun_line, whole_lines}

-- the last part with one byte more
abbrev onto_end : ℕ → List (List ℕ) → List (List ℕ)
onto_end x [] = []
onto_end x (part ∷ []) = (part ++ x ∷ []) ∷ []
onto_end x (part ∷ next ∷ parts) = part ∷ onto_end x (next ∷ parts)

onto_end_at : (x : ℕ) (parts : List (List ℕ)) (part : List ℕ) → onto_end x (parts ++ part ∷ []) ≡ parts ++ (part ++ x ∷ []) ∷ []
onto_end_at x [] part = refl
onto_end_at x (first ∷ []) part = refl
onto_end_at x (first ∷ next ∷ parts) part = ap (λ l. first ∷ l) (onto_end_at x (next ∷ parts) part)

first_more : (y : ℕ) (parts more : List (List ℕ)) → 0 < length parts → onto_first y (parts ++ more) ≡ onto_first y parts ++ more
first_more y [] more some = absurd (omega arith)
first_more y (part ∷ parts) more some = refl

first_end : (y x : ℕ) (parts : List (List ℕ)) → 0 < length parts → onto_first y (onto_end x parts) ≡ onto_end x (onto_first y parts)
first_end y x [] some = absurd (omega arith)
first_end y x (part ∷ []) some = refl
first_end y x (part ∷ next ∷ parts) some = refl

cons_end : (x : ℕ) (parts : List (List ℕ)) → 0 < length parts → [] ∷ onto_end x parts ≡ onto_end x ([] ∷ parts)
cons_end x [] some = absurd (omega arith)
cons_end x (part ∷ parts) some = refl

module _ (p : ℕ → Bool) where
  some_part : (xs : List ℕ) → 0 < length (slice_split p xs)
  some_part xs = let e = length-slice_split p xs in omega (arith, e)

  split_yes : (xs : List ℕ) (x : ℕ) → p x ≡ true → slice_split p (xs ++ x ∷ []) ≡ slice_split p xs ++ [] ∷ []
  split_yes [] x e = slice_split-cons_yes p x [] e
  split_yes (y ∷ ys) x e = go (p y) (split_yes ys x e)
    where
      go : (b : Bool) → slice_split p (ys ++ x ∷ []) ≡ slice_split p ys ++ [] ∷ []
          → cond b ([] ∷ slice_split p (ys ++ x ∷ [])) (onto_first y (slice_split p (ys ++ x ∷ []))) ≡ cond b ([] ∷ slice_split p ys) (onto_first y (slice_split p ys)) ++ [] ∷ []
      go true again = ap (λ l. [] ∷ l) again
      go false again = ap (onto_first y) again ∙ first_more y (slice_split p ys) ([] ∷ []) (some_part ys)

  split_no : (xs : List ℕ) (x : ℕ) → p x ≡ false → slice_split p (xs ++ x ∷ []) ≡ onto_end x (slice_split p xs)
  split_no [] x e = ap (λ b. cond b ([] ∷ [] ∷ []) ((x ∷ []) ∷ [])) e
  split_no (y ∷ ys) x e = go (p y) (split_no ys x e)
    where
      go : (b : Bool) → slice_split p (ys ++ x ∷ []) ≡ onto_end x (slice_split p ys)
          → cond b ([] ∷ slice_split p (ys ++ x ∷ [])) (onto_first y (slice_split p (ys ++ x ∷ []))) ≡ onto_end x (cond b ([] ∷ slice_split p ys) (onto_first y (slice_split p ys)))
      go true again = ap (λ l. [] ∷ l) again ∙ cons_end x (slice_split p ys) (some_part ys)
      go false again = ap (onto_first y) again ∙ first_end y x (slice_split p ys) (some_part ys)

-- a newline ends the line that was begun
pub newline_more : (bytes : List ℕ) (lines : List (List ℕ)) (begun : List ℕ) → between_newlines bytes ≡ lines ++ begun ∷ []
    → between_newlines (bytes ++ 10 ∷ []) ≡ (lines ++ begun ∷ []) ++ [] ∷ []
newline_more bytes lines begun e = split_yes (λ b. b == 10) bytes 10 refl ∙ ap (λ l. l ++ [] ∷ []) e

-- another byte joins it
pub byte_more : (bytes : List ℕ) (lines : List (List ℕ)) (begun : List ℕ) (byte : ℕ) → (byte == 10) ≡ false → between_newlines bytes ≡ lines ++ begun ∷ []
    → between_newlines (bytes ++ byte ∷ []) ≡ lines ++ (begun ++ byte ∷ []) ∷ []
byte_more bytes lines begun byte other e = split_no (λ b. b == 10) bytes byte other ∙ ap (onto_end byte) e ∙ onto_end_at byte lines begun

count_front : (lines : List (List ℕ)) (begun : List ℕ) → length (lines ++ begun ∷ []) - 1 ≡ length lines
count_front lines begun = let e = length-append lines (begun ∷ []) in omega (arith, e)

take_front : (lines : List (List ℕ)) (begun : List ℕ) → take (length (lines ++ begun ∷ []) - 1) (lines ++ begun ∷ []) ≡ lines
take_front lines begun = ap (λ n. take n (lines ++ begun ∷ [])) (count_front lines begun) ∙ take-append_seam lines (begun ∷ [])

last_end : (lines : List (List ℕ)) (begun : List ℕ) → last_of (lines ++ begun ∷ []) ≡ Some begun
last_end lines begun =
    let e = length-append lines (begun ∷ []) in
    ap (λ n. slice_get (lines ++ begun ∷ []) n) (count_front lines begun)
    ∙ slice_get-get_or (lines ++ begun ∷ []) (length lines) [] (omega (arith, e)) ∙ ap Some (get_or-append_seam lines begun [] [])

pub whole_are : (bytes : List ℕ) (lines : List (List ℕ)) (begun : List ℕ) → between_newlines bytes ≡ lines ++ begun ∷ [] → whole_lines bytes ≡ lines
whole_are bytes lines begun e = ap (λ l. take (length l - 1) l) e ∙ take_front lines begun

pub begun_is : (bytes : List ℕ) (lines : List (List ℕ)) (begun : List ℕ) → between_newlines bytes ≡ lines ++ begun ∷ [] → begun_line bytes ≡ begun
begun_is bytes lines begun e = ap (λ l. unwrap_or (last_of l) []) e ∙ ap (λ o. unwrap_or o []) (last_end lines begun)

pub lines_are : (bytes : List ℕ) (lines : List (List ℕ)) (begun : List ℕ) → between_newlines bytes ≡ lines ++ begun ∷ [] → script_lines bytes ≡ lines ++ open_line (Some begun)
lines_are bytes lines begun e =
    ap (λ l. take (length l - 1) l ++ open_line (last_of l)) e ∙ ap (λ l. l ++ open_line (last_of (lines ++ begun ∷ []))) (take_front lines begun)
    ∙ ap (λ o. lines ++ open_line o) (last_end lines begun)

-- ---- the lines of bytes with more bytes after them

-- the lines before the one that was begun stay, and that one begins as it did
pub record GoesOn (bytes : List ℕ) (lines : List (List ℕ)) (begun : List ℕ) : Type 0 where
  pub joined : List ℕ
  pub later : List (List ℕ)
  pub split : between_newlines bytes ≡ lines ++ (begun ++ joined) ∷ later

pub goes_on : (bytes : List ℕ) (lines : List (List ℕ)) (begun more : List ℕ) → between_newlines bytes ≡ lines ++ begun ∷ [] → GoesOn (bytes ++ more) lines begun
goes_on bytes lines begun [] split =
    record { joined = []; later = []; split = ap between_newlines (append-nil bytes) ∙ split ∙ ap (λ l. lines ++ l ∷ []) (sym (append-nil begun)) }
goes_on bytes lines begun (byte ∷ more) split =
    go (byte == 10) refl (λ after. goes_on (bytes ++ byte ∷ []) (lines ++ begun ∷ []) [] more after) (λ after. goes_on (bytes ++ byte ∷ []) lines (begun ++ byte ∷ []) more after)
  where
    moved : (bytes ++ byte ∷ []) ++ more ≡ bytes ++ byte ∷ more
    moved = append_assoc bytes (byte ∷ []) more

    go : (b : Bool) → (byte == 10) ≡ b
        → (between_newlines (bytes ++ byte ∷ []) ≡ (lines ++ begun ∷ []) ++ [] ∷ [] → GoesOn ((bytes ++ byte ∷ []) ++ more) (lines ++ begun ∷ []) [])
        → (between_newlines (bytes ++ byte ∷ []) ≡ lines ++ (begun ++ byte ∷ []) ∷ [] → GoesOn ((bytes ++ byte ∷ []) ++ more) lines (begun ++ byte ∷ []))
        → GoesOn (bytes ++ byte ∷ more) lines begun
    go true is ended joins =
        let newline : byte ≡ 10 = grind (arith, nat_tests, is) in
        let next = ended (ap (λ b. between_newlines (bytes ++ b ∷ [])) newline ∙ newline_more bytes lines begun split) in
        record {
          joined = [];
          later = next.joined ∷ next.later;
          split = ap between_newlines (sym moved) ∙ next.split ∙ append_assoc lines (begun ∷ []) (next.joined ∷ next.later)
              ∙ ap (λ l. lines ++ l ∷ (next.joined ∷ next.later)) (sym (append-nil begun));
        }
    go false is ended joins =
        let next = joins (byte_more bytes lines begun byte is split) in
        record {
          joined = byte ∷ next.joined;
          later = next.later;
          split = ap between_newlines (sym moved) ∙ next.split ∙ ap (λ l. lines ++ l ∷ next.later) (append_assoc begun (byte ∷ []) next.joined);
        }

-- whole lines, and the one that was begun
pub lines_split : (bytes : List ℕ) → between_newlines bytes ≡ whole_lines bytes ++ begun_line bytes ∷ []
lines_split bytes =
    let apart = last_apart (between_newlines bytes) (some_part (λ b. b == 10) bytes) in
    apart.2 ∙ ap₂ (λ l b. l ++ b ∷ []) (sym (whole_are bytes apart.0 apart.1 apart.2)) (sym (begun_is bytes apart.0 apart.1 apart.2))
  where
    last_apart : (parts : List (List ℕ)) → 0 < length parts → (front : List (List ℕ)) × (last : List ℕ) × (parts ≡ front ++ last ∷ [])
    last_apart [] some = absurd (omega (arith, some))
    last_apart (part ∷ []) some = ([], part, refl)
    last_apart (part ∷ next ∷ parts) some =
        let later = last_apart (next ∷ parts) (omega arith) in (part ∷ later.0, later.1, ap (λ l. part ∷ l) later.2)
