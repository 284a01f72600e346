-- The lines of all places of a bar.
use Rattle.std.proofs.Common.{◌≡◌, ℕ, zero, suc, ◌*◌, ◌<◌, ◌≤◌, ◌==◌, Bool, true, false, List, [], ◌∷◌, ◌++◌, length, map, max, refl, sym, ap, ap₂, ◌∙◌, subst, arith, ◌⊎◌, inl, inr, Option, Some}
use Rattle.std.specs.Prelude.{Contains, IsSome, if◌then◌else◌, cond, fold}
use Rattle.std.specs.List.{flat_map}
use Rattle.std.specs.List.Sorted.{IsStrictlyIncreasing}
use Rattle.std.proofs.lemmas.Bool.Decides.{nat_tests}
use Rattle.rhythm_base.specs.Lists.{Each}
use Rattle.kern_writer.proofs.RisingPlaces.{contains_cases, contains_here, contains_none, contains_there, rising_above}
use Rattle.text_words.specs.declared.time_signature.TimeSignature.{TimeSignature}
use Rattle.kern_reader.specs.declared.token.Token.{Token}
use Rattle.kern_reader.specs.Columns.{columns_of, open_keys, place, waiting}
use Rattle.kern_laws.specs.Lines.{KernLine}
use Rattle.kern_laws.proofs.ScoreLines.{AreSaidPlaces, Data, Said, grace_lines, grace_lines_at, grace_or_null, graces_or_none, lines_at, main_or_null, said_at}
use Rattle.kern_laws.proofs.LineLists.{Every, HasOne, one_of}
use Rattle.kern_laws.proofs.LineTests.{IsInside}
use Rattle.kern_laws.proofs.LineWalk.{Walk, walk_append}
use Rattle.kern_laws.proofs.PlaceLines.{place_walk, saids_of}
use Rattle.kern_laws.proofs.PlaceParts.{Ahead, Fits, Frame, IsAt, Part, clean, next_place, open_after, part_after, saids_after, spelled}
use Rattle.kern_laws.proofs.PlaceSteps.{AtPlace, here, later, at_place, said_within}
use Rattle.rhythm_base.proofs.OrderedLists.{rise_later}

-- ---- the lines at a place depend on what is said there alone

abbrev Same : ℕ → List Said → List Said → Type 0
Same z a b = said_at z a ≡ said_at z b

same_map : {Z : Type 0} (z : ℕ) (F : Option Said → Z) (xs ys : List (List Said)) → Each (Same z) xs ys → map (λ s. F (said_at z s)) xs ≡ map (λ s. F (said_at z s)) ys
same_map z F [] ys each = sym (ap (map (λ s. F (said_at z s))) each)
same_map z F (x ∷ xs) [] each = absurd each
same_map z F (x ∷ xs) (y ∷ ys) (own, rest) = ap₂ ◌∷◌ (ap F own) (same_map z F xs ys rest)

same_most : (z a : ℕ) (xs ys : List (List Said)) → Each (Same z) xs ys
    → fold (λ n saids. max n (length (graces_or_none (said_at z saids)))) a xs ≡ fold (λ n saids. max n (length (graces_or_none (said_at z saids)))) a ys
same_most z a [] ys each = sym (ap (fold (λ n saids. max n (length (graces_or_none (said_at z saids)))) a) each)
same_most z a (x ∷ xs) [] each = absurd each
same_most z a (x ∷ xs) (y ∷ ys) (own, rest) =
    same_most z (max a (length (graces_or_none (said_at z x)))) xs ys rest
    ∙ ap (λ o. fold (λ n saids. max n (length (graces_or_none (said_at z saids)))) (max a (length (graces_or_none o))) ys) own

same_graces : (z left : ℕ) (xs ys : List (List Said)) → Each (Same z) xs ys → grace_lines z xs left ≡ grace_lines z ys left
same_graces z zero xs ys each = refl
same_graces z (suc left) xs ys each = ap₂ (λ ts ls. Data ts ∷ ls) (same_map z (λ o. grace_or_null (suc left) (graces_or_none o)) xs ys each) (same_graces z left xs ys each)

same_lines : (z : ℕ) (xs ys : List (List Said)) → Each (Same z) xs ys → lines_at xs z ≡ lines_at ys z
same_lines z xs ys each =
    ap₂ (λ ls ts. ls ++ Data ts ∷ []) (ap (grace_lines z xs) (same_most z 0 xs ys each) ∙ same_graces z (grace_lines_at z ys) xs ys each) (same_map z main_or_null xs ys each)

-- what is said at another place is still said
said_still : (x z : ℕ) (saids : List Said) → x < z → said_at z (saids_after x saids) ≡ said_at z saids
said_still x z [] less = refl
said_still x z (s ∷ saids) less = go (s.place == x) refl
  where
    go : (b : Bool) → (s.place == x) ≡ b → said_at z (if b then saids else s ∷ saids) ≡ said_at z (s ∷ saids)
    go true e = let other : (s.place == z) ≡ false = grind (arith, nat_tests, e, less) in sym (ap (λ b. cond b (Some s) (said_at z saids)) other)
    go false e = refl

still_same : (x z : ℕ) (parts : List Part) → x < z → Each (Same z) (saids_of parts) (saids_of (map (part_after x) parts))
still_same x z [] less = refl
still_same x z (p ∷ parts) less = (sym (said_still x z p.saids less), still_same x z parts less)

lines_still : (x : ℕ) (places : List ℕ) (parts : List Part) → ((z : ℕ) → Contains places z → x < z)
    → flat_map (lines_at (saids_of parts)) places ≡ flat_map (lines_at (saids_of (map (part_after x) parts))) places
lines_still x [] parts above = refl
lines_still x (z ∷ places) parts above =
    ap₂ ◌++◌ (same_lines z (saids_of parts) (saids_of (map (part_after x) parts)) (still_same x z parts (above z (contains_here z places))))
    (lines_still x places parts (λ y has. above y (contains_there z y places has)))

-- ---- the places at which something is said

record AreStill (parts : List Part) (places : List ℕ) : Type 0 where
  rise : IsStrictlyIncreasing places
  all : Every (λ p. (z : ℕ) → IsSome (said_at z p.saids) → Contains places z) parts
  one : (z : ℕ) → Contains places z → HasOne (λ p. IsSome (said_at z p.saids)) parts

every_of : (Q : List Said → Type 0) (parts : List Part) → ((saids : List Said) → Contains (saids_of parts) saids → Q saids) → Every (λ p. Q p.saids) parts
every_of Q [] has = tt
every_of Q (p ∷ parts) has = (has p.saids (contains_here p.saids (saids_of parts)), every_of Q parts (λ saids c. has saids (contains_there p.saids saids (saids_of parts) c)))

one_said : (Q : List Said → Type 0) (parts : List Part) → HasOne Q (saids_of parts) → HasOne (λ p. Q p.saids) parts
one_said Q [] one = absurd one
one_said Q (p ∷ parts) (inl h) = inl h
one_said Q (p ∷ parts) (inr h) = inr (one_said Q parts h)

still_places : (parts : List Part) (places : List ℕ) → AreSaidPlaces (saids_of parts) places → AreStill parts places
still_places parts places are = record {
  rise = are.rise;
  all = every_of (λ saids. (z : ℕ) → IsSome (said_at z saids) → Contains places z) parts (λ saids c z some. (are.exactly z).1 (saids, c, some));
  one = λ z has. let (saids, c, some) = (are.exactly z).0 has in one_said (λ saids. IsSome (said_at z saids)) parts (one_of (λ saids. IsSome (said_at z saids)) saids (saids_of parts) c some);
}

-- ---- the walk

-- at the end of the bar
pub record IsFull (f : Frame) (Later : Ahead) (p : Part) (column : List Token) : Type 0 where
  pub here : place f.grid column ≡ f.times * f.end
  pub waits : length (waiting column) ≡ 0
  pub later : Later p.voice p.target (open_keys column) (clean column)

module _ (n : ℕ) (f : Frame) (Later : Ahead) (signature : TimeSignature) (some : 1 ≤ f.grid) (few : f.grid ≤ 61440) (often : 1 ≤ f.times) where
  all_full : (parts : List Part) (columns : List (List Token)) → Every (λ p. (z : ℕ) → IsSome (said_at z p.saids) → Contains [] z) parts → Each (IsAt f Later) parts columns → Each (IsFull f Later) parts columns
  all_full [] columns none each = each
  all_full (p ∷ parts) [] none each = absurd each
  all_full (p ∷ parts) (c ∷ columns) (no_place, rest) (own, others) = (go p.saids refl, all_full parts columns rest others)
    where
      go : (saids : List Said) → p.saids ≡ saids → IsFull f Later p c
      go [] e = record {
        here = own.here ∙ ap (λ ss. f.times * next_place f ss) e;
        waits = own.waits;
        later = subst (λ ss. Later p.voice p.target (open_after (open_keys c) ss) (spelled ss (clean c))) e own.later;
      }
      go (s ∷ saids) e =
          let yes_here : (s.place == s.place) ≡ true = grind (arith, nat_tests) in
          let said : said_at s.place p.saids ≡ Some s = ap (said_at s.place) e ∙ ap (λ b. cond b (Some s) (said_at s.place saids)) yes_here in
          absurd (contains_none s.place (no_place s.place (subst (λ o. IsSome o) (sym said) refl)))

  -- each next value is at the first place or later
  low_parts : (x : ℕ) (places : List ℕ) (parts : List Part) (columns : List (List Token)) → IsStrictlyIncreasing (x ∷ places) → x < f.end
      → Every (λ p. (z : ℕ) → IsSome (said_at z p.saids) → Contains (x ∷ places) z) parts → Each (IsAt f Later) parts columns → Every (λ p. x ≤ next_place f p.saids) parts
  low_parts x places [] columns rise within all each = tt
  low_parts x places (p ∷ parts) [] rise within all each = absurd each
  low_parts x places (p ∷ parts) (c ∷ columns) rise within (own, rest) (one, others) = (go p.saids refl, low_parts x places parts columns rise within rest others)
    where
      go : (saids : List Said) → p.saids ≡ saids → x ≤ next_place f p.saids
      go [] e = let same : next_place f p.saids ≡ f.end = ap (next_place f) e in omega (arith, same, within)
      go (s ∷ saids) e =
          let same : next_place f p.saids ≡ s.place = ap (next_place f) e in
          let yes_here : (s.place == s.place) ≡ true = grind (arith, nat_tests) in
          let said : said_at s.place p.saids ≡ Some s = ap (said_at s.place) e ∙ ap (λ b. cond b (Some s) (said_at s.place saids)) yes_here in
          above same (contains_cases x s.place places (own s.place (subst (λ o. IsSome o) (sym said) refl)))
        where
          above : next_place f p.saids ≡ s.place → (x ≡ s.place) ⊎ Contains places s.place → x ≤ next_place f p.saids
          above same (inl e) = omega (arith, same, e)
          above same (inr has) = let less = rising_above x s.place places rise has in omega (arith, same, less)

  within_end : (x : ℕ) (parts : List Part) (columns : List (List Token)) → Each (IsAt f Later) parts columns → HasOne (λ p. IsSome (said_at x p.saids)) parts → x < f.end
  within_end x [] columns each one = absurd one
  within_end x (p ∷ parts) [] each one = absurd each
  within_end x (p ∷ parts) (c ∷ columns) (own, rest) (inl said) = (said_within f (open_keys c) p.saids x own.fits said).1
  within_end x (p ∷ parts) (c ∷ columns) (own, rest) (inr one) = within_end x parts columns rest one

  one_here : (x : ℕ) (parts : List Part) (columns : List (List Token)) → Each (IsAt f Later) parts columns → Every (λ p. x ≤ next_place f p.saids) parts
      → HasOne (λ p. IsSome (said_at x p.saids)) parts → HasOne (λ p. next_place f p.saids ≡ x) parts
  one_here x [] columns each low one = absurd one
  one_here x (p ∷ parts) [] each low one = absurd each
  one_here x (p ∷ parts) (c ∷ columns) (own, rest) (above, others) (inl said) = inl (let low = (said_within f (open_keys c) p.saids x own.fits said).0 in omega (arith, low, above))
  one_here x (p ∷ parts) (c ∷ columns) (own, rest) (above, others) (inr one) = inr (one_here x parts columns rest others one)

  all_after : (x : ℕ) (places : List ℕ) (parts : List Part) (columns : List (List Token)) → x < f.end → Each (IsAt f Later) parts columns → Every (λ p. x ≤ next_place f p.saids) parts
      → Every (λ p. (z : ℕ) → IsSome (said_at z p.saids) → Contains (x ∷ places) z) parts → Every (λ p. (z : ℕ) → IsSome (said_at z p.saids) → Contains places z) (map (part_after x) parts)
  all_after x places [] columns within each low all = tt
  all_after x places (p ∷ parts) [] within each low all = absurd each
  all_after x places (p ∷ parts) (c ∷ columns) within (own, rest) (above, others) (has, more) =
      (λ z said. go (at_place f (open_keys c) p.saids x own.fits above within) z said, all_after x places parts columns within rest others more)
    where
      past : (z : ℕ) → x < z → Contains (x ∷ places) z → Contains places z
      past z less found = at (contains_cases x z places found)
        where
          at : (x ≡ z) ⊎ Contains places z → Contains places z
          at (inl e) = absurd (omega (arith, e, less))
          at (inr c) = c

      go : AtPlace f p.saids x → (z : ℕ) → IsSome (said_at z (saids_after x p.saids)) → Contains places z
      go (here s more same stands_at said after) z found =
          let fits : Fits f (open_keys c) (s ∷ more) = subst (Fits f (open_keys c)) same own.fits in
          let later_said : IsSome (said_at z more) = subst (λ ss. IsSome (said_at z ss)) after found in
          let low = (said_within f _ more z fits.2 later_said).0 in
          let next = fits.1 in
          let wide = fits.0.wide in
          let less : x < z = omega (arith, low, next, wide, stands_at) in
          past z less (has z (subst (λ o. IsSome o) (said_still x z p.saids less) found))
      go (later above none after) z found =
          let said : IsSome (said_at z p.saids) = subst (λ ss. IsSome (said_at z ss)) after found in
          let low = (said_within f (open_keys c) p.saids z own.fits said).0 in
          past z (omega (arith, low, above)) (has z said)

  one_after : (x z : ℕ) (parts : List Part) → x < z → HasOne (λ p. IsSome (said_at z p.saids)) parts → HasOne (λ p. IsSome (said_at z p.saids)) (map (part_after x) parts)
  one_after x z [] less one = absurd one
  one_after x z (p ∷ parts) less (inl said) = inl (subst (λ o. IsSome o) (sym (said_still x z p.saids less)) said)
  one_after x z (p ∷ parts) less (inr one) = inr (one_after x z parts less one)

  full_before : (x : ℕ) (parts : List Part) (columns : List (List Token)) → Each (IsFull f Later) (map (part_after x) parts) columns → Each (IsFull f Later) parts columns
  full_before x [] columns each = each
  full_before x (p ∷ parts) [] each = absurd each
  full_before x (p ∷ parts) (c ∷ columns) (own, rest) = (record { here = own.here; waits = own.waits; later = own.later }, full_before x parts columns rest)

  places_walk : (places : List ℕ) (parts : List Part) (before : List KernLine) → AreStill parts places → IsInside n f.grid signature before → Each (IsAt f Later) parts (columns_of before)
      → (after : List KernLine) × Walk n before (flat_map (lines_at (saids_of parts)) places) after × IsInside n f.grid signature after × Each (IsFull f Later) parts (columns_of after)
  places_walk [] parts before still inside each = (before, refl, inside, all_full parts (columns_of before) still.all each)
  places_walk (x ∷ places) parts before still inside each =
      let one = still.one x (contains_here x places) in
      let within = within_end x parts (columns_of before) each one in
      let low = low_parts x places parts (columns_of before) still.rise within still.all each in
      let (mid, walk, inside_mid, each_mid) = place_walk n f Later signature some few often x within parts before inside each low (one_here x parts (columns_of before) each low one) in
      let above : (z : ℕ) → Contains places z → x < z = λ z has. rising_above x z places still.rise has in
      let next : AreStill (map (part_after x) parts) places = record {
        rise = rise_later x places still.rise;
        all = all_after x places parts (columns_of before) within each low still.all;
        one = λ z has. one_after x z parts (above z has) (still.one z (contains_there x z places has));
      } in
      let (after, more, inside_after, full) = places_walk places (map (part_after x) parts) mid next inside_mid each_mid in
      let rest = subst (λ ls. Walk n mid ls after) (sym (lines_still x places parts above)) more in
      (after, walk_append n before (lines_at (saids_of parts) x) mid (flat_map (lines_at (saids_of parts)) places) after walk rest, inside_after, full_before x parts (columns_of after) full)

  pub data_walk : (places : List ℕ) (parts : List Part) (before : List KernLine) → AreSaidPlaces (saids_of parts) places → IsInside n f.grid signature before → Each (IsAt f Later) parts (columns_of before)
      → (after : List KernLine) × Walk n before (flat_map (lines_at (saids_of parts)) places) after × IsInside n f.grid signature after × Each (IsFull f Later) parts (columns_of after)
  data_walk places parts before are inside each = places_walk places parts before (still_places parts places are) inside each
