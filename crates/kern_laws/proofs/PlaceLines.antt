-- The lines at a place, after those before it.
use Rattle.std.proofs.Common.{◌≡◌, ℕ, zero, suc, ◌*◌, ◌<◌, ◌≤◌, Bool, true, false, ◌||◌, List, [], ◌∷◌, length, map, max, refl, sym, ap, ap₂, ◌∙◌, subst, arith, ◌⊎◌, inl, inr}
use Rattle.std.specs.Prelude.{nat_lt, fold}
use Rattle.std.specs.List.{list_any, zip}
use Rattle.std.proofs.Math.Nat.{mul-le-mul_left}
use Rattle.std.proofs.lemmas.Bool.{le-ltb, ltb-false, ltb-true}
use Rattle.rhythm_base.specs.Lists.{Each}
use Rattle.text_words.specs.declared.time_signature.TimeSignature.{TimeSignature}
use Rattle.kern_reader.specs.declared.token.Token.{Token}
use Rattle.kern_reader.specs.Columns.{add_token, columns_of, open_keys, place}
use Rattle.kern_reader.specs.Faults.{is_grace}
use Rattle.kern_laws.specs.Lines.{KernLine}
use Rattle.kern_laws.proofs.ScoreLines.{Data, Said, grace_lines, grace_lines_at, grace_or_null, graces_or_none, lines_at, main_line, main_or_null, said_at}
use Rattle.kern_laws.proofs.GraceSteps.{grace_heard, gracing_begins, gracing_next, main_heard, main_next}
use Rattle.kern_laws.proofs.LineLists.{Every, HasOne, each_second, one_weaker}
use Rattle.kern_laws.proofs.LineTests.{IsInside, data_good}
use Rattle.kern_laws.proofs.LineWalk.{Walk, walk_append}
use Rattle.kern_laws.proofs.PlaceParts.{Ahead, Fits, Frame, IsAt, IsGracing, IsHeard, Part, graces_at, next_place, part_after}
use Rattle.kern_laws.proofs.PlaceSteps.{AtPlace, here, later, at_place, not_grace}

-- what the voices still say
abbrev pub saids_of : List Part → List (List Said)
saids_of parts = map (λ p. p.saids) parts

each_said : {Z : Type 0} (R : Part → List Token → Type 0) (S : Z → List Token → Type 0) (F : List Said → Z) (parts : List Part) (columns : List (List Token))
    → ((p : Part) (c : List Token) → R p c → S (F p.saids) c) → Each R parts columns → Each S (map F (saids_of parts)) columns
each_said R S F [] columns weaker each = each
each_said R S F (p ∷ parts) [] weaker each = absurd each
each_said R S F (p ∷ parts) (c ∷ columns) weaker (own, rest) = (weaker p c own, each_said R S F parts columns weaker rest)

each_added : (R T : Part → List Token → Type 0) (F : List Said → Token) (parts : List Part) (columns : List (List Token))
    → ((p : Part) (c : List Token) → R p c → T p (F p.saids ∷ c)) → Each R parts columns → Each T parts (map add_token (zip (map F (saids_of parts)) columns))
each_added R T F [] columns weaker each = refl
each_added R T F (p ∷ parts) [] weaker each = absurd each
each_added R T F (p ∷ parts) (c ∷ columns) weaker (own, rest) = (weaker p c own, each_added R T F parts columns weaker rest)

each_after : (R : Part → List Token → Type 0) (x : ℕ) (parts : List Part) (columns : List (List Token))
    → Each (λ p c. R (part_after x p) c) parts columns → Each R (map (part_after x) parts) columns
each_after R x [] columns each = each
each_after R x (p ∷ parts) [] each = absurd each
each_after R x (p ∷ parts) (c ∷ columns) (own, rest) = (own, each_after R x parts columns rest)

-- ---- how many grace lines there are

most_grows : (x a : ℕ) (parts : List Part) → a ≤ fold (λ n saids. max n (length (graces_or_none (said_at x saids)))) a (saids_of parts)
most_grows x a [] = omega arith
most_grows x a (p ∷ parts) = omega (arith, most_grows x (max a (length (graces_at x p))) parts)

most_all : (x a : ℕ) (parts : List Part) → Every (λ p. length (graces_at x p) ≤ fold (λ n saids. max n (length (graces_or_none (said_at x saids)))) a (saids_of parts)) parts
most_all x a [] = tt
most_all x a (p ∷ parts) = (omega (arith, most_grows x (max a (length (graces_at x p))) parts), most_all x (max a (length (graces_at x p))) parts)

or_right : (a b : Bool) → b ≡ true → (a || b) ≡ true
or_right true b e = refl
or_right false b e = e

grace_is : (left : ℕ) (graces : List ℕ) → suc left ≤ length graces → is_grace (grace_or_null (suc left) graces) ≡ true
grace_is left graces some = rw (le-ltb (length graces) (suc left) some) refl

-- in each of them some voice has a grace chord
most_one : (x j a : ℕ) (parts : List Part) → j < fold (λ n saids. max n (length (graces_or_none (said_at x saids)))) a (saids_of parts)
    → (j < a) ⊎ (list_any is_grace (map (λ saids. grace_or_null (suc j) (graces_or_none (said_at x saids))) (saids_of parts)) ≡ true)
most_one x j a [] less = inl less
most_one x j a (p ∷ parts) less = go (nat_lt j (length (graces_at x p))) refl (most_one x j (max a (length (graces_at x p))) parts less)
  where
    more : Bool
    more = list_any is_grace (map (λ saids. grace_or_null (suc j) (graces_or_none (said_at x saids))) (saids_of parts))

    go : (b : Bool) → nat_lt j (length (graces_at x p)) ≡ b → (j < max a (length (graces_at x p))) ⊎ (list_any is_grace (map (λ saids. grace_or_null (suc j) (graces_or_none (said_at x saids))) (saids_of parts)) ≡ true)
        → (j < a) ⊎ ((is_grace (grace_or_null (suc j) (graces_at x p)) || list_any is_grace (map (λ saids. grace_or_null (suc j) (graces_or_none (said_at x saids))) (saids_of parts))) ≡ true)
    go true e rest = inr (ap (λ b. b || more) (grace_is j (graces_at x p) (omega (arith, ltb-true j (length (graces_at x p)) e))))
    go false e (inl low) = inl (omega (arith, low, ltb-false j (length (graces_at x p)) e))
    go false e (inr found) = inr (or_right (is_grace (grace_or_null (suc j) (graces_at x p))) more found)

-- ---- the walk

module _ (n : ℕ) (f : Frame) (Later : Ahead) (signature : TimeSignature) (some : 1 ≤ f.grid) (few : f.grid ≤ 61440) (often : 1 ≤ f.times) (x : ℕ) (within : x < f.end) where
  abbrev Gracing : ℕ → Part → List Token → Type 0
  Gracing left p c = (x ≤ next_place f p.saids) × IsGracing f Later x left p c

  -- in lines at the place
  record IsStood (left : ℕ) (parts : List Part) (before : List KernLine) : Type 0 where
    inside : IsInside n f.grid signature before
    each : Each (Gracing left) parts (columns_of before)
    one : HasOne (λ p. next_place f p.saids ≡ x) parts

  low_columns : (left : ℕ) (parts : List Part) (before : List KernLine) → IsStood left parts before → Every (λ c. f.times * x ≤ place f.grid c) (columns_of before)
  low_columns left parts before is =
      each_second (Gracing left) (λ c. f.times * x ≤ place f.grid c) parts (columns_of before)
      (λ p c own. let product : f.times * x ≤ f.times * next_place f p.saids = mul-le-mul_left f.times own.0 in let h = own.1.here in omega (arith, product, h))
      is.each

  one_column : (left : ℕ) (parts : List Part) (before : List KernLine) → IsStood left parts before → HasOne (λ c. place f.grid c ≡ f.times * x) (columns_of before)
  one_column left parts before is =
      one_weaker (Gracing left) (λ p. next_place f p.saids ≡ x) (λ c. place f.grid c ≡ f.times * x) parts (columns_of before)
      (λ p c own e. own.1.here ∙ ap (λ k. f.times * k) e) is.each is.one

  grace_walk : (left : ℕ) (parts : List Part) (before : List KernLine)
      → ((j : ℕ) → j < left → list_any is_grace (map (λ saids. grace_or_null (suc j) (graces_or_none (said_at x saids))) (saids_of parts)) ≡ true)
      → IsStood left parts before → (after : List KernLine) × Walk n before (grace_lines x (saids_of parts) left) after × IsStood 0 parts after
  grace_walk zero parts before graces is = (before, refl, is)
  grace_walk (suc left) parts before graces is =
      let F : List Said → Token = λ saids. grace_or_null (suc left) (graces_or_none (said_at x saids)) in
      let ts = map F (saids_of parts) in
      let heard : Each (IsHeard f.grid (f.times * x) true) ts (columns_of before) =
      each_said (Gracing (suc left)) (IsHeard f.grid (f.times * x) true) F parts (columns_of before)
      (λ p c own. grace_heard f Later x p c left often own.0 within own.1) is.each in
      let here = subst (λ b. Each (IsHeard f.grid (f.times * x) b) ts (columns_of before)) (sym (graces left (omega arith))) heard in
      let good = data_good n f.grid (f.times * x) signature before ts some few is.inside here (low_columns (suc left) parts before is) (one_column (suc left) parts before is) in
      let next : IsStood left parts (Data ts ∷ before) = record {
        inside = good.1;
        each = each_added (Gracing (suc left)) (Gracing left) F parts (columns_of before) (λ p c own. (own.0, gracing_next f Later x p c left own.1)) is.each;
        one = is.one;
      } in
      let rest = grace_walk left parts (Data ts ∷ before) (λ j less. graces j (omega (arith, less))) next in
      (rest.0, (good.0, rest.1), rest.2)

  no_graces : (parts : List Part) (columns : List (List Token)) → Each (Gracing 0) parts columns → list_any is_grace (map (λ saids. main_or_null (said_at x saids)) (saids_of parts)) ≡ false
  no_graces [] columns each = refl
  no_graces (p ∷ parts) [] each = absurd each
  no_graces (p ∷ parts) (c ∷ columns) (own, rest) =
      ap₂ ◌||◌ (one (at_place f (open_keys c) p.saids x own.1.fits own.0 within) own.1.fits) (no_graces parts columns rest)
    where
      one : AtPlace f p.saids x → Fits f (open_keys c) p.saids → is_grace (main_or_null (said_at x p.saids)) ≡ false
      one (here s more same stands_at said after) fits =
          let all : Fits f (open_keys c) (s ∷ more) = subst (Fits f (open_keys c)) same fits in
          ap (λ o. is_grace (main_or_null o)) said ∙ not_grace s.main all.0.valued
      one (later above none after) fits = ap (λ o. is_grace (main_or_null o)) none

  begin_each : (left : ℕ) (parts : List Part) (columns : List (List Token)) → Every (λ p. length (graces_at x p) ≤ left) parts → Every (λ p. x ≤ next_place f p.saids) parts → Each (IsAt f Later) parts columns → Each (Gracing left) parts columns
  begin_each left [] columns few low each = each
  begin_each left (p ∷ parts) [] few low each = absurd each
  begin_each left (p ∷ parts) (c ∷ columns) (a, more) (b, others) (own, rest) = ((b, gracing_begins f Later x p c left a own), begin_each left parts columns more others rest)

  -- the lines at a place
  pub place_walk : (parts : List Part) (before : List KernLine) → IsInside n f.grid signature before → Each (IsAt f Later) parts (columns_of before)
      → Every (λ p. x ≤ next_place f p.saids) parts → HasOne (λ p. next_place f p.saids ≡ x) parts
      → (after : List KernLine) × Walk n before (lines_at (saids_of parts) x) after × IsInside n f.grid signature after × Each (IsAt f Later) (map (part_after x) parts) (columns_of after)
  place_walk parts before inside each low one =
      let left = grace_lines_at x (saids_of parts) in
      let begun : IsStood left parts before = record { inside = inside; each = begin_each left parts (columns_of before) (most_all x 0 parts) low each; one = one } in
      let graces = grace_walk left parts before (λ j less. found j less (most_one x j 0 parts less)) begun in
      let mid = graces.0 in
      let is = graces.2 in
      let F : List Said → Token = λ saids. main_or_null (said_at x saids) in
      let ts = map F (saids_of parts) in
      let heard : Each (IsHeard f.grid (f.times * x) false) ts (columns_of mid) =
      each_said (Gracing 0) (IsHeard f.grid (f.times * x) false) F parts (columns_of mid) (λ p c own. main_heard f Later x p c often own.0 within own.1) is.each in
      let here = subst (λ b. Each (IsHeard f.grid (f.times * x) b) ts (columns_of mid)) (sym (no_graces parts (columns_of mid) is.each)) heard in
      let good = data_good n f.grid (f.times * x) signature mid ts some few is.inside here (low_columns 0 parts mid is) (one_column 0 parts mid is) in
      let more = each_added (Gracing 0) (λ p c. IsAt f Later (part_after x p) c) F parts (columns_of mid) (λ p c own. main_next f Later x p c own.0 within own.1) is.each in (
        Data ts ∷ mid,
        walk_append n before (grace_lines x (saids_of parts) left) mid (main_line x (saids_of parts) ∷ []) (Data ts ∷ mid) graces.1 (good.0, refl),
        good.1,
        each_after (IsAt f Later) x parts (columns_of (Data ts ∷ mid)) more,
      )
    where
      found : (j : ℕ) → j < grace_lines_at x (saids_of parts) → (j < 0) ⊎ (list_any is_grace (map (λ saids. grace_or_null (suc j) (graces_or_none (said_at x saids))) (saids_of parts)) ≡ true)
          → list_any is_grace (map (λ saids. grace_or_null (suc j) (graces_or_none (said_at x saids))) (saids_of parts)) ≡ true
      found j less (inl none) = absurd (omega (arith, none))
      found j less (inr yes_one) = yes_one
