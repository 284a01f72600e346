-- The lines at a place, for one voice.
use Rattle.std.proofs.Common.{◌≡◌, ℕ, suc, ◌+◌, ◌-◌, ◌*◌, ◌<◌, ◌≤◌, ◌==◌, Bool, true, false, not, List, [], ◌∷◌, ◌++◌, length, get_or, take, refl, sym, ap, ap₂, ◌∙◌, subst, arith, Option, Some, None, take_all}
use Rattle.std.specs.Prelude.{if◌then◌else◌, nat_lt, nat_le}
use Rattle.std.proofs.Math.Nat.{mul-le-mul_left}
use Rattle.std.proofs.Math.Seq.{take-suc}
use Rattle.std.proofs.lemmas.Bool.{ltb-true, ltb-false, eq-eqb}
use Rattle.std.proofs.lemmas.Bool.Decides.{nat_tests}
use Rattle.std.proofs.lemmas.List.Elements.{All-nil}
use Rattle.kern_reader.specs.declared.token.Token.{Token}
use Rattle.kern_reader.specs.declared.token.Token.TheVariants as token
use Rattle.kern_reader.specs.Columns.{open_keys, place, waiting}
use Rattle.kern_reader.specs.Faults.{is_grace_wrong, stands}
use Rattle.kern_reader.specs.Score.{Counts}
use Rattle.kern_reader.proofs.SpineLemmas.{waiting_grace, waiting_null}
use Rattle.kern_laws.proofs.ScoreLines.{Said, grace_or_null, graces_or_none, main_or_null, said_at}
use Rattle.kern_laws.proofs.PlaceParts.{Ahead, Fits, Frame, IsAt, IsGracing, IsHeard, Part, clean, graced, graces_at, next_place, open_after, part_after, spelled, token_width}
use Rattle.kern_laws.proofs.PlaceSteps.{AtPlace, here, later, at_place, not_null, open_value, place_grace, place_null, place_value, waiting_value}

-- ---- tokens that may stand

null_heard : (grid least : ℕ) (graces : Bool) (column : List Token) → stands graces least token.Null (place grid column) ≡ true → IsHeard grid least graces token.Null column
null_heard grid least graces column stands = record { stands = stands; grace = refl; tie = refl; well = tt; counts = All-nil (Counts grid) }

other_test : (a b : ℕ) → b < a → not (a == b) ≡ true
other_test a b less = grind (arith, nat_tests, less)

-- ---- grace lines

graced_more : (graces : List ℕ) (keys : ℕ) (before : List Token) → graced (graces ++ keys ∷ []) before ≡ token.Grace keys ∷ graced graces before
graced_more [] keys before = refl
graced_more (k ∷ graces) keys before = graced_more graces keys (token.Grace k ∷ before)

graced_next : (graces : List ℕ) (left : ℕ) (before : List Token) → suc left ≤ length graces
    → token.Grace (get_or graces (length graces - suc left) 0) ∷ graced (take (length graces - suc left) graces) before ≡ graced (take (length graces - left) graces) before
graced_next graces left before some =
    let j = length graces - suc left in
    let next : suc j ≡ length graces - left = omega (arith, some) in
    let within : j < length graces = omega (arith, some) in
    sym (graced_more (take j graces) (get_or graces j 0) before) ∙ ap (λ xs. graced xs before) (sym (take-suc graces j 0 within)) ∙ ap (λ n. graced (take n graces) before) next

few_graces : (f : Frame) (tied : Option ℕ) (saids : List Said) (x : ℕ) → Fits f tied saids → length (graces_or_none (said_at x saids)) ≤ 3
few_graces f tied [] x fits = omega arith
few_graces f tied (s ∷ saids) x (fit, next, rest) = go (s.place == x) (few_graces f (open_keys (s.main ∷ [])) saids x rest)
  where
    go : (b : Bool) → length (graces_or_none (said_at x saids)) ≤ 3 → length (graces_or_none (if b then Some s else said_at x saids)) ≤ 3
    go true few = fit.few
    go false few = few

module _ (f : Frame) (Later : Ahead) (x : ℕ) (p : Part) (column : List Token) where
  pub gracing_begins : (left : ℕ) → length (graces_at x p) ≤ left → IsAt f Later p column → IsGracing f Later x left p column
  gracing_begins left few is =
      let none : length (graces_at x p) - left ≡ 0 = omega (arith, few) in
      record {
        here = is.here;
        fits = is.fits;
        waits = omega (arith, is.waits, none);
        before = clean column;
        heard = ap (λ n. graced (take n (graces_at x p)) (clean column)) (sym none);
        later = is.later;
      }

  -- what a voice says in a grace line
  grace_token : ℕ → Token
  grace_token left = grace_or_null left (graces_at x p)

  pub gracing_next : (left : ℕ) → IsGracing f Later x (suc left) p column → IsGracing f Later x left p (grace_or_null (suc left) (graces_at x p) ∷ column)
  gracing_next left is = go (nat_lt (length (graces_at x p)) (suc left)) refl
    where
      graces : List ℕ
      graces = graces_at x p

      keys : ℕ
      keys = get_or (graces_at x p) (length (graces_at x p) - suc left) 0

      go : (b : Bool) → nat_lt (length (graces_at x p)) (suc left) ≡ b → IsGracing f Later x left p ((if b then token.Null else token.Grace keys) ∷ column)
      go true e =
          let few = ltb-true (length (graces_at x p)) (suc left) e in
          let same : length (graces_at x p) - suc left ≡ length (graces_at x p) - left = omega (arith, few) in
          record {
            here = place_null f.grid column ∙ is.here;
            fits = is.fits;
            waits = ap length (waiting_null column) ∙ is.waits ∙ same;
            before = is.before;
            heard = is.heard ∙ ap (λ n. graced (take n (graces_at x p)) is.before) same;
            later = is.later;
          }
      go false e =
          let some = ltb-false (length (graces_at x p)) (suc left) e in
          record {
            here = place_grace f.grid keys column ∙ is.here;
            fits = is.fits;
            waits = ap length (waiting_grace keys column) ∙ ap suc is.waits ∙ (omega (arith, some));
            before = is.before;
            heard = ap (λ c. token.Grace keys ∷ c) is.heard ∙ graced_next (graces_at x p) left is.before some;
            later = is.later;
          }

  pub grace_heard : (left : ℕ) → 1 ≤ f.times → x ≤ next_place f p.saids → x < f.end → IsGracing f Later x (suc left) p column
      → IsHeard f.grid (f.times * x) true (grace_or_null (suc left) (graces_at x p)) column
  grace_heard left some low within is = go (nat_lt (length (graces_at x p)) (suc left)) refl
    where
      keys : ℕ
      keys = get_or (graces_at x p) (length (graces_at x p) - suc left) 0

      few : length (graces_at x p) ≤ 3
      few = few_graces f (open_keys column) p.saids x is.fits

      at : suc left ≤ length (graces_at x p) → AtPlace f p.saids x → next_place f p.saids ≡ x
      at more (here s rest same stands_at said after) = ap (next_place f) same ∙ stands_at
      at more (later above none after) = let empty : length (graces_at x p) ≡ 0 = ap (λ o. length (graces_or_none o)) none in absurd (omega (arith, more, empty))

      go : (b : Bool) → nat_lt (length (graces_at x p)) (suc left) ≡ b → IsHeard f.grid (f.times * x) true (if b then token.Null else token.Grace keys) column
      go true e = null_heard f.grid (f.times * x) true column refl
      go false e =
          let more = ltb-false (length (graces_at x p)) (suc left) e in
          let stood : place f.grid column ≡ f.times * x = is.here ∙ ap (λ n. f.times * n) (at more (at_place f (open_keys column) p.saids x is.fits low within)) in
          let waiting_few : nat_le 3 (length (waiting column)) ≡ false = let w = is.waits in grind (arith, nat_tests, few, more, w) in
          record { stands = eq-eqb (place f.grid column) (f.times * x) stood; grace = waiting_few; tie = refl; well = tt; counts = All-nil (Counts f.grid) }

  -- ---- the main line

  main_said : (s : Said) (rest : List Said) → p.saids ≡ s ∷ rest → said_at x p.saids ≡ Some s → IsGracing f Later x 0 p column → IsAt f Later (record p { saids = rest }) (s.main ∷ column)
  main_said s rest same said is =
      let fits : Fits f (open_keys column) (s ∷ rest) = subst (Fits f (open_keys column)) same is.fits in
      let fit = fits.0 in
      let next = fits.1 in
      let whole : take (length (graces_at x p) - 0) (graces_at x p) ≡ s.graces =
      take_all (length (graces_at x p) - 0) (graces_at x p) (omega arith) ∙ ap graces_or_none said in
      let reached : place f.grid column ≡ f.times * s.place = is.here ∙ ap (λ ss. f.times * next_place f ss) same in
      let opened = open_value s.main column fit.valued in
      let here = place_value f.grid s.main column fit.valued ∙ ap₂ ◌+◌ fit.finer reached ∙ joined f.times (token_width f.whole s.main) s.place ∙ ap (λ n. f.times * n) next in
      let cleaned : clean (s.main ∷ column) ≡ s.main ∷ graced s.graces is.before =
      ap (λ b. if not b then s.main ∷ clean column else clean column) (not_null s.main fit.valued) ∙ ap (λ c. s.main ∷ c) (is.heard ∙ ap (λ gs. graced gs is.before) whole) in
      let spelt : spelled p.saids is.before ≡ spelled rest (clean (s.main ∷ column)) = ap (λ ss. spelled ss is.before) same ∙ ap (spelled rest) (sym cleaned) in
      let after : open_after (open_keys column) p.saids ≡ open_after (open_keys (s.main ∷ column)) rest = ap (open_after (open_keys column)) same ∙ ap (λ o. open_after o rest) (sym opened) in
      record {
        here = here;
        fits = subst (λ o. Fits f o rest) (sym opened) fits.2;
        waits = ap length (waiting_value s.main column fit.valued);
        later = subst (λ o. Later p.voice p.target o (spelled rest (clean (s.main ∷ column)))) after (subst (Later p.voice p.target (open_after (open_keys column) p.saids)) spelt is.later);
      }
    where
      joined : (t w s : ℕ) → t * w + t * s ≡ t * (s + w)
      joined t w s = grind arith

  main_null : said_at x p.saids ≡ None → IsGracing f Later x 0 p column → IsAt f Later p (token.Null ∷ column)
  main_null none is =
      let empty : graces_at x p ≡ [] = ap graces_or_none none in
      let same : clean column ≡ is.before = is.heard ∙ ap (λ gs. graced (take (length gs - 0) gs) is.before) empty in
      record {
        here = place_null f.grid column ∙ is.here;
        fits = is.fits;
        waits = ap length (waiting_null column) ∙ is.waits ∙ ap (λ gs. length gs - 0) empty;
        later = subst (λ c. Later p.voice p.target (open_after (open_keys column) p.saids) (spelled p.saids c)) (sym same) is.later;
      }

  pub main_next : x ≤ next_place f p.saids → x < f.end → IsGracing f Later x 0 p column → IsAt f Later (part_after x p) (main_or_null (said_at x p.saids) ∷ column)
  main_next low within is = go (at_place f (open_keys column) p.saids x is.fits low within)
    where
      go : AtPlace f p.saids x → IsAt f Later (part_after x p) (main_or_null (said_at x p.saids) ∷ column)
      go (here s rest same stands_at said after) =
          subst (λ o. IsAt f Later (part_after x p) (main_or_null o ∷ column)) (sym said)
          (subst (λ ss. IsAt f Later (record p { saids = ss }) (s.main ∷ column)) (sym after) (main_said s rest same said is))
      go (later above none after) =
          subst (λ o. IsAt f Later (part_after x p) (main_or_null o ∷ column)) (sym none)
          (subst (λ ss. IsAt f Later (record p { saids = ss }) (token.Null ∷ column)) (sym after) (main_null none is))

  pub main_heard : 1 ≤ f.times → x ≤ next_place f p.saids → x < f.end → IsGracing f Later x 0 p column → IsHeard f.grid (f.times * x) false (main_or_null (said_at x p.saids)) column
  main_heard some low within is = go (at_place f (open_keys column) p.saids x is.fits low within)
    where
      go : AtPlace f p.saids x → IsHeard f.grid (f.times * x) false (main_or_null (said_at x p.saids)) column
      go (here s rest same stands_at said after) =
          let fits : Fits f (open_keys column) (s ∷ rest) = subst (Fits f (open_keys column)) same is.fits in
          let fit = fits.0 in
          let stood : place f.grid column ≡ f.times * x = is.here ∙ ap (λ ss. f.times * next_place f ss) same ∙ ap (λ n. f.times * n) stands_at in
          let count : length (waiting column) ≡ length s.graces = is.waits ∙ ap (λ o. length (graces_or_none o) - 0) said ∙ omega arith in
          subst (λ o. IsHeard f.grid (f.times * x) false (main_or_null o) column) (sym said)
          (record {
            stands = ap (λ b. if b then not (place f.grid column == f.times * x) else (place f.grid column == f.times * x)) (not_null s.main fit.valued) ∙ eq-eqb (place f.grid column) (f.times * x) stood;
            grace = ap (is_grace_wrong s.main) count ∙ fit.grace;
            tie = fit.tie;
            well = fit.well;
            counts = fit.counts;
          })
      go (later above none after) =
          let product : f.times * suc x ≤ f.times * next_place f p.saids = mul-le-mul_left f.times above in
          let split : f.times * suc x ≡ f.times * x + f.times = grind arith in
          let past : f.times * x < place f.grid column = let h = is.here in omega (arith, product, split, h, some) in
          subst (λ o. IsHeard f.grid (f.times * x) false (main_or_null o) column) (sym none)
          (null_heard f.grid (f.times * x) false column (other_test (place f.grid column) (f.times * x) past))
