-- Runs of leaves: side by side, with one pair of counts, and the same in other coordinates.
use Rattle.std.proofs.Common.{◌≡◌, ℕ, suc, ◌+◌, ◌≤◌, ◌==◌, nat_lt, Bool, true, false, not, ◌&&◌, List, [], ◌∷◌, ◌++◌, map, filter, length, refl, sym, ap, ap₂, ◌∙◌, subst, arith}
use Rattle.std.specs.Prelude.{⊤}
use Rattle.std.proofs.lemmas.List.{map-append}
use Rattle.std.proofs.lemmas.Bool.Decides.{nat_tests}
use Rattle.std.proofs.lemmas.Bool.{false≢true, not-true, true≢false}
use Rattle.rhythm_base.proofs.Booleans.{and_left, and_right}
use Rattle.tree_laws.proofs.Reading.{between, chords_split}
use Rattle.rhythm_base.proofs.LastEnds.{last_end-append}
use Rattle.rhythm_base.specs.Lists.{last_end}
use Rattle.rhythm_base.specs.declared.inner.Inner.{Inner}
use Rattle.rhythm_base.specs.Line.{Rising, Looks, agrees}
use Rattle.rhythm_base.specs.declared.rule.Ending.{Ending}
use Rattle.rhythm_base.specs.declared.rule.Ending.TheVariants.{Note, Short, Tie, Rest, Grace}
use Rattle.rhythm_base.specs.Bodies.{sound_kind}
use Rattle.rhythm_base.specs.SoundKinds.{begins_chord, is_rest, is_short, is_tie}
use Rattle.tree_laws.specs.Runs.{lefts, rights, runs, leaving, ending, IsLine}

and_assoc : (a b c : Bool) → (a && b) && c ≡ a && (b && c)
and_assoc true b c = refl
and_assoc false b c = refl

-- a rule agrees with four chords at most
pub agrees-few : (b : Ending) (n : ℕ) (s : Bool) → agrees b n s ≡ true → n ≤ 4
agrees-few Note n s h = let one = and_left (n == 1) s h in grind (arith, nat_tests)
agrees-few Short n s h = let one = and_left (n == 1) (not s) h in grind (arith, nat_tests)
agrees-few Tie n s h = let none = and_left (n == 0) s h in grind (arith, nat_tests)
agrees-few Rest n s h = let none = and_left (n == 0) (not s) h in grind (arith, nat_tests)
agrees-few (Grace m) n s h =
    let graces = and_right (nat_lt 0 m) (nat_lt m 4) (and_left (nat_lt 0 m && nat_lt m 4) (n == m + 1) h) in
    let all = and_right (nat_lt 0 m && nat_lt m 4) (n == m + 1) h in
    grind (arith, nat_tests)

-- and with one number of chords only
agrees-one : (b : Ending) (n k : ℕ) (s t : Bool) → agrees b n s ≡ true → agrees b k t ≡ true → n ≡ k
agrees-one Note n k s t h j = let a = and_left (n == 1) s h in let b = and_left (k == 1) t j in grind (arith, nat_tests)
agrees-one Short n k s t h j = let a = and_left (n == 1) (not s) h in let b = and_left (k == 1) (not t) j in grind (arith, nat_tests)
agrees-one Tie n k s t h j = let a = and_left (n == 0) s h in let b = and_left (k == 0) t j in grind (arith, nat_tests)
agrees-one Rest n k s t h j = let a = and_left (n == 0) (not s) h in let b = and_left (k == 0) (not t) j in grind (arith, nat_tests)
agrees-one (Grace m) n k s t h j =
    let a = and_right (nat_lt 0 m && nat_lt m 4) (n == m + 1) h in
    let b = and_right (nat_lt 0 m && nat_lt m 4) (k == m + 1) j in
    grind (arith, nat_tests)

-- a leaf in which a chord begins has one or more attached to it
pub agrees-begins : (b : Ending) (n : ℕ) (s : Bool) → begins_chord (sound_kind b) ≡ true → agrees b n s ≡ true → 1 ≤ n
agrees-begins Note n s k h = let one = and_left (n == 1) s h in grind (arith, nat_tests)
agrees-begins Short n s k h = let one = and_left (n == 1) (not s) h in grind (arith, nat_tests)
agrees-begins Tie n s k h = absurd (false≢true k)
agrees-begins Rest n s k h = absurd (false≢true k)
agrees-begins (Grace m) n s k h = let all = and_right (nat_lt 0 m && nat_lt m 4) (n == m + 1) h in grind (arith, nat_tests)

-- any other leaf has none
pub agrees-silent : (b : Ending) (n : ℕ) (s : Bool) → begins_chord (sound_kind b) ≡ false → agrees b n s ≡ true → n ≡ 0
agrees-silent Note n s k h = absurd (true≢false k)
agrees-silent Short n s k h = absurd (true≢false k)
agrees-silent Tie n s k h = let none = and_left (n == 0) s h in grind (arith, nat_tests)
agrees-silent Rest n s k h = let none = and_left (n == 0) (not s) h in grind (arith, nat_tests)
agrees-silent (Grace m) n s k h = absurd (true≢false k)

-- the latest chord sounds in a tie
pub agrees-tied : (b : Ending) (n : ℕ) (s : Bool) → is_tie (sound_kind b) ≡ true → agrees b n s ≡ true → s ≡ true
agrees-tied Note n s k h = absurd (false≢true k)
agrees-tied Short n s k h = absurd (false≢true k)
agrees-tied Tie n s k h = and_right (n == 0) s h
agrees-tied Rest n s k h = absurd (false≢true k)
agrees-tied (Grace m) n s k h = absurd (false≢true k)

-- and not in a short leaf or in a rest
pub agrees-short : (b : Ending) (n : ℕ) (s : Bool) → is_short (sound_kind b) ≡ true → agrees b n s ≡ true → s ≡ false
agrees-short Note n s k h = absurd (false≢true k)
agrees-short Short n s k h = not-true s (and_right (n == 1) (not s) h)
agrees-short Tie n s k h = absurd (false≢true k)
agrees-short Rest n s k h = absurd (false≢true k)
agrees-short (Grace m) n s k h = absurd (false≢true k)

pub agrees-rest : (b : Ending) (n : ℕ) (s : Bool) → is_rest (sound_kind b) ≡ true → agrees b n s ≡ true → s ≡ false
agrees-rest Note n s k h = absurd (false≢true k)
agrees-rest Short n s k h = absurd (false≢true k)
agrees-rest Tie n s k h = absurd (false≢true k)
agrees-rest Rest n s k h = not-true s (and_right (n == 0) (not s) h)
agrees-rest (Grace m) n s k h = absurd (false≢true k)

-- a short leaf has one chord
pub agrees-one_short : (b : Ending) (n : ℕ) (s : Bool) → is_short (sound_kind b) ≡ true → agrees b n s ≡ true → n ≡ 1
agrees-one_short Note n s k h = absurd (false≢true k)
agrees-one_short Short n s k h = let one = and_left (n == 1) (not s) h in grind (arith, nat_tests)
agrees-one_short Tie n s k h = absurd (false≢true k)
agrees-one_short Rest n s k h = absurd (false≢true k)
agrees-one_short (Grace m) n s k h = absurd (false≢true k)

module _ {X : Type 0} (K : Looks X) (cs : List Inner) where
  pub runs-append : (e f : ℕ) (xs ys : List X) → runs K cs e f (xs ++ ys) ≡ runs K cs e f xs && runs K cs (ending K cs e xs) (leaving K cs f xs) ys
  runs-append e f [] ys = refl
  runs-append e f (x ∷ xs) ys =
      ap (λ b. agrees (K.ending x) (f + length (lefts K x cs)) (K.sounds x (last_end e (lefts K x cs))) && b) (runs-append (last_end (last_end e (lefts K x cs)) (rights K x cs)) (length (rights K x cs)) xs ys)
      ∙ sym (and_assoc (agrees (K.ending x) (f + length (lefts K x cs)) (K.sounds x (last_end e (lefts K x cs)))) _ _)

  pub leaving-append : (f : ℕ) (xs ys : List X) → leaving K cs f (xs ++ ys) ≡ leaving K cs (leaving K cs f xs) ys
  leaving-append f [] ys = refl
  leaving-append f (x ∷ xs) ys = leaving-append (length (rights K x cs)) xs ys

  pub IsLine-append : (s m z : ℕ → Bool) (xs ys : List X) → IsLine K s xs m → IsLine K m ys z → IsLine K s (xs ++ ys) z
  IsLine-append s m z [] ys line more = subst (λ s. IsLine K s ys z) (sym line) more
  IsLine-append s m z (x ∷ xs) ys line more = (line.0, line.1, IsLine-append line.0 m z xs ys line.2 more)

  -- the latest end is that of the last chord of the line
  pub ending-is : (s z : ℕ → Bool) (e low : ℕ) (xs : List X) → Rising low cs → IsLine K s xs z
      → ending K cs e xs ≡ last_end e (map (λ c. c.end) (filter (λ c. between s z c.onset) cs))
  ending-is s z e low [] rise line = ap (λ l. last_end e (map (λ c. c.end) l)) (sym (nothing cs))
    where
      empty : (b : Bool) → b && not b ≡ false
      empty true = refl
      empty false = refl

      nothing : (ds : List Inner) → filter (λ c. between s z c.onset) ds ≡ []
      nothing [] = refl
      nothing (d ∷ ds) =
          let out : between s z d.onset ≡ false = ap (λ b. s d.onset && not b) (λ i. sym line i d.onset) ∙ empty (s d.onset) in
          rw out (nothing ds)
  ending-is s z e low (x ∷ xs) rise line =
      ending-is line.0 z (last_end (last_end e (lefts K x cs)) (rights K x cs)) low xs rise line.2
      ∙ sym (ap (λ l. last_end e (map (λ c. c.end) l)) (chords_split K s line.0 z x xs low cs rise line.1 line.2)
      ∙ ap (last_end e) (map-append (λ c. c.end) fl (fr ++ fo) ∙ ap (λ l. lefts K x cs ++ l) (map-append (λ c. c.end) fr fo))
      ∙ last_end-append e (lefts K x cs) (rights K x cs ++ map (λ c. c.end) fo)
      ∙ last_end-append (last_end e (lefts K x cs)) (rights K x cs) (map (λ c. c.end) fo))
    where
      fl : List Inner
      fl = filter (λ c. K.lies x c.onset && K.left x c.onset) cs

      fr : List Inner
      fr = filter (λ c. K.lies x c.onset && not (K.left x c.onset)) cs

      fo : List Inner
      fo = filter (λ c. between line.0 z c.onset) cs

  -- at most four chords are carried to a leaf
  pub runs-few_leaf : (e f : ℕ) (x : X) (xs : List X) → runs K cs e f (x ∷ xs) ≡ true → f ≤ 4
  runs-few_leaf e f x xs r =
      let few = agrees-few (K.ending x) (f + length (lefts K x cs)) _ (and_left (agrees (K.ending x) (f + length (lefts K x cs)) (K.sounds x (last_end e (lefts K x cs)))) _ r) in
      omega arith

  -- leaves fit with one count at their start, and so with one at their end
  pub runs-one_leaf : (e f g : ℕ) (x : X) (xs : List X) → runs K cs e f (x ∷ xs) ≡ true → runs K cs e g (x ∷ xs) ≡ true → f ≡ g
  runs-one_leaf e f g x xs r q =
      let n : ℕ = length (lefts K x cs) in
      let sounding : Bool = K.sounds x (last_end e (lefts K x cs)) in
      let same : f + n ≡ g + n = agrees-one (K.ending x) (f + n) (g + n) sounding sounding (and_left (agrees (K.ending x) (f + n) sounding) _ r) (and_left (agrees (K.ending x) (g + n) sounding) _ q) in
      omega arith

  -- the same for a line that some tick is in
  pub runs-few : (s z : ℕ → Bool) (t e f : ℕ) (xs : List X) → IsLine K s xs z → s t ≡ true → z t ≡ false → runs K cs e f xs ≡ true → f ≤ 4
  runs-few s z t e f [] line h k r = let same : s t ≡ z t = (λ i. line i t) in absurd (cc)
  runs-few s z t e f (x ∷ xs) line h k r = runs-few_leaf e f x xs r

  pub runs-one : (s z : ℕ → Bool) (t e f g : ℕ) (xs : List X) → IsLine K s xs z → s t ≡ true → z t ≡ false → runs K cs e f xs ≡ true → runs K cs e g xs ≡ true → f ≡ g
  runs-one s z t e f g [] line h k r q = let same : s t ≡ z t = (λ i. line i t) in absurd (cc)
  runs-one s z t e f g (x ∷ xs) line h k r q = runs-one_leaf e f g x xs r q

-- ---- the same run in other coordinates

-- y has the ends of x, each taken to another end
pub record IsLike {X : Type 0} (K : Looks X) (cs ds : List Inner) (to : ℕ → ℕ) (x y : X) : Type 0 where
  pub lefts : lefts K y ds ≡ map to (lefts K x cs)
  pub rights : rights K y ds ≡ map to (rights K x cs)
  pub sounds : (e : ℕ) → K.sounds y (to e) ≡ K.sounds x e
  pub body : K.ending y ≡ K.ending x

length_mapped : (to : ℕ → ℕ) (es : List ℕ) → length (map to es) ≡ length es
length_mapped to [] = refl
length_mapped to (e ∷ es) = ap suc (length_mapped to es)

last_end-map : (to : ℕ → ℕ) (e : ℕ) (es : List ℕ) → last_end (to e) (map to es) ≡ to (last_end e es)
last_end-map to e [] = refl
last_end-map to e (d ∷ ds) = last_end-map to d ds

module _ {X : Type 0} (K : Looks X) (cs ds : List Inner) (to : ℕ → ℕ) where
  abbrev pub AreLike : List X → List X → Type 0
  AreLike [] [] = ⊤
  AreLike [] (y ∷ ys) = ⊥
  AreLike (x ∷ xs) [] = ⊥
  AreLike (x ∷ xs) (y ∷ ys) = IsLike K cs ds to x y × AreLike xs ys

  pub runs-like : (e f : ℕ) (xs ys : List X) → AreLike xs ys → runs K ds (to e) f ys ≡ runs K cs e f xs
  runs-like e f [] [] like = refl
  runs-like e f [] (y ∷ ys) like = absurd like
  runs-like e f (x ∷ xs) [] like = absurd like
  runs-like e f (x ∷ xs) (y ∷ ys) like =
      ap₂ (λ l r. agrees (K.ending y) (f + length l) (K.sounds y (last_end (to e) l)) && runs K ds (last_end (last_end (to e) l) r) (length r) ys) like.0.lefts like.0.rights
      ∙ ap₂ ◌&&◌ own (others (runs-like (last_end (last_end e (lefts K x cs)) (rights K x cs)) (length (rights K x cs)) xs ys like.1))
    where
      ls : List ℕ
      ls = lefts K x cs

      rs : List ℕ
      rs = rights K x cs

      own : agrees (K.ending y) (f + length (map to ls)) (K.sounds y (last_end (to e) (map to ls))) ≡ agrees (K.ending x) (f + length ls) (K.sounds x (last_end e ls))
      own =
          ap₂ (λ n d. agrees (K.ending y) (f + n) (K.sounds y d)) (length_mapped to ls) (last_end-map to e ls)
          ∙ ap₂ (λ b s. agrees b (f + length ls) s) like.0.body (like.0.sounds (last_end e ls))

      others : runs K ds (to (last_end (last_end e ls) rs)) (length rs) ys ≡ runs K cs (last_end (last_end e ls) rs) (length rs) xs
          → runs K ds (last_end (last_end (to e) (map to ls)) (map to rs)) (length (map to rs)) ys ≡ runs K cs (last_end (last_end e ls) rs) (length rs) xs
      others ih =
          ap₂ (λ d n. runs K ds d n ys) (ap (λ d. last_end d (map to rs)) (last_end-map to e ls) ∙ last_end-map to (last_end e ls) rs) (length_mapped to rs)
          ∙ ih

  pub leaving-like : (f : ℕ) (xs ys : List X) → AreLike xs ys → leaving K ds f ys ≡ leaving K cs f xs
  leaving-like f [] [] like = refl
  leaving-like f [] (y ∷ ys) like = absurd like
  leaving-like f (x ∷ xs) [] like = absurd like
  leaving-like f (x ∷ xs) (y ∷ ys) like =
      ap (λ l. leaving K ds (length l) ys) like.0.rights
      ∙ ap (λ n. leaving K ds n ys) (length_mapped to (rights K x cs))
      ∙ leaving-like (length (rights K x cs)) xs ys like.1
