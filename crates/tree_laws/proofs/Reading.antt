-- Attachment and fit by numbers of leaves is the same as leaf by leaf.
use Rattle.std.proofs.Common.{◌≡◌, ℕ, suc, ◌+◌, ◌≤◌, ◌==◌, nat_lt, Bool, true, false, not, ◌&&◌, ◌||◌, cond, List, [], ◌∷◌, ◌++◌, map, filter, length, refl, sym, ap, ap₂, ◌∙◌, arith, append_assoc, append-nil}
use Rattle.std.proofs.lemmas.List.{map-append, length-append}
use Rattle.std.proofs.lemmas.List.Elements.{filter-append}
use Rattle.std.proofs.lemmas.Bool.Decides.{nat_tests}
use Rattle.std.proofs.lemmas.Bool.{not-true}
use Rattle.tree_laws.proofs.Lists.{filter_nothing, filter_split, map_kept, map_twice}
use Rattle.rhythm_base.specs.Lists.{last_end}
use Rattle.rhythm_base.specs.declared.inner.Inner.{Inner}
use Rattle.rhythm_base.specs.Line.{Rising, Looks, seat, placements, ends_at, ends_before, last_sounds, agrees, agrees_with, agree_from, agree, past}
use Rattle.rhythm_base.specs.declared.rule.Ending.{Ending}
use Rattle.tree_laws.specs.Runs.{lefts, rights, runs, leaving, IsStep, IsLine}
use Rattle.rhythm_base.proofs.Booleans.{and_left, and_right}
use Rattle.rhythm_base.proofs.LastEnds.{last_end-append}

-- ---- tests on numbers do not compute below a `suc`

zero_suc : (i : ℕ) → 0 == suc i ≡ false
zero_suc i = grind (arith, nat_tests)

suc_zero : (i : ℕ) → suc i == 0 ≡ false
suc_zero i = grind (arith, nat_tests)

suc_suc : (i j : ℕ) → suc i == suc j ≡ i == j
suc_suc i j = go (i == j) refl
  where
    go : (b : Bool) → i == j ≡ b → suc i == suc j ≡ b
    go true e = grind (arith, nat_tests)
    go false e = grind (arith, nat_tests)

lt_suc : (i : ℕ) → nat_lt 0 (suc i) ≡ true
lt_suc i = grind (arith, nat_tests)

lt_zero : (i : ℕ) → nat_lt i 0 ≡ false
lt_zero i = grind (arith, nat_tests)

lt_suc_suc : (i j : ℕ) → nat_lt (suc i) (suc j) ≡ nat_lt i j
lt_suc_suc i j = go (nat_lt i j) refl
  where
    go : (b : Bool) → nat_lt i j ≡ b → nat_lt (suc i) (suc j) ≡ b
    go true e = grind (arith, nat_tests)
    go false e = grind (arith, nat_tests)

-- ---- numbers of leaves, one leaf less

abbrev zeros : List ℕ → List (ℕ × ℕ)
zeros es = map (λ e. (0, e)) es

abbrev raised : List (ℕ × ℕ) → List (ℕ × ℕ)
raised ps = map (λ q. (suc q.0, q.1)) ps

attached-append : (i : ℕ) (ps qs : List (ℕ × ℕ)) → ends_at i (ps ++ qs) ≡ ends_at i ps ++ ends_at i qs
attached-append i ps qs = ap (map (λ q. q.1)) (filter-append (λ (q : ℕ × ℕ). q.0 == i) ps qs) ∙ map-append (λ (q : ℕ × ℕ). q.1) (filter (λ q. q.0 == i) ps) (filter (λ q. q.0 == i) qs)

earlier-append : (i : ℕ) (ps qs : List (ℕ × ℕ)) → ends_before i (ps ++ qs) ≡ ends_before i ps ++ ends_before i qs
earlier-append i ps qs = ap (map (λ q. q.1)) (filter-append (λ (q : ℕ × ℕ). nat_lt q.0 i) ps qs) ∙ map-append (λ (q : ℕ × ℕ). q.1) (filter (λ q. nat_lt q.0 i) ps) (filter (λ q. nat_lt q.0 i) qs)

attached-zeros : (es : List ℕ) → ends_at 0 (zeros es) ≡ es
attached-zeros [] = refl
attached-zeros (e ∷ es) = ap (λ l. e ∷ l) (attached-zeros es)

attached_none-zeros : (i : ℕ) (es : List ℕ) → ends_at (suc i) (zeros es) ≡ []
attached_none-zeros i [] = refl
attached_none-zeros i (e ∷ es) = rw (zero_suc i) (attached_none-zeros i es)

attached_none-raised : (ps : List (ℕ × ℕ)) → ends_at 0 (raised ps) ≡ []
attached_none-raised [] = refl
attached_none-raised (p ∷ ps) = rw (suc_zero p.0) (attached_none-raised ps)

attached-raised : (i : ℕ) (ps : List (ℕ × ℕ)) → ends_at (suc i) (raised ps) ≡ ends_at i ps
attached-raised i [] = refl
attached-raised i (p ∷ ps) = rw (suc_suc p.0 i) (go (p.0 == i) (attached-raised i ps))
  where
    go : (b : Bool) → ends_at (suc i) (raised ps) ≡ ends_at i ps
        → map (λ q. q.1) (cond b ((suc p.0, p.1) ∷ filter (λ q. q.0 == suc i) (raised ps)) (filter (λ q. q.0 == suc i) (raised ps))) ≡ map (λ q. q.1) (cond b (p ∷ filter (λ q. q.0 == i) ps) (filter (λ q. q.0 == i) ps))
    go true ih = ap (λ l. p.1 ∷ l) ih
    go false ih = ih

earlier-zeros : (i : ℕ) (es : List ℕ) → ends_before (suc i) (zeros es) ≡ es
earlier-zeros i [] = refl
earlier-zeros i (e ∷ es) = rw (lt_suc i) (ap (λ l. e ∷ l) (earlier-zeros i es))

earlier_none : (ps : List (ℕ × ℕ)) → ends_before 0 ps ≡ []
earlier_none [] = refl
earlier_none (p ∷ ps) = rw (lt_zero p.0) (earlier_none ps)

earlier-raised : (i : ℕ) (ps : List (ℕ × ℕ)) → ends_before (suc i) (raised ps) ≡ ends_before i ps
earlier-raised i [] = refl
earlier-raised i (p ∷ ps) = rw (lt_suc_suc p.0 i) (go (nat_lt p.0 i) (earlier-raised i ps))
  where
    go : (b : Bool) → ends_before (suc i) (raised ps) ≡ ends_before i ps
        → map (λ q. q.1) (cond b ((suc p.0, p.1) ∷ filter (λ q. nat_lt q.0 (suc i)) (raised ps)) (filter (λ q. nat_lt q.0 (suc i)) (raised ps))) ≡ map (λ q. q.1) (cond b (p ∷ filter (λ q. nat_lt q.0 i) ps) (filter (λ q. nat_lt q.0 i) ps))
    go true ih = ap (λ l. p.1 ∷ l) ih
    go false ih = ih

first_attached : (es : List ℕ) (ps : List (ℕ × ℕ)) → ends_at 0 (zeros es ++ raised ps) ≡ es
first_attached es ps = attached-append 0 (zeros es) (raised ps) ∙ ap₂ ◌++◌ (attached-zeros es) (attached_none-raised ps) ∙ append-nil es

next_attached : (i : ℕ) (es : List ℕ) (ps : List (ℕ × ℕ)) → ends_at (suc i) (zeros es ++ raised ps) ≡ ends_at i ps
next_attached i es ps = attached-append (suc i) (zeros es) (raised ps) ∙ ap₂ ◌++◌ (attached_none-zeros i es) (attached-raised i ps)

next_earlier : (i : ℕ) (es : List ℕ) (ps : List (ℕ × ℕ)) → ends_before (suc i) (zeros es ++ raised ps) ≡ es ++ ends_before i ps
next_earlier i es ps = earlier-append (suc i) (zeros es) (raised ps) ∙ ap₂ ◌++◌ (earlier-zeros i es) (earlier-raised i ps)

-- ---- counts and the latest end tell what the lists tell

last_sounds-more : (s : ℕ → Bool) (d : ℕ) (ds : List ℕ) → last_sounds s (d ∷ ds) ≡ s (last_end d ds)
last_sounds-more s d [] = refl
last_sounds-more s d (e ∷ es) = last_sounds-more s e es

last_sounds-is : (s : ℕ → Bool) → s 0 ≡ false → (ds : List ℕ) → last_sounds s ds ≡ s (last_end 0 ds)
last_sounds-is s silent [] = sym silent
last_sounds-is s silent (d ∷ ds) = last_sounds-more s d ds

agrees-is : (b : Ending) (s : ℕ → Bool) → s 0 ≡ false → (here before : List ℕ) → agrees_with b s here before ≡ agrees b (length here) (s (last_end 0 (before ++ here)))
agrees-is b s silent here before = ap (agrees b (length here)) (last_sounds-is s silent (before ++ here))

-- ---- the onsets from one place to another

abbrev pub between : (ℕ → Bool) → (ℕ → Bool) → ℕ → Bool
between s z t = s t && not (z t)

by_parts : (s m z : Bool) → (m ≡ true → s ≡ true) → (z ≡ true → m ≡ true) → s && not z ≡ (s && not m) || (m && not z)
by_parts true true true h k = refl
by_parts true true false h k = refl
by_parts true false true h k = k refl
by_parts true false false h k = refl
by_parts false true z h k = absurd (cc (h refl))
by_parts false false true h k = refl
by_parts false false false h k = refl

by_halves : (a b : Bool) → a ≡ (a && b) || (a && not b)
by_halves true true = refl
by_halves true false = refl
by_halves false b = refl

module _ {X : Type 0} (K : Looks X) where
  pub reaches : (s z : ℕ → Bool) (xs : List X) → IsLine K s xs z → (t : ℕ) → z t ≡ true → s t ≡ true
  reaches s z [] line t e = (λ i. line i t) ∙ e
  reaches s z (x ∷ xs) line t e = line.1.back t (reaches line.0 z xs line.2 t e)

  pub no_left : (a b : Bool) → b ≡ false → a && b ≡ false
  no_left true b h = h
  no_left false b h = refl

  -- the chords of the line are those of its first leaf, left and right, and those of the other leaves
  pub chords_split : (s m z : ℕ → Bool) (x : X) (xs : List X) (low : ℕ) (cs : List Inner) → Rising low cs → IsStep K s x m → IsLine K m xs z
      → filter (λ c. between s z c.onset) cs
      ≡ filter (λ c. K.lies x c.onset && K.left x c.onset) cs ++ (filter (λ c. K.lies x c.onset && not (K.left x c.onset)) cs ++ filter (λ c. between m z c.onset) cs)
  chords_split s m z x xs low cs rise step line =
      filter_split (between s z) (K.lies x) (between m z) low cs rise first first_order
      ∙ ap (λ l. l ++ filter (λ c. between m z c.onset) cs) (filter_split (K.lies x) (λ t. K.lies x t && K.left x t) (λ t. K.lies x t && not (K.left x t)) low cs rise (λ t. by_halves (K.lies x t) (K.left x t)) half_order)
      ∙ append_assoc (filter (λ c. K.lies x c.onset && K.left x c.onset) cs) (filter (λ c. K.lies x c.onset && not (K.left x c.onset)) cs) (filter (λ c. between m z c.onset) cs)
    where
      first : (t : ℕ) → between s z t ≡ K.lies x t || between m z t
      first t = by_parts (s t) (m t) (z t) (step.back t) (reaches m z xs line t) ∙ ap (λ b. b || between m z t) (sym (step.inside t))

      first_order : (t u : ℕ) → t ≤ u → between m z t ≡ true → K.lies x u ≡ false
      first_order t u le e = step.inside u ∙ no_left (s u) (not (m u)) (ap not (step.later t u le (and_left (m t) (not (z t)) e)))

      half_order : (t u : ℕ) → t ≤ u → K.lies x t && not (K.left x t) ≡ true → K.lies x u && K.left x u ≡ false
      half_order t u le e = go (K.left x u) refl
        where
          go : (b : Bool) → K.left x u ≡ b → K.lies x u && b ≡ false
          go true h =
              let is : K.left x t ≡ true = step.halves t u le h in
              let is_not : K.left x t ≡ false = not-true (K.left x t) (and_right (K.lies x t) (not (K.left x t)) e) in
              absurd (cc)
          go false h = no_left (K.lies x u) false refl

  seat-left : (x : X) (xs : List X) (t : ℕ) → K.lies x t && K.left x t ≡ true → seat K (x ∷ xs) t ≡ 0
  seat-left x xs t e = rw (and_left (K.lies x t) (K.left x t) e, and_right (K.lies x t) (K.left x t) e) refl

  seat-right : (x : X) (xs : List X) (t : ℕ) → K.lies x t && not (K.left x t) ≡ true → seat K (x ∷ xs) t ≡ 1
  seat-right x xs t e = rw (and_left (K.lies x t) (not (K.left x t)) e, not-true (K.left x t) (and_right (K.lies x t) (not (K.left x t)) e)) refl

  seat-later : (s m z : ℕ → Bool) (x : X) (xs : List X) (t : ℕ) → IsStep K s x m → between m z t ≡ true → seat K (x ∷ xs) t ≡ suc (seat K xs t)
  seat-later s m z x xs t step e =
      let out : K.lies x t ≡ false = step.inside t ∙ no_left (s t) (not (m t)) (ap not (and_left (m t) (not (z t)) e)) in
      rw out refl

  -- where the chords of a line are attached, by those of its first leaf and of the other leaves
  placed-step : (s m z : ℕ → Bool) (x : X) (xs : List X) (carried : List ℕ) (low : ℕ) (cs : List Inner) → Rising low cs → IsStep K s x m → IsLine K m xs z
      → placements K (x ∷ xs) carried (filter (λ c. between s z c.onset) cs)
      ≡ zeros (carried ++ lefts K x cs) ++ raised (placements K xs (rights K x cs) (filter (λ c. between m z c.onset) cs))
  placed-step s m z x xs carried low cs rise step line =
      ap (λ l. zeros carried ++ map at l) (chords_split s m z x xs low cs rise step line)
      ∙ ap (λ l. zeros carried ++ l) (map-append at fl (fr ++ fo) ∙ ap₂ ◌++◌ on_left (map-append at fr fo ∙ ap₂ ◌++◌ on_right on_others))
      ∙ sym (append_assoc (zeros carried) (zeros (lefts K x cs)) (raised (zeros (rights K x cs)) ++ raised rest))
      ∙ sym (ap₂ ◌++◌ (map-append (λ e. (0, e)) carried (lefts K x cs)) (map-append (λ q. (suc q.0, q.1)) (zeros (rights K x cs)) rest))
    where
      at : Inner → ℕ × ℕ
      at c = (seat K (x ∷ xs) c.onset, c.end)

      fl : List Inner
      fl = filter (λ c. K.lies x c.onset && K.left x c.onset) cs

      fr : List Inner
      fr = filter (λ c. K.lies x c.onset && not (K.left x c.onset)) cs

      fo : List Inner
      fo = filter (λ c. between m z c.onset) cs

      rest : List (ℕ × ℕ)
      rest = map (λ c. (seat K xs c.onset, c.end)) fo

      on_left : map at fl ≡ zeros (lefts K x cs)
      on_left =
          map_kept (λ c. K.lies x c.onset && K.left x c.onset) at (λ c. (0, c.end)) (λ c e. ap (λ n. (n, c.end)) (seat-left x xs c.onset e)) cs
          ∙ sym (map_twice (λ e. (0, e)) (λ c. c.end) fl)

      on_right : map at fr ≡ raised (zeros (rights K x cs))
      on_right =
          map_kept (λ c. K.lies x c.onset && not (K.left x c.onset)) at (λ c. (1, c.end)) (λ c e. ap (λ n. (n, c.end)) (seat-right x xs c.onset e)) cs
          ∙ sym (map_twice (λ q. (suc q.0, q.1)) (λ e. (0, e)) (rights K x cs) ∙ map_twice (λ e. (1, e)) (λ c. c.end) fr)

      on_others : map at fo ≡ raised rest
      on_others =
          map_kept (λ c. between m z c.onset) at (λ c. (suc (seat K xs c.onset), c.end)) (λ c e. ap (λ n. (n, c.end)) (seat-later s m z x xs c.onset step e)) cs
          ∙ sym (map_twice (λ q. (suc q.0, q.1)) (λ c. (seat K xs c.onset, c.end)) fo)

  -- the numbers may begin one later, with the first leaf's chords among those before
  agree_from-shift : (prior es : List ℕ) (ps : List (ℕ × ℕ)) (i : ℕ) (xs : List X) → agree_from K prior (zeros es ++ raised ps) (suc i) xs ≡ agree_from K (prior ++ es) ps i xs
  agree_from-shift prior es ps i [] = refl
  agree_from-shift prior es ps i (x ∷ xs) =
      ap₂ (λ a b. agrees_with (K.ending x) (K.sounds x) a b && agree_from K prior (zeros es ++ raised ps) (suc (suc i)) xs) (next_attached i es ps) (ap (λ l. prior ++ l) (next_earlier i es ps) ∙ sym (append_assoc prior es (ends_before i ps)))
      ∙ ap (λ b. agrees_with (K.ending x) (K.sounds x) (ends_at i ps) ((prior ++ es) ++ ends_before i ps) && b) (agree_from-shift prior es ps (suc i) xs)

  -- the leaves agree by the numbers exactly where they agree leaf by leaf
  pub agree-runs : (s z : ℕ → Bool) (xs : List X) (prior carried : List ℕ) (low : ℕ) (cs : List Inner) → Rising low cs → IsLine K s xs z
      → agree K prior carried (filter (λ c. between s z c.onset) cs) xs ≡ runs K cs (last_end 0 (prior ++ carried)) (length carried) xs
  agree-runs s z [] prior carried low cs rise line = refl
  agree-runs s z (x ∷ xs) prior carried low cs rise line =
      ap (λ ps. agree_from K prior ps 0 (x ∷ xs)) (placed-step s line.0 z x xs carried low cs rise line.1 line.2)
      ∙ ap₂ (λ a b. agrees_with (K.ending x) (K.sounds x) a (prior ++ b) && agree_from K prior (zeros ls ++ raised ps) 1 xs) (first_attached ls ps) (earlier_none (zeros ls ++ raised ps))
      ∙ ap (λ l. agrees_with (K.ending x) (K.sounds x) ls l && agree_from K prior (zeros ls ++ raised ps) 1 xs) (append-nil prior)
      ∙ ap₂ ◌&&◌ own (others (agree-runs line.0 z xs (prior ++ ls) rs low cs rise line.2))
    where
      ls : List ℕ
      ls = carried ++ lefts K x cs

      rs : List ℕ
      rs = rights K x cs

      ps : List (ℕ × ℕ)
      ps = placements K xs rs (filter (λ c. between line.0 z c.onset) cs)

      latest : last_end 0 (prior ++ ls) ≡ last_end (last_end 0 (prior ++ carried)) (lefts K x cs)
      latest = ap (last_end 0) (sym (append_assoc prior carried (lefts K x cs))) ∙ last_end-append 0 (prior ++ carried) (lefts K x cs)

      own : agrees_with (K.ending x) (K.sounds x) ls prior ≡ agrees (K.ending x) (length carried + length (lefts K x cs)) (K.sounds x (last_end (last_end 0 (prior ++ carried)) (lefts K x cs)))
      own =
          agrees-is (K.ending x) (K.sounds x) line.1.silent ls prior
          ∙ ap₂ (λ n e. agrees (K.ending x) n (K.sounds x e)) (length-append carried (lefts K x cs)) latest

      others : agree K (prior ++ ls) rs (filter (λ c. between line.0 z c.onset) cs) xs ≡ runs K cs (last_end 0 ((prior ++ ls) ++ rs)) (length rs) xs
          → agree_from K prior (zeros ls ++ raised ps) 1 xs ≡ runs K cs (last_end (last_end (last_end 0 (prior ++ carried)) (lefts K x cs)) rs) (length rs) xs
      others ih =
          agree_from-shift prior ls ps 0 xs
          ∙ ih
          ∙ ap (λ e. runs K cs e (length rs) xs) (last_end-append 0 (prior ++ ls) rs ∙ ap (λ e. last_end e rs) latest)

  -- as many are attached past the last leaf as leave the line
  pub past-leaving : (s z : ℕ → Bool) (xs : List X) (carried : List ℕ) (low : ℕ) (cs : List Inner) → Rising low cs → IsLine K s xs z
      → past K carried (filter (λ c. between s z c.onset) cs) xs ≡ leaving K cs (length carried) xs
  past-leaving s z [] carried low cs rise line =
      ap (λ l. length (ends_at 0 (placements K [] carried l))) none
      ∙ ap (λ l. length (ends_at 0 l)) (append-nil (zeros carried))
      ∙ ap length (attached-zeros carried)
    where
      empty : (b : Bool) → b && not b ≡ false
      empty true = refl
      empty false = refl

      none : filter (λ c. between s z c.onset) cs ≡ []
      none = filter_nothing (between s z) low cs rise (λ u le. ap (λ b. s u && not b) (λ i. sym line i u) ∙ empty (s u))
  past-leaving s z (x ∷ xs) carried low cs rise line =
      ap (λ ps. length (ends_at (suc (length xs)) ps)) (placed-step s line.0 z x xs carried low cs rise line.1 line.2)
      ∙ ap length (next_attached (length xs) (carried ++ lefts K x cs) (placements K xs (rights K x cs) (filter (λ c. between line.0 z c.onset) cs)))
      ∙ past-leaving line.0 z xs (rights K x cs) low cs rise line.2
