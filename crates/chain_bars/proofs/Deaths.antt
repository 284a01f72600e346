-- What paths reach, cell by cell, and the first cell over which none leads.
use Rattle.std.proofs.Common.{◌≡◌, ◌↔◌, ℕ, zero, suc, ◌+◌, ◌<◌, ◌≤◌, Bool, false, List, [], ◌∷◌, ◌++◌, length, take, refl, sym, subst, ap, ◌∙◌, inl, inr, arith}
use Rattle.std.specs.Prelude.{Option, Some, None, IsSome, IsTrue, slice_index_or}
use Rattle.std.proofs.lemmas.Bool.{cases_lt}
use Rattle.rhythm_base.specs.declared.best.Best.{Best}
use Rattle.rhythm_base.specs.Ranked.{CarryMatrix, at, Key, least_key, one, key_of, key_sum}
use Rattle.rhythm_base.specs.Lists.{last_end}
use Rattle.rhythm_base.specs.Paths.{path_key, AreCarried, IsPathKey, HasWay, IsDeadCell}
use Rattle.path_laws.proofs.LeastKeys.{IsLeast}
use Rattle.path_laws.proofs.PathTables.{keys-least_path}
use Rattle.rhythm_base.proofs.LastEnds.{last_end-append}
use Rattle.chain_bars.specs.Tower.{cost_of}
use Rattle.chain_bars.specs.Reaches.{AreReachedCounts, AreStepped, CanStep, HasMarked, IsAnyReached, IsReachedCount}

pub some_is : {T : Type 0} (o : Option T) → IsSome o → (x : T) × (o ≡ Some x)
some_is None h = absurd (cc)
some_is (Some x) h = (x, refl)

pub is_some : {T : Type 0} (o : Option T) (x : T) → o ≡ Some x → IsSome o
is_some None x e = absurd (cc)
is_some (Some y) x e = refl

-- ---- one cell more

pub joined_some : (o u : Option Key) → IsSome o → IsSome u → IsSome (key_sum o u)
joined_some None u h k = absurd (cc)
joined_some (Some x) None h k = absurd (cc)
joined_some (Some x) (Some y) h k = refl

pub some_joined : (o u : Option Key) → IsSome (key_sum o u) → IsSome o × IsSome u
some_joined None u h = absurd (cc)
some_joined (Some x) None h = absurd (cc)
some_joined (Some x) (Some y) h = (refl, refl)

entry_key : (o : Option Best) → IsSome o → IsSome (key_of o)
entry_key None h = absurd (cc)
entry_key (Some x) h = refl

key_entry : (o : Option Best) → IsSome (key_of o) → IsSome o
key_entry None h = absurd (cc)
key_entry (Some x) h = refl

path_snoc : (es : List CarryMatrix) (e : CarryMatrix) (a m : ℕ) (p : List ℕ) → IsSome (path_key es a p) → IsSome (at e (last_end a p) m) → IsSome (path_key (es ++ e ∷ []) a (p ++ m ∷ []))
path_snoc [] e a m [] h s = joined_some (one e a m) (Some (0, [])) (entry_key (at e a m) s) refl
path_snoc [] e a m (n ∷ p) h s = absurd (cc)
path_snoc (f ∷ es) e a m [] h s = absurd (cc)
path_snoc (f ∷ es) e a m (n ∷ p) h s =
    let parts = some_joined (one f a n) (path_key es n p) h in
    joined_some (one f a n) (path_key (es ++ e ∷ []) n (p ++ m ∷ [])) parts.0 (path_snoc es e n m p parts.1 s)

counts_snoc : (p : List ℕ) (m : ℕ) → AreCarried p → m < 5 → AreCarried (p ++ m ∷ [])
counts_snoc [] m h low = (low, tt)
counts_snoc (n ∷ p) m h low = (h.0, counts_snoc p m h.1 low)

record Unsnoc (es : List CarryMatrix) (e : CarryMatrix) (a b : ℕ) : Type 0 where
  path : List ℕ
  carried : AreCarried path
  there : IsSome (path_key es a path)
  step : IsSome (at e (last_end a path) b)

path_unsnoc : (es : List CarryMatrix) (e : CarryMatrix) (a b : ℕ) (p : List ℕ) → AreCarried p → IsSome (path_key (es ++ e ∷ []) a p) → last_end a p ≡ b → Unsnoc es e a b
path_unsnoc [] e a b [] c h t = absurd (cc)
path_unsnoc [] e a b (m ∷ []) c h t = record {
  path = [];
  carried = tt;
  there = refl;
  step = subst (λ n. IsSome (at e a n)) t (key_entry (at e a m) (some_joined (one e a m) (Some (0, [])) h).0);
}
path_unsnoc [] e a b (m ∷ n ∷ p) c h t = absurd (let s : IsSome {T = Key} None = (some_joined (one e a m) None h).1 in cc)
path_unsnoc (f ∷ es) e a b [] c h t = absurd (cc)
path_unsnoc (f ∷ es) e a b (m ∷ p) c h t =
    let parts = some_joined (one f a m) (path_key (es ++ e ∷ []) m p) h in
    let rest = path_unsnoc es e m b p c.1 parts.1 t in
    record {
      path = m ∷ rest.path;
      carried = (c.0, rest.carried);
      there = joined_some (one f a m) (path_key es m rest.path) parts.0 rest.there;
      step = rest.step;
    }

pub take_snoc : (es : List CarryMatrix) (n : ℕ) → n < length es → take (suc n) es ≡ take n es ++ slice_index_or es n [] ∷ []
take_snoc [] n h = absurd (omega arith)
take_snoc (e ∷ es) zero h = refl
take_snoc (e ∷ es) (suc n) h = ap (λ l. e ∷ l) (take_snoc es n (omega arith))

pub end_low : (a : ℕ) (p : List ℕ) → a < 5 → AreCarried p → last_end a p < 5
end_low a [] low c = low
end_low a (m ∷ p) low c = end_low m p c.0 c.1

pub reached_step : (es : List CarryMatrix) (n m : ℕ) (cell : CarryMatrix) (marks next : List Bool) → m ≡ suc n → n < length es → cell ≡ slice_index_or es n [] → AreReachedCounts es n marks
    → AreStepped marks cell next → AreReachedCounts es m next
reached_step es n m cell marks next e low c h step b lb = ((λ t. forward ((step b lb).0 t)), λ r. (step b lb).1 (backward r))
  where
    longer : take m es ≡ take n es ++ cell ∷ []
    longer = ap (λ k. take k es) e ∙ take_snoc es n low ∙ ap (λ x. take n es ++ x ∷ []) (sym c)

    forward : CanStep marks cell b → IsReachedCount es m b
    forward s =
        let r = (h s.from s.low).0 s.marked in
        record {
          counts = r.counts ++ b ∷ [];
          carried = counts_snoc r.counts b r.carried lb;
          there = subst (λ l. IsSome (path_key l 0 (r.counts ++ b ∷ []))) (sym longer)
              (path_snoc (take n es) cell 0 b r.counts r.there (subst (λ f. IsSome (at cell f b)) (sym r.ends) s.there));
          ends = last_end-append 0 r.counts (b ∷ []);
        }

    backward : IsReachedCount es m b → CanStep marks cell b
    backward r =
        let back = path_unsnoc (take n es) cell 0 b r.counts r.carried (subst (λ l. IsSome (path_key l 0 r.counts)) longer r.there) r.ends in
        let from_low : last_end 0 back.path < 5 = end_low 0 back.path (omega arith) back.carried in
        record {
          from = last_end 0 back.path;
          low = from_low;
          marked = (h (last_end 0 back.path) from_low).1 record { counts = back.path; carried = back.carried; there = back.there; ends = refl };
          there = back.step;
        }

-- no marked count below n leads over the cell, nor does n
pub no_more : (marks : List Bool) (cell : CarryMatrix) (to n m : ℕ) → m ≡ suc n
    → ((k : ℕ) → k < n → IsTrue (slice_index_or marks k false) → IsSome (at cell k to) → ⊥)
    → (IsTrue (slice_index_or marks n false) → IsSome (at cell n to) → ⊥)
    → (k : ℕ) → k < m → IsTrue (slice_index_or marks k false) → IsSome (at cell k to) → ⊥
no_more marks cell to n m next before own k low marked there = elim (cases_lt k n) [
  | inl below ↦ before k below marked there
  | inr above ↦
      let same : k ≡ n = omega (arith, low, next, above) in
      own (subst (λ j. IsTrue (slice_index_or marks j false)) same marked) (subst (λ j. IsSome (at cell j to)) same there)
]

-- ---- ways

pub reached_way : (es : List CarryMatrix) (j n : ℕ) → n ≡ j + 1 → n < length es → IsAnyReached es n → HasWay es j
reached_way es j n e low r = record {
  counts = r.2.counts;
  carried = r.2.carried;
  there = subst (λ k. IsSome (path_key (take k es) 0 r.2.counts)) e r.2.there;
  none_last = λ last. absurd (omega (arith, last, e, low));
}

pub way_reached : (es : List CarryMatrix) (j n : ℕ) → n ≡ j + 1 → HasWay es j → IsAnyReached es n
way_reached es j n e h = (
  last_end 0 h.counts,
  end_low 0 h.counts (omega arith) h.carried,
  record { counts = h.counts; carried = h.carried; there = subst (λ k. IsSome (path_key (take k es) 0 h.counts)) (sym e) h.there; ends = refl },
)

pub way_none : (es : List CarryMatrix) (j n : ℕ) → n ≡ j + 1 → n ≡ length es → HasWay es j → IsReachedCount es n 0
way_none es j n e last h = record {
  counts = h.counts;
  carried = h.carried;
  there = subst (λ k. IsSome (path_key (take k es) 0 h.counts)) (sym e) h.there;
  ends = h.none_last (sym e ∙ last);
}

pub marked_any : (es : List CarryMatrix) (n : ℕ) (marks : List Bool) → AreReachedCounts es n marks → (m : ℕ) × (m < 5) × IsTrue (slice_index_or marks m false) → IsAnyReached es n
marked_any es n marks h m = (m.0, m.1, (h m.0 m.1).0 m.2)

pub any_marked : (es : List CarryMatrix) (n : ℕ) (marks : List Bool) → AreReachedCounts es n marks → IsAnyReached es n → (m : ℕ) × (m < 5) × IsTrue (slice_index_or marks m false)
any_marked es n marks h r = (r.0, r.1, (h r.0 r.1).1 r.2)

-- ---- the whole

take_all : {A : Type 0} (xs : List A) (n : ℕ) → length xs ≤ n → take n xs ≡ xs
take_all [] zero h = refl
take_all [] (suc n) h = refl
take_all (x ∷ xs) zero h = absurd (omega arith)
take_all (x ∷ xs) (suc n) h = ap (λ l. x ∷ l) (take_all xs n (omega arith))

path_take : (n : ℕ) (es : List CarryMatrix) (a : ℕ) (p : List ℕ) → IsSome (path_key es a p) → IsSome (path_key (take n es) a (take n p))
path_take zero es a p h = refl
path_take (suc n) [] a [] h = refl
path_take (suc n) [] a (m ∷ p) h = absurd (cc)
path_take (suc n) (e ∷ es) a [] h = absurd (cc)
path_take (suc n) (e ∷ es) a (m ∷ p) h =
    let parts = some_joined (one e a m) (path_key es m p) h in
    joined_some (one e a m) (path_key (take n es) m (take n p)) parts.0 (path_take n es m p parts.1)

counts_take : (n : ℕ) (p : List ℕ) → AreCarried p → AreCarried (take n p)
counts_take zero p h = tt
counts_take (suc n) [] h = tt
counts_take (suc n) (m ∷ p) h = (h.0, counts_take n p h.1)

path_size : (es : List CarryMatrix) (a : ℕ) (p : List ℕ) → IsSome (path_key es a p) → length p ≡ length es
path_size [] a [] h = refl
path_size [] a (m ∷ p) h = absurd (cc)
path_size (e ∷ es) a [] h = absurd (cc)
path_size (e ∷ es) a (m ∷ p) h = ap suc (path_size es m p (some_joined (one e a m) (path_key es m p) h).1)

pub total_way : (es : List CarryMatrix) (i : ℕ) → IsSome (cost_of (least_key es 0 0)) → HasWay es i
total_way es i h = go (least_key es 0 0) refl
  where
    go : (o : Option Key) → least_key es 0 0 ≡ o → HasWay es i
    go None e = absurd (let s : IsSome {T = ℕ} None = subst (λ (u : Option Key). IsSome (cost_of u)) e h in cc)
    go (Some k) e =
        let path = (subst (IsLeast (IsPathKey es 0 0)) e (keys-least_path es 0 0)).0 in
        let here : IsSome (path_key es 0 path.0) = is_some (path_key es 0 path.0) k path.3 in
        let size : length path.0 ≡ length es = path_size es 0 path.0 here in
        record {
          counts = take (i + 1) path.0;
          carried = counts_take (i + 1) path.0 path.1;
          there = path_take (i + 1) es 0 path.0 here;
          none_last = λ last. ap (last_end 0) (take_all path.0 (i + 1) (omega (arith, size, last))) ∙ path.2;
        }

pub reached_total : (es : List CarryMatrix) (n : ℕ) → length es ≤ n → IsReachedCount es n 0 → IsSome (cost_of (least_key es 0 0))
reached_total es n all r = go (least_key es 0 0) refl
  where
    there : IsSome (path_key es 0 r.counts)
    there = subst (λ l. IsSome (path_key l 0 r.counts)) (take_all es n all) r.there

    key : (k : Key) × (path_key es 0 r.counts ≡ Some k)
    key = some_is (path_key es 0 r.counts) there

    go : (o : Option Key) → least_key es 0 0 ≡ o → IsSome (cost_of (least_key es 0 0))
    go None e = absurd ((subst (IsLeast (IsPathKey es 0 0)) e (keys-least_path es 0 0)) key.0 (r.counts, r.carried, r.ends, key.1))
    go (Some k) e = subst (λ (u : Option Key). IsSome (cost_of u)) (sym e) refl

-- ---- the answers

pub dead_here : (es : List CarryMatrix) (n m : ℕ) (next : List Bool) (any : Bool) → m ≡ n + 1 → n < length es → AreReachedCounts es m next → ((j : ℕ) → j < n → IsAnyReached es (j + 1))
    → IsTrue any ↔ HasMarked next → any ≡ false → IsDeadCell es n
dead_here es n m next any e low h before a none = record {
  cell = low;
  dead = λ way. let t : IsTrue any = a.1 (any_marked es m next h (way_reached es n m e way)) in cc;
  first = λ j below. reached_way es j (j + 1) refl (omega (arith, below, low)) (before j below);
}

pub dead_last : (es : List CarryMatrix) (n i : ℕ) (marks : List Bool) → n ≡ length es → n ≡ i + 1 → AreReachedCounts es n marks → ((j : ℕ) → j < n → IsAnyReached es (j + 1))
    → slice_index_or marks 0 false ≡ false → IsDeadCell es i
dead_last es n i marks all e h before none = record {
  cell = omega (arith, all, e);
  dead = λ way. let t : IsTrue (slice_index_or marks 0 false) = (h 0 (omega arith)).1 (way_none es i n e all way) in cc;
  first = λ j below. reached_way es j (j + 1) refl (omega (arith, below, all, e)) (before j (omega (arith, below, e)));
}

-- a dead cell, and a path over all
pub not_both : (es : List CarryMatrix) (i : ℕ) → IsDeadCell es i → IsSome (cost_of (least_key es 0 0)) → ⊥
not_both es i d h = d.dead (total_way es i h)

pub before_more : (es : List CarryMatrix) (n : ℕ) → ((j : ℕ) → j < n → IsAnyReached es (j + 1)) → IsAnyReached es (n + 1) → (j : ℕ) → j < n + 1 → IsAnyReached es (j + 1)
before_more es n h last j low = elim (cases_lt j n) [
  | inl less ↦ h j less
  | inr more ↦ let same : n ≡ j = omega (arith, low, more) in subst (λ k. IsAnyReached es (k + 1)) same last
]
