-- Leaves of a bar as a line of ticks, and the same leaves from 0 on.
use Rattle.std.proofs.Common.{◌≡◌, ℕ, ◌+◌, ◌-◌, ◌*◌, ◌≤◌, ◌<◌, min, Bool, true, false, not, ◌&&◌, cond, ◌⊎◌, inl, inr, List, [], ◌∷◌, map, filter, refl, sym, ap, ap₂, ◌∙◌, subst, arith}
use Rattle.std.specs.Prelude.{nat_lt, nat_le, Option}
use Rattle.std.proofs.Math.Nat.{mul-le-mul_right}
use Rattle.std.proofs.lemmas.Bool.Decides.{nat_tests}
use Rattle.rhythm_base.specs.Shape.{Shape}
use Rattle.rhythm_base.specs.Forest.{none, more, Tree}
use Rattle.tree_laws.proofs.Lists.{map_twice}
use Rattle.rhythm_base.proofs.Booleans.{and_left, and_right}
use Rattle.tree_laws.proofs.Runs.{IsLine-append, IsLike, AreLike}
use Rattle.tree_laws.proofs.Bars.{SideBySide, leaves-fill, times_wide}
use Rattle.rhythm_base.specs.Cells.{cut_end, has_onset, within_bar}
use Rattle.rhythm_base.specs.Leaves.{VoiceBar, Leaf, lies_in, goes_left, sounds, looks, in_bar, voice_leaves, are_bars}
use Rattle.rhythm_base.specs.declared.inner.Inner.{Inner}
use Rattle.rhythm_base.specs.Grammar.{Grammar}
use Rattle.rhythm_base.specs.Trees.{BarLeaf, is_tree, are_trees, leaves_of}
use Rattle.rhythm_base.specs.declared.rule.Rule.{Rule}
use Rattle.tree_laws.specs.Runs.{IsStep, IsLine}
use Rattle.tree_laws.specs.Voices.{Adjacent}
pub use Rattle.tree_laws.specs.Places.{reach}

-- ---- tests

pub le_tells : (a b : ℕ) → nat_le a b ≡ true → a ≤ b
le_tells a b h = grind (arith, nat_tests)

pub le_from : (a b : ℕ) → a ≤ b → nat_le a b ≡ true
le_from a b h = grind (arith, nat_tests)

pub le_not : (a b : ℕ) → b < a → nat_le a b ≡ false
le_not a b h = grind (arith, nat_tests)

pub lt_not_le : (a b : ℕ) → nat_lt a b ≡ not (nat_le b a)
lt_not_le a b = go (nat_le b a) refl
  where
    go : (t : Bool) → nat_le b a ≡ t → nat_lt a b ≡ not t
    go true e = grind (arith, nat_tests)
    go false e = grind (arith, nat_tests)

le_same : (a b c d : ℕ) → (a ≤ b → c ≤ d) → (c ≤ d → a ≤ b) → nat_le a b ≡ nat_le c d
le_same a b c d there back = go (nat_le a b) refl
  where
    go : (t : Bool) → nat_le a b ≡ t → t ≡ nat_le c d
    go true e = sym (le_from c d (there (le_tells a b e)))
    go false e = go' (nat_le c d) refl
      where
        go' : (t : Bool) → nat_le c d ≡ t → false ≡ t
        go' true k = let l : nat_le a b ≡ true = le_from a b (back (le_tells c d k)) in absurd (cc)
        go' false k = refl

ordered : (b t : ℕ) → (t < b) ⊎ (b ≤ t)
ordered b t = go (nat_le b t) refl
  where
    go : (s : Bool) → nat_le b t ≡ s → (t < b) ⊎ (b ≤ t)
    go true e = inr (le_tells b t e)
    go false e = inl (grind (arith, nat_tests))

pub take_zero : (n : ℕ) → n - 0 ≡ n
take_zero n = omega arith

zero_times : (n : ℕ) → 0 * n ≡ 0
zero_times n = grind arith

-- ---- a leaf is a step

inside_plain : (a c d e : Bool) → d ≡ not e → a && (c && d) ≡ (a && c) && not (a && e)
inside_plain true true d e h = h
inside_plain true false d e h = refl
inside_plain false c d e h = refl

pub scaled : (b r t u : ℕ) → t ≤ u → (t - b) * r ≤ (u - b) * r
scaled b r t u le = let less : t - b ≤ u - b = omega arith in mul-le-mul_right r less

halves_plain : (a b p w : ℕ) → a ≤ b → nat_le (2 * (b - p)) w ≡ true → nat_le (2 * (a - p)) w ≡ true
halves_plain a b p w le h = let low = le_tells (2 * (b - p)) w h in le_from (2 * (a - p)) w (omega arith)

no_sound : (a m r : ℕ) → 1 ≤ m → nat_le (a + m) (2 * 0 * r) ≡ false
no_sound a m r h = let nothing : 2 * 0 * r ≡ 0 = grind arith in le_not (a + m) (2 * 0 * r) (omega arith)

pub leaf-step : (r : ℕ) (bar : VoiceBar) (x : BarLeaf) → 1 ≤ x.width → 1 ≤ bar.length → IsStep (looks r) (reach r bar x.place) (record { bar = bar; part = x }) (reach r bar (x.place + x.width))
leaf-step r bar x wide long = record {
  inside = λ t. inside_plain (nat_le bar.start t) (nat_le (x.place * bar.length) ((t - bar.start) * r)) _ _ (lt_not_le ((t - bar.start) * r) ((x.place + x.width) * bar.length));
  back = back;
  later = later;
  halves = λ t u le h. halves_plain ((t - bar.start) * r) ((u - bar.start) * r) (x.place * bar.length) (x.width * bar.length) (scaled bar.start r t u le) h;
  silent = no_sound (2 * bar.start * r) ((2 * x.place + x.width) * bar.length) r (times_wide (2 * x.place + x.width) bar.length (omega arith) long);
}
  where
    back : (t : ℕ) → reach r bar (x.place + x.width) t ≡ true → reach r bar x.place t ≡ true
    back t h =
        let here = and_left (nat_le bar.start t) _ h in
        let far = le_tells _ _ (and_right (nat_le bar.start t) _ h) in
        let less : x.place ≤ x.place + x.width = omega arith in
        let low : x.place * bar.length ≤ (x.place + x.width) * bar.length = mul-le-mul_right bar.length less in
        rw (here, le_from (x.place * bar.length) ((t - bar.start) * r) (omega arith)) refl

    later : (t u : ℕ) → t ≤ u → reach r bar (x.place + x.width) t ≡ true → reach r bar (x.place + x.width) u ≡ true
    later t u le h =
        let here = le_tells bar.start t (and_left (nat_le bar.start t) _ h) in
        let far = le_tells _ _ (and_right (nat_le bar.start t) _ h) in
        let more = scaled bar.start r t u le in
        rw (le_from bar.start u (omega arith), le_from ((x.place + x.width) * bar.length) ((u - bar.start) * r) (omega arith)) refl

pub parts-line : (r : ℕ) (bar : VoiceBar) (p q : ℕ) (xs : List BarLeaf) → 1 ≤ bar.length → SideBySide p xs q → IsLine (looks r) (reach r bar p) (in_bar bar xs) (reach r bar q)
parts-line r bar p q [] long h = ap (reach r bar) h
parts-line r bar p q (x ∷ xs) long h = (
  reach r bar (p + x.width),
  subst (λ n. IsStep (looks r) (reach r bar n) (record { bar = bar; part = x }) (reach r bar (n + x.width))) h.0 (leaf-step r bar x h.1 long),
  parts-line r bar (p + x.width) q xs long h.2,
)

-- ---- bars as lines of ticks

abbrev pub from_tick : ℕ → ℕ → Bool
from_tick b t = nat_le b t

with_true : (a b : Bool) → b ≡ true → a && b ≡ a
with_true true b h = h
with_true false b h = refl

first_reached : (r : ℕ) (bar : VoiceBar) → reach r bar 0 ≡ from_tick bar.start
first_reached r bar = λ i t. each t i
  where
    each : (t : ℕ) → reach r bar 0 t ≡ from_tick bar.start t
    each t = let nothing = zero_times bar.length in with_true (nat_le bar.start t) _ (le_from (0 * bar.length) ((t - bar.start) * r) (omega arith))

last_plain : (r b l t : ℕ) → 1 ≤ r → nat_le b t && nat_le (r * l) ((t - b) * r) ≡ nat_le (b + l) t
last_plain r b l t some = go (nat_le (b + l) t) refl
  where
    turned : r * l ≡ l * r
    turned = grind arith

    go : (s : Bool) → nat_le (b + l) t ≡ s → nat_le b t && nat_le (r * l) ((t - b) * r) ≡ s
    go true e =
        let far = le_tells (b + l) t e in
        let less : l ≤ t - b = omega arith in
        let more = mul-le-mul_right r less in
        rw (le_from b t (omega arith), le_from (r * l) ((t - b) * r) (omega (arith, turned))) refl
    go false e = elim (ordered b t) [ inl h ↦ before h | inr h ↦ after h ]
      where
        before : t < b → nat_le b t && nat_le (r * l) ((t - b) * r) ≡ false
        before h = rw (le_not b t h) refl

        after : b ≤ t → nat_le b t && nat_le (r * l) ((t - b) * r) ≡ false
        after h =
            let near : t < b + l = grind (arith, nat_tests) in
            let less : (t - b) + 1 ≤ l = omega arith in
            let more = mul-le-mul_right r less in
            let apart : ((t - b) + 1) * r ≡ (t - b) * r + r = grind arith in
            rw (le_from b t h, le_not (r * l) ((t - b) * r) (omega (arith, turned))) refl

last_reached : (r : ℕ) (bar : VoiceBar) → 1 ≤ r → reach r bar r ≡ from_tick (bar.start + bar.length)
last_reached r bar some = λ i t. last_plain r bar.start bar.length t some i

-- the leaves of a tree fill its bar
pub parts-fill : (rules : List Rule) (r s : ℕ) (pin : Option Shape) (t : Tree) → 1 ≤ r → is_tree rules r s pin t ≡ true → SideBySide 0 (leaves_of rules r s t) r
parts-fill rules r s pin t some h =
    let filled = leaves-fill rules (more t.rule t.kids none) 0 ((r, s) ∷ []) (some, _) (and_left (are_trees rules ((r, s) ∷ []) (more t.rule t.kids none)) _ h) in
    let end : 0 + (r + 0) ≡ r = omega arith in
    subst (λ n. SideBySide 0 (leaves_of rules r s t) n) end filled

pub bar-line : (r : ℕ) (bar : VoiceBar) (xs : List BarLeaf) → 1 ≤ r → 1 ≤ bar.length → SideBySide 0 xs r → IsLine (looks r) (from_tick bar.start) (in_bar bar xs) (from_tick (bar.start + bar.length))
bar-line r bar xs some long h =
    subst (λ z. IsLine (looks r) (from_tick bar.start) (in_bar bar xs) z) (last_reached r bar some)
    (subst (λ s. IsLine (looks r) s (in_bar bar xs) (reach r bar r)) (first_reached r bar) (parts-line r bar 0 r xs long h))

-- the leaves of all bars are one line
pub voice-line : (g : Grammar) (bars : List VoiceBar) (ts : List Tree) (b e : ℕ) → 1 ≤ g.resolution → Adjacent b bars e → are_bars g bars ts ≡ true → IsLine (looks g.resolution) (from_tick b) (voice_leaves g bars ts) (from_tick e)
voice-line g [] [] b e some near h = ap from_tick near
voice-line g [] (t ∷ ts) b e some near h = absurd (cc)
voice-line g (bar ∷ bars) [] b e some near h = absurd (cc)
voice-line g (bar ∷ bars) (t ∷ ts) b e some near h =
    let tree = and_left (is_tree g.rules g.resolution bar.symbol bar.pin t) _ h in
    let first = bar-line g.resolution bar (leaves_of g.rules g.resolution bar.symbol t) some near.1 (parts-fill g.rules g.resolution bar.symbol bar.pin t some tree) in
    let others = voice-line g bars ts (b + bar.length) e some near.2 (and_right (is_tree g.rules g.resolution bar.symbol bar.pin t) _ h) in
    IsLine-append (looks g.resolution) [] (from_tick b) (from_tick (b + bar.length)) (from_tick e) (in_bar bar (leaves_of g.rules g.resolution bar.symbol t)) (voice_leaves g bars ts)
    (subst (λ n. IsLine (looks g.resolution) (from_tick n) (in_bar bar (leaves_of g.rules g.resolution bar.symbol t)) (from_tick (n + bar.length))) near.0 first) others

-- ---- the leaves of a bar, from 0 on

abbrev pub at_zero : VoiceBar → VoiceBar
at_zero bar = record { start = 0; length = bar.length; num = bar.num; den = bar.den; symbol = bar.symbol; pin = bar.pin }

same_parts : (a e c d : Bool) → (a ≡ true → d ≡ true → e ≡ true) → (a && e) && (c && d) ≡ a && (c && d)
same_parts false e c d h = refl
same_parts true true c d h = refl
same_parts true false true true h = h refl refl
same_parts true false true false h = refl
same_parts true false false d h = refl

pub lies-moved : (r : ℕ) (bar : VoiceBar) (x : BarLeaf) (t : ℕ) → x.place + x.width ≤ r
    → has_onset bar t && lies_in r (record { bar = at_zero bar; part = x }) (t - bar.start) ≡ lies_in r (record { bar = bar; part = x }) t
lies-moved r bar x t within =
    rw (take_zero (t - bar.start), le_from 0 (t - bar.start) (omega arith))
    (same_parts (nat_le bar.start t) (nat_lt t (bar.start + bar.length)) _ (nat_lt ((t - bar.start) * r) ((x.place + x.width) * bar.length)) inner)
  where
    inner : nat_le bar.start t ≡ true → nat_lt ((t - bar.start) * r) ((x.place + x.width) * bar.length) ≡ true → nat_lt t (bar.start + bar.length) ≡ true
    inner h k = go (nat_lt t (bar.start + bar.length)) refl
      where
        go : (s : Bool) → nat_lt t (bar.start + bar.length) ≡ s → s ≡ true
        go true e = refl
        go false e =
            let far : bar.length ≤ t - bar.start = grind (arith, nat_tests) in
            let more = mul-le-mul_right r far in
            let most = mul-le-mul_right bar.length within in
            let turned : r * bar.length ≡ bar.length * r = grind arith in
            let less : (t - bar.start) * r < (x.place + x.width) * bar.length = grind (arith, nat_tests) in
            absurd (omega arith)

pub left-moved : (r : ℕ) (bar : VoiceBar) (x : BarLeaf) (t : ℕ) → goes_left r (record { bar = at_zero bar; part = x }) (t - bar.start) ≡ goes_left r (record { bar = bar; part = x }) t
left-moved r bar x t = rw (take_zero (t - bar.start)) refl

-- an end sounds in a leaf exactly where the cut end sounds in it from 0 on
sounds_plain : (r b e l m : ℕ) → 1 ≤ m → m ≤ 2 * l * r → nat_le (2 * 0 * r + m) (2 * min (e - b) l * r) ≡ nat_le (2 * b * r + m) (2 * e * r)
sounds_plain r b e l m some most = le_same (2 * 0 * r + m) (2 * min (e - b) l * r) (2 * b * r + m) (2 * e * r) there back
  where
    nothing : 2 * 0 * r ≡ 0
    nothing = grind arith

    -- an end after the start, by what it is after it
    parts : b ≤ e → 2 * e * r ≡ 2 * b * r + 2 * (e - b) * r
    parts h = let whole : e ≡ b + (e - b) = omega arith in go (e - b) whole
      where
        go : (d : ℕ) → e ≡ b + d → 2 * e * r ≡ 2 * b * r + 2 * d * r
        go d w = let apart : 2 * (b + d) * r ≡ 2 * b * r + 2 * d * r = grind arith in ap (λ n. 2 * n * r) w ∙ apart

    there : 2 * 0 * r + m ≤ 2 * min (e - b) l * r → 2 * b * r + m ≤ 2 * e * r
    there h = elim (ordered b e) [ inl k ↦ before k | inr k ↦ after k ]
      where
        before : e < b → 2 * b * r + m ≤ 2 * e * r
        before k = let none : min (e - b) l ≡ 0 = omega arith in let h' : 2 * 0 * r + m ≤ 2 * 0 * r = rw none at h in absurd (omega arith)

        after : b ≤ e → 2 * b * r + m ≤ 2 * e * r
        after k =
            let less : 2 * min (e - b) l ≤ 2 * (e - b) = omega arith in
            let more = mul-le-mul_right r less in
            let all = parts k in omega (arith, nothing)

    back : 2 * b * r + m ≤ 2 * e * r → 2 * 0 * r + m ≤ 2 * min (e - b) l * r
    back h = elim (ordered b e) [ inl k ↦ before k | inr k ↦ after k ]
      where
        before : e < b → 2 * 0 * r + m ≤ 2 * min (e - b) l * r
        before k =
            let less : 2 * e ≤ 2 * b = omega arith in
            let more = mul-le-mul_right r less in absurd (omega arith)

        after : b ≤ e → 2 * 0 * r + m ≤ 2 * min (e - b) l * r
        after k = let all = parts k in go (min (e - b) l) (which (e - b) l)
          where
            which : (d l : ℕ) → (min d l ≡ d) ⊎ (min d l ≡ l)
            which d l = elim (ordered d l) [ inl h ↦ inr (omega arith) | inr h ↦ inl (omega arith) ]

            go : (n : ℕ) → (n ≡ e - b) ⊎ (n ≡ l) → 2 * 0 * r + m ≤ 2 * n * r
            go n (inl w) = let full : 2 * n * r ≡ 2 * (e - b) * r = ap (λ n. 2 * n * r) w in omega (arith, nothing, parts k)
            go n (inr w) = let full : 2 * n * r ≡ 2 * l * r = ap (λ n. 2 * n * r) w in omega (arith, nothing)

pub sounds-moved : (r : ℕ) (bar : VoiceBar) (x : BarLeaf) (e : ℕ) → 1 ≤ x.width → 1 ≤ bar.length → x.place + x.width ≤ r
    → sounds r (record { bar = at_zero bar; part = x }) (cut_end bar e) ≡ sounds r (record { bar = bar; part = x }) e
sounds-moved r bar x e wide long within =
    sounds_plain r bar.start e bar.length ((2 * x.place + x.width) * bar.length) (times_wide (2 * x.place + x.width) bar.length (omega arith) long) most
  where
    most : (2 * x.place + x.width) * bar.length ≤ 2 * bar.length * r
    most =
        let less : 2 * x.place + x.width ≤ 2 * r = omega arith in
        let more = mul-le-mul_right bar.length less in
        let turned : 2 * r * bar.length ≡ 2 * bar.length * r = grind arith in omega arith

-- what passes after a move, of what passed before
filter_moved : {A B : Type 0} (p : B → Bool) (q : A → Bool) (f : A → B) (xs : List A) → filter p (map f (filter q xs)) ≡ map f (filter (λ x. q x && p (f x)) xs)
filter_moved p q f [] = refl
filter_moved {A} {B} p q f (x ∷ xs) = go (q x) (p (f x)) refl (filter_moved p q f xs)
  where
    go : (a b : Bool) → p (f x) ≡ b → filter p (map f (filter q xs)) ≡ map f (filter (λ x. q x && p (f x)) xs)
        → filter p (map f (cond a (x ∷ filter q xs) (filter q xs))) ≡ map f (cond (a && b) (x ∷ filter (λ x. q x && p (f x)) xs) (filter (λ x. q x && p (f x)) xs))
    go true true e ih = rw e (ap (λ l. f x ∷ l) ih)
    go true false e ih = rw e ih
    go false b e ih = ih

-- the ends of the kept chords, moved
ends_moved : (bar : VoiceBar) (p q : ℕ → Bool) (cs : List Inner) → ((t : ℕ) → has_onset bar t && p (t - bar.start) ≡ q t)
    → map (λ c. c.end) (filter (λ c. p c.onset) (map (within_bar bar) (filter (λ c. has_onset bar c.onset) cs))) ≡ map (cut_end bar) (map (λ c. c.end) (filter (λ c. q c.onset) cs))
ends_moved bar p q cs same =
    ap (map (λ c. c.end)) (filter_moved (λ c. p c.onset) (λ c. has_onset bar c.onset) (within_bar bar) cs)
    ∙ map_twice (λ c. c.end) (within_bar bar) (filter (λ c. has_onset bar c.onset && p (c.onset - bar.start)) cs)
    ∙ (λ i. map (λ c. cut_end bar c.end) (filter (λ c. same c.onset i) cs))
    ∙ sym (map_twice (cut_end bar) (λ c. c.end) (filter (λ c. q c.onset) cs))

and_over : (a b c : Bool) → a && (b && c) ≡ (a && b) && c
and_over true b c = refl
and_over false b c = refl

pub part-like : (r : ℕ) (bar : VoiceBar) (cs : List Inner) (x : BarLeaf) → 1 ≤ x.width → 1 ≤ bar.length → x.place + x.width ≤ r
    → IsLike (looks r) cs (map (within_bar bar) (filter (λ c. has_onset bar c.onset) cs)) (cut_end bar) (record { bar = bar; part = x }) (record { bar = at_zero bar; part = x })
part-like r bar cs x wide long within = record {
  lefts = ends_moved bar (λ t. lies_in r y t && goes_left r y t) (λ t. lies_in r z t && goes_left r z t) cs
      (λ t. and_over (has_onset bar t) (lies_in r y (t - bar.start)) (goes_left r y (t - bar.start)) ∙ ap₂ ◌&&◌ (lies-moved r bar x t within) (left-moved r bar x t));
  rights = ends_moved bar (λ t. lies_in r y t && not (goes_left r y t)) (λ t. lies_in r z t && not (goes_left r z t)) cs
      (λ t. and_over (has_onset bar t) (lies_in r y (t - bar.start)) (not (goes_left r y (t - bar.start))) ∙ ap₂ ◌&&◌ (lies-moved r bar x t within) (ap not (left-moved r bar x t)));
  sounds = λ e. sounds-moved r bar x e wide long within;
  body = refl;
}
  where
    y : Leaf
    y = record { bar = at_zero bar; part = x }

    z : Leaf
    z = record { bar = bar; part = x }

pub before_end : (p q : ℕ) (xs : List BarLeaf) → SideBySide p xs q → p ≤ q
before_end p q [] h = omega (arith, h)
before_end p q (x ∷ xs) h = let ih = before_end (p + x.width) q xs h.2 in omega arith

pub parts-like : (r : ℕ) (bar : VoiceBar) (cs : List Inner) (p : ℕ) (xs : List BarLeaf) → 1 ≤ bar.length → SideBySide p xs r
    → AreLike (looks r) cs (map (within_bar bar) (filter (λ c. has_onset bar c.onset) cs)) (cut_end bar) (in_bar bar xs) (in_bar (at_zero bar) xs)
parts-like r bar cs p [] long h = _
parts-like r bar cs p (x ∷ xs) long h =
    let within = before_end (p + x.width) r xs h.2 in
    let place = h.0 in
    (part-like r bar cs x h.1 long (omega arith), parts-like r bar cs (p + x.width) xs long h.2)
