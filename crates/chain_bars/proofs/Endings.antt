-- Cells that differ at the end: so does each level above them.
use Rattle.std.proofs.Common.{◌≡◌, ℕ, zero, suc, ◌+◌, ◌-◌, ◌/◌, ◌<◌, ◌≤◌, List, [], ◌∷◌, ◌++◌, length, take, refl, sym, subst, ap, ◌∙◌, arith}
use Rattle.std.specs.Prelude.{slice_index_or, slice_set}
use Rattle.std.proofs.lemmas.List.{length_push}
use Rattle.rhythm_base.specs.Ranked.{CarryMatrix, product_of}
use Rattle.chain_bars.specs.Endings.{HasNewEnd, IsEnding}
use Rattle.chain_bars.proofs.Changes.{IsChanging, change_step}
use Rattle.rhythm_base.specs.Paths.{AreCheap}
use Rattle.chain_bars.specs.Tower.{Level, AreCells, HasRoom, IsTower, halved, level, node_at, level_above, level_of, room_at}
use Rattle.chain_bars.proofs.Lists.{length_take, set_length, set_other, set_same}
use Rattle.chain_bars.proofs.Sides.{ranked_take}
use Rattle.chain_bars.proofs.Towers.{halved_more, paired_at, paired_length, raised_length, raised_some}

ending_cons : (x y : CarryMatrix) (es fs : List CarryMatrix) → x ≡ y → IsEnding es fs → IsEnding (x ∷ es) (y ∷ fs)
ending_cons x y es [] e h = absurd h
ending_cons x y es (z ∷ fs) e h = (e, h)

ending_paired : (es fs : List CarryMatrix) → IsEnding es fs → IsEnding (level_above es) (level_above fs)
ending_paired es [] h = absurd h
ending_paired es (y ∷ []) h = tt
ending_paired [] (y ∷ z ∷ []) h = absurd h
ending_paired (x ∷ es) (y ∷ z ∷ []) h = tt
ending_paired [] (y ∷ z ∷ v ∷ fs) h = absurd h
ending_paired (x ∷ []) (y ∷ z ∷ v ∷ fs) h = absurd h.1
ending_paired (x ∷ w ∷ es) (y ∷ z ∷ v ∷ fs) h =
    ending_cons (product_of x w) (product_of y z) (level_above es) (level_above (v ∷ fs)) (λ i. product_of (h.0 i) (h.1.0 i)) (ending_paired es (v ∷ fs) h.1.1)

pub ending_raised : (es fs : List CarryMatrix) (k : ℕ) → IsEnding es fs → IsEnding (level_of es k) (level_of fs k)
ending_raised es fs zero h = h
ending_raised es fs (suc k) h = ending_paired (level_of es k) (level_of fs k) (ending_raised es fs k h)

-- what is written there
pub ending_write : (es fs : List CarryMatrix) (last : ℕ) (node : CarryMatrix) → IsEnding es fs → length fs ≡ suc last → node ≡ slice_index_or fs last [] → take last es ++ node ∷ [] ≡ fs
ending_write es [] last node h e s = absurd h
ending_write es (y ∷ []) zero node h e s = ap (λ n. n ∷ []) s
ending_write es (y ∷ []) (suc last) node h e s = absurd (omega (arith, e))
ending_write [] (y ∷ z ∷ fs) last node h e s = absurd h
ending_write (x ∷ es) (y ∷ z ∷ fs) zero node h e s = absurd (omega (arith, e))
ending_write (x ∷ es) (y ∷ z ∷ fs) (suc last) node h e s = λ i. h.0 i ∷ ending_write es (z ∷ fs) last node h.1 (omega (arith, e)) s i

pub ending_push : (es : List CarryMatrix) (c : CarryMatrix) → IsEnding es (es ++ c ∷ [])
ending_push [] c = tt
ending_push (x ∷ es) c = ending_cons x x es (es ++ c ∷ []) refl (ending_push es c)

pub ending_take : (es : List CarryMatrix) (n : ℕ) → n ≤ length es → 1 ≤ n → IsEnding es (take n es)
ending_take es zero e h = absurd (omega (arith, h))
ending_take [] (suc n) e h = absurd (omega (arith, e))
ending_take (x ∷ es) (suc zero) e h = tt
ending_take (x ∷ es) (suc (suc n)) e h = ending_cons x x es (take (suc n) es) refl (ending_take es (suc n) (omega (arith, e)) (omega arith))

cheap_take : (c : ℕ) (es : List CarryMatrix) (n : ℕ) → AreCheap c es → AreCheap c (take n es)
cheap_take c es zero h = tt
cheap_take c [] (suc n) h = tt
cheap_take c (x ∷ es) (suc n) h = (h.0, cheap_take c es n h.1)

pub cells_take : (es : List CarryMatrix) (n : ℕ) → AreCells es → 1 ≤ n → n ≤ length es → AreCells (take n es)
cells_take es n h some low =
    let size : length (take n es) ≡ n = length_take es n low in
    record {
      few = omega (arith, size, low, h.few);
      some = omega (arith, size, some);
      ranked = ranked_take es n h.ranked;
      cheap = cheap_take 500000000000 es n h.cheap;
    }

-- ---- the loop

pub end_start : (ls : List Level) (h : HasNewEnd ls) → IsChanging h.before (level ls 0) ls ls 1
end_start ls h = record { count = h.count; new = first; old = λ k high low. h.above k high low; room = λ k low. refl }
  where
    first : (k : ℕ) → k < 1 → k < 13 → level ls k ≡ level_of (level ls 0) k
    first zero low all = refl
    first (suc k) low all = absurd (omega (arith, low))

-- the level above has a place for its last node
pub end_held : (start ls : List Level) (h : HasNewEnd start) (k above last : ℕ) (nodes : List CarryMatrix) → IsChanging h.before (level start 0) start ls above → above ≡ suc k → above < 13 → nodes ≡ level_of (level start 0) k
    → last ≡ (length nodes - 1) / 2 → last < room_at ls above
end_held start ls h k above last nodes c e high here l =
    let fs : List CarryMatrix = level start 0 in
    let some : 1 ≤ length (level_of fs k) = raised_some fs k h.cells.some in
    let size : length nodes ≡ length (level_of fs k) = ap length here in
    let pairs = paired_length (level_of fs k) in
    let many : length (level_of fs (suc k)) ≡ halved (length fs) (suc k) = raised_length fs (suc k) in
    let memory : halved (length fs) (suc k) ≤ room_at start (suc k) = h.room (suc k) (omega (arith, e, high)) in
    let kept : room_at ls above ≡ room_at start (suc k) = c.room above high ∙ ap (room_at start) e in
    omega (arith, some, size, pairs.0, pairs.1, many, memory, kept, l)

pub end_step : (start ls : List Level) (h : HasNewEnd start) (k above last : ℕ) (nodes : List CarryMatrix) (node : CarryMatrix) (t : Level) → IsChanging h.before (level start 0) start ls above → above ≡ suc k → above < 13
    → nodes ≡ level_of (level start 0) k → last ≡ (length nodes - 1) / 2 → node ≡ node_at nodes last → t.nodes ≡ take last (level ls above) ++ node ∷ [] → t.room ≡ room_at ls above
    → IsChanging h.before (level start 0) start (slice_set ls above t) (above + 1)
end_step start ls h k above last nodes node t c e high here l a w r = change_step h.before (level start 0) start ls above t c high written r
  where
    fs : List CarryMatrix
    fs = level start 0

    written : t.nodes ≡ level_of fs above
    written =
        let some : 1 ≤ length (level_of fs k) = raised_some fs k h.cells.some in
        let size : length nodes ≡ length (level_of fs k) = ap length here in
        let pairs = paired_length (level_of fs k) in
        let counted : length (level_of fs (suc k)) ≡ suc last = omega (arith, some, size, pairs.0, pairs.1, l) in
        let up : level ls above ≡ level_of h.before (suc k) = c.old above (omega arith) high ∙ ap (level_of h.before) e in
        let node_is : node ≡ slice_index_or (level_of fs (suc k)) last [] = a ∙ ap (λ m. node_at m last) here ∙ sym (paired_at (level_of fs k) last) in
        w ∙ ap (λ m. take last m ++ node ∷ []) up
        ∙ ending_write (level_of h.before (suc k)) (level_of fs (suc k)) last node (ending_raised h.before fs (suc k) h.ending) counted node_is
        ∙ ap (level_of fs) (sym e)

-- ---- a new lowest level

pub new_end : (ls : List Level) (fs : List CarryMatrix) (t : Level) → IsTower (level ls 0) ls → AreCells fs → IsEnding (level ls 0) fs → HasRoom (length fs) ls → t.nodes ≡ fs → t.room ≡ room_at ls 0 → HasNewEnd (slice_set ls 0 t)
new_end ls fs t h cells ending held e r = record {
  cells = subst AreCells (sym lowest) cells;
  count = set_length ls 0 t ∙ h.count;
  before = level ls 0;
  above = λ k high low. ap (λ (x : Level). x.nodes) (set_other ls 0 k t _ (λ q. absurd (omega (arith, q, high)))) ∙ h.each k low;
  ending = subst (IsEnding (level ls 0)) (sym lowest) ending;
  room = λ k low. subst (λ n. halved n k ≤ room_at (slice_set ls 0 t) k) (ap length (sym lowest)) (subst (λ n. halved (length fs) k ≤ n) (sym (rooms k low)) (held k low));
}
  where
    some : 0 < length ls
    some = omega (arith, h.count)

    lowest : level (slice_set ls 0 t) 0 ≡ fs
    lowest = ap (λ (x : Level). x.nodes) (set_same ls 0 t _ some) ∙ e

    rooms : (k : ℕ) → k < 13 → room_at (slice_set ls 0 t) k ≡ room_at ls k
    rooms zero low = ap (λ (x : Level). x.room) (set_same ls 0 t _ some) ∙ r
    rooms (suc k) low = ap (λ (x : Level). x.room) (set_other ls 0 (suc k) t _ (λ q. absurd (omega (arith, q))))

pub lowest_set : (ls : List Level) (t : Level) → 0 < length ls → level (slice_set ls 0 t) 0 ≡ t.nodes
lowest_set ls t some = ap (λ (x : Level). x.nodes) (set_same ls 0 t _ some)

-- fewer cells want no more memory
pub room_less : (n m : ℕ) (ls : List Level) → n ≤ m → HasRoom m ls → HasRoom n ls
room_less n m ls low h = λ k k_low.
    let memory = h k k_low in
    let less : halved n k ≤ halved m k = halved_more n m k low in
    omega (arith, memory, less)

pub push_end : (ls : List Level) (c : CarryMatrix) (t : Level) → IsTower (level ls 0) ls → AreCells (level ls 0 ++ c ∷ []) → HasRoom (length (level ls 0) + 1) ls → t.nodes ≡ level ls 0 ++ c ∷ [] → t.room ≡ room_at ls 0 → HasNewEnd (slice_set ls 0 t)
push_end ls c t h cells held e r =
    let es : List CarryMatrix = level ls 0 in
    new_end ls (es ++ c ∷ []) t h cells (ending_push es c) (subst (λ n. HasRoom n ls) (sym (length_push es c)) held) e r

pub pop_end : (ls : List Level) (n : ℕ) (t : Level) → IsTower (level ls 0) ls → AreCells (level ls 0) → HasRoom (length (level ls 0)) ls → n + 1 ≡ length (level ls 0) → 1 ≤ n → t.nodes ≡ take n (level ls 0) → t.room ≡ room_at ls 0
    → HasNewEnd (slice_set ls 0 t)
pop_end ls n t h cells held size some e r =
    let es : List CarryMatrix = level ls 0 in
    let low : n ≤ length es = omega (arith, size) in
    new_end ls (take n es) t h (cells_take es n cells some low) (ending_take es n low some) (room_less (length (take n es)) (length es) ls (let m : length (take n es) ≡ n = length_take es n low in omega (arith, m, low)) held) e r
