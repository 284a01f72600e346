-- One cell is set anew: at each level one node is.
use Rattle.std.proofs.Common.{◌≡◌, ℕ, zero, suc, ◌+◌, ◌-◌, ◌/◌, ◌<◌, ◌≤◌, List, [], ◌∷◌, length, sym, subst, ap, ◌∙◌, arith}
use Rattle.std.specs.Prelude.{slice_set}
use Rattle.rhythm_base.specs.Ranked.{CarryMatrix}
use Rattle.rhythm_base.specs.Paths.{IsRanked, IsCheap, AreCheap}
use Rattle.chain_bars.proofs.Changes.{IsRenewing, change_step}
use Rattle.path_laws.specs.Tables.{AllRanked}
use Rattle.chain_bars.specs.Tower.{Level, node_at, level_of, AreCells, level, room_at}
use Rattle.chain_bars.proofs.Lists.{set_length}
use Rattle.chain_bars.proofs.Towers.{half, half_is, paired_length, raised_set}

set_ranked : (es : List CarryMatrix) (n : ℕ) (c : CarryMatrix) → AllRanked es → IsRanked c → AllRanked (slice_set es n c)
set_ranked [] n c h k = tt
set_ranked (x ∷ es) zero c h k = (k, h.1)
set_ranked (x ∷ es) (suc n) c h k = (h.0, set_ranked es n c h.1 k)

set_cheap : (b : ℕ) (es : List CarryMatrix) (n : ℕ) (c : CarryMatrix) → AreCheap b es → IsCheap b c → AreCheap b (slice_set es n c)
set_cheap b [] n c h k = tt
set_cheap b (x ∷ es) zero c h k = (k, h.1)
set_cheap b (x ∷ es) (suc n) c h k = (h.0, set_cheap b es n c h.1 k)

pub set_cells : (es : List CarryMatrix) (n : ℕ) (c : CarryMatrix) → AreCells es → IsRanked c → IsCheap 500000000000 c → AreCells (slice_set es n c)
set_cells es n c h r k = record {
  few = subst (λ m. m ≤ 4096) (sym (set_length es n c)) h.few;
  some = subst (λ m. 1 ≤ m) (sym (set_length es n c)) h.some;
  ranked = set_ranked es n c h.ranked r;
  cheap = set_cheap 500000000000 es n c h.cheap k;
}

pub record Renewed (es fs : List CarryMatrix) (before ls : List Level) (above half_place : ℕ) (node : CarryMatrix) : Type 0 where
  pub within : half_place < length (level ls above)
  pub next : (t : Level) → t.nodes ≡ slice_set (level ls above) half_place node → t.room ≡ room_at ls above → IsRenewing es fs before (slice_set ls above t) (above + 1) half_place

pub renew_step : (es fs : List CarryMatrix) (before ls : List Level) (above a place half_place : ℕ) (node : CarryMatrix) → IsRenewing es fs before ls above place → above ≡ suc a → above < 13
    → half_place ≡ place / 2 → node ≡ node_at (level_of fs a) half_place → Renewed es fs before ls above half_place node
renew_step es fs before ls above a place half_place node h is high e s = record {
  within = subst (λ l. half_place < length l) (sym old_level) here;
  next = λ t written room. record {
    levels = change_step es fs before ls above t h.levels high (written ∙ ap (λ l. slice_set l half_place node) old_level ∙ sym next) room;
    within = subst (λ m. half_place < length (level_of es m)) there here;
    node = node;
    one = subst (λ m. level_of fs m ≡ slice_set (level_of es m) half_place node) there next;
  };
}
  where
    minus : above - 1 ≡ a
    minus = omega (arith, is)

    there : above ≡ above + 1 - 1
    there = omega arith

    old_level : level ls above ≡ level_of es above
    old_level = h.levels.old above (omega arith) high

    halved_place : half_place ≡ half place
    halved_place = e ∙ half_is place

    before_place : place < length (level_of es a)
    before_place = subst (λ m. place < length (level_of es m)) minus h.within

    here : half_place < length (level_of es above)
    here =
        let p = paired_length (level_of es a) in
        subst (λ m. half_place < length (level_of es m)) (sym is) (omega (arith, p.0, before_place, e))

    up : level_of fs (suc a) ≡ slice_set (level_of es (suc a)) half_place node
    up =
        raised_set es fs a place h.node (subst (λ m. level_of fs m ≡ slice_set (level_of es m) place h.node) minus h.one) before_place
        ∙ (λ i. slice_set (level_of es (suc a)) (sym halved_place i) (node_at (level_of fs a) (sym halved_place i)))
        ∙ ap (slice_set (level_of es (suc a)) half_place) (sym s)

    next : level_of fs above ≡ slice_set (level_of es above) half_place node
    next = subst (λ m. level_of fs m ≡ slice_set (level_of es m) half_place node) (sym is) up
