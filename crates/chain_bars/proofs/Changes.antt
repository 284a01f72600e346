-- Levels that are written one after another.
use Rattle.std.proofs.Common.{◌≡◌, inl, inr, ℕ, zero, suc, ◌+◌, ◌-◌, ◌^◌, ◌<◌, ◌≤◌, List, length, sym, subst, ap, ◌∙◌, arith}
use Rattle.std.specs.Prelude.{slice_index_or, slice_set}
use Rattle.std.proofs.lemmas.Bool.{cases_lt}
use Rattle.rhythm_base.specs.Ranked.{CarryMatrix}
use Rattle.rhythm_base.specs.Paths.{AreCheap}
use Rattle.chain_bars.specs.Tower.{Level, AreCells, IsTower, level, level_of, room_at}
use Rattle.chain_bars.proofs.Lists.{level_read, set_length, set_same, set_other}
use Rattle.chain_bars.proofs.Towers.{level_cheap, raised_some, raised_upto}

-- the levels below `above` are those over the cells fs, and the others those over the cells es; none has lost memory
pub record IsChanging (es fs : List CarryMatrix) (before ls : List Level) (above : ℕ) : Type 0 where
  pub count : length ls ≡ 13
  pub new : (k : ℕ) → k < above → k < 13 → level ls k ≡ level_of fs k
  pub old : (k : ℕ) → above ≤ k → k < 13 → level ls k ≡ level_of es k
  pub room : (k : ℕ) → k < 13 → room_at ls k ≡ room_at before k

-- and the last level that was written differs at one place
pub record IsRenewing (es fs : List CarryMatrix) (before ls : List Level) (above place : ℕ) : Type 0 where
  pub levels : IsChanging es fs before ls above
  pub within : place < length (level_of es (above - 1))
  pub node : CarryMatrix
  pub one : level_of fs (above - 1) ≡ slice_set (level_of es (above - 1)) place node

pub change_start : (ls : List Level) (fs : List CarryMatrix) (t : Level) → IsTower (level ls 0) ls → t.nodes ≡ fs → t.room ≡ room_at ls 0 → IsChanging (level ls 0) fs ls (slice_set ls 0 t) 1
change_start ls fs t h e r = record {
  count = set_length ls 0 t ∙ h.count;
  new = first;
  old = λ k high low. ap (λ (x : Level). x.nodes) (set_other ls 0 k t _ (λ q. absurd (omega (arith, q, high)))) ∙ h.each k low;
  room = rooms;
}
  where
    some : 0 < length ls
    some = omega (arith, h.count)

    first : (k : ℕ) → k < 1 → k < 13 → level (slice_set ls 0 t) k ≡ level_of fs k
    first zero low all = ap (λ (x : Level). x.nodes) (set_same ls 0 t _ some) ∙ e
    first (suc k) low all = absurd (omega (arith, low))

    rooms : (k : ℕ) → k < 13 → room_at (slice_set ls 0 t) k ≡ room_at ls k
    rooms zero low = ap (λ (x : Level). x.room) (set_same ls 0 t _ some) ∙ r
    rooms (suc k) low = ap (λ (x : Level). x.room) (set_other ls 0 (suc k) t _ (λ q. absurd (omega (arith, q))))

pub change_step : (es fs : List CarryMatrix) (before ls : List Level) (above : ℕ) (t : Level) → IsChanging es fs before ls above → above < 13 → t.nodes ≡ level_of fs above → t.room ≡ room_at ls above
    → IsChanging es fs before (slice_set ls above t) (above + 1)
change_step es fs before ls above t h high e r = record {
  count = set_length ls above t ∙ h.count;
  new = below;
  old = λ k k_high low. ap (λ (x : Level). x.nodes) (set_other ls above k t _ (λ q. absurd (omega (arith, q, k_high)))) ∙ h.old k (omega (arith, k_high)) low;
  room = rooms;
}
  where
    held : above < length ls
    held = omega (arith, high, h.count)

    below : (k : ℕ) → k < above + 1 → k < 13 → level (slice_set ls above t) k ≡ level_of fs k
    below k low all = elim (cases_lt k above) [
      | inl less ↦ ap (λ (x : Level). x.nodes) (set_other ls above k t _ (λ q. absurd (omega (arith, q, less)))) ∙ h.new k less all
      | inr more ↦
          let place : above ≡ k = omega (arith, low, more) in
          subst (λ m. level (slice_set ls above t) m ≡ level_of fs m) place (ap (λ (x : Level). x.nodes) (set_same ls above t _ held) ∙ e)
    ]

    rooms : (k : ℕ) → k < 13 → room_at (slice_set ls above t) k ≡ room_at before k
    rooms k all = elim (cases_lt k above) [
      | inl less ↦ ap (λ (x : Level). x.room) (set_other ls above k t _ (λ q. absurd (omega (arith, q, less)))) ∙ h.room k all
      | inr more ↦ elim (cases_lt above k) [
        | inl less ↦ ap (λ (x : Level). x.room) (set_other ls above k t _ (λ q. absurd (omega (arith, q, less)))) ∙ h.room k all
        | inr same ↦
            let place : above ≡ k = omega (arith, more, same) in
            subst (λ m. room_at (slice_set ls above t) m ≡ room_at before m) place (ap (λ (x : Level). x.room) (set_same ls above t _ held) ∙ r ∙ h.room above high)
      ]
    ]

pub change_end : (es fs : List CarryMatrix) (before ls : List Level) (above : ℕ) → IsChanging es fs before ls above → 13 ≤ above → IsTower fs ls
change_end es fs before ls above h all = record { count = h.count; each = λ k low. h.new k (omega (arith, low, all)) low }

-- what a node above asks of a level
pub record Asked (fs nodes : List CarryMatrix) (k : ℕ) : Type 0 where
  pub here : nodes ≡ level_of fs k
  pub few : length nodes ≤ 4096
  pub some : 1 ≤ length nodes
  pub cheap : AreCheap (2 ^ 61 - 1) nodes

pub tower_asks : (fs nodes : List CarryMatrix) (k : ℕ) → AreCells fs → k < 13 → nodes ≡ level_of fs k → Asked fs nodes k
tower_asks fs nodes k cells low here =
    let upto : length (level_of fs k) ≤ length fs = raised_upto fs k in
    let size : length nodes ≡ length (level_of fs k) = ap length here in
    let one : 1 ≤ length (level_of fs k) = raised_some fs k cells.some in
    record {
      here = here;
      few = omega (arith, upto, size, cells.few);
      some = omega (arith, size, one);
      cheap = subst (AreCheap (2 ^ 61 - 1)) (sym here) (level_cheap fs k cells low);
    }

pub change_asks : (es fs : List CarryMatrix) (before ls : List Level) (above : ℕ) (nodes : List CarryMatrix) (t : Level) → AreCells fs → IsChanging es fs before ls above → 1 ≤ above → above < 13 → nodes ≡ (slice_index_or ls (above - 1) t).nodes
    → Asked fs nodes (above - 1)
change_asks es fs before ls above nodes t cells h some high s =
    tower_asks fs nodes (above - 1) cells (omega (arith, high)) (s ∙ level_read ls (above - 1) t (omega (arith, high, h.count)) ∙ h.new (above - 1) (omega (arith, some)) (omega (arith, high)))
