use Rattle.std.proofs.Common.{rules, arith, ap, length, ℕ, Bool, true, false, List, sym, ◌∙◌, ◌≡◌, ◌+◌, ◌++◌}
use Rattle.std.specs.Prelude.{filter, slice_index}
use Rattle.performance_prepare.specs.Ends.{held_by, holds}
use Rattle.performance_prepare.specs.Middle.{numbers_from}
use Rattle.performance_prepare.proofs.Grouped.{first_low, held_few}
use Rattle.performance_prepare.proofs.Middles.{kept_more, left_out, none_left}
use Rattle.performance_prepare.proofs.groups.held_keys.Goals as goal
use Rattle.performance_prepare.proofs.groups.held_keys.Goals.{then-is_held+in_ok-push, else-is_held}

pub is_held-requires-clause-ticks : goal.is_held-requires-clause-ticks
is_held-requires-clause-ticks c =
    let low = first_low c.args.group.now c.requires.group in
    record { early = omega (arith, low, c.first_onset-onset.ensures); late = search rules }

pub keys-preserved : goal.keys-preserved
keys-preserved c =
    let p : ℕ → Bool = λ key. holds c.args.map.now.tempos c.args.division (slice_index c.args.ends.now key) c.args.group.now key in
    let all : List ℕ = held_by c.args.map.now.tempos c.args.division c.args.ends.now c.args.group.now in
    elim c.if-is_held.branch [
      | then-is_held+in_ok-push w ↦ (
          let passes : p c.keys.key ≡ true = sym c.is_held.ensures ∙ w.if-is_held.true in
          (λ i. (w.list-is i).items ++ filter p (numbers_from (c.keys.key + 1) 128))
          ∙ kept_more p c.keys.list.items w.push.new.self.items all c.keys.key 128 c.keys-test.true passes
          (search (rules, w.in_ok-push.ensures.items)) c.keys.invariant
          )
      | else-is_held w ↦ (
          let fails : p c.keys.key ≡ false = sym c.is_held.ensures ∙ w.if-is_held.false in
          (λ i. (w.list-is i).items ++ filter p (numbers_from (c.keys.key + 1) 128))
          ∙ left_out p c.keys.list.items all c.keys.key 128 c.keys-test.true fails c.keys.invariant
          )
    ]

pub returns : goal.returns
returns c =
    let all : List ℕ = held_by c.args.map.now.tempos c.args.division c.args.ends.now c.args.group.now in
    let is : c.keys.list.items ≡ all =
    none_left (λ key. holds c.args.map.now.tempos c.args.division (slice_index c.args.ends.now key) c.args.group.now key)
    c.keys.list.items all c.keys.key 128 c.keys-test.false c.keys.invariant in
    record {
      keys = is;
      few = (let low = held_few c.args.map.now.tempos c.args.division c.args.ends.now c.args.group.now in
          let long = ap (length {A = ℕ}) is in omega (arith, low, long));
    }
