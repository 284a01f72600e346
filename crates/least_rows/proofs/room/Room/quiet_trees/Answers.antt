use Rattle.std.proofs.Common.{refl}
use Rattle.std.specs.Prelude.{Result, Ok, Err, IfOk}
use Rattle.least_rows.proofs.RootRows.{bar-trees}
use Rattle.least_rows.proofs.room.Room.quiet_trees.Goals as goal

if_ok_all : {T E : Type 0} {P Q R S : T → Type 0} (r : Result T E) → ((x : T) → P x → Q x → R x → S x) → IfOk r P → IfOk r Q → IfOk r R → IfOk r S
if_ok_all (Ok x) f p q h = f x p q h
if_ok_all (Err e) f p q h = tt

pub returns : goal.returns
returns c =
    let g = c.args.grammar.now in
    let k = c.args.input.now in
    if_ok_all c.quiet_trees.result
    (λ q long rows written. bar-trees g k q.bests.rows rows (record { bests = q.bests; lists = record { rules = c.quiet_trees.new.rules; ends = q.ends } }) long refl written)
    c.quiet_trees.ensures.long c.quiet_trees.ensures.rows c.quiet_trees.ensures.written
