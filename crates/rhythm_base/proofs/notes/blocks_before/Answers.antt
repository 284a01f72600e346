use Rattle.std.proofs.Common.{◌≡◌, ◌-◌, ◌++◌, length, take, ap, ◌∙◌, arith, get_or}
use Rattle.rhythm_base.specs.NoteBlocks.{Block, notes_of}
use Rattle.rhythm_base.proofs.NoteBlocks.{high, take_at}
use Rattle.rhythm_base.proofs.notes.blocks_before.Goals as goal

pub split_at-requires-in-Some : goal.split_at-requires-in-Some
split_at-requires-in-Some c =
    let bs = c.args.blocks.now in
    let i = c.in-Some.number in
    let d : Block = c.index-blocks-number.result in
    let same : d ≡ get_or bs i d = c.index-blocks-number.is in
    let from = c.from.ensures ∙ ap (λ (b : Block). b.from) same in
    let long = ap length (c.notes.ensures ∙ ap (λ (b : Block). b.notes) same) in
    let within = high bs c.args.count c.args.place i d c.requires.blocks c.in-Some.ensures c.requires.place in
    omega (arith, from, long, within)

pub returns-in-Some : goal.returns-in-Some
returns-in-Some c =
    let bs = c.args.blocks.now in
    let place = c.args.place in
    let i = c.in-Some.number in
    let d : Block = c.index-blocks-number.result in
    let same : d ≡ get_or bs i d = c.index-blocks-number.is in
    let from = c.from.ensures ∙ ap (λ (b : Block). b.from) same in
    let own = c.notes.ensures ∙ ap (λ (b : Block). b.notes) same in
    let first = c.split_at-in-Some.ensures.front ∙ (λ j. take (place - from j) (own j)) in
    let front = ap notes_of c.split_at.ensures.front in
    (λ j. front j ++ first j) ∙ take_at bs c.args.count place i d c.requires.blocks c.in-Some.ensures c.requires.place
