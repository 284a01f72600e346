use Rattle.std.proofs.Common.{arith, ◌∷◌, [], ◌+◌, ◌-◌, ◌/◌, ◌<◌, ℕ, List}
use Rattle.rhythm_base.proofs.NoteBlocks.{up_to_one, after_one}
use Rattle.rhythm_base.proofs.notes.Notes.count_before.Goals as goal

pub halves-preserved-then-is_before : goal.halves-preserved-then-is_before
halves-preserved-then-is_before c =
    let x : List ℕ = c.args.channel ∷ c.args.onset ∷ c.args.key ∷ [] in
    let ns = c.args.self.now in
    let inv = c.halves.invariant in
    let test = c.halves-test.true in
    let middle : ℕ = c.halves.low + (c.halves.high - c.halves.low) / 2 in
    let low : middle < c.halves.high = omega (arith, test) in (
      omega (arith, low),
      inv.1,
      λ k d l h. up_to_one x ns c.requires middle (omega (arith, low, inv.1)) c.if-is_before.ensures k d (omega (arith, h)),
      inv.3,
    )

pub halves-preserved : goal.halves-preserved
halves-preserved c =
    let x : List ℕ = c.args.channel ∷ c.args.onset ∷ c.args.key ∷ [] in
    let ns = c.args.self.now in
    let inv = c.halves.invariant in
    let test = c.halves-test.true in
    let middle : ℕ = c.halves.low + (c.halves.high - c.halves.low) / 2 in
    let low : middle < c.halves.high = omega (arith, test) in (
      omega (arith),
      omega (arith, low, inv.1),
      inv.2,
      λ k d l h. after_one x ns c.requires middle c.if-is_before.ensures k d l h,
    )
