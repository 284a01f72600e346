use Rattle.std.proofs.Common.{ℕ, ◌+◌, ◌-◌, ◌/◌, ◌<◌, arith}
use Rattle.voices.proofs.VoiceParts.{after_one, up_to_one}
use Rattle.voices.proofs.voice_notes.VoiceNotes.count_before.Goals as goal

pub halves-preserved-then-onset-tick : goal.halves-preserved-then-onset-tick
halves-preserved-then-onset-tick c =
    let ns = c.args.self.now in
    let tick = c.args.tick in
    let inv = c.halves.invariant in
    let middle : ℕ = c.halves.low + (c.halves.high - c.halves.low) / 2 in
    let test = c.halves-test.true in
    let low : middle < c.halves.high = omega (arith, test) in (
      omega (arith, low),
      inv.1,
      λ k d l h. up_to_one ns tick c.requires middle (omega (arith, low, inv.1)) (λ e. let at = c.onset.ensures e in omega (arith, at, c.if-onset-tick.true)) k d (omega (arith, h)),
      inv.3,
    )

pub halves-preserved : goal.halves-preserved
halves-preserved c =
    let ns = c.args.self.now in
    let tick = c.args.tick in
    let inv = c.halves.invariant in
    let middle : ℕ = c.halves.low + (c.halves.high - c.halves.low) / 2 in
    let test = c.halves-test.true in
    let low : middle < c.halves.high = omega (arith, test) in (
      omega arith,
      omega (arith, low, inv.1),
      inv.2,
      λ k d l h. after_one ns tick c.requires middle (λ e. let at = c.onset.ensures e in omega (arith, at, c.if-onset-tick.false)) k d l h,
    )
