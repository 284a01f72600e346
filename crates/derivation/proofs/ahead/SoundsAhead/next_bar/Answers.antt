use Rattle.std.proofs.Common.{◌≡◌, ◌==◌, ◌++◌, ◌<◌, ℕ, List, length, ap, sym, ◌∙◌, drop, take, arith}
use Rattle.std.specs.List.{prefix_len, take_while}
use Rattle.std.proofs.lemmas.List.{drop-append-le, take-append-le}
use Rattle.rhythm_base.specs.declared.sound.Sound.{Sound}
use Rattle.derivation.specs.HeldSounds.{sounds_held}
use Rattle.derivation.proofs.NextSounds.{ends_before}
use Rattle.derivation.proofs.ahead.SoundsAhead.next_bar.Goals as goal

pub split_at-requires : goal.split_at-requires
split_at-requires c = omega (arith, c.if-count-self.true)

pub returns-then-count-self-clause-own : goal.returns-then-count-self-clause-own
returns-then-count-self-clause-own c =
    let n : ℕ = c.args.number in
    let plain : List Sound = c.self.inside.plain.now in
    let others : List Sound = sounds_held c.self.inside.latest c.self.inside.held.now c.self.inside.wholes.now in
    let own = prefix_len (λ (s : Sound). s.bar == n) plain in
    let count : c.own_count-count.result ≡ own = c.own_count-count.ensures in
    let within : own < length plain = omega (arith, c.if-count-self.true, count) in
    c.of.ensures ∙ c.split_at.ensures.front ∙ ap (λ k. take k plain) count
    ∙ sym (take-append-le own plain others (omega (arith, within)))
    ∙ ap (λ k. take k (plain ++ others)) (sym (ends_before n plain others within))
    ∙ ap (take_while (λ s. s.bar == n)) c.self.view_is

pub returns-then-count-self-clause-rest : goal.returns-then-count-self-clause-rest
returns-then-count-self-clause-rest c =
    let n : ℕ = c.args.number in
    let plain : List Sound = c.self.inside.plain.now in
    let others : List Sound = sounds_held c.self.inside.latest c.self.inside.held.now c.self.inside.wholes.now in
    let own = prefix_len (λ (s : Sound). s.bar == n) plain in
    let count : c.own_count-count.result ≡ own = c.own_count-count.ensures in
    let within : own < length plain = omega (arith, c.if-count-self.true, count) in
    ap (λ xs. xs ++ others) (c.split_at.ensures.back ∙ ap (λ k. drop k plain) count)
    ∙ sym (drop-append-le own plain others (omega (arith, within)))
    ∙ ap (λ k. drop k (plain ++ others)) (sym (ends_before n plain others within))
    ∙ ap (λ xs. drop (prefix_len (λ s. s.bar == n) xs) xs) c.self.view_is
