use Rattle.std.proofs.Common.{◌≡◌, ◌==◌, ◌++◌, ℕ, ap, sym, ◌∙◌, drop, take, arith}
use Rattle.std.specs.Prelude.{Some}
use Rattle.std.specs.List.{prefix_len, take_while}
use Rattle.derivation.proofs.NextSounds.{first_bar, own_first, rest_first}
use Rattle.derivation.proofs.ahead.SoundsAhead.push_bar.Goals as goal

pub sounds-preserved : goal.sounds-preserved
sounds-preserved c =
    let n : ℕ = c.args.number in
    let b : ℕ = c.in-Some.bar in
    let next : first_bar c.sounds.self ≡ Some b = sym c.next_number.ensures ∙ c.in-Some.is in
    let same : b ≡ n = omega (arith, c.if-bar-number.false) in
    record {
      own = ap (λ xs. xs ++ take_while (λ s. s.bar == n) c.push_next.new.self) c.in_ok-push_next.ensures.sound
          ∙ ap (λ xs. (c.sounds.sounds.items ++ take 1 c.sounds.self) ++ take_while (λ s. s.bar == n) xs) c.in_ok-push_next.ensures.rest
          ∙ own_first n b c.sounds.sounds.items c.sounds.self next same
          ∙ c.sounds.invariant.own;
      rest = ap (λ xs. drop (prefix_len (λ s. s.bar == n) xs) xs) c.in_ok-push_next.ensures.rest
          ∙ rest_first n b c.sounds.self next same
          ∙ c.sounds.invariant.rest;
    }
