use Rattle.std.proofs.Common.{◌≡◌, ◌==◌, ◌++◌, drop, length}
use Rattle.std.specs.List.{prefix_len, take_while}
use Rattle.derivation.proofs.ahead.SoundsAhead.push_bar.Given as goal

abbrev pub invariant-sounds : goal.invariant-sounds
invariant-sounds l = record {
  own : l.sounds.items ++ take_while (λ s. s.bar == l.number) l.self ≡ l.initial.sounds.items ++ take_while (λ s. s.bar == l.number) l.initial.self;
  rest : drop (prefix_len (λ s. s.bar == l.number) l.self) l.self ≡ drop (prefix_len (λ s. s.bar == l.number) l.initial.self) l.initial.self;
}

abbrev pub decreases-sounds : goal.decreases-sounds
decreases-sounds l = length l.self
