use Rattle.std.proofs.Common.{◌≡◌, map, drop}
use Rattle.std.specs.List.{before_first}
use Rattle.command_line.specs.Requests.{asks, has_free, is_dashes, is_named}
use Rattle.command_line.proofs.requests.asks_by.Given as goal

abbrev pub invariant-loop-word : goal.invariant-loop-word
invariant-loop-word l = asks (is_named l.long l.letter) (map (λ s. s.now) l.words)
    ≡ has_free (is_named l.long l.letter) l.follows (before_first is_dashes (map (λ s. s.now) (drop l.word-index l.words)))
