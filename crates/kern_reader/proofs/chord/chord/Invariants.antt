use Rattle.std.proofs.Common.{◌≡◌}
use Rattle.std.specs.Option.{option_map}
use Rattle.kern_reader.specs.Text.{pieces_in, text_left}
use Rattle.kern_reader.specs.Tokens.{IsWellNote, token_chord}
use Rattle.kern_reader.proofs.ChordLemmas.{chord_on}
use Rattle.kern_reader.proofs.chord.chord.Given as goal

abbrev pub invariant-notes : goal.invariant-notes
invariant-notes l = record {
  on : chord_on l.first.style l.last l.keys (pieces_in 32 (option_map (λ x. x.now) l.rest)) ≡ token_chord l.text;
  well : IsWellNote l.first;
}

abbrev pub decreases-notes : goal.decreases-notes
decreases-notes l = text_left (option_map (λ x. x.now) l.rest)
