use Rattle.std.proofs.Common.{rules, ◌≡◌, sym}
use Rattle.rhythm_app.proofs.line.write_midi_stop.Goals as goal

pub returns-in-TooManyNotes : goal.returns-in-TooManyNotes
returns-in-TooManyNotes g c = rw c.in-TooManyNotes.is c.write_limit-in-TooManyNotes.ensures

pub returns-in-TooManyCells : goal.returns-in-TooManyCells
returns-in-TooManyCells g c = rw c.in-TooManyCells.is c.write_limit-in-TooManyCells.ensures

pub returns-in-BadSignature : goal.returns-in-BadSignature
returns-in-BadSignature g c = rw c.in-BadSignature.is c.write_signature.ensures

pub returns-in-NoDerivation : goal.returns-in-NoDerivation
returns-in-NoDerivation g c =
    let channel : c.from.result ≡ c.in-NoDerivation.channel = search rules in
    let bar : c.from-in-NoDerivation.result ≡ c.in-NoDerivation.bar = search rules in
    rw (c.in-NoDerivation.is, sym channel, sym bar) c.write_pair.ensures
