use Rattle.kern_reader.proofs.SignatureLemmas.{too_many_numbers}
use Rattle.kern_reader.proofs.signature.signature_of_rest.Goals as goal

pub returns-in-Some-more-clause-signature : goal.returns-in-Some-more-clause-signature
returns-in-Some-more-clause-signature c =
    let pieces = rw c.in-Some-more.is at c.first_piece.ensures.pieces in
    rw c.in-Some.is (too_many_numbers c.args.first.now c.first_piece.result.0.now c.in-Some.text.now c.in-Some-more._text.now pieces)
