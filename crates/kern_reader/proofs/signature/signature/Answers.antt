use Rattle.kern_reader.proofs.SignatureLemmas.{from_pieces}
use Rattle.kern_reader.proofs.signature.signature.Goals as goal

pub returns-clause-signature : goal.returns-clause-signature
returns-clause-signature c =
    from_pieces c.args.word.now _ _ _ _ c.split_at.ensures.back c.first_piece.ensures.pieces c.signature_of_rest.ensures.signature
