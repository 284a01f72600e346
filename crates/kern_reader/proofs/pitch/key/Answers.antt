use Rattle.std.proofs.Common.{◌∙◌}
use Rattle.kern_reader.proofs.PitchLemmas.{key_read}
use Rattle.kern_reader.proofs.pitch.key.Goals as goal

pub returns-in-len1-up-clause-key : goal.returns-in-len1-up-clause-key
returns-in-len1-up-clause-key c =
    c.key_of_letters.ensures.key ∙ key_read c.args.text.now _ _ c.in-len1-up.len_at_least c.letters_len-more.ensures.count c.split_at.ensures.back
