use Rattle.score_words.proofs.KeyBits.{all_onward}
use Rattle.score_words.proofs.rising_keys.RisingKeys.of.Goals as goal

pub returns : goal.returns
returns c = all_onward c.args.keys c.lowest.result c.lowest.ensures.few c.lowest.ensures.below
