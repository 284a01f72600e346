use Rattle.std.proofs.Common.{◌++◌}
use Rattle.kern_reader.specs.EventText.{keys_text}
use Rattle.kern_reader.proofs.KeyLemmas.{key_listed}
use Rattle.kern_reader.proofs.event_text.push_keys.Goals as goal

pub keys-preserved : goal.keys-preserved
keys-preserved c =
    key_listed c.keys.first c.in-Some.key c.keys.left c.next.new.self c.keys.text.items c.push_key.new.text.items (c.args.text.now.items ++ keys_text c.args.keys)
    c.in-Some.ensures.keys c.keys.invariant c.in_ok-push_key.ensures
