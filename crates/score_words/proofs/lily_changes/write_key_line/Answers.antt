use Rattle.std.proofs.Common.{◌++◌, [], w8, ap, ◌∙◌}
use Rattle.std.specs.Prelude.{slice_index_or}
use Rattle.std.proofs.lemmas.Int.{to_z-of_z}
use Rattle.std.proofs.lemmas.Result.{on_ok_weaker}
use Rattle.score_words.specs.LilyChanges.{key_names, key_number}
use Rattle.score_words.proofs.ChangeLines.{key_after, on_ok_items}
use Rattle.score_words.proofs.lily_changes.write_key_line.Goals as goal

pub returns : goal.returns
returns c =
    on_ok_weaker c.extend_from_slice-2.result
    (λ h. key_after c.args.sf c.args.text.now.items c.extend_from_slice.new.self.items c.push_key_name.new.text.items
    c.extend_from_slice-2.new.self.items
    c.in_ok-extend_from_slice.ensures.items
    (c.in_ok-push_key_name.ensures ∙ ap (λ n. c.extend_from_slice.new.self.items ++ slice_index_or key_names n [])
    c.key_number.ensures.number
    ∙ ap (λ z. c.extend_from_slice.new.self.items ++ slice_index_or key_names (key_number z) []) (to_z-of_z w8 c.args.sf c.ranges.sf)) h)
    (on_ok_items c.extend_from_slice-2.result c.extend_from_slice-2.new.self.items _ _ c.extend_from_slice-2.ensures.items)
