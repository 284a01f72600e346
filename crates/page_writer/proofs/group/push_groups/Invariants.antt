use Rattle.std.proofs.Common.{◌≡◌, ◌++◌, drop}
use Rattle.page_writer.specs.Groups.{groups_words}
use Rattle.page_writer.specs.Words.{words_text}
use Rattle.page_writer.proofs.group.push_groups.Given as goal

abbrev pub invariant-groups : goal.invariant-groups
invariant-groups l =
    l.text.items ++ words_text (groups_words l.sf l.graces_written (drop l.group-index l.groups))
    ≡ l.initial.text.items ++ words_text (groups_words l.sf l.initial.graces_written l.groups)
