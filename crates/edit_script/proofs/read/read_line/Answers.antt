use Rattle.std.proofs.Common.{◌==◌, ap, ◌∙◌}
use Rattle.std.specs.List.{slice_split}
use Rattle.edit_script.specs.ScriptLines.{script_words}
use Rattle.edit_script.proofs.SaidLemmas.{no_keyword, read_bad, read_memory, read_ok, read_range, read_shape, words_are}
use Rattle.edit_script.proofs.read.read_line.Goals as goal

pub returns-in_default-keyword_of-clause-bad : goal.returns-in_default-keyword_of-clause-bad
returns-in_default-keyword_of-clause-bad c = λ e.
    let are = words_are c.of-words.result (script_words c.args.line.now) c.in-Some.word.now c.next.new.self (c.of-words.ensures ∙ ap (slice_split (λ b. b == 32)) c.trimmed.ensures) c.in-Some.ensures.first c.next.ensures.after in
    no_keyword _ c.in-Some.word.now c.next.new.self are c.in_default-keyword_of.ensures

pub returns-clause-command : goal.returns-clause-command
returns-clause-command c =
    let are = words_are c.of-words.result (script_words c.args.line.now) c.in-Some.word.now c.next.new.self (c.of-words.ensures ∙ ap (slice_split (λ b. b == 32)) c.trimmed.ensures) c.in-Some.ensures.first c.next.ensures.after in
    read_ok _ _ _ _ are c.in-Some-keyword_of.ensures _ c.command.result c.command.ensures

pub returns-clause-bad : goal.returns-clause-bad
returns-clause-bad c =
    let are = words_are c.of-words.result (script_words c.args.line.now) c.in-Some.word.now c.next.new.self (c.of-words.ensures ∙ ap (slice_split (λ b. b == 32)) c.trimmed.ensures) c.in-Some.ensures.first c.next.ensures.after in
    read_bad _ _ _ _ are c.in-Some-keyword_of.ensures _ c.command.result c.command.ensures

pub returns-clause-range : goal.returns-clause-range
returns-clause-range c = read_range (script_words c.args.line.now) c.command.result (returns-clause-command c)

pub returns-clause-shape : goal.returns-clause-shape
returns-clause-shape c =
    let are = words_are c.of-words.result (script_words c.args.line.now) c.in-Some.word.now c.next.new.self (c.of-words.ensures ∙ ap (slice_split (λ b. b == 32)) c.trimmed.ensures) c.in-Some.ensures.first c.next.ensures.after in
    read_shape _ _ _ _ are c.in-Some-keyword_of.ensures c.command.result c.command.ensures

pub returns-clause-memory : goal.returns-clause-memory
returns-clause-memory c = read_memory c.args.line.now c.command.result (returns-clause-shape c)
