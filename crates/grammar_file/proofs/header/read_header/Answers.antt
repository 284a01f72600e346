use Rattle.std.proofs.Common.{slice_get, sym, ap, ◌∙◌}
use Rattle.std.proofs.lemmas.Result.{err_from_is_err_and}
use Rattle.std.specs.Prelude.{codes}
use Rattle.grammar_file.proofs.HeaderLemmas.{header_1, header_2, header_3, header_4, header_5, line_after, one_after, one_more_after}
use Rattle.grammar_file.specs.Header.{line_says, said_number, weights_of}
use Rattle.grammar_file.proofs.header.read_header.Goals as goal

pub returns-in_err-version-clause-value : goal.returns-in_err-version-clause-value
returns-in_err-version-clause-value c =
    let p = err_from_is_err_and c.from_residual.result c.from_residual.ensures.1 in
    rw (p.1, p.2) (λ other. header_1 c.args.lines.now _ (c.in_err-version.ensures.value other))

pub returns-in_err-resolution-clause-value : goal.returns-in_err-resolution-clause-value
returns-in_err-resolution-clause-value c =
    let content = c.args.lines.now in
    let first = one_after content c.read_version.new.lines c.in_ok-version.ensures.after in
    let p = err_from_is_err_and c.from_residual-in_err-resolution.result c.from_residual-in_err-resolution.ensures.1 in
    rw (p.1, p.2) (λ other. header_2 content _ c.in_ok-version.version c.in_ok-version.ensures.value
    (ap (λ units. line_says content.end (said_number (codes "resolution") 1 units) (slice_get content.lines 1)) (sym c.most_units.ensures.value)
    ∙ sym (line_after 1 content c.read_version.new.lines (said_number (codes "resolution") 1 c.most_units.result) first)
    ∙ c.in_err-resolution.ensures.value other))

pub returns-in_err-window-clause-value : goal.returns-in_err-window-clause-value
returns-in_err-window-clause-value c =
    let content = c.args.lines.now in
    let first = one_after content c.read_version.new.lines c.in_ok-version.ensures.after in
    let second = one_more_after 1 content c.read_version.new.lines c.read_number.new.lines first c.in_ok-resolution.ensures.after in
    let p = err_from_is_err_and c.from_residual-in_err-window.result c.from_residual-in_err-window.ensures.1 in
    rw (p.1, p.2) (λ other. header_3 content _ c.in_ok-version.version c.in_ok-resolution.resolution c.in_ok-version.ensures.value
    (ap (λ units. line_says content.end (said_number (codes "resolution") 1 units) (slice_get content.lines 1)) (sym c.most_units.ensures.value)
    ∙ sym (line_after 1 content c.read_version.new.lines (said_number (codes "resolution") 1 c.most_units.result) first)
    ∙ c.in_ok-resolution.ensures.value)
    (sym (line_after 2 content c.read_number.new.lines (said_number (codes "window") 0 1000000) second) ∙ c.in_err-window.ensures.value other))

pub returns-in_err-early-clause-value : goal.returns-in_err-early-clause-value
returns-in_err-early-clause-value c =
    let content = c.args.lines.now in
    let version = c.in_ok-version.version in
    let first = one_after content c.read_version.new.lines c.in_ok-version.ensures.after in
    let second = one_more_after 1 content c.read_version.new.lines c.read_number.new.lines first c.in_ok-resolution.ensures.after in
    let third = one_more_after 2 content c.read_number.new.lines c.read_number-2.new.lines second c.in_ok-window.ensures.after in
    let p = err_from_is_err_and c.from_residual-in_err-early.result c.from_residual-in_err-early.ensures.1 in
    rw (p.1, p.2) (λ other. header_4 content _ version c.in_ok-resolution.resolution c.in_ok-window.window c.in_ok-version.ensures.value
    (ap (λ units. line_says content.end (said_number (codes "resolution") 1 units) (slice_get content.lines 1)) (sym c.most_units.ensures.value)
    ∙ sym (line_after 1 content c.read_version.new.lines (said_number (codes "resolution") 1 c.most_units.result) first)
    ∙ c.in_ok-resolution.ensures.value)
    (sym (line_after 2 content c.read_number.new.lines (said_number (codes "window") 0 1000000) second) ∙ c.in_ok-window.ensures.value)
    (sym (line_after 3 content c.read_number-2.new.lines (weights_of version) third) ∙ c.in_err-early.ensures.value other))

pub returns-clause-value : goal.returns-clause-value
returns-clause-value c =
    let content = c.args.lines.now in
    let version = c.in_ok-version.version in
    let first = one_after content c.read_version.new.lines c.in_ok-version.ensures.after in
    let second = one_more_after 1 content c.read_version.new.lines c.read_number.new.lines first c.in_ok-resolution.ensures.after in
    let third = one_more_after 2 content c.read_number.new.lines c.read_number-2.new.lines second c.in_ok-window.ensures.after in
    header_5 content version c.in_ok-resolution.resolution c.in_ok-window.window _ c.in_ok-version.ensures.value
    (ap (λ units. line_says content.end (said_number (codes "resolution") 1 units) (slice_get content.lines 1)) (sym c.most_units.ensures.value)
    ∙ sym (line_after 1 content c.read_version.new.lines (said_number (codes "resolution") 1 c.most_units.result) first)
    ∙ c.in_ok-resolution.ensures.value)
    (sym (line_after 2 content c.read_number.new.lines (said_number (codes "window") 0 1000000) second) ∙ c.in_ok-window.ensures.value)
    (sym (line_after 3 content c.read_number-2.new.lines (weights_of version) third) ∙ c.in_ok-early.ensures.value)
