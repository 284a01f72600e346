use Rattle.std.proofs.Common.{sym, ap, ◌∙◌, drop}
use Rattle.kern_writer.proofs.ColumnLemmas.{column_rest}
use Rattle.kern_writer.proofs.Rising.{after_first, after_same}
use Rattle.kern_writer.proofs.column.Column.pass.Goals as goal

pub returns-then-has_token : goal.returns-then-has_token
returns-then-has_token c =
    let s = c.self.inside in
    column_rest s.flats s.goes_on s.values.items s.written ∙ ap (drop 1) c.self.view_is ∙ sym (after_first c.args.place c.args.self.now c.requires (sym c.has_token.ensures ∙ c.if-has_token.true))

pub returns-else-has_token : goal.returns-else-has_token
returns-else-has_token c = sym (after_same c.args.place c.args.self.now c.requires (sym c.has_token.ensures ∙ c.if-has_token.false))
