use Rattle.std.proofs.Common.{sym, ap, ◌∙◌}
use Rattle.grammar_file.specs.Symbols.{known_symbol}
use Rattle.grammar_file.proofs.SymbolLemmas.{symbol_of-found, symbol_of-missing}
use Rattle.grammar_file.proofs.names.Names.symbol.Goals as goal

pub returns-in-Some : goal.returns-in-Some
returns-in-Some c =
    symbol_of-found (λ x. x.now) c.self.inside.set.keys c.args.name.now _ (sym c.get_index_of.ensures.index ∙ c.in-Some.is)
    ∙ ap (λ names. known_symbol names c.args.name.now) c.self.view_is

pub returns-in-None : goal.returns-in-None
returns-in-None c =
    symbol_of-missing (λ x. x.now) c.self.inside.set.keys c.args.name.now (sym c.get_index_of.ensures.index ∙ c.in-None.is)
    ∙ ap (λ names. known_symbol names c.args.name.now) c.self.view_is
