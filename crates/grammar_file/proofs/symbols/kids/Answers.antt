use Rattle.std.proofs.Common.{ℕ, Bool, List, [], Bor, Ok, Err, sym, ap, ◌∙◌}
use Rattle.std.proofs.lemmas.Result.{err_from_is_err_and}
use Rattle.grammar_file.proofs.SymbolLemmas.{all_known, known-err, known-ok, known_more, one_unknown, symbols_more, where_known-map}
use Rattle.grammar_file.specs.Names.{is_known, symbol_of}
use Rattle.grammar_file.proofs.symbols.kids.Goals as goal

pub returns-in_err-symbol : goal.returns-in_err-symbol
returns-in_err-symbol c =
    let names : List (List ℕ) = c.args.names.now in
    let p = err_from_is_err_and c.from_residual-in_err-symbol.result c.from_residual-in_err-symbol.ensures.1 in
    let unknown = known-err _ _ _ (sym c.symbol.ensures ∙ c.in_err-symbol.was) in
    rw (p.1, p.2) (λ other. where_known-map (is_known names) (symbol_of names) (λ x. x.now) c.args.words.now
    ∙ one_unknown (λ w. is_known names w.now) _ c.args.words.now c.loop-word.word-index _ c.loop-word-test.true unknown.0
    ∙ ap Err (sym unknown.1))

pub loop-word-preserved : goal.loop-word-preserved
loop-word-preserved c =
    let names : List (List ℕ) = c.args.names.now in
    let here = known-ok _ _ _ (sym c.symbol.ensures ∙ c.in_ok-symbol.was) in
    let known : Bor (List ℕ) → Bool = λ w. is_known names w.now in
    let symbol : Bor (List ℕ) → ℕ = λ w. symbol_of names w.now in
    let d : Bor (List ℕ) = record { ref_ptr = (0, 0); now = [] } in
    record {
      known = known_more known symbol c.args.words.now c.loop-word.word-index d c.loop-word-test.true c.loop-word.invariant.known here.0;
      symbols = c.in_ok-push.ensures.items
          ∙ symbols_more known symbol c.args.words.now c.loop-word.word-index d c.loop-word-test.true _ _ c.loop-word.invariant.symbols here.1;
    }

pub returns : goal.returns
returns c =
    let names : List (List ℕ) = c.args.names.now in
    where_known-map (is_known names) (symbol_of names) (λ x. x.now) c.args.words.now
    ∙ all_known (λ w. is_known names w.now) _ c.args.words.now _ _ c.loop-word-test.false c.loop-word.invariant.known c.loop-word.invariant.symbols
    ∙ ap Ok (sym c.of.ensures)
