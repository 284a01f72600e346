use Rattle.std.proofs.Common.{ℕ, Bool, List, [], Bor, get_or, Ok, Err, sym, ap, ◌∙◌}
use Rattle.std.proofs.lemmas.Result.{err_from_is_err_and}
use Rattle.grammar_file.proofs.SymbolLemmas.{all_known, known-err, known-ok, known_more, one_unknown, symbols_more, where_known-parts}
use Rattle.grammar_file.specs.Names.{is_known, symbol_of}
use Rattle.grammar_file.proofs.symbols.portions.Goals as goal

pub returns-in_err-symbol : goal.returns-in_err-symbol
returns-in_err-symbol c =
    let names : List (List ℕ) = c.args.names.now in
    let p = err_from_is_err_and c.from_residual-in_err-symbol.result c.from_residual-in_err-symbol.ensures.1 in
    let unknown = known-err _ _ _ (sym c.symbol.ensures ∙ c.in_err-symbol.was) in
    rw (p.1, p.2) (λ other. where_known-parts (is_known names) (λ x. (x.0, symbol_of names x.1)) (λ x. (x.0, x.1.now)) c.args.sizes.now
    ∙ one_unknown (λ w. is_known names w.1.now) _ c.args.sizes.now c.loop-size.size-index _ c.loop-size-test.true unknown.0
    ∙ ap Err (sym unknown.1))

pub loop-size-preserved : goal.loop-size-preserved
loop-size-preserved c =
    let names : List (List ℕ) = c.args.names.now in
    let here = known-ok _ _ _ (sym c.symbol.ensures ∙ c.in_ok-symbol.was) in
    let known : ℕ × Bor (List ℕ) → Bool = λ w. is_known names w.1.now in
    let symbol : ℕ × Bor (List ℕ) → ℕ × ℕ = λ w. (w.0, symbol_of names w.1.now) in
    let d : ℕ × Bor (List ℕ) = (0, record { ref_ptr = (0, 0); now = [] }) in
    let paired : ℕ → ℕ → ℕ × ℕ = λ size symbol. (size, symbol) in
    record {
      known = known_more known symbol c.args.sizes.now c.loop-size.size-index d c.loop-size-test.true c.loop-size.invariant.known here.0;
      symbols = c.in_ok-push.ensures.items
          ∙ symbols_more known symbol c.args.sizes.now c.loop-size.size-index d c.loop-size-test.true _ _ c.loop-size.invariant.symbols (ap (paired (get_or c.args.sizes.now c.loop-size.size-index d).0) here.1);
    }

pub returns : goal.returns
returns c =
    let names : List (List ℕ) = c.args.names.now in
    where_known-parts (is_known names) (λ x. (x.0, symbol_of names x.1)) (λ x. (x.0, x.1.now)) c.args.sizes.now
    ∙ all_known (λ w. is_known names w.1.now) _ c.args.sizes.now _ _ c.loop-size-test.false c.loop-size.invariant.known c.loop-size.invariant.symbols
    ∙ ap Ok (sym c.of.ensures)
