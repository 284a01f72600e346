use Rattle.std.proofs.Common.{◌≡◌, ◌≢◌, ℕ, true, false, not, List, Result, Err, sym, ap, subst, ◌∙◌}
use Rattle.std.proofs.lemmas.Result.{err_from_is_err_and}
use Rattle.std.specs.List.{list_all}
use Rattle.grammar_file.proofs.KnownLemmas.{filter_first, left_sides_known}
use Rattle.grammar_file.proofs.OutcomeLemmas.{err_holds, on_line-err}
use Rattle.grammar_file.specs.Content.{IsLineNumber}
use Rattle.grammar_file.specs.Grammar.{starts_and_rules, understood}
use Rattle.grammar_file.specs.Names.{is_known}
use Rattle.grammar_file.specs.Statements.{left_side, names_of}
use Rattle.grammar_file.specs.Symbols.{IsUnknownIn, is_understood}
use Rattle.grammar_file.specs.declared.draft.Spoken.{Spoken}
use Rattle.grammar_file.specs.declared.fault.GrammarFault.{GrammarFault}
use Rattle.grammar_file.specs.declared.fault.GrammarWhat.{GrammarWhat}
use Rattle.rhythm_base.specs.declared.grammar.Start.{Start}
use Rattle.rhythm_base.specs.declared.rule.Rule.{Rule}
use Rattle.grammar_file.specs.declared.fault.GrammarWhat.TheVariants.{Memory, UnknownName}
use Rattle.grammar_file.proofs.read.place_all.Goals as goal

pub place-requires-clause-left_side : goal.place-requires-clause-left_side
place-requires-clause-left_side c =
    let line : Spoken = c.line-item.result in
    let known = left_sides_known c.args.lines.now c.loop-line.line-index line c.loop-line-test.true in
    let P : Spoken → Type 0 = λ s. list_all (is_known (names_of c.args.lines.now)) (left_side s) ≡ true in
    rw c.requires.kept (subst P (sym c.line-item.is) known)

pub returns-in_err-on_line-clause-at : goal.returns-in_err-on_line-clause-at
returns-in_err-on_line-clause-at c = λ end within.
    let line : Spoken = c.line-item.result in
    let p = err_from_is_err_and c.from_residual.result c.from_residual.ensures.1 in
    let why = on_line-err line.line c.place.result _ (sym c.on_line.ensures ∙ c.in_err-on_line.was) in
    let P : Spoken → Type 0 = λ s. IsLineNumber end s.line in
    rw (p.1, p.2, why.2) (subst P (sym c.line-item.is) (within c.loop-line.line-index line c.loop-line-test.true))

pub returns-in_err-on_line-clause-value : goal.returns-in_err-on_line-clause-value
returns-in_err-on_line-clause-value c =
    let line : Spoken = c.line-item.result in
    let lines : List Spoken = c.args.lines.now in
    let names : List (List ℕ) = names_of lines in
    let p = err_from_is_err_and c.from_residual.result c.from_residual.ensures.1 in
    let why = on_line-err line.line c.place.result _ (sym c.on_line.ensures ∙ c.in_err-on_line.was) in
    let unknown = err_holds (λ what. what ≢ Memory → IsUnknownIn c.args.names.now line what) c.place.result why.0 why.1 c.place.ensures.unknown in
    let fault_at : ℕ → GrammarWhat → Result (List Start × List Rule) GrammarFault = λ number what. Err (record { line = number; what = what }) in
    rw (p.1, p.2, why.2) (λ other.
    let P : List (List ℕ) → Type 0 = λ ns. is_understood ns line ≡ false in
    let Q : Spoken → Type 0 = λ s. is_understood names s ≡ false in
    let here = subst Q c.line-item.is (subst P c.requires.kept (unknown other).1) in
    ap (understood (starts_and_rules names lines)) (filter_first (λ s. not (is_understood names s)) lines c.loop-line.line-index line c.loop-line-test.true c.loop-line.invariant.understood (ap not here))
    ∙ ap (λ (s : Spoken). fault_at s.line UnknownName) (sym c.line-item.is) ∙ ap (fault_at line.line) (sym (unknown other).0))
