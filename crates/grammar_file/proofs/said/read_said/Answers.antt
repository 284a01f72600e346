use Rattle.std.proofs.Common.{◌≡◌, ◌==◌, ◌-◌, ℕ, List, [], Bor, Option, true, false, sym, ap, ◌∙◌, subst, length, drop, get_or, take}
use Rattle.std.proofs.lemmas.List.{take_rest}
use Rattle.std.specs.Prelude.{codes}
use Rattle.std.specs.Str.{bytes_eq}
use Rattle.grammar_file.proofs.OutcomeLemmas.{gives_itself}
use Rattle.grammar_file.proofs.SaidLemmas.{said_by-more, said_by-other, said_by-short, said_by-start}
use Rattle.grammar_file.specs.Lines.{texts}
use Rattle.grammar_file.specs.declared.kind.Kind.{Kind}
use Rattle.grammar_file.specs.Outcome.{GivesGrammar}
use Rattle.grammar_file.specs.Said.{kind_of, rule_of_kind}
use Rattle.grammar_file.proofs.said.read_said.Goals as goal
use Rattle.grammar_file.proofs.said.read_said.Goals.{else-eq-via-then-eq+else-is_empty, else-eq-via-else-eq}

pub returns-in_default : goal.returns-in_default
returns-in_default c = λ other. said_by-short (λ x. x.now) c.args.version c.args.words.now c.in_default.len_below

pub returns-then-is_empty : goal.returns-then-is_empty
returns-then-is_empty c =
    let words : List (Bor (List ℕ)) = c.args.words.now in
    let first : bytes_eq (get_or words 0 _).now (codes "start") ≡ true = ap (bytes_eq _) (sym c.as_slice.ensures) ∙ sym c.eq.ensures ∙ c.if-eq.true in
    let none : (length (drop 3 words) == 0) ≡ true = ap (λ xs. length xs == 0) (sym (take_rest words 3)) ∙ sym c.is_empty.ensures ∙ c.if-is_empty.true in
    subst (GivesGrammar c.start.result) (c.start.ensures ∙ sym (said_by-start (λ x. x.now) c.args.version words _ c.in-len3-up.len_at_least first none)) (gives_itself c.start.result)

pub returns-else-eq : goal.returns-else-eq
returns-else-eq c =
    let words : List (Bor (List ℕ)) = c.args.words.now in
    let d : Bor (List ℕ) = record { ref_ptr = (0, 0); now = [] } in
    let P : List (Bor (List ℕ)) → Type 0 = λ xs. GivesGrammar c.rule.result (rule_of_kind c.args.version (get_or words 0 d).now (get_or words 1 d).now (kind_of (get_or words 2 d).now) (texts xs)) in
    let Q : Option Kind → Type 0 = λ kind. GivesGrammar c.rule.result (rule_of_kind c.args.version (get_or words 0 d).now (get_or words 1 d).now kind (texts (take (length words - 3) (drop 3 words)))) in
    let rule = subst P (take_rest words 3) (subst Q c.kind_of.ensures c.rule.ensures) in
    elim c.else-eq.branch [
      | else-eq-via-then-eq+else-is_empty w ↦
          let first : bytes_eq (get_or words 0 d).now (codes "start") ≡ true = ap (bytes_eq _) (sym c.as_slice.ensures) ∙ sym c.eq.ensures ∙ w.if-eq.true in
          let more : (length (drop 3 words) == 0) ≡ false = ap (λ xs. length xs == 0) (sym (take_rest words 3)) ∙ sym w.is_empty.ensures ∙ w.if-is_empty.false in
          subst (GivesGrammar c.rule.result) (sym (said_by-more (λ x. x.now) c.args.version words d c.in-len3-up.len_at_least first more)) rule
      | else-eq-via-else-eq w ↦
          let first : bytes_eq (get_or words 0 d).now (codes "start") ≡ false = ap (bytes_eq _) (sym c.as_slice.ensures) ∙ sym c.eq.ensures ∙ w.if-eq.false in
          subst (GivesGrammar c.rule.result) (sym (said_by-other (λ x. x.now) c.args.version words d c.in-len3-up.len_at_least first)) rule
    ]
