use Rattle.std.proofs.Common.{◌≡◌, true, Ok, ℕ, List, Bor, get_or, drop, sym, ap, ◌∙◌, subst, map}
use Rattle.grammar_file.proofs.SaidLemmas.{after, parts_end, parts_form, parts_more}
use Rattle.std.proofs.lemmas.List.{map-append, take_rest}
use Rattle.grammar_file.specs.Numbers.{number_within}
use Rattle.grammar_file.specs.Said.{are_parts, said_parts}
use Rattle.grammar_file.proofs.said.parts.Goals as goal

pub parts-preserved : goal.parts-preserved
parts-preserved c =
    let rest : List (Bor (List ℕ)) = c.parts.rest.now in
    let size : number_within 1 96 (get_or rest 0 _).now ≡ Ok c.in_ok-number_within.field-0 = sym c.number_within.ensures.value ∙ c.in_ok-number_within.was in
    let next = parts_more (λ x. x.now) rest _ c.in_ok-number_within.field-0 (map (λ x. (x.0, x.1.now)) c.parts.parts.items) c.in-len2-up.len_at_least size in
    let rest-is = sym (take_rest rest 2) in
    let P : List (Bor (List ℕ)) → Type 0 = λ xs. are_parts (map (λ x. x.now) xs) ≡ true in
    let Q : List (Bor (List ℕ)) → Type 0 = λ xs. after (map (λ x. (x.0, x.1.now)) c.push.new.self.items) (said_parts (map (λ x. x.now) xs)) ≡ said_parts (map (λ x. x.now) c.args.words.now) in
    record {
      form = subst P rest-is (parts_form (λ x. x.now) rest c.in-len2-up.len_at_least c.parts.invariant.form);
      same = subst Q rest-is
          (ap (λ parts. after parts (said_parts (map (λ x. x.now) (drop 2 rest)))) (ap (map (λ x. (x.0, x.1.now))) c.in_ok-push.ensures.items ∙ map-append (λ x. (x.0, x.1.now)) c.parts.parts.items _)
          ∙ next ∙ c.parts.invariant.same);
    }

pub returns : goal.returns
returns c =
    sym c.parts.invariant.same
    ∙ parts_end (λ x. x.now) c.parts.rest.now (map (λ x. (x.0, x.1.now)) c.parts.parts.items) c.in_default.len_below c.parts.invariant.form
    ∙ ap Ok (sym c.of.ensures)
