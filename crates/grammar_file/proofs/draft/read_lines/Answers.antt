use Rattle.std.proofs.Common.{◌≡◌, ◌++◌, ◌∷◌, [], All, rules, sym, ap, subst, ◌∙◌}
use Rattle.std.proofs.lemmas.List.Elements.{All-push}
use Rattle.grammar_file.proofs.OutcomeLemmas.{at_ok, on_line-ok, on_ok_holds}
use Rattle.grammar_file.specs.Content.{Content, IsLineNumber, IsNext}
use Rattle.grammar_file.specs.declared.draft.Spoken.{Spoken}
use Rattle.grammar_file.proofs.draft.read_lines.Goals as goal

pub lines-preserved : goal.lines-preserved
lines-preserved c =
    let line = c.in-Line.line in
    let spoken : Spoken = c.in_ok-spoken.spoken in
    let said = on_line-ok line.number c.speak.result spoken (sym c.on_line.ensures ∙ c.in_ok-spoken.was) in
    let put = on_line-ok line.number c.push.result c.in_ok-on_line.field-0 (sym c.on_line-in-Line.ensures ∙ c.in_ok-on_line.was) in
    let more : c.push.new.self.spoken.items ≡ c.lines.draft.spoken.items ++ spoken ∷ [] = on_ok_holds _ c.push.result c.in_ok-on_line.field-0 put c.push.ensures.spoken in
    let after = ap (λ (x : Content). x.end) c.in_ok-line.ensures.after in
    let number : IsLineNumber c.lines.lines.end line.number = subst (IsNext c.lines.lines.end) c.in-Line.is c.in_ok-line.ensures.number in
    let own : spoken.line ≡ line.number = at_ok (λ s. s.line ≡ line.number) c.speak.result spoken said c.speak.ensures.line in
    let here : IsLineNumber c.args.lines.now.end spoken.line = subst (λ n. IsLineNumber c.args.lines.now.end n) (sym own) (subst (λ e. IsLineNumber e line.number) c.lines.invariant.end number) in
    record {
      names = on_ok_holds _ c.push.result c.in_ok-on_line.field-0 put c.push.ensures.names;
      end = after ∙ c.lines.invariant.end;
      lines = subst (All (λ (s : Spoken). IsLineNumber c.args.lines.now.end s.line)) (sym more) (All-push (λ s. IsLineNumber c.args.lines.now.end s.line) c.lines.draft.spoken.items spoken c.lines.invariant.lines here);
      same = search rules;
    }
