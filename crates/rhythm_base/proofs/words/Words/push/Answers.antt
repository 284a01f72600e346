use Rattle.std.proofs.Common.{rules, ◌≡◌, ◌++◌, ◌∷◌, [], ◌+◌, length, ap, ◌∙◌}
use Rattle.std.specs.Prelude.{string_bytes}
use Rattle.rhythm_base.proofs.PieceLemmas.{pieces-push, AreEnds-push}
use Rattle.rhythm_base.proofs.words.Words.push.Goals as goal

-- the text and the ends after the word
text_is : (c : goal.After-unwrap) → string_bytes c.push_str.new.self ≡ string_bytes c.self.inside.text ++ c.args.word.now
text_is c = search rules

ends_are : (c : goal.After-unwrap) → c.push.new.self.items ≡ c.self.inside.ends.items ++ (length (string_bytes c.self.inside.text) + length c.args.word.now) ∷ []
ends_are c =
    let end : c.len-end.result ≡ length (string_bytes c.self.inside.text) + length c.args.word.now = search rules in
    let pushed : c.push.new.self.items ≡ c.self.inside.ends.items ++ c.len-end.result ∷ [] = search rules in
    pushed ∙ ap (λ n. c.self.inside.ends.items ++ n ∷ []) end

pub invariant_of-self-2 : goal.invariant_of-self-2
invariant_of-self-2 c =
    rw (text_is c, ends_are c) (AreEnds-push (string_bytes c.self.inside.text) c.args.word.now 0 c.self.inside.ends.items c.utf8.word c.self.invariant)

pub returns-clause-ok : goal.returns-clause-ok
returns-clause-ok c =
    rw (text_is c, ends_are c) (pieces-push (string_bytes c.self.inside.text) c.args.word.now 0 c.self.inside.ends.items c.self.invariant
    ∙ ap (λ l. l ++ c.args.word.now ∷ []) c.self.view_is)
