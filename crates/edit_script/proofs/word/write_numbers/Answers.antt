use Rattle.std.proofs.Common.{◌∷◌, ◌-◌, List, ℕ, length, take, drop, subst}
use Rattle.std.specs.List.{flat_map}
use Rattle.std.specs.Prelude.{decimal}
use Rattle.edit_script.specs.Sending.{Sent, SentPart, Writes}
use Rattle.edit_script.proofs.SendingLemmas.{SentPart-first, fails, joined_list, writes_after}
use Rattle.edit_script.proofs.word.write_numbers.Goals as goal

pub returns-in_err-write_word-in-len1-up-clause-written : goal.returns-in_err-write_word-in-len1-up-clause-written
returns-in_err-write_word-in-len1-up-clause-written g c =
    let P : List ℕ → Type 0 = λ t. Writes g.K.Sink.taken c.args.sink.now c.write_word.new.sink c.args.held.now c.write_word.new.held t c.from_residual.result in
    let Q : ℕ → Type 0 = λ n. SentPart (g.K.Sink.taken c.args.sink.now) (g.K.Sink.taken c.write_word.new.sink) c.args.held.now c.in_err-write_word-in-len1-up.field-0.0.sent (decimal n) in
    subst P (joined_list 44 decimal c.args.numbers.now _ c.in-len1-up.len_at_least)
    (fails _ _ _ _ _ c.from_residual.result c.in_err-write_word-in-len1-up.field-0.0 (c.from_residual.ensures.0, c.from_residual.ensures.1)
    (SentPart-first _ _ _ _ _ (flat_map (λ y. 44 ∷ decimal y) (take (length c.args.numbers.now - 1) (drop 1 c.args.numbers.now)))
    (subst Q c.from.ensures c.in_err-write_word-in-len1-up.ensures.written)))

pub returns-in_ok-write_word-in-len1-up-clause-written : goal.returns-in_ok-write_word-in-len1-up-clause-written
returns-in_ok-write_word-in-len1-up-clause-written g c =
    let P : List ℕ → Type 0 = λ t. Writes g.K.Sink.taken c.args.sink.now c.write_later_numbers.new.sink c.args.held.now c.write_later_numbers.new.held t
    c.write_later_numbers.result in
    let Q : ℕ → Type 0 = λ n. Sent (g.K.Sink.taken c.args.sink.now) (g.K.Sink.taken c.write_word.new.sink) c.args.held.now c.write_word.new.held (decimal n) in
    subst P (joined_list 44 decimal c.args.numbers.now _ c.in-len1-up.len_at_least)
    (writes_after _ _ _ _ _ _ _ (flat_map (λ y. 44 ∷ decimal y) (take (length c.args.numbers.now - 1) (drop 1 c.args.numbers.now))) c.write_later_numbers.result
    (subst Q c.from.ensures c.in_ok-write_word-in-len1-up.ensures.written) c.write_later_numbers.ensures.written)
