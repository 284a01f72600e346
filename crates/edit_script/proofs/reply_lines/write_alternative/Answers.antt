use Rattle.std.proofs.Common.{◌∷◌, [], List, ℕ, map, subst}
use Rattle.std.specs.List.{join_with_byte}
use Rattle.std.specs.Prelude.{codes, decimal, string_bytes}
use Rattle.edit_script.specs.Replies.{reply_line}
use Rattle.edit_script.specs.Sending.{Writes}
use Rattle.edit_script.proofs.SendingLemmas.{fails}
use Rattle.edit_script.proofs.ReplyLemmas.{cut_front, cut_rules, cut_space, sent_front}
use Rattle.edit_script.proofs.reply_lines.write_alternative.Goals as goal

pub returns-in_err-write_words-clause-written : goal.returns-in_err-write_words-clause-written
returns-in_err-write_words-clause-written g c =
    let P : List ℕ → Type 0 = λ shape. Writes g.K.Sink.taken c.args.sink.now c.write_words.new.sink c.args.held.now c.write_words.new.held
    (reply_line (codes "alt" ∷ decimal c.args.alt.now.total ∷ shape ∷ join_with_byte 44 (map decimal c.args.alt.now.rules.items) ∷ [])) c.from_residual.result in
    subst P c.as_bytes.ensures.value
    (fails _ _ _ _ _ c.from_residual.result c.in_err-write_words.field-0.0 (c.from_residual.ensures.0, c.from_residual.ensures.1)
    (cut_front (decimal c.args.alt.now.total) c.as_bytes.result.now (join_with_byte 44 (map decimal c.args.alt.now.rules.items)) _ _ _ _ c.in_err-write_words.ensures.written))

pub returns-in_err-write-clause-written : goal.returns-in_err-write-clause-written
returns-in_err-write-clause-written g c =
    let residual = c.from_residual-in_err-write in
    let P : List ℕ → Type 0 = λ shape. Writes g.K.Sink.taken c.args.sink.now c.write.new.sink c.args.held.now c.write.new.self
    (reply_line (codes "alt" ∷ decimal c.args.alt.now.total ∷ shape ∷ join_with_byte 44 (map decimal c.args.alt.now.rules.items) ∷ [])) residual.result in
    subst P c.as_bytes.ensures.value
    (fails _ _ _ _ _ residual.result c.in_err-write.field-0.0 (residual.ensures.0, residual.ensures.1)
    (cut_space (decimal c.args.alt.now.total) c.as_bytes.result.now (join_with_byte 44 (map decimal c.args.alt.now.rules.items)) _ _ _ _ _ _ c.in_ok-write_words.ensures.written
    c.in_err-write.ensures.written))

pub returns-in_err-write_numbers-clause-written : goal.returns-in_err-write_numbers-clause-written
returns-in_err-write_numbers-clause-written g c =
    let residual = c.from_residual-in_err-write_numbers in
    let P : List ℕ → List ℕ → Type 0 = λ shape rules. Writes g.K.Sink.taken c.args.sink.now c.write_numbers.new.sink c.args.held.now c.write_numbers.new.held
    (reply_line (codes "alt" ∷ decimal c.args.alt.now.total ∷ shape ∷ join_with_byte 44 (map decimal rules) ∷ [])) residual.result in
    subst (P (string_bytes c.args.alt.now.shape)) c.as_slice.ensures.value (subst (λ shape. P shape c.as_slice.result.now) c.as_bytes.ensures.value
    (fails _ _ _ _ _ residual.result c.in_err-write_numbers.field-0.0 (residual.ensures.0, residual.ensures.1)
    (cut_rules (decimal c.args.alt.now.total) c.as_bytes.result.now (join_with_byte 44 (map decimal c.as_slice.result.now)) _ _ _ _ _ _ _ _
    c.in_ok-write_words.ensures.written c.in_ok-write.ensures.written c.in_err-write_numbers.ensures.written)))

pub returns-clause-written : goal.returns-clause-written
returns-clause-written g c =
    let P : List ℕ → List ℕ → Type 0 = λ shape rules. Writes g.K.Sink.taken c.args.sink.now c.write-2.new.sink c.args.held.now c.write-2.new.self
    (reply_line (codes "alt" ∷ decimal c.args.alt.now.total ∷ shape ∷ join_with_byte 44 (map decimal rules) ∷ [])) c.write-2.result in
    subst (P (string_bytes c.args.alt.now.shape)) c.as_slice.ensures.value (subst (λ shape. P shape c.as_slice.result.now) c.as_bytes.ensures.value
    (sent_front (decimal c.args.alt.now.total) c.as_bytes.result.now (join_with_byte 44 (map decimal c.as_slice.result.now)) _ _ _ _ _ _ _ _
    c.in_ok-write_words.ensures.written c.in_ok-write.ensures.written c.in_ok-write_numbers.ensures.written _ _ c.write-2.result c.write-2.ensures.written))
