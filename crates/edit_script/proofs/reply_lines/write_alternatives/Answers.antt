use Rattle.std.proofs.Common.{List, ℕ, [], ◌∷◌, subst}
use Rattle.std.specs.Prelude.{codes, decimal}
use Rattle.std.specs.List.{flat_map}
use Rattle.edit_script.specs.Replies.{reply_line, shown_text}
use Rattle.edit_script.specs.ReplyText.{shown_by}
use Rattle.edit_script.specs.Sending.{Writes}
use Rattle.edit_script.proofs.ReplyLemmas.{counted_texts}
use Rattle.edit_script.proofs.SendingLemmas.{SentPart-first, fails, writes_after}
use Rattle.edit_script.proofs.reply_lines.write_alternatives.Goals as goal

pub returns-in_err-write_line-clause-written : goal.returns-in_err-write_line-clause-written
returns-in_err-write_line-clause-written g c =
    let P : List ℕ → Type 0 = λ t. Writes g.K.Sink.taken c.args.sink.now c.write_line.new.sink c.args.held.now c.write_line.new.held t c.from_residual.result in
    subst P (counted_texts shown_text shown_by (λ n. reply_line (codes "alternatives" ∷ decimal n ∷ [])) c.args.alts.now)
    (fails _ _ _ _ _ c.from_residual.result c.in_err-write_line.field-0.0 (c.from_residual.ensures.0, c.from_residual.ensures.1)
    (SentPart-first _ _ _ _ _ (flat_map (λ a. shown_text (shown_by a)) c.args.alts.now) c.in_err-write_line.ensures.written))

pub returns-clause-written : goal.returns-clause-written
returns-clause-written g c =
    let P : List ℕ → Type 0 = λ t. Writes g.K.Sink.taken c.args.sink.now c.write_each.new.sink c.args.held.now c.write_each.new.held t c.write_each.result in
    subst P (counted_texts shown_text shown_by (λ n. reply_line (codes "alternatives" ∷ decimal n ∷ [])) c.args.alts.now)
    (writes_after _ _ _ _ _ _ _ (flat_map (λ a. shown_text (shown_by a)) c.args.alts.now) c.write_each.result c.in_ok-write_line.ensures.written c.write_each.ensures.written)
