use Rattle.std.proofs.Common.{List, ℕ, ap, sym, subst, ◌∙◌}
use Rattle.script_run.specs.Answers.{Quits}
use Rattle.script_run.specs.Desk.{AnswersOn, shown}
use Rattle.script_run.specs.Hearing.{Heard, Replies}
use Rattle.session_history.specs.StudioReplies.{studio_reply_text}
use Rattle.script_run.proofs.listener.Listener.answer.Goals as goal

pub returns-in-Ok-clause-ok : goal.returns-in-Ok-clause-ok
returns-in-Ok-clause-ok g c =
    let replied = c.reply_to-reply in
    let desk = shown c.self.inside.desk in
    let reply = studio_reply_text replied.result in
    let n = replied.ensures.answer.0 in
    let answer = replied.ensures.answer.1 in
    let built = replied.ensures.answer.2 in
    let same = c.as_slice-line.ensures.value in
    let line = same ∙ ap (λ (h : Heard). h.begun) c.self.view_is in
    let said = subst (λ (line : List ℕ). AnswersOn desk line reply n (shown replied.new.self)) same answer in
    let whole = subst (λ (h : Heard). Replies h reply n (shown replied.new.self)) c.self.view_is said in (
      ((λ ends. subst Quits line (replied.ensures.ends.0 (c.is_bye.ensures.0 ends))), λ quits. c.is_bye.ensures.1 (replied.ensures.ends.1 (subst Quits (sym line) quits))),
      (reply, n, whole, c.in-Ok.ensures.all, built),
    )

pub returns-clause-cut : goal.returns-clause-cut
returns-clause-cut g c =
    let replied = c.reply_to-reply in
    let desk = shown c.self.inside.desk in
    let reply = studio_reply_text replied.result in
    let n = replied.ensures.answer.0 in
    let answer = replied.ensures.answer.1 in
    let built = replied.ensures.answer.2 in
    let part = c.in-Err.ensures.part in
    let same = c.as_slice-line.ensures.value in
    let said = subst (λ (line : List ℕ). AnswersOn desk line reply n (shown replied.new.self)) same answer in
    let whole = subst (λ (h : Heard). Replies h reply n (shown replied.new.self)) c.self.view_is said in
    (reply, n, part.0, whole, part.1, part.3, built)
