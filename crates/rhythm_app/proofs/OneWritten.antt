-- What is written with the barline at a tick is one thing, and the same as in a script.
use Rattle.std.proofs.Common.{◌≡◌, ℕ, List, sym, ap, ◌∙◌, subst, inl, inr, Result, Ok, Err}
use Rattle.barline_fit.specs.Fitted.{IsAcceptedAt}
use Rattle.rhythm_app.specs.FittedScore.{IsFittedScore}
use Rattle.rhythm_app.specs.Laws.{FittedScoresAreOne, score_reply}
use Rattle.barline_fit.proofs.OneFit.{accepted_outcome, set_formed}
use Rattle.kern_writer.proofs.OneWritten.{performance_texts_one}
use Rattle.kern_writer.specs.PerformanceText.{IsWrittenScore}
use Rattle.rhythm_base.specs.Grammar.{Grammar}
use Rattle.rhythm_base.specs.Performance.{IsWellFormed, Performance}
use Rattle.rhythm_base.specs.Readable.{IsReadable}
use Rattle.script_laws.specs.Script.{Answers}
use Rattle.edit_script.specs.declared.command.Command.TheVariants as command
use Rattle.rhythm_base.specs.declared.edit.Edit.TheVariants.{Barline}

module _ (g : Grammar) (readable : IsReadable g) where
  module _ (p : Performance) (bar tick : ℕ) (formed : IsWellFormed p) where
    one_score : (a b : Result (List ℕ) ℕ) → IsFittedScore g p bar tick a → IsFittedScore g p bar tick b → a ≡ b
    one_score a b (q, is, text) (r, is', text') =
        let both : Ok r ≡ Ok q = sym is' ∙ is in
        let same : r ≡ q = cc in
        performance_texts_one.written g q a b readable (set_formed g p bar tick readable.ranges.some_unit formed q is) text (subst (λ (x : Performance). IsWrittenScore g x b) same text')

    -- the reply that says the score, where that is one
    said_by : (next : Performance) (score : Result (List ℕ) ℕ) (said : List ℕ) → IsWellFormed next → IsWrittenScore g next score → (last : Performance)
        → Answers (IsWrittenScore g) g next command.Score said last → said ≡ score_reply score
    said_by next score said well text last (stays, inl (words, is, reply)) = reply ∙ ap score_reply (performance_texts_one.written g next (Ok words) score readable well is text)
    said_by next score said well text last (stays, inr (line, is, reply)) = reply ∙ ap score_reply (performance_texts_one.written g next (Err line) score readable well is text)

    as_edited : (next last : Performance) (cost : ℕ) (score : Result (List ℕ) ℕ) (reply said : List ℕ) → IsAcceptedAt g p bar tick cost
        → IsFittedScore g p bar tick score → Answers (IsWrittenScore g) g p (command.Change (Barline bar tick)) reply next
        → Answers (IsWrittenScore g) g next command.Score said last → said ≡ score_reply score
    as_edited next last cost score reply said accepted (q, is, text) (outcome, comes, shown) answer =
        let one = accepted_outcome g p bar tick readable.ranges.some_unit formed next cost outcome accepted comes in
        let both : Ok q ≡ Ok accepted.next = sym is ∙ accepted.made in
        let with_it : q ≡ accepted.next = cc in
        let same : q ≡ next = with_it ∙ sym one.2 in
        let well = set_formed g p bar tick readable.ranges.some_unit formed q is in
        said_by next score said (subst IsWellFormed same well) (subst (λ (x : Performance). IsWrittenScore g x score) same text) last answer

pub scores_with_barline_one : FittedScoresAreOne
scores_with_barline_one = record {
  one = λ g p bar tick a b readable formed. one_score g readable p bar tick formed a b;
  as_edited = λ g p next last bar tick cost score reply said readable formed. as_edited g readable p bar tick formed next last cost score reply said;
}
