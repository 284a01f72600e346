-- What is written of a performance is one.
use Rattle.std.proofs.Common.{◌≡◌, ℕ, List, ap, subst, Result, Ok, Err}
use Rattle.derivation.proofs.OneScore.{scores_one}
use Rattle.derivation.specs.Score.{Score}
use Rattle.kern_writer.specs.Laws.{PerformanceTextsAreOne}
use Rattle.kern_writer.specs.PerformanceText.{HasTooLongText, IsKernTextOf, IsTextOf, IsWrittenScore}
use Rattle.kern_writer.specs.Text.{IsScoreText, IsTooLong}
use Rattle.kern_writer.proofs.OneText.{texts_one}
use Rattle.rhythm_base.specs.Grammar.{Grammar}
use Rattle.rhythm_base.specs.Performance.{IsWellFormed, Performance}
use Rattle.rhythm_base.specs.Readable.{IsReadable}

one_text : (g : Grammar) (p : Performance) (a b : List ℕ) → IsReadable g → IsWellFormed p → IsTextOf g p a → IsTextOf g p b → a ≡ b
one_text g p a b readable formed (s, is, text) (t, is', text') =
    let same : t ≡ s = scores_one.score g p t s readable formed is' is in
    texts_one.text s a b (scores_one.can_be_written g p s readable formed is) text (subst (λ (x : Score). IsScoreText x b) same text')

one_line : (g : Grammar) (p : Performance) (a b : ℕ) → IsReadable g → IsWellFormed p → HasTooLongText g p a → HasTooLongText g p b → a ≡ b
one_line g p a b readable formed (s, is, long) (t, is', long') =
    let same : t ≡ s = scores_one.score g p t s readable formed is' is in
    texts_one.too_long s a b (scores_one.can_be_written g p s readable formed is) long (subst (λ (x : Score). IsTooLong x b) same long')

not_both : (g : Grammar) (p : Performance) (text : List ℕ) (line : ℕ) → IsReadable g → IsWellFormed p → IsKernTextOf g p text → HasTooLongText g p line → ⊥
not_both g p text line readable formed ((s, is, said), short) (t, is', long) =
    let same : t ≡ s = scores_one.score g p t s readable formed is' is in
    texts_one.either s text line (scores_one.can_be_written g p s readable formed is) said short (subst (λ (x : Score). IsTooLong x line) same long)

one_written : (g : Grammar) (p : Performance) (a b : Result (List ℕ) ℕ) → IsReadable g → IsWellFormed p → IsWrittenScore g p a → IsWrittenScore g p b → a ≡ b
one_written g p (Ok a) (Ok b) readable formed h k = ap (λ (x : List ℕ). Ok x) (one_text g p a b readable formed h.0 k.0)
one_written g p (Ok text) (Err line) readable formed h k = absurd (not_both g p text line readable formed h k)
one_written g p (Err line) (Ok text) readable formed h k = absurd (not_both g p text line readable formed k h)
one_written g p (Err a) (Err b) readable formed h k = ap (λ (x : ℕ). Err x) (one_line g p a b readable formed h k)

pub performance_texts_one : PerformanceTextsAreOne
performance_texts_one = record { text = one_text; too_long = one_line; either = not_both; written = one_written }
