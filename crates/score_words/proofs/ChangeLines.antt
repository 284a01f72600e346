-- The line of a change after a text.
use Rattle.std.proofs.Common.{◌≡◌, ℕ, false, List, [], ◌∷◌, ◌++◌, append_assoc, sym, ap, ◌∙◌, arith}
use Rattle.std.specs.Prelude.{ℤ, OnOk, Option, Result, Ok, Err, codes, decimal, if◌then◌else◌, is_ok}
use Rattle.score_words.proofs.TextLines.{line_after}
use Rattle.derivation.specs.declared.score.ScoreBar.{ScoreBar}
use Rattle.score_words.specs.Changes.{quarters_of_minute, same_tempo}
use Rattle.score_words.specs.LilyChanges.{lily_key, key_name, lily_tempo_lines, lily_tempo}
use Rattle.score_words.specs.TextLines.{lines_text}

pub tempo_after : (before : Option ScoreBar) (bar : ScoreBar) (text first second last : List ℕ) → same_tempo before bar ≡ false
    → first ≡ text ++ codes "\\tempo 4 = " → second ≡ first ++ decimal (quarters_of_minute bar.tempo) → last ≡ second ++ 10 ∷ []
    → last ≡ text ++ lines_text (lily_tempo_lines before bar)
tempo_after before bar text first second last differs one two three =
    let all : last ≡ text ++ (lily_tempo bar ++ 10 ∷ []) = grind (arith, append_assoc) in
    line_after text (lily_tempo bar) last all ∙ ap (λ b. text ++ lines_text (if b then [] else lily_tempo bar ∷ [])) (sym differs)

pub key_after : (sf : ℤ) (text first second last : List ℕ)
    → first ≡ text ++ codes "\\key " → second ≡ first ++ key_name sf → last ≡ second ++ (codes " \\major" ++ 10 ∷ [])
    → last ≡ text ++ lines_text (lily_key sf ∷ [])
key_after sf text first second last one two three =
    let all : last ≡ text ++ (lily_key sf ++ 10 ∷ []) = grind (arith, append_assoc) in
    line_after text (lily_key sf) last all

-- what a call appended where it gave no error
pub on_ok_items : {X E : Type 0} (r : Result X E) (new long short : List ℕ) → new ≡ (if is_ok r then long else short) → OnOk r (new ≡ long)
on_ok_items (Ok x) new long short is = is
on_ok_items (Err e) new long short is = tt
