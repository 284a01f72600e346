-- The lines of bars, written one after another.
use Rattle.std.proofs.Common.{◌≡◌, ℕ, suc, ◌+◌, ◌<◌, ◌≤◌, Bool, List, [], ◌∷◌, ◌++◌, append_assoc, drop, get_or, length, sym, ap, ◌∙◌}
use Rattle.std.specs.Prelude.{Option, Some}
use Rattle.std.proofs.lemmas.List.{append-nil, at_drop_all, drop_more}
use Rattle.rhythm_base.specs.declared.sound.Sound.{Sound}
use Rattle.derivation.specs.declared.score.ScoreBar.{ScoreBar}
use Rattle.notation.specs.Bars.{AreVoiceGroups}
use Rattle.notation.specs.Notes.{Group}
use Rattle.page_writer.specs.Bars.{bar_line}
use Rattle.score_words.specs.LilyChanges.{lily_changes}
use Rattle.page_writer.specs.Graces.{silent_graces}
use Rattle.page_writer.specs.Staves.{bars_lines}
use Rattle.score_words.specs.TextLines.{lines_text}
use Rattle.score_words.proofs.TextLines.{lines_append}

pub bars_next : (first : Bool) (before : Option ScoreBar) (bars : List ScoreBar) (most : List ℕ) (all : List (List Group)) (i : ℕ) (bar : ScoreBar) (m : ℕ)
    (groups : List Group) (text one two whole : List ℕ)
    → i < length bars → i < length most → i < length all → bar ≡ get_or bars i bar → m ≡ get_or most i m → groups ≡ get_or all i groups
    → one ≡ text ++ lines_text (lily_changes first before bar) → two ≡ one ++ lines_text (bar_line bar (silent_graces before bar m groups) groups ∷ [])
    → text ++ lines_text (bars_lines first before (drop i bars) (drop i most) (drop i all)) ≡ whole
    → two ++ lines_text (bars_lines first (Some bar) (drop (i + 1) bars) (drop (i + 1) most) (drop (i + 1) all)) ≡ whole
bars_next first before bars most all i bar m groups text one two whole in_bars in_most in_all is_bar is_m is_groups said line so =
    let bs : drop i bars ≡ bar ∷ drop (i + 1) bars = drop_more bars i bar in_bars ∙ ap (λ b. b ∷ drop (i + 1) bars) (sym is_bar) in
    let ms : drop i most ≡ m ∷ drop (i + 1) most = drop_more most i m in_most ∙ ap (λ n. n ∷ drop (i + 1) most) (sym is_m) in
    let gs : drop i all ≡ groups ∷ drop (i + 1) all = drop_more all i groups in_all ∙ ap (λ g. g ∷ drop (i + 1) all) (sym is_groups) in
    let changes = lily_changes first before bar in
    let own = bar_line bar (silent_graces before bar m groups) groups in
    let later = bars_lines first (Some bar) (drop (i + 1) bars) (drop (i + 1) most) (drop (i + 1) all) in
    let lines : lines_text (bars_lines first before (drop i bars) (drop i most) (drop i all)) ≡ lines_text (changes ++ own ∷ later) =
    λ j. lines_text (bars_lines first before (bs j) (ms j) (gs j)) in
    let parts : lines_text (changes ++ own ∷ later) ≡ lines_text changes ++ (lines_text (own ∷ []) ++ lines_text later) =
    lines_append changes (own ∷ later) ∙ ap (λ t. lines_text changes ++ t) (lines_append (own ∷ []) later) in
    ap (λ t. t ++ lines_text later) (line ∙ ap (λ t. t ++ lines_text (own ∷ [])) said)
    ∙ append_assoc (text ++ lines_text changes) (lines_text (own ∷ [])) (lines_text later)
    ∙ append_assoc text (lines_text changes) (lines_text (own ∷ []) ++ lines_text later)
    ∙ ap (λ t. text ++ t) (sym (lines ∙ parts)) ∙ so

pub bars_all : (first : Bool) (before : Option ScoreBar) (bars : List ScoreBar) (most : List ℕ) (all : List (List Group)) (i : ℕ) (text whole : List ℕ)
    → length bars ≤ i → text ++ lines_text (bars_lines first before (drop i bars) (drop i most) (drop i all)) ≡ whole → text ≡ whole
bars_all first before bars most all i text whole past so =
    sym (append-nil text)
    ∙ ap (λ t. text ++ t) (sym (at_drop_all (λ bs. lines_text (bars_lines first before bs (drop i most) (drop i all))) bars i past)) ∙ so

-- the lines of a staff
pub staff_written : (head clef : List ℕ) (bars end : List (List ℕ)) (text one two three new : List ℕ)
    → one ≡ text ++ lines_text (head ∷ []) → two ≡ one ++ lines_text (clef ∷ []) → three ≡ two ++ lines_text bars → new ≡ three ++ lines_text end
    → new ≡ text ++ lines_text (head ∷ clef ∷ (bars ++ end))
staff_written head clef bars end text one two three new a b c d =
    let rest : lines_text (bars ++ end) ≡ lines_text bars ++ lines_text end = lines_append bars end in
    let parts : lines_text (head ∷ clef ∷ (bars ++ end)) ≡ lines_text (head ∷ []) ++ (lines_text (clef ∷ []) ++ (lines_text bars ++ lines_text end)) =
    lines_append (head ∷ []) (clef ∷ (bars ++ end))
    ∙ ap (λ t. lines_text (head ∷ []) ++ t) (lines_append (clef ∷ []) (bars ++ end) ∙ ap (λ t. lines_text (clef ∷ []) ++ t) rest) in
    let all : new ≡ text ++ (lines_text (head ∷ []) ++ (lines_text (clef ∷ []) ++ (lines_text bars ++ lines_text end))) =
    five text (lines_text (head ∷ [])) (lines_text (clef ∷ [])) (lines_text bars) (lines_text end) one two three new a b c d in
    all ∙ ap (λ t. text ++ t) (sym parts)
  where
    five : (text a b c d one two three new : List ℕ) → one ≡ text ++ a → two ≡ one ++ b → three ≡ two ++ c → new ≡ three ++ d
        → new ≡ text ++ (a ++ (b ++ (c ++ d)))
    five text a b c d one two three new e f g h =
        h ∙ ap (λ t. t ++ d) (g ∙ ap (λ t. t ++ c) (f ∙ ap (λ t. t ++ b) e)) ∙ append_assoc (text ++ a ++ b) c d
        ∙ append_assoc (text ++ a) b (c ++ d) ∙ append_assoc text a (b ++ (c ++ d))

-- a voice has groups for each bar
pub groups_for_bars : (resolution n : ℕ) (bars : List ScoreBar) (sounds : List Sound) (all : List (List Group)) → AreVoiceGroups resolution n bars sounds all
    → length all ≡ length bars
groups_for_bars resolution n [] sounds all are = ap length are
groups_for_bars resolution n (bar ∷ bars) sounds [] are = absurd are
groups_for_bars resolution n (bar ∷ bars) sounds (groups ∷ all) are = ap (λ m. suc m) (groups_for_bars resolution (suc n) bars sounds all are.1)
