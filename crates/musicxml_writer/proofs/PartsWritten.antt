-- The lines of one more part of a score.
use Rattle.std.proofs.Common.{◌≡◌, ℕ, suc, ◌+◌, ◌<◌, ◌≤◌, List, [], ◌∷◌, ◌++◌, append_assoc, get_or, length, take, sym, ap, ◌∙◌, subst, refl, arith}
use Rattle.std.proofs.lemmas.List.{append-nil, length-take, take_all, take_more}
use Rattle.rhythm_base.specs.declared.sound.Sound.{Sound}
use Rattle.rhythm_base.specs.Lists.{Each}
use Rattle.derivation.specs.declared.score.ScoreBar.{ScoreBar}
use Rattle.notation.specs.Bars.{AreVoiceGroups}
use Rattle.notation.specs.Notes.{Group}
use Rattle.musicxml_writer.specs.Parts.{part_text}
use Rattle.std.specs.Prelude.{codes}
use Rattle.musicxml_writer.specs.Elements.{closing}
use Rattle.musicxml_writer.specs.Text.{IsMusicXml, head, part_list, parts_text, score_text}
use Rattle.musicxml_writer.proofs.Appended.{four}
use Rattle.rhythm_base.proofs.PairedLists.{each_push}
use Rattle.derivation.proofs.Pairs.{each_length}

text_more : (r : ℕ) (bars : List ScoreBar) (n : ℕ) (voices : List (List Sound)) (written : List (List (List Group)))
    (sounds : List Sound) (groups : List (List Group)) → length voices ≡ length written
    → parts_text r bars n (voices ++ sounds ∷ []) (written ++ groups ∷ [])
    ≡ parts_text r bars n voices written ++ part_text r (n + length voices) bars sounds groups
text_more r bars n [] [] sounds groups same =
    append-nil (part_text r n bars sounds groups) ∙ ap (λ m. part_text r m bars sounds groups) (let e : n ≡ n + 0 = omega arith in e)
text_more r bars n [] (g ∷ written) sounds groups same = absurd (omega (arith, same))
text_more r bars n (v ∷ voices) [] sounds groups same = absurd (omega (arith, same))
text_more r bars n (v ∷ voices) (g ∷ written) sounds groups same =
    let fewer : length voices ≡ length written = omega (arith, same) in
    let up : n + 1 + length voices ≡ n + suc (length voices) = omega arith in
    ap (λ t. part_text r n bars v g ++ t) (text_more r bars (n + 1) voices written sounds groups fewer)
    ∙ sym (append_assoc (part_text r n bars v g) (parts_text r bars (n + 1) voices written) (part_text r (n + 1 + length voices) bars sounds groups))
    ∙ ap (λ m. (part_text r n bars v g ++ parts_text r bars (n + 1) voices written) ++ part_text r m bars sounds groups) up

-- the parts of the first so many voices are written after a text
abbrev pub HaveParts : ℕ → List ScoreBar → List (List Sound) → List ℕ → List ℕ → Type 0
HaveParts r bars voices text new =
    (written : List (List (List Group))) × Each (AreVoiceGroups r 0 bars) voices written × (new ≡ text ++ parts_text r bars 1 voices written)

pub no_parts : (r : ℕ) (bars : List ScoreBar) (text : List ℕ) → HaveParts r bars [] text text
no_parts r bars text = ([], refl, sym (append-nil text))

pub one_part : (r : ℕ) (bars : List ScoreBar) (voices : List (List Sound)) (i : ℕ) (sounds : List Sound) (groups : List (List Group))
    (text one new : List ℕ) → i < length voices → sounds ≡ get_or voices i sounds → HaveParts r bars (take i voices) text one → AreVoiceGroups r 0 bars sounds groups
    → new ≡ one ++ part_text r (i + 1) bars sounds groups → HaveParts r bars (take (i + 1) voices) text new
one_part r bars voices i sounds groups text one new lt item (written, each, is) are next =
    let front = take i voices in
    let longer : take (i + 1) voices ≡ front ++ sounds ∷ [] = take_more voices i sounds lt ∙ ap (λ (s : List Sound). front ++ s ∷ []) (sym item) in
    let all = each_push (AreVoiceGroups r 0 bars) front written sounds groups each are in
    let count : 1 + length front ≡ i + 1 = omega (arith, length-take i voices, lt) in
    let texts = text_more r bars 1 front written sounds groups (each_length (AreVoiceGroups r 0 bars) front written each) in
    let own = parts_text r bars 1 front written in
    subst (λ vs. HaveParts r bars vs text new) (sym longer) (
      written ++ groups ∷ [],
      all,
      next ∙ ap (λ t. t ++ part_text r (i + 1) bars sounds groups) is ∙ append_assoc text own (part_text r (i + 1) bars sounds groups)
          ∙ ap (λ m. text ++ (own ++ part_text r m bars sounds groups)) (sym count) ∙ ap (λ t. text ++ t) (sym texts),
    )

pub all_parts : (r : ℕ) (bars : List ScoreBar) (voices : List (List Sound)) (i : ℕ) (text new : List ℕ) → length voices ≤ i
    → HaveParts r bars (take i voices) text new → HaveParts r bars voices text new
all_parts r bars voices i text new past h = subst (λ vs. HaveParts r bars vs text new) (take_all i voices past) h

-- ---- the whole text

pub text_written : (r : ℕ) (bars : List ScoreBar) (voices : List (List Sound)) (channels text first second third new : List ℕ)
    → text ≡ [] → first ≡ text ++ head → second ≡ first ++ part_list channels → HaveParts r bars voices second third
    → new ≡ third ++ (closing (codes "score-partwise") ++ codes "\n") → IsMusicXml (record { resolution = r; bars = bars; voices = voices }) channels new
unfolding score_text
text_written r bars voices channels text first second third new none one next (written, each, is) last =
    let tail = closing (codes "score-partwise") ++ codes "\n" in
    let parts = parts_text r bars 1 voices written in (
      written,
      each,
      four text first second third new head (part_list channels) parts tail one next is last
          ∙ ap (λ t. t ++ (head ++ part_list channels ++ parts ++ tail)) none,
    )
