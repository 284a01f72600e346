-- The staves of a page, written one after another.
use Rattle.std.proofs.Common.{◌≡◌, ℕ, ◌+◌, ◌==◌, ◌<◌, ◌≤◌, true, false, List, [], ◌∷◌, ◌++◌, append_assoc, drop, get_or, length, refl, sym, ap, ◌∙◌, subst, arith}
use Rattle.std.proofs.lemmas.Bool.Decides.{nat_tests}
use Rattle.std.proofs.lemmas.List.{append-nil, drop_all, drop_more}
use Rattle.rhythm_base.specs.declared.sound.Sound.{Sound}
use Rattle.rhythm_base.specs.Lists.{Each}
use Rattle.derivation.specs.declared.score.ScoreBar.{ScoreBar}
use Rattle.notation.specs.Bars.{AreVoiceGroups}
use Rattle.notation.specs.Notes.{Group}
use Rattle.page_writer.specs.Staves.{staff_lines, staves_lines}
use Rattle.score_words.specs.TextLines.{lines_text}
use Rattle.score_words.proofs.TextLines.{lines_append}

module _ (resolution : ℕ) (bars : List ScoreBar) (most channels : List ℕ) (voices : List (List Sound)) where
  -- the staves of the first i voices are these lines, whatever the groups of the others are
  abbrev pub AreLinesBefore : ℕ → List (List ℕ) → Type 0
  AreLinesBefore i lines =
      (others : List (List (List Group))) → Each (AreVoiceGroups resolution 0 bars) (drop i voices) others
      → (written : List (List (List Group))) × Each (AreVoiceGroups resolution 0 bars) voices written
      × (staves_lines true bars most channels voices written
      ≡ lines ++ staves_lines (i == 0) bars most (drop i channels) (drop i voices) others)

  -- the staves of the first i voices stand after a text
  pub record AreStavesWritten (i : ℕ) (start text : List ℕ) : Type 0 where
    pub lines : List (List ℕ)
    pub before : AreLinesBefore i lines
    pub text_is : text ≡ start ++ lines_text lines

  pub staves_none : (start : List ℕ) → AreStavesWritten 0 start start
  staves_none start = record { lines = []; before = λ others each. (others, each, refl); text_is = sym (append-nil start) }

  pub staves_next : (i : ℕ) (sounds : List Sound) (groups : List (List Group)) (start text new : List ℕ) → i < length voices → i < length channels
      → sounds ≡ get_or voices i sounds → AreVoiceGroups resolution 0 bars sounds groups
      → new ≡ text ++ lines_text (staff_lines (i == 0) bars most (get_or channels i 0) sounds groups) → AreStavesWritten i start text
      → AreStavesWritten (i + 1) start new
  staves_next i sounds groups start text new in_voices in_channels is_sounds are own h =
      let staff = staff_lines (i == 0) bars most (get_or channels i 0) sounds groups in
      let vs : drop i voices ≡ sounds ∷ drop (i + 1) voices = drop_more voices i sounds in_voices ∙ ap (λ s. s ∷ drop (i + 1) voices) (sym is_sounds) in
      let cs : drop i channels ≡ get_or channels i 0 ∷ drop (i + 1) channels = drop_more channels i 0 in_channels in
      let later : (i + 1 == 0) ≡ false = grind (arith, nat_tests) in
      record {
        lines = h.lines ++ staff;
        before = λ others each.
            let (written, all, same) = h.before (groups ∷ others)
            (subst (λ xs. Each (AreVoiceGroups resolution 0 bars) xs (groups ∷ others)) (sym vs) (are, each)) in
            let rest = staves_lines false bars most (drop (i + 1) channels) (drop (i + 1) voices) others in
            let one : staves_lines (i == 0) bars most (drop i channels) (drop i voices) (groups ∷ others) ≡ staff ++ rest =
            λ j. staves_lines (i == 0) bars most (cs j) (vs j) (groups ∷ others) in (
              written,
              all,
              same ∙ ap (λ ls. h.lines ++ ls) one ∙ sym (append_assoc h.lines staff rest)
                  ∙ ap (λ b. (h.lines ++ staff) ++ staves_lines b bars most (drop (i + 1) channels) (drop (i + 1) voices) others) (sym later),
            );
        text_is = own ∙ ap (λ t. t ++ lines_text staff) h.text_is ∙ append_assoc start (lines_text h.lines) (lines_text staff)
            ∙ ap (λ t. start ++ t) (sym (lines_append h.lines staff));
      }

  pub staves_all : (i : ℕ) (start text : List ℕ) → length voices ≤ i → AreStavesWritten i start text
      → (written : List (List (List Group))) × Each (AreVoiceGroups resolution 0 bars) voices written
      × (text ≡ start ++ lines_text (staves_lines true bars most channels voices written))
  staves_all i start text past h =
      let none : drop i voices ≡ [] = drop_all i voices past in
      let (written, all, same) = h.before [] (subst (λ xs. Each (AreVoiceGroups resolution 0 bars) xs []) (sym none) refl) in
      let last : staves_lines (i == 0) bars most (drop i channels) (drop i voices) [] ≡ [] =
      ap (λ vs. staves_lines (i == 0) bars most (drop i channels) vs []) none in
      (written, all, h.text_is ∙ ap (λ ls. start ++ lines_text ls) (sym (same ∙ ap (λ ls. h.lines ++ ls) last ∙ append-nil h.lines)))
