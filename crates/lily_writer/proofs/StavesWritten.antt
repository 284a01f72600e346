-- The staves of a page, one voice after another.
use Rattle.std.proofs.Common.{◌≡◌, ℕ, suc, ◌+◌, ◌-◌, ◌==◌, ◌≤◌, ◌<◌, Bool, true, false, List, [], ◌∷◌, ◌++◌, append_assoc, append-nil, drop, take, refl, sym, ap, ◌∙◌, subst, arith}
use Rattle.std.specs.Prelude.{codes}
use Rattle.std.specs.List.{flat_map, prefix_len, range_with_len}
use Rattle.std.proofs.lemmas.Bool.Decides.{nat_tests}
use Rattle.std.proofs.lemmas.List.Concat.{flat_map-append}
use Rattle.rhythm_base.specs.Lists.{Each}
use Rattle.derivation.specs.declared.score.ScoreBar.{ScoreBar}
use Rattle.voice_events.specs.declared.event.KernEvent.{KernEvent}
use Rattle.voice_events.specs.Parts.{score_parts}
use Rattle.voice_events.specs.VoiceEvents.{AreOfVoice, AreVoiceEventsFrom}
use Rattle.lily_writer.specs.Staves.{AreStaffLines, spans_of, voice_spans}
use Rattle.lily_writer.specs.Text.{IsLilyText, IsStaff, page_head, page_tail}
use Rattle.score_words.specs.TextLines.{lines_text}
use Rattle.score_words.proofs.TextLines.{lines_append}
use Rattle.lily_writer.proofs.VoiceSplit.{IsSplit, voice_split}

-- the staves of the first n voices are written after a text, and the events of the others are still to be
pub record HasWrittenStaves (resolution : ℕ) (bars : List ScoreBar) (voices : ℕ) (events : List KernEvent) (n : ℕ) (left : List KernEvent)
    (text new : List ℕ) : Type 0 where
  pub staves : List (List (List ℕ))
  pub written : new ≡ text ++ lines_text (flat_map (λ lines. lines) staves)
  pub others : (more : List (List (List ℕ))) → Each (IsStaff resolution bars events) (range_with_len (1 + n) (voices - n)) more
      → Each (IsStaff resolution bars events) (range_with_len 1 voices) (staves ++ more)
  pub rest : AreVoiceEventsFrom resolution (score_parts resolution bars) (1 + n) (voices - n) left
  pub same : (spine : ℕ) → n < spine → voice_spans spine left ≡ voice_spans spine events

staves_append : (xs ys : List (List (List ℕ))) → flat_map (λ lines. lines) (xs ++ ys) ≡ flat_map (λ lines. lines) xs ++ flat_map
    (λ lines. lines) ys
staves_append xs ys = flat_map-append (λ (lines : List (List ℕ)). lines) xs ys

pub staves_none : (resolution : ℕ) (bars : List ScoreBar) (voices : ℕ) (events : List KernEvent) (text : List ℕ)
    → AreVoiceEventsFrom resolution (score_parts resolution bars) 1 voices events
    → HasWrittenStaves resolution bars voices events 0 events text text
staves_none resolution bars voices events text are =
    let whole : voices ≡ voices - 0 = omega arith in
    record {
      staves = [];
      written = sym (append-nil text);
      others = λ more each. subst (λ m. Each (IsStaff resolution bars events) (range_with_len 1 m) more) (sym whole) each;
      rest = subst (λ m. AreVoiceEventsFrom resolution (score_parts resolution bars) 1 m events) whole are;
      same = λ spine less. refl;
    }

-- ---- one staff more

first_test : (n : ℕ) → (n == 0) ≡ (1 + n == 1)
first_test n = go (n == 0) refl
  where
    go : (b : Bool) → (n == 0) ≡ b → (n == 0) ≡ (1 + n == 1)
    go true is = let test : (1 + n == 1) ≡ true = grind (arith, nat_tests) in is ∙ sym test
    go false is = let test : (1 + n == 1) ≡ false = grind (arith, nat_tests) in is ∙ sym test

split_here : (resolution : ℕ) (bars : List ScoreBar) (voices : ℕ) (events : List KernEvent) (n count : ℕ) (left : List KernEvent)
    (text one : List ℕ) → n < voices
    → count ≡ prefix_len (λ e. e.spine == n + 1) left → HasWrittenStaves resolution bars voices events n left text one
    → IsSplit resolution (score_parts resolution bars) (1 + n) (voices - (n + 1)) left (take count left) (drop count left)
split_here resolution bars voices events n count left text one within counted h =
    let more : voices - n ≡ suc (voices - (n + 1)) = omega (arith, within) in
    let turned : n + 1 ≡ 1 + n = omega arith in
    voice_split resolution (score_parts resolution bars) (1 + n) (voices - (n + 1)) count left
    (subst (λ m. AreVoiceEventsFrom resolution (score_parts resolution bars) (1 + n) m left) more h.rest)
    (counted ∙ ap (λ k. prefix_len (λ e. e.spine == k) left) turned)

-- its events are those of a voice
pub own_voice : (resolution : ℕ) (bars : List ScoreBar) (voices : ℕ) (events : List KernEvent) (n count : ℕ) (left : List KernEvent)
    (text one : List ℕ) → n < voices
    → count ≡ prefix_len (λ e. e.spine == n + 1) left → HasWrittenStaves resolution bars voices events n left text one
    → AreOfVoice resolution (score_parts resolution bars) (spans_of (take count left))
own_voice resolution bars voices events n count left text one within counted h =
    (split_here resolution bars voices events n count left text one within counted h).own

pub staves_next : (resolution : ℕ) (bars : List ScoreBar) (voices : ℕ) (events : List KernEvent) (n count : ℕ) (first : Bool)
    (left : List KernEvent) (lines : List (List ℕ)) (text one new : List ℕ)
    → n < voices → count ≡ prefix_len (λ e. e.spine == n + 1) left → first ≡ (n == 0)
    → HasWrittenStaves resolution bars voices events n left text one
    → AreStaffLines resolution bars first (spans_of (take count left)) lines → new ≡ one ++ lines_text lines
    → HasWrittenStaves resolution bars voices events (n + 1) (drop count left) text new
staves_next resolution bars voices events n count first left lines text one new within counted is_first h are written =
    let split = split_here resolution bars voices events n count left text one within counted h in
    let more : voices - n ≡ suc (voices - (n + 1)) = omega (arith, within) in
    let next : suc (1 + n) ≡ 1 + (n + 1) = omega arith in
    let turned : 1 + (n + 1) ≡ 1 + n + 1 = omega arith in
    let spans = split.spans ∙ h.same (1 + n) (omega arith) in
    let staff : IsStaff resolution bars events (1 + n) lines =
    subst (λ b. AreStaffLines resolution bars b (voice_spans (1 + n) events) lines) (is_first ∙ first_test n)
    (subst (λ xs. AreStaffLines resolution bars first xs lines) spans are) in
    let text_is = flat_map (λ (ls : List (List ℕ)). ls) h.staves in
    record {
      staves = h.staves ++ lines ∷ [];
      written =
          written ∙ ap (λ t. t ++ lines_text lines) h.written ∙ append_assoc text (lines_text text_is) (lines_text lines)
          ∙ ap (λ t. text ++ t) (sym (lines_append text_is lines))
          ∙ ap (λ ls. text ++ lines_text (text_is ++ ls)) (sym (append-nil lines))
          ∙ ap (λ ls. text ++ lines_text ls) (sym (staves_append h.staves (lines ∷ [])));
      others = λ others each.
          let own : Each (IsStaff resolution bars events) (range_with_len (1 + n) (voices - n)) (lines ∷ others) =
          subst (λ m. Each (IsStaff resolution bars events) (range_with_len (1 + n) m) (lines ∷ others)) (sym more)
          (staff, subst (λ k. Each (IsStaff resolution bars events) (range_with_len k (voices - (n + 1))) others) turned each) in
          subst (Each (IsStaff resolution bars events) (range_with_len 1 voices)) (sym (append_assoc h.staves (lines ∷ []) others))
          (h.others (lines ∷ others) own);
      rest = subst (λ k. AreVoiceEventsFrom resolution (score_parts resolution bars) k (voices - (n + 1)) (drop count left)) next
          split.rest;
      same = λ spine less. split.later spine (omega (arith, less)) ∙ h.same spine (omega (arith, less));
    }

pub staves_all : (resolution : ℕ) (bars : List ScoreBar) (voices : ℕ) (events : List KernEvent) (n : ℕ) (left : List KernEvent)
    (one new : List ℕ)
    → voices ≤ n → HasWrittenStaves resolution bars voices events n left (codes "\\version \"2.24.0\"\n\\score {\n<<\n") one
    → new ≡ one ++ codes ">>\n}\n"
    → IsLilyText resolution bars voices events new
staves_all resolution bars voices events n left one new all h end =
    let none : voices - n ≡ 0 = omega (arith, all) in
    let each = h.others [] (subst (λ m. Each (IsStaff resolution bars events) (range_with_len (1 + n) m) []) (sym none) refl) in
    let own = flat_map (λ (ls : List (List ℕ)). ls) h.staves in (
      h.staves,
      subst (Each (IsStaff resolution bars events) (range_with_len 1 voices)) (append-nil h.staves) each,
      end ∙ ap (λ t. t ++ codes ">>\n}\n") h.written ∙ ap (λ t. t ++ lines_text page_tail) (sym (lines_append page_head own))
          ∙ sym (lines_append (page_head ++ own) page_tail),
    )
