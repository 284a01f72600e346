-- The lines of a staff are read as the spans of its voice.
use Rattle.rhythm_base.specs.declared.limits.TheConstants.{MOST_UNITS}
use Rattle.std.proofs.Common.{◌≡◌, ℕ, suc, ◌+◌, ◌*◌, ◌≤◌, ◌==◌, Bool, true, false, List, [], ◌∷◌, ◌++◌, map, refl, sym, ap, ap₂, ◌∙◌, arith, append_assoc, Option, Some, None}
use Rattle.std.specs.Prelude.{⊤, ℤ, All, codes, decimal, if◌then◌else◌}
use Rattle.std.specs.List.{slice_split}
use Rattle.std.specs.Option.{option_map}
use Rattle.std.specs.Str.{bytes_eq}
use Rattle.std.proofs.Math.Nat.{one-dvd}
use Rattle.std.proofs.lemmas.Bool.{and_parts, false≢true}
use Rattle.std.proofs.lemmas.Bool.Decides.{nat_tests}
use Rattle.std.proofs.lemmas.List.Elements.{All-head, All-tail}
use Rattle.std.proofs.lemmas.List.Sums.{sum_by-cons}
use Rattle.rhythm_base.specs.declared.span.Frac.{Frac}
use Rattle.rhythm_base.specs.declared.span.Span.{Span}
use Rattle.rhythm_base.specs.Signatures.{is_den}
use Rattle.derivation.specs.declared.score.ScoreBar.{ScoreBar}
use Rattle.derivation.specs.Score.{IsScoreBar}
use Rattle.score_words.specs.Changes.{key_before, same_key, same_signature, same_tempo, has_flats}
use Rattle.voice_events.specs.Events.{span_event}
use Rattle.text_words.specs.declared.time_signature.TimeSignature.{TimeSignature}
use Rattle.text_words.specs.TimeSignatures.{signature_of_numbers, signature_of_parts}
use Rattle.text_words.specs.Steps.{◌>>=◌}
use Rattle.text_words.specs.Numbers.{number_of}
use Rattle.text_words.proofs.TextNumbers.{number_back}
use Rattle.text_words.proofs.TextSplits.{split_first, split_last}
use Rattle.voice_events.specs.Parts.{score_bar_parts, score_parts}
use Rattle.voice_events.specs.VoiceEvents.{AreOfVoice, FollowFrom, IsVoiceSpan}
use Rattle.score_words.specs.LilyChanges.{lily_changes, lily_key_lines, lily_key, lily_tempo_lines, lily_tempo, time_change, time_line}
use Rattle.lily_writer.specs.Fractions.{frac, nothing}
use Rattle.lily_writer.specs.Hearing.{HeardVoice, unheard}
use Rattle.lily_writer.specs.Pieces.{stretches}
use Rattle.lily_writer.specs.Reading.{Staff, events_of_lines, hear_bar, hear_line, new_staff, bar_fraction, with_heard, with_signature}
use Rattle.lily_writer.specs.Elements.{Element}
use Rattle.lily_writer.specs.Staves.{AreBarElements, AreBarsOfStaff, AreStaffLines, staff_bar}
use Rattle.lily_laws.proofs.BarWords.{bar_read, bar_sounds, signature}
use Rattle.lily_laws.proofs.Fractions.{is_frac}
use Rattle.lily_laws.proofs.LineStarts.{IsBarText, bar_begins, is_bar_text}
use Rattle.lily_laws.proofs.Reached.{reached, reached_end, reached_start}
use Rattle.lily_laws.proofs.WrittenParts.{part_range}
use Rattle.text_words.proofs.TextTests.{slash_free}

-- what is known of a staff
abbrev staff : Option Frac → HeardVoice → Staff
staff said h = record { signature = said; heard = h }

-- ---- one line more

line_more : (spine : ℕ) (before next : Staff) (line : List ℕ) (lines : List (List ℕ)) → bytes_eq line (codes "}") ≡ false
    → hear_line before line ≡ Some next
    → events_of_lines spine (Some before) (line ∷ lines) ≡ events_of_lines spine (Some next) lines
line_more spine before next line lines goes heard = rw goes (ap (λ o. o >>= λ next. events_of_lines spine (Some next) lines) heard)

-- ---- changes

key_heard : (before : Staff) (sf : ℤ) → hear_line before (lily_key sf) ≡ Some before
unfolding hear_line
key_heard before sf = refl

tempo_heard : (before : Staff) (bar : ScoreBar) → hear_line before (lily_tempo bar) ≡ Some before
unfolding hear_line
tempo_heard before bar = refl

pub numbers_read : (num den : ℕ) → 1 ≤ num → num ≤ 64 → is_den den ≡ true
    → bar_fraction (decimal num ++ codes "/" ++ decimal den) ≡ Some (frac num den)
numbers_read num den some few power =
    let range = part_range den power in
    let parts : slice_split (λ b. b == 47) (decimal num ++ codes "/" ++ decimal den) ≡ decimal num ∷ decimal den ∷ [] =
    ap (slice_split (λ b. b == 47)) (append_assoc (decimal num) (codes "/") (decimal den))
    ∙ split_first 47 (decimal num) (decimal den) (slash_free num)
    ∙ ap (λ pieces. decimal num ∷ pieces) (split_last 47 (decimal den) (slash_free den)) in
    let read : signature_of_numbers (decimal num ∷ decimal den ∷ []) ≡ signature_of_parts num den =
    ap (λ o. o >>= λ n. number_of 64 (decimal den) >>= λ d. signature_of_parts n d) (number_back 64 num some few (omega arith))
    ∙ ap (λ o. o >>= λ d. signature_of_parts num d) (number_back 64 den range.0 range.1 (omega arith)) in
    ap (λ pieces. option_map (λ (s : TimeSignature). frac s.num s.den) (signature_of_numbers pieces)) parts
    ∙ ap (option_map (λ (s : TimeSignature). frac s.num s.den)) read
    ∙ ap (λ b. option_map (λ (s : TimeSignature). frac s.num s.den) (if b then Some (record { num = num; den = den }) else None)) power

time_heard : (before : Staff) (bar : ScoreBar) → IsScoreBar bar
    → hear_line before (time_line bar) ≡ Some (with_signature before (signature bar))
unfolding hear_line
time_heard before bar is = ap (option_map (with_signature before))
    (numbers_read bar.num bar.den is.signature.some is.signature.few is.signature.power)

bar_line_heard : (line : List ℕ) (s : Frac) (h next : HeardVoice) → IsBarText line → hear_bar s h line ≡ Some next
    → hear_line (staff (Some s) h) line ≡ Some (staff (Some s) next)
unfolding hear_line
bar_line_heard line s h next text heard = rw (text.key, text.tempo, text.time) (ap (option_map (with_heard (staff (Some s) h))) heard)

-- the signature that was said last is that of the bar before
abbrev IsSaid : Option ScoreBar → Option Frac → Type 0
IsSaid None said = ⊤
IsSaid (Some before) said = said ≡ Some (signature before)

module _ (spine : ℕ) where
  key_passed : (before : Staff) (old sf : Option ℤ) (more : List (List ℕ))
      → events_of_lines spine (Some before) (lily_key_lines old sf ++ more) ≡ events_of_lines spine (Some before) more
  key_passed before old None more = refl
  key_passed before old (Some sf) more = go (same_key old sf)
    where
      go : (b : Bool) → events_of_lines spine (Some before) ((if b then [] else lily_key sf ∷ []) ++ more)
          ≡ events_of_lines spine (Some before) more
      go true = refl
      go false = line_more spine before before (lily_key sf) more refl (key_heard before sf)

  tempo_passed : (first : Bool) (before : Staff) (old : Option ScoreBar) (bar : ScoreBar) (more : List (List ℕ))
      → events_of_lines spine (Some before) ((if first then lily_tempo_lines old bar else []) ++ more)
      ≡ events_of_lines spine (Some before) more
  tempo_passed false before old bar more = refl
  tempo_passed true before old bar more = go (same_tempo old bar)
    where
      go : (b : Bool) → events_of_lines spine (Some before) ((if b then [] else lily_tempo bar ∷ []) ++ more)
          ≡ events_of_lines spine (Some before) more
      go true = refl
      go false = line_more spine before before (lily_tempo bar) more refl (tempo_heard before bar)

  -- a signature that is not said again is that of the bar before
  same_said : (old : Option ScoreBar) (said : Option Frac) (bar : ScoreBar) → IsSaid old said → same_signature old bar ≡ true
      → said ≡ Some (signature bar)
  same_said None said bar is same = absurd (false≢true same)
  same_said (Some before) said bar is same =
      let parts = and_parts (before.num == bar.num) (before.den == bar.den) same in
      is ∙ ap₂ (λ n d. Some (frac n d)) (equal before.num bar.num parts.0) (equal before.den bar.den parts.1)
    where
      equal : (a b : ℕ) → (a == b) ≡ true → a ≡ b
      equal a b e = grind (arith, nat_tests, e)

  time_passed : (said : Option Frac) (h : HeardVoice) (old : Option ScoreBar) (bar : ScoreBar) (more : List (List ℕ)) → IsScoreBar bar
      → IsSaid old said
      → events_of_lines spine (Some (staff said h)) (time_change old bar ++ more)
      ≡ events_of_lines spine (Some (staff (Some (signature bar)) h)) more
  time_passed said h old bar more is known = go (same_signature old bar) refl
    where
      go : (b : Bool) → same_signature old bar ≡ b
          → events_of_lines spine (Some (staff said h)) ((if b then [] else time_line bar ∷ []) ++ more)
          ≡ events_of_lines spine (Some (staff (Some (signature bar)) h)) more
      go true e = ap (λ o. events_of_lines spine (Some (staff o h)) more) (same_said old said bar known e)
      go false e = line_more spine (staff said h) (staff (Some (signature bar)) h) (time_line bar) more refl
          (time_heard (staff said h) bar is)

  changes_passed : (first : Bool) (said : Option Frac) (h : HeardVoice) (old : Option ScoreBar) (bar : ScoreBar) (more : List (List ℕ))
      → IsScoreBar bar → IsSaid old said
      → events_of_lines spine (Some (staff said h)) (lily_changes first old bar ++ more)
      ≡ events_of_lines spine (Some (staff (Some (signature bar)) h)) more
  changes_passed first said h old bar more is known =
      let key = lily_key_lines (key_before old) bar.sf in
      let time = time_change old bar in
      let tempo = if first then lily_tempo_lines old bar else [] in
      ap (events_of_lines spine (Some (staff said h))) (append_assoc (key ++ time) tempo more ∙ append_assoc key time (tempo ++ more))
      ∙ key_passed (staff said h) (key_before old) bar.sf (time ++ (tempo ++ more)) ∙ time_passed said h old bar (tempo ++ more) is known
      ∙ tempo_passed first (staff (Some (signature bar)) h) old bar more

  -- ---- bars

  module _ (r : ℕ) (end : ℕ) (first : Bool) (spans : List Span) (some : 1 ≤ r) (few : r ≤ MOST_UNITS) (follow : FollowFrom r end 0 spans)
      (are : All (IsVoiceSpan r) spans) where
    line_heard : (bar : ScoreBar) (from : ℕ) (elements : List Element) (more : List (List ℕ)) → IsScoreBar bar
        → from + score_bar_parts r bar ≤ end
        → AreBarElements r from (from + score_bar_parts r bar) (stretches r 0 end spans) elements
        → events_of_lines spine (Some (staff (Some (signature bar)) (reached r [] from spans)))
        (staff_bar (has_flats bar.sf) elements ∷ more)
        ≡ events_of_lines spine (Some (staff (Some (signature bar)) (reached r [] (from + score_bar_parts r bar) spans))) more
    line_heard bar from elements more is within all =
        let flats = has_flats bar.sf in
        let text = is_bar_text (staff_bar flats elements) (bar_begins flats elements
        (bar_sounds r some few from (from + score_bar_parts r bar) end spans elements are all)) in
        line_more spine (staff (Some (signature bar)) (reached r [] from spans))
        (staff (Some (signature bar)) (reached r [] (from + score_bar_parts r bar) spans)) (staff_bar flats elements) more text.end
        (bar_line_heard (staff_bar flats elements) (signature bar) (reached r [] from spans)
        (reached r [] (from + score_bar_parts r bar) spans) text
        (bar_read r end from flats spans bar elements some few is within follow are all))

    bars_heard : (bars : List ScoreBar) (old : Option ScoreBar) (said : Option Frac) (from : ℕ) (lines more : List (List ℕ))
        → All IsScoreBar bars → IsSaid old said
        → from + score_parts r bars ≡ end → AreBarsOfStaff r first (stretches r 0 end spans) old from bars lines
        → (last : Option Frac) × (events_of_lines spine (Some (staff said (reached r [] from spans))) (lines ++ more)
        ≡ events_of_lines spine (Some (staff last (reached r [] end spans))) more)
    bars_heard [] old said from lines more is known total all =
        let there : from ≡ end = omega (arith, total) in
        (said, ap₂ (λ ls n. events_of_lines spine (Some (staff said (reached r [] n spans))) (ls ++ more)) all there)
    bars_heard (bar ∷ bars) old said from lines more is known total (elements, others, own, rest, all) =
        let split = sum_by-cons (score_bar_parts r) bar bars in
        let next = bars_heard bars (Some bar) (Some (signature bar)) (from + score_bar_parts r bar) others more
        (All-tail IsScoreBar bar bars is) refl (omega (arith, total, split)) rest in
        let one = All-head IsScoreBar bar bars is in (
          next.0,
          ap (λ ls. events_of_lines spine (Some (staff said (reached r [] from spans))) (ls ++ more)) all
              ∙ ap (events_of_lines spine (Some (staff said (reached r [] from spans))))
              (append_assoc (lily_changes first old bar) (staff_bar (has_flats bar.sf) elements ∷ others) more)
              ∙ changes_passed first said (reached r [] from spans) old bar (staff_bar (has_flats bar.sf) elements ∷ (others ++ more)) one known
              ∙ line_heard bar from elements (others ++ more) one (omega (arith, total, split)) own ∙ next.1,
        )

-- ---- the staff

-- nothing is 0 of any parts
no_parts : (d : ℕ) → 1 ≤ d → nothing ≡ frac 0 d
no_parts d some = is_frac 0 d nothing some (record { value = omega arith; some = omega arith; lowest = (one-dvd 0, one-dvd 1, λ e h k. k) })

pub staff_read : (r spine : ℕ) (bars : List ScoreBar) (first : Bool) (spans : List Span) (lines more : List (List ℕ)) → 1 ≤ r
    → r ≤ MOST_UNITS → All IsScoreBar bars
    → AreOfVoice r (score_parts r bars) spans → AreStaffLines r bars first spans lines
    → events_of_lines spine None (lines ++ more) ≡ option_map (λ others. map (span_event spine) spans ++ others)
    (events_of_lines (suc spine) None more)
staff_read r spine bars first spans lines more some few is voice (own, all, are) =
    let end = score_parts r bars in
    let start : unheard ≡ reached r [] 0 spans = ap (λ f. record unheard { at = f }) (no_parts (64 * r) (omega (arith, some)))
    ∙ sym (reached_start r end spans voice.follow) in
    let last = reached_end r [] 0 end spans voice.follow voice.each in
    let heard = bars_heard spine r end first spans some few voice.follow voice.each bars None None 0 own (codes "}" ∷ more) is tt
    (omega arith) all in
    ap (λ ls. events_of_lines spine None (ls ++ more)) are
    ∙ ap (λ ls. events_of_lines spine (Some new_staff) ls) (append_assoc own (codes "}" ∷ []) more)
    ∙ ap (λ h. events_of_lines spine (Some (staff None h)) (own ++ codes "}" ∷ more)) start ∙ heard.1
    ∙ ap (λ h. events_of_lines spine (Some (staff heard.0 h)) (codes "}" ∷ more)) last
