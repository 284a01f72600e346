-- What the records of the bars say.
use Rattle.std.proofs.Common.{◌≡◌, ℕ, ℤ, suc, Bool, true, false, List, [], ◌∷◌, ◌++◌, length, map, refl, sym, ap, ◌∙◌, subst}
use Rattle.std.specs.Prelude.{All, Option, Some, None, if◌then◌else◌, slice_index_or}
use Rattle.std.specs.List.{flat_map}
use Rattle.std.proofs.lemmas.List.{length-map, map-append}
use Rattle.std.proofs.lemmas.List.Elements.{All-head, All-tail}
use Rattle.rhythm_base.specs.Lists.{Each}
use Rattle.derivation.specs.declared.score.ScoreBar.{ScoreBar}
use Rattle.kern_writer.specs.Changes.{changes, key_change, key_text, signature_change, signature_text, tempo_change, tempo_text}
use Rattle.score_words.specs.Changes.{key_before, same_key, same_signature, same_tempo}
use Rattle.kern_writer.specs.Records.{AreBarRecords, AreBarsRecords, Record, alike, barline_record, records_at, tokens_in_bar}
use Rattle.derivation.specs.Score.{IsScoreBar}
use Rattle.kern_writer.specs.Tokens.{Token}
use Rattle.kern_laws.specs.Lines.{KernLine}
use Rattle.kern_laws.proofs.ScoreLines.{AreBarLines, AreBarsLines, Barline, Other, Said, Signature, change_lines, lines_at, said_in_bar}
use Rattle.kern_laws.proofs.RecordsLines.{SaysInside}
use Rattle.kern_laws.proofs.RecordsPairs.{each_flat, each_map, each_slot}
use Rattle.kern_laws.proofs.RecordsPlaces.{BarSays, place_says, same_places}
use Rattle.kern_laws.proofs.RecordsVoices.{SaysSame, VoicesSay}
use Rattle.kern_laws.proofs.WordsSay.{barline_says, key_says, signature_says, tempo_says}
use Rattle.rhythm_base.proofs.PairedLists.{each_append}

-- ---- changes

-- a change says this line in each of n columns, where there is one
abbrev SayChange : ℕ → List (List ℕ) → KernLine → Type 0
SayChange n texts line = Each (SaysInside n) (map (alike n) texts) (map (λ _. line) texts)

change_at : (n : ℕ) (same : Bool) (text : List ℕ) (line : KernLine) → SaysInside n (alike n text) line
    → SayChange n (if same then [] else text ∷ []) line
change_at n true text line h = refl
change_at n false text line h = (h, refl)

key_said : (m : ℕ) (before sf : Option ℤ) → SayChange (suc m) (key_change before sf) Other
key_said m before None = refl
key_said m before (Some sf) = change_at (suc m) (same_key before sf) (key_text sf) Other (key_says m sf)

signature_said : (m : ℕ) (before : Option ScoreBar) (bar : ScoreBar) → IsScoreBar bar
    → SayChange (suc m) (signature_change before bar) (Signature (record { num = bar.num; den = bar.den }))
signature_said m before bar well =
    change_at (suc m) (same_signature before bar) (signature_text bar) (Signature (record { num = bar.num; den = bar.den }))
    (signature_says m bar well.signature)

tempo_said : (m : ℕ) (before : Option ScoreBar) (bar : ScoreBar) → SayChange (suc m) (tempo_change before bar) Other
tempo_said m before bar = change_at (suc m) (same_tempo before bar) (tempo_text bar) Other (tempo_says m bar)

changes_say : (m : ℕ) (before : Option ScoreBar) (bar : ScoreBar) → IsScoreBar bar
    → Each (SaysInside (suc m)) (map (alike (suc m)) (changes before bar)) (change_lines before bar)
changes_say m before bar well =
    let keys = key_change (key_before before) bar.sf in
    let signatures = signature_change before bar in
    let tempos = tempo_change before bar in
    let row : List ℕ → Record = alike (suc m) in
    let sign : KernLine = Signature (record { num = bar.num; den = bar.den }) in
    let parts : map row (keys ++ signatures ++ tempos) ≡ map row keys ++ map row signatures ++ map row tempos =
    map-append row (keys ++ signatures) tempos ∙ ap (λ rows. rows ++ map row tempos) (map-append row keys signatures) in
    let two = each_append (SaysInside (suc m)) (map row keys) (map row signatures) (map (λ _. Other) keys) (map (λ _. sign) signatures)
    (key_said m (key_before before) bar.sf) (signature_said m before bar well) in
    subst (λ rows. Each (SaysInside (suc m)) rows (change_lines before bar)) (sym parts)
    (each_append (SaysInside (suc m)) (map row keys ++ map row signatures) (map row tempos)
    (map (λ _. Other) keys ++ map (λ _. sign) signatures) (map (λ _. Other) tempos)
    two (tempo_said m before bar))

-- ---- one bar

bar_says : (m n : ℕ) (before : Option ScoreBar) (bar : ScoreBar) (tokens : List (List Token)) (saids : List (List Said)) (records : List Record)
    → IsScoreBar bar → BarSays tokens saids → length tokens ≡ suc m → AreBarRecords before bar n tokens records → (lines : List KernLine) × AreBarLines before bar saids lines × Each
    (SaysInside (suc m)) records lines
bar_says m n before bar tokens saids records well h count (places, are, is) =
    let data_rows = flat_map (records_at tokens) places in
    let data_lines = flat_map (lines_at saids) places in
    let placed : Each (SaysInside (suc m)) data_rows data_lines = each_flat (SaysInside (suc m)) (records_at tokens) (lines_at saids) places
    (λ place. place_says m place tokens saids h count) in
    let all : Each (SaysInside (suc m)) (map (alike (suc m)) (changes before bar) ++ barline_record (suc m) n ∷ data_rows)
    (change_lines before bar ++ Barline ∷ data_lines) =
    each_append (SaysInside (suc m)) (map (alike (suc m)) (changes before bar)) (barline_record (suc m) n ∷ data_rows)
    (change_lines before bar) (Barline ∷ data_lines)
    (changes_say m before bar well) (barline_says m n, placed) in
    let rows : records ≡ map (alike (suc m)) (changes before bar) ++ barline_record (suc m) n ∷ data_rows =
    is ∙ ap (λ k. map (alike k) (changes before bar) ++ barline_record k n ∷ data_rows) count in (
      change_lines before bar ++ Barline ∷ data_lines,
      (places, same_places tokens saids places h are, refl),
      subst (λ rs. Each (SaysInside (suc m)) rs (change_lines before bar ++ Barline ∷ data_lines)) (sym rows) all,
    )

-- ---- all bars

bar_of_voices : (n : ℕ) (tokens : List (List (List Token))) (saids : List (List (List Said))) → VoicesSay tokens saids
    → BarSays (tokens_in_bar n tokens) (said_in_bar n saids)
bar_of_voices n tokens saids h =
    each_map (Each (Each SaysSame)) (Each SaysSame) (λ bars. slice_index_or bars n []) (λ bars. slice_index_or bars n []) tokens saids
    (λ ts xs k. each_slot (Each SaysSame) ts xs n [] [] refl k) h

pub bars_say : (m n : ℕ) (before : Option ScoreBar) (bars : List ScoreBar) (tokens : List (List (List Token))) (saids : List (List (List Said))) (records : List Record)
    → All IsScoreBar bars → VoicesSay tokens saids → length tokens ≡ suc m → AreBarsRecords tokens before n bars records
    → (lines : List KernLine) × AreBarsLines saids before n bars lines × Each (SaysInside (suc m)) records lines
bars_say m n before [] tokens saids records well h count are = ([], refl, subst (λ rs. Each (SaysInside (suc m)) rs []) (sym are) refl)
bars_say m n before (bar ∷ bars) tokens saids records well h count (own, others, are_own, are_others, is) =
    let first = bar_says m n before bar (tokens_in_bar n tokens) (said_in_bar n saids) own (All-head IsScoreBar bar bars well)
    (bar_of_voices n tokens saids h)
    (length-map tokens (λ bars. slice_index_or bars n []) ∙ count) are_own in
    let rest = bars_say m (suc n) (Some bar) bars tokens saids others (All-tail IsScoreBar bar bars well) h count are_others in (
      first.0 ++ rest.0,
      (first.0, rest.0, first.1, rest.1, refl),
      subst (λ rs. Each (SaysInside (suc m)) rs (first.0 ++ rest.0)) (sym is)
          (each_append (SaysInside (suc m)) own others first.0 rest.0 first.2 rest.2),
    )
