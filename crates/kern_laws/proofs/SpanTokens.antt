-- The tokens of a voice, first to last.
use Rattle.std.proofs.Common.{◌≡◌, ℕ, suc, ◌+◌, ◌*◌, Bool, true, false, not, List, [], ◌∷◌, ◌++◌, map, drop, take, refl, sym, ap, ap₂, ◌∙◌, arith, append_assoc, append-nil}
use Rattle.std.specs.Prelude.{cond, reverse, slice_index_or, sum, sum_by}
use Rattle.std.specs.List.{flat_map}
use Rattle.std.proofs.lemmas.Bool.{false≢true}
use Rattle.std.proofs.lemmas.List.Elements.{filter-append}
use Rattle.rhythm_base.specs.declared.note.Bar.{Bar}
use Rattle.rhythm_base.specs.declared.sound.Sound.{Sound}
use Rattle.durations.specs.Spans.{parts_of_unit}
use Rattle.derivation.specs.declared.score.ScoreBar.{ScoreBar}
use Rattle.voice_values.specs.GoesOn.{next_goes_on}
use Rattle.voice_values.specs.Values.{VoiceValue}
use Rattle.kern_reader.specs.declared.token.Token.{Token}
use Rattle.kern_reader.specs.declared.token.Token.TheVariants as token
use Rattle.kern_reader.specs.Columns.{has_value, place, waiting}
use Rattle.kern_reader.specs.Events.{bar_start, bars, beginnings, tied_values}
use Rattle.kern_reader.specs.Faults.{is_null}
use Rattle.kern_reader.proofs.SpineLemmas.{waiting_grace}
use Rattle.kern_laws.proofs.ScoreLines.{Said, bar_said, said_graces, value_token, voice_said}
use Rattle.kern_laws.proofs.BarLines.{said_in, signature_of_bar, spelled_bars}
use Rattle.kern_laws.proofs.BarVoice.{AreVoice}
use Rattle.kern_laws.proofs.PlaceParts.{clean, graced, spelled, token_width}
use Rattle.kern_laws.proofs.PlaceSteps.{place_grace, place_value, waiting_value}
use Rattle.rhythm_base.proofs.ListParts.{reverse_cons}
use Rattle.kern_reader.proofs.EventLemmas.{tied_next}

abbrev pub graces_read : List ℕ → List Token
graces_read graces = map (λ keys. token.Grace keys) graces

abbrev pub values_read : List VoiceValue → List VoiceValue → List Token
values_read [] later = []
values_read (v ∷ vs) later = graces_read (said_graces v) ++ value_token v (next_goes_on (vs ++ later)) ∷ values_read vs later

abbrev pub voice_read : List ScoreBar → List (List VoiceValue) → List Token
voice_read [] vss = []
voice_read (bar ∷ bars) [] = []
voice_read (bar ∷ bars) (vs ∷ vss) = token.Bar (signature_of_bar bar) ∷ (values_read vs (flat_map (λ vs. vs) vss) ++ voice_read bars vss)

-- ---- what is spelled, the other way round

graced_read : (graces : List ℕ) (before : List Token) → reverse (graced graces before) ≡ reverse before ++ graces_read graces
graced_read [] before = sym (append-nil (reverse before))
graced_read (keys ∷ graces) before =
    graced_read graces (token.Grace keys ∷ before) ∙ ap (λ xs. xs ++ graces_read graces) (reverse_cons (token.Grace keys) before) ∙ append_assoc (reverse before) (token.Grace keys ∷ []) (graces_read graces)

spelled_read : (vs later : List VoiceValue) (before : List Token) → reverse (spelled (bar_said vs later) before) ≡ reverse before ++ values_read vs later
spelled_read [] later before = sym (append-nil (reverse before))
spelled_read (v ∷ vs) later before =
    let t = value_token v (next_goes_on (vs ++ later)) in
    let graces = said_graces v in
    spelled_read vs later (t ∷ graced graces before) ∙ ap (λ xs. xs ++ values_read vs later) (reverse_cons t (graced graces before) ∙ ap (λ xs. xs ++ t ∷ []) (graced_read graces before))
    ∙ append_assoc (reverse before ++ graces_read graces) (t ∷ []) (values_read vs later) ∙ append_assoc (reverse before) (graces_read graces) (t ∷ values_read vs later)

pub bars_read : (r n : ℕ) (bars : List ScoreBar) (voice : List (List Said)) (sounds : List Sound) (vss : List (List VoiceValue)) (before : List Token)
    → ((k : ℕ) → slice_index_or voice (n + k) [] ≡ slice_index_or (voice_said vss) k []) → AreVoice r n bars sounds vss
    → reverse (spelled_bars n bars voice before) ≡ reverse before ++ voice_read bars vss
bars_read r n [] voice sounds vss before same are = sym (append-nil (reverse before))
bars_read r n (bar ∷ bars) voice sounds [] before same are = absurd are
bars_read r n (bar ∷ bars) voice sounds (vs ∷ vss) before same (own, after, all, is, rest) =
    let later = flat_map (λ vs. vs) vss in
    let t = token.Bar (signature_of_bar bar) in
    let here : said_in n voice ≡ bar_said vs later = let e : n ≡ n + 0 = omega arith in ap (λ i. slice_index_or voice i []) e ∙ same 0 in
    let next : (k : ℕ) → slice_index_or voice (suc n + k) [] ≡ slice_index_or (voice_said vss) k [] = λ k. let e : suc n + k ≡ n + suc k = omega arith in ap (λ i. slice_index_or voice i []) e ∙ same (suc k) in
    bars_read r (suc n) bars voice after vss (spelled (said_in n voice) (t ∷ before)) next rest
    ∙ ap (λ xs. xs ++ voice_read bars vss) (ap (λ xs. reverse (spelled xs (t ∷ before))) here ∙ spelled_read vs later (t ∷ before) ∙ ap (λ xs. xs ++ values_read vs later) (reverse_cons t before))
    ∙ append_assoc (reverse before ++ t ∷ []) (values_read vs later) (voice_read bars vss) ∙ append_assoc (reverse before) (t ∷ []) (values_read vs later ++ voice_read bars vss)

pub clean_reversed : (column : List Token) → clean (reverse column) ≡ reverse (clean column)
clean_reversed [] = refl
clean_reversed (t ∷ column) =
    ap clean (reverse_cons t column) ∙ filter-append (λ t. not (is_null t)) (reverse column) (t ∷ []) ∙ ap (λ xs. xs ++ clean (t ∷ [])) (clean_reversed column) ∙ go (not (is_null t))
  where
    go : (b : Bool) → reverse (clean column) ++ cond b (t ∷ []) [] ≡ reverse (cond b (t ∷ clean column) (clean column))
    go true = sym (reverse_cons t (clean column))
    go false = append-nil (reverse (clean column))

-- ---- grace chords

pub graces_begin : (graces : List ℕ) (before ts : List Token) → beginnings before (graces_read graces ++ ts) ≡ beginnings (graced graces before) ts
graces_begin [] before ts = refl
graces_begin (keys ∷ graces) before ts = graces_begin graces (token.Grace keys ∷ before) ts

pub graces_place : (grid : ℕ) (graces : List ℕ) (before : List Token) → place grid (graced graces before) ≡ place grid before
graces_place grid [] before = refl
graces_place grid (keys ∷ graces) before = graces_place grid graces (token.Grace keys ∷ before) ∙ place_grace grid keys before

pub graces_bars : (graces : List ℕ) (before : List Token) → bars (graced graces before) ≡ bars before
graces_bars [] before = refl
graces_bars (keys ∷ graces) before = graces_bars graces (token.Grace keys ∷ before)

pub graces_wait : (graces : List ℕ) (before : List Token) → waiting (graced graces before) ≡ reverse graces ++ waiting before
graces_wait [] before = refl
graces_wait (keys ∷ graces) before =
    graces_wait graces (token.Grace keys ∷ before) ∙ ap (λ xs. reverse graces ++ xs) (waiting_grace keys before) ∙ sym (append_assoc (reverse graces) (keys ∷ []) (waiting before))
    ∙ ap (λ xs. xs ++ waiting before) (sym (reverse_cons keys graces))

pub graces_tied : (graces : List ℕ) (ts : List Token) → tied_values (graces_read graces ++ ts) ≡ tied_values ts
graces_tied [] ts = refl
graces_tied (keys ∷ graces) ts = tied_next (token.Grace keys) (graces_read graces ++ ts) refl ∙ graces_tied graces ts

-- ---- values

bars_valued : (t : Token) (column : List Token) → has_value t ≡ true → bars (t ∷ column) ≡ bars column
bars_valued (token.Bar signature) column e = absurd (false≢true e)
bars_valued token.Null column e = refl
bars_valued (token.Rest value) column e = refl
bars_valued (token.Grace keys) column e = refl
bars_valued (token.Chord writing keys) column e = refl

-- the place of bar n that has been reached, in parts of which so many are one of the bar's
pub record IsReached (grid times : ℕ) (all : List Bar) (n at : ℕ) (before : List Token) : Type 0 where
  pub start : bar_start before ≡ sum_by parts_of_unit (take n all)
  pub total : sum (bars before) ≡ sum_by parts_of_unit (take (suc n) all)
  pub here : place grid before ≡ times * at
  pub waits : waiting before ≡ []

pub value_reached : (grid times : ℕ) (all : List Bar) (n at w : ℕ) (before : List Token) (t : Token) → has_value t ≡ true → token_width grid t ≡ times * w
    → bar_start before ≡ sum_by parts_of_unit (take n all) → sum (bars before) ≡ sum_by parts_of_unit (take (suc n) all) → place grid before ≡ times * at
    → IsReached grid times all n (at + w) (t ∷ before)
value_reached grid times all n at w before t valued wide start total here = record {
  start = ap (λ xs. sum (drop 1 xs)) (bars_valued t before valued) ∙ start;
  total = ap sum (bars_valued t before valued) ∙ total;
  here = place_value grid t before valued ∙ ap₂ ◌+◌ wide here ∙ joined times w at;
  waits = waiting_value t before valued;
}
  where
    joined : (t w a : ℕ) → t * w + t * a ≡ t * (a + w)
    joined t w a = grind arith
