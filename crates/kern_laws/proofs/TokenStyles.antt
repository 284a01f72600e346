-- How the notes of a chord are written, alike in all of them.
use Rattle.std.proofs.Common.{◌≡◌, ℕ, ◌==◌, Bool, true, false, List, refl, ap, ◌∙◌, arith}
use Rattle.std.specs.Prelude.{Option, Some}
use Rattle.std.specs.Option.{option_map}
use Rattle.std.proofs.lemmas.Bool.{and_from}
use Rattle.std.proofs.lemmas.Bool.Decides.{nat_tests}
use Rattle.durations.specs.declared.value.Recip.{Recip}
use Rattle.durations.specs.declared.value.Recip.TheVariants.{Of, Breve, Long}
use Rattle.kern_reader.specs.declared.token.TieMark.{TieMark}
use Rattle.kern_reader.specs.declared.token.TieMark.TheVariants.{Absent, GoesOn, Ends}
use Rattle.kern_reader.specs.declared.token.Token.TheVariants as token
use Rattle.kern_reader.specs.declared.token.Writing.{Writing}
use Rattle.text_words.specs.Steps.{◌>>=◌}
use Rattle.kern_reader.specs.Tokens.{chord_token, follows, grace_note, pitch_key, marks_of, marks_part, pitch_part, same_recip, same_style, same_tie, same_writing, value_of, value_part, valued_note}
use Rattle.text_words.specs.Marks.{same_bool}

-- ---- the reader's notes and their styles, each called by what it is given to

abbrev argument_of : {X Y : Type 0} → (X → Y) → Type 0
argument_of {X} f = X

abbrev pub Note : Type 0
Note = argument_of follows

abbrev pub Style : Type 0
Style = argument_of chord_token

abbrev pub note_at : Style → ℕ → Note
note_at s key = record { style = s; key = key }

-- ---- the style of grace notes

pub record IsGraceStyle (s : Style) : Type 0 where
  pub read : (text : List ℕ) (key : ℕ) → pitch_key text ≡ Some key → grace_note text ≡ Some (note_at s key)
  pub token : (keys : ℕ) → chord_token s keys ≡ token.Grace keys
  pub same : same_style s s ≡ true

pub grace_style : (s : Style) × IsGraceStyle s
grace_style = (_, record { read = λ text key e. ap (option_map (note_at _)) e; token = λ keys. refl; same = refl })

-- ---- the style of notes with a value

same_number : (n : ℕ) → (n == n) ≡ true
same_number n = grind (arith, nat_tests)

recip_same : (r : Recip) → same_recip r r ≡ true
recip_same (Of n) = same_number n
recip_same Breve = refl
recip_same Long = refl

tie_same : (t : TieMark) → same_tie t t ≡ true
tie_same Absent = refl
tie_same GoesOn = refl
tie_same Ends = refl

bool_same : (b : Bool) → same_bool b b ≡ true
bool_same true = refl
bool_same false = refl

writing_same : (w : Writing) → same_writing w w ≡ true
writing_same w =
    and_from _ _ (recip_same w.value.recip)
    (and_from _ _ (same_number w.value.dots) (and_from _ _ (bool_same w.opens) (and_from _ _ (tie_same w.tie) (bool_same w.short))))

pub record IsValuedStyle (w : Writing) (s : Style) : Type 0 where
  pub read : (text : List ℕ) (key : ℕ) → value_of (value_part text) ≡ Some w.value → pitch_key (pitch_part text) ≡ Some key
      → marks_of (marks_part text) ≡ Some (w.tie, w.short) → valued_note w.opens text ≡ Some (note_at s key)
  pub token : (keys : ℕ) → chord_token s keys ≡ token.Chord w keys
  pub same : same_style s s ≡ true

abbrev read_on : {A B : Type 0} → (A → Option B) → Option A → Option B
read_on next o = o >>= next

pub valued_style : (w : Writing) → (s : Style) × IsValuedStyle w s
unfolding valued_note
valued_style w = (
  _,
  record {
    read = λ text key e f g. ap (read_on _) e ∙ (ap (read_on _) f ∙ ap (read_on _) g);
    token = λ keys. refl;
    same = writing_same w;
  },
)
