-- A note that is read is as long as its value says.
use Rattle.std.proofs.Common.{◌≡◌, ℕ, ◌==◌, ◌||◌, true, false, Option, Some, None, refl, sym, ap, ◌∙◌, arith}
use Rattle.std.specs.Prelude.{if◌then◌else◌, position}
use Rattle.std.specs.Str.{bytes_eq}
use Rattle.std.proofs.lemmas.Bool.{false≢true}
use Rattle.std.proofs.lemmas.Bool.Decides.{nat_tests}
use Rattle.text_words.specs.Steps.{◌>>=◌}
use Rattle.notation_laws.proofs.Says.{heard_first}
use Rattle.xml_laws.specs.Hearing.{add_note, hear_tag}
use Rattle.xml_laws.specs.Notes.{chord_of, grace_chord, is_of_value, kinds, long_chord, says_duration}
use Rattle.xml_laws.specs.Laws.{IsOfItsValue, ValuesSayTheirDurations}
use Rattle.xml_laws.proofs.NotesRead.{if_some}

pub values_said : ValuesSayTheirDurations
unfolding hear_tag
values_said h next n is grace whole e =
    let noted : (chord_of h.divisions n >>= λ m. add_note h n.further m) ≡ Some next =
    sym (ap (λ o. o >>= λ n. chord_of h.divisions n >>= λ m. add_note h n.further m) is) ∙ e in
    let (m, one, _) = heard_first (chord_of h.divisions n) (add_note h n.further) next noted in
    let (keys, _, two) = heard_first n.keys
    (λ keys. if n.grace then grace_chord n keys else (h.divisions >>= λ quarter. n.duration >>= long_chord quarter n keys)) m one in
    let long : (h.divisions >>= λ quarter. n.duration >>= long_chord quarter n keys) ≡ Some m =
    sym (ap (λ b. if b then grace_chord n keys else (h.divisions >>= λ quarter. n.duration >>= long_chord quarter n keys)) grace) ∙ two in
    let (quarter, said, three) = heard_first h.divisions (λ quarter. n.duration >>= long_chord quarter n keys) m long in
    let (len, lasts, four) = heard_first n.duration (long_chord quarter n keys) m three in
    let fits = if_some (says_duration quarter n len)
    (record { grace = false; keys = keys; len = len; short = n.short; comes = n.comes; goes = n.goes }) m four in
    go quarter said len lasts (position (bytes_eq n.kind) kinds) refl
    (sym (ap (λ b. b || is_of_value quarter n len (position (bytes_eq n.kind) kinds)) whole) ∙ fits)
  where
    same : (x y : ℕ) → (x == y) ≡ true → x ≡ y
    same x y h = grind (arith, nat_tests, h)

    go : (quarter : ℕ) → h.divisions ≡ Some quarter → (len : ℕ) → n.duration ≡ Some len → (o : Option ℕ)
        → position (bytes_eq n.kind) kinds ≡ o → is_of_value quarter n len o ≡ true → IsOfItsValue h n
    go quarter said len lasts None kind fits = absurd (false≢true fits)
    go quarter said len lasts (Some place) kind fits = record {
      quarter = quarter;
      said = said;
      len = len;
      long = lasts;
      place = place;
      kind = kind;
      is = same _ _ fits;
    }
