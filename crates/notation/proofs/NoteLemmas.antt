-- The notes of tokens.
use Rattle.std.proofs.Common.{◌≡◌, ℕ, ◌+◌, ◌/◌, ◌<◌, ◌≤◌, Bool, true, false, List, [], ◌∷◌, ◌++◌, append_assoc, length, get_or, take, refl, sym, ap, ◌∙◌, subst, arith}
use Rattle.std.specs.Prelude.{◌==◌}
use Rattle.std.proofs.lemmas.Bool.Decides.{nat_tests}
use Rattle.std.proofs.lemmas.List.{append-nil, take_all, take_more}
use Rattle.durations.specs.declared.value.Recip.TheVariants.{Of}
use Rattle.durations.specs.declared.value.Value.{Value}
use Rattle.durations.specs.Values.{AreValues}
use Rattle.notation.specs.Notes.{AreNotes, Note, is_empty, note, token_notes}
use Rattle.notation.specs.Tokens.{Token, token_length}

-- what stands for the first value where there is none
abbrev pub no_value : Value
no_value = record { recip = Of 0; dots = 0 }

abbrev pub first_value : List Value → Value
first_value vs = get_or vs 0 no_value

empty_is : (vs : List Value) → (length vs == 0) ≡ is_empty vs
empty_is [] = refl
empty_is (v ∷ vs) = grind (arith, nat_tests)

pub note_ends : (grid whole : ℕ) (t : Token) (first last : Bool) (more : List Value) (v : Value) → last ≡ (length more == 0)
    → note grid whole t first last v ≡ note grid whole t first (is_empty more) v
note_ends grid whole t first last more v e = ap (λ b. note grid whole t first b v) (e ∙ empty_is more)

-- the notes of one more value
pub value_note :
    (grid whole : ℕ) (t : Token) (first : Bool) (later more : List Value) (v : Value) (one : Note) (done new all : List Note)
    → later ≡ v ∷ more → one ≡ note grid whole t first (is_empty more) v → new ≡ done ++ one ∷ [] → done ++ token_notes grid whole t first later ≡ all
    → new ++ token_notes grid whole t false more ≡ all
value_note grid whole t first later more v one done new all split is own h =
    ap (λ xs. xs ++ token_notes grid whole t false more) (own ∙ ap (λ n. done ++ n ∷ []) is)
    ∙ append_assoc done (note grid whole t first (is_empty more) v ∷ []) (token_notes grid whole t false more) ∙ ap
    (λ vs. done ++ token_notes grid whole t first vs) (sym split) ∙ h

-- ---- one token after another

notes_push : (grid whole : ℕ) (ts : List Token) (t : Token) (notes : List Note) (values : List Value) → AreNotes grid whole ts notes → AreValues
    (token_length t / grid) whole values
    → AreNotes grid whole (ts ++ t ∷ []) (notes ++ token_notes grid whole t true values)
notes_push grid whole [] t notes values h k = (
  values,
  [],
  k,
  refl,
  ap (λ ns. ns ++ token_notes grid whole t true values) h ∙ sym
      (append-nil (token_notes grid whole t true values)),
)
notes_push grid whole (u ∷ ts) t notes values (own, others, are, rest, is) k = (
  own,
  others ++ token_notes grid whole t true values,
  are,
  notes_push grid whole ts t others values rest k,
  ap (λ ns. ns ++ token_notes grid whole t true values) is ∙ append_assoc (token_notes grid whole u true own) others (token_notes grid whole t true values),
)

pub notes_step :
    (grid whole : ℕ) (ts : List Token) (i : ℕ) (t : Token) (notes new : List Note) (values : List Value) → i < length ts → t ≡ get_or ts i t
    → AreNotes grid whole (take i ts) notes
    → AreValues (token_length t / grid) whole values → new ≡ notes ++ token_notes grid whole t true values → AreNotes grid whole (take (i + 1) ts) new
notes_step grid whole ts i t notes new values lt is h are own =
    let list : take (i + 1) ts ≡ take i ts ++ t ∷ [] = take_more ts i t lt ∙ ap (λ u. take i ts ++ u ∷ []) (sym is) in
    subst (λ us. AreNotes grid whole us new) (sym list) (subst (AreNotes grid whole (take i ts ++ t ∷ [])) (sym own)
    (notes_push grid whole (take i ts) t notes values h are))

pub notes_all : (grid whole : ℕ) (ts : List Token) (i : ℕ) (notes : List Note) → length ts ≤ i → AreNotes grid whole (take i ts) notes
    → AreNotes grid whole ts notes
notes_all grid whole ts i notes le h = subst (λ us. AreNotes grid whole us notes) (take_all i ts le) h
