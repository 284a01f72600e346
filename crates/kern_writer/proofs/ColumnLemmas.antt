-- The tokens that are left of a column.
use Rattle.std.proofs.Common.{◌≡◌, ℕ, ◌+◌, ◌<◌, ◌≤◌, Bool, true, List, [], ◌∷◌, length, drop, refl, sym, ap, ◌∙◌, ◌⊎◌, inl, inr}
use Rattle.std.specs.Prelude.{is_some}
use Rattle.std.proofs.lemmas.Bool.{cases_lt, false≢true}
use Rattle.std.proofs.lemmas.List.{drop-drop, drop_all}
use Rattle.kern_writer.specs.Columns.{column_tokens}
use Rattle.kern_writer.specs.Records.{token_at}
use Rattle.voice_values.specs.Values.{VoiceValue}

drop_first : (flats after : Bool) (vs : List VoiceValue) → column_tokens flats after (drop 1 vs) ≡ drop 1 (column_tokens flats after vs)
drop_first flats after [] = refl
drop_first flats after (v ∷ vs) = refl

-- one more is written
pub column_rest : (flats after : Bool) (vs : List VoiceValue) (i : ℕ) → column_tokens flats after (drop (i + 1) vs) ≡ drop 1 (column_tokens flats after (drop i vs))
column_rest flats after vs i = ap (column_tokens flats after) (sym (drop-drop 1 i vs)) ∙ drop_first flats after (drop i vs)

-- where a token is left, not all are written
pub column_left : (flats after : Bool) (vs : List VoiceValue) (i p : ℕ) → is_some (token_at p (column_tokens flats after (drop i vs))) ≡ true → i < length vs
column_left flats after vs i p some = go (cases_lt i (length vs))
  where
    go : (i < length vs) ⊎ (length vs ≤ i) → i < length vs
    go (inl lt) = lt
    go (inr le) = absurd (false≢true (sym (ap (λ ws. is_some (token_at p (column_tokens flats after ws))) (drop_all i vs le)) ∙ some))
