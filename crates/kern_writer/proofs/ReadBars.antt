-- The voices when a bar is read.
use Rattle.std.proofs.Common.{◌≡◌, ℕ, List, [], ◌∷◌, map, refl, ap}
use Rattle.std.specs.Prelude.{All, OnOk, Result, Ok, Err}
use Rattle.std.proofs.lemmas.List.Elements.{All-cons, All-head, All-nil, All-tail}
use Rattle.rhythm_base.specs.Lists.{Each}
use Rattle.derivation.specs.declared.score.ScoreBar.{ScoreBar}
use Rattle.kern_writer.specs.Ahead.{AreTokensAhead, AreTokensRead, IsFilled, VoiceAhead, bar_read, laters}
use Rattle.kern_writer.specs.Tokens.{Token}
use Rattle.derivation.specs.Ahead.{later_sounds}
use Rattle.voice_values.specs.Ahead.{FillBar}

pub read_filled : (r n : ℕ) (voices : List VoiceAhead) → All (FillBar r n) (laters voices) → All (IsFilled r) (map (bar_read n) voices)
read_filled r n [] all = All-nil (IsFilled r)
read_filled r n (a ∷ voices) all =
    let one = All-head (FillBar r n) a.later (laters voices) all in
    All-cons (IsFilled r) (bar_read n a) (map (bar_read n) voices) (record { some = one.some; full = one.full }) (read_filled r n voices (All-tail (FillBar r n) a.later (laters voices) all))

pub read_tokens : (r : ℕ) (bar : ScoreBar) (n : ℕ) (voices : List VoiceAhead) (columns : List (List Token)) → Each (AreTokensRead r bar) (map (bar_read n) voices) columns → Each (AreTokensAhead r bar n) (laters voices) columns
read_tokens r bar n [] columns h = h
read_tokens r bar n (a ∷ voices) [] h = absurd h
read_tokens r bar n (a ∷ voices) (ts ∷ columns) h = (h.0, read_tokens r bar n voices columns h.1)

pub read_laters : (n : ℕ) (voices : List VoiceAhead) → laters (map (bar_read n) voices) ≡ map (later_sounds n) (laters voices)
read_laters n [] = refl
read_laters n (a ∷ voices) = ap (λ xs. later_sounds n a.later ∷ xs) (read_laters n voices)

pub on_ok : {T E P : Type 0} (r : Result T E) → P → OnOk r P
on_ok (Ok x) p = p
on_ok (Err e) p = tt
