-- The notes of groups as segments.
use Rattle.std.proofs.Common.{◌≡◌, ℕ, zero, suc, ◌+◌, ◌-◌, ◌*◌, ◌/◌, ◌<◌, ◌≤◌, ◌==◌, Bool, true, false, ◌&&◌, not, cond, List, [], ◌∷◌, ◌++◌, Option, Some, None, append_assoc, length, map, refl, sym, ap, ◌∙◌, subst, arith}
use Rattle.std.specs.Prelude.{All, sum_by}
use Rattle.std.proofs.Math.Nat.{div-mul_cancel, dvd-sub}
use Rattle.std.proofs.lemmas.Bool.Decides.{nat_tests}
use Rattle.std.proofs.lemmas.List.{map-append}
use Rattle.std.proofs.lemmas.List.Elements.{All-cons, All-head, All-nil, All-tail}
use Rattle.std.proofs.lemmas.List.Sums.{sum-map, sum_by-cons}
use Rattle.rhythm_base.specs.Lists.{Each}
use Rattle.durations.specs.declared.value.Value.{Value}
use Rattle.durations.specs.Value.{width}
use Rattle.durations.proofs.Sums.{values_sum}
use Rattle.text_words.specs.Steps.{◌>>=◌}
use Rattle.notation.specs.Groups.{is_whole, parted_from}
use Rattle.notation.specs.Notes.{AreNotes, Group, IsGroup, Note, note, spelled_whole, ties_taken, token_notes}
use Rattle.notation.specs.Places.{IsOddPart}
use Rattle.notation.specs.Rests.{joined, joined_from}
use Rattle.notation.specs.Tokens.{Token}
use Rattle.notation.proofs.GridLemmas.{CountIn}
use Rattle.notation.proofs.Halved.{joined_all}
use Rattle.notation.proofs.Joining.{ended}
use Rattle.notation.proofs.Spelled.{whole_some}
use Rattle.notation_laws.specs.Hearing.{HeardVoice}
use Rattle.notation_laws.specs.NotesHeard.{group_notes, hear_note, hear_notes}
use Rattle.notation_laws.proofs.Segments.{Segment, hear_segments}
use Rattle.notation_laws.proofs.Says.{IsSplit, Says, says_both, says_cons, says_same, says_then, split_says}
use Rattle.notation_laws.proofs.TokenSegments.{SideBySide, side_append, ties_say, token_piece, token_segment, token_segments}

abbrev pub note_segment : Note → Segment
note_segment n = record { len = n.duration; keys = n.keys; graces = n.graces; short = n.short; comes = n.comes; goes = n.goes }

abbrev pub note_segments : List Note → List Segment
note_segments notes = map note_segment notes

pub notes_heard : (h : HeardVoice ℕ) (notes : List Note) → hear_notes h notes ≡ hear_segments h (note_segments notes)
notes_heard h [] = refl
notes_heard h (n ∷ notes) = go (hear_note h n) (λ next. notes_heard next notes)
  where
    go : (o : Option (HeardVoice ℕ)) → ((next : HeardVoice ℕ) → hear_notes next notes ≡ hear_segments next (note_segments notes))
        → (o >>= λ next. hear_notes next notes) ≡ (o >>= λ next. hear_segments next (note_segments notes))
    go None same = refl
    go (Some next) same = same next

-- ---- the values of a token

no_mark : (b : Bool) → (b && false) ≡ false
no_mark true = refl
no_mark false = refl

values_say : (grid whole : ℕ) (t : Token) (first : Bool) (v : Value) (vs : List Value)
    → Says (token_piece t first (sum_by (width whole) (v ∷ vs) * grid) ∷ []) (note_segments (token_notes grid whole t first (v ∷ vs)))
values_say grid whole t first v [] =
    let one : sum_by (width whole) (v ∷ []) ≡ width whole v = omega (arith, sum_by-cons (width whole) v []) in
    subst (λ k. Says (token_piece t first (k * grid) ∷ []) (note_segments (token_notes grid whole t first (v ∷ [])))) (sym one)
    (says_same (note_segments (token_notes grid whole t first (v ∷ []))))
values_say grid whole t first v (w ∷ vs) =
    let p = token_piece t first (sum_by (width whole) (v ∷ w ∷ vs) * grid) in
    let a = note_segment (note grid whole t first false v) in
    let b = token_piece t false (sum_by (width whole) (w ∷ vs) * grid) in
    let is : IsSplit p a b = record {
      len = ap (λ k. k * grid) (sum_by-cons (width whole) v (w ∷ vs)) ∙ spread (width whole v) (sum_by (width whole) (w ∷ vs)) grid;
      keys = refl;
      more = refl;
      graces = refl;
      none = refl;
      short = refl;
      plain = no_mark t.short;
      comes = refl;
      goes = refl;
      held = λ e. (ap (λ b. not b && true) e, ap (λ b. not b && true) e);
      loose = λ e. (ap (λ b. not b && true) e, ap (λ b. not b && true) e);
    } in
    says_then (p ∷ []) (a ∷ b ∷ []) (a ∷ note_segments (token_notes grid whole t false (w ∷ vs))) (split_says p a b is)
    (says_cons a (b ∷ []) (note_segments (token_notes grid whole t false (w ∷ vs))) (values_say grid whole t false w vs))
  where
    spread : (a b c : ℕ) → (a + b) * c ≡ a * c + b * c
    spread a b c = omega arith

abbrev pub IsSpelledOut : ℕ → Token → Type 0
IsSpelledOut grid t = CountIn grid t × (t.start < t.end)

notes_say : (grid whole : ℕ) (ts : List Token) (notes : List Note) → 1 ≤ whole → All (IsSpelledOut grid) ts → AreNotes grid whole ts notes
    → Says (token_segments ts) (note_segments notes)
notes_say grid whole [] notes some all h = subst (λ ns. Says [] (note_segments ns)) (sym h) (says_same [])
notes_say grid whole (t ∷ ts) notes some all (vs, others, values, are, is) =
    let (counts, wide) = All-head (IsSpelledOut grid) t ts all in
    let len = (t.end - t.start) / grid in
    let sums : sum_by (width whole) vs ≡ len = sym (sum-map (width whole) vs) ∙ (values_sum len whole vs some values).sum in
    let long : sum_by (width whole) vs * grid ≡ t.end - t.start = ap (λ k. k * grid) sums
    ∙ div-mul_cancel grid (dvd-sub grid counts.1 counts.0) in
    let own = token_notes grid whole t true vs in
    let rest = notes_say grid whole ts others some (All-tail (IsSpelledOut grid) t ts all) are in
    subst (λ ns. Says (token_segments (t ∷ ts)) (note_segments ns)) (sym is)
    (subst (λ ss. Says (token_segments (t ∷ ts)) ss) (sym (map-append note_segment own others))
    (says_both (token_segment t ∷ []) (note_segments own) (token_segments ts) (note_segments others) (go vs wide long) rest))
  where
    go : (vs : List Value) → t.start < t.end → sum_by (width whole) vs * grid ≡ t.end - t.start
        → Says (token_segment t ∷ []) (note_segments (token_notes grid whole t true vs))
    go [] wide long = absurd (omega (arith, wide, long))
    go (v ∷ vs) wide long =
        subst (λ k. Says (token_piece t true k ∷ []) (note_segments (token_notes grid whole t true (v ∷ vs)))) long
        (values_say grid whole t true v vs)

-- ---- a group

abbrev AreSpelled : ℕ → List Token → Type 0
AreSpelled grid ts = (from : ℕ) × (to : ℕ) × SideBySide from ts to × All (CountIn grid) ts

spelled_tail : (grid : ℕ) (t : Token) (more : List Token) → AreSpelled grid (t ∷ more) → AreSpelled grid more
spelled_tail grid t more (from, to, side, all) = (t.end, to, side.2, All-tail (CountIn grid) t more all)

joined_spelled : (grid k to : ℕ) (t : Token) (more : List Token) → IsSpelledOut grid t → SideBySide t.end more to → All (CountIn grid) more
    → IsSpelledOut grid (joined k t more)
joined_spelled grid zero to t more own side all = own
joined_spelled grid (suc k) to t [] own side all = own
joined_spelled grid (suc k) to t (u ∷ more) (counts, wide) side all =
    let next = All-head (CountIn grid) u more all in
    joined_spelled grid k to (ended t u) more ((counts.0, next.1), omega (arith, wide, side.0, side.1)) side.2
    (All-tail (CountIn grid) u more all)

joined_all_spelled : (grid : ℕ) (count : Token → List Token → ℕ) (ts : List Token) → AreSpelled grid ts
    → All (IsSpelledOut grid) (joined_from count 0 ts)
joined_all_spelled grid count ts all =
    joined_all (IsSpelledOut grid) (AreSpelled grid) count 0 ts
    (λ t more (from, to, side, counts). joined_spelled grid (count t more) to t more
    (All-head (CountIn grid) t more counts, side.1) side.2 (All-tail (CountIn grid) t more counts))
    (spelled_tail grid) all

all_spelled : (grid : ℕ) (ts : List Token) → AreSpelled grid ts → All (IsSpelledOut grid) ts
all_spelled grid [] h = All-nil (IsSpelledOut grid)
all_spelled grid (t ∷ ts) h =
    All-cons (IsSpelledOut grid) t ts (All-head (CountIn grid) t ts h.3, h.2.1) (all_spelled grid ts (spelled_tail grid t ts h))

pub group_says : (r odd from to : ℕ) (ts : List Token) (g : Group) → 1 ≤ r → IsOddPart r odd → SideBySide from ts to → IsGroup r odd ts g
    → Says (token_segments ts) (note_segments g.notes)
group_says r odd from to ts g some part side h = go (g.ratio.actual == 1) h.notes
  where
    w : ℕ
    w = spelled_whole r odd g.ratio.normal

    whole : 1 ≤ w
    whole = whole_some r odd g.ratio.normal some part h.normal.0

    spelled : AreSpelled h.grid ts
    spelled = (from, to, side, h.is_grid.places)

    go : (b : Bool) → AreNotes h.grid w (cond b ts (joined_from (ties_taken h.grid w) 0 ts)) g.notes
        → Says (token_segments ts) (note_segments g.notes)
    go true notes = notes_say h.grid w ts g.notes whole (all_spelled h.grid ts spelled) notes
    go false notes =
        let joined = joined_from (ties_taken h.grid w) 0 ts in
        says_then (token_segments ts) (token_segments joined) (note_segments g.notes) (ties_say h.grid w from to ts side)
        (notes_say h.grid w joined g.notes whole (joined_all_spelled h.grid (ties_taken h.grid w) ts spelled) notes)

-- ---- groups in order are the tokens

abbrev pub gathered : List (List Token) → List Token
gathered [] = []
gathered (g ∷ gs) = g ++ gathered gs

pub parted_gathers : (r odd : ℕ) (waiting ts : List Token) → gathered (parted_from r odd waiting ts) ≡ waiting ++ ts
parted_gathers r odd [] [] = refl
parted_gathers r odd (w ∷ ws) [] =
    let some : (length (w ∷ ws) == 0) ≡ false = grind (arith, nat_tests) in
    ap (λ b. gathered (cond b [] ((w ∷ ws) ∷ []))) some
parted_gathers r odd waiting (t ∷ more) =
    go (is_whole r odd (waiting ++ t ∷ []) more) (parted_gathers r odd [] more) (parted_gathers r odd (waiting ++ t ∷ []) more)
    ∙ append_assoc waiting (t ∷ []) more
  where
    go : (b : Bool) → gathered (parted_from r odd [] more) ≡ more
        → gathered (parted_from r odd (waiting ++ t ∷ []) more) ≡ (waiting ++ t ∷ []) ++ more
        → gathered (cond b ((waiting ++ t ∷ []) ∷ parted_from r odd [] more) (parted_from r odd (waiting ++ t ∷ []) more))
        ≡ (waiting ++ t ∷ []) ++ more
    go true one all = ap (λ us. (waiting ++ t ∷ []) ++ us) one
    go false one all = all

pub groups_say : (r odd from to : ℕ) (gs : List (List Token)) (groups : List Group) → 1 ≤ r → IsOddPart r odd
    → SideBySide from (gathered gs) to
    → Each (IsGroup r odd) gs groups → Says (token_segments (gathered gs)) (note_segments (group_notes groups))
groups_say r odd from to [] groups some part side h = subst (λ us. Says [] (note_segments (group_notes us))) (sym h) (says_same [])
groups_say r odd from to (g ∷ gs) [] some part side h = absurd h
groups_say r odd from to (g ∷ gs) (group ∷ groups) some part side (one, each) =
    let (mid, front, back) = side_append from to g (gathered gs) side in
    subst (λ ss. Says ss (note_segments (group_notes (group ∷ groups)))) (sym (map-append token_segment g (gathered gs)))
    (subst (λ ss. Says (token_segments g ++ token_segments (gathered gs)) ss)
    (sym (map-append note_segment group.notes (group_notes groups)))
    (says_both (token_segments g) (note_segments group.notes) (token_segments (gathered gs)) (note_segments (group_notes groups))
    (group_says r odd from mid g group some part front one) (groups_say r odd mid to gs groups some part back each)))
