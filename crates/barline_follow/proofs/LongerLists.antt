-- The lists of a front with each bar that is tried of them.
use Rattle.std.proofs.Common.{◌≡◌, ℕ, ◌+◌, ◌*◌, ◌<◌, List, [], ◌∷◌, ◌++◌, Vec, Global, length, map, take, get_or, refl, ap, ap₂, ◌∙◌, arith}
use Rattle.std.specs.Prelude.{All}
use Rattle.std.specs.List.{flat_map, zip}
use Rattle.std.proofs.lemmas.List.{append-nil, length-append, length-map, map-append}
use Rattle.std.proofs.lemmas.List.Elements.{All-append, All-nil}
use Rattle.std.proofs.lemmas.Grind.{flat_map-append}
use Rattle.rhythm_base.specs.Lists.{Each}
use Rattle.rhythm_base.proofs.OrderedLists.{all_cons, all_head, all_tail}
use Rattle.barline_follow.specs.declared.next_bar.NextBar.{NextBar}
use Rattle.barline_follow.specs.declared.offers.Offer.{Offer}
use Rattle.barline_follow.specs.Barring.{Course, barring_end}
use Rattle.barline_follow.specs.Gathered.{barring_of}
use Rattle.barline_follow.specs.Longer.{Longer, all_longer, draft_of, untried}
use Rattle.barline_follow.specs.NextBars.{IsCourseOf, IsTried, all_cells, cells}
use Rattle.barline_follow.specs.PassedOver.{IsUntried}
use Rattle.barline_follow.specs.Rounds.{rows, with_bar}
use Rattle.barline_follow.proofs.FewTables.{own_cells}
use Rattle.barline_follow.proofs.Searching.{zip_more}

-- those of one list more
pub all_longer_more : (front : List Course) (tried : List (Vec Offer Global)) (n : ℕ) (d : Course) (e : Vec Offer Global) → n < length front → n < length tried
    → all_longer (take (n + 1) front) (map (λ own. own.items) (take (n + 1) tried))
    ≡ all_longer (take n front) (map (λ own. own.items) (take n tried)) ++ map (untried (get_or front n d)) (get_or tried n e).items
all_longer_more front tried n d e low high =
    let G : Course × List Offer → List Longer = λ pair. map (untried pair.0) pair.1 in
    let own : List Longer = map (untried (get_or front n d)) (get_or tried n e).items in
    ap (flat_map G) (zip_more (λ (own : Vec Offer Global). own.items) front tried n d e low high)
    ∙ flat_map-append G (zip (take n front) (map (λ own. own.items) (take n tried))) ((get_or front n d, (get_or tried n e).items) ∷ [])
    ∙ ap (λ l. all_longer (take n front) (map (λ own. own.items) (take n tried)) ++ l) (append-nil own)

own_drafts : (t : Course) (own : List Offer) → map draft_of (map (untried t) own) ≡ map (with_bar t.barring) own
own_drafts t [] = refl
own_drafts t (o ∷ own) = ap (λ l. with_bar t.barring o ∷ l) (own_drafts t own)

-- the drafts of all of them
pub drafts_are : (front : List Course) (tried : List (List Offer)) → map draft_of (all_longer front tried) ≡ rows (map barring_of front) tried
drafts_are [] tried = refl
drafts_are (t ∷ front) [] = refl
drafts_are (t ∷ front) (own ∷ tried) =
    map-append draft_of (map (untried t) own) (all_longer front tried) ∙ ap₂ ◌++◌ (own_drafts t own) (drafts_are front tried)

module _ (next : NextBar) where
  own_untried : (t : Course) → IsCourseOf next next.number t → (own : List Offer) → All (IsTried next (barring_end t.barring)) own
      → All (IsUntried next) (map (untried t) own)
  own_untried t is [] h = All-nil (IsUntried next)
  own_untried t is (o ∷ own) h =
      all_cons (IsUntried next) (untried t o) (map (untried t) own)
      (record {
        longer = record { course = is; tried = all_head (IsTried next (barring_end t.barring)) o own h };
        still = refl;
        none = refl;
      })
      (own_untried t is own (all_tail (IsTried next (barring_end t.barring)) o own h))

  pub all_untried : (front : List Course) (tried : List (List Offer)) → All (IsCourseOf next next.number) front
      → Each (λ t own. All (IsTried next (barring_end t.barring)) own) front tried → All (IsUntried next) (all_longer front tried)
  all_untried [] tried all h = All-nil (IsUntried next)
  all_untried (t ∷ front) [] all h = absurd h
  all_untried (t ∷ front) (own ∷ tried) all h =
      All-append (IsUntried next) (map (untried t) own) (all_longer front tried)
      (own_untried t (all_head (IsCourseOf next next.number) t front all) own h.0)
      (all_untried front tried (all_tail (IsCourseOf next next.number) t front all) h.1)

  -- a cell of each voice for each of them
  pub tables_long : (front : List Course) (tried : List (List Offer))
      → length next.voices.now * length (all_longer front tried) ≡ length (all_cells next front tried)
  tables_long [] tried = omega arith
  tables_long (t ∷ front) [] = omega arith
  tables_long (t ∷ front) (own ∷ tried) =
      let rest = tables_long front tried in
      let first = own_cells next (barring_end t.barring) own in
      let many = length-map own (untried t) in
      let both = length-append (map (untried t) own) (all_longer front tried) in
      let all = length-append (flat_map (cells next (barring_end t.barring)) own) (all_cells next front tried) in
      let product : length next.voices.now * (length own + length (all_longer front tried))
      ≡ length own * length next.voices.now + length next.voices.now * length (all_longer front tried) = grind arith in
      ap (λ (m : ℕ). length next.voices.now * m) (both ∙ ap (λ (m : ℕ). m + length (all_longer front tried)) many)
      ∙ product ∙ omega (arith, rest, first, all)
