-- The tables of the first inputs, with that of the next, which is found or that of an equal one before it.
use Rattle.std.proofs.Common.{◌≡◌, ℕ, zero, suc, ◌+◌, ◌-◌, ◌<◌, ◌≤◌, List, [], ◌∷◌, ◌++◌, drop, get_or, length, take, sym, ap, subst, ◌∙◌, arith}
use Rattle.std.specs.Prelude.{Option, Some, None, slice_get}
use Rattle.std.proofs.lemmas.List.{drop_more, length-drop, length-take-le}
use Rattle.std.proofs.lemmas.Option.{slice_get-get_or}
use Rattle.bar_pool.proofs.EachLemmas.{Each-more}
use Rattle.bar_pool.proofs.SourceLists.{searched_few}
use Rattle.bar_pool.specs.Pool.{AreTablesOf, IsTableOf}
use Rattle.bar_pool.specs.Sources.{AreTablesAt, IsSource, IsTableAt, searched_from}
use Rattle.rhythm_base.specs.BarInput.{BarInput}
use Rattle.rhythm_base.specs.BarTables.{BarTable}
use Rattle.rhythm_base.specs.Counter.{risen}
use Rattle.rhythm_base.specs.Grammar.{Grammar}
use Rattle.rhythm_base.specs.Lists.{Each}

pub each_length : {X Y : Type 0} (Of : X → Y → Type 0) (xs : List X) (ys : List Y) → Each Of xs ys → length ys ≡ length xs
each_length Of [] ys h = ap length h
each_length Of (x ∷ xs) [] h = absurd h
each_length Of (x ∷ xs) (y ∷ ys) h = ap suc (each_length Of xs ys h.1)

-- the member at a place before the end of the beginning
each_at : {X Y : Type 0} (Of : X → Y → Type 0) (n : ℕ) (xs : List X) (ys : List Y) (k : ℕ) (x : X) (y : Y) → k < n → Each Of (take n xs) ys → slice_get xs k ≡ Some x → slice_get ys k ≡ Some y → Of x y
each_at Of zero xs ys k x y low h e f = absurd (omega arith)
each_at Of (suc n) [] ys k x y low h e f = absurd (cc)
each_at Of (suc n) (z ∷ xs) [] k x y low h e f = absurd h
each_at Of (suc n) (z ∷ xs) (w ∷ ys) zero x y low h e f =
    let one : z ≡ x = cc in
    let two : w ≡ y = cc in
    subst (λ v. Of v y) one (subst (Of z) two h.0)
each_at Of (suc n) (z ∷ xs) (w ∷ ys) (suc k) x y low h e f = each_at Of n xs ys k x y (omega arith) h.1 e f

-- Before the input of number n, of so many tables that were found these are left, and the counter rose from one number to another.
pub record IsRest (g : Grammar) (inputs : List BarInput) (equals : List (Option ℕ)) (found first n : ℕ) (rest : List BarTable) (count : ℕ) : Type 0 where
  pub tables : AreTablesAt g inputs (searched_from n (drop n equals)) rest
  pub few : length rest ≤ found
  pub taken : found - length rest ≤ n
  pub rises : count ≡ risen first (n - (found - length rest))

module _ (g : Grammar) (inputs : List BarInput) (equals : List (Option ℕ)) (n : ℕ) where
  -- the numbers of the searched ones from here on
  searched_here : n < length equals → get_or equals n None ≡ None → searched_from n (drop n equals) ≡ n ∷ searched_from (n + 1) (drop (n + 1) equals)
  searched_here low none = ap (searched_from n) (drop_more equals n None low ∙ ap (λ o. o ∷ drop (n + 1) equals) none)

  searched_past : n < length equals → (earlier : ℕ) → get_or equals n None ≡ Some earlier → searched_from n (drop n equals) ≡ searched_from (n + 1) (drop (n + 1) equals)
  searched_past low earlier some = ap (searched_from n) (drop_more equals n None low ∙ ap (λ o. o ∷ drop (n + 1) equals) some)

  module _ (low : n < length equals) (rest : List BarTable) (found : AreTablesAt g inputs (searched_from n (drop n equals)) rest) where
    -- a searched one takes the next that was found
    pub some_left : get_or equals n None ≡ None → rest ≡ [] → ⊥
    some_left none e =
        let all = subst (λ ns. AreTablesAt g inputs ns rest) (searched_here low none) found in
        subst (AreTablesAt g inputs (n ∷ searched_from (n + 1) (drop (n + 1) equals))) e all

    pub next_found : get_or equals n None ≡ None → (t : BarTable) (more : List BarTable) → rest ≡ t ∷ more
        → IsTableAt g inputs n t × AreTablesAt g inputs (searched_from (n + 1) (drop (n + 1) equals)) more
    next_found none t more e =
        let all = subst (λ ns. AreTablesAt g inputs ns rest) (searched_here low none) found in
        subst (AreTablesAt g inputs (n ∷ searched_from (n + 1) (drop (n + 1) equals))) e all

    same_found : (earlier : ℕ) → get_or equals n None ≡ Some earlier → AreTablesAt g inputs (searched_from (n + 1) (drop (n + 1) equals)) rest
    same_found earlier some = subst (λ ns. AreTablesAt g inputs ns rest) (searched_past low earlier some) found

  module _ (found first : ℕ) (rest : List BarTable) (count : ℕ) (h : IsRest g inputs equals found first n rest count) where
    pub rest_less : n < length equals → get_or equals n None ≡ None → (t : BarTable) (more : List BarTable) → rest ≡ t ∷ more → IsRest g inputs equals found first (n + 1) more count
    rest_less low none t more e =
        let one : length rest ≡ length more + 1 = ap length e ∙ omega arith in
        let same : n - (found - length rest) ≡ (n + 1) - (found - length more) = omega (arith, one, h.few, h.taken) in
        record {
          tables = (next_found low rest h.tables none t more e).1;
          few = omega (arith, one, h.few);
          taken = omega (arith, one, h.taken);
          rises = h.rises ∙ ap (risen first) same;
        }

    pub rest_same : n < length equals → (earlier : ℕ) → get_or equals n None ≡ Some earlier → (more : ℕ) → more ≡ risen count 1 → IsRest g inputs equals found first (n + 1) rest more
    rest_same low earlier some more e =
        record { tables = same_found low rest h.tables earlier some; few = h.few; taken = omega (arith, h.taken); rises = omega (arith, e, h.rises, h.taken) }

    -- the counter rose by no more than there are others
    pub rest_most : n ≤ length equals → (first ≤ count) × (count ≤ risen first (length equals - found))
    rest_most within =
        let left = each_length (IsTableAt g inputs) (searched_from n (drop n equals)) rest h.tables in
        let few = searched_few n (drop n equals) in
        let long = length-drop n equals in
        (omega (arith, h.rises), omega (arith, h.rises, left, few, long, within, h.few, h.taken))

    pub rest_all : n ≡ length equals → count ≡ risen first (length equals - found)
    rest_all end =
        let left = each_length (IsTableAt g inputs) (searched_from n (drop n equals)) rest h.tables in
        let few = searched_few n (drop n equals) in
        let long = length-drop n equals in
        omega (arith, h.rises, left, few, long, end, h.few, h.taken)

  module _ (low : n < length inputs) (tables : List BarTable) (done : AreTablesOf g (take n inputs) tables) where
    pub as_many : length tables ≡ n
    as_many = each_length (IsTableOf g) (take n inputs) tables done ∙ length-take-le n inputs (omega arith)

    -- an equal one before it has its table
    pub equal_one : (earlier : ℕ) (t : BarTable) → IsSource inputs n (Some earlier) → slice_get tables earlier ≡ Some t → IsTableAt g inputs n t
    equal_one earlier t source at input e = each_at (IsTableOf g) n inputs tables earlier input t source.0 done (source.1 ∙ e) at

    pub one_more : (new : List BarTable) (t : BarTable) → IsTableAt g inputs n t → new ≡ tables ++ t ∷ [] → AreTablesOf g (take (n + 1) inputs) new
    one_more new t of e =
        subst (AreTablesOf g (take (n + 1) inputs)) (sym e)
        (Each-more (IsTableOf g) inputs tables n t.input t low done (of (get_or inputs n t.input) (slice_get-get_or inputs n t.input low)))
