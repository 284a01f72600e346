-- Rule lists that are written once.
use Rattle.std.proofs.Common.{◌≡◌, ℕ, ◌≤◌, inl, inr, List, [], ◌∷◌, ◌++◌, length, sym, ap, ◌∙◌, subst, arith, append_assoc, append-nil, length-append}
use Rattle.std.specs.Prelude.{◌⊎◌, Some, None, slice_get, Result, Ok, Err, OnOk, is_ok, if◌then◌else◌}
use Rattle.rhythm_base.specs.Ranked.{Key}
use Rattle.tree_laws.specs.Forests.{IsForestKey}
use Rattle.path_laws.specs.Tables.{IsLeastKey}
use Rattle.grammar_plan.specs.Plans.{between, pair_of}
use Rattle.grammar_plan.specs.declared.seat.Seat.{Seat}
use Rattle.least_rows.specs.Searches.{ground_in}
use Rattle.least_rows.specs.declared.search.Search.{Search}
use Rattle.least_rows.specs.Texts.{AreTexts, HasKept, IsListOfTree, StandsAt}
use Rattle.grammar_plan.specs.Drafts.{IsLonger}
use Rattle.least_rows.specs.declared.texts.Text.{Text}
use Rattle.least_rows.specs.declared.texts.Texts.{Texts}
use Rattle.least_rows.specs.declared.tree_at.TreeAt.{TreeAt}
use Rattle.bar_trees.proofs.ListEnds.{between-more, between-new}

-- ---- rules after others

pub longer-same : (xs : List ℕ) → IsLonger xs xs
longer-same xs = ([], sym (append-nil xs))

pub longer-later : (xs ys zs : List ℕ) → IsLonger xs ys → IsLonger ys zs → IsLonger xs zs
longer-later xs ys zs (more, first) (last, later) = (more ++ last, later ∙ ap (λ l. l ++ last) first ∙ append_assoc xs more last)

pub longer-length : (xs ys : List ℕ) → IsLonger xs ys → length xs ≤ length ys
longer-length xs ys (more, grown) =
    let long = length-append xs more in
    let all : length ys ≡ length (xs ++ more) = ap length grown in
    omega (arith, long, all)

-- what a call that may fail has appended
pub on_appended : {T E : Type 0} (r : Result T E) (old new more : List ℕ) → new ≡ (if is_ok r then old ++ more else old) → OnOk r (new ≡ old ++ more)
on_appended (Ok x) old new more h = h
on_appended (Err e) old new more h = tt

-- ---- the lists that stand

module _ (bar : Search) where
  -- they stand where they stood
  pub texts-longer : (old new : List ℕ) (texts : Texts) → AreTexts bar old texts → IsLonger old new → AreTexts bar new texts
  texts-longer old new texts h longer t has =
      let own = h t has in
      let long = longer-length old new longer in
      let order = own.order in
      let within = own.within in
      let same : between new t.first t.end ≡ between old t.first t.end = ap (λ l. between l t.first t.end) longer.1 ∙ between-more old longer.0 t.first t.end order within in
      record { order = order; within = omega (arith, within, long); list = λ s key at least. same ∙ own.list s key at least }

  -- the list of a tree, out of the text that is of it
  pub text-list : (rules : List ℕ) (texts : Texts) (tree : TreeAt) (t : Text) → AreTexts bar rules texts → HasKept texts t → t.tree ≡ tree → IsListOfTree bar tree (between rules t.first t.end)
  text-list rules texts tree t h has same = subst (λ tree. IsListOfTree bar tree (between rules t.first t.end)) same (h t has).list

  -- one list more
  pub texts-kept : (before rules : List ℕ) (first end : ℕ) (tree : TreeAt) (old new : Texts) → first ≡ length before → end ≡ length rules → IsLonger before rules
      → ((s : Seat) (key : Key) → slice_get bar.plan.now.seats.items tree.seat ≡ Some s → IsLeastKey (IsForestKey (ground_in bar) None tree.place (pair_of s ∷ []) tree.from tree.to) (Some key) → rules ≡ before ++ key.1)
      → AreTexts bar rules old
      → ((t : Text) → HasKept new t → HasKept old t ⊎ StandsAt tree first end t) → AreTexts bar rules new
  texts-kept before rules from to tree old new starts ends longer list texts kept t has = elim (kept t has) [
    | inl stood ↦ texts t stood
    | inr is ↦
        let order = longer-length before rules longer in
        let first = is.1 ∙ starts in
        let end = is.2 ∙ ends in
        let here : between rules t.first t.end ≡ between rules (length before) (length rules) = λ i. between rules (first i) (end i) in
        let own : IsListOfTree bar tree (between rules t.first t.end)
        = λ s key at least. here ∙ ap (λ l. between l (length before) (length l)) (list s key at least) ∙ between-new before key.1 in
        record {
          order = omega (arith, order, first, end);
          within = omega (arith, end);
          list = subst (λ tree. IsListOfTree bar tree (between rules t.first t.end)) (sym is.0) own;
        }
  ]
