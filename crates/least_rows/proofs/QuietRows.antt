-- The row of a quiet interval: nothing is carried out of it.
use Rattle.std.proofs.Common.{◌≡◌, ℕ, ◌+◌, ◌<◌, ◌≤◌, ◌==◌, Bool, true, false, List, [], ◌∷◌, map, refl, sym, ◌∙◌, subst, arith}
use Rattle.std.specs.Prelude.{Option, Some, None, if◌then◌else◌}
use Rattle.std.proofs.lemmas.Bool.Decides.{nat_tests}
use Rattle.std.proofs.lemmas.Cmp.{tied_itself}
use Rattle.std.specs.Cmp.Lexicographic.{nat_list_cmp_total}
use Rattle.rhythm_base.specs.Bodies.{sizes}
use Rattle.rhythm_base.specs.declared.rule.Ending.{Ending}
use Rattle.rhythm_base.specs.Grammar.{Grammar}
use Rattle.rhythm_base.specs.Leaves.{Leaf, in_bar, looks}
use Rattle.rhythm_base.specs.Ranked.{Key}
use Rattle.rhythm_base.specs.Trees.{BarLeaf, leaves}
use Rattle.tree_laws.specs.Forests.{AreWide, Ground, IsForestKey, IsGround}
use Rattle.tree_laws.specs.Places.{reach}
use Rattle.tree_laws.specs.Quiet.{is_quiet}
use Rattle.path_laws.specs.Rows.{AreAlike, lists_cmp, same}
use Rattle.path_laws.specs.Tables.{IsLeastKey}
use Rattle.tree_laws.proofs.Bars.{SideBySide, leaves-fill}
use Rattle.tree_laws.proofs.Quiet.{carried_by, leaving-calm}
use Rattle.tree_laws.proofs.Ticks.{parts-line}
use Rattle.row_laws.specs.BestRules.{Choice, choice_key}
use Rattle.row_laws.specs.QuietTrees.{IsQuiet, IsQuietLeast}
use Rattle.row_laws.specs.Rows.{AreLeastRow}
use Rattle.row_laws.specs.declared.quiet.Quiet.{Quiet}
use Rattle.row_laws.specs.declared.quiet.Quiet.TheVariants.{Sounding, Silent}
use Rattle.grammar_plan.specs.Plans.{IsQuietTree}
use Rattle.grammar_plan.specs.declared.plan.Plan.{Plan}
use Rattle.grammar_plan.specs.declared.quiet_tree.QuietTree.{QuietTree}
use Rattle.least_rows.specs.Ways.{IsRankedRow, quiet_rank}

pub no_onset : (quiet : Quiet) (d : Ground) (p w : ℕ) → IsQuiet quiet d p w → is_quiet d p w ≡ true
no_onset Sounding d p w h = h.quiet
no_onset Silent d p w h = h.quiet

pub none_carried : (xs : List Ending) → carried_by 0 xs ≡ 0
none_carried [] = refl
none_carried (x ∷ xs) = none_carried xs

past-first : (a p w : ℕ) (xs : List BarLeaf) (f : BarLeaf → Leaf) → 1 ≤ w → SideBySide p xs (p + w) → carried_by a (map (λ x. x.part.ending) (map f xs)) ≡ 0
past-first a p w [] f wide side = let is : p ≡ p + w = side in absurd (omega (arith, is, wide))
past-first a p w (x ∷ xs) f wide side = none_carried (map (λ x. x.part.ending) (map f xs))

pub none-out : (d : Ground) → IsGround d → (quiet : Quiet) (p : ℕ) (q : ℕ × ℕ) (a b : ℕ) (k : Key) → 1 ≤ q.0 → IsQuiet quiet d p q.0 → IsForestKey d None p (q ∷ []) a b k → b ≡ 0
none-out d ground quiet p q a b k wide h (f, stands, is) =
    let all : AreWide (q ∷ []) = (wide, tt) in
    let alone : sizes (q ∷ []) ≡ q.0 = omega arith in
    let fills = leaves-fill d.book.rules f p (q ∷ []) all stands.trees in
    let line = parts-line d.book.resolution d.bar p (p + sizes (q ∷ [])) (leaves d.book.rules p (q ∷ []) f) ground.long fills in
    let silent : is_quiet d p (sizes (q ∷ [])) ≡ true = subst (λ w. is_quiet d p w ≡ true) (sym alone) (no_onset quiet d p q.0 h) in
    let leave = leaving-calm (looks d.book.resolution) d.chords (reach d.book.resolution d.bar p) (reach d.book.resolution d.bar (p + sizes (q ∷ []))) a (in_bar d.bar (leaves d.book.rules p (q ∷ []) f)) line silent in
    let some : 1 ≤ sizes (q ∷ []) = omega (arith, alone, wide) in
    sym stands.fits.leave ∙ leave ∙ past-first a p (sizes (q ∷ [])) (leaves d.book.rules p (q ∷ []) f) (λ x. record { bar = d.bar; part = x }) some fills

-- ---- the row

abbrev key_out : Option Key → ℕ → Option Key
key_out o b = if 0 == b then o else None

quiet-least : (d : Ground) → IsGround d → (quiet : Quiet) (p : ℕ) (q : ℕ × ℕ) (a : ℕ) (o : Option Key) → 1 ≤ q.0 → IsQuiet quiet d p q.0 → IsLeastKey (IsForestKey d None p (q ∷ []) a 0) o
    → AreLeastRow d p (q ∷ []) a (key_out o)
quiet-least d ground quiet p q a o wide h least b lb = go (0 == b) refl
  where
    go : (t : Bool) → (0 == b) ≡ t → IsLeastKey (IsForestKey d None p (q ∷ []) a b) (if t then o else None)
    go true e = let is : 0 ≡ b = grind (arith, nat_tests) in subst (λ b. IsLeastKey (IsForestKey d None p (q ∷ []) a b) o) is least
    go false e = λ k x.
        let is = none-out d ground quiet p q a b k wide h x in
        let same : (0 == 0) ≡ false = subst (λ b. (0 == b) ≡ false) is e in
        absurd (cc)

quiet-alike : (k : Key) (c : ℕ) → c ≡ k.0 → AreAlike (key_out (Some k)) (λ b. choice_key (if 0 == b then Some (c, 0) else None))
quiet-alike k c e = record { costs = λ b lb. costs (0 == b); order = λ b c' lb lc. order b c' (0 == b) (0 == c') refl refl }
  where
    costs : (t : Bool) → same (if t then Some k else None) (choice_key (if t then Some (c, 0) else None))
    costs true = sym e
    costs false = tt

    order : (b c' : ℕ) (t u : Bool) → (0 == b) ≡ t → (0 == c') ≡ u
        → lists_cmp (if t then Some k else None) (if u then Some k else None) ≡ lists_cmp (choice_key (if t then Some (c, 0) else None)) (choice_key (if u then Some (c, 0) else None))
    order b c' true true f g = tied_itself nat_list_cmp_total k.1
    order b c' true false f g = refl
    order b c' false u f g = refl

pub quiet-ranked : (g : Grammar) (d : Ground) (plan : Plan) → IsGround d → d.book ≡ g → (quiet : Quiet) (p : ℕ) (q : ℕ × ℕ) (a : ℕ) (o : Option QuietTree) → 1 ≤ q.0 → IsQuiet quiet d p q.0
    → IsQuietTree g plan quiet q a o → IsRankedRow d p q a (quiet_rank o)
quiet-ranked g d plan ground e quiet p q a None wide h tree = record {
  keys = key_out None;
  least = quiet-least d ground quiet p q a None wide h (whole None tree);
  alike = record { costs = λ b lb. none (0 == b); order = λ b c lb lc. both (0 == b) (0 == c) };
  digits = λ b c e. absurd (cc);
}
  where
    whole : (o : Option Key) → IsQuietLeast g quiet q a o → IsLeastKey (IsForestKey d None p (q ∷ []) a 0) o
    whole o x = (subst (λ g. IsQuietLeast g quiet q a o) (sym e) x) d.bar d.chords d.before ground p h

    none : (t : Bool) → same (if t then None else None) None
    none true = tt
    none false = tt

    both : (t u : Bool) → lists_cmp (if t then None else None) (if u then None else None) ≡ lists_cmp None None
    both true u = refl
    both false u = refl
quiet-ranked g d plan ground e quiet p q a (Some t) wide h tree = record {
  keys = key_out (Some tree.0);
  least = quiet-least d ground quiet p q a (Some tree.0) wide h (whole (Some tree.0) tree.1);
  alike = quiet-alike tree.0 t.cost tree.2;
  digits = λ b c e. digit (0 == b) c e;
}
  where
    whole : (o : Option Key) → IsQuietLeast g quiet q a o → IsLeastKey (IsForestKey d None p (q ∷ []) a 0) o
    whole o x = (subst (λ g. IsQuietLeast g quiet q a o) (sym e) x) d.bar d.chords d.before ground p h

    digit : (u : Bool) (c : Choice) → (if u then Some (t.cost, 0) else None) ≡ Some c → c.1 < 8
    digit true c e = let is : (t.cost, 0) ≡ c = cc in subst (λ (c : Choice). c.1 < 8) is (omega arith)
    digit false c e = absurd (cc)
