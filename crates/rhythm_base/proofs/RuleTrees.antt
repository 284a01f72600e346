-- The trees whose rules a list begins with are one, and a shape is read off a tree part by part.
use Rattle.std.proofs.Common.{◌≡◌, ℕ, ◌-◌, ◌*◌, ◌/◌, ◌≤◌, max, true, List, [], ◌∷◌, ◌++◌, length, map, take, drop, get_or, refl, sym, ap, ◌∙◌, subst, arith, append_assoc, append-nil}
use Rattle.std.specs.Prelude.{Option, Some, None, slice_get}
use Rattle.std.proofs.lemmas.Bool.{and_parts}
use Rattle.std.proofs.lemmas.Bool.Decides.{nat_tests}
use Rattle.std.proofs.lemmas.List.{length-map, take_all}
use Rattle.rhythm_base.specs.declared.rule.Rule.{Rule}
use Rattle.rhythm_base.specs.Forest.{Tree, Forest, none, more, forest_of, preorder}
use Rattle.rhythm_base.specs.Shape.{Shape, shape_of_parts}
use Rattle.rhythm_base.specs.Grammar.{Grammar}
use Rattle.rhythm_base.specs.RuleTrees.{AreFirst, HasPartsOf, IsRuleList, IsTold}
use Rattle.rhythm_base.specs.Shapes.{can_have, parts_in}
use Rattle.rhythm_base.proofs.ShapeTexts.{first_and_rest}
use Rattle.rhythm_base.specs.Bodies.{Cut, cut_of, equal, parts_of_cut, sizes, unequal}
use Rattle.rhythm_base.specs.Trees.{are_trees, children_of, shape_of, suits}

-- ---- a rule has as many parts over one width as over another

parts-same : (c : Option Cut) (w v : ℕ) → length (parts_of_cut c w) ≡ length (parts_of_cut c v)
parts-same None w v = refl
parts-same (Some (equal ks)) w v = length-map {B = ℕ × ℕ} ks (λ s. (w / max 1 (length ks), s)) ∙ sym (length-map {B = ℕ × ℕ} ks (λ s. (v / max 1 (length ks), s)))
parts-same (Some (unequal ps)) w v = length-map {B = ℕ × ℕ} ps (λ q. (q.0 * (w / max 1 (sizes ps)), q.1)) ∙ sym (length-map {B = ℕ × ℕ} ps (λ q. (q.0 * (v / max 1 (sizes ps)), q.1)))

pub children-same : (o : Option Rule) (w v : ℕ) → length (children_of o w) ≡ length (children_of o v)
children-same None w v = refl
children-same (Some rule) w v = parts-same (cut_of rule.body) w v

-- ---- the first trees of a list

-- the parts of a rule are those of its number of parts
pub first-parts : (rules : List Rule) (r n m : ℕ) (list rest : List ℕ) (f : Forest) → HasPartsOf rules r n → AreFirst rules n list f rest → HasPartsOf rules r m → AreFirst rules m list f rest
first-parts rules r n m list rest f own first other =
    let same : n ≡ m = own 0 ∙ sym (other 0) in
    subst (λ n. AreFirst rules n list f rest) same first

-- a tree and the trees after it
pub first-more : (rules : List Rule) (count r : ℕ) (list rest last : List ℕ) (t : Tree) (f : Forest) → 1 ≤ count → t.rule ≡ r
    → ((n : ℕ) → HasPartsOf rules r n → AreFirst rules n list t.kids rest) → AreFirst rules (count - 1) rest f last → AreFirst rules count (r ∷ list) (more t.rule t.kids f) last
first-more rules count r list rest last t f some rule own others = go
  where
    go : AreFirst rules count (r ∷ list) (more t.rule t.kids f) last
    go [] g xs many trees e = absurd (omega (arith, many, some))
    go (q ∷ qs) none xs many trees e = absurd (cc)
    go (q ∷ qs) (more r' k s) xs many trees e =
        let suit = and_parts (suits (slice_get rules r') q) _ trees in
        let below = and_parts (are_trees rules (children_of (slice_get rules r') q.0) k) _ suit.1 in
        let head : r' ≡ r = cc in
        let tail : (preorder k ++ preorder s) ++ xs ≡ list = cc in
        let kids = own (length (children_of (slice_get rules r) q.0)) (λ w. children-same (slice_get rules r) q.0 w)
        (children_of (slice_get rules r) q.0) k (preorder s ++ xs) refl
        (subst (λ n. are_trees rules (children_of (slice_get rules n) q.0) k ≡ true) head below.0)
        (sym (append_assoc (preorder k) (preorder s) xs) ∙ tail) in
        let rest_many : length qs ≡ count - 1 = omega (arith, many) in
        let after = others qs s xs rest_many below.1 (sym kids.1) in
        let same : t.rule ≡ r' = rule ∙ sym head in
        ((λ i. more (same i) (kids.0 i) (after.0 i)), after.1)

-- the tree of a whole list
told : (g : Grammar) (symbol : ℕ) (rules rest : List ℕ) (t u : Tree) → IsTold g symbol rules t → u.rule ≡ t.rule
    → ((n : ℕ) → HasPartsOf g.rules t.rule n → AreFirst g.rules n (preorder t.kids) u.kids rest) → IsTold g symbol rules u
told g symbol rules rest t u is rule first =
    let suit = and_parts (suits (slice_get g.rules t.rule) (g.resolution, symbol)) _ is.0 in
    let below = and_parts (are_trees g.rules (children_of (slice_get g.rules t.rule) g.resolution) t.kids) _ suit.1 in
    let kids = first (length (children_of (slice_get g.rules t.rule) g.resolution)) (λ w. children-same (slice_get g.rules t.rule) g.resolution w)
    (children_of (slice_get g.rules t.rule) g.resolution) t.kids [] refl below.0 (append-nil (preorder t.kids)) in
    let same : u ≡ t = λ i. record { rule = rule i; kids = kids.0 i } in
    subst (IsTold g symbol rules) (sym same) is

pub told-first : (g : Grammar) (symbol : ℕ) (book : List Rule) (rules rest : List ℕ) (u : Tree) → book ≡ g.rules → IsRuleList g symbol rules → u.rule ≡ get_or rules 0 0
    → ((n : ℕ) → HasPartsOf book (get_or rules 0 0) n → AreFirst book n (take (length rules - 1) (drop 1 rules)) u.kids rest) → IsTold g symbol rules u
told-first g symbol book rules rest u same (t, is) rule first =
    let some : 1 ≤ length rules = omega (arith, ap length is.1) in
    let list : t.rule ∷ preorder t.kids ≡ get_or rules 0 0 ∷ take (length rules - 1) (drop 1 rules) = is.1 ∙ first_and_rest 0 rules some in
    let head : t.rule ≡ get_or rules 0 0 = cc in
    let tail : preorder t.kids ≡ take (length rules - 1) (drop 1 rules) = cc in
    let P : List Rule → ℕ → List ℕ → Type 0 = λ b r l. (n : ℕ) → HasPartsOf b r n → AreFirst b n l u.kids rest in
    let one : P g.rules (get_or rules 0 0) (take (length rules - 1) (drop 1 rules)) = subst (λ b. P b (get_or rules 0 0) (take (length rules - 1) (drop 1 rules))) same first in
    let two : P g.rules t.rule (take (length rules - 1) (drop 1 rules)) = subst (λ r. P g.rules r (take (length rules - 1) (drop 1 rules))) (sym head) one in
    told g symbol rules rest t u is (rule ∙ sym head) (subst (P g.rules t.rule) (sym tail) two)

-- ---- shapes

pub shape-parts : (kids : List Tree) → shape_of_parts (map (λ k. shape_of k.kids) kids) ≡ shape_of (forest_of kids)
shape-parts [] = refl
shape-parts (k ∷ ks) = let ih = shape-parts ks in cc

pub parts-many : (kids : List Tree) → parts_in (shape_of (forest_of kids)) ≡ length kids
parts-many [] = refl
parts-many (k ∷ ks) = let ih = parts-many ks in omega (arith, ih)

pub few-parts : (n : ℕ) → can_have n ≡ true → n ≤ 16
few-parts n h = grind (arith, nat_tests)

-- so many shapes read off are all, where there are no more parts
pub shape-whole : (kids : List Tree) (parts : List Shape) (i : ℕ) → length kids ≤ i → parts ≡ map (λ k. shape_of k.kids) (take i kids)
    → (shape_of_parts parts ≡ shape_of (forest_of kids)) × (length parts ≡ parts_in (shape_of (forest_of kids)))
shape-whole kids parts i all read =
    let whole : parts ≡ map (λ (k : Tree). shape_of k.kids) kids = read ∙ ap (map (λ (k : Tree). shape_of k.kids)) (take_all i kids all) in
    let many : length (map (λ (k : Tree). shape_of k.kids) kids) ≡ length kids = length-map {B = Shape} kids (λ k. shape_of k.kids) in
    (ap shape_of_parts whole ∙ shape-parts kids, ap length whole ∙ many ∙ sym (parts-many kids))
