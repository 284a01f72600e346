-- The parts of a rule's cut: how wide they are together, how wide each is, and how many they are.
use Rattle.std.proofs.Common.{◌≡◌, ℕ, suc, ◌<◌, ◌≤◌, ◌+◌, ◌-◌, ◌*◌, ◌/◌, ◌==◌, max, true, List, [], ◌∷◌, length, get_or, map, refl, sym, ap, ◌∙◌, subst, arith}
use Rattle.std.specs.Prelude.{Option, Some, None, slice_get, take, drop}
use Rattle.std.proofs.lemmas.List.{length-map, take_rest}
use Rattle.std.proofs.lemmas.Option.{slice_get_within, get_or_from_slice_get, slice_get_read}
use Rattle.rhythm_base.specs.BarInput.{BarInput}
use Rattle.rhythm_base.specs.Bodies.{Cut, can_cut, children, cut_of, ending_of, equal, parts_of_cut, sizes, unequal}
use Rattle.rhythm_base.specs.Grammar.{Grammar}
use Rattle.rhythm_base.specs.Readable.{IsBody, IsBodyOf}
use Rattle.rhythm_base.specs.Trees.{leaf_of, leaf_of_ending, suits}
use Rattle.rhythm_base.specs.declared.rule.Body.{Body}
use Rattle.rhythm_base.specs.declared.rule.Ending.{Ending}
use Rattle.rhythm_base.specs.declared.rule.Rule.{Rule}
use Rattle.rhythm_base.proofs.Booleans.{and_right}
use Rattle.tree_laws.specs.Shares.{AreBelow}
use Rattle.tree_laws.proofs.Shares.{children-below, children-whole}
use Rattle.row_laws.specs.Grounds.{IsReady}
use Rattle.best_trees.specs.declared.cut.Piece.{Piece}
use Rattle.best_trees.specs.declared.memo.Asked.{Asked}
use Rattle.best_trees.specs.Nodes.{IsInBar, ending_at, rule_ending}
use Rattle.best_trees.specs.Pieces.{piece_pair}

pub cut_body : (b : Body) (p w : ℕ) → ending_of b ≡ None → leaf_of b p w ≡ []
cut_body b p w is = ap (λ o. leaf_of_ending o p w) is

-- the first piece and the others
pub pieces-split : (xs : List Piece) (d : Piece) → 1 ≤ length xs → xs ≡ get_or xs 0 d ∷ take (length xs - 1) (drop 1 xs)
pieces-split [] d low = absurd (omega (arith, low))
pieces-split (x ∷ xs) d low = ap (λ l. x ∷ l) (sym (take_rest (x ∷ xs) 1))

-- the rule of a number
pub rule_here : (xs ys : List Rule) (n : ℕ) (r : Rule) → ys ≡ xs → n < length xs → r ≡ get_or ys n r → slice_get xs n ≡ Some r
rule_here xs ys n r same low is = slice_get_read xs (length xs) n r refl low (subst (λ l. r ≡ get_or l n r) same is)

many : (version names : ℕ) (c : Option Cut) (e : Option Ending) (w : ℕ) → IsBodyOf version names c e → length (parts_of_cut c w) ≤ 16
many version names (Some (equal ks)) e w h = let few : length ks ≤ 16 = h.1 in omega (arith, few, length-map {B = ℕ × ℕ} ks (λ s. (w / max 1 (length ks), s)))
many version names (Some (unequal ps)) e w h = let few : length ps ≤ 16 = h.2 in omega (arith, few, length-map {B = ℕ × ℕ} ps (λ q. (q.0 * (w / max 1 (sizes ps)), q.1)))
many version names None e w h = omega arith

module _ (g : Grammar) (k : BarInput) (ready : IsReady g k) (asked : Asked) (within : IsInBar k asked) (number : ℕ) (rule : Rule) (at : slice_get g.rules number ≡ Some rule)
    (suit : suits (slice_get g.rules number) (asked.width, asked.symbol) ≡ true) (cuts : ending_at g.rules number ≡ None) where
  can : can_cut rule.body asked.width ≡ true
  can = and_right (rule.lhs == asked.symbol) _ (ap (λ o. suits o (asked.width, asked.symbol)) (sym at) ∙ suit)

  whole : (sizes (children rule.body asked.width) ≡ asked.width) × (2 ≤ length (children rule.body asked.width))
  whole = children-whole rule.body asked.place asked.width within.wide can (cut_body rule.body asked.place asked.width (ap rule_ending (sym at) ∙ cuts))

  pub parts_below : AreBelow asked.width (children rule.body asked.width)
  parts_below = children-below rule.body asked.width within.wide can

  pub parts_within : asked.place + sizes (children rule.body asked.width) ≤ k.resolution
  parts_within = let far : asked.place + asked.width ≤ k.resolution = within.within in let sum = whole.0 in omega (arith, sum, far)

  pub parts_some : 2 ≤ length (children rule.body asked.width)
  parts_some = whole.1

  pub parts_few : length (children rule.body asked.width) ≤ 16
  parts_few =
      let P : Rule → Type 0 = λ r. IsBody g.version (length g.names) r.body in
      many g.version (length g.names) (cut_of rule.body) (ending_of rule.body) asked.width
      (subst P (get_or_from_slice_get g.rules number rule rule at) (ready.readable.bodies number rule (slice_get_within g.rules number rule at)))

  -- the first of them and the others, as pieces
  module _ (xs : List Piece) (pieces : map piece_pair xs ≡ children rule.body asked.width) where
    abbrev first : Piece
    first = get_or xs 0 (record { width = 0; symbol = 0 })

    abbrev rest : List Piece
    rest = take (length xs - 1) (drop 1 xs)

    pub pieces_long : length xs ≡ length (children rule.body asked.width)
    pieces_long = sym (length-map xs piece_pair) ∙ ap length pieces

    pieces_are : xs ≡ first ∷ rest
    pieces_are = let some = parts_some in let long = pieces_long in pieces-split xs (record { width = 0; symbol = 0 }) (omega (arith, some, long))

    pub kids_are : children rule.body asked.width ≡ piece_pair first ∷ map piece_pair rest
    kids_are = sym pieces ∙ ap (map piece_pair) pieces_are

    pub kids_below : AreBelow asked.width (piece_pair first ∷ map piece_pair rest)
    kids_below = subst (AreBelow asked.width) kids_are parts_below

    pub kids_within : asked.place + sizes (piece_pair first ∷ map piece_pair rest) ≤ k.resolution
    kids_within = subst (λ qs. asked.place + sizes qs ≤ k.resolution) kids_are parts_within

    pub others_few : suc (length rest) ≤ 16
    others_few = let few = parts_few in let long = pieces_long in let more = ap length pieces_are in omega (arith, few, long, more)
