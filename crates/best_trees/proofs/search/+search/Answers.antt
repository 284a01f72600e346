use Rattle.std.proofs.Common.{rules, ◌≡◌, ◌∙◌, ◌<◌, ◌≤◌, ◌+◌, ◌-◌, ◌==◌, [], ◌∷◌, List, ℕ, Bool, true, false, length, get_or, map, ap, subst, sym, refl, arith}
use Rattle.std.specs.Prelude.{OnOk, IsFalse, IsTrue, take, drop, if◌then◌else◌}
use Rattle.std.proofs.lemmas.List.{drop_all, drop_more, nil_from_length}
use Rattle.std.proofs.lemmas.Bool.Decides.{nat_tests}
use Rattle.std.proofs.lemmas.Result.{on_ok_weaker}
use Rattle.rhythm_base.specs.Bodies.{children, sizes}
use Rattle.rhythm_base.specs.Trees.{suits}
use Rattle.rhythm_base.specs.declared.rule.Rule.{Rule}
use Rattle.tree_laws.specs.Forests.{one_shape}
use Rattle.tree_laws.specs.Shares.{AreBelow}
use Rattle.tree_laws.proofs.Shares.{below-wide}
use Rattle.row_laws.specs.Grounds.{ground_of}
use Rattle.row_laws.proofs.Grounds.{grounded}
use Rattle.best_trees.specs.declared.cut.Piece.{Piece}
use Rattle.best_trees.specs.declared.memo.Asked.{Asked}
use Rattle.best_trees.specs.Grids.{HasLists, joined_row, ranking_at}
use Rattle.best_trees.specs.Nodes.{AreBestForests, AreDemanded, rule_ending}
use Rattle.best_trees.specs.Pieces.{piece_pair}
use Rattle.best_trees.specs.Firsts.{offered}
use Rattle.best_trees.specs.Pins.{NoneFit, demanded}
use Rattle.best_trees.specs.Suited.{AreSuiting}
use Rattle.best_trees.proofs.Crowds.{closed-none, nothing-none}
use Rattle.best_trees.proofs.Families.{answer-low, answered, found-add, found-is, found-last, kept-add, kept_through, last-grid, last-kept, last-there}
use Rattle.best_trees.proofs.Parts.{kids_are, kids_below, kids_within, others_few, parts_below, parts_some, pieces-split, pieces_long, rule_here}
use Rattle.best_trees.proofs.Searches.{best-all, best-bare, best-cut, best-jump, best-leaf, best-roomless, beside-addable, beside-joined, beside-none, beside-one}
use Rattle.best_trees.proofs.Steps.{forests-nothing}
use Rattle.best_trees.proofs.search.+search.Goals.{beside-then-allows_none+in_ok-nothing, beside-else-allows_none+in_ok-none}
use Rattle.best_trees.proofs.search.+search.Goals as goal
use Rattle.rhythm_base.proofs.Conjunctions.{and_then}

is_false : {b : Bool} → b ≡ false → IsFalse b
is_false h = subst IsFalse (sym h) refl

is_true : {b : Bool} → b ≡ true → IsTrue b
is_true h = subst IsTrue (sym h) refl

not_true : {b : Bool} → b ≡ false → IsTrue b → ⊥
not_true h on = let no : false ≡ true = subst IsTrue h on in absurd (cc)

abbrev no_piece : Piece
no_piece = record { width = 0; symbol = 0 }

-- ---- side by side

pub beside-returns-in_default-clause-best : goal.beside-returns-in_default-clause-best
beside-returns-in_default-clause-best t c =
    let g = c.args.bar.now.grammar.now in
    let k = c.args.bar.now.input.now in
    let s = demanded c.args.bar.now.pins.now c.args.demand in
    let n = c.args.bar.now.count in
    let bare : c.args.pieces.now ≡ [] = nil_from_length c.args.pieces.now (let low = c.in_default.len_below in omega (arith, low)) in
    subst (λ l. AreBestForests (ground_of g k) s n c.args.place (map piece_pair l) c.if-allows_none.result) (sym bare) (elim c.if-allows_none.branch [
      | beside-then-allows_none+in_ok-nothing w ↦
          forests-nothing (ground_of g k) s n c.args.place c.if-allows_none.result (c.allows_none.ensures.0 (is_true w.if-allows_none.true))
          (subst (HasLists (λ a b. if a == b then offered n (0, []) [] else [])) (sym w.result-is) w.in_ok-nothing.ensures)
      | beside-else-allows_none+in_ok-none w ↦
          beside-none g k c.requires.search.ready s n c.args.place [] c.if-allows_none.result (nothing-none s (λ on. not_true w.if-allows_none.false (c.allows_none.ensures.1 on)))
          (subst (HasLists (λ a b. [])) (sym w.result-is) w.in_ok-none.ensures)
    ])

pub beside-returns-then-allows_none-2-clause-best : goal.beside-returns-then-allows_none-2-clause-best
beside-returns-then-allows_none-2-clause-best t c =
    let g = c.args.bar.now.grammar.now in
    let k = c.args.bar.now.input.now in
    let os = c.args.bar.now.pins.now in
    let s = demanded os c.args.demand in
    let n = c.args.bar.now.count in
    let xs = c.args.pieces.now in
    let x = get_or xs 0 no_piece in
    let rest = take (length xs - 1) (drop 1 xs) in
    let e = pieces-split xs no_piece c.in-len1-up.len_at_least in
    let bare : rest ≡ [] = nil_from_length rest (let none_left : (length rest == 0) ≡ true = sym c.is_empty.ensures ∙ c.if-is_empty.true in grind (arith, nat_tests)) in
    let one : xs ≡ x ∷ [] = e ∙ ap (λ l. x ∷ l) bare in
    let a = c.in_ok-number.ensures.answer in (
      a.0,
      a.1,
      subst (λ l. AreBestForests (ground_of g k) s n c.args.place (map piece_pair l) a.0.grid) (sym one)
          (beside-one g k c.requires.search.ready s n c.args.place (piece_pair x) (demanded os c.in-Some.first) (demanded os c.in-Some.others) c.in-Some.ensures.0 c.in-Some.ensures.1 (c.allows_none-then-is_empty.ensures.0 (is_true c.if-allows_none-2.true)) a.0.grid a.2),
    )

pub beside-grid-requires : goal.beside-grid-requires
beside-grid-requires t c =
    let x = get_or c.args.pieces.now 0 no_piece in
    let asked : Asked = record { place = c.args.place; width = x.width; symbol = x.symbol; demand = c.in-Some.first } in
    answer-low c.args.bar.now c.search-2.new.memo.found.items asked c.in_ok-number-2.number c.in_ok-number-2.ensures.answer

pub beside-grid_of-requires : goal.beside-grid_of-requires
beside-grid_of-requires t c =
    let d = ground_of c.args.bar.now.grammar.now c.args.bar.now.input.now in
    let s = demanded c.args.bar.now.pins.now c.in-Some.others in
    let n = c.args.bar.now.count in
    let x = get_or c.args.pieces.now 0 no_piece in
    let rest = take (length c.args.pieces.now - 1) (drop 1 c.args.pieces.now) in
    let next = c.args.place + x.width in
    last-there d s n next (map piece_pair rest) c.search-2.new.memo.found.items c.in_ok-last.last
    (last-kept d s n next (map piece_pair rest) c.beside.new.memo.found.items c.search-2.new.memo.found.items c.in_ok-last.last c.in_ok-number-2.ensures.more c.in_ok-last.ensures.best)

pub beside-join-requires-clause-left : goal.beside-join-requires-clause-left
beside-join-requires-clause-left t c =
    let g = c.args.bar.now.grammar.now in
    let k = c.args.bar.now.input.now in
    let os = c.args.bar.now.pins.now in
    let n = c.args.bar.now.count in
    let xs = c.args.pieces.now in
    let x = get_or xs 0 no_piece in
    let rest = take (length xs - 1) (drop 1 xs) in
    let e = pieces-split xs no_piece c.in-len1-up.len_at_least in
    let below : AreBelow c.args.below (map piece_pair (x ∷ rest)) = subst (λ l. AreBelow c.args.below (map piece_pair l)) e c.requires.below in
    let within : c.args.place + sizes (map piece_pair (x ∷ rest)) ≤ k.resolution = subst (λ l. c.args.place + sizes (map piece_pair l) ≤ k.resolution) e c.requires.within in
    let asked : Asked = record { place = c.args.place; width = x.width; symbol = x.symbol; demand = c.in-Some.first } in
    let own = answered c.args.bar.now c.search-2.new.memo.found.items asked c.in_ok-number-2.number c.grid.result.now c.in_ok-number-2.ensures.answer c.grid.ensures in
    beside-addable g k c.requires.search.ready (one_shape (demanded os c.in-Some.first)) n c.args.place c.args.below (piece_pair x ∷ []) c.grid.result.now (below.0, below.1, tt) (omega (arith, within)) own

pub beside-join-requires-clause-right : goal.beside-join-requires-clause-right
beside-join-requires-clause-right t c =
    let g = c.args.bar.now.grammar.now in
    let k = c.args.bar.now.input.now in
    let os = c.args.bar.now.pins.now in
    let n = c.args.bar.now.count in
    let xs = c.args.pieces.now in
    let x = get_or xs 0 no_piece in
    let rest = take (length xs - 1) (drop 1 xs) in
    let e = pieces-split xs no_piece c.in-len1-up.len_at_least in
    let below : AreBelow c.args.below (map piece_pair (x ∷ rest)) = subst (λ l. AreBelow c.args.below (map piece_pair l)) e c.requires.below in
    let within : c.args.place + sizes (map piece_pair (x ∷ rest)) ≤ k.resolution = subst (λ l. c.args.place + sizes (map piece_pair l) ≤ k.resolution) e c.requires.within in
    let next = c.args.place + x.width in
    let d = ground_of g k in
    let s = demanded os c.in-Some.others in
    let others = last-grid d s n next (map piece_pair rest) c.search-2.new.memo.found.items c.in_ok-last.last c.grid_of.result.now
    (last-kept d s n next (map piece_pair rest) c.beside.new.memo.found.items c.search-2.new.memo.found.items c.in_ok-last.last c.in_ok-number-2.ensures.more c.in_ok-last.ensures.best) c.grid_of.ensures in
    beside-addable g k c.requires.search.ready s n next c.args.below (map piece_pair rest) c.grid_of.result.now below.2 (omega (arith, within)) others

pub beside-returns-clause-best : goal.beside-returns-clause-best
beside-returns-clause-best t c =
    let g = c.args.bar.now.grammar.now in
    let k = c.args.bar.now.input.now in
    let os = c.args.bar.now.pins.now in
    let n = c.args.bar.now.count in
    let xs = c.args.pieces.now in
    let x = get_or xs 0 no_piece in
    let rest = take (length xs - 1) (drop 1 xs) in
    let e = pieces-split xs no_piece c.in-len1-up.len_at_least in
    let below : AreBelow c.args.below (map piece_pair (x ∷ rest)) = subst (λ l. AreBelow c.args.below (map piece_pair l)) e c.requires.below in
    let within : c.args.place + sizes (map piece_pair (x ∷ rest)) ≤ k.resolution = subst (λ l. c.args.place + sizes (map piece_pair l) ≤ k.resolution) e c.requires.within in
    let asked : Asked = record { place = c.args.place; width = x.width; symbol = x.symbol; demand = c.in-Some.first } in
    let own = answered c.args.bar.now c.search-2.new.memo.found.items asked c.in_ok-number-2.number c.grid.result.now c.in_ok-number-2.ensures.answer c.grid.ensures in
    let next = c.args.place + x.width in
    let d = ground_of g k in
    let s = demanded os c.in-Some.others in
    let others = last-grid d s n next (map piece_pair rest) c.search-2.new.memo.found.items c.in_ok-last.last c.grid_of.result.now
    (last-kept d s n next (map piece_pair rest) c.beside.new.memo.found.items c.search-2.new.memo.found.items c.in_ok-last.last c.in_ok-number-2.ensures.more c.in_ok-last.ensures.best) c.grid_of.ensures in
    let all = c.in_ok-all.all in
    subst (λ l. AreBestForests d (demanded os c.args.demand) n c.args.place (map piece_pair l) all) (sym e)
    (beside-joined g k c.requires.search.ready (demanded os c.args.demand) n c.args.place c.args.below (piece_pair x) (map piece_pair rest) (demanded os c.in-Some.first) s c.in-Some.ensures.0 c.in-Some.ensures.1 c.grid.result.now c.grid_of.result.now all below
    own others c.in_ok-all.ensures)

-- ---- a cut

pub by_cut-returns-then-not-have_room-clause-best : goal.by_cut-returns-then-not-have_room-clause-best
by_cut-returns-then-not-have_room-clause-best t c =
    let g = c.args.bar.now.grammar.now in
    let k = c.args.bar.now.input.now in
    let os = c.args.bar.now.pins.now in
    let n = c.args.bar.now.count in
    let ready = c.requires.search.ready in
    let rule = c.index-rule.result.now in
    let own : c.grammar.inside.rules.items ≡ g.rules = search rules in
    let at = rule_here g.rules c.grammar.inside.rules.items c.args.number rule own c.requires.number c.index-rule.ensures in
    let xs = c.as_slice-pieces.result.now in
    let pieces : map piece_pair xs ≡ children rule.body c.args.asked.width = ap (map piece_pair) c.as_slice-pieces.ensures.value ∙ c.in_ok-parts.ensures in
    let below : AreBelow c.args.asked.width (map piece_pair xs) = subst (AreBelow c.args.asked.width) (sym pieces) (parts_below g k ready c.args.asked c.requires.within c.args.number rule at c.requires.suits c.requires.cut) in
    let suit = ap (λ o. suits o (c.args.asked.width, c.args.asked.symbol)) (sym at) ∙ c.requires.suits in
    let cuts = ap rule_ending (sym at) ∙ c.requires.cut in
    let bare : NoneFit (children rule.body c.args.asked.width) (demanded os c.args.asked.demand) = subst (λ qs. NoneFit qs (demanded os c.args.asked.demand)) pieces (c.have_room.ensures (is_false c.if-not-have_room.true) (below-wide c.args.asked.width (map piece_pair xs) below)) in
    best-roomless c.args.bar.now c.args.asked ready c.args.number rule at suit cuts bare c.args.best.now c.requires.best

pub by_cut-returns-in_default-clause-best : goal.by_cut-returns-in_default-clause-best
by_cut-returns-in_default-clause-best t c =
    let g = c.args.bar.now.grammar.now in
    let k = c.args.bar.now.input.now in
    let rule = c.index-rule.result.now in
    let own : c.grammar.inside.rules.items ≡ g.rules = search rules in
    let at = rule_here g.rules c.grammar.inside.rules.items c.args.number rule own c.requires.number c.index-rule.ensures in
    let xs = c.as_slice-pieces.result.now in
    let pieces : map piece_pair xs ≡ children rule.body c.args.asked.width = ap (map piece_pair) c.as_slice-pieces.ensures.value ∙ c.in_ok-parts.ensures in
    let some = parts_some g k c.requires.search.ready c.args.asked c.requires.within c.args.number rule at c.requires.suits c.requires.cut in
    let long = pieces_long g k c.requires.search.ready c.args.asked c.requires.within c.args.number rule at c.requires.suits c.requires.cut xs pieces in
    let low = c.in_default.len_below in
    absurd (omega (arith, some, long, low))

pub by_cut-returns-in_default-split-clause-best : goal.by_cut-returns-in_default-split-clause-best
by_cut-returns-in_default-split-clause-best t c =
    let g = c.args.bar.now.grammar.now in
    let k = c.args.bar.now.input.now in
    let os = c.args.bar.now.pins.now in
    let n = c.args.bar.now.count in
    let ready = c.requires.search.ready in
    let rule = c.index-rule.result.now in
    let own : c.grammar.inside.rules.items ≡ g.rules = search rules in
    let at = rule_here g.rules c.grammar.inside.rules.items c.args.number rule own c.requires.number c.index-rule.ensures in
    let xs = c.as_slice-pieces.result.now in
    let pieces : map piece_pair xs ≡ children rule.body c.args.asked.width = ap (map piece_pair) c.as_slice-pieces.ensures.value ∙ c.in_ok-parts.ensures in
    let suit = ap (λ o. suits o (c.args.asked.width, c.args.asked.symbol)) (sym at) ∙ c.requires.suits in
    let cuts = ap rule_ending (sym at) ∙ c.requires.cut in
    let x = get_or xs 0 no_piece in
    let rest = take (length xs - 1) (drop 1 xs) in
    let kids = kids_are g k ready c.args.asked c.requires.within c.args.number rule at c.requires.suits c.requires.cut xs pieces in
    let bare = closed-none (piece_pair x) (map piece_pair rest) (demanded os c.args.asked.demand) c.in_default-split.ensures in
    best-roomless c.args.bar.now c.args.asked ready c.args.number rule at suit cuts (subst (λ qs. NoneFit qs (demanded os c.args.asked.demand)) (sym kids) bare) c.args.best.now c.requires.best

pub by_cut-overflow_add-next : goal.by_cut-overflow_add-next
by_cut-overflow_add-next t c =
    let g = c.args.bar.now.grammar.now in
    let k = c.args.bar.now.input.now in
    let rule = c.index-rule.result.now in
    let own : c.grammar.inside.rules.items ≡ g.rules = search rules in
    let at = rule_here g.rules c.grammar.inside.rules.items c.args.number rule own c.requires.number c.index-rule.ensures in
    let xs = c.as_slice-pieces.result.now in
    let pieces : map piece_pair xs ≡ children rule.body c.args.asked.width = ap (map piece_pair) c.as_slice-pieces.ensures.value ∙ c.in_ok-parts.ensures in
    let within = kids_within g k c.requires.search.ready c.args.asked c.requires.within c.args.number rule at c.requires.suits c.requires.cut xs pieces in
    let units : k.resolution ≤ 960 = c.requires.search.ready.cell.few_units in
    let next : c.args.asked.place + (get_or xs 0 no_piece).width ≤ 960 = omega (arith, within, units) in
    (omega (arith, next))

pub by_cut-beside-requires : goal.by_cut-beside-requires
by_cut-beside-requires t c =
    let g = c.args.bar.now.grammar.now in
    let k = c.args.bar.now.input.now in
    let rule = c.index-rule.result.now in
    let own : c.grammar.inside.rules.items ≡ g.rules = search rules in
    let at = rule_here g.rules c.grammar.inside.rules.items c.args.number rule own c.requires.number c.index-rule.ensures in
    let xs = c.as_slice-pieces.result.now in
    let pieces : map piece_pair xs ≡ children rule.body c.args.asked.width = ap (map piece_pair) c.as_slice-pieces.ensures.value ∙ c.in_ok-parts.ensures in
    let ready = c.requires.search.ready in
    let below = kids_below g k ready c.args.asked c.requires.within c.args.number rule at c.requires.suits c.requires.cut xs pieces in
    let within = kids_within g k ready c.args.asked c.requires.within c.args.number rule at c.requires.suits c.requires.cut xs pieces in
    let few = others_few g k ready c.args.asked c.requires.within c.args.number rule at c.requires.suits c.requires.cut xs pieces in
    and_then (omega (arith, few, c.decreases)) (and_then c.requires.search (and_then below.2 (and_then (omega (arith, within)) c.requires.found)))

pub by_cut-search-requires : goal.by_cut-search-requires
by_cut-search-requires t c =
    let g = c.args.bar.now.grammar.now in
    let k = c.args.bar.now.input.now in
    let rule = c.index-rule.result.now in
    let own : c.grammar.inside.rules.items ≡ g.rules = search rules in
    let at = rule_here g.rules c.grammar.inside.rules.items c.args.number rule own c.requires.number c.index-rule.ensures in
    let xs = c.as_slice-pieces.result.now in
    let pieces : map piece_pair xs ≡ children rule.body c.args.asked.width = ap (map piece_pair) c.as_slice-pieces.ensures.value ∙ c.in_ok-parts.ensures in
    let ready = c.requires.search.ready in
    let below = kids_below g k ready c.args.asked c.requires.within c.args.number rule at c.requires.suits c.requires.cut xs pieces in
    let within = kids_within g k ready c.args.asked c.requires.within c.args.number rule at c.requires.suits c.requires.cut xs pieces in
    let narrow = below.1 in
    and_then (omega (arith, narrow, c.decreases)) (and_then c.requires.search (and_then (record { wide = below.0; within = omega (arith, within) }) c.in_ok-last.ensures.found))

pub by_cut-grid_of-requires : goal.by_cut-grid_of-requires
by_cut-grid_of-requires t c =
    let d = ground_of c.args.bar.now.grammar.now c.args.bar.now.input.now in
    let s = demanded c.args.bar.now.pins.now c.in-Some.others in
    let n = c.args.bar.now.count in
    let xs = c.as_slice-pieces.result.now in
    let rest = take (length xs - 1) (drop 1 xs) in
    let next = c.args.asked.place + (get_or xs 0 no_piece).width in
    last-there d s n next (map piece_pair rest) c.search.new.memo.found.items c.in_ok-last.last
    (last-kept d s n next (map piece_pair rest) c.beside.new.memo.found.items c.search.new.memo.found.items c.in_ok-last.last c.in_ok-left.ensures.more c.in_ok-last.ensures.best)

pub by_cut-grid-requires : goal.by_cut-grid-requires
by_cut-grid-requires t c =
    let x = get_or c.as_slice-pieces.result.now 0 no_piece in
    let asked : Asked = record { place = c.args.asked.place; width = x.width; symbol = x.symbol; demand = c.in-Some.below } in
    answer-low c.args.bar.now c.search.new.memo.found.items asked c.in_ok-left.left c.in_ok-left.ensures.answer

pub by_cut-offer_joined-requires-clause-left : goal.by_cut-offer_joined-requires-clause-left
by_cut-offer_joined-requires-clause-left t c =
    let g = c.args.bar.now.grammar.now in
    let k = c.args.bar.now.input.now in
    let os = c.args.bar.now.pins.now in
    let n = c.args.bar.now.count in
    let ready = c.requires.search.ready in
    let rule = c.index-rule.result.now in
    let own : c.grammar.inside.rules.items ≡ g.rules = search rules in
    let at = rule_here g.rules c.grammar.inside.rules.items c.args.number rule own c.requires.number c.index-rule.ensures in
    let xs = c.as_slice-pieces.result.now in
    let pieces : map piece_pair xs ≡ children rule.body c.args.asked.width = ap (map piece_pair) c.as_slice-pieces.ensures.value ∙ c.in_ok-parts.ensures in
    let below = kids_below g k ready c.args.asked c.requires.within c.args.number rule at c.requires.suits c.requires.cut xs pieces in
    let within = kids_within g k ready c.args.asked c.requires.within c.args.number rule at c.requires.suits c.requires.cut xs pieces in
    let x = get_or xs 0 no_piece in
    let rest = take (length xs - 1) (drop 1 xs) in
    let asked : Asked = record { place = c.args.asked.place; width = x.width; symbol = x.symbol; demand = c.in-Some.below } in
    let left = answered c.args.bar.now c.search.new.memo.found.items asked c.in_ok-left.left c.grid.result.now c.in_ok-left.ensures.answer c.grid.ensures in
    beside-addable g k ready (one_shape (demanded os c.in-Some.below)) n c.args.asked.place c.args.asked.width (piece_pair x ∷ []) c.grid.result.now (below.0, below.1, tt) (omega (arith, within)) left

pub by_cut-offer_joined-requires-clause-right : goal.by_cut-offer_joined-requires-clause-right
by_cut-offer_joined-requires-clause-right t c =
    let g = c.args.bar.now.grammar.now in
    let k = c.args.bar.now.input.now in
    let os = c.args.bar.now.pins.now in
    let n = c.args.bar.now.count in
    let ready = c.requires.search.ready in
    let rule = c.index-rule.result.now in
    let own : c.grammar.inside.rules.items ≡ g.rules = search rules in
    let at = rule_here g.rules c.grammar.inside.rules.items c.args.number rule own c.requires.number c.index-rule.ensures in
    let xs = c.as_slice-pieces.result.now in
    let pieces : map piece_pair xs ≡ children rule.body c.args.asked.width = ap (map piece_pair) c.as_slice-pieces.ensures.value ∙ c.in_ok-parts.ensures in
    let below = kids_below g k ready c.args.asked c.requires.within c.args.number rule at c.requires.suits c.requires.cut xs pieces in
    let within = kids_within g k ready c.args.asked c.requires.within c.args.number rule at c.requires.suits c.requires.cut xs pieces in
    let x = get_or xs 0 no_piece in
    let rest = take (length xs - 1) (drop 1 xs) in
    let next = c.args.asked.place + x.width in
    let d = ground_of g k in
    let s = demanded os c.in-Some.others in
    let last = last-kept d s n next (map piece_pair rest) c.beside.new.memo.found.items c.search.new.memo.found.items c.in_ok-last.last c.in_ok-left.ensures.more c.in_ok-last.ensures.best in
    let right = last-grid d s n next (map piece_pair rest) c.search.new.memo.found.items c.in_ok-last.last c.grid_of.result.now last c.grid_of.ensures in
    beside-addable g k ready s n next c.args.asked.width (map piece_pair rest) c.grid_of.result.now below.2 (omega (arith, within)) right

pub by_cut-returns-clause-more : goal.by_cut-returns-clause-more
by_cut-returns-clause-more t c =
    on_ok_weaker c.offer_joined.result
    (λ is. kept_through c.args.memo.now.found.items c.beside.new.memo.found.items c.search.new.memo.found.items c.in_ok-last.ensures.more c.in_ok-left.ensures.more) c.offer_joined.ensures

pub by_cut-returns-clause-best : goal.by_cut-returns-clause-best
by_cut-returns-clause-best t c =
    let g = c.args.bar.now.grammar.now in
    let k = c.args.bar.now.input.now in
    let os = c.args.bar.now.pins.now in
    let n = c.args.bar.now.count in
    let ready = c.requires.search.ready in
    let rule = c.index-rule.result.now in
    let own : c.grammar.inside.rules.items ≡ g.rules = search rules in
    let at = rule_here g.rules c.grammar.inside.rules.items c.args.number rule own c.requires.number c.index-rule.ensures in
    let xs = c.as_slice-pieces.result.now in
    let pieces : map piece_pair xs ≡ children rule.body c.args.asked.width = ap (map piece_pair) c.as_slice-pieces.ensures.value ∙ c.in_ok-parts.ensures in
    let suit = ap (λ o. suits o (c.args.asked.width, c.args.asked.symbol)) (sym at) ∙ c.requires.suits in
    let cuts = ap rule_ending (sym at) ∙ c.requires.cut in
    let below = kids_below g k ready c.args.asked c.requires.within c.args.number rule at c.requires.suits c.requires.cut xs pieces in
    let within = kids_within g k ready c.args.asked c.requires.within c.args.number rule at c.requires.suits c.requires.cut xs pieces in
    let x = get_or xs 0 no_piece in
    let rest = take (length xs - 1) (drop 1 xs) in
    let asked : Asked = record { place = c.args.asked.place; width = x.width; symbol = x.symbol; demand = c.in-Some.below } in
    let left = answered c.args.bar.now c.search.new.memo.found.items asked c.in_ok-left.left c.grid.result.now c.in_ok-left.ensures.answer c.grid.ensures in
    let next = c.args.asked.place + x.width in
    let d = ground_of g k in
    let s = demanded os c.in-Some.others in
    let last = last-kept d s n next (map piece_pair rest) c.beside.new.memo.found.items c.search.new.memo.found.items c.in_ok-last.last c.in_ok-left.ensures.more c.in_ok-last.ensures.best in
    let right = last-grid d s n next (map piece_pair rest) c.search.new.memo.found.items c.in_ok-last.last c.grid_of.result.now last c.grid_of.ensures in
    let l = c.grid.result.now in
    let r = c.grid_of.result.now in
    let kids = kids_are g k ready c.args.asked c.requires.within c.args.number rule at c.requires.suits c.requires.cut xs pieces in
    let from : c.from.result ≡ rule.weight = search rules in
    on_ok_weaker c.offer_joined.result
    (λ is. best-cut c.args.bar.now c.args.asked ready c.args.number rule at suit cuts (piece_pair x) (map piece_pair rest) (demanded os c.in-Some.below) s c.in-Some.ensures.0 c.in-Some.ensures.1 kids below l r c.args.best.now c.offer_joined.new.self left right is
    c.requires.best)
    (subst (λ w. OnOk c.offer_joined.result (HasLists (λ a b. joined_row n (w, c.args.number ∷ []) l r a b (ranking_at c.args.best.now a b)) c.offer_joined.new.self)) from c.offer_joined.ensures)

-- ---- one rule

pub by_rule-by_cut-requires : goal.by_rule-by_cut-requires
by_rule-by_cut-requires t c =
    let g = c.args.bar.now.grammar.now in
    let own : c.grammar.inside.rules.items ≡ g.rules = search rules in
    let at = rule_here g.rules c.grammar.inside.rules.items c.args.number c.index-rule.result.now own c.requires.number c.index-rule.ensures in
    let cuts = ap rule_ending at ∙ sym c.ending.ensures ∙ c.in-None.is in
    and_then (omega (arith, c.decreases)) (and_then c.requires.search (and_then c.requires.within (and_then c.requires.number (and_then c.requires.suits (and_then cuts (and_then c.requires.found c.requires.best))))))

pub by_rule-returns-in-Some-leaf_here-clause-best : goal.by_rule-returns-in-Some-leaf_here-clause-best
by_rule-returns-in-Some-leaf_here-clause-best t c =
    let g = c.args.bar.now.grammar.now in
    let k = c.args.bar.now.input.now in
    let os = c.args.bar.now.pins.now in
    let own : c.grammar.inside.rules.items ≡ g.rules = search rules in
    let at = rule_here g.rules c.grammar.inside.rules.items c.args.number c.index-rule.result.now own c.requires.number c.index-rule.ensures in
    let suit = ap (λ o. suits o (c.args.asked.width, c.args.asked.symbol)) (sym at) ∙ c.requires.suits in
    let ends = sym c.ending.ensures ∙ c.in-Some.is in
    on_ok_weaker c.offer_leaf.result
    (λ is. best-leaf c.args.bar.now c.args.asked c.requires.search.ready c.args.number c.index-rule.result.now at suit c.in-Some.ending ends c.in-Some-leaf_here.leaf c.in-Some-leaf_here.ensures.leaf c.args.best.now c.offer_leaf.new.best is
    c.requires.best)
    c.offer_leaf.ensures

pub by_rule-returns-in-None-leaf_here-clause-best : goal.by_rule-returns-in-None-leaf_here-clause-best
by_rule-returns-in-None-leaf_here-clause-best t c =
    let g = c.args.bar.now.grammar.now in
    let k = c.args.bar.now.input.now in
    let os = c.args.bar.now.pins.now in
    let own : c.grammar.inside.rules.items ≡ g.rules = search rules in
    let at = rule_here g.rules c.grammar.inside.rules.items c.args.number c.index-rule.result.now own c.requires.number c.index-rule.ensures in
    let suit = ap (λ o. suits o (c.args.asked.width, c.args.asked.symbol)) (sym at) ∙ c.requires.suits in
    let ends = sym c.ending.ensures ∙ c.in-Some.is in
    best-bare c.args.bar.now c.args.asked c.requires.search.ready c.args.number c.index-rule.result.now at suit c.in-Some.ending ends c.args.best.now c.in-None-leaf_here.ensures.leaf c.requires.best

-- ---- all rules

-- the next of the rules that suit, and those after it
next_suiting : (rules : List Rule) (q : ℕ × ℕ) (xs : List ℕ) (i from to : ℕ) → i < length xs → AreSuiting rules q (drop i xs) from to → AreSuiting rules q (get_or xs i 0 ∷ drop (i + 1) xs) from to
next_suiting rules q xs i from to low h = subst (λ l. AreSuiting rules q l from to) (drop_more xs i 0 low) h

pub by_each-by_rule-requires : goal.by_each-by_rule-requires
by_each-by_rule-requires t c =
    let g = c.args.bar.now.grammar.now in
    let k = c.args.bar.now.input.now in
    let os = c.args.bar.now.pins.now in
    let n = c.args.bar.now.count in
    let inv = c.rules.invariant.best in
    let next = next_suiting g.rules (c.args.asked.width, c.args.asked.symbol) c.args.numbers.now c.rules.number-index inv.0 (length g.rules) c.rules-test.true inv.2 in
    let best = best-jump c.args.bar.now c.args.asked inv.0 (get_or c.args.numbers.now c.rules.number-index 0) c.rules.best next.0 next.2 inv.3 in
    and_then (omega (arith, c.decreases)) (and_then c.requires.search (and_then c.requires.within (and_then next.1 (and_then next.3 (and_then c.rules.invariant.found best)))))

pub by_each-rules-preserved : goal.by_each-rules-preserved
by_each-rules-preserved t c =
    let g = c.args.bar.now.grammar.now in
    let inv = c.rules.invariant.best in
    let next = next_suiting g.rules (c.args.asked.width, c.args.asked.symbol) c.args.numbers.now c.rules.number-index inv.0 (length g.rules) c.rules-test.true inv.2 in
    record {
      more = kept_through c.args.memo.now.found.items c.rules.memo.found.items c.by_rule.new.memo.found.items c.rules.invariant.more c.in_ok-by_rule.ensures.more;
      found = c.in_ok-by_rule.ensures.found;
      best = (get_or c.args.numbers.now c.rules.number-index 0 + 1, (let low = next.1 in omega (arith, low)), next.4, c.in_ok-by_rule.ensures.best);
    }

pub by_each-returns-clause-best : goal.by_each-returns-clause-best
by_each-returns-clause-best t c =
    let g = c.args.bar.now.grammar.now in
    let k = c.args.bar.now.input.now in
    let os = c.args.bar.now.pins.now in
    let n = c.args.bar.now.count in
    let q : ℕ × ℕ = (c.args.asked.width, c.args.asked.symbol) in
    let inv = c.rules.invariant.best in
    let bare : drop c.rules.number-index c.args.numbers.now ≡ [] = drop_all c.rules.number-index c.args.numbers.now c.rules-test.false in
    let none_left : AreSuiting g.rules q [] inv.0 (length g.rules) = subst (λ l. AreSuiting g.rules q l inv.0 (length g.rules)) bare inv.2 in
    best-jump c.args.bar.now c.args.asked inv.0 (length g.rules) c.rules.best inv.1 none_left inv.3

-- ---- one tree

pub search-returns-in-Some-clause-answer : goal.search-returns-in-Some-clause-answer
search-returns-in-Some-clause-answer t c =
    let g = c.args.bar.now.grammar.now in
    let k = c.args.bar.now.input.now in
    found-is c.args.bar.now (grounded g k c.requires.search.ready) c.args.memo.now.found.items c.family_of-family.result c.args.asked c.in-Some.number c.family_of-family.ensures c.requires.found c.in-Some.ensures.found

pub search-returns-clause-found : goal.search-returns-clause-found
search-returns-clause-found t c =
    let g = c.args.bar.now.grammar.now in
    let k = c.args.bar.now.input.now in
    let os = c.args.bar.now.pins.now in
    let n = c.args.bar.now.count in
    let own : AreDemanded c.args.bar.now c.args.asked c.by_rules.new.best = best-all c.args.bar.now c.args.asked c.by_rules.new.best c.in_ok-by_rules.ensures.best in
    found-add c.args.bar.now (grounded g k c.requires.search.ready) c.by_rules.new.memo.found.items c.keep.new.self.found.items c.family_of-family.result c.args.asked c.by_rules.new.best c.requires.within c.family_of-family.ensures c.in_ok-number.ensures.found
    c.in_ok-by_rules.ensures.found own

pub search-returns-clause-answer : goal.search-returns-clause-answer
search-returns-clause-answer t c =
    let g = c.args.bar.now.grammar.now in
    let k = c.args.bar.now.input.now in
    let os = c.args.bar.now.pins.now in
    let n = c.args.bar.now.count in
    let own : AreDemanded c.args.bar.now c.args.asked c.by_rules.new.best = best-all c.args.bar.now c.args.asked c.by_rules.new.best c.in_ok-by_rules.ensures.best in
    found-last c.args.bar.now (grounded g k c.requires.search.ready) c.by_rules.new.memo.found.items c.keep.new.self.found.items c.family_of-family.result c.args.asked c.by_rules.new.best c.in_ok-number.number c.in_ok-number.ensures.found
    c.in_ok-number.ensures.number own

pub search-returns-clause-more : goal.search-returns-clause-more
search-returns-clause-more t c =
    kept_through c.args.memo.now.found.items c.by_rules.new.memo.found.items c.keep.new.self.found.items c.in_ok-by_rules.ensures.more
    (kept-add c.by_rules.new.memo.found.items c.keep.new.self.found.items c.family_of-family.result c.by_rules.new.best c.in_ok-number.ensures.found)
