use Rattle.std.proofs.Common.{◌*◌, ◌/◌, ◌≤◌, sym, subst, ◌∙◌, arith}
use Rattle.std.specs.Prelude.{All}
use Rattle.notation.specs.Spelling.{AreInGrid, IsSpellable, Spelling}
use Rattle.notation.proofs.Spelled.{IsSpelling, actual_some, grid_some, group_of, odd_some, spellable_of, spelling_of}
use Rattle.notation.proofs.notes.group.Goals as goal

pub nonzero_div-actual : goal.nonzero_div-actual
nonzero_div-actual c = grid_some c.args.odd c.grid-grid.result (odd_some c.args.resolution c.args.odd c.requires.odd) c.grid-grid.ensures.odd_part

pub greatest_power-normal-requires : goal.greatest_power-normal-requires
greatest_power-normal-requires c = subst (λ o. 1 ≤ o / c.grid-grid.result) (sym c.count-part.ensures.is)
    (actual_some c.args.odd c.grid-grid.result (odd_some c.args.resolution c.args.odd c.requires.odd) c.grid-grid.ensures.odd_part)

pub of-parts-requires-clause-some : goal.of-parts-requires-clause-some
of-parts-requires-clause-some c =
    (spelling_of c.args.resolution c.args.odd c.grid-grid.result c.count-part.result c.count-whole.result c.greatest_power-normal.result c.count-part.ensures.is
    (c.count-whole.ensures.is ∙ c.whole_of.ensures.is) (omega (arith, c.count-whole.ensures.few)) c.requires.odd c.grid-grid.ensures.odd_part c.greatest_power-normal.ensures).some

pub of-parts-requires-clause-few : goal.of-parts-requires-clause-few
of-parts-requires-clause-few c =
    (spelling_of c.args.resolution c.args.odd c.grid-grid.result c.count-part.result c.count-whole.result c.greatest_power-normal.result c.count-part.ensures.is
    (c.count-whole.ensures.is ∙ c.whole_of.ensures.is) (omega (arith, c.count-whole.ensures.few)) c.requires.odd c.grid-grid.ensures.odd_part c.greatest_power-normal.ensures).few

pub of-by-requires-clause-some : goal.of-by-requires-clause-some
of-by-requires-clause-some c = grid_some c.args.odd c.grid-grid.result (odd_some c.args.resolution c.args.odd c.requires.odd) c.grid-grid.ensures.odd_part

pub of-by-requires-clause-few : goal.of-by-requires-clause-few
of-by-requires-clause-few c =
    (spelling_of c.args.resolution c.args.odd c.grid-grid.result c.count-part.result c.count-whole.result c.greatest_power-normal.result c.count-part.ensures.is
    (c.count-whole.ensures.is ∙ c.whole_of.ensures.is) (omega (arith, c.count-whole.ensures.few)) c.requires.odd c.grid-grid.ensures.odd_part c.greatest_power-normal.ensures).few_grid

pub spelled-requires-clause-places : goal.spelled-requires-clause-places
spelled-requires-clause-places c =
    subst (λ (s : Spelling). AreInGrid s.grid c.args.tokens.now) (sym c.of-by.ensures)
    (record { resolution = c.args.resolution; run = c.requires.run; count = c.grid-grid.ensures.places })

pub spelled-requires-clause-tokens : goal.spelled-requires-clause-tokens
spelled-requires-clause-tokens c =
    subst (λ (s : Spelling). All (IsSpellable s.grid s.whole) c.args.tokens.now) (sym c.of-by.ensures)
    (subst (λ w. All (IsSpellable c.grid-grid.result w) c.args.tokens.now) (sym c.of-parts.ensures)
    (spellable_of c.args.resolution c.args.odd c.grid-grid.result c.count-part.result c.count-whole.result c.greatest_power-normal.result c.args.tokens.now
    c.count-part.ensures.is (c.count-whole.ensures.is ∙ c.whole_of.ensures.is) c.requires.odd c.grid-grid.ensures c.greatest_power-normal.ensures c.requires.run))

pub returns : goal.returns
returns c =
    group_of c.args.resolution c.args.odd c.grid-grid.result c.count-part.result c.count-whole.result c.greatest_power-normal.result c.of-parts.result
    c.of-by.result c.args.tokens.now c.in_ok-notes.notes.items c.count-part.ensures.is (c.count-whole.ensures.is ∙ c.whole_of.ensures.is) c.of-parts.ensures
    c.of-by.ensures c.grid-grid.ensures c.greatest_power-normal.ensures c.in_ok-notes.ensures
