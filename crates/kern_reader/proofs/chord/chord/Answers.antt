use Rattle.std.proofs.Common.{◌≡◌, None, sym, ◌∙◌, rules}
use Rattle.std.specs.Prelude.{Option}
use Rattle.kern_reader.specs.declared.token.Token.{Token}
use Rattle.kern_reader.proofs.ChordLemmas.{chord_begins, chord_none}
use Rattle.kern_reader.proofs.chord.chord.Goals as goal

pub returns-in_err-first-clause-token : goal.returns-in_err-first-clause-token
returns-in_err-first-clause-token c =
    let none : ◌≡◌ {A = Option Token} c.from_residual.result None = search rules in
    none ∙ chord_none c.args.text.now _ _ c.first_piece.ensures.pieces (sym c.in_err-first.ensures.note)

pub notes-init : goal.notes-init
notes-init c = record {
  on = rw c.one-keys.ensures (chord_begins c.args.text.now _ _ _ c.first_piece.ensures.pieces (sym c.in_ok-first.ensures.note));
  well = search rules;
}
