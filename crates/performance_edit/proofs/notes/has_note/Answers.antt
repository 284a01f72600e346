use Rattle.std.proofs.Common.{◌≡◌, ℕ, sym, ◌∙◌, Option, Some, None}
use Rattle.std.specs.Option.{is_some}
use Rattle.edit_laws.specs.Edits.{has_note, is_note}
use Rattle.performance_edit.specs.OnlyPlaces.{IsOnlyPlace}
use Rattle.performance_edit.proofs.OnlyPlaces.{any-none, any-only}
use Rattle.performance_edit.proofs.notes.has_note.Goals as goal

pub returns : goal.returns
returns c = c.is_some.ensures ∙ at c.place_of.result c.place_of.ensures
  where
    at : (o : Option ℕ) → IsOnlyPlace (is_note c.args.channel c.args.key c.args.onset) c.args.notes.now o → is_some o ≡ has_note c.args.notes.now c.args.channel c.args.key c.args.onset
    at None none = sym (any-none (is_note c.args.channel c.args.key c.args.onset) c.args.notes.now none)
    at (Some i) only = sym (any-only (is_note c.args.channel c.args.key c.args.onset) c.args.notes.now i only)
