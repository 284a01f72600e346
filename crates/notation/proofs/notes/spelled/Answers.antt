use Rattle.std.proofs.Common.{sym, subst, ◌∙◌, arith}
use Rattle.std.specs.Prelude.{All}
use Rattle.notation.specs.Spelling.{IsSpellable}
use Rattle.notation.proofs.Spelled.{joined_spellable}
use Rattle.notation.proofs.notes.spelled.Goals as goal

pub notes_of-requires-2 : goal.notes_of-requires-2
notes_of-requires-2 c =
    subst (All (IsSpellable c.args.by.grid c.args.by.whole)) (sym (c.deref.ensures.value ∙ c.in_ok-joined.ensures))
    (joined_spellable c.args.by.grid c.args.by.whole c.args.tokens.now (omega (arith, c.whole.ensures, c.count-whole.ensures.is, c.count-whole.ensures.some)) c.requires.places c.requires.tokens)
