-- What the words ask for.
use Rattle.std.proofs.Common.{◌≡◌, ℕ, List, [], ap, arith, inl, refl, sym, Option, Some, None}
use Rattle.std.specs.Prelude.{option_and_then}
use Rattle.command_line.specs.CommandLines.{invocation_of}
use Rattle.command_line.specs.declared.invocation.Invocation.{Invocation}
use Rattle.rhythm_app.specs.Asked.{asked_by, asked_of}
use Rattle.rhythm_app.specs.Builds.{HasBuilt}
use Rattle.rhythm_app.specs.Commands.{Cells, no_cells, cells_in, cells_fitted, cells_followed, cells_learned, cells_drilled}
use Rattle.rhythm_app.specs.Learning.{AreSomeBuilt}
use Rattle.rhythm_app.specs.declared.stop.Stop.TheVariants as stop
use Rattle.rhythm_ports.specs.Files.{File}

-- what the words say is asked for
pub asked_as : (words : List (List ℕ)) (said : Invocation) → invocation_of words ≡ Some said → asked_of said ≡ asked_by words
unfolding asked_by
asked_as words said e = sym (ap (option_and_then asked_of) e)

-- words that say nothing ask for nothing
pub asked_nothing : (words : List (List ℕ)) → invocation_of words ≡ None → asked_by words ≡ None
unfolding asked_by
asked_nothing words e = ap (option_and_then asked_of) e

-- no cells, and so no more than those of some files
pub nothing_counted : (fs : Option (List File)) (midis : List (List ℕ)) (built : ℕ) → AreSomeBuilt fs midis built built
nothing_counted fs midis built = λ files are. (0, 0, omega arith, record { counts = []; each = refl; all = refl }, omega arith)

-- nothing is built where there is not enough memory to read the words
pub unread_built : (cells : Cells) (files : Option (List File)) (built : ℕ) → HasBuilt cells files built built stop.Memory
unread_built no_cells files built = refl
unread_built (cells_in i) files built = inl refl
unread_built (cells_fitted i c) files built = inl refl
unread_built (cells_followed i) files built = inl refl
unread_built (cells_learned midis) files built = nothing_counted files midis built
unread_built (cells_drilled number grammar) files built = inl refl

-- nor where the words are no command
pub nothing_built : (cells : Cells) (files : Option (List File)) (built : ℕ) → HasBuilt cells files built built stop.Usage
nothing_built no_cells files built = refl
nothing_built (cells_in i) files built = refl
nothing_built (cells_fitted i c) files built = refl
nothing_built (cells_followed i) files built = refl
nothing_built (cells_learned midis) files built = refl
nothing_built (cells_drilled number grammar) files built = refl
