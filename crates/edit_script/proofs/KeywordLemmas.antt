-- A keyword and its spelling.
use Rattle.std.proofs.Common.{◌≡◌, ℕ, if◌then◌else◌, List, Some, None, refl, sym, ap, ◌∙◌}
use Rattle.std.specs.Prelude.{Option, codes}
use Rattle.std.specs.Str.{bytes_eq}
use Rattle.edit_script.specs.Keywords.{spelling}
use Rattle.edit_script.specs.declared.keyword.Keyword.{Keyword}
use Rattle.edit_script.specs.declared.keyword.Keyword.TheVariants as keyword

-- the keyword with this spelling
unfoldable pub keyword_of : List ℕ → Option Keyword
keyword_of word =
    if bytes_eq word (codes "add") then Some keyword.Add
    else if bytes_eq word (codes "drop") then Some keyword.Drop
    else if bytes_eq word (codes "move") then Some keyword.Move
    else if bytes_eq word (codes "barline") then Some keyword.Barline
    else if bytes_eq word (codes "pin") then Some keyword.Pin
    else if bytes_eq word (codes "unpin") then Some keyword.Unpin
    else if bytes_eq word (codes "addbar") then Some keyword.AddBar
    else if bytes_eq word (codes "dropbar") then Some keyword.DropBar
    else if bytes_eq word (codes "score") then Some keyword.Score
    else if bytes_eq word (codes "alt") then Some keyword.Alt
    else if bytes_eq word (codes "quit") then Some keyword.Quit
    else None

-- a spelling is that of its keyword
pub keyword_spelled : (k : Keyword) → keyword_of (spelling k) ≡ Some k
unfolding keyword_of
keyword_spelled keyword.Add = refl
keyword_spelled keyword.Drop = refl
keyword_spelled keyword.Move = refl
keyword_spelled keyword.Barline = refl
keyword_spelled keyword.Pin = refl
keyword_spelled keyword.Unpin = refl
keyword_spelled keyword.AddBar = refl
keyword_spelled keyword.DropBar = refl
keyword_spelled keyword.Score = refl
keyword_spelled keyword.Alt = refl
keyword_spelled keyword.Quit = refl

-- one keyword has a spelling
pub same_keyword : (k other : Keyword) → spelling k ≡ spelling other → k ≡ other
same_keyword k other same =
    let e : Some k ≡ Some other = sym (keyword_spelled k) ∙ ap keyword_of same ∙ keyword_spelled other in cc
