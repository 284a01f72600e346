-- What a line says.
use Rattle.std.specs.Prelude.{⊤, All, ℕ, Bool, false, true, ◌==◌, ◌&&◌, ◌||◌, not, if◌then◌else◌, List, [], ◌∷◌, codes, length, drop, nat_eq, Option, Some, None}
use Rattle.std.specs.Char.{is_ascii_digit}
use Rattle.std.specs.List.{list_all, list_any, slice_split, starts_with}
use Rattle.std.specs.Str.{bytes_eq}
use Rattle.kern_reader.specs.declared.line.KernLine.{KernLine}
use Rattle.kern_reader.specs.declared.line.KernLine.TheVariants.{Heading, Signature, Other, Ending, Barline, LastBarline, Data, Unread}
use Rattle.kern_reader.specs.declared.token.Token.{Token}
use Rattle.kern_reader.specs.Text.{columns, pieces_in}
use Rattle.kern_reader.specs.Tokens.{IsWellSignature, IsWellToken, all_tokens}
use Rattle.text_words.specs.Lines.{begins_with}
use Rattle.text_words.specs.TimeSignatures.{signature_of_numbers}
use Rattle.text_words.specs.declared.time_signature.TimeSignature.{TimeSignature}

abbrev pub all_are : List ℕ → List (List ℕ) → Bool
all_are word texts = list_all (λ text. bytes_eq text word) texts

-- ---- time signatures

-- the signature after `*M`
unfoldable pub signature_of : List ℕ → Option TimeSignature
signature_of word = signature_of_numbers (slice_split (λ b. b == 47) (drop 2 word))

-- the same of its first part, and of what is left after that
abbrev pub signature_from : List ℕ → Option (List ℕ) → Option TimeSignature
signature_from first rest = signature_of_numbers (first ∷ pieces_in 47 rest)

abbrev pub digit_first : List ℕ → Bool
digit_first [] = false
digit_first (b ∷ bs) = is_ascii_digit b

-- `*M` and a digit begin a signature
abbrev pub begins_signature : List ℕ → Bool
begins_signature word = starts_with nat_eq word (codes "*M") && digit_first (drop 2 word)

-- ---- lines by their first columns

-- words that change the number or the kind of the spines, and what is no interpretation
abbrev pub is_refused_word : List ℕ → Bool
is_refused_word word =
    not (begins_with 42 word) || (starts_with nat_eq word (codes "**")
    || (bytes_eq word (codes "*^") || (bytes_eq word (codes "*v") || (bytes_eq word (codes "*x") || (bytes_eq word (codes "*+") || bytes_eq word (codes "*-"))))))

abbrev pub signature_line : Option TimeSignature → KernLine
signature_line None = Unread
signature_line (Some signature) = Signature signature

-- an interpretation in these columns, of which the first is given: a signature is the same in all
abbrev pub interpretation : List ℕ → List (List ℕ) → KernLine
interpretation first texts =
    if list_any is_refused_word texts then Unread
    else if list_any begins_signature texts then (if all_are first texts then signature_line (signature_of first) else Unread)
    else Other

-- a barline is the same in all columns: `==`, or `=` and digits or none
abbrev pub barline_said : List ℕ → List (List ℕ) → KernLine
barline_said first texts =
    if all_are first texts
    then (if bytes_eq first (codes "==") then LastBarline else if list_all is_ascii_digit (drop 1 first) then Barline else Unread)
    else Unread

abbrev pub data_line : Option (List Token) → KernLine
data_line None = Unread
data_line (Some tokens) = Data tokens

unfoldable pub other_line : List (List ℕ) → KernLine
other_line [] = Unread
other_line (first ∷ more) =
    if begins_with 42 first then interpretation first (first ∷ more)
    else if begins_with 61 first then barline_said first (first ∷ more)
    else data_line (all_tokens (first ∷ more))

abbrev pub is_heading : List ℕ → Bool
is_heading line = all_are (codes "**kern") (columns line)

abbrev pub is_ending : List ℕ → Bool
is_ending line = all_are (codes "*-") (columns line)

unfoldable pub line_of : List ℕ → KernLine
line_of line =
    if is_heading line then Heading (length (columns line))
    else if is_ending line then Ending
    else other_line (columns line)

-- ---- what is read

-- for a head, a barline and tokens memory is taken, and perhaps for those of a line that is none of these
abbrev pub takes_memory : KernLine → Bool
takes_memory (Heading spines) = true
takes_memory (Signature signature) = false
takes_memory Other = false
takes_memory Ending = false
takes_memory Barline = true
takes_memory LastBarline = false
takes_memory (Data tokens) = true
takes_memory Unread = true

-- signatures and values are in their ranges
abbrev pub IsWellLine : KernLine → Type 0
IsWellLine (Heading spines) = ⊤
IsWellLine (Signature signature) = IsWellSignature signature
IsWellLine Other = ⊤
IsWellLine Ending = ⊤
IsWellLine Barline = ⊤
IsWellLine LastBarline = ⊤
IsWellLine (Data tokens) = All IsWellToken tokens
IsWellLine Unread = ⊤
