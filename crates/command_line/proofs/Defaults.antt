-- The rows once each option that is not given has its default.
use Rattle.std.proofs.Common.{◌≡◌, ◌∙◌, Bool, ◌||◌, true, false, true≢false, refl, sym, ap, subst, List, [], ◌∷◌, Option, Some, None}
use Rattle.std.specs.List.{fold}
use Rattle.std.specs.Prelude.{find, if◌then◌else◌}
use Rattle.std.specs.Option.{option_or}
use Rattle.std.proofs.lemmas.List.Folds.{find-append}
use Rattle.std.specs.Str.{bytes_eq}
use Rattle.std.proofs.lemmas.Slice.Eq.{bytes_eq-Decides}
use Rattle.clap.specs.Walk.{Row, Rule, default_rows, has_row, more_values, reading_by, with_default}
use Rattle.clap.specs.declared.parser.matches.ValueSource.TheVariants.{DefaultValue}
use Rattle.command_line.proofs.Rows.{Text, at_row-missing}

-- the row of an id
abbrev pub row_of : Text → List Row → Option Row
row_of id rows = find (λ r. bytes_eq r.id id) rows

-- the row that a rule gives to an id that has none
abbrev pub default_row : Rule → List Text → Option Row
default_row a [] = None
default_row a (d ∷ ds) =
    Some (record { id = a.id; values = d ∷ ds; count = None; source = Some DefaultValue; reading = reading_by a })

abbrev pub default_by : Text → Rule → Option Row
default_by id a = if bytes_eq a.id id then default_row a a.defaults else None

abbrev pub default_of : Text → List Rule → Option Row
default_of id [] = None
default_of id (a ∷ rules) = option_or (default_by id a) (default_of id rules)

pub or_none : (o : Option Row) → o ≡ option_or o None
or_none None = refl
or_none (Some r) = refl

or_assoc : (a b c : Option Row) → option_or (option_or a b) c ≡ option_or a (option_or b c)
or_assoc None b c = refl
or_assoc (Some r) b c = refl

-- a row that is there stays
or_there : (id : Text) (rows : List Row) (o : Option Row) → has_row id rows ≡ true
    → row_of id rows ≡ option_or (row_of id rows) o
or_there id [] o there = absurd (true≢false (sym there))
or_there id (r ∷ rows) o there = go (bytes_eq r.id id) there (or_there id rows o)
  where
    go : (b : Bool) → (b || has_row id rows) ≡ true
        → (has_row id rows ≡ true → row_of id rows ≡ option_or (row_of id rows) o)
        → (if b then Some r else row_of id rows) ≡ option_or (if b then Some r else row_of id rows) o
    go true there later = refl
    go false there later = later there

never : (b : Bool) → ◌≡◌ {A = Option Row} None (if b then None else None)
never true = refl
never false = refl

-- a default is for an id that has no row
defaulted : (id : Text) (rows : List Row) (a : Rule)
    → row_of id (with_default rows a) ≡ option_or (row_of id rows) (default_by id a)
defaulted id rows a = go (has_row a.id rows) refl (bytes_eq a.id id) refl
  where
    added : (defaults : List Text) → has_row a.id rows ≡ false
        → row_of id (default_rows a.id (reading_by a) defaults rows)
        ≡ option_or (row_of id rows) (if bytes_eq a.id id then default_row a defaults else None)
    added [] none = or_none (row_of id rows) ∙ ap (option_or (row_of id rows)) (never (bytes_eq a.id id))
    added (d ∷ ds) none =
        ap (row_of id) (at_row-missing a.id (more_values DefaultValue (d ∷ ds)) (row ∷ []) rows none)
        ∙ find-append (λ r. bytes_eq r.id id) rows (row ∷ [])
      where
        row : Row
        row = record { id = a.id; values = d ∷ ds; count = None; source = Some DefaultValue; reading = reading_by a }

    go : (there : Bool) → has_row a.id rows ≡ there → (same : Bool) → bytes_eq a.id id ≡ same
        → row_of id (if there then rows else default_rows a.id (reading_by a) a.defaults rows)
        ≡ option_or (row_of id rows) (default_by id a)
    go false none same e = added a.defaults none
    go true there false e = rw e (or_none (row_of id rows))
    go true there true e =
        or_there id rows (default_by id a)
        (subst (λ (x : Text). has_row x rows ≡ true) ((bytes_eq-Decides a.id id).0 e) there)

pub all_defaulted : (id : Text) (rules : List Rule) (rows : List Row)
    → row_of id (fold with_default rows rules) ≡ option_or (row_of id rows) (default_of id rules)
all_defaulted id [] rows = or_none (row_of id rows)
all_defaulted id (a ∷ rules) rows =
    all_defaulted id rules (with_default rows a)
    ∙ ap (λ (o : Option Row). option_or o (default_of id rules)) (defaulted id rows a)
    ∙ or_assoc (row_of id rows) (default_by id a) (default_of id rules)
