-- The grammar of a text is one that files say.
use Rattle.std.proofs.Common.{◌≡◌, ◌≢◌, ℕ, ◌+◌, ◌<◌, ◌≤◌, ◌==◌, ◌&&◌, ◌||◌, if◌then◌else◌, Bool, true, false, not, cond, nat_le, nat_lt, List, [], ◌∷◌, ◌++◌, length, map, filter, drop, Option, Some, None, Result, Ok, Err, IfOk, IsTrue, All, suc, refl, sym, ap, ◌∙◌, subst, arith}
use Rattle.std.proofs.lemmas.Bool.{and_parts, leb-false, ltb-true}
use Rattle.std.proofs.lemmas.Bool.Decides.{nat_tests}
use Rattle.std.proofs.lemmas.List.{append-nil, append_assoc, length-append, length-map}
use Rattle.std.proofs.lemmas.List.Elements.{All-append, All-cons, All-filter, All-from_recursion, All-head, All-nil, All-tail, All-weaker, filter-append}
use Rattle.std.proofs.lemmas.List.Kept.{AllPairs-cons, AllPairs-filter}
use Rattle.std.proofs.lemmas.Slice.Eq.{bytes_eq-Decides}
use Rattle.std.specs.List.{AllByRecursion, AllPairs, list_all, list_any}
use Rattle.std.specs.Prelude.{⊤}
use Rattle.std.specs.Str.{bytes_eq}
use Rattle.rhythm_base.specs.Grammar.{Grammar}
use Rattle.rhythm_base.specs.Readable.{AppearInOrder, IsBody, IsStartOf}
use Rattle.grammar_file.proofs.EndingLemmas.{ending_readable}
use Rattle.grammar_file.proofs.NumberLemmas.{IsWithin}
use Rattle.grammar_file.proofs.OutcomeLemmas.{then_ok}
use Rattle.grammar_file.proofs.SoundLemmas.{IsSound, IsSoundBody, IsSoundHeader, header_sound, said_sound}
use Rattle.grammar_file.proofs.StatementLemmas.{first_appearances-with, names_of-rule, names_of-start}
use Rattle.grammar_file.proofs.SymbolLemmas.{any-place}
use Rattle.grammar_file.specs.Content.{content_of}
use Rattle.grammar_file.specs.Grammar.{grammar_of, grammar_of_lines, grammar_of_parts, understood}
use Rattle.grammar_file.specs.Header.{header_of, most_units}
use Rattle.grammar_file.specs.Names.{first_appearances, is_known, is_name, symbol_of, with_name}
use Rattle.grammar_file.specs.Outcome.{◌>>=◌, on_line}
use Rattle.grammar_file.specs.Said.{said_by}
use Rattle.grammar_file.specs.Sayable.{IsSayable}
use Rattle.grammar_file.specs.Statements.{conflict, in_turn, is_rule, is_start_of, left_side, left_sides, names_of, spoken_after, unless}
use Rattle.grammar_file.specs.Symbols.{body_with, is_understood, names_in, names_of_parts, not_understood, parts_with, rule_in, rules_in, start_in, starts_in}
use Rattle.grammar_file.specs.declared.draft.Spoken.{Spoken}
use Rattle.grammar_file.specs.declared.fault.GrammarWhat.{GrammarWhat}
use Rattle.grammar_file.specs.declared.header.Header.{Header}
use Rattle.grammar_file.specs.declared.line.Line.{Line}
use Rattle.grammar_file.specs.declared.said.NamedBody.{NamedBody}
use Rattle.grammar_file.specs.declared.said.NamedBody.TheVariants.{Split, Parts, Ending}
use Rattle.rhythm_base.specs.declared.grammar.Start.{Start}
use Rattle.rhythm_base.specs.declared.rule.Rule.{Rule}
use Rattle.grammar_file.specs.declared.said.Said.{Said}
use Rattle.grammar_file.specs.declared.said.Said.TheVariants as says
use Rattle.rhythm_base.proofs.Booleans.{or_false}

-- R holds of each element and each later one
abbrev pub Pairwise : {X : Type 0} → (X → X → Type 0) → List X → Type 0
Pairwise R [] = ⊤
Pairwise R (x ∷ xs) = AllByRecursion (R x) xs × Pairwise R xs

all_push : {X : Type 0} (P : X → Type 0) (xs : List X) (y : X) → AllByRecursion P xs → P y → AllByRecursion P (xs ++ y ∷ [])
all_push P [] y all here = (here, tt)
all_push P (x ∷ xs) y all here = (all.0, all_push P xs y all.1 here)

pairwise_push : {X : Type 0} (R : X → X → Type 0) (xs : List X) (y : X) → Pairwise R xs → AllByRecursion (λ x. R x y) xs → Pairwise R (xs ++ y ∷ [])
pairwise_push R [] y pairs all = (tt, tt)
pairwise_push R (x ∷ xs) y pairs all = (all_push (R x) xs y pairs.0 all.0, pairwise_push R xs y pairs.1 all.1)

-- two lines that are no starts of one signature
abbrev pub Differ : Said → Said → Type 0
Differ (says.Start num den name) (says.Start n d other) = num ≡ n → den ≡ d → ⊥
Differ (says.Start num den name) (says.Rule other weight body) = ⊤
Differ (says.Rule name weight body) other = ⊤

-- what holds of the lines that are read
pub record AreSound (version : ℕ) (spoken : List Spoken) : Type 0 where
  each : AllByRecursion (λ s. IsSound version s.said) spoken
  few_names : length (names_of spoken) ≤ 64
  few_rules : length (filter is_rule spoken) ≤ 512
  starts_differ : Pairwise (λ s t. Differ s.said t.said) spoken

-- a start after others, and a rule
differs : (num den : ℕ) (name : List ℕ) (before : List Spoken) → list_any (is_start_of num den) before ≡ false
    → AllByRecursion (λ s. Differ s.said (says.Start num den name)) before
differs num den name [] e = tt
differs num den name (first ∷ before) e =
    let parts = or_false (is_start_of num den first) (list_any (is_start_of num den) before) e in
    (at first.said parts.0, differs num den name before parts.1)
  where
    at : (said : Said) → is_start_of num den (record { line = first.line; said = said }) ≡ false → Differ said (says.Start num den name)
    at (says.Start n d other) e = λ en ed. let same : ((n == num) && (d == den)) ≡ true = grind (arith, nat_tests, en, ed) in absurd (cc)
    at (says.Rule other weight body) e = tt

differs_rule : (name : List ℕ) (weight : ℕ) (body : NamedBody) (before : List Spoken) → AllByRecursion (λ s. Differ s.said (says.Rule name weight body)) before
differs_rule name weight body [] = tt
differs_rule name weight body (first ∷ before) = (at first.said, differs_rule name weight body before)
  where
    at : (said : Said) → Differ said (says.Rule name weight body)
    at (says.Start num den other) = tt
    at (says.Rule other w b) = tt

if_none : {A : Type 0} (b : Bool) (x : A) → (if b then Some x else None) ≡ None → b ≡ false
if_none true x e = absurd (cc)
if_none false x e = refl

if_free : {A : Type 0} (a b : Bool) (x y : A) → (if a then Some x else if b then None else Some y) ≡ None → (a ≡ false) × (b ≡ true)
if_free true b x y e = absurd (cc)
if_free false true x y e = (refl, refl)
if_free false false x y e = absurd (cc)

count_push : (before : List Spoken) (s : Spoken) → length (filter is_rule (before ++ s ∷ [])) ≡ length (filter is_rule before) + length (filter is_rule (s ∷ []))
count_push before s = ap length (filter-append is_rule before (s ∷ [])) ∙ length-append (filter is_rule before) (filter is_rule (s ∷ []))

few_with : (names : List (List ℕ)) (name : List ℕ) → length names ≤ 64 → (is_known names name || nat_lt (length names) 64) ≡ true → length (with_name names name) ≤ 64
few_with names name few e = at (is_known names name) e
  where
    at : (b : Bool) → (b || nat_lt (length names) 64) ≡ true → length (cond b names (names ++ name ∷ [])) ≤ 64
    at true e = few
    at false e = let room = ltb-true _ _ e in omega (arith, length-append names (name ∷ []), room)

push_rule : (version : ℕ) (before : List Spoken) (line : ℕ) (said : Said) → AreSound version before → IsSound version said → conflict before said ≡ None
    → AreSound version (before ++ record { line = line; said = said } ∷ [])
push_rule version before line (says.Start num den name) sound here none = record {
  each = all_push (λ s. IsSound version s.said) before _ sound.each here;
  few_names = subst (λ ns. length ns ≤ 64) (sym (names_of-start before line num den name)) sound.few_names;
  few_rules = omega (arith, count_push before (record { line = line; said = says.Start num den name }), sound.few_rules);
  starts_differ = pairwise_push (λ s t. Differ s.said t.said) before _ sound.starts_differ (differs num den name before (if_none (list_any (is_start_of num den) before) _ none));
}
push_rule version before line (says.Rule name weight body) sound here none =
    let free = if_free (nat_le 512 (length (filter is_rule before))) (is_known (names_of before) name || nat_lt (length (names_of before)) 64) _ _ none in
    let room = leb-false _ _ free.0 in
    record {
      each = all_push (λ s. IsSound version s.said) before _ sound.each here;
      few_names = subst (λ ns. length ns ≤ 64) (sym (names_of-rule before line name weight body)) (few_with (names_of before) name sound.few_names free.1);
      few_rules = omega (arith, count_push before (record { line = line; said = says.Rule name weight body }), room);
      starts_differ = pairwise_push (λ s t. Differ s.said t.said) before _ sound.starts_differ (differs_rule name weight body before);
    }

spoken_sound : (version : ℕ) (before : List Spoken) (line : Line) → AreSound version before
    → IfOk (spoken_after version before line) (λ y. AreSound version (before ++ y ∷ []))
spoken_sound version before line sound = at (said_by version line.words) (said_sound version line.words)
  where
    new : Said → Spoken
    new said = record { line = line.number; said = said }

    checked : (said : Said) (o : Option GrammarWhat) → conflict before said ≡ o → IsSound version said
        → IfOk (on_line line.number (unless o (new said))) (λ y. AreSound version (before ++ y ∷ []))
    checked said None e here = push_rule version before line.number said sound here e
    checked said (Some what) e here = tt

    at : (r : Result Said GrammarWhat) → IfOk r (IsSound version)
        → IfOk (on_line line.number (r >>= λ said. unless (conflict before said) (new said))) (λ y. AreSound version (before ++ y ∷ []))
    at (Ok said) here = checked said (conflict before said) refl here
    at (Err what) here = tt

in_turn_sound : (version : ℕ) (lines : List Line) (before : List Spoken) → AreSound version before
    → IfOk (in_turn (spoken_after version) before lines) (AreSound version)
in_turn_sound version [] before sound = sound
in_turn_sound version (line ∷ lines) before sound =
    then_ok (λ y. AreSound version (before ++ y ∷ [])) (AreSound version) (spoken_after version before line) _ (spoken_sound version before line sound)
    (λ y more. in_turn_sound version lines (before ++ y ∷ []) more)

pub lines_sound : (version : ℕ) (lines : List Line) → IfOk (in_turn (spoken_after version) [] lines) (AreSound version)
lines_sound version lines = in_turn_sound version lines [] (record { each = tt; few_names = omega arith; few_rules = omega arith; starts_differ = tt })

pub few_names : (version : ℕ) (lines : List Line) (spoken : List Spoken) → in_turn (spoken_after version) [] lines ≡ Ok spoken → length (names_of spoken) ≤ 64
few_names version lines spoken e = let sound = subst (λ r. IfOk r (AreSound version)) e (lines_sound version lines) in sound.few_names

-- no line is left that is not understood
all_understood : (known : Spoken → Bool) (spoken : List Spoken) → filter (λ s. not (known s)) spoken ≡ [] → AllByRecursion (λ s. known s ≡ true) spoken
all_understood known [] e = tt
all_understood known (first ∷ spoken) e = at (known first) refl e (λ rest. all_understood known spoken rest)
  where
    at : (b : Bool) → known first ≡ b → cond (not b) (first ∷ filter (λ s. not (known s)) spoken) (filter (λ s. not (known s)) spoken) ≡ []
        → (filter (λ s. not (known s)) spoken ≡ [] → AllByRecursion (λ s. known s ≡ true) spoken)
        → (known first ≡ true) × AllByRecursion (λ s. known s ≡ true) spoken
    at true is e rest = (is, rest e)
    at false is e rest = absurd (cc)

-- a known name has a symbol
pub symbol_bound : (names : List (List ℕ)) (name : List ℕ) → is_known names name ≡ true → symbol_of names name < length names
symbol_bound names name known = ltb-true _ _ (sym (any-place (bytes_eq name) names) ∙ known)

-- the names differ
all_kept : {X : Type 0} (p : X → Bool) (xs : List X) → AllByRecursion (λ y. p y ≡ true) (filter p xs)
all_kept p [] = tt
all_kept {X} p (x ∷ xs) = at (p x) refl (all_kept p xs)
  where
    at : (b : Bool) → p x ≡ b → AllByRecursion (λ y. p y ≡ true) (filter p xs) → AllByRecursion (λ y. p y ≡ true) (cond b (x ∷ filter p xs) (filter p xs))
    at true is rest = (is, rest)
    at false is rest = rest

weaker : {X : Type 0} (P Q : X → Type 0) (xs : List X) → ((x : X) → P x → Q x) → AllByRecursion P xs → AllByRecursion Q xs
weaker P Q [] f all = tt
weaker P Q (x ∷ xs) f all = (f x all.0, weaker P Q xs f all.1)

other_text : (text other : List ℕ) → not (bytes_eq other text) ≡ true → text ≢ other
other_text text other differs same = let is = (bytes_eq-Decides other text).1 (sym same) in cc

names_differ : (texts : List (List ℕ)) → AllPairs (λ x y. x ≢ y) (first_appearances texts)
names_differ [] = λ i j d less within. absurd (omega arith)
names_differ (text ∷ texts) =
    let others : List ℕ → Bool = λ other. not (bytes_eq other text) in
    AllPairs-cons (λ x y. x ≢ y) text (filter others (first_appearances texts))
    (All-from_recursion (λ y. text ≢ y) (filter others (first_appearances texts))
    (weaker (λ y. others y ≡ true) (λ y. text ≢ y) (filter others (first_appearances texts)) (other_text text) (all_kept others (first_appearances texts))))
    (AllPairs-filter (λ x y. x ≢ y) others (first_appearances texts) (names_differ texts))

-- the names are spelled as names
left_names : (version : ℕ) (spoken : List Spoken) → AllByRecursion (λ s. IsSound version s.said) spoken → AllByRecursion (λ n. IsTrue (is_name n)) (left_sides spoken)
left_names version [] sound = tt
left_names version (first ∷ spoken) sound = at first.said sound.0 (left_names version spoken sound.1)
  where
    at : (said : Said) → IsSound version said → AllByRecursion (λ n. IsTrue (is_name n)) (left_sides spoken)
        → AllByRecursion (λ n. IsTrue (is_name n)) (left_side (record { line = first.line; said = said }) ++ left_sides spoken)
    at (says.Start num den name) here rest = rest
    at (says.Rule name weight body) here rest = (here.0, rest)

names_all : (P : List ℕ → Type 0) (texts : List (List ℕ)) → AllByRecursion P texts → All P (first_appearances texts)
names_all P [] all = All-nil P
names_all P (text ∷ texts) all =
    All-cons P text (filter (λ other. not (bytes_eq other text)) (first_appearances texts)) all.0
    (All-filter (λ other. not (bytes_eq other text)) P (first_appearances texts) (names_all P texts all.1))

-- symbols of known names
kids_bound : (names words : List (List ℕ)) → list_all (is_known names) words ≡ true → AllByRecursion (λ s. s < length names) (map (symbol_of names) words)
kids_bound names [] known = tt
kids_bound names (word ∷ words) known =
    let parts = and_parts (is_known names word) (list_all (is_known names) words) known in
    (symbol_bound names word parts.0, kids_bound names words parts.1)

abbrev IsPart : ℕ → ℕ × ℕ → Type 0
IsPart names q = (1 ≤ q.0) × (q.0 ≤ 96) × (q.1 < names)

parts_bound : (names : List (List ℕ)) (parts : List (ℕ × List ℕ)) → list_all (is_known names) (names_of_parts parts) ≡ true
    → All (λ part. IsWithin 1 96 part.0) parts → All (IsPart (length names)) (parts_with names parts)
parts_bound names [] known sizes = All-nil (IsPart (length names))
parts_bound names (part ∷ parts) known sizes =
    let both = and_parts (is_known names part.1) (list_all (is_known names) (names_of_parts parts)) known in
    let size = All-head (λ part. IsWithin 1 96 part.0) part parts sizes in
    All-cons (IsPart (length names)) (part.0, symbol_of names part.1) (parts_with names parts) (size.0, size.1, symbol_bound names part.1 both.0)
    (parts_bound names parts both.1 (All-tail (λ part. IsWithin 1 96 part.0) part parts sizes))

body_readable : (version : ℕ) (names : List (List ℕ)) (body : NamedBody) → IsSoundBody version body → list_all (is_known names) (names_in body) ≡ true
    → IsBody version (length names) (body_with names body)
body_readable version names (Split kids) sound known = (
  omega (arith, length-map kids (symbol_of names), sound.0),
  omega (arith, length-map kids (symbol_of names), sound.1),
  All-from_recursion (λ s. s < length names) (map (symbol_of names) kids) (kids_bound names kids known),
)
body_readable version names (Parts parts) sound known =
    let with : ℕ × List ℕ → ℕ × ℕ = λ part. (part.0, symbol_of names part.1) in
    (sound.0, omega (arith, length-map parts with, sound.1), omega (arith, length-map parts with, sound.2), parts_bound names parts known sound.3)
body_readable version names (Ending ending) sound known = ending_readable version (length names) ending sound

-- the rules and the starts
abbrev IsReadableRule : ℕ → ℕ → Rule → Type 0
IsReadableRule version names r = (r.weight ≤ 1000000) × IsBody version names r.body

rules_readable : (version : ℕ) (names : List (List ℕ)) (spoken : List Spoken) → AllByRecursion (λ s. IsSound version s.said) spoken
    → AllByRecursion (λ s. is_understood names s ≡ true) spoken → All (IsReadableRule version (length names)) (rules_in names spoken)
rules_readable version names [] sound known = All-nil (IsReadableRule version (length names))
rules_readable version names (first ∷ spoken) sound known =
    All-append (IsReadableRule version (length names)) (rule_in names first) (rules_in names spoken) (at first.said sound.0 known.0)
    (rules_readable version names spoken sound.1 known.1)
  where
    at : (said : Said) → IsSound version said → is_understood names (record { line = first.line; said = said }) ≡ true
        → All (IsReadableRule version (length names)) (rule_in names (record { line = first.line; said = said }))
    at (says.Start num den name) here known = All-nil (IsReadableRule version (length names))
    at (says.Rule name weight body) here known =
        All-cons (IsReadableRule version (length names)) (record { lhs = symbol_of names name; weight = weight; body = body_with names body }) []
        (here.1, body_readable version names body here.2 known) (All-nil (IsReadableRule version (length names)))

starts_readable : (version : ℕ) (names : List (List ℕ)) (spoken : List Spoken) → AllByRecursion (λ s. IsSound version s.said) spoken
    → AllByRecursion (λ s. is_understood names s ≡ true) spoken → All (IsStartOf (length names)) (starts_in names spoken)
starts_readable version names [] sound known = All-nil (IsStartOf (length names))
starts_readable version names (first ∷ spoken) sound known =
    All-append (IsStartOf (length names)) (start_in names first) (starts_in names spoken) (at first.said sound.0 known.0)
    (starts_readable version names spoken sound.1 known.1)
  where
    at : (said : Said) → IsSound version said → is_understood names (record { line = first.line; said = said }) ≡ true
        → All (IsStartOf (length names)) (start_in names (record { line = first.line; said = said }))
    at (says.Start num den name) here known =
        All-cons (IsStartOf (length names)) (record { num = num; den = den; symbol = symbol_of names name }) []
        (record { signature = here; symbol = symbol_bound names name (and_parts (is_known names name) true known).0 }) (All-nil (IsStartOf (length names)))
    at (says.Rule name weight body) here known = All-nil (IsStartOf (length names))

rules_count : (names : List (List ℕ)) (spoken : List Spoken) → length (rules_in names spoken) ≡ length (filter is_rule spoken)
rules_count names [] = refl
rules_count names (first ∷ spoken) = at first.said (rules_count names spoken)
  where
    at : (said : Said) → length (rules_in names spoken) ≡ length (filter is_rule spoken)
        → length (rule_in names (record { line = first.line; said = said }) ++ rules_in names spoken) ≡ length (filter is_rule (record { line = first.line; said = said } ∷ spoken))
    at (says.Start num den name) rest = rest
    at (says.Rule name weight body) rest = ap suc rest

rule_sides : (names : List (List ℕ)) (spoken : List Spoken) → map (λ r. r.lhs) (rules_in names spoken) ≡ map (symbol_of names) (left_sides spoken)
rule_sides names [] = refl
rule_sides names (first ∷ spoken) = at first.said (rule_sides names spoken)
  where
    at : (said : Said) → map (λ r. r.lhs) (rules_in names spoken) ≡ map (symbol_of names) (left_sides spoken)
        → map (λ r. r.lhs) (rule_in names (record { line = first.line; said = said }) ++ rules_in names spoken)
        ≡ map (symbol_of names) (left_side (record { line = first.line; said = said }) ++ left_sides spoken)
    at (says.Start num den name) rest = rest
    at (says.Rule name weight body) rest = ap (λ symbols. symbol_of names name ∷ symbols) rest

abbrev OtherSignature : Start → Start → Type 0
OtherSignature s t = s.num ≡ t.num → s.den ≡ t.den → ⊥

start_alone : (names : List (List ℕ)) (num den symbol : ℕ) (name : List ℕ) (spoken : List Spoken) → AllByRecursion (λ t. Differ (says.Start num den name) t.said) spoken
    → All (OtherSignature (record { num = num; den = den; symbol = symbol })) (starts_in names spoken)
start_alone names num den symbol name [] differ = All-nil (OtherSignature (record { num = num; den = den; symbol = symbol }))
start_alone names num den symbol name (first ∷ spoken) differ =
    All-append (OtherSignature (record { num = num; den = den; symbol = symbol })) (start_in names first) (starts_in names spoken) (at first.said differ.0)
    (start_alone names num den symbol name spoken differ.1)
  where
    at : (said : Said) → Differ (says.Start num den name) said
        → All (OtherSignature (record { num = num; den = den; symbol = symbol })) (start_in names (record { line = first.line; said = said }))
    at (says.Start n d other) here =
        All-cons (OtherSignature (record { num = num; den = den; symbol = symbol })) (record { num = n; den = d; symbol = symbol_of names other }) [] here
        (All-nil (OtherSignature (record { num = num; den = den; symbol = symbol })))
    at (says.Rule other weight body) here = All-nil (OtherSignature (record { num = num; den = den; symbol = symbol }))

starts_alone : (names : List (List ℕ)) (spoken : List Spoken) → Pairwise (λ s t. Differ s.said t.said) spoken → AllPairs OtherSignature (starts_in names spoken)
starts_alone names [] differ = λ i j d less within. absurd (omega arith)
starts_alone names (first ∷ spoken) differ = at first.said differ.0 (starts_alone names spoken differ.1)
  where
    at : (said : Said) → AllByRecursion (λ t. Differ said t.said) spoken → AllPairs OtherSignature (starts_in names spoken)
        → AllPairs OtherSignature (start_in names (record { line = first.line; said = said }) ++ starts_in names spoken)
    at (says.Start num den name) here rest =
        AllPairs-cons OtherSignature (record { num = num; den = den; symbol = symbol_of names name }) (starts_in names spoken)
        (start_alone names num den (symbol_of names name) name spoken here) rest
    at (says.Rule name weight body) here rest = rest

-- the first appearances, one text after another
abbrev appended : List (List ℕ) → List (List ℕ) → List (List ℕ)
appended names [] = names
appended names (text ∷ texts) = appended (with_name names text) texts

appended-is : (texts more : List (List ℕ)) → appended (first_appearances texts) more ≡ first_appearances (texts ++ more)
appended-is texts [] = ap first_appearances (sym (append-nil texts))
appended-is texts (text ∷ more) =
    ap (λ names. appended names more) (sym (first_appearances-with texts text))
    ∙ appended-is (texts ++ text ∷ []) more ∙ ap first_appearances (append_assoc texts (text ∷ []) more)

grown : (names texts : List (List ℕ)) → (rest : List (List ℕ)) × (appended names texts ≡ names ++ rest)
grown names [] = ([], sym (append-nil names))
grown names (text ∷ texts) = at (is_known names text) (grown (with_name names text) texts)
  where
    at : (b : Bool) → (rest : List (List ℕ)) × (appended (cond b names (names ++ text ∷ [])) texts ≡ cond b names (names ++ text ∷ []) ++ rest)
        → (rest : List (List ℕ)) × (appended (cond b names (names ++ text ∷ [])) texts ≡ names ++ rest)
    at true more = more
    at false more = (text ∷ more.0, more.1 ∙ append_assoc names (text ∷ []) more.0)

pub place_known : (names rest : List (List ℕ)) (text : List ℕ) → is_known names text ≡ true → symbol_of (names ++ rest) text < length names
place_known [] rest text known = absurd (cc)
place_known (name ∷ names) rest text known = at (bytes_eq text name) known (place_known names rest text)
  where
    at : (b : Bool) → (b || is_known names text) ≡ true → (is_known names text ≡ true → symbol_of (names ++ rest) text < length names)
        → cond (not b) (1 + symbol_of (names ++ rest) text) 0 < length (name ∷ names)
    at true known more = omega arith
    at false known more = let less = more known in omega arith

place_new : (names rest : List (List ℕ)) (text : List ℕ) → is_known names text ≡ false → symbol_of (names ++ text ∷ rest) text ≡ length names
place_new [] rest text new = rw ((bytes_eq-Decides text text).1 refl) refl
place_new (name ∷ names) rest text new = at (bytes_eq text name) new (place_new names rest text)
  where
    at : (b : Bool) → (b || is_known names text) ≡ false → (is_known names text ≡ false → symbol_of (names ++ text ∷ rest) text ≡ length names)
        → cond (not b) (1 + symbol_of (names ++ text ∷ rest) text) 0 ≡ length (name ∷ names)
    at true new more = absurd (cc)
    at false new more = let same = more new in omega arith

in_order : (known texts names : List (List ℕ)) → names ≡ appended known texts → AppearInOrder (length known) (map (symbol_of names) texts) (length names)
in_order known [] names is = ap length (sym is)
in_order known (text ∷ texts) names is = at (is_known known text) refl is (λ further e. in_order further texts names e)
  where
    at : (b : Bool) → is_known known text ≡ b → names ≡ appended (cond b known (known ++ text ∷ [])) texts
        → ((further : List (List ℕ)) → names ≡ appended further texts → AppearInOrder (length further) (map (symbol_of names) texts) (length names))
        → (symbol_of names text ≤ length known)
        × AppearInOrder (if symbol_of names text == length known then length known + 1 else length known) (map (symbol_of names) texts) (length names)
    at true here is more =
        let rest = grown known texts in
        let place : symbol_of names text < length known = rw (is ∙ rest.1) (place_known known rest.0 text here) in
        let other : (symbol_of names text == length known) ≡ false = grind (arith, nat_tests, place) in
        (omega (arith, place), rw other (more known is))
    at false here is more =
        let rest = grown (known ++ text ∷ []) texts in
        let place : symbol_of names text ≡ length known = rw (is ∙ rest.1 ∙ append_assoc known (text ∷ []) rest.0) (place_new known rest.0 text here) in
        let same : (symbol_of names text == length known) ≡ true = grind (arith, nat_tests, place) in
        let P : ℕ → Type 0 = λ k. AppearInOrder k (map (symbol_of names) texts) (length names) in
        (omega (arith, place), rw same (subst P (length-append known (text ∷ [])) (more (known ++ text ∷ []) is)))

-- the grammar of sound lines
rulebook_sayable : (header : Header) (spoken : List Spoken) → IsSoundHeader header → AreSound header.version spoken
    → AllByRecursion (λ s. is_understood (names_of spoken) s ≡ true) spoken → IsSayable (grammar_of_parts header spoken)
rulebook_sayable header spoken head sound known =
    let names = names_of spoken in
    let rules = rules_readable header.version names spoken sound.each known in
    record {
      readable = record {
        version = head.version;
        ranges = record {
          some_unit = head.some_unit;
          few_units = most header.version head.few_units;
          window = head.window;
          early = head.early;
          late = head.late;
          weights = All-weaker (IsReadableRule header.version (length names)) (λ r. r.weight ≤ 1000000) (λ r h. h.0) (rules_in names spoken) rules;
        };
        unequal_units = λ is. most_unequal header.version is head.few_units;
        one_weight = head.one_weight;
        few_names = sound.few_names;
        names_differ = names_differ (left_sides spoken);
        starts = starts_readable header.version names spoken sound.each known;
        starts_differ = starts_alone names spoken sound.starts_differ;
        few_rules = omega (arith, rules_count names spoken, sound.few_rules);
        bodies = All-weaker (IsReadableRule header.version (length names)) (λ r. IsBody header.version (length names) r.body) (λ r h. h.1) (rules_in names spoken) rules;
        left_sides = subst (λ symbols. AppearInOrder 0 symbols (length names)) (sym (rule_sides names spoken)) (in_order [] (left_sides spoken) names (sym (appended-is [] (left_sides spoken))));
      };
      names = names_all (λ n. IsTrue (is_name n)) (left_sides spoken) (left_names header.version spoken sound.each);
    }
  where
    most : (version : ℕ) → header.resolution ≤ most_units version → header.resolution ≤ 960
    most version few = at (version == 2) few
      where
        at : (b : Bool) → header.resolution ≤ (if b then 96 else 960) → header.resolution ≤ 960
        at true few = omega (arith, few)
        at false few = few

    most_unequal : (version : ℕ) → version ≡ 2 → header.resolution ≤ most_units version → header.resolution ≤ 96
    most_unequal version is few = let two : (version == 2) ≡ true = grind (arith, nat_tests, is) in subst (λ b. header.resolution ≤ (if b then 96 else 960)) two few

lines_sayable : (header : Header) (spoken : List Spoken) → IsSoundHeader header → AreSound header.version spoken → IfOk (grammar_of_lines header spoken) IsSayable
lines_sayable header spoken head sound = at (not_understood (names_of spoken) spoken) refl
  where
    at : (others : List Spoken) → not_understood (names_of spoken) spoken ≡ others → IfOk (understood (grammar_of_parts header spoken) others) IsSayable
    at [] none = rulebook_sayable header spoken head sound (all_understood (is_understood (names_of spoken)) spoken none)
    at (first ∷ others) some = tt

pub grammar_is_sayable : (text : List ℕ) → IfOk (grammar_of text) IsSayable
unfolding grammar_of
grammar_is_sayable text =
    then_ok IsSoundHeader IsSayable (header_of (content_of text)) (λ header. in_turn (spoken_after header.version) [] (drop 4 (content_of text).lines) >>= λ spoken. grammar_of_lines header spoken)
    (header_sound (content_of text))
    (λ header head. then_ok (AreSound header.version) IsSayable (in_turn (spoken_after header.version) [] (drop 4 (content_of text).lines)) (λ spoken. grammar_of_lines header spoken)
    (lines_sound header.version (drop 4 (content_of text).lines))
    (λ spoken sound. lines_sayable header spoken head sound))

-- so is each grammar that some text says
pub is_sayable : (text : List ℕ) (g : Grammar) → grammar_of text ≡ Ok g → IsSayable g
is_sayable text g says = subst (λ r. IfOk r IsSayable) says (grammar_is_sayable text)
