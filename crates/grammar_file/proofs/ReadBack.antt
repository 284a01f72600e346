-- The printed text of a grammar is read as that grammar.
use Rattle.std.proofs.Common.{◌≡◌, ◌⊎◌, ℕ, ◌+◌, ◌<◌, ◌≤◌, ◌==◌, if◌then◌else◌, Bool, true, false, not, List, [], ◌∷◌, ◌++◌, length, drop, map, filter, slice_get, Option, Some, None, Result, Ok, Err, All, inl, inr, refl, sym, ap, ◌∙◌, subst, arith}
use Rattle.std.proofs.lemmas.Grind.{flat_map-append}
use Rattle.std.proofs.lemmas.List.{append-nil}
use Rattle.std.proofs.lemmas.List.Elements.{All-head, All-tail, filter-append, recursion_from_All}
use Rattle.std.specs.Fmt.{decimal}
use Rattle.std.specs.List.{AllByRecursion, flat_map, list_all, list_any}
use Rattle.std.specs.Prelude.{codes}
use Rattle.rhythm_base.specs.Bodies.{Cut, cut_of, ending_of, equal, unequal}
use Rattle.rhythm_base.specs.Readable.{AppearInOrder, IsBody, IsBodyOf, IsReadable, IsStartOf}
use Rattle.rhythm_base.specs.Grammar.{Grammar}
use Rattle.rhythm_base.specs.declared.grammar.Start.{Start}
use Rattle.rhythm_base.specs.declared.rule.Body.{Body}
use Rattle.rhythm_base.specs.declared.rule.Body.TheVariants as bodies
use Rattle.rhythm_base.specs.declared.rule.Ending.{Ending}
use Rattle.rhythm_base.specs.declared.rule.Rule.{Rule}
use Rattle.grammar_file.proofs.EndingLemmas.{body_from, body_from-is, ending_plain}
use Rattle.grammar_file.proofs.GrammarLemmas.{grammar_3}
use Rattle.grammar_file.proofs.HeaderLemmas.{header_5}
use Rattle.grammar_file.proofs.PlainLemmas.{ArePlain, IsPlain, content_of_text, decimal_plain, lines_from, name_plain, signature_plain}
use Rattle.grammar_file.proofs.PrintLemmas.{sides_of_rules}
use Rattle.grammar_file.proofs.ReadBackLemmas.{IsFront, IsRule, name_known, read_rules, read_starts, rules_spoken, starts_spoken, symbol_of_name}
use Rattle.grammar_file.proofs.SpokenLemmas.{beat_bound, named, named_from, number_line, version_line, weights_line}
use Rattle.grammar_file.specs.Content.{Content, content_of}
use Rattle.grammar_file.specs.Grammar.{grammar_of, grammar_of_lines, understood}
use Rattle.grammar_file.specs.Header.{header_of, line_says, most_units, said_number, version_of, weights_of}
use Rattle.grammar_file.specs.Names.{first_appearances, is_known, symbol_of}
use Rattle.grammar_file.specs.Outcome.{on_line}
use Rattle.grammar_file.specs.declared.fault.GrammarFault.{GrammarFault}
use Rattle.grammar_file.specs.declared.fault.GrammarWhat.{GrammarWhat}
use Rattle.grammar_file.specs.Printed.{body_words, symbol_name, printed, rule_words, start_words, weight_words, words_of_body, words_of_lines}
use Rattle.grammar_file.specs.ReadBack.{IsReadBack}
use Rattle.grammar_file.specs.Sayable.{IsSayable}
use Rattle.grammar_file.specs.Statements.{in_turn, is_rule, is_start_of, left_sides, names_of, spoken_after}
use Rattle.grammar_file.specs.Symbols.{body_with, is_understood, names_in, names_of_parts, not_understood, parts_with, rule_in, rules_in, start_in, starts_in}
use Rattle.grammar_file.specs.declared.draft.Spoken.{Spoken}
use Rattle.grammar_file.specs.declared.header.Header.{Header}

-- the lines after others
lines_after : (n : ℕ) (lines more : List (List (List ℕ))) → lines_from n (lines ++ more) ≡ lines_from n lines ++ lines_from (n + length lines) more
lines_after n [] more = ap (λ k. lines_from k more) (omega arith)
lines_after n (words ∷ lines) more =
    ap (λ rest. record { number = n; words = words } ∷ rest)
    (lines_after (n + 1) lines more ∙ ap (λ k. lines_from (n + 1) lines ++ lines_from k more) (omega arith))

module _ (g : Grammar) (can : IsSayable g) where
  abbrev readable : IsReadable g
  readable = can.readable

  -- all words are plain
  number_plain : (n : ℕ) → n ≤ 1000000 → IsPlain (decimal n)
  number_plain n few = decimal_plain n (omega (arith, few))

  symbol_plain : (symbol : ℕ) → symbol < length g.names → IsPlain (symbol_name g.names symbol)
  symbol_plain symbol within = name_plain (symbol_name g.names symbol) (can.names symbol [] within)

  kids_plain : (symbols : List ℕ) → All (λ s. s < length g.names) symbols → AllByRecursion IsPlain (map (symbol_name g.names) symbols)
  kids_plain [] bound = tt
  kids_plain (symbol ∷ symbols) bound =
      (symbol_plain symbol (All-head (λ s. s < length g.names) symbol symbols bound), kids_plain symbols (All-tail (λ s. s < length g.names) symbol symbols bound))

  abbrev IsPart : ℕ × ℕ → Type 0
  IsPart q = (1 ≤ q.0) × (q.0 ≤ 96) × (q.1 < length g.names)

  parts_plain : (parts : List (ℕ × ℕ)) → All IsPart parts → AllByRecursion IsPlain (flat_map (λ part. decimal part.0 ∷ symbol_name g.names part.1 ∷ []) parts)
  parts_plain [] bound = tt
  parts_plain (part ∷ parts) bound =
      let here = All-head IsPart part parts bound in
      (number_plain part.0 (omega (arith, here.1)), (symbol_plain part.1 here.2, parts_plain parts (All-tail IsPart part parts bound)))

  views_plain : (cut : Option Cut) (ending : Option Ending) → IsBodyOf g.version (length g.names) cut ending → AllByRecursion IsPlain (words_of_body g.names cut ending)
  views_plain (Some (equal symbols)) ending bound = ((refl, omega arith), kids_plain symbols bound.2)
  views_plain (Some (unequal parts)) ending bound = ((refl, omega arith), parts_plain parts bound.3)
  views_plain None (Some ending) bound = ending_plain ending bound
  views_plain None None bound = tt

  body_plain : (body : Body) → IsBody g.version (length g.names) body → AllByRecursion IsPlain (body_words g.names body)
  body_plain body bound = views_plain (cut_of body) (ending_of body) bound

  rules_plain : (rules : List Rule) → AllByRecursion (IsRule g.version g.names can.names readable.names_differ readable.few_names) rules → AllByRecursion ArePlain (map (rule_words g.names) rules)
  rules_plain [] are = tt
  rules_plain (r ∷ rules) are =
      ((omega arith, (symbol_plain r.lhs are.0.0, (number_plain r.weight are.0.1, body_plain r.body are.0.2))), rules_plain rules are.1)

  starts_plain : (starts : List Start) → All (IsStartOf (length g.names)) starts → AllByRecursion ArePlain (map (start_words g.names) starts)
  starts_plain [] are = tt
  starts_plain (s ∷ starts) are =
      let here = All-head (IsStartOf (length g.names)) s starts are in (
        (omega arith, ((refl, omega arith), (signature_plain s.num s.den (omega (arith, here.signature.few)) (omega (arith, beat_bound s.den here.signature.power)), (symbol_plain s.symbol here.symbol, tt)))),
        starts_plain starts (All-tail (IsStartOf (length g.names)) s starts are),
      )

  both_plain : (a b : List (List (List ℕ))) → AllByRecursion ArePlain a → AllByRecursion ArePlain b → AllByRecursion ArePlain (a ++ b)
  both_plain [] b left right = right
  both_plain (words ∷ a) b left right = (left.0, both_plain a b left.1 right)

  version_small : g.version ≤ 1000000
  version_small = at readable.version
    where
      at : (g.version ≡ 1) ⊎ (g.version ≡ 2) → g.version ≤ 1000000
      at (inl is) = omega (arith, is)
      at (inr is) = omega (arith, is)

  weights_plain : ArePlain (weight_words g)
  weights_plain = at (g.version == 2)
    where
      at : (b : Bool) → ArePlain (codes "onset" ∷ decimal g.early ∷ (if b then decimal g.late ∷ [] else []))
      at true = (omega arith, ((refl, omega arith), (number_plain g.early (omega (arith, readable.ranges.early)), (number_plain g.late (omega (arith, readable.ranges.late)), tt))))
      at false = (omega arith, ((refl, omega arith), (number_plain g.early (omega (arith, readable.ranges.early)), tt)))

  rules_are : AllByRecursion (IsRule g.version g.names can.names readable.names_differ readable.few_names) g.rules
  rules_are = recursion_from_All (IsRule g.version g.names can.names readable.names_differ readable.few_names) g.rules
      (λ k d within. (sides_of_rules g.rules (length g.names) readable.left_sides k d within, readable.ranges.weights k d within, readable.bodies k d within))

  all_plain : AllByRecursion ArePlain (words_of_lines g)
  all_plain = (
    (omega arith, ((refl, omega arith), (number_plain g.version version_small, tt))),
    (
      (omega arith, ((refl, omega arith), (number_plain g.resolution (omega (arith, readable.ranges.few_units)), tt))),
      (
        (omega arith, ((refl, omega arith), (number_plain g.window readable.ranges.window, tt))),
        (weights_plain, both_plain (map (start_words g.names) g.starts) (map (rule_words g.names) g.rules) (starts_plain g.starts readable.starts) (rules_plain g.rules rules_are)),
      ),
    ),
  )

  -- the lines of the text
  text_lines : (content_of (printed g)).lines ≡ lines_from 1 (words_of_lines g)
  unfolding printed
  text_lines = content_of_text (words_of_lines g) all_plain

  -- the header
  abbrev header : Header
  header = record { version = g.version; resolution = g.resolution; window = g.window; early = g.early; late = g.late }

  few_units : g.resolution ≤ most_units g.version
  few_units = at readable.version
    where
      at : (g.version ≡ 1) ⊎ (g.version ≡ 2) → g.resolution ≤ most_units g.version
      at (inl is) = rw is readable.ranges.few_units
      at (inr is) = rw is (readable.unequal_units is)

  header_read : header_of (content_of (printed g)) ≡ Ok header
  header_read =
      let content : Content = content_of (printed g) in
      header_5 content g.version g.resolution g.window (g.early, g.late)
      (ap (λ lines. line_says content.end version_of (slice_get lines 0)) text_lines ∙ ap (on_line_number 1) (version_line g.version readable.version))
      (ap (λ lines. line_says content.end (said_number (codes "resolution") 1 (most_units g.version)) (slice_get lines 1)) text_lines
      ∙ ap (on_line_number 2) (number_line (codes "resolution") 1 (most_units g.version) g.resolution refl readable.ranges.some_unit few_units (omega (arith, readable.ranges.few_units))))
      (ap (λ lines. line_says content.end (said_number (codes "window") 0 1000000) (slice_get lines 2)) text_lines
      ∙ ap (on_line_number 3) (number_line (codes "window") 0 1000000 g.window refl (omega arith) readable.ranges.window (omega (arith, readable.ranges.window))))
      (ap (λ lines. line_says content.end (weights_of g.version) (slice_get lines 3)) text_lines
      ∙ ap (on_line_number 4) (weights_line g.version g.early g.late readable.version readable.one_weight readable.ranges.early readable.ranges.late))
    where
      on_line_number : {A : Type 0} → ℕ → Result A GrammarWhat → Result A GrammarFault
      on_line_number number r = on_line number r

  -- the lines after the header
  abbrev start_lines : List Spoken
  start_lines = starts_spoken g.names 5 g.starts

  abbrev rule_lines : List Spoken
  rule_lines = rules_spoken g.names (5 + length (map (start_words g.names) g.starts)) g.rules

  no_sides : (n : ℕ) (starts : List Start) → left_sides (starts_spoken g.names n starts) ≡ []
  no_sides n [] = refl
  no_sides n (s ∷ starts) = no_sides (n + 1) starts

  no_rules : (n : ℕ) (starts : List Start) → filter is_rule (starts_spoken g.names n starts) ≡ []
  no_rules n [] = refl
  no_rules n (s ∷ starts) = no_rules (n + 1) starts

  all_fresh : (starts : List Start) → AllByRecursion (λ s. list_any (is_start_of s.num s.den) [] ≡ false) starts
  all_fresh [] = tt
  all_fresh (s ∷ starts) = (refl, all_fresh starts)

  no_names : names_of start_lines ≡ []
  no_names = ap first_appearances (no_sides 5 g.starts)

  abbrev Front : List (List ℕ) → Type 0
  Front known = IsFront g.version g.names can.names readable.names_differ readable.few_names known

  rules_read : (in_turn (spoken_after g.version) start_lines (lines_from (5 + length (map (start_words g.names) g.starts)) (map (rule_words g.names) g.rules)) ≡ Ok (start_lines ++ rule_lines))
      × (names_of (start_lines ++ rule_lines) ≡ g.names)
  rules_read =
      let P : List (List ℕ) → Type 0 = λ known. AppearInOrder (length known) (map (λ r. r.lhs) g.rules) (length g.names) in
      let none : Front [] = record { rest = g.names; whole = refl } in
      read_rules g.version g.names can.names readable.names_differ readable.few_names start_lines (5 + length (map (start_words g.names) g.starts)) g.rules
      (subst Front (sym no_names) none)
      (omega (arith, ap length (no_rules 5 g.starts), readable.few_rules))
      (subst P (sym no_names) readable.left_sides) rules_are

  lines_read : in_turn (spoken_after g.version) [] (drop 4 (content_of (printed g)).lines) ≡ Ok (start_lines ++ rule_lines)
  lines_read =
      ap (λ lines. in_turn (spoken_after g.version) [] (drop 4 lines)) text_lines
      ∙ ap (in_turn (spoken_after g.version) []) (lines_after 5 (map (start_words g.names) g.starts) (map (rule_words g.names) g.rules))
      ∙ read_starts g.version g.names can.names readable.names_differ readable.few_names [] 5 g.starts
      (lines_from (5 + length (map (start_words g.names) g.starts)) (map (rule_words g.names) g.rules)) refl refl (all_fresh g.starts) readable.starts_differ readable.starts
      ∙ rules_read.0

  -- all names that the lines use are known
  kids_known : (symbols : List ℕ) → All (λ s. s < length g.names) symbols → list_all (is_known g.names) (map (symbol_name g.names) symbols) ≡ true
  kids_known [] bound = refl
  kids_known (symbol ∷ symbols) bound =
      rw (name_known g.names symbol (All-head (λ s. s < length g.names) symbol symbols bound)) (kids_known symbols (All-tail (λ s. s < length g.names) symbol symbols bound))

  abbrev with_name : ℕ × ℕ → ℕ × List ℕ
  with_name part = (part.0, symbol_name g.names part.1)

  parts_known : (parts : List (ℕ × ℕ)) → All IsPart parts → list_all (is_known g.names) (names_of_parts (map with_name parts)) ≡ true
  parts_known [] bound = refl
  parts_known (part ∷ parts) bound = rw (name_known g.names part.1 (All-head IsPart part parts bound).2) (parts_known parts (All-tail IsPart part parts bound))

  views_known : (cut : Option Cut) (ending : Option Ending) → IsBodyOf g.version (length g.names) cut ending → list_all (is_known g.names) (names_in (named_from g.names cut ending)) ≡ true
  views_known (Some (equal symbols)) ending bound = kids_known symbols bound.2
  views_known (Some (unequal parts)) ending bound = parts_known parts bound.3
  views_known None (Some ending) bound = refl
  views_known None None bound = refl

  body_known : (body : Body) → IsBody g.version (length g.names) body → list_all (is_known g.names) (names_in (named g.names body)) ≡ true
  body_known body bound = views_known (cut_of body) (ending_of body) bound

  starts_known : (n : ℕ) (starts : List Start) → All (IsStartOf (length g.names)) starts → not_understood g.names (starts_spoken g.names n starts) ≡ []
  starts_known n [] are = refl
  starts_known n (s ∷ starts) are =
      rw (name_known g.names s.symbol (All-head (IsStartOf (length g.names)) s starts are).symbol) (starts_known (n + 1) starts (All-tail (IsStartOf (length g.names)) s starts are))

  abbrev Fits : Rule → Type 0
  Fits = IsRule g.version g.names can.names readable.names_differ readable.few_names

  rules_known : (n : ℕ) (rules : List Rule) → AllByRecursion Fits rules → not_understood g.names (rules_spoken g.names n rules) ≡ []
  rules_known n [] are = refl
  rules_known n (r ∷ rules) are = rw (body_known r.body are.0.2) (rules_known (n + 1) rules are.1)

  all_known : not_understood g.names (start_lines ++ rule_lines) ≡ []
  all_known =
      filter-append (λ line. not (is_understood g.names line)) start_lines rule_lines
      ∙ rw (starts_known 5 g.starts readable.starts) (rules_known _ g.rules rules_are)

  -- symbols come back
  symbol_back : (symbol : ℕ) → symbol < length g.names → symbol_of g.names (symbol_name g.names symbol) ≡ symbol
  symbol_back symbol within = symbol_of_name g.names symbol readable.names_differ within

  kids_back : (symbols : List ℕ) → All (λ s. s < length g.names) symbols → map (symbol_of g.names) (map (symbol_name g.names) symbols) ≡ symbols
  kids_back [] bound = refl
  kids_back (symbol ∷ symbols) bound =
      rw (symbol_back symbol (All-head (λ s. s < length g.names) symbol symbols bound))
      (ap (λ rest. symbol ∷ rest) (kids_back symbols (All-tail (λ s. s < length g.names) symbol symbols bound)))

  parts_back : (parts : List (ℕ × ℕ)) → All IsPart parts → parts_with g.names (map with_name parts) ≡ parts
  parts_back [] bound = refl
  parts_back (part ∷ parts) bound =
      rw (symbol_back part.1 (All-head IsPart part parts bound).2) (ap (λ rest. part ∷ rest) (parts_back parts (All-tail IsPart part parts bound)))

  views_back : (cut : Option Cut) (ending : Option Ending) → IsBodyOf g.version (length g.names) cut ending → body_with g.names (named_from g.names cut ending) ≡ body_from cut ending
  views_back (Some (equal symbols)) ending bound = ap bodies.Split (kids_back symbols bound.2)
  views_back (Some (unequal parts)) ending bound = ap bodies.Parts (parts_back parts bound.3)
  views_back None (Some ending) bound = refl
  views_back None None bound = refl

  body_back : (body : Body) → IsBody g.version (length g.names) body → body_with g.names (named g.names body) ≡ body
  body_back body bound = views_back (cut_of body) (ending_of body) bound ∙ body_from-is body

  starts_back : (n : ℕ) (starts : List Start) → All (IsStartOf (length g.names)) starts → starts_in g.names (starts_spoken g.names n starts) ≡ starts
  starts_back n [] are = refl
  starts_back n (s ∷ starts) are =
      rw (symbol_back s.symbol (All-head (IsStartOf (length g.names)) s starts are).symbol)
      (ap (λ rest. s ∷ rest) (starts_back (n + 1) starts (All-tail (IsStartOf (length g.names)) s starts are)))

  rules_back : (n : ℕ) (rules : List Rule) → AllByRecursion Fits rules → rules_in g.names (rules_spoken g.names n rules) ≡ rules
  rules_back n [] are = refl
  rules_back n (r ∷ rules) are = rw (symbol_back r.lhs are.0.0, body_back r.body are.0.2) (ap (λ rest. r ∷ rest) (rules_back (n + 1) rules are.1))

  no_starts : (n : ℕ) (rules : List Rule) → starts_in g.names (rules_spoken g.names n rules) ≡ []
  no_starts n [] = refl
  no_starts n (r ∷ rules) = no_starts (n + 1) rules

  rules_of_starts : (n : ℕ) (starts : List Start) → rules_in g.names (starts_spoken g.names n starts) ≡ []
  rules_of_starts n [] = refl
  rules_of_starts n (s ∷ starts) = rules_of_starts (n + 1) starts

  all_starts : starts_in g.names (start_lines ++ rule_lines) ≡ g.starts
  all_starts =
      flat_map-append (start_in g.names) start_lines rule_lines
      ∙ rw (starts_back 5 g.starts readable.starts, no_starts (5 + length (map (start_words g.names) g.starts)) g.rules) (append-nil g.starts)

  all_rules : rules_in g.names (start_lines ++ rule_lines) ≡ g.rules
  all_rules = flat_map-append (rule_in g.names) start_lines rule_lines ∙ rw (rules_of_starts 5 g.starts) (rules_back _ g.rules rules_are)

  abbrev grammar_with : List (List ℕ) → List Start → List Rule → Grammar
  grammar_with names starts rules = record {
    version = g.version;
    resolution = g.resolution;
    window = g.window;
    early = g.early;
    late = g.late;
    names = names;
    starts = starts;
    rules = rules;
  }

  grammar_read : grammar_of_lines header (start_lines ++ rule_lines) ≡ Ok g
  grammar_read =
      let lines : List Spoken = start_lines ++ rule_lines in
      let outcome : List (List ℕ) → Result Grammar GrammarFault = λ names. understood (grammar_with names (starts_in names lines) (rules_in names lines)) (not_understood names lines) in
      let with : Grammar → List Spoken → Result Grammar GrammarFault = λ rulebook others. understood rulebook others in
      ap outcome rules_read.1
      ∙ ap (with (grammar_with g.names (starts_in g.names lines) (rules_in g.names lines))) all_known
      ∙ ap (λ starts. Ok (grammar_with g.names starts (rules_in g.names lines))) all_starts
      ∙ ap (λ rules. Ok (grammar_with g.names g.starts rules)) all_rules

  text_read : grammar_of (printed g) ≡ Ok g
  text_read = grammar_3 (printed g) header (start_lines ++ rule_lines) header_read lines_read ∙ grammar_read

ok_same : (g h : Grammar) (r : Result Grammar GrammarFault) → r ≡ Ok g → r ≡ Ok h → h ≡ g
ok_same g h r first second = cc

ok_no_fault : (g : Grammar) (fault : GrammarFault) (r : Result Grammar GrammarFault) → r ≡ Ok g → r ≡ Err fault → ⊥
ok_no_fault g fault r first second = cc

pub read_back : (g : Grammar) → IsSayable g → IsReadBack g
read_back g can = record {
  says = text_read g can;
  no_other = λ h says. ok_same g h (grammar_of (printed g)) (text_read g can) says;
  no_fault = λ fault has. ok_no_fault g fault (grammar_of (printed g)) (text_read g can) has;
}
