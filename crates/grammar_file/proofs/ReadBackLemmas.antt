-- The lines of a grammar's text, one after the other, are read as its starts and rules.
use Rattle.std.proofs.Common.{◌≡◌, ◌≢◌, ℕ, ◌+◌, ◌<◌, ◌≤◌, ◌==◌, ◌&&◌, ◌||◌, if◌then◌else◌, Bool, true, false, cond, nat_le, nat_lt, List, [], ◌∷◌, ◌++◌, length, get_or, map, filter, None, Ok, IsTrue, All, zero, suc, refl, sym, ap, ◌∙◌, subst, arith}
use Rattle.std.proofs.lemmas.Bool.{lt-ltb}
use Rattle.std.proofs.lemmas.Bool.Decides.{nat_tests}
use Rattle.std.proofs.Math.Seq.{get_or-append_seam}
use Rattle.std.proofs.lemmas.List.{append-nil, append_assoc, get_or_append_left, length-append}
use Rattle.std.proofs.lemmas.List.Elements.{All-head, All-tail, filter-append}
use Rattle.std.proofs.lemmas.List.Folds.{list_any-append}
use Rattle.std.proofs.lemmas.List.Sums.{position_or_len_is}
use Rattle.std.proofs.lemmas.Slice.Eq.{bytes_eq-Decides}
use Rattle.std.specs.List.{AllByRecursion, AllPairs, list_any}
use Rattle.std.specs.Str.{bytes_eq}
use Rattle.rhythm_base.specs.Readable.{AppearInOrder, IsBody, IsStartOf}
use Rattle.rhythm_base.specs.declared.grammar.Start.{Start}
use Rattle.rhythm_base.specs.declared.rule.Rule.{Rule}
use Rattle.grammar_file.proofs.PlainLemmas.{lines_from}
use Rattle.grammar_file.proofs.PrintLemmas.{sides_bound}
use Rattle.grammar_file.proofs.SayableLemmas.{place_known}
use Rattle.grammar_file.proofs.SpokenLemmas.{named, rule_said, start_said}
use Rattle.grammar_file.proofs.StatementLemmas.{names_of-rule, names_of-start}
use Rattle.grammar_file.specs.Names.{is_known, is_name, symbol_of}
use Rattle.grammar_file.specs.Printed.{symbol_name, rule_words, start_words}
use Rattle.grammar_file.specs.Said.{said_by}
use Rattle.grammar_file.specs.Statements.{conflict, in_turn, is_rule, is_start_of, names_of, spoken_after}
use Rattle.grammar_file.specs.declared.draft.Spoken.{Spoken}
use Rattle.grammar_file.specs.declared.line.Line.{Line}
use Rattle.grammar_file.specs.declared.said.Said.{Said}
use Rattle.grammar_file.specs.declared.said.Said.TheVariants as says

-- a line that nothing speaks against
spoken : (version : ℕ) (before : List Spoken) (number : ℕ) (words : List (List ℕ)) (said : Said) → said_by version words ≡ Ok said → conflict before said ≡ None
    → spoken_after version before (record { number = number; words = words }) ≡ Ok (record { line = number; said = said })
spoken version before number words said is free = rw (is, free) refl

-- what the lines of starts and of rules say, numbered from n on
abbrev pub starts_spoken : List (List ℕ) → ℕ → List Start → List Spoken
starts_spoken names n [] = []
starts_spoken names n (s ∷ starts) = record { line = n; said = says.Start s.num s.den (symbol_name names s.symbol) } ∷ starts_spoken names (n + 1) starts

abbrev pub rules_spoken : List (List ℕ) → ℕ → List Rule → List Spoken
rules_spoken names n [] = []
rules_spoken names n (r ∷ rules) = record { line = n; said = says.Rule (symbol_name names r.lhs) r.weight (named names r.body) } ∷ rules_spoken names (n + 1) rules

-- the symbol of a name is the number of the name
pub symbol_of_name : (names : List (List ℕ)) (symbol : ℕ) → AllPairs (λ x y. x ≢ y) names → symbol < length names → symbol_of names (symbol_name names symbol) ≡ symbol
symbol_of_name names symbol differ within =
    position_or_len_is (bytes_eq (symbol_name names symbol)) names symbol [] (omega (arith, within))
    (λ k less. at (bytes_eq (symbol_name names symbol) (get_or names k [])) refl (differ k symbol [] less within))
    (λ _. (bytes_eq-Decides (symbol_name names symbol) (symbol_name names symbol)).1 refl)
  where
    at : {x y : List ℕ} (b : Bool) → bytes_eq x y ≡ b → y ≢ x → b ≡ false
    at {x} {y} true e other = absurd (other (sym ((bytes_eq-Decides x y).0 e)))
    at false e other = refl

pub name_known : (names : List (List ℕ)) (symbol : ℕ) → symbol < length names → is_known names (symbol_name names symbol) ≡ true
name_known [] symbol within = absurd (omega arith)
name_known (name ∷ names) zero within = rw ((bytes_eq-Decides name name).1 refl) refl
name_known (name ∷ names) (suc symbol) within = at (bytes_eq (symbol_name names symbol) name) (name_known names symbol (omega arith))
  where
    at : (b : Bool) → is_known names (symbol_name names symbol) ≡ true → (b || is_known names (symbol_name names symbol)) ≡ true
    at true rest = refl
    at false rest = rest

module _ (version : ℕ) (names : List (List ℕ)) (spelled : All (λ n. IsTrue (is_name n)) names) (differ : AllPairs (λ x y. x ≢ y) names) (few_names : length names ≤ 64) where
  -- the starts
  abbrev pub Fresh : List Spoken → Start → Type 0
  Fresh before s = list_any (is_start_of s.num s.den) before ≡ false

  abbrev pub OtherSignature : Start → Start → Type 0
  OtherSignature s t = s.num ≡ t.num → s.den ≡ t.den → ⊥

  still_fresh : (before : List Spoken) (n : ℕ) (s : Start) (starts : List Start) → AllByRecursion (Fresh before) starts → All (OtherSignature s) starts
      → AllByRecursion (Fresh (before ++ record { line = n; said = says.Start s.num s.den (symbol_name names s.symbol) } ∷ [])) starts
  still_fresh before n s [] fresh other = tt
  still_fresh before n s (t ∷ starts) fresh other =
      let here = All-head (OtherSignature s) t starts other in
      let new : ((s.num == t.num) && (s.den == t.den)) ≡ false = different ((s.num == t.num)) ((s.den == t.den)) (λ a b. here (equal s.num t.num a) (equal s.den t.den b)) in
      (list_any-append (is_start_of t.num t.den) before _ ∙ rw (fresh.0, new) refl, still_fresh before n s starts fresh.1 (All-tail (OtherSignature s) t starts other))
    where
      equal : (a b : ℕ) → (a == b) ≡ true → a ≡ b
      equal a b e = grind (arith, nat_tests, e)

      different : (a b : Bool) → (a ≡ true → b ≡ true → ⊥) → (a && b) ≡ false
      different true true f = absurd (f refl refl)
      different true false f = refl
      different false b f = refl

  other_signatures : (s : Start) (starts : List Start) → AllPairs OtherSignature (s ∷ starts) → All (OtherSignature s) starts × AllPairs OtherSignature starts
  other_signatures s starts pairs = ((λ k d within. pairs 0 (suc k) d (omega arith) (omega (arith, within))), (λ i j d less within. pairs (suc i) (suc j) d (omega (arith, less)) (omega (arith, within))))

  pub read_starts : (before : List Spoken) (n : ℕ) (starts : List Start) (more : List Line) → names_of before ≡ [] → filter is_rule before ≡ []
      → AllByRecursion (Fresh before) starts → AllPairs OtherSignature starts → All (IsStartOf (length names)) starts
      → in_turn (spoken_after version) before (lines_from n (map (start_words names) starts) ++ more) ≡ in_turn (spoken_after version) (before ++ starts_spoken names n starts) more
  read_starts before n [] more none no_rule fresh pairs are = ap (λ b. in_turn (spoken_after version) b more) (sym (append-nil before))
  read_starts before n (s ∷ starts) more none no_rule fresh pairs are =
      let here = All-head (IsStartOf (length names)) s starts are in
      let said = start_said version s.num s.den (symbol_name names s.symbol) here.signature (spelled s.symbol [] here.symbol) in
      let line : Spoken = record { line = n; said = says.Start s.num s.den (symbol_name names s.symbol) } in
      let others = other_signatures s starts pairs in
      let free : conflict before line.said ≡ None = rw fresh.0 refl in
      rw (spoken version before n (start_words names s) line.said said free)
      (read_starts (before ++ line ∷ []) (n + 1) starts more (names_of-start before n s.num s.den (symbol_name names s.symbol) ∙ none)
      (filter-append is_rule before (line ∷ []) ∙ append-nil (filter is_rule before) ∙ no_rule)
      (still_fresh before n s starts fresh.1 others.0) others.1 (All-tail (IsStartOf (length names)) s starts are)
      ∙ ap (λ b. in_turn (spoken_after version) b more) (append_assoc before (line ∷ []) (starts_spoken names (n + 1) starts)))

  -- the rules: the names so far are the first of all names
  pub record IsFront (known : List (List ℕ)) : Type 0 where
    pub rest : List (List ℕ)
    pub whole : names ≡ known ++ rest

  front_name : (known : List (List ℕ)) (symbol : ℕ) → IsFront known → symbol < length known → symbol_name names symbol ≡ symbol_name known symbol
  front_name known symbol front within = ap (λ ns. symbol_name ns symbol) front.whole ∙ get_or_append_left known front.rest [] symbol within

  -- a known left side
  old_name : (known : List (List ℕ)) (symbol : ℕ) → IsFront known → symbol < length known → is_known known (symbol_name names symbol) ≡ true
  old_name known symbol front within = ap (is_known known) (front_name known symbol front within) ∙ name_known known symbol within

  -- a new one
  new_name : (known : List (List ℕ)) (symbol : ℕ) → IsFront known → symbol ≡ length known → symbol < length names → is_known known (symbol_name names symbol) ≡ false
  new_name known symbol front is within = at (is_known known (symbol_name names symbol)) refl
    where
      at : (b : Bool) → is_known known (symbol_name names symbol) ≡ b → b ≡ false
      at false e = refl
      at true e =
          let place = place_known known front.rest (symbol_name names symbol) e in
          let same = symbol_of_name names symbol differ within in
          let less : symbol_of names (symbol_name names symbol) < length known = subst (λ ns. symbol_of ns (symbol_name names symbol) < length known) (sym front.whole) place in
          absurd (omega (arith, less, same, is))

  longer_front : (known : List (List ℕ)) → IsFront known → length known < length names → IsFront (known ++ symbol_name names (length known) ∷ [])
  longer_front known front within = at front.rest front.whole
    where
      at : (rest : List (List ℕ)) → names ≡ known ++ rest → IsFront (known ++ symbol_name names (length known) ∷ [])
      at [] whole = absurd (omega (arith, ap length whole, length-append known [], within))
      at (name ∷ rest) whole =
          let is : symbol_name names (length known) ≡ name = ap (λ ns. symbol_name ns (length known)) whole ∙ get_or-append_seam known name rest [] in
          record { rest = rest; whole = whole ∙ sym (append_assoc known (name ∷ []) rest) ∙ ap (λ n. (known ++ n ∷ []) ++ rest) (sym is) }

  all_front : (known : List (List ℕ)) → IsFront known → length known ≡ length names → known ≡ names
  all_front known front all = at front.rest front.whole
    where
      at : (rest : List (List ℕ)) → names ≡ known ++ rest → known ≡ names
      at [] whole = sym (whole ∙ append-nil known)
      at (name ∷ rest) whole = absurd (omega (arith, ap length whole, length-append known (name ∷ rest), all))

  abbrev line_of : ℕ → Rule → Spoken
  line_of n r = record { line = n; said = says.Rule (symbol_name names r.lhs) r.weight (named names r.body) }

  -- what a rule needs, and what it leaves to the next
  record IsNext (before : List Spoken) (n : ℕ) (r : Rule) (rules : List Rule) : Type 0 where
    free : conflict before (line_of n r).said ≡ None
    front : IsFront (names_of (before ++ line_of n r ∷ []))
    order : AppearInOrder (length (names_of (before ++ line_of n r ∷ []))) (map (λ r. r.lhs) rules) (length names)

  next_rule : (before : List Spoken) (n : ℕ) (r : Rule) (rules : List Rule) → IsFront (names_of before) → length (filter is_rule before) < 512
      → AppearInOrder (length (names_of before)) (map (λ r. r.lhs) (r ∷ rules)) (length names) → IsNext before n r rules
  next_rule before n r rules front few order = at (r.lhs == length (names_of before)) refl order.1
    where
      known : List (List ℕ)
      known = names_of before

      room : nat_le 512 (length (filter is_rule before)) ≡ false
      room = grind (arith, nat_tests, few)

      at : (b : Bool) → (r.lhs == length (names_of before)) ≡ b → AppearInOrder (if b then length (names_of before) + 1 else length (names_of before)) (map (λ r. r.lhs) rules) (length names)
          → IsNext before n r rules
      at true e rest =
          let is : r.lhs ≡ length (names_of before) = grind (arith, nat_tests, e) in
          let bound = sides_bound (length (names_of before) + 1) (map (λ r. r.lhs) rules) (length names) rest in
          let within : r.lhs < length names = omega (arith, is, bound.0) in
          let new = new_name (names_of before) r.lhs front is within in
          let few : nat_lt (length (names_of before)) 64 ≡ true = lt-ltb _ _ (omega (arith, bound.0, few_names)) in
          let after : names_of (before ++ line_of n r ∷ []) ≡ names_of before ++ symbol_name names r.lhs ∷ [] =
          names_of-rule before n (symbol_name names r.lhs) r.weight (named names r.body) ∙ ap (λ b. cond b (names_of before) (names_of before ++ symbol_name names r.lhs ∷ [])) new in
          let P : ℕ → Type 0 = λ k. AppearInOrder k (map (λ r. r.lhs) rules) (length names) in
          let named_so : names_of before ++ symbol_name names (length (names_of before)) ∷ [] ≡ names_of (before ++ line_of n r ∷ []) =
          ap (λ symbol. names_of before ++ symbol_name names symbol ∷ []) (sym is) ∙ sym after in
          record {
            free = rw (room, new, few) refl;
            front = subst IsFront named_so (longer_front (names_of before) front (omega (arith, is, within)));
            order = subst P (sym (length-append (names_of before) (symbol_name names r.lhs ∷ [])) ∙ ap length (sym after)) rest;
          }
      at false e rest =
          let within : r.lhs < length (names_of before) = grind (arith, nat_tests, e, order.0) in
          let old = old_name (names_of before) r.lhs front within in
          let after : names_of (before ++ line_of n r ∷ []) ≡ names_of before =
          names_of-rule before n (symbol_name names r.lhs) r.weight (named names r.body) ∙ ap (λ b. cond b (names_of before) (names_of before ++ symbol_name names r.lhs ∷ [])) old in
          let P : ℕ → Type 0 = λ k. AppearInOrder k (map (λ r. r.lhs) rules) (length names) in
          record { free = rw (room, old) refl; front = subst IsFront (sym after) front; order = subst P (ap length (sym after)) rest }

  abbrev pub IsRule : Rule → Type 0
  IsRule r = (r.lhs < length names) × (r.weight ≤ 1000000) × IsBody version (length names) r.body

  pub read_rules : (before : List Spoken) (n : ℕ) (rules : List Rule) → IsFront (names_of before) → length (filter is_rule before) + length rules ≤ 512
      → AppearInOrder (length (names_of before)) (map (λ r. r.lhs) rules) (length names) → AllByRecursion IsRule rules
      → (in_turn (spoken_after version) before (lines_from n (map (rule_words names) rules)) ≡ Ok (before ++ rules_spoken names n rules))
      × (names_of (before ++ rules_spoken names n rules) ≡ names)
  read_rules before n [] front few order are =
      (ap Ok (sym (append-nil before)), ap names_of (append-nil before) ∙ all_front (names_of before) front order)
  read_rules before n (r ∷ rules) front few order are =
      let said = rule_said version names spelled (symbol_name names r.lhs) r.weight r.body (spelled r.lhs [] are.0.0) are.0.1 are.0.2 in
      let step = next_rule before n r rules front (omega (arith, few)) order in
      let count = filter-append is_rule before (line_of n r ∷ []) in
      let more = read_rules (before ++ line_of n r ∷ []) (n + 1) rules step.front
      (omega (arith, few, ap length count, length-append (filter is_rule before) (line_of n r ∷ []))) step.order are.1 in
      let together = append_assoc before (line_of n r ∷ []) (rules_spoken names (n + 1) rules) in
      (rw (spoken version before n (rule_words names r) (line_of n r).said said step.free) (more.0 ∙ ap Ok together), ap names_of (sym together) ∙ more.1)
