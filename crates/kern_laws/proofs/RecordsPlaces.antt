-- What the records at a place of a bar say.
use Rattle.std.proofs.Common.{◌≡◌, ℕ, zero, suc, ◌-◌, ◌==◌, Bool, true, false, cond, List, [], ◌∷◌, length, get_or, map, refl, ap, ◌∙◌, subst, arith}
use Rattle.std.specs.Prelude.{IsSome, Option, Some, None, ⊤, codes, fold, if◌then◌else◌, max, nat_lt}
use Rattle.std.proofs.lemmas.Bool.{ltb-false}
use Rattle.std.proofs.lemmas.List.{length-map}
use Rattle.rhythm_base.specs.Lists.{Each}
use Rattle.kern_writer.specs.Records.{ArePlaces, grace_column, grace_record, grace_records, grace_records_at, grace_tokens, main_column, main_record, records_at, token_at}
use Rattle.kern_writer.specs.Tokens.{Token}
use Rattle.derivation.proofs.Pairs.{each_length}
use Rattle.kern_reader.specs.declared.token.Token.TheVariants as reads
use Rattle.kern_laws.proofs.ScoreLines.{AreSaidPlaces, Said, grace_line, grace_lines, grace_lines_at, grace_or_null, graces_or_none, lines_at, main_line, main_or_null, said_at}
use Rattle.kern_laws.proofs.RecordsLines.{SaysInside, data_says}
use Rattle.kern_laws.proofs.RecordsPairs.{each_at, each_map, each_turned, partner}
use Rattle.kern_laws.proofs.RecordsVoices.{SaysGrace, SaysSame}
use Rattle.kern_laws.proofs.TokenTexts.{SaysToken, null_said}
use Rattle.rhythm_base.proofs.PairedLists.{each_append}

-- ---- the token of a voice at a place, and what the voice says there

abbrev SayThere : Option Token → Option Said → Type 0
SayThere None None = ⊤
SayThere None (Some x) = ⊥
SayThere (Some t) None = ⊥
SayThere (Some t) (Some x) = SaysSame t x

one_there : (b : Bool) (t : Token) (x : Said) (o : Option Token) (p : Option Said) → SaysSame t x → SayThere o p
    → SayThere (cond b (Some t) o) (cond b (Some x) p)
one_there true t x o p same rest = same
one_there false t x o p same rest = rest

there : (place : ℕ) (tokens : List Token) (saids : List Said) → Each SaysSame tokens saids → SayThere (token_at place tokens) (said_at place saids)
there place [] [] h = tt
there place [] (x ∷ saids) h = cc
there place (t ∷ tokens) [] h = absurd h
there place (t ∷ tokens) (x ∷ saids) h =
    subst (λ q. SayThere (token_at place (t ∷ tokens)) (cond (q == place) (Some x) (said_at place saids))) h.0.place
    (one_there (t.place == place) t x (token_at place tokens) (said_at place saids) h.0 (there place tokens saids h.1))

main_there : (o : Option Token) (p : Option Said) → SayThere o p → SaysToken (main_column o) (main_or_null p)
main_there None None h = null_said
main_there None (Some x) h = absurd h
main_there (Some t) None h = absurd h
main_there (Some t) (Some x) h = h.main

graces_there : (o : Option Token) (p : Option Said) → SayThere o p → Each SaysGrace (grace_tokens o) (graces_or_none p)
graces_there None None h = refl
graces_there None (Some x) h = absurd h
graces_there (Some t) None h = absurd h
graces_there (Some t) (Some x) h = h.graces

-- ---- the main record

abbrev pub BarSays : List (List Token) → List (List Said) → Type 0
BarSays tokens saids = Each (Each SaysSame) tokens saids

main_says : (m place : ℕ) (tokens : List (List Token)) (saids : List (List Said)) → BarSays tokens saids → length tokens ≡ suc m
    → SaysInside (suc m) (main_record place tokens) (main_line place saids)
main_says m place tokens saids h count =
    data_says m (main_record place tokens) (map (λ xs. main_or_null (said_at place xs)) saids)
    (each_map (Each SaysSame) SaysToken (λ ts. main_column (token_at place ts)) (λ xs. main_or_null (said_at place xs)) tokens saids
    (λ ts xs k. main_there (token_at place ts) (said_at place xs) (there place ts xs k)) h)
    (length-map tokens (λ ts. main_column (token_at place ts)) ∙ count)

-- ---- the grace records

grace_there : (left : ℕ) (texts : List (List ℕ)) (graces : List ℕ) → Each SaysGrace texts graces
    → SaysToken (grace_column (suc left) texts) (grace_or_null (suc left) graces)
grace_there left texts graces h =
    subst (λ n. SaysToken (grace_column (suc left) texts) (if nat_lt n (suc left) then reads.Null else reads.Grace (get_or graces (n - suc left) 0)))
    (each_length SaysGrace texts graces h)
    (at (nat_lt (length texts) (suc left)) refl)
  where
    at : (b : Bool) → nat_lt (length texts) (suc left) ≡ b
        → SaysToken (if b then codes "." else get_or texts (length texts - suc left) [])
        (if b then reads.Null else reads.Grace (get_or graces (length texts - suc left) 0))
    at true e = null_said
    at false e =
        let few = ltb-false (length texts) (suc left) e in each_at SaysGrace texts graces (length texts - suc left) [] 0 h (omega (arith, few))

grace_says : (m place left : ℕ) (tokens : List (List Token)) (saids : List (List Said)) → BarSays tokens saids → length tokens ≡ suc m
    → SaysInside (suc m) (grace_record place tokens (suc left)) (grace_line place saids (suc left))
grace_says m place left tokens saids h count =
    let text : List Token → List ℕ = λ ts. grace_column (suc left) (grace_tokens (token_at place ts)) in
    data_says m (grace_record place tokens (suc left)) (map (λ xs. grace_or_null (suc left) (graces_or_none (said_at place xs))) saids)
    (each_map (Each SaysSame) SaysToken text (λ xs. grace_or_null (suc left) (graces_or_none (said_at place xs))) tokens saids
    (λ ts xs k. grace_there left (grace_tokens (token_at place ts)) (graces_or_none (said_at place xs))
    (graces_there (token_at place ts) (said_at place xs) (there place ts xs k))) h)
    (length-map tokens text ∙ count)

graces_say : (m place n : ℕ) (tokens : List (List Token)) (saids : List (List Said)) → BarSays tokens saids → length tokens ≡ suc m
    → Each (SaysInside (suc m)) (grace_records place tokens n) (grace_lines place saids n)
graces_say m place zero tokens saids h count = refl
graces_say m place (suc n) tokens saids h count = (grace_says m place n tokens saids h count, graces_say m place n tokens saids h count)

grace_count : (place n : ℕ) (tokens : List (List Token)) (saids : List (List Said)) → BarSays tokens saids
    → fold (λ n ts. max n (length (grace_tokens (token_at place ts)))) n tokens ≡ fold
    (λ n xs. max n (length (graces_or_none (said_at place xs)))) n saids
grace_count place n [] [] h = refl
grace_count place n [] (xs ∷ saids) h = cc
grace_count place n (ts ∷ tokens) [] h = absurd h
grace_count place n (ts ∷ tokens) (xs ∷ saids) h =
    let graces = graces_there (token_at place ts) (said_at place xs) (there place ts xs h.0) in
    grace_count place (max n (length (grace_tokens (token_at place ts)))) tokens saids h.1
    ∙ ap (λ k. fold (λ n xs. max n (length (graces_or_none (said_at place xs)))) (max n k) saids)
    (each_length SaysGrace (grace_tokens (token_at place ts)) (graces_or_none (said_at place xs)) graces)

-- ---- all records at a place

pub place_says : (m place : ℕ) (tokens : List (List Token)) (saids : List (List Said)) → BarSays tokens saids → length tokens ≡ suc m
    → Each (SaysInside (suc m)) (records_at tokens place) (lines_at saids place)
place_says m place tokens saids h count =
    let n = grace_records_at place tokens in
    let graces : Each (SaysInside (suc m)) (grace_records place tokens n) (grace_lines place saids (grace_lines_at place saids)) =
    subst (λ k. Each (SaysInside (suc m)) (grace_records place tokens n) (grace_lines place saids k)) (grace_count place 0 tokens saids h)
    (graces_say m place n tokens saids h count) in
    each_append (SaysInside (suc m)) (grace_records place tokens n) (main_record place tokens ∷ [])
    (grace_lines place saids (grace_lines_at place saids)) (main_line place saids ∷ []) graces
    (main_says m place tokens saids h count, refl)

-- ---- the places

some_said : (o : Option Token) (p : Option Said) → SayThere o p → IsSome o → IsSome p
some_said None None h some = some
some_said None (Some x) h some = absurd h
some_said (Some t) None h some = absurd h
some_said (Some t) (Some x) h some = some

some_token : (o : Option Token) (p : Option Said) → SayThere o p → IsSome p → IsSome o
some_token None None h some = some
some_token None (Some x) h some = absurd h
some_token (Some t) None h some = absurd h
some_token (Some t) (Some x) h some = some

pub same_places : (tokens : List (List Token)) (saids : List (List Said)) (places : List ℕ) → BarSays tokens saids → ArePlaces tokens places
    → AreSaidPlaces saids places
same_places tokens saids places h are = record {
  rise = are.rise;
  exactly = λ place. (
    λ c. partner (Each SaysSame) (λ ts. IsSome (token_at place ts)) (λ xs. IsSome (said_at place xs)) tokens saids
        (λ ts xs k. some_said (token_at place ts) (said_at place xs) (there place ts xs k)) h ((are.exactly place).0 c),
    λ c. (are.exactly place).1 (partner (λ xs ts. Each SaysSame ts xs) (λ xs. IsSome (said_at place xs)) (λ ts. IsSome (token_at place ts)) saids tokens
        (λ xs ts k. some_token (token_at place ts) (said_at place xs) (there place ts xs k)) (each_turned (Each SaysSame) tokens saids h) c),
  );
}
