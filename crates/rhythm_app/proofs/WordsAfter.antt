-- A word has words after it where, and only where, it is that of a command.
use Rattle.std.proofs.Common.{ℕ, List, [], ◌∷◌, ◌++◌, codes, map, nat_eq, Bool, true, false, if◌then◌else◌, Some, None, IsSome, ◌≡◌, ◌↔◌, refl}
use Rattle.std.specs.Cmp.Lexicographic.{pointwise}
use Rattle.performance_prepare.specs.Laws.{no_options}
use Rattle.rhythm_app.specs.Asked.{Call, IsCommandWord, at_word, calls, form_call, forms, other_calls, words_after}
use Rattle.rhythm_app.specs.declared.request.Form.{Form}

-- by each call something is asked for by some words
abbrev HaveWords : List Call → Type 0
HaveWords [] = Unit {0}
HaveWords (c ∷ more) = ((words : List (List ℕ)) × IsSome (c.asked no_options None words)) × HaveWords more

others_have_words : HaveWords other_calls
others_have_words = (([] ∷ [] ∷ [], refl), (([] ∷ [] ∷ [], refl), (([] ∷ [] ∷ codes "0" ∷ codes "0" ∷ codes "0" ∷ codes "1" ∷ [], refl), (([] ∷ [] ∷ [], refl), ((codes "1" ∷ [] ∷ [] ∷ [], refl), (([] ∷ [], refl), (([] ∷ [], refl), ((codes "0" ∷ codes "1" ∷ [], refl), ((codes "0" ∷ [] ∷ [], refl), tt)))))))))

forms_have_words : (named : List (List ℕ × Form)) → HaveWords (map form_call named ++ other_calls)
forms_have_words [] = others_have_words
forms_have_words (n ∷ named) = (([] ∷ [] ∷ [], refl), forms_have_words named)

calls_have_words : HaveWords calls
calls_have_words = forms_have_words forms

none_is_some : false ≡ true → ⊥
none_is_some e = cc

asked_at : (word : List ℕ) (cs : List Call) → HaveWords cs → IsSome (at_word (λ c. Some c.after) word cs) → (words : List (List ℕ)) × IsSome (at_word (λ c. c.asked no_options None words) word cs)
asked_at word [] have some = absurd (none_is_some some)
asked_at word (c ∷ cs) have some = at (pointwise nat_eq word c.word) (asked_at word cs have.1) some
  where
    at : (b : Bool) → (IsSome (at_word (λ x. Some x.after) word cs) → (words : List (List ℕ)) × IsSome (at_word (λ x. x.asked no_options None words) word cs))
        → IsSome (if b then Some c.after else at_word (λ x. Some x.after) word cs) → (words : List (List ℕ)) × IsSome (if b then c.asked no_options None words else at_word (λ x. x.asked no_options None words) word cs)
    at true later h = have.0
    at false later h = later h

named_at : (word : List ℕ) (words : List (List ℕ)) (cs : List Call) → IsSome (at_word (λ c. c.asked no_options None words) word cs) → IsSome (at_word (λ c. Some c.after) word cs)
named_at word words [] some = some
named_at word words (c ∷ cs) some = at (pointwise nat_eq word c.word) (named_at word words cs) some
  where
    at : (b : Bool) → (IsSome (at_word (λ x. x.asked no_options None words) word cs) → IsSome (at_word (λ x. Some x.after) word cs))
        → IsSome (if b then c.asked no_options None words else at_word (λ x. x.asked no_options None words) word cs) → IsSome (if b then Some c.after else at_word (λ x. Some x.after) word cs)
    at true later h = refl
    at false later h = later h

some_after : (word : List ℕ) → IsSome (words_after word) ↔ IsCommandWord word
some_after word = (asked_at word calls calls_have_words, λ known. named_at word known.0 calls known.1)

-- where there are words after it, both sides hold
pub known_word : (word : List ℕ) → IsSome (words_after word) → (true ≡ true) ↔ IsCommandWord word
known_word word some = (λ _. (some_after word).0 some, λ _. refl)
