-- The keys of a chord, listed one after another.
use Rattle.std.proofs.Common.{◌≡◌, ℕ, Bool, true, false, List, [], ◌∷◌, ◌++◌, refl, sym, ap, ◌∙◌, append-nil, append_assoc}
use Rattle.kern_reader.specs.EventText.{event_key, listed_on}

listed_next : (first : Bool) (key : ℕ) (keys : List ℕ) → listed_on first (key ∷ keys) ≡ event_key first key ++ listed_on false keys
listed_next true key keys = refl
listed_next false key keys = refl

no_key : (first : Bool) → listed_on first [] ≡ []
no_key true = refl
no_key false = refl

-- a text goes on with the keys that are left, after one of them too
pub key_listed : (first : Bool) (key : ℕ) (left rest text new whole : List ℕ) → left ≡ key ∷ rest → text ++ listed_on first left ≡ whole
    → new ≡ text ++ event_key first key → new ++ listed_on false rest ≡ whole
key_listed first key left rest text new whole is so_far pushed =
    ap (λ t. t ++ listed_on false rest) pushed ∙ append_assoc text (event_key first key) (listed_on false rest)
    ∙ ap (λ t. text ++ t) (sym (listed_next first key rest)) ∙ ap (λ ks. text ++ listed_on first ks) (sym is) ∙ so_far

-- and where none is left it is whole
pub all_listed : (first : Bool) (left text whole : List ℕ) → left ≡ [] → text ++ listed_on first left ≡ whole → text ≡ whole
all_listed first left text whole none so_far =
    sym (append-nil text) ∙ ap (λ t. text ++ t) (sym (no_key first)) ∙ ap (λ ks. text ++ listed_on first ks) (sym none) ∙ so_far
