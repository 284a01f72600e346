-- The tokens of a line, one after another.
use Rattle.std.proofs.Common.{◌≡◌, ℕ, List, [], ◌∷◌, ◌++◌, Option, Some, None, refl, sym, ap, append_assoc, append-nil}
use Rattle.std.specs.Option.{option_map}
use Rattle.kern_reader.specs.declared.token.Token.{Token}
use Rattle.kern_reader.specs.Tokens.{all_tokens, token_of}

-- these tokens, and those of the texts after them
abbrev pub tokens_on : List Token → List (List ℕ) → Option (List Token)
tokens_on ts texts = option_map (λ more. ts ++ more) (all_tokens texts)

pub tokens_begin : (texts : List (List ℕ)) → tokens_on [] texts ≡ all_tokens texts
tokens_begin texts = at (all_tokens texts)
  where
    at : (o : Option (List Token)) → option_map (λ more. [] ++ more) o ≡ o
    at None = refl
    at (Some ts) = refl

pub tokens_stop : (ts : List Token) (first : List ℕ) (rest : List (List ℕ)) → token_of first ≡ None → None ≡ tokens_on ts (first ∷ rest)
tokens_stop ts first rest none = rw none refl

pub tokens_go : (ts : List Token) (first : List ℕ) (rest : List (List ℕ)) (t : Token) → token_of first ≡ Some t → tokens_on (ts ++ (t ∷ [])) rest ≡ tokens_on ts (first ∷ rest)
tokens_go ts first rest t some = rw some (at (all_tokens rest))
  where
    at : (o : Option (List Token)) → option_map (λ more. (ts ++ (t ∷ [])) ++ more) o ≡ option_map (λ more. ts ++ more) (option_map (λ more. t ∷ more) o)
    at None = refl
    at (Some more) = ap Some (append_assoc ts (t ∷ []) more)

pub tokens_end : (ts : List Token) → Some ts ≡ tokens_on ts []
tokens_end ts = ap Some (sym (append-nil ts))
