-- The line of an alternative in the pieces that it is written in.
use Rattle.std.proofs.Common.{◌≡◌, ℕ, List, [], ◌∷◌, ◌++◌, length, map, refl, sym, ap, ap₂, ◌∙◌, subst, append_assoc, Result}
use Rattle.std.proofs.lemmas.List.{length-map}
use Rattle.std.specs.Prelude.{Option, codes}
use Rattle.std.specs.List.{flat_map, join_with_byte}
use Rattle.edit_script.specs.Replies.{reply_line}
use Rattle.rhythm_ports.specs.declared.sink.Partial.{Partial}
use Rattle.edit_script.specs.Gathered.{Gathered}
use Rattle.edit_script.specs.Sending.{Sent, SentPart}
use Rattle.edit_script.proofs.SendingLemmas.{SentPart-first, SentPart-more, Written, writes_after}

module _ (total shape rules : List ℕ) where
  abbrev front : List ℕ
  front = join_with_byte 32 (codes "alt" ∷ total ∷ shape ∷ [])

  abbrev line : List ℕ
  line = reply_line (codes "alt" ∷ total ∷ shape ∷ rules ∷ [])

  pieces : front ++ (codes " " ++ (rules ++ codes "\n")) ≡ line
  pieces =
      ap (λ l. codes "alt" ++ (32 ∷ l))
      (append_assoc total (32 ∷ shape) (32 ∷ (rules ++ codes "\n"))
      ∙ ap (λ l. total ++ (32 ∷ l)) (sym (append_assoc shape (32 ∷ rules) (codes "\n")))
      ∙ sym (append_assoc total (32 ∷ (shape ++ (32 ∷ rules))) (codes "\n")))

  pub cut_front : (a b : Option (List ℕ)) (i : Gathered) (s : ℕ) → SentPart a b i s front → SentPart a b i s line
  cut_front a b i s p = subst (SentPart a b i s) pieces (SentPart-first a b i s front _ p)

  pub cut_space : (a b c : Option (List ℕ)) (i j : Gathered) (s : ℕ) → Sent a b i j front → SentPart b c j s (codes " ") → SentPart a c i s line
  cut_space a b c i j s p q = subst (SentPart a c i s) pieces (SentPart-more a b c i j s front _ p (SentPart-first b c j s (codes " ") _ q))

  pub cut_rules : (a b c d : Option (List ℕ)) (i j k : Gathered) (s : ℕ) → Sent a b i j front → Sent b c j k (codes " ") → SentPart c d k s rules → SentPart a d i s line
  cut_rules a b c d i j k s p q r =
      subst (SentPart a d i s) pieces
      (SentPart-more a b d i j s front _ p (SentPart-more b c d j k s (codes " ") _ q (SentPart-first c d k s rules _ r)))

  -- all but the newline was written
  pub sent_front : (a b c d : Option (List ℕ)) (i j k l : Gathered) → Sent a b i j front → Sent b c j k (codes " ") → Sent c d k l rules
      → {T : Type 0} (e : Option (List ℕ)) (m : Gathered) (r : Result T Partial) → Written d e l m (codes "\n") r → Written a e i m line r
  sent_front a b c d i j k l p q r e m result last =
      subst (λ (t : List ℕ). Written a e i m t result) pieces
      (writes_after a b e i j m front (codes " " ++ (rules ++ codes "\n")) result p (writes_after b c e j k m (codes " ") (rules ++ codes "\n") result q
      (writes_after c d e k l m rules (codes "\n") result r last)))

module _ {X Y : Type 0} (f : Y → List ℕ) (g : X → Y) (head : ℕ → List ℕ) where
  -- the number of elements of a list and their texts
  pub counted_texts : (xs : List X) → head (length xs) ++ flat_map (λ x. f (g x)) xs ≡ head (length (map g xs)) ++ flat_map f (map g xs)
  counted_texts xs = ap₂ (λ n t. head n ++ t) (sym (length-map xs g)) (each xs)
    where
      each : (xs : List X) → flat_map (λ x. f (g x)) xs ≡ flat_map f (map g xs)
      each [] = refl
      each (x ∷ xs) = ap (λ l. f (g x) ++ l) (each xs)
