-- The keys of a chord, written one after another with a space between two.
use Rattle.std.proofs.Common.{◌≡◌, ℕ, ◌+◌, ◌<◌, List, [], ◌∷◌, ◌++◌, length, map, refl, sym, ap, ap₂, ◌∙◌, arith}
use Rattle.std.specs.List.{join_with_byte}
use Rattle.std.proofs.lemmas.List.{append-nil, append_assoc, length-append, length-map, length_push, map_push}
use Rattle.score_words.specs.Keys.{rising_keys}
use Rattle.score_words.specs.Separators.{separator_text}
use Rattle.score_words.proofs.KeyBits.{rising_few}
use Rattle.score_words.proofs.Separators.{join_push}

-- so many keys of a set are written after a text, and these are left
pub record AreKeysWritten (note : ℕ → List ℕ) (keys : ℕ) (start text : List ℕ) (number : ℕ) (left : List ℕ) : Type 0 where
  pub done : List ℕ
  pub all : done ++ left ≡ rising_keys keys
  pub count : number ≡ length done
  pub written : text ≡ start ++ join_with_byte 32 (map note done)

pub none_written : (note : ℕ → List ℕ) (keys : ℕ) (start left : List ℕ) → left ≡ rising_keys keys → AreKeysWritten note keys start start 0 left
none_written note keys start left is = record { done = []; all = is; count = refl; written = sym (append-nil start) }

-- one key more
pub key_written : (note : ℕ → List ℕ) (keys : ℕ) (start text middle new : List ℕ) (number key : ℕ) (left rest : List ℕ) → AreKeysWritten note keys start text number left
    → left ≡ key ∷ rest → middle ≡ text ++ separator_text 32 number → new ≡ middle ++ note key → AreKeysWritten note keys start new (number + 1) rest
key_written note keys start text middle new number key left rest h is separator last = record {
  done = h.done ++ key ∷ [];
  all = append_assoc h.done (key ∷ []) rest ∙ ap (λ ks. h.done ++ ks) (sym is) ∙ h.all;
  count = ap (λ n. n + 1) h.count ∙ sym (length_push h.done key);
  written =
      let chord = join_with_byte 32 (map note h.done) in
      let between = separator_text 32 (length h.done) in
      let pushed : join_with_byte 32 (map note (h.done ++ key ∷ [])) ≡ chord ++ (between ++ note key) =
      ap (join_with_byte 32) (map_push note h.done key) ∙ join_push 32 (map note h.done) (note key)
      ∙ ap (λ n. chord ++ separator_text 32 n ++ note key) (length-map h.done note) ∙ append_assoc chord between (note key) in
      last ∙ ap (λ t. t ++ note key) (separator ∙ ap₂ (λ t n. t ++ separator_text 32 n) h.written h.count)
      ∙ append_assoc (start ++ chord) between (note key) ∙ append_assoc start chord (between ++ note key) ∙ ap (λ t. start ++ t) (sym pushed);
}

-- there is room for the number of one key more
pub few_written : (note : ℕ → List ℕ) (keys : ℕ) (start text : List ℕ) (number key : ℕ) (left rest : List ℕ) → AreKeysWritten note keys start text number left
    → left ≡ key ∷ rest → number < 128
few_written note keys start text number key left rest h is =
    let few = rising_few keys in
    let whole : length h.done + length left ≡ length (rising_keys keys) = sym (length-append h.done left) ∙ ap length h.all in
    let one = ap length is in
    omega (arith, few, whole, one, h.count)

-- none is left
pub all_written : (note : ℕ → List ℕ) (keys : ℕ) (start text : List ℕ) (number : ℕ) (left : List ℕ) → AreKeysWritten note keys start text number left → left ≡ []
    → text ≡ start ++ join_with_byte 32 (map note (rising_keys keys))
all_written note keys start text number left h none =
    let all : h.done ≡ rising_keys keys = sym (append-nil h.done) ∙ ap (λ ks. h.done ++ ks) (sym none) ∙ h.all in
    h.written ∙ ap (λ ks. start ++ join_with_byte 32 (map note ks)) all

-- and so many keys they are
pub all_counted : (note : ℕ → List ℕ) (keys : ℕ) (start text : List ℕ) (number : ℕ) (left : List ℕ) → AreKeysWritten note keys start text number left → left ≡ []
    → number ≡ length (rising_keys keys)
all_counted note keys start text number left h none =
    h.count ∙ ap length (sym (append-nil h.done) ∙ ap (λ ks. h.done ++ ks) (sym none) ∙ h.all)
