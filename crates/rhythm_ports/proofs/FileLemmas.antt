-- Where the file of a name stands, and what a put does to it.
use Rattle.std.proofs.Common.{◌≡◌, ◌≢◌, ℕ, suc, ◌+◌, ◌<◌, Bool, true, false, cond, nat_lt, List, [], ◌∷◌, ◌++◌, length}
use Rattle.std.proofs.Common.{Some, None, Option, is_some, unwrap_or, slice_get, slice_set, slice_index_or, refl, sym, ap, subst, arith, ◌∙◌}
use Rattle.std.proofs.lemmas.Bool.Decides.{nat_tests}
use Rattle.std.proofs.lemmas.Slice.Eq.{bytes_eq-Decides}
use Rattle.std.specs.Bool.{if◌then◌else◌}
use Rattle.std.specs.List.{position, position_or_len}
use Rattle.std.specs.Option.{option_map}
use Rattle.rhythm_ports.specs.Files.{File, PutsFile, has_name, file_of, put_file}
use Rattle.rhythm_ports.specs.Stock.{Stock, bytes_of, rest_at}

-- ---- the first place that passes, by the first element

abbrev below : ℕ → ℕ → Option ℕ
below n m = cond (nat_lt n m) (Some n) None

abbrev later : Option ℕ → Option ℕ
later o = option_map (λ i. suc i) o

below-zero : (m : ℕ) → below 0 (suc m) ≡ Some 0
below-zero m = grind (arith, nat_tests)

below-suc : (n m : ℕ) → below (1 + n) (suc m) ≡ later (below n m)
below-suc n m = go (nat_lt n m) refl where
  go : (b : Bool) → nat_lt n m ≡ b → below (1 + n) (suc m) ≡ later (cond b (Some n) None)
  go true e = grind (arith, nat_tests)
  go false e = grind (arith, nat_tests)

position-cons : {X : Type 0} (p : X → Bool) (x : X) (xs : List X)
    → position p (x ∷ xs) ≡ cond (p x) (Some 0) (later (position p xs))
position-cons p x xs = go (p x) refl where
  go : (b : Bool) → p x ≡ b → position p (x ∷ xs) ≡ cond b (Some 0) (later (position p xs))
  go true e = rw e (below-zero (length xs))
  go false e = rw e (below-suc (position_or_len p xs) (length xs))

-- ---- what the place of the file of a name says

abbrev pub Placed : List ℕ → List File → Option ℕ → Type 0
Placed name fs None = (file_of fs name ≡ None)
    × ((bytes : List ℕ) → put_file fs name bytes ≡ fs ++ record { name = name; bytes = bytes } ∷ [])
Placed name fs (Some i) = (i < length fs)
    × (file_of fs name ≡ Some (bytes_of (slice_get fs i)))
    × ((bytes : List ℕ) (d : File) → put_file fs name bytes ≡ slice_set fs i (record (slice_index_or fs i d) { bytes = bytes }))

placed_first : (name : List ℕ) (f : File) (fs : List File) → has_name name f ≡ true → Placed name (f ∷ fs) (Some 0)
placed_first name f fs e = (omega arith, rw e refl, λ bytes d. rw e refl)

placed_later : (name : List ℕ) (f : File) (fs : List File) → has_name name f ≡ false
    → (o : Option ℕ) → Placed name fs o → Placed name (f ∷ fs) (later o)
placed_later name f fs e None h = (rw e h.0, λ bytes. rw e (ap (λ gs. f ∷ gs) (h.1 bytes)))
placed_later name f fs e (Some i) h = (omega (arith, h.0), rw e h.1, λ bytes d. rw e (ap (λ gs. f ∷ gs) (h.2 bytes d)))

placed : (name : List ℕ) (fs : List File) → Placed name fs (position (has_name name) fs)
placed name [] = (refl, λ bytes. refl)
placed name (f ∷ fs) = rw position-cons (go (placed name fs) (has_name name f) refl) where
  go : Placed name fs (position (has_name name) fs) → (b : Bool) → has_name name f ≡ b
      → Placed name (f ∷ fs) (cond b (Some 0) (later (position (has_name name) fs)))
  go h true e = placed_first name f fs e
  go h false e = placed_later name f fs e (position (has_name name) fs) h

-- the same of a place that was found among files that were seen
placed_at : (name : List ℕ) (fs seen : List File) (o found : Option ℕ) → seen ≡ fs → o ≡ position (has_name name) seen
    → o ≡ found → Placed name fs found
placed_at name fs seen o found same e is =
    subst (Placed name fs) (sym (e ∙ ap (position (has_name name)) same) ∙ is) (placed name fs)

-- ---- what follows for an open and a put

opened : (name : List ℕ) (fs : List File) (o : Option ℕ) → Placed name fs o
    → (is_some o ≡ is_some (file_of fs name)) × (rest_at fs o 0 ≡ unwrap_or (file_of fs name) [])
opened name fs None h = (rw h.0 refl, rw h.0 refl)
opened name fs (Some i) h = (rw h.1 refl, rw h.1 refl)

-- the file of the name is chosen, if there is one
pub stock_opened : (name : List ℕ) (old : Stock) (fs seen : List File) (o : Option ℕ) → fs ≡ old.files
    → seen ≡ fs → o ≡ position (has_name name) seen
    → (is_some o ≡ is_some (file_of old.files name))
    × ◌≡◌ {A = Stock} (record { files = fs; rest = rest_at fs o 0 }) (record old { rest = unwrap_or (file_of old.files name) [] })
stock_opened name old fs seen o held same e =
    let h = opened name fs o (placed_at name fs seen o o same e refl) in
    let with_rest = λ (xs : List ℕ). let s : Stock = record { files = fs; rest = xs } in s in
    let P : List File → Type 0 = λ gs. (is_some o ≡ is_some (file_of gs name))
    × (with_rest (rest_at fs o 0) ≡ record { files = gs; rest = unwrap_or (file_of gs name) [] }) in
    subst P held (h.0, ap with_rest h.1)

-- a name whose file has no place is new
pub put_file-absent : (name : List ℕ) (fs : List File) (bytes : List ℕ) (seen : List File) (o : Option ℕ)
    → seen ≡ fs → o ≡ position (has_name name) seen → o ≡ None
    → (file_of fs name ≡ None) × (put_file fs name bytes ≡ fs ++ record { name = name; bytes = bytes } ∷ [])
put_file-absent name fs bytes seen o same e none = let h = placed_at name fs seen o None same e none in (h.0, h.1 bytes)

-- a file that has the name keeps its place
pub put_file-at : (name : List ℕ) (fs : List File) (bytes : List ℕ) (seen : List File) (o : Option ℕ) (i : ℕ) (d : File)
    → seen ≡ fs → o ≡ position (has_name name) seen → o ≡ Some i → d ≡ slice_index_or fs i d
    → put_file fs name bytes ≡ slice_set fs i (record d { bytes = bytes })
put_file-at name fs bytes seen o i d same e some here =
    let h = placed_at name fs seen o (Some i) same e some in
    h.2 bytes d ∙ ap (λ (f : File). slice_set fs i (record f { bytes = bytes })) (sym here)

-- ---- what the files of the names are after a put

file_of-put_file : (fs : List File) (name bytes : List ℕ) → file_of (put_file fs name bytes) name ≡ Some bytes
file_of-put_file [] name bytes = rw ((bytes_eq-Decides name name).1 refl) refl
file_of-put_file (f ∷ fs) name bytes = go (file_of-put_file fs name bytes) (has_name name f) refl where
  go : file_of (put_file fs name bytes) name ≡ Some bytes → (b : Bool) → has_name name f ≡ b
      → file_of (put_file (f ∷ fs) name bytes) name ≡ Some bytes
  go h true e = rw (e, e) refl
  go h false e = rw (e, e) h

-- two names are not the name of one file
not_both : (f : File) (name other : List ℕ) → other ≢ name → has_name name f ≡ true → has_name other f ≡ false
not_both f name other ne e = go (has_name other f) refl where
  go : (b : Bool) → has_name other f ≡ b → has_name other f ≡ false
  go true h = absurd (ne (sym ((bytes_eq-Decides f.name other).0 h) ∙ (bytes_eq-Decides f.name name).0 e))
  go false h = h

file_of-put_file-other : (fs : List File) (name bytes other : List ℕ) → other ≢ name
    → file_of (put_file fs name bytes) other ≡ file_of fs other
file_of-put_file-other [] name bytes other ne =
    rw (not_both (record { name = name; bytes = bytes }) name other ne ((bytes_eq-Decides name name).1 refl)) refl
file_of-put_file-other (f ∷ fs) name bytes other ne = go (file_of-put_file-other fs name bytes other ne) (has_name name f) refl where
  go : file_of (put_file fs name bytes) other ≡ file_of fs other → (b : Bool) → has_name name f ≡ b
      → file_of (put_file (f ∷ fs) name bytes) other ≡ file_of (f ∷ fs) other
  go h true e = let no = not_both f name other ne e in rw (e, no) refl
  go h false e = rw e (ap (λ (o : Option (List ℕ)). if has_name other f then Some f.bytes else o) h)

pub PutsFile-put_file : (old new : List File) (name bytes : List ℕ) → new ≡ put_file old name bytes → PutsFile old new name bytes
PutsFile-put_file old new name bytes e = record {
  files = e;
  named = rw e (file_of-put_file old name bytes);
  others = λ other ne. rw e (file_of-put_file-other old name bytes other ne);
}
