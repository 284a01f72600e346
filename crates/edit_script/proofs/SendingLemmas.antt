-- Texts that are written piece by piece.
use Rattle.std.proofs.Common.{◌≡◌, ℕ, zero, suc, ◌+◌, ◌<◌, ◌≤◌, ◌-◌, List, [], ◌∷◌, ◌++◌, length, take, drop, get_or, map, Result, Ok, Err, IfErr, true, false, refl, sym, ap, ap₂, ◌∙◌, subst, arith, add-one, append_assoc, append-nil, length-append, take-append-drop}
use Rattle.std.specs.Prelude.{Option, IsErr, IsErrAnd}
use Rattle.std.specs.List.{flat_map, join_with_byte}
use Rattle.std.proofs.lemmas.List.{length-drop, length-take-le, take_all}
use Rattle.std.proofs.Math.Seq.{take-append_seam}
use Rattle.std.specs.Io.KnownBytes.{Appends}
use Rattle.std.proofs.KnownBytes.{Appends-nil, Appends-trans}
use Rattle.rhythm_ports.specs.declared.sink.Partial.{Partial}
use Rattle.edit_script.specs.Gathered.{Gathered}
use Rattle.edit_script.specs.Sending.{HandsOn, Sent, SentPart, TakesPartAfter, Writes, counted}
use Rattle.edit_script.specs.declared.gathered.TheConstants.{MOST_GATHERED}

-- nothing was written
pub Sent-nil : (a : Option (List ℕ)) (i : Gathered) → Sent a a i i []
Sent-nil a i = record { handed = []; taken = Appends-nil a; parts = append-nil i.bytes; count = omega arith; waits = λ few. refl }

-- what was handed on before, and what is written after it
front_parts : (a b u c d e : List ℕ) (t : List ℕ) → a ++ t ≡ b ++ c → c ++ u ≡ d ++ e → a ++ (t ++ u) ≡ (b ++ d) ++ e
front_parts a b u c d e t first next = sym (append_assoc a t u) ∙ ap (λ l. l ++ u) first ∙ append_assoc b c u ∙ ap (λ l. b ++ l) next ∙ sym (append_assoc b d e)

sizes : (a b c t : List ℕ) → a ++ t ≡ b ++ c → length a + length t ≡ length b + length c
sizes a b c t e = sym (length-append a t) ∙ ap length e ∙ length-append b c

pub Sent-trans : (a b c : Option (List ℕ)) (i j k : Gathered) (t u : List ℕ) → Sent a b i j t → Sent b c j k u → Sent a c i k (t ++ u)
Sent-trans a b c i j k t u front next = record {
  handed = front.handed ++ next.handed;
  taken = Appends-trans a b c front.handed next.handed front.taken next.taken;
  parts = front_parts i.bytes front.handed u j.bytes next.handed k.bytes t front.parts next.parts;
  count = let first = front.count in let then = next.count in let size = length-append front.handed next.handed in omega (arith, first, then, size);
  waits = both;
}
  where
    both : length i.bytes + length (t ++ u) ≤ MOST_GATHERED → front.handed ++ next.handed ≡ []
    both few =
        let size = length-append t u in
        let none : front.handed ≡ [] = front.waits (omega (arith, few, size)) in
        let old = sizes i.bytes front.handed j.bytes t front.parts in
        let zero : length front.handed ≡ 0 = ap length none in
        let later : next.handed ≡ [] = next.waits (omega (arith, few, size, old, zero)) in
        ap₂ (λ x y. x ++ y) none later

pub SentPart-first : (a b : Option (List ℕ)) (i : Gathered) (s : ℕ) (t u : List ℕ) → SentPart a b i s t → SentPart a b i s (t ++ u)
SentPart-first a b i s t u p = record {
  handed = p.handed;
  lost = p.lost ++ u;
  taken = p.taken;
  parts = sym (append_assoc i.bytes t u) ∙ ap (λ l. l ++ u) p.parts ∙ append_assoc p.handed p.lost u;
  some = let some = p.some in let size = length-append p.lost u in omega (arith, some, size);
  count = p.count;
  many = let many = p.many in let size = length-append t u in omega (arith, many, size);
}

pub SentPart-more : (a b c : Option (List ℕ)) (i j : Gathered) (s : ℕ) (t u : List ℕ) → Sent a b i j t → SentPart b c j s u → SentPart a c i s (t ++ u)
SentPart-more a b c i j s t u front p = record {
  handed = front.handed ++ p.handed;
  lost = p.lost;
  taken = Appends-trans a b c front.handed p.handed front.taken p.taken;
  parts = front_parts i.bytes front.handed u j.bytes p.handed p.lost t front.parts p.parts;
  some = p.some;
  count = let first = front.count in let then = p.count in let size = length-append front.handed p.handed in omega (arith, first, then, size);
  many = let many = p.many in let size = length-append t u in let old = sizes i.bytes front.handed j.bytes t front.parts in omega (arith, many, size, old);
}

-- ---- a piece

-- it waits
pub Sent-waits : (a : Option (List ℕ)) (i j : Gathered) (t : List ℕ) → j ≡ record i { bytes = i.bytes ++ t } → Sent a a i j t
Sent-waits a i j t is = record {
  handed = [];
  taken = Appends-nil a;
  parts = sym (ap (λ (g : Gathered). g.bytes) is);
  count = let same : j.sent ≡ i.sent = ap (λ (g : Gathered). g.sent) is in omega (arith, same);
  waits = λ few. refl;
}

-- what waited is handed on, and the piece waits
pub Sent-after : (a b : Option (List ℕ)) (i j : Gathered) (t : List ℕ) → MOST_GATHERED < length i.bytes + length t → Appends a b i.bytes
    → j ≡ record { bytes = t; sent = counted i.sent (length i.bytes) } → Sent a b i j t
Sent-after a b i j t many taken is = record {
  handed = i.bytes;
  taken = taken;
  parts = ap (λ l. i.bytes ++ l) (sym (ap (λ (g : Gathered). g.bytes) is));
  count = ap (λ (g : Gathered). g.sent) is;
  waits = λ few. absurd (omega (arith, many, few));
}

-- both are handed on
pub Sent-both : (a b c : Option (List ℕ)) (i j : Gathered) (t : List ℕ) (n : ℕ) → MOST_GATHERED < length i.bytes + length t → Appends a b i.bytes → Appends b c t
    → n ≡ counted i.sent (length i.bytes) → j.sent ≡ counted n (length t) → j.bytes ≡ [] → Sent a c i j t
Sent-both a b c i j t n many first next before count none = record {
  handed = i.bytes ++ t;
  taken = Appends-trans a b c i.bytes t first next;
  parts = sym (append-nil (i.bytes ++ t)) ∙ ap (λ l. (i.bytes ++ t) ++ l) (sym none);
  count = let size = length-append i.bytes t in omega (arith, before, count, size);
  waits = λ few. absurd (omega (arith, many, few));
}

-- the sink failed at what waited
pub part_of_waiting : (a b : Option (List ℕ)) (i : Gathered) (s : ℕ) (t : List ℕ) → MOST_GATHERED < length i.bytes + length t → TakesPartAfter a b i.sent s i.bytes
    → SentPart a b i s t
part_of_waiting a b i s t many (n, within, count, taken) = record {
  handed = take n i.bytes;
  lost = drop n i.bytes ++ t;
  taken = taken;
  parts = ap (λ l. l ++ t) (sym (take-append-drop n i.bytes)) ∙ append_assoc (take n i.bytes) (drop n i.bytes) t;
  some = let left = length-drop n i.bytes in let size = length-append (drop n i.bytes) t in omega (arith, within, left, size);
  count = let front = length-take-le n i.bytes (omega (arith, within)) in omega (arith, count, front);
  many = many;
}

-- the sink took what waited, and failed at the piece
pub part_of_piece : (a b c : Option (List ℕ)) (i : Gathered) (s : ℕ) (t : List ℕ) (m : ℕ) → MOST_GATHERED < length i.bytes + length t → Appends a b i.bytes
    → m ≡ counted i.sent (length i.bytes) → TakesPartAfter b c m s t → SentPart a c i s t
part_of_piece a b c i s t m many first before (n, within, count, taken) = record {
  handed = i.bytes ++ take n t;
  lost = drop n t;
  taken = Appends-trans a b c i.bytes (take n t) first taken;
  parts = ap (λ l. i.bytes ++ l) (sym (take-append-drop n t)) ∙ sym (append_assoc i.bytes (take n t) (drop n t));
  some = let left = length-drop n t in omega (arith, within, left);
  count =
      let front = length-take-le n t (omega (arith, within)) in let size = length-append i.bytes (take n t) in
      omega (arith, before, count, front, size);
  many = many;
}

-- ---- a reply

abbrev start : Gathered
start = record { bytes = []; sent = 0 }

-- what waits at its end is handed on
pub all_sent : (a b c : Option (List ℕ)) (j : Gathered) (t : List ℕ) → Sent a b start j t → Appends b c j.bytes → Appends a c t
all_sent a b c j t sent last = subst (Appends a c) (sym sent.parts) (Appends-trans a b c sent.handed j.bytes sent.taken last)

pub part_sent : (a b : Option (List ℕ)) (s : ℕ) (t : List ℕ) → SentPart a b start s t → TakesPartAfter a b 0 s t
part_sent a b s t p =
    let some = p.some in
    let size : length t ≡ length p.handed + length p.lost = ap length p.parts ∙ length-append p.handed p.lost in
    let front : take (length p.handed) t ≡ p.handed = ap (take (length p.handed)) p.parts ∙ take-append_seam p.handed p.lost in
    (length p.handed, omega (arith, some, size), p.count, subst (Appends a b) (sym front) p.taken)

last_part_sent : (a b c : Option (List ℕ)) (j : Gathered) (s : ℕ) (t : List ℕ) → Sent a b start j t → TakesPartAfter b c j.sent s j.bytes → TakesPartAfter a c 0 s t
last_part_sent a b c j s t sent (n, within, count, taken) = part_of (part_of_last)
  where
    part_of_last : Appends a c (sent.handed ++ take n j.bytes)
    part_of_last = Appends-trans a b c sent.handed (take n j.bytes) sent.taken taken

    whole : t ≡ (sent.handed ++ take n j.bytes) ++ drop n j.bytes
    whole = sent.parts ∙ ap (λ l. sent.handed ++ l) (sym (take-append-drop n j.bytes)) ∙ sym (append_assoc sent.handed (take n j.bytes) (drop n j.bytes))

    part_of : Appends a c (sent.handed ++ take n j.bytes) → TakesPartAfter a c 0 s t
    part_of both =
        let front : List ℕ = sent.handed ++ take n j.bytes in
        let size : length t ≡ length front + length (drop n j.bytes) = ap length whole ∙ length-append front (drop n j.bytes) in
        let left = length-drop n j.bytes in
        let first = length-take-le n j.bytes (omega (arith, within)) in
        let sum = length-append sent.handed (take n j.bytes) in
        let before = sent.count in
        let same : take (length front) t ≡ front = ap (take (length front)) whole ∙ take-append_seam front (drop n j.bytes) in
        (length front, omega (arith, size, left, within), omega (arith, count, before, first, sum), subst (Appends a c) (sym same) both)

pub last_part : {T : Type 0} (a b c : Option (List ℕ)) (i j k : Gathered) (t : List ℕ) (r : Result T Partial) → i ≡ start → Sent a b i j t
    → HandsOn (λ taken. taken) b c j k r → IfErr r (λ e. TakesPartAfter a c 0 e.sent t)
last_part a b c i j k t (Ok x) is sent handed = tt
last_part a b c i j k t (Err e) is sent part = last_part_sent a b c j e.sent t (subst (λ (g : Gathered). Sent a b g j t) is sent) part

-- ---- one piece after another

-- a text was written, or the sink failed, of a sink that is seen as what it took
abbrev pub Written : {T : Type 0} → Option (List ℕ) → Option (List ℕ) → Gathered → Gathered → List ℕ → Result T Partial → Type 0
Written old new before after text result = Writes (λ taken. taken) old new before after text result

-- a piece, and then what is written after it
pub writes_after : {T : Type 0} (a b c : Option (List ℕ)) (i j k : Gathered) (t u : List ℕ) (r : Result T Partial) → Sent a b i j t → Written b c j k u r
    → Written a c i k (t ++ u) r
writes_after a b c i j k t u (Ok x) front next = Sent-trans a b c i j k t u front next
writes_after a b c i j k t u (Err e) front next = SentPart-more a b c i j e.sent t u front next

-- the failure of a piece is handed on
pub fails : {T : Type 0} (a b : Option (List ℕ)) (i k : Gathered) (t : List ℕ) (r : Result T Partial) (e : Partial) → IsErr r × IsErrAnd r (λ y. y ≡ e)
    → SentPart a b i e.sent t → Written a b i k t r
fails a b i k t (Ok x) e is part = let both : false ≡ true = is.0 in absurd (cc)
fails a b i k t (Err y) e is part = subst (λ (z : Partial). SentPart a b i z.sent t) (sym is.1) part

-- the pieces of the elements of a list
flat_next : {X : Type 0} (f : X → List ℕ) (xs : List X) (i : ℕ) (d : X) → i < length xs → flat_map f (take (suc i) xs) ≡ flat_map f (take i xs) ++ f (get_or xs i d)
flat_next f [] i d h = absurd (omega arith)
flat_next f (x ∷ xs) zero d h = append-nil (f x)
flat_next f (x ∷ xs) (suc i) d h = ap (λ l. f x ++ l) (flat_next f xs i d (omega arith)) ∙ sym (append_assoc (f x) (flat_map f (take i xs)) (f (get_or xs i d)))

flat_at : {X : Type 0} (f : X → List ℕ) (xs : List X) (i : ℕ) (d : X) → i < length xs
    → flat_map f xs ≡ flat_map f (take i xs) ++ (f (get_or xs i d) ++ flat_map f (drop (suc i) xs))
flat_at f [] i d h = absurd (omega arith)
flat_at f (x ∷ xs) zero d h = refl
flat_at f (x ∷ xs) (suc i) d h =
    ap (λ l. f x ++ l) (flat_at f xs i d (omega arith)) ∙ sym (append_assoc (f x) (flat_map f (take i xs)) (f (get_or xs i d) ++ flat_map f (drop (suc i) xs)))

-- one piece more was written
pub pieces_more : {X : Type 0} (f : X → List ℕ) (a b c : Option (List ℕ)) (i j k : Gathered) (xs : List X) (n : ℕ) (d : X) → n < length xs
    → Sent a b i j (flat_map f (take n xs)) → Sent b c j k (f (get_or xs n d)) → Sent a c i k (flat_map f (take (n + 1) xs))
pieces_more f a b c i j k xs n d h front next =
    rw (add-one, flat_next f xs n d h) (Sent-trans a b c i j k (flat_map f (take n xs)) (f (get_or xs n d)) front next)

-- the write of a piece failed
pub pieces_cut : {X : Type 0} (f : X → List ℕ) (a b c : Option (List ℕ)) (i j : Gathered) (s : ℕ) (xs : List X) (n : ℕ) (d : X) → n < length xs
    → Sent a b i j (flat_map f (take n xs)) → SentPart b c j s (f (get_or xs n d)) → SentPart a c i s (flat_map f xs)
pieces_cut f a b c i j s xs n d h front next =
    let rest : List ℕ = flat_map f (drop (suc n) xs) in
    let piece : List ℕ = f (get_or xs n d) in
    subst (SentPart a c i s) (sym (flat_at f xs n d h))
    (SentPart-more a b c i j s (flat_map f (take n xs)) (piece ++ rest) front (SentPart-first b c j s piece rest next))

-- a joined text is its first piece, and the others each after a separator
pub joined : {X : Type 0} (c : ℕ) (f : X → List ℕ) (x : X) (xs : List X) → f x ++ flat_map (λ y. c ∷ f y) xs ≡ join_with_byte c (map f (x ∷ xs))
joined c f x [] = append-nil (f x)
joined c f x (y ∷ ys) = ap (λ l. f x ++ (c ∷ l)) (joined c f y ys)

pub joined_list : {X : Type 0} (c : ℕ) (f : X → List ℕ) (xs : List X) (d : X) → 1 ≤ length xs
    → f (get_or xs 0 d) ++ flat_map (λ y. c ∷ f y) (take (length xs - 1) (drop 1 xs)) ≡ join_with_byte c (map f xs)
joined_list c f [] d some = absurd (omega (arith, some))
joined_list c f (x ∷ xs) d some = ap (λ l. f x ++ flat_map (λ y. c ∷ f y) l) (take_all (length (x ∷ xs) - 1) xs (omega arith)) ∙ joined c f x xs
