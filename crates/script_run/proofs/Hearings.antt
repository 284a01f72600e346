-- What is heard of a script byte by byte.
use Rattle.std.proofs.Common.{◌≡◌, ℕ, zero, suc, ◌+◌, ◌<◌, ◌≤◌, arith, inl, inr, List, [], ◌∷◌, ◌++◌, length, take, drop, get_or, refl, sym, ap, subst, ◌∙◌, Bool, true, false, append_assoc, append-nil, add-one, Result, Ok}
use Rattle.std.specs.Prelude.{◌↔◌, ◌⊎◌, IsTrue, Option}
use Rattle.std.specs.Io.KnownBytes.{Appends}
use Rattle.std.proofs.KnownBytes.{Appends-trans}
use Rattle.rhythm_base.specs.Counter.{risen}
use Rattle.rhythm_base.specs.declared.limits.TheConstants.{LONGEST_SCRIPT, LONGEST_SCRIPT_LINE}
use Rattle.script_run.specs.Answers.{Quits}
use Rattle.script_run.specs.Hearing.{Heard, Hears, HearsAll, HearsUpTo, Replies, Took}
use Rattle.script_run.specs.declared.script_stop.ScriptStop.{ScriptStop}

pub same_bool : (a b : Bool) → ◌≡◌ {A = Result Bool ScriptStop} (Ok a) (Ok b) → a ≡ b
same_bool a b e = cc

-- a line is answered that does not say `quit`
pub newline_heard : (old answered new : Heard) (byte : ℕ) (ends : Bool) (reply : List ℕ) (n : ℕ) → answered.read ≡ old.read
    → answered.begun ≡ [] → new ≡ record answered { read = answered.read + 1 } → byte ≡ 10 → old.read < LONGEST_SCRIPT → (IsTrue ends ↔ Quits old.begun) → ends ≡ false
    → Replies old reply n answered.desk → Hears old byte reply n new
newline_heard old answered new byte ends reply n read none is newline room decides goes said =
    let counted : new.read ≡ old.read + 1 = ap (λ (h : Heard). h.read) is ∙ ap (λ m. m + 1) read in
    let not_true : Quits old.begun → ⊥ = λ q. not_both (decides.1 q) in
    let said_new = subst (Replies old reply n) (sym (ap (λ (h : Heard). h.desk) is)) said in
    (room, counted, inl (newline, said_new, not_true, ap (λ (h : Heard). h.begun) is ∙ none))
  where
    not_both : ends ≡ true → ⊥
    not_both h = let both : false ≡ true = sym goes ∙ h in absurd (cc)

-- a byte joins the line
pub byte_heard : (old new : Heard) (byte : ℕ) → new ≡ record old { begun = old.begun ++ byte ∷ []; read = old.read + 1 } → (byte ≡ 10 → ⊥) → old.read < LONGEST_SCRIPT
    → length old.begun < LONGEST_SCRIPT_LINE → Hears old byte [] 0 new
byte_heard old new byte is other room short = (
  room,
  ap (λ (h : Heard). h.read) is,
  inr (other, refl, refl, ap (λ (h : Heard). h.desk) is, short, ap (λ (h : Heard). h.begun) is),
)

-- ---- one after another

pub hears_all_append : (a m b : Heard) (s t out more : List ℕ) (k n : ℕ) → HearsAll a s out k m → HearsAll m t more n b → HearsAll a (s ++ t) (out ++ more) (k + n) b
hears_all_append a m b [] t out more k n (quiet, nothing, same) h =
    let first : HearsAll a t more n b = subst (λ (x : Heard). HearsAll x t more n b) same h in
    let second : HearsAll a t (out ++ more) n b = subst (λ (l : List ℕ). HearsAll a t (l ++ more) n b) (sym quiet) first in
    subst (λ (x : ℕ). HearsAll a t (out ++ more) x b) (omega (arith, nothing)) second
hears_all_append a m b (byte ∷ s) t out more k n (mid, reply, others, i, j, text, sum, one, rest) h = (
  mid,
  reply,
  others ++ more,
  i,
  j + n,
  ap (λ l. l ++ more) text ∙ append_assoc reply others more,
  omega (arith, sum),
  one,
  hears_all_append mid m b s t others more j n rest h,
)

pub hears_one : (a b : Heard) (byte : ℕ) (reply : List ℕ) (n : ℕ) → Hears a byte reply n b → HearsAll a (byte ∷ []) reply n b
hears_one a b byte reply n h = (b, reply, [], n, 0, sym (append-nil reply), omega arith, h, (refl, refl, refl))

take_next : (xs : List ℕ) (i d : ℕ) → i < length xs → take (i + 1) xs ≡ take i xs ++ get_or xs i d ∷ []
take_next xs i d h = rw add-one (go xs i h)
  where
    go : (xs : List ℕ) (i : ℕ) → i < length xs → take (suc i) xs ≡ take i xs ++ get_or xs i d ∷ []
    go [] i h = absurd (omega (arith, h))
    go (x ∷ xs) zero h = refl
    go (x ∷ xs) (suc i) h = ap (λ l. x ∷ l) (go xs i (omega (arith, h)))

split_at : (xs : List ℕ) (i d : ℕ) → i < length xs → xs ≡ take i xs ++ get_or xs i d ∷ drop (suc i) xs
split_at [] i d h = absurd (omega (arith, h))
split_at (x ∷ xs) zero d h = refl
split_at (x ∷ xs) (suc i) d h = ap (λ l. x ∷ l) (split_at xs i d (omega (arith, h)))

pub risen_more : (x k n : ℕ) → risen (risen x k) n ≡ risen x (k + n)
risen_more x k n = omega arith

-- what was taken while the first bytes were heard, and while one more is
pub heard_more : (a m b : Heard) (xs : List ℕ) (i d : ℕ) (out reply : List ℕ) (k n : ℕ) → i < length xs → HearsAll a (take i xs) out k m → Hears m (get_or xs i d) reply n b
    → HearsAll a (take (i + 1) xs) (out ++ reply) (k + n) b
heard_more a m b xs i d out reply k n within front next =
    subst (λ (l : List ℕ). HearsAll a l (out ++ reply) (k + n) b) (sym (take_next xs i d within))
    (hears_all_append a m b (take i xs) (get_or xs i d ∷ []) out reply k n front (hears_one m b (get_or xs i d) reply n next))

pub took_more : (x y z : Option (List ℕ)) (old mid new : ℕ) (out reply : List ℕ) (k n : ℕ) → Took x y old mid out k → Took y z mid new reply n
    → Took x z old new (out ++ reply) (k + n)
took_more x y z old mid new out reply k n (first, built) (more, again) =
    (Appends-trans x y z out reply first more, again ∙ ap (λ m. risen m n) built ∙ risen_more old k n)

-- there something else happens
pub heard_up_to : (a m : Heard) (xs : List ℕ) (i d : ℕ) (out after : List ℕ) (k n : ℕ) (x y z : Option (List ℕ)) (Q : Heard → ℕ → List ℕ → ℕ → Type 0) → i < length xs
    → HearsAll a (take i xs) out k m → Appends x y out → Q m (get_or xs i d) after n → Appends y z after → HearsUpTo a xs x z (k + n) Q
heard_up_to a m xs i d out after k n x y z Q within front first there more = record {
  front = take i xs;
  byte = get_or xs i d;
  back = drop (suc i) xs;
  are = split_at xs i d within;
  mid = m;
  before = out;
  k = k;
  heard = front;
  after = after;
  m = n;
  sum = refl;
  at = there;
  written = Appends-trans x y z out after first more;
}

pub decided : (b : Bool) (P : Type 0) → (IsTrue b ↔ P) → P ⊎ (P → ⊥)
decided true P h = inl (h.0 refl)
decided false P h = inr (λ p. let both : false ≡ true = h.1 p in absurd (cc))

-- ---- how many bytes were read

pub read_after : (a b : Heard) (bytes out : List ℕ) (n : ℕ) → HearsAll a bytes out n b → a.read ≤ LONGEST_SCRIPT → (b.read ≡ a.read + length bytes) × (b.read ≤ LONGEST_SCRIPT)
read_after a b [] out n (quiet, nothing, same) within =
    let e : b.read ≡ a.read = ap (λ (h : Heard). h.read) same in (omega (arith, e), omega (arith, e, within))
read_after a b (byte ∷ bytes) out n (mid, reply, more, k, m, text, sum, one, rest) within =
    let room = one.1 in
    let next = one.2 in
    let after = read_after mid b bytes more m rest (omega (arith, room, next)) in
    let read = after.0 in
    (omega (arith, next, read), after.1)
