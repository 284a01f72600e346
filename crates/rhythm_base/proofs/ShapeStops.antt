-- Where reading a shape stops: a stop in what is read first, or after it, is a stop of the whole.
use Rattle.std.proofs.Common.{◌≡◌, ℕ, ◌+◌, ◌≤◌, ◌<◌, true, List, [], ◌∷◌, ◌++◌, length, get_or, codes, refl, sym, ap, ◌∙◌, subst, arith, append_assoc}
use Rattle.std.specs.Prelude.{IfErr, Result, Err, ◌⊎◌}
use Rattle.std.proofs.Common.{inl, inr}
use Rattle.rhythm_base.specs.declared.shape_parse.Stop.{Stop}
use Rattle.rhythm_base.specs.declared.shape_parse.Stop.TheVariants.{With, Memory}
use Rattle.rhythm_base.specs.ShapeReading.{ByteText, HeadText, HeadAfter1, IsHead, Stops, StopsWith, after_1, head_text, next_byte}
use Rattle.std.proofs.lemmas.Bool.Decides.{nat_tests}
use Rattle.std.proofs.lemmas.Result.{IfErr-weaker}
use Rattle.rhythm_base.specs.Shapes.{can_have}
use Rattle.rhythm_base.proofs.ShapeHeads.{HeadIs, head_is}

-- after what was read first, which is what each such text begins with
pub stops_after : {A B : List ℕ → Type 0} (first rest text : List ℕ) (left : ℕ) → text ≡ first ++ rest → StopsWith B rest left
    → ((b : List ℕ) → B b → A (first ++ b))
    → ((other whole after : List ℕ) → A whole → first ++ other ≡ whole ++ after → (b : List ℕ) × B b × (other ≡ b ++ after))
    → StopsWith A text left
stops_after {A} {B} first rest text left is stop join split = record {
  read = first ++ stop.read;
  rest = stop.rest;
  is = is ∙ ap (λ l. first ++ l) stop.is ∙ sym (append_assoc first stop.read stop.rest);
  many = stop.many;
  more = stop.more;
  begins = subst A (sym (append_assoc first stop.read stop.more)) (join (stop.read ++ stop.more) stop.begins);
  stops = λ whole other after is_whole same.
      let cut = split (stop.read ++ (next_byte stop.rest ∷ other)) whole after is_whole (sym (append_assoc first stop.read _) ∙ same) in
      stop.stops cut.0 other after cut.1 cut.2;
}

-- in what is read first
pub stops_first : {A B : List ℕ → Type 0} (text : List ℕ) (left : ℕ) → StopsWith A text left
    → ((a : List ℕ) → A a → (b : List ℕ) × B (a ++ b))
    → ((whole : List ℕ) → B whole → (a b : List ℕ) × A a × (whole ≡ a ++ b))
    → StopsWith B text left
stops_first {A} {B} text left stop more first = record {
  read = stop.read;
  rest = stop.rest;
  is = stop.is;
  many = stop.many;
  more = stop.more ++ (more (stop.read ++ stop.more) stop.begins).0;
  begins = subst B (append_assoc stop.read stop.more _) (more (stop.read ++ stop.more) stop.begins).1;
  stops = λ whole other after is_whole same.
      let cut = first whole is_whole in
      stop.stops cut.0 other (cut.1 ++ after) cut.2 (same ∙ ap (λ l. l ++ after) cut.3 ∙ append_assoc cut.0 cut.1 after);
}

-- before the first byte
pub stops_before : {A : List ℕ → Type 0} (text more : List ℕ) → A more → ((whole : List ℕ) → A whole → (other after : List ℕ) → next_byte text ∷ other ≡ whole ++ after → ⊥)
    → StopsWith A text (length text)
stops_before text more begins stops = record {
  read = [];
  rest = text;
  is = refl;
  many = refl;
  more = more;
  begins = begins;
  stops = λ whole other after is_whole same. stops whole is_whole other after same;
}

pub first_same : {m n : ℕ} {xs ys : List ℕ} → m ∷ xs ≡ n ∷ ys → m ≡ n
first_same e = cc

pub rest_same : {m n : ℕ} {xs ys : List ℕ} → m ∷ xs ≡ n ∷ ys → xs ≡ ys
rest_same e = cc

pub no_byte : (byte : ℕ) (text : List ℕ) → (next_byte text ≡ byte → ⊥) → StopsWith (ByteText byte) text (length text)
no_byte byte text other = stops_before text (byte ∷ []) refl
    (λ whole is more after same. other (first_same (same ∙ ap (λ l. l ++ after) is)))

-- a stop of one set of texts is the stop of another
pub stopped : {T : Type 0} {A B : List ℕ → Type 0} {t u : List ℕ} (r : Result T Stop) (s x : Stop) → r ≡ Err x → x ≡ s → Stops A t s
    → ((left : ℕ) → StopsWith A t left → StopsWith B u left) → IfErr r (λ stop. Stops B u stop)
stopped {T} {A} {B} {t} {u} r s x is same stop turn =
    subst (λ q. IfErr q (λ stop. Stops B u stop)) (sym is) (subst (λ z. Stops B u z) (sym same) (go s stop))
  where
    go : (s : Stop) → Stops A t s → Stops B u s
    go (With left) h = turn left h
    go Memory h = tt

pub turned : {T : Type 0} {A B : List ℕ → Type 0} {t u : List ℕ} (r : Result T Stop) → IfErr r (λ stop. Stops A t stop)
    → ((left : ℕ) → StopsWith A t left → StopsWith B u left) → IfErr r (λ stop. Stops B u stop)
turned {T} {A} {B} {t} {u} r err turn = IfErr-weaker r (λ stop. Stops A t stop) (λ stop. Stops B u stop) go err
  where
    go : (s : Stop) → Stops A t s → Stops B u s
    go (With left) h = turn left h
    go Memory h = tt

pub nothing_next : (text : List ℕ) → length text ≡ 0 → next_byte text ≡ 256
nothing_next [] none = refl
nothing_next (byte ∷ rest) none = absurd (omega (arith, none))

pub next_is : (text : List ℕ) → 1 ≤ length text → next_byte text ≡ get_or text 0 0
next_is [] some = absurd (omega (arith, some))
next_is (byte ∷ rest) some = refl

-- ---- the number of parts

-- after the first digit
pub no_second : (text : List ℕ) → (48 ≤ next_byte text → next_byte text ≤ 54 → ⊥) → StopsWith HeadAfter1 text (length text)
no_second text other = stops_before text (after_1 10) (10, omega arith, omega arith, refl)
    (λ whole is more after same.
    let first : next_byte text ≡ 38 + is.0 = first_same (same ∙ ap (λ l. l ++ after) is.3) in
    other (omega (arith, is.1, first)) (omega (arith, is.2, first)))

pub second_then_bracket : (n : ℕ) (rest text : List ℕ) (left : ℕ) → 10 ≤ n → n ≤ 16 → text ≡ (38 + n) ∷ rest → StopsWith (ByteText 40) rest left → StopsWith HeadAfter1 text left
second_then_bracket n rest text left low high is stop =
    stops_after ((38 + n) ∷ []) rest text left is stop (λ b e. (n, low, high, ap (λ l. (38 + n) ∷ l) e))
    (λ other whole after w same. let e = same ∙ ap (λ l. l ++ after) w.3 in (40 ∷ [], refl, rest_same e))

-- the first byte is none that a head begins with
pub no_head : (levels : ℕ) (text : List ℕ) → (next_byte text ≡ 46 → ⊥) → ((levels ≡ 0) ⊎ (next_byte text < 49) ⊎ (57 < next_byte text)) → StopsWith (HeadText levels) text (length text)
no_head levels text no_leaf no_cut = stops_before text (codes ".") (0, record { can = refl; low = λ h. refl }, refl)
    (λ whole is more after same. wrong after is.0 is.1 (head_is is.0 is.1.can) (same ∙ ap (λ l. l ++ after) is.2) no_cut)
  where
    outside : ((next_byte text < 49) ⊎ (57 < next_byte text)) → 49 ≤ next_byte text → next_byte text ≤ 57 → ⊥
    outside (inl h) low high = omega arith
    outside (inr h) low high = omega arith

    wrong : (after : List ℕ) {other : List ℕ} (n : ℕ) → IsHead levels n → HeadIs n (head_text n) → next_byte text ∷ other ≡ head_text n ++ after
        → ((levels ≡ 0) ⊎ (next_byte text < 49) ⊎ (57 < next_byte text)) → ⊥
    wrong after n h (inl (none, is)) e k = no_leaf (first_same (e ∙ ap (λ l. l ++ after) is))
    wrong after n h (inr (inl (low, high, is))) e (inl z) = omega (arith, h.low z)
    wrong after n h (inr (inl (low, high, is))) e (inr z) =
        let first : next_byte text ≡ 48 + n = first_same (e ∙ ap (λ l. l ++ after) is) in outside z (omega (arith, first, low)) (omega (arith, first, high))
    wrong after n h (inr (inr (low, high, is))) e (inl z) = omega (arith, h.low z)
    wrong after n h (inr (inr (low, high, is))) e (inr z) =
        let first : next_byte text ≡ 49 = first_same (e ∙ ap (λ l. l ++ after) is) in outside z (omega (arith, first)) (omega (arith, first))

-- a number of one digit
pub head_small : (n : ℕ) → 2 ≤ n → n ≤ 9 → can_have n ≡ true → head_text n ≡ (48 + n) ∷ 40 ∷ []
head_small n low high can = go (head_is n can)
  where
    go : HeadIs n (head_text n) → head_text n ≡ (48 + n) ∷ 40 ∷ []
    go (inl (none, is)) = absurd (omega (arith, none))
    go (inr (inl (l, h, is))) = is
    go (inr (inr (l, h, is))) = absurd (omega arith)

-- a number of two digits
pub head_great : (n : ℕ) → 10 ≤ n → can_have n ≡ true → head_text n ≡ 49 ∷ after_1 n
head_great n low can = go (head_is n can)
  where
    go : HeadIs n (head_text n) → head_text n ≡ 49 ∷ after_1 n
    go (inl (none, is)) = absurd (omega (arith, none))
    go (inr (inl (l, h, is))) = absurd (omega arith)
    go (inr (inr (l, h, is))) = is

pub can_be : (n : ℕ) → 2 ≤ n → n ≤ 16 → can_have n ≡ true
can_be n low high = grind (arith, nat_tests)

pub digit_then_bracket : (levels n : ℕ) (rest text : List ℕ) (left : ℕ) → 1 ≤ levels → 2 ≤ n → n ≤ 9 → text ≡ (48 + n) ∷ rest
    → StopsWith (ByteText 40) rest left → StopsWith (HeadText levels) text left
digit_then_bracket levels n rest text left deep low high is stop =
    stops_after ((48 + n) ∷ []) rest text left is stop
    (λ b e. (n, record { can = can_be n low (omega arith); low = λ h. absurd (omega (arith, h)) }, ap (λ l. (48 + n) ∷ l) e ∙ sym (head_small n low high (can_be n low (omega arith)))))
    (λ other whole after w same. split other after w.0 (head_is w.0 w.1.can) (same ∙ ap (λ l. l ++ after) w.2))
  where
    split : (other after : List ℕ) (m : ℕ) → HeadIs m (head_text m) → (48 + n) ∷ other ≡ head_text m ++ after → (b : List ℕ) × (b ≡ 40 ∷ []) × (other ≡ b ++ after)
    split other after m (inl (none, is)) e = let first : 48 + n ≡ 46 = first_same (e ∙ ap (λ l. l ++ after) is) in absurd (omega (arith, first))
    split other after m (inr (inl (l, h, is))) e = (40 ∷ [], refl, rest_same (e ∙ ap (λ l. l ++ after) is))
    split other after m (inr (inr (l, h, is))) e = let first : 48 + n ≡ 49 = first_same (e ∙ ap (λ l. l ++ after) is) in absurd (omega (arith, first))

pub one_then_digit : (levels : ℕ) (rest text : List ℕ) (left : ℕ) → 1 ≤ levels → text ≡ 49 ∷ rest → StopsWith HeadAfter1 rest left → StopsWith (HeadText levels) text left
one_then_digit levels rest text left deep is stop =
    stops_after (49 ∷ []) rest text left is stop
    (λ b w. (
      w.0,
      record { can = can_be w.0 (omega (arith, w.1)) w.2; low = λ h. absurd (omega (arith, h)) },
      ap (λ l. 49 ∷ l) w.3 ∙ sym (head_great w.0 w.1 (can_be w.0 (omega (arith, w.1)) w.2)),
    ))
    (λ other whole after w same. split other after w.0 (head_is w.0 w.1.can) (same ∙ ap (λ l. l ++ after) w.2))
  where
    split : (other after : List ℕ) (m : ℕ) → HeadIs m (head_text m) → 49 ∷ other ≡ head_text m ++ after → (b : List ℕ) × HeadAfter1 b × (other ≡ b ++ after)
    split other after m (inl (none, is)) e = let first : 49 ≡ 46 = first_same (e ∙ ap (λ l. l ++ after) is) in absurd (omega (arith, first))
    split other after m (inr (inl (l, h, is))) e = let first : 49 ≡ 48 + m = first_same (e ∙ ap (λ l. l ++ after) is) in absurd (omega (arith, first))
    split other after m (inr (inr (l, h, is))) e = (after_1 m, (m, l, h, refl), rest_same (e ∙ ap (λ l. l ++ after) is))
