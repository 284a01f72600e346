use Rattle.std.proofs.Common.{◌≡◌, ℕ, zero, suc, ◌+◌, ◌<◌, ◌≤◌, List, [], ◌∷◌, ◌++◌, length, take, drop, refl, sym, ap, subst, arith, ◌∙◌, length-append, append_assoc, append-nil, add-one, get_or, inl, inr, Result, Ok, Err}
use Rattle.std.specs.Prelude.{Option}
use Rattle.std.proofs.lemmas.List.{take-append-le}
use Rattle.std.proofs.Math.Seq.{take-append-add}
use Rattle.std.proofs.KnownBytes.{Appends-trans}
use Rattle.std.specs.Io.KnownBytes.{Appends}
use Rattle.rhythm_ports.specs.Causes.{Rose}
use Rattle.rhythm_app.specs.Ends.{AppendsPart, OfSink, Reports, Writes}
use Rattle.rhythm_app.specs.Stops.{joined_words}
use Rattle.rhythm_app.specs.Parts.{part_text, part_texts}
use Rattle.rhythm_app.specs.declared.line.Part.{Part}
use Rattle.rhythm_app.proofs.CountedFiles.{rose_later}

pub AppendsPart-first : (a b : Option (List ℕ)) (t u : List ℕ) → AppendsPart a b t → AppendsPart a b (t ++ u)
AppendsPart-first a b t u p =
    let same : take p.0 (t ++ u) ≡ take p.0 t = take-append-le p.0 t u (omega (arith, p.1)) in
    (p.0, omega (arith, p.1, length-append t u), subst (Appends a b) (sym same) p.2)

pub AppendsPart-more : (a b c : Option (List ℕ)) (t u : List ℕ) → Appends a b t → AppendsPart b c u → AppendsPart a c (t ++ u)
AppendsPart-more a b c t u front p =
    (length t + p.0, omega (arith, p.1, length-append t u), subst (Appends a c) (sym (take-append-add t u p.0)) (Appends-trans a b c t (take p.0 u) front p.2))

joined_next : (ps : List Part) (i : ℕ) (d : Part) → i < length ps → joined_words (part_texts (take (suc i) ps)) ≡ joined_words (part_texts (take i ps)) ++ part_text (get_or ps i d)
joined_next [] i d h = absurd (omega arith)
joined_next (x ∷ ps) zero d h = append-nil (part_text x)
joined_next (x ∷ ps) (suc i) d h = ap (λ l. part_text x ++ l) (joined_next ps i d (omega arith)) ∙ sym (append_assoc (part_text x) (joined_words (part_texts (take i ps))) (part_text (get_or ps i d)))

joined_at : (ps : List Part) (i : ℕ) (d : Part) → i < length ps → joined_words (part_texts ps) ≡ joined_words (part_texts (take i ps)) ++ (part_text (get_or ps i d) ++ joined_words (part_texts (drop (suc i) ps)))
joined_at [] i d h = absurd (omega arith)
joined_at (x ∷ ps) zero d h = refl
joined_at (x ∷ ps) (suc i) d h = ap (λ l. part_text x ++ l) (joined_at ps i d (omega arith)) ∙ sym (append_assoc (part_text x) (joined_words (part_texts (take i ps))) (part_text (get_or ps i d) ++ joined_words (part_texts (drop (suc i) ps))))

-- one part more was taken
pub parts_more : (a b c : Option (List ℕ)) (ps : List Part) (i : ℕ) (d : Part) → i < length ps
    → Appends a b (joined_words (part_texts (take i ps))) → Appends b c (part_text (get_or ps i d)) → Appends a c (joined_words (part_texts (take (i + 1) ps)))
parts_more a b c ps i d h front next = rw (add-one, joined_next ps i d h) (Appends-trans a b c (joined_words (part_texts (take i ps))) (part_text (get_or ps i d)) front next)

-- the write of a part failed
pub parts_cut : (a b c : Option (List ℕ)) (ps : List Part) (i : ℕ) (d : Part) → i < length ps
    → Appends a b (joined_words (part_texts (take i ps))) → AppendsPart b c (part_text (get_or ps i d)) → AppendsPart a c (joined_words (part_texts ps))
parts_cut a b c ps i d h front next =
    let rest = joined_words (part_texts (drop (suc i) ps)) in
    let cut = AppendsPart-more a b c (joined_words (part_texts (take i ps))) (part_text (get_or ps i d) ++ rest) front (AppendsPart-first b c (part_text (get_or ps i d)) rest next) in
    subst (AppendsPart a c) (sym (joined_at ps i d h)) cut

module _ {S T E : Type 0} (taken : S → Option (List ℕ)) (faults : S → ℕ) where
  -- the writing of a part failed, and so that of the text
  pub writes_cut : (old mid new : S) (text : List ℕ) (r : Result T E) (e : E) → r ≡ Err e → AppendsPart (taken old) (taken new) text → faults old ≤ faults mid → Rose (faults mid) (faults new)
      → faults mid ≤ faults new → Writes taken faults old new text r
  writes_cut old mid new text r e is part before rose later = subst (λ (x : Result T E). Writes taken faults old new text x) (sym is) (record {
    all = tt;
    part = part;
    cause = record { later = omega (arith, before, later); failed = rose_later (faults old) (faults mid) (faults new) before rose };
  })

  -- a text was written before this one
  pub writes_after : (old mid new : S) (before text : List ℕ) (r : Result T E) → Appends (taken old) (taken mid) before → faults old ≤ faults mid → Writes taken faults mid new text r
      → Writes taken faults old new (before ++ text) r
  writes_after old mid new before text (Ok x) front rises h = record {
    all = Appends-trans (taken old) (taken mid) (taken new) before text front h.all;
    part = tt;
    cause = record { later = omega (arith, rises, h.cause.later); failed = tt };
  }
  writes_after old mid new before text (Err e) front rises h = record {
    all = tt;
    part = AppendsPart-more (taken old) (taken mid) (taken new) before text front h.part;
    cause = record { later = omega (arith, rises, h.cause.later); failed = rose_later (faults old) (faults mid) (faults new) rises h.cause.failed };
  }

  -- what was written is the line
  pub writes_line : (old new : S) (line : List ℕ) (r : Result T E) → Writes taken faults old new line r → OfSink Reports taken faults old new line
  writes_line old new line (Ok x) h = inl h.all
  writes_line old new line (Err e) h = inr (h.cause.failed, h.part)
