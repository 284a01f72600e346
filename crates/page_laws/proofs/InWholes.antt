-- What is heard in parts of a whole note, in whole notes.
use Rattle.std.proofs.Common.{◌≡◌, ℕ, ◌+◌, ◌≤◌, ◌==◌, Bool, true, false, ◌&&◌, ◌||◌, not, [], ◌∷◌, map, Option, Some, None, refl, sym, ap, ◌∙◌}
use Rattle.std.specs.Prelude.{if◌then◌else◌}
use Rattle.std.specs.Option.{option_map}
use Rattle.std.proofs.lemmas.List.{map-append}
use Rattle.rhythm_base.specs.declared.span.Frac.{Frac}
use Rattle.text_words.specs.Steps.{◌>>=◌}
use Rattle.lily_writer.specs.Fractions.{frac, frac_plus}
use Rattle.lily_laws.proofs.Fractions.{plus_parts}
use Rattle.notation.specs.Notes.{is_empty}
use Rattle.notation_laws.proofs.Segments.{no_some}
use Rattle.notation_laws.specs.Hearing.{HeardSpan, HeardVoice, Stretch, hear, hear_chord, hear_grace, hear_rest, is_none, span_with, with_span}

module _ (d : ℕ) (some : 1 ≤ d) where
  abbrev pub span_in : HeardSpan ℕ → HeardSpan Frac
  span_in x = record { start = frac x.start d; len = frac x.len d; keys = x.keys; graces = x.graces; short = x.short }

  abbrev pub in_wholes : HeardVoice ℕ → HeardVoice Frac
  in_wholes h = record { spans = map span_in h.spans; at = frac h.at d; going = option_map span_in h.going; graces = h.graces }

  abbrev pub stretch_in : Stretch ℕ → Stretch Frac
  stretch_in n = record { len = frac n.len d; keys = n.keys; short = n.short; comes = n.comes; goes = n.goes }

  pub none_in : (o : Option (HeardSpan ℕ)) → is_none (option_map span_in o) ≡ is_none o
  none_in None = refl
  none_in (Some x) = refl

  plus : (a b : ℕ) → frac_plus (frac a d) (frac b d) ≡ frac (a + b) d
  plus a b = plus_parts a b d some

  -- ---- grace chords

  pub grace_in : (h : HeardVoice ℕ) (keys : ℕ) → hear_grace (in_wholes h) keys ≡ option_map in_wholes (hear_grace h keys)
  grace_in h keys = go h.going
    where
      go : (going : Option (HeardSpan ℕ))
          → hear_grace (in_wholes (record h { going = going })) keys ≡ option_map in_wholes (hear_grace (record h { going = going }) keys)
      go None = refl
      go (Some x) = refl

  -- ---- rests

  rest_in : (h : HeardVoice ℕ) (n : Stretch ℕ) → hear_rest frac_plus (in_wholes h) (stretch_in n) ≡ option_map in_wholes (hear_rest ◌+◌ h n)
  rest_in h n = go h.going (is_empty h.graces && not (n.short || (n.comes || n.goes)))
    where
      at : HeardVoice Frac → Frac → HeardVoice Frac
      at h f = record h { at = f }

      test : (going : Option (HeardSpan ℕ)) (b : Bool)
          → (if b then Some (record (in_wholes (record h { going = going })) { at = frac_plus (frac h.at d) (frac n.len d) }) else None)
          ≡ option_map in_wholes (if b then Some (record h { going = going; at = h.at + n.len }) else None)
      test going true = ap (λ f. Some (record (in_wholes (record h { going = going })) { at = f })) (plus h.at n.len)
      test going false = refl

      go : (going : Option (HeardSpan ℕ)) (b : Bool)
          → (if is_none (option_map span_in going) && is_empty h.graces && not (n.short || (n.comes || n.goes))
          then Some (record (in_wholes (record h { going = going })) { at = frac_plus (frac h.at d) (frac n.len d) }) else None)
          ≡ option_map in_wholes
          (if is_none going && is_empty h.graces && not (n.short || (n.comes || n.goes)) then Some
          (record h { going = going; at = h.at + n.len }) else None)
      go None b = test None (is_empty h.graces && not (n.short || (n.comes || n.goes)))
      go (Some x) b = refl

  -- ---- chords

  span_after : (h : HeardVoice ℕ) (at : ℕ) (goes : Bool) (x : HeardSpan ℕ)
      → with_span (in_wholes h) (frac at d) goes (span_in x) ≡ in_wholes (with_span h at goes x)
  span_after h at true x = refl
  span_after h at false x =
      ap (λ xs. record (in_wholes h) { spans = xs; at = frac at d; going = None; graces = [] }) (sym (map-append span_in h.spans (x ∷ [])))

  chord_in : (h : HeardVoice ℕ) (n : Stretch ℕ) → hear_chord frac_plus (in_wholes h) (stretch_in n)
      ≡ option_map in_wholes (hear_chord ◌+◌ h n)
  chord_in h n = found h.going
    where
      after : (o : Option (HeardSpan ℕ))
          → (option_map span_in o >>= λ x. Some (with_span (in_wholes h) (frac_plus (frac h.at d) (frac n.len d)) n.goes x))
          ≡ option_map in_wholes (o >>= λ x. Some (with_span h (h.at + n.len) n.goes x))
      after None = refl
      after (Some x) =
          ap (λ f. Some (with_span (in_wholes h) f n.goes (span_in x))) (plus h.at n.len)
          ∙ ap (λ k. Some k) (span_after h (h.at + n.len) n.goes x)

      begun : (b : Bool)
          → (if b then None else Some (span_in (record { start = h.at; len = n.len; keys = n.keys; graces = h.graces; short = n.short })))
          ≡ option_map span_in (if b then None else Some
          (record { start = h.at; len = n.len; keys = n.keys; graces = h.graces; short = n.short }))
      begun true = refl
      begun false = refl

      longer : (x : HeardSpan ℕ) (b : Bool)
          → (if b then Some (record (span_in x) { len = frac_plus (frac x.len d) (frac n.len d) }) else None)
          ≡ option_map span_in (if b then Some (record x { len = x.len + n.len }) else None)
      longer x true = ap (λ f. Some (record (span_in x) { len = f })) (plus x.len n.len)
      longer x false = refl

      span : (going : Option (HeardSpan ℕ)) → span_with frac_plus (in_wholes h) (option_map span_in going) (stretch_in n)
          ≡ option_map span_in (span_with ◌+◌ h going n)
      span None = begun n.comes
      span (Some x) = longer x (n.comes && ((x.keys == n.keys) && not n.short))

      found : (going : Option (HeardSpan ℕ))
          → (span_with frac_plus (in_wholes h) (option_map span_in going) (stretch_in n) >>= λ x. Some
          (with_span (in_wholes h) (frac_plus (frac h.at d) (frac n.len d)) n.goes x))
          ≡ option_map in_wholes (span_with ◌+◌ h going n >>= λ x. Some (with_span h (h.at + n.len) n.goes x))
      found going =
          ap (λ o. o >>= λ x. Some (with_span (in_wholes h) (frac_plus (frac h.at d) (frac n.len d)) n.goes x)) (span going)
          ∙ after (span_with ◌+◌ h going n)

  pub hear_in : (h : HeardVoice ℕ) (n : Stretch ℕ) → hear frac_plus (in_wholes h) (stretch_in n) ≡ option_map in_wholes (hear ◌+◌ h n)
  hear_in h n = go (n.keys == 0)
    where
      go : (b : Bool) → (if b then hear_rest frac_plus (in_wholes h) (stretch_in n) else hear_chord frac_plus (in_wholes h) (stretch_in n))
          ≡ option_map in_wholes (if b then hear_rest ◌+◌ h n else hear_chord ◌+◌ h n)
      go true = rest_in h n
      go false = chord_in h n

-- ---- what is heard says of the ties and marks

-- a rest that is heard has no mark and no tie
pub rest_bare : (h next : HeardVoice ℕ) (n : Stretch ℕ) → hear ◌+◌ h n ≡ Some next → (n.keys == 0) ≡ true
    → (n.short ≡ false) × (n.comes ≡ false) × (n.goes ≡ false)
rest_bare h next n e silent = go (n.keys == 0) silent e
  where
    test : (a b c : Bool) (s : Bool) → (if s && not (a || (b || c)) then Some (record h { at = h.at + n.len }) else None) ≡ Some next
        → (a ≡ false) × (b ≡ false) × (c ≡ false)
    test false false false s e = (refl, refl, refl)
    test true b c true e = absurd (no_some next e)
    test false true c true e = absurd (no_some next e)
    test false false true true e = absurd (no_some next e)
    test a b c false e = absurd (no_some next e)

    go : (b : Bool) → b ≡ true → (if b then hear_rest ◌+◌ h n else hear_chord ◌+◌ h n) ≡ Some next
        → (n.short ≡ false) × (n.comes ≡ false) × (n.goes ≡ false)
    go false f e = absurd (cc)
    go true f e = test n.short n.comes n.goes (is_none h.going && is_empty h.graces) e

-- a tie comes to a chord that is heard where a span goes on
pub chord_comes : (h next : HeardVoice ℕ) (n : Stretch ℕ) → hear ◌+◌ h n ≡ Some next → (n.keys == 0) ≡ false → n.comes
    ≡ not (is_none h.going)
chord_comes h next n e sounds = go (n.keys == 0) sounds e
  where
    comes : (going : Option (HeardSpan ℕ)) (c : Bool)
        → (span_with ◌+◌ h going (record n { comes = c }) >>= λ x. Some (with_span h (h.at + n.len) n.goes x)) ≡ Some next → c
        ≡ not (is_none going)
    comes None false e = refl
    comes None true e = absurd (no_some next e)
    comes (Some x) true e = refl
    comes (Some x) false e = absurd (no_some next e)

    go : (b : Bool) → b ≡ false → (if b then hear_rest ◌+◌ h n else hear_chord ◌+◌ h n) ≡ Some next → n.comes ≡ not (is_none h.going)
    go true f e = absurd (cc)
    go false f e = comes h.going n.comes e
