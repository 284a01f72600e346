-- The tokens of the values of a leaf, and the spans that begin at them.
use Rattle.std.proofs.Common.{◌≡◌, ℕ, ◌+◌, ◌*◌, Bool, true, false, not, ◌&&◌, ◌||◌, List, [], ◌∷◌, ◌++◌, refl, sym, ap, ap₂, ◌∙◌, subst, arith}
use Rattle.std.specs.Prelude.{All, if◌then◌else◌, sum_by}
use Rattle.std.proofs.lemmas.List.Elements.{All-head, All-tail}
use Rattle.std.proofs.lemmas.List.Sums.{sum_by-cons}
use Rattle.rhythm_base.specs.declared.note.Bar.{Bar}
use Rattle.rhythm_base.specs.declared.sound.Sound.{Sound}
use Rattle.rhythm_base.specs.declared.sound.SoundKind.{SoundKind}
use Rattle.rhythm_base.specs.declared.sound.SoundKind.TheVariants.{Begin, Short, Tie, Rest}
use Rattle.rhythm_base.specs.SoundKinds.{begins_chord, is_rest, is_short, is_tie}
use Rattle.durations.specs.declared.value.Value.{Value}
use Rattle.durations.specs.Value.{width}
use Rattle.voice_values.specs.GoesOn.{goes_on, next_goes_on}
use Rattle.voice_values.specs.Values.{VoiceValue}
use Rattle.kern_reader.specs.declared.token.Token.{Token}
use Rattle.kern_reader.specs.declared.token.Token.TheVariants as token
use Rattle.kern_reader.specs.Columns.{place, token_values}
use Rattle.kern_reader.specs.Events.{beginning, beginnings, holds_tie, tied_values}
use Rattle.kern_laws.proofs.ScoreLines.{tie_mark, value_token, writing_of}
use Rattle.kern_laws.proofs.BarFits.{valued_said, width_said}
use Rattle.voice_values.proofs.BarSounded.{leaf_values}
use Rattle.kern_laws.proofs.SpanTokens.{IsReached, value_reached, values_read}
use Rattle.kern_reader.proofs.EventLemmas.{tied_next}

-- the first value of a leaf, and another one
abbrev pub leaf_value : ℕ → Sound → Bool → Value → VoiceValue
leaf_value place s first v = record { place = place; value = v; sound = s; first = first }

module _ (value : Value) (keys : ℕ) (next : Bool) where
  -- the token of a value of a sound of this kind
  abbrev kind_goes : SoundKind → Bool → Bool
  kind_goes k first = not (is_rest k) && (is_tie k || not first)

  abbrev kind_token : SoundKind → Bool → Token
  kind_token k first =
      if is_rest k then token.Rest value
      else token.Chord (record { value = value; opens = not (kind_goes k first) && next; tie = tie_mark (kind_goes k first) next; short = is_short k && first }) keys

  kind_begins : (k : SoundKind) (before after : List Token)
      → beginning before (kind_token k true) after
      ≡ (if begins_chord k then record { before = before; writing = record { value = value; opens = not (kind_goes k true) && next; tie = tie_mark (kind_goes k true) next; short = is_short k && true }; keys = keys; after = after } ∷ [] else [])
  kind_begins Begin before after = refl
  kind_begins Short before after = refl
  kind_begins Tie before after = go next
    where
      go : (n : Bool) → beginning before (token.Chord (record { value = value; opens = false; tie = tie_mark true n; short = false }) keys) after ≡ []
      go true = refl
      go false = refl
  kind_begins Rest before after = refl

  kind_silent : (k : SoundKind) (before after : List Token) → beginning before (kind_token k false) after ≡ []
  kind_silent Begin before after = go next
    where
      go : (n : Bool) → beginning before (token.Chord (record { value = value; opens = false; tie = tie_mark true n; short = false }) keys) after ≡ []
      go true = refl
      go false = refl
  kind_silent Short before after = go next
    where
      go : (n : Bool) → beginning before (token.Chord (record { value = value; opens = false; tie = tie_mark true n; short = true && false }) keys) after ≡ []
      go true = refl
      go false = refl
  kind_silent Tie before after = go next
    where
      go : (n : Bool) → beginning before (token.Chord (record { value = value; opens = false; tie = tie_mark true n; short = false }) keys) after ≡ []
      go true = refl
      go false = refl
  kind_silent Rest before after = refl

  kind_holds : (k : SoundKind) (first : Bool) → holds_tie (kind_token k first) ≡ kind_goes k first
  kind_holds Rest first = refl
  kind_holds Tie first = go next
    where
      go : (n : Bool) → holds_tie (token.Chord (record { value = value; opens = false; tie = tie_mark true n; short = false }) keys) ≡ true
      go true = refl
      go false = refl
  kind_holds Begin first = go (not first) next
    where
      go : (g n : Bool) → holds_tie (token.Chord (record { value = value; opens = not g && n; tie = tie_mark g n; short = false }) keys) ≡ g
      go true true = refl
      go true false = refl
      go false n = refl
  kind_holds Short first = go (not first) next
    where
      go : (g n : Bool) → holds_tie (token.Chord (record { value = value; opens = not g && n; tie = tie_mark g n; short = true && first }) keys) ≡ g
      go true true = refl
      go true false = refl
      go false n = refl

  kind_values : (k : SoundKind) (first : Bool) → token_values (kind_token k first) ≡ value ∷ []
  kind_values Begin first = refl
  kind_values Short first = refl
  kind_values Tie first = refl
  kind_values Rest first = refl

module _ (at : ℕ) (s : Sound) (v : Value) (next : Bool) where
  -- the first value of a leaf begins a span where its chord begins
  pub first_begins : (before after : List Token)
      → beginning before (value_token (leaf_value at s true v) next) after
      ≡ (if begins_chord s.kind then record { before = before; writing = writing_of (leaf_value at s true v) next; keys = s.keys; after = after } ∷ [] else [])
  first_begins before after = kind_begins v s.keys next s.kind before after

  pub other_begins : (before after : List Token) → beginning before (value_token (leaf_value at s false v) next) after ≡ []
  other_begins before after = kind_silent v s.keys next s.kind before after

  -- and holds a tie where it goes on
  pub value_holds : (first : Bool) → holds_tie (value_token (leaf_value at s first v) next) ≡ goes_on (leaf_value at s first v)
  value_holds first = kind_holds v s.keys next s.kind first

  pub values_one : (first : Bool) → token_values (value_token (leaf_value at s first v) next) ≡ v ∷ []
  values_one first = kind_values v s.keys next s.kind first

-- ---- the other values of a leaf

module _ (grid times : ℕ) (all : List Bar) (n whole : ℕ) (s : Sound) (rest later : List VoiceValue) (more : List Token) where
  -- what is read of the leaf after its first value, and what is known then
  pub record IsLeafRead (at place : ℕ) (vs : List Value) (before : List Token) : Type 0 where
    pub after : List Token
    pub begins : beginnings before (values_read (leaf_values whole place s false vs ++ rest) later ++ more) ≡ beginnings after (values_read rest later ++ more)
    pub reached : IsReached grid times all n (at + sum_by (width whole) vs) after

  pub leaf_read : (at place : ℕ) (vs : List Value) (before : List Token) → All (λ w. width grid w ≡ times * width whole w) vs → IsReached grid times all n at before → IsLeafRead at place vs before
  leaf_read at place [] before finer is = record { after = before; begins = refl; reached = subst (λ k. IsReached grid times all n k before) (omega arith) is }
  leaf_read at place (v ∷ vs) before finer is =
      let x = leaf_value place s false v in
      let next = next_goes_on (leaf_values whole (place + width whole v) s false vs ++ rest ++ later) in
      let t = value_token x next in
      let ts = values_read (leaf_values whole (place + width whole v) s false vs ++ rest) later ++ more in
      let own = All-head (λ w. width grid w ≡ times * width whole w) v vs finer in
      let reached = value_reached grid times all n at (width whole v) before t (valued_said x next) (width_said grid x next ∙ own) is.start is.total is.here in
      let read = leaf_read (at + width whole v) (place + width whole v) vs (t ∷ before) (All-tail (λ w. width grid w ≡ times * width whole w) v vs finer) reached in
      let total : at + width whole v + sum_by (width whole) vs ≡ at + sum_by (width whole) (v ∷ vs) = omega (arith, sum_by-cons (width whole) v vs) in
      record {
        after = read.after;
        begins = ap (λ bs. bs ++ beginnings (t ∷ before) ts) (other_begins place s v next before ts) ∙ read.begins;
        reached = subst (λ k. IsReached grid times all n k read.after) total read.reached;
      }

  -- they all continue the tie, where the leaf sounds
  pub leaf_tied : (place : ℕ) (vs : List Value) → is_rest s.kind ≡ false → All (λ w. width grid w ≡ times * width whole w) vs
      → sum_by (width grid) (tied_values (values_read (leaf_values whole place s false vs ++ rest) later ++ more)) ≡ times * sum_by (width whole) vs + sum_by (width grid) (tied_values (values_read rest later ++ more))
  leaf_tied place [] sounds finer = omega arith
  leaf_tied place (v ∷ vs) sounds finer =
      let x = leaf_value place s false v in
      let next = next_goes_on (leaf_values whole (place + width whole v) s false vs ++ rest ++ later) in
      let t = value_token x next in
      let ts = values_read (leaf_values whole (place + width whole v) s false vs ++ rest) later ++ more in
      let goes : goes_on x ≡ true = rw sounds (or_true (is_tie s.kind)) in
      let own = All-head (λ w. width grid w ≡ times * width whole w) v vs finer in
      let others = leaf_tied (place + width whole v) vs sounds (All-tail (λ w. width grid w ≡ times * width whole w) v vs finer) in
      ap (sum_by (width grid)) (tied_next t ts (value_holds place s v next false ∙ goes) ∙ ap (λ us. us ++ tied_values ts) (values_one place s v next false))
      ∙ sum_by-cons (width grid) v (tied_values ts) ∙ ap₂ ◌+◌ own others ∙ joined times (width whole v) (sum_by (width whole) vs) (sum_by (width grid) (tied_values (values_read rest later ++ more)))
      ∙ ap (λ k. times * k + sum_by (width grid) (tied_values (values_read rest later ++ more))) (sym (sum_by-cons (width whole) v vs))
    where
      or_true : (b : Bool) → (b || true) ≡ true
      or_true true = refl
      or_true false = refl

      joined : (t a b c : ℕ) → t * a + (t * b + c) ≡ t * (a + b) + c
      joined t a b c = grind arith
