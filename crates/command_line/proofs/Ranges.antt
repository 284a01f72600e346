-- What the options of a command line tell of a take is in range.
use Rattle.std.proofs.Common.{◌≡◌, ℕ, zero, suc, ℤ, pos, ◌≤◌, Bool, true, false, List, Option, Some, None, codes, refl, sym, subst, ◌≢◌, arith}
use Rattle.std.specs.Prelude.{if◌then◌else◌, neg_ℤ, ◌==◌, option_and_then, option_map}
use Rattle.std.specs.List.{after_first, before_first}
use Rattle.std.proofs.lemmas.Bool.Decides.{nat_tests}
use Rattle.clap.specs.Walk.{Row}
use Rattle.performance_prepare.specs.Drums.{drum_channel}
use Rattle.performance_prepare.specs.Ranges.{AreInRange, IfGiven, IsFraction, IsKey, IsKeyboard}
use Rattle.performance_prepare.specs.declared.options.Fraction.{Fraction}
use Rattle.performance_prepare.specs.declared.options.Options.{Options}
use Rattle.rhythm_base.specs.Signatures.{is_den}
use Rattle.command_line.specs.CommandLines.{HasOptions, command_line_of, line_matches, line_said, script_in, words_given}
use Rattle.command_line.specs.Laws.{OptionsAreInRange}
use Rattle.command_line.specs.Numbers.{after_hyphen, fraction_in, fraction_of, is_slash, key_by, key_in, keyboard_in, keyboard_of, number_in, workers_of}
use Rattle.command_line.specs.Preparing.{◌>>=◌, options_of, told, word_in}
use Rattle.command_line.specs.Requests.{asks, is_help, is_version}
use Rattle.command_line.specs.declared.invocation.CommandLine.{CommandLine}
use Rattle.command_line.specs.declared.invocation.Invocation.{Invocation}
use Rattle.command_line.specs.declared.invocation.Invocation.TheVariants.{Help, Version, Command}
use Rattle.command_line.proofs.Numbers.{as_in_scripts}
use Rattle.command_line.proofs.Rows.{Text}

module _ {A B : Type 0} where
  -- a second step is had where both are
  pub then_some : (o : Option A) (next : A → Option B) (y : B) → (o >>= next) ≡ Some y
      → (x : A) × (o ≡ Some x) × (next x ≡ Some y)
  then_some None next y e = absurd (cc)
  then_some (Some x) next y e = (x, refl, e)

  and_then_some : (f : A → Option B) (o : Option A) (y : B) → option_and_then f o ≡ Some y
      → (x : A) × (o ≡ Some x) × (f x ≡ Some y)
  and_then_some f None y e = absurd (cc)
  and_then_some f (Some x) y e = (x, refl, e)

  map_some : (f : A → B) (o : Option A) (y : B) → option_map f o ≡ Some y → (x : A) × (o ≡ Some x) × (f x ≡ y)
  map_some f None y e = absurd (cc)
  map_some f (Some x) y e = (x, refl, cc)

number_low : (least most n : ℕ) (word : Text) → number_in least most word ≡ Some n → (n ≤ most) × (least ≤ n)
number_low least most n word e = let is = (as_in_scripts least most n word).0 e in (is.0.high, is.1)

-- a fraction of a number up to 64 and a power of two
of_numbers : (num den : ℕ) (f : Fraction) → num ≤ 64 → fraction_of num den ≡ Some f → IsFraction f
of_numbers num den f few = go (is_den den) refl
  where
    go : (b : Bool) → is_den den ≡ b → (if b then Some (record { num = num; den = den }) else None) ≡ Some f → IsFraction f
    go true power e = let same : (let it : Fraction = record { num = num; den = den } in it) ≡ f = cc in subst IsFraction same (record { few = few; power = power })
    go false power e = absurd (cc)

pub fraction_ranged : (least : ℕ) (word : Text) (f : Fraction) → fraction_in least word ≡ Some f → IsFraction f
fraction_ranged least word f e =
    let outer = and_then_some (λ (num : ℕ). option_and_then (λ (den : ℕ). fraction_of num den) (number_in 1 64 (after_first is_slash word)))
    (number_in least 64 (before_first is_slash word)) f e in
    let inner = and_then_some (λ (den : ℕ). fraction_of outer.0 den) (number_in 1 64 (after_first is_slash word)) f outer.2 in
    of_numbers outer.0 inner.0 f (number_low least 64 outer.0 (before_first is_slash word) outer.1).0 inner.2

pub key_ranged : (word : Text) (k : ℤ) → key_in word ≡ Some k → IsKey k
key_ranged word k = go (after_hyphen word)
  where
    sharps : (n : ℕ) → n ≤ 7 → IsKey (pos n)
    sharps n few = record { low = grind (arith, nat_tests, few); high = grind (arith, nat_tests, few) }

    flats : (n : ℕ) → n ≤ 7 → IsKey (neg_ℤ (pos n))
    flats zero few = record { low = grind (arith, nat_tests, few); high = grind (arith, nat_tests, few) }
    flats (suc n) few = record { low = grind (arith, nat_tests, few); high = grind (arith, nat_tests, few) }

    go : (o : Option Text) → key_by word o ≡ Some k → IsKey k
    go None e = let is = map_some pos (number_in 0 7 word) k e in subst IsKey is.2 (sharps is.0 (number_low 0 7 is.0 word is.1).0)
    go (Some rest) e =
        let is = map_some (λ (n : ℕ). neg_ℤ (pos n)) (number_in 0 7 rest) k e in subst IsKey is.2 (flats is.0 (number_low 0 7 is.0 rest is.1).0)

no_drums : (n : ℕ) → (n == 9) ≡ false → n ≢ drum_channel
no_drums n e same = let bad : 9 ≡ n = sym same in grind (arith, nat_tests, e, bad)

of_channel : (n c : ℕ) → n ≤ 15 → keyboard_of n ≡ Some c → IsKeyboard c
of_channel n c few = go (n == 9) refl
  where
    go : (b : Bool) → (n == 9) ≡ b → (if b then None else Some n) ≡ Some c → IsKeyboard c
    go true is e = absurd (cc)
    go false other e = let same : n ≡ c = cc in subst IsKeyboard same (record { channel = omega (arith, few); pitched = no_drums n other })

pub keyboard_ranged : (word : Text) (c : ℕ) → keyboard_in word ≡ Some c → IsKeyboard c
keyboard_ranged word c e =
    let n = and_then_some keyboard_of (number_in 0 15 word) c e in of_channel n.0 c (number_low 0 15 n.0 word n.1).0 n.2

-- what is told is in range, if anything is told
record IsRanged (told : Option Options) : Type 0 where
  pub has : (o : Options) → told ≡ Some o → AreInRange o

-- what the words of an option say, and then the others
then_in : {X : Type 0} (read : Text → Option X) (P : X → Type 0) → ((word : Text) (x : X) → read word ≡ Some x → P x)
    → (said : Option Text) (next : Option X → Option Options) → ((x : Option X) → IfGiven x P → IsRanged (next x))
    → IsRanged (told read said >>= next)
then_in {X} read P ranged None next each = each None tt
then_in {X} read P ranged (Some word) next each = go (read word) refl
  where
    go : (o : Option X) → read word ≡ o → IsRanged (option_map (λ (x : X). Some x) o >>= next)
    go None e = record { has = λ o none. absurd (cc) }
    go (Some x) e = each (Some x) (ranged word x e)

abbrev IsFrom : ℕ → ℕ → ℕ → Type 0
IsFrom least most n = (n ≤ most) × (least ≤ n)

given_from : {P Q : ℕ → Type 0} → ((n : ℕ) → P n → Q n) → (x : Option ℕ) → IfGiven x P → IfGiven x Q
given_from within None is = tt
given_from within (Some n) is = within n is

-- a number is in each range that has all numbers from the least to the most
number_then : (least most : ℕ) (said : Option Text) (next : Option ℕ → Option Options)
    → ((x : Option ℕ) → ((P : ℕ → Type 0) → ((n : ℕ) → n ≤ most → least ≤ n → P n) → IfGiven x P) → IsRanged (next x))
    → IsRanged (told (number_in least most) said >>= next)
number_then least most said next each =
    then_in (number_in least most) (IsFrom least most) (λ word n. number_low least most n word) said next
    (λ x is. each x (λ P within. given_from (λ n from. within n from.0 from.1) x is))

keyboard_then : (said : Option Text) (next : Option ℕ → Option Options)
    → ((x : Option ℕ) → IfGiven x IsKeyboard → IsRanged (next x)) → IsRanged (told keyboard_in said >>= next)
keyboard_then = then_in keyboard_in IsKeyboard keyboard_ranged

fraction_then : (least : ℕ) (said : Option Text) (next : Option Fraction → Option Options)
    → ((x : Option Fraction) → IfGiven x IsFraction → IsRanged (next x))
    → IsRanged (told (fraction_in least) said >>= next)
fraction_then least = then_in (fraction_in least) IsFraction (fraction_ranged least)

key_then : (said : Option Text) (next : Option ℤ → Option Options)
    → ((x : Option ℤ) → IfGiven x IsKey → IsRanged (next x)) → IsRanged (told key_in said >>= next)
key_then = then_in key_in IsKey key_ranged

-- and at last all of it
at_last : (o : Options) → AreInRange o → IsRanged (Some o)
at_last o range = record { has = λ p same. let is : o ≡ p = cc in subst AreInRange is range }

-- each option is one step of the search
told_ranged : (said : Text → Option Text) → IsRanged (options_of said)
told_ranged said =
    search (number_then, keyboard_then, fraction_then, key_then, at_last) depth 20 fits 4000

options_ranged : (said : Text → Option Text) (o : Options) → options_of said ≡ Some o → AreInRange o
options_ranged said = (told_ranged said).has

line_ranged : (rows : List Row) (line : CommandLine) → line_said rows ≡ Some line → AreInRange line.options
line_ranged rows line e =
    let workers =
    then_some (workers_of (word_in rows (codes "workers"))) (λ (n : ℕ). options_of (word_in rows) >>= line_by rows n)
    line e in
    let told = then_some (options_of (word_in rows)) (line_by rows workers.0) line workers.2 in
    let is : line_with rows workers.0 told.0 ≡ line = cc in
    subst (λ (l : CommandLine). AreInRange l.options) is (options_ranged (word_in rows) told.0 told.1)
  where
    line_with : List Row → ℕ → Options → CommandLine
    line_with rows n told = record { workers = n; options = told; script = script_in rows; words = words_given rows }

    line_by : List Row → ℕ → Options → Option CommandLine
    line_by rows n told = Some (line_with rows n told)

pub words_ranged : (words : List Text) (line : CommandLine) → command_line_of words ≡ Some line
    → AreInRange line.options
words_ranged words line e =
    let rows = and_then_some line_said (line_matches words) line e in line_ranged rows.0 line rows.2

pub ranged : OptionsAreInRange
ranged words said e = go (asks is_help words) (asks is_version words) e
  where
    no_line : (i : Invocation) → Some i ≡ Some said → HasOptions i → HasOptions said
    no_line i e has = let same : i ≡ said = cc in subst HasOptions same has

    go : (help version : Bool) → (if help then Some Help else if version then Some Version else option_map Command (command_line_of words)) ≡ Some said → HasOptions said
    go true version e = no_line Help e tt
    go false true e = no_line Version e tt
    go false false e =
        let line = map_some Command (command_line_of words) said e in
        subst HasOptions line.2 (words_ranged words line.0 line.1)
