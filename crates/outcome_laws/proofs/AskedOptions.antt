-- What is asked for tells of a take only what is in range.
use Rattle.std.proofs.Common.{◌≡◌, ℕ, Bool, true, false, List, [], ◌∷◌, ◌++◌, map, Option, Some, None, refl}
use Rattle.std.specs.Prelude.{IfSome, length, if◌then◌else◌, nat_eq, nat_le, option_and_then, option_map, slice_get}
use Rattle.std.specs.Cmp.Lexicographic.{pointwise}
use Rattle.barline_fit.specs.declared.candidates.Candidates.{Candidates}
use Rattle.barline_fit.specs.declared.candidates.TheConstants.{MOST_CANDIDATES}
use Rattle.command_line.proofs.Ranges.{ranged}
use Rattle.command_line.specs.CommandLines.{HasOptions, invocation_of}
use Rattle.command_line.specs.Numbers.{number_in}
use Rattle.command_line.specs.declared.invocation.Invocation.{Invocation}
use Rattle.command_line.specs.declared.invocation.Invocation.TheVariants.{Help, Version, Command}
use Rattle.performance_prepare.specs.Ranges.{AreInRange, is_told}
use Rattle.performance_prepare.specs.declared.options.Options.{Options}
use Rattle.rhythm_app.specs.Inputs.{Inputs}
use Rattle.rhythm_app.specs.Asked.{Asked, Call, answer, asked_by, asked_of, at_word, calls, candidate_count, candidates_by, drill, drill_by, events, fit, command_by, fit_by, fit_of, follow, form_call, forms, generate, generate_by, inputs_named, learn, learn_by, learn_of, notes, of_inputs, of_one, of_six, of_two, other_calls, too_many_candidates, too_many_files, unscripted, untold, write}
use Rattle.rhythm_app.specs.declared.learn.TheConstants.{MOST_FILES}
use Rattle.rhythm_app.specs.declared.request.Form.{Form}
use Rattle.rhythm_app.specs.declared.request.Talk.TheVariants as talk
use Rattle.weight_learning.specs.declared.weights.TheConstants.{HEAVIEST_BIT}

-- the options of what is asked for are in range
abbrev pub HasAskedOptions : Asked → Type 0
HasAskedOptions (write form i) = AreInRange i.options
HasAskedOptions (answer talk i) = AreInRange i.options
HasAskedOptions (fit i c) = AreInRange i.options
HasAskedOptions (follow i) = AreInRange i.options
HasAskedOptions (notes midi o) = AreInRange o
HasAskedOptions _ = Unit {0}

-- it is so of what is asked for, if anything is
abbrev HasOptionsIn : Option Asked → Type 0
HasOptionsIn asked = IfSome asked HasAskedOptions

-- ---- by the number of words

one_in : (make : List ℕ → Option Asked) → ((a : List ℕ) → HasOptionsIn (make a)) → (words : List (List ℕ)) → HasOptionsIn (of_one make words)
one_in make each [] = tt
one_in make each (a ∷ []) = each a
one_in make each (a ∷ b ∷ more) = tt

two_in : (make : List ℕ → List ℕ → Option Asked) → ((a b : List ℕ) → HasOptionsIn (make a b)) → (words : List (List ℕ)) → HasOptionsIn (of_two make words)
two_in make each [] = tt
two_in make each (a ∷ []) = tt
two_in make each (a ∷ b ∷ []) = each a b
two_in make each (a ∷ b ∷ c ∷ more) = tt

six_in : (make : List ℕ → List ℕ → List ℕ → List ℕ → List ℕ → List ℕ → Option Asked)
    → ((a b c d e f : List ℕ) → HasOptionsIn (make a b c d e f)) → (words : List (List ℕ)) → HasOptionsIn (of_six make words)
six_in make each [] = tt
six_in make each (a ∷ []) = tt
six_in make each (a ∷ b ∷ []) = tt
six_in make each (a ∷ b ∷ c ∷ []) = tt
six_in make each (a ∷ b ∷ c ∷ d ∷ []) = tt
six_in make each (a ∷ b ∷ c ∷ d ∷ e ∷ []) = tt
six_in make each (a ∷ b ∷ c ∷ d ∷ e ∷ f ∷ []) = each a b c d e f
six_in make each (a ∷ b ∷ c ∷ d ∷ e ∷ f ∷ g ∷ more) = tt

map_in : {X : Type 0} (make : X → Asked) → ((x : X) → HasAskedOptions (make x)) → (o : Option X) → HasOptionsIn (option_map make o)
map_in make each None = tt
map_in make each (Some x) = each x

unscripted_in : (script : Option (List ℕ)) (asked : Option Asked) → HasOptionsIn asked → HasOptionsIn (unscripted script asked)
unscripted_in None asked has = has
unscripted_in (Some name) asked has = tt

untold_in : (o : Options) (script : Option (List ℕ)) (asked : Option Asked) → HasOptionsIn asked → HasOptionsIn (untold o script asked)
untold_in o script asked has = unscripted_in script (option_and_then (λ (a : Asked). if is_told o then None else Some a) asked) (told asked has)
  where
    told : (asked : Option Asked) → HasOptionsIn asked → HasOptionsIn (option_and_then (λ (a : Asked). if is_told o then None else Some a) asked)
    told None has = tt
    told (Some a) has = go (is_told o)
      where
        go : (b : Bool) → HasOptionsIn (if b then None else Some a)
        go true = tt
        go false = has

-- ---- the commands

fit_of_in : (i : Inputs) → AreInRange i.options → (c : Candidates) → HasAskedOptions (fit_of i c)
fit_of_in i range c = go (nat_le (candidate_count c) MOST_CANDIDATES)
  where
    go : (b : Bool) → HasAskedOptions (if b then fit i c else too_many_candidates (candidate_count c))
    go true = range
    go false = tt

learn_of_in : (bit : ℕ) (grammar : List ℕ) (midis : List (List ℕ)) → HasAskedOptions (learn_of bit grammar midis)
learn_of_in bit grammar midis = go (nat_le (length midis) MOST_FILES)
  where
    go : (b : Bool) → HasAskedOptions (if b then learn bit grammar midis else too_many_files (length midis))
    go true = tt
    go false = tt

learn_in : (words : List (List ℕ)) → HasOptionsIn (learn_by words)
learn_in [] = tt
learn_in (a ∷ []) = tt
learn_in (a ∷ b ∷ []) = tt
learn_in (bit ∷ grammar ∷ midi ∷ more) =
    map_in (λ (b : ℕ). learn_of b grammar (midi ∷ more)) (λ b. learn_of_in b grammar (midi ∷ more)) (number_in 1 HEAVIEST_BIT bit)

generate_in : (number bars : List ℕ) → HasOptionsIn (generate_by number bars)
generate_in number bars = go (number_in 0 65534 number)
  where
    go : (n : Option ℕ) → HasOptionsIn (option_and_then (λ (n : ℕ). option_map (λ (b : ℕ). generate n b) (number_in 1 2000 bars)) n)
    go None = tt
    go (Some n) = map_in (λ (b : ℕ). generate n b) (λ b. tt) (number_in 1 2000 bars)

module _ (o : Options) (script : Option (List ℕ)) (range : AreInRange o) where
  abbrev IsCallIn : Call → Type 0
  IsCallIn c = (words : List (List ℕ)) → HasOptionsIn (c.asked o script words)

  inputs_in : (make : Inputs → Asked) → ((midi grammar : List ℕ) → HasAskedOptions (make (inputs_named o script midi grammar)))
      → (words : List (List ℕ)) → HasOptionsIn (of_inputs make o script words)
  inputs_in make each = two_in (λ midi grammar. Some (make (inputs_named o script midi grammar))) each

  of_range : (make : Inputs → Asked) → ((i : Inputs) → AreInRange i.options → HasAskedOptions (make i)) → (words : List (List ℕ)) → HasOptionsIn (of_inputs make o script words)
  of_range make each = inputs_in make (λ midi grammar. each (inputs_named o script midi grammar) range)

  fits_in : (words : List (List ℕ)) → HasOptionsIn (of_six (fit_by o script) words)
  fits_in =
      six_in (fit_by o script) (λ midi grammar bar low high step. map_in (λ (c : Candidates). fit_of (inputs_named o script midi grammar) c) (fit_of_in (inputs_named o script midi grammar) range)
      (candidates_by bar low high step))

  -- it is so of each call, one after another
  abbrev AreCallsIn : List Call → Type 0
  AreCallsIn [] = Unit {0}
  AreCallsIn (c ∷ cs) = IsCallIn c × AreCallsIn cs

  each_other : AreCallsIn other_calls
  each_other =
      (of_range (answer talk.Editing) (λ i h. h), (of_range (answer talk.Studio) (λ i h. h), (fits_in, (of_range follow (λ i h. h), ((λ words. untold_in o script (learn_by words) (learn_in words)), ((λ words. unscripted_in script (of_one (λ a. Some (notes a o)) words) (one_in (λ a. Some (notes a o)) (λ a. range) words)), ((λ words. untold_in o script (of_one (λ a. Some (events a)) words) (one_in (λ a. Some (events a)) (λ a. tt) words)), ((λ words. untold_in o script (of_two generate_by words) (two_in generate_by generate_in words)), ((λ words. untold_in o script (of_two drill_by words) (two_in drill_by (λ number grammar. map_in (λ (n : ℕ). drill n grammar) (λ n. tt) (number_in 0 65534 number)) words)), tt)))))))))

  each_form : (named : List (List ℕ × Form)) → AreCallsIn (map form_call named ++ other_calls)
  each_form [] = each_other
  each_form (n ∷ named) = (of_range (write n.1) (λ i h. h), each_form named)

  each_call : AreCallsIn calls
  each_call = each_form forms

  at_word_in : (word : List ℕ) (more : List (List ℕ)) (cs : List Call) → AreCallsIn cs → HasOptionsIn (at_word (λ c. c.asked o script more) word cs)
  at_word_in word more [] each = tt
  at_word_in word more (c ∷ cs) each = go (pointwise nat_eq word c.word) (at_word_in word more cs each.1)
    where
      go : (b : Bool) → HasOptionsIn (at_word (λ c. c.asked o script more) word cs) → HasOptionsIn (if b then c.asked o script more else at_word (λ c. c.asked o script more) word cs)
      go true later = each.0 more
      go false later = later

  command_in : (words : List (List ℕ)) → HasOptionsIn (command_by o script words)
  command_in [] = tt
  command_in (word ∷ more) = at_word_in word more calls each_call

-- ---- the words

said_in : (said : Invocation) → HasOptions said → HasOptionsIn (asked_of said)
said_in Help has = tt
said_in Version has = tt
said_in (Command line) has = command_in line.options (slice_get line.script 0) has line.words

pub asked_in : (words : List (List ℕ)) → IfSome (asked_by words) HasAskedOptions
unfolding asked_by
asked_in words = go (invocation_of words) refl
  where
    go : (o : Option Invocation) → invocation_of words ≡ o → HasOptionsIn (option_and_then asked_of o)
    go None e = tt
    go (Some said) e = said_in said (ranged words said e)
