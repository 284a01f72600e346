-- The choices of a seat with one cut more, and when a cut is passed over.
use Rattle.std.proofs.Common.{◌⊎◌, ◌≡◌, ◌≢◌, ℕ, ◌+◌, ◌<◌, ◌≤◌, ◌==◌, Bool, true, false, List, [], ◌∷◌, length, refl, ◌∙◌, subst, arith}
use Rattle.std.specs.Prelude.{Option, Some, None, if◌then◌else◌, slice_set}
use Rattle.std.proofs.lemmas.Bool.Decides.{nat_tests}
use Rattle.std.proofs.lemmas.Grind.{get_or-set_at}
use Rattle.std.proofs.lemmas.List.{get_or-set_other}
use Rattle.rhythm_base.specs.BarInput.{BarInput}
use Rattle.rhythm_base.specs.Grammar.{Grammar}
use Rattle.rhythm_base.specs.Ranked.{Key}
use Rattle.tree_laws.specs.Forests.{Ground, IsForestKey}
use Rattle.bar_view.specs.declared.leaf.Leaf.{Leaf}
use Rattle.row_laws.specs.Grounds.{IsReady, ground_of}
use Rattle.row_laws.proofs.Grounds.{grounded}
use Rattle.row_laws.proofs.Passing.{next-most}
use Rattle.grammar_plan.specs.Plans.{IsSeat, pair_of}
use Rattle.grammar_plan.specs.declared.cut.Cut.{Cut}
use Rattle.grammar_plan.specs.declared.seat.Seat.{Seat}
use Rattle.least_rows.specs.Searches.{ground_in, IsSearch}
use Rattle.least_rows.specs.declared.search.Search.{Search}
use Rattle.least_rows.specs.Choices.{AreBestChoices, RulesBefore, choice_in, nearer_choice, topped_choice}
use Rattle.least_rows.specs.Ways.{AreWays, one_way}
use Rattle.least_rows.specs.Steps.{CarriesAtMost, IsLeafAt, most_out}
use Rattle.least_rows.specs.Tops.{AreChoicesBeforeTop, AreChoicesWithTop, IsOffered, IsTop, parts_below}
use Rattle.least_rows.specs.declared.choice.Choice.{Choice}
use Rattle.least_rows.specs.declared.top.Top.{Top}
use Rattle.least_rows.specs.declared.way.Way.{Way}
use Rattle.least_rows.proofs.Asked.{seat-of}
use Rattle.least_rows.proofs.Choices.{choices-cut, choices-rules, cut-new, one-cut-less, one-more-cut}
use Rattle.least_rows.proofs.Cutting.{cut-few, cut-wide}
use Rattle.least_rows.proofs.Known.{seat-same}
use Rattle.least_rows.proofs.Limits.{AllComeFirst, choices-over}

-- one way alone is offered
pub one-offered : (best : List (Option Choice)) (count : ℕ) → count < length best → (v : Option Choice) (cut : Cut) (number : ℕ) (way : Way) → v ≡ nearer_choice (choice_in best count) (topped_choice cut number (Some way))
    → (b : ℕ) → choice_in (slice_set best count v) b ≡ nearer_choice (choice_in best b) (topped_choice cut number (one_way way count b))
one-offered best count low v cut number way is b = go (count == b) refl
  where
    go : (t : Bool) → (count == b) ≡ t → choice_in (slice_set best count v) b ≡ nearer_choice (choice_in best b) (topped_choice cut number (if t then Some way else None))
    go true e =
        let same : count ≡ b = grind (arith, nat_tests) in
        subst (λ b. choice_in (slice_set best count v) b ≡ nearer_choice (choice_in best b) (topped_choice cut number (Some way))) same (get_or-set_at best count count v None refl low ∙ is)
    go false e = let other : b ≢ count = λ s. grind (arith, nat_tests) in get_or-set_other best count b v None other

-- no more chords are carried out than the leaf tells
pub most-so : (g : Grammar) (k : BarInput) → IsReady g k → (place w symbol : ℕ) → 1 ≤ w → (leaf : Option Leaf) → IsLeafAt g k place w leaf
    → (a b : ℕ) (key : Key) → IsForestKey (ground_of g k) None place ((w, symbol) ∷ []) a b key → b ≤ most_out leaf
most-so g k ready place w symbol wide None h a b key f = f.1.fits.few_to
most-so g k ready place w symbol wide (Some l) h a b key f =
    let right = h.0.next_chords in
    let few = next-most g k ready place w symbol a b key wide f in
    omega (arith, right, few)

-- nor ever more than four
pub most-four : (bar : Search) (seat place : ℕ) → CarriesAtMost bar seat place 4
most-four bar seat place s a b key at f = f.1.fits.few_to

module _ (bar : Search) (is : IsSearch bar) (top : Top) (cut : Cut) (t : IsTop bar top cut) (old : List (Option Choice))
    (before : AreChoicesBeforeTop bar top old) where
  abbrev d : Ground
  d = ground_in bar

  zone : IsSeat bar.grammar.now bar.plan.now t.seat
  zone = seat-of bar.grammar.now bar.plan.now is.plan_of top.seat t.seat t.at

  -- the rules before the next cut are those before this one, and its own
  after : (new : List (Option Choice)) → AreBestChoices d bar.plan.now top.place (pair_of t.seat) top.from (λ r. RulesBefore bar.grammar.now bar.plan.now t.seat top.number r ⊎ (r ≡ cut.rule)) new
      → AreChoicesWithTop bar top new
  after new h s at =
      subst (λ (s : Seat). AreBestChoices d bar.plan.now top.place (pair_of s) top.from (RulesBefore bar.grammar.now bar.plan.now s (top.number + 1)) new) (seat-same bar.plan.now top.seat top.seat t.seat s refl t.at at)
      (choices-rules d bar.plan.now top.place (pair_of t.seat) top.from (λ r. RulesBefore bar.grammar.now bar.plan.now t.seat top.number r ⊎ (r ≡ cut.rule)) (RulesBefore bar.grammar.now bar.plan.now t.seat (top.number + 1)) new
      (one-more-cut bar.grammar.now bar.plan.now t.seat top.number cut t.first t.there) (one-cut-less bar.grammar.now bar.plan.now t.seat top.number cut t.there) h)

  pub choices-offered : (new : List (Option Choice)) → IsOffered bar top cut old new → AreChoicesWithTop bar top new
  choices-offered new h =
      let own = h t in
      after new (choices-cut d bar.plan.now top.place (pair_of t.seat) top.from (RulesBefore bar.grammar.now bar.plan.now t.seat top.number) old (before t.seat t.at) top.number cut t.there t.is
      (cut-new bar.grammar.now bar.plan.now t.seat zone top.number cut t.is.rule t.first t.end t.there t.is.is) own.0 (cut-few bar.grammar.now bar.input.now bar.plan.now is.ready t.seat zone cut t.is) own.1 new own.2)

  pub choices-passed : (most : ℕ) → CarriesAtMost bar top.seat top.place most → (n : ℕ) (w : Way) (m : ℕ) → AreWays d top.place (parts_below bar top cut t) top.from n (one_way w m)
      → AllComeFirst old most cut w.cost → AreChoicesWithTop bar top old
  choices-passed most few n w m ways first =
      after old (choices-over d (grounded bar.grammar.now bar.input.now is.ready) bar.plan.now top.place (pair_of t.seat) top.from (RulesBefore bar.grammar.now bar.plan.now t.seat top.number) old (before t.seat t.at) cut t.is
      (cut-wide bar.grammar.now bar.input.now bar.plan.now is.ready t.seat zone cut t.is) most (λ b key f. few t.seat top.from b key t.at f) n w m ways first)
