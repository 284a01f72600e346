use Rattle.std.proofs.Common.{rules, ◌≡◌, ℕ, ◌≤◌, ◌+◌, ◌++◌, ◌∷◌, [], ◌∙◌, List, refl, sym, ap, subst, drop, take, get_or, arith}
use Rattle.std.specs.Prelude.{All, reverse}
use Rattle.std.proofs.lemmas.List.{take-append-drop, take_all, take_more}
use Rattle.edit_session.specs.Prepared.{Prepared, RisesBy}
use Rattle.rhythm_base.specs.declared.edit.Edit.{Edit}
use Rattle.rhythm_base.specs.Grammar.{Grammar}
use Rattle.rhythm_base.specs.Performance.{Performance}
use Rattle.rhythm_base.specs.Voices.{HasDerivation}
use Rattle.barline_follow.specs.Builds.{AreReachedInTurn, AreWithinReachInTurn}
use Rattle.barline_follow.specs.Script.{Accepts, IsOfBars, Leads}
use Rattle.barline_follow.specs.Trial.{IsTriedEdit, LeadBack}
use Rattle.barline_follow.proofs.ReachedInTurn.{built_first, built_more, built_none, built_some_more, built_to, built_within}
use Rattle.barline_follow.proofs.Searching.{in_parts}
use Rattle.barline_follow.proofs.Trials.{alone}
use Rattle.barline_follow.proofs.WayBack.{back_grown, back_more, leads_more, next_accepted}
use Rattle.barline_follow.proofs.trial.make_all.Goals as goal

-- nothing was made: the ways back are those that there were
unmade : (g h : Grammar) → h ≡ g → (a b : ℕ) (p q start : Performance) (backs same : List Prepared) → a ≤ b → LeadBack g a p (reverse backs) start
    → same ≡ backs → q ≡ p → LeadBack h b q (reverse same) start
unmade g h grammar a b p q start backs same le leads is stays =
    subst (λ (k : Grammar). LeadBack k b q (reverse same) start) (sym grammar)
    (subst (λ (r : Performance). LeadBack g b r (reverse same) start) (sym stays)
    (subst (λ (l : List Prepared). LeadBack g b p (reverse l) start) (sym is) (back_grown g a b p (reverse backs) start le leads)))

pub edits-init : goal.edits-init
edits-init g c = (
  refl,
  omega arith,
  subst (λ (l : List Prepared). LeadBack c.args.session.now.grammar c.args.session.now.room c.args.session.now.performance (reverse l) c.args.session.now.performance) (sym c.requires) refl,
  refl,
  omega arith,
  λ bars. built_none c.args.session.now.grammar c.args.session.now.performance c.args.builds.now,
)

pub returns-in_err-make-clause-back : goal.returns-in_err-make-clause-back
returns-in_err-make-clause-back g c =
    unmade c.edits.session.grammar c.make.new.session.grammar c.make.ensures.kept.grammar c.edits.session.room c.make.new.session.room c.edits.session.performance c.make.new.session.performance c.args.session.now.performance
    c.edits.backs.items c.reserve.new.self.items c.make.ensures.kept.room c.edits.invariant.2 c.reserve.ensures.items c.in_err-make.ensures.memory.0

pub returns-in-None-clause-back : goal.returns-in-None-clause-back
returns-in-None-clause-back g c =
    unmade c.edits.session.grammar c.make.new.session.grammar c.make.ensures.kept.grammar c.edits.session.room c.make.new.session.room c.edits.session.performance c.make.new.session.performance c.args.session.now.performance
    c.edits.backs.items c.reserve.new.self.items c.make.ensures.kept.room c.edits.invariant.2 c.reserve.ensures.items
    (subst (IsTriedEdit c.edits.session c.edit-item.result c.make.new.session) c.in-None.is c.in_ok-make.ensures.tried).0

pub edits-preserved : goal.edits-preserved
edits-preserved g c =
    let grammar : Grammar = c.args.session.now.grammar in
    let start : Performance = c.args.session.now.performance in
    let was : Performance = c.edits.session.performance in
    let now : Performance = c.make.new.session.performance in
    let back : Prepared = c.in-Some.back in
    let grammar_is = c.edits.invariant.0 in
    let edit : Edit = c.edit-item.result in
    let tried = subst (IsTriedEdit c.edits.session edit c.make.new.session) c.in-Some.is c.in_ok-make.ensures.tried in
    let derivations = subst (λ (h : Grammar). All (HasDerivation h now) now.channels) grammar_is tried.0.2 in
    let it : get_or c.args.script.now c.edits.edit-index edit ≡ edit = search rules in
    let taken : take (c.edits.edit-index + 1) c.args.script.now ≡ take c.edits.edit-index c.args.script.now ++ (edit ∷ []) =
    take_more c.args.script.now c.edits.edit-index edit c.edits-test.true ∙ ap (λ x. take c.edits.edit-index c.args.script.now ++ (x ∷ [])) it in
    let pushed : c.push.new.self.items ≡ c.edits.backs.items ++ (back ∷ []) = search rules in (
      c.make.ensures.kept.grammar ∙ grammar_is,
      omega (arith, c.edits.invariant.1, c.make.ensures.kept.room),
      subst (λ (h : Grammar). LeadBack h c.make.new.session.room now (reverse c.push.new.self.items) start) (sym c.make.ensures.kept.grammar)
          (subst (λ (l : List Prepared). LeadBack c.edits.session.grammar c.make.new.session.room now (reverse l) start) (sym pushed)
          (back_more c.edits.session.grammar c.edits.session.room c.make.new.session.room was now c.edits.backs.items back start c.make.ensures.kept.room c.edits.invariant.2 tried.1 tried.2)),
      subst (λ (l : List Edit). Leads grammar start l now) (sym taken)
          (leads_more grammar start was (take c.edits.edit-index c.args.script.now) edit now c.edits.invariant.3 tried.0.0 tried.0.1 derivations),
      (let more = c.make.ensures.products.0 in omega (arith, c.edits.invariant.4, more)),
      λ bars.
          let of_bars : IsOfBars edit = subst IsOfBars it (bars c.edits.edit-index edit c.edits-test.true) in
          let rises = subst (λ (h : Grammar). RisesBy c.edits.builds c.make.new.builds (AreReachedInTurn h was (edit ∷ []))) grammar_is (c.in_ok-make.ensures.reached (alone edit of_bars)) in
          subst (λ (l : List Edit). RisesBy c.args.builds.now c.make.new.builds (AreReachedInTurn grammar start l)) (sym taken)
          (built_more grammar start was (take c.edits.edit-index c.args.script.now) c.args.builds.now c.edits.builds c.edits.invariant.3 (c.edits.invariant.5 bars) edit c.make.new.builds rises),
    )

pub returns-in-None-clause-made : goal.returns-in-None-clause-made
returns-in-None-clause-made g c bars after leads =
    let grammar : Grammar = c.args.session.now.grammar in
    let start : Performance = c.args.session.now.performance in
    let was : Performance = c.edits.session.performance in
    let i : ℕ = c.edits.edit-index in
    let edit : Edit = c.edit-item.result in
    let it : get_or c.args.script.now i edit ≡ edit = search rules in
    let parts : c.args.script.now ≡ take i c.args.script.now ++ (edit ∷ drop (i + 1) c.args.script.now) =
    in_parts c.args.script.now i edit c.edits-test.true ∙ ap (λ x. take i c.args.script.now ++ (x ∷ drop (i + 1) c.args.script.now)) it in
    let next = next_accepted grammar start was after (take i c.args.script.now) edit (drop (i + 1) c.args.script.now) c.edits.invariant.3
    (subst (λ (l : List Edit). Leads grammar start l after) parts leads) in
    (subst (IsTriedEdit c.edits.session edit c.make.new.session) c.in-None.is c.in_ok-make.ensures.tried).1 (subst IsOfBars it (bars i edit c.edits-test.true)) next.0
    (subst (λ (h : Grammar). Accepts h was edit next.0) (sym c.edits.invariant.0) next.1)

pub returns-in_err-reserve-clause-most : goal.returns-in_err-reserve-clause-most
returns-in_err-reserve-clause-most g c bars =
    let grammar : Grammar = c.args.session.now.grammar in
    let start : Performance = c.args.session.now.performance in
    let i : ℕ = c.edits.edit-index in
    subst (λ (l : List Edit). RisesBy c.args.builds.now c.edits.builds (AreWithinReachInTurn grammar start l)) (take-append-drop i c.args.script.now)
    (built_first grammar start c.edits.session.performance (take i c.args.script.now) c.args.builds.now c.edits.builds c.edits.invariant.3 (c.edits.invariant.5 bars) (drop i c.args.script.now))

pub returns-in_err-make-clause-most : goal.returns-in_err-make-clause-most
returns-in_err-make-clause-most g c bars =
    let grammar : Grammar = c.args.session.now.grammar in
    let start : Performance = c.args.session.now.performance in
    let was : Performance = c.edits.session.performance in
    let i : ℕ = c.edits.edit-index in
    let edit : Edit = c.edit-item.result in
    let it : get_or c.args.script.now i edit ≡ edit = search rules in
    let parts : c.args.script.now ≡ take i c.args.script.now ++ (edit ∷ drop (i + 1) c.args.script.now) =
    in_parts c.args.script.now i edit c.edits-test.true ∙ ap (λ x. take i c.args.script.now ++ (x ∷ drop (i + 1) c.args.script.now)) it in
    let rises = subst (λ (h : Grammar). RisesBy c.edits.builds c.make.new.builds (AreWithinReachInTurn h was (edit ∷ []))) c.edits.invariant.0 (c.in_err-make.ensures.most (alone edit (subst IsOfBars it (bars i edit c.edits-test.true)))) in
    subst (λ (l : List Edit). RisesBy c.args.builds.now c.make.new.builds (AreWithinReachInTurn grammar start l)) (sym parts)
    (built_some_more grammar start was (take i c.args.script.now) c.args.builds.now c.edits.builds c.edits.invariant.3 (c.edits.invariant.5 bars) edit (drop (i + 1) c.args.script.now)
    c.make.new.builds rises)

pub returns-in-None-clause-most : goal.returns-in-None-clause-most
returns-in-None-clause-most g c bars =
    let grammar : Grammar = c.args.session.now.grammar in
    let start : Performance = c.args.session.now.performance in
    let was : Performance = c.edits.session.performance in
    let i : ℕ = c.edits.edit-index in
    let edit : Edit = c.edit-item.result in
    let it : get_or c.args.script.now i edit ≡ edit = search rules in
    let parts : c.args.script.now ≡ take i c.args.script.now ++ (edit ∷ drop (i + 1) c.args.script.now) =
    in_parts c.args.script.now i edit c.edits-test.true ∙ ap (λ x. take i c.args.script.now ++ (x ∷ drop (i + 1) c.args.script.now)) it in
    let rises = subst (λ (h : Grammar). RisesBy c.edits.builds c.make.new.builds (AreWithinReachInTurn h was (edit ∷ []))) c.edits.invariant.0 (c.in_ok-make.ensures.most (alone edit (subst IsOfBars it (bars i edit c.edits-test.true)))) in
    subst (λ (l : List Edit). RisesBy c.args.builds.now c.make.new.builds (AreWithinReachInTurn grammar start l)) (sym parts)
    (built_some_more grammar start was (take i c.args.script.now) c.args.builds.now c.edits.builds c.edits.invariant.3 (c.edits.invariant.5 bars) edit (drop (i + 1) c.args.script.now)
    c.make.new.builds rises)

pub returns-in-None-clause-reached : goal.returns-in-None-clause-reached
returns-in-None-clause-reached g c bars =
    let grammar : Grammar = c.args.session.now.grammar in
    let start : Performance = c.args.session.now.performance in
    let was : Performance = c.edits.session.performance in
    let i : ℕ = c.edits.edit-index in
    let edit : Edit = c.edit-item.result in
    let it : get_or c.args.script.now i edit ≡ edit = search rules in
    let parts : c.args.script.now ≡ take i c.args.script.now ++ (edit ∷ drop (i + 1) c.args.script.now) =
    in_parts c.args.script.now i edit c.edits-test.true ∙ ap (λ x. take i c.args.script.now ++ (x ∷ drop (i + 1) c.args.script.now)) it in
    let of_bars : IsOfBars edit = subst IsOfBars it (bars i edit c.edits-test.true) in
    let never : (next : Performance) → Accepts grammar was edit next → ⊥ =
    λ next accepts. (subst (IsTriedEdit c.edits.session edit c.make.new.session) c.in-None.is c.in_ok-make.ensures.tried).1 of_bars next (subst (λ (h : Grammar). Accepts h was edit next) (sym c.edits.invariant.0) accepts) in
    let rises = subst (λ (h : Grammar). RisesBy c.edits.builds c.make.new.builds (AreReachedInTurn h was (edit ∷ []))) c.edits.invariant.0 (c.in_ok-make.ensures.reached (alone edit of_bars)) in
    subst (λ (l : List Edit). RisesBy c.args.builds.now c.make.new.builds (AreReachedInTurn grammar start l)) (sym parts)
    (built_to grammar start was (take i c.args.script.now) c.args.builds.now c.edits.builds c.edits.invariant.3 (c.edits.invariant.5 bars) edit (drop (i + 1) c.args.script.now)
    c.make.new.builds never rises)

pub returns-clause-reached : goal.returns-clause-reached
returns-clause-reached g c bars =
    subst (λ (l : List Edit). RisesBy c.args.builds.now c.edits.builds (AreReachedInTurn c.args.session.now.grammar c.args.session.now.performance l))
    (take_all c.edits.edit-index c.args.script.now (omega (arith, c.edits-test.false))) (c.edits.invariant.5 bars)

pub returns-clause-most : goal.returns-clause-most
returns-clause-most g c bars =
    built_within c.args.session.now.grammar c.args.session.now.performance c.args.script.now c.args.builds.now c.edits.builds
    (subst (λ (l : List Edit). RisesBy c.args.builds.now c.edits.builds (AreReachedInTurn c.args.session.now.grammar c.args.session.now.performance l))
    (take_all c.edits.edit-index c.args.script.now (omega (arith, c.edits-test.false))) (c.edits.invariant.5 bars))

pub returns-clause-made : goal.returns-clause-made
returns-clause-made g c =
    subst (λ (l : List Edit). Leads c.args.session.now.grammar c.args.session.now.performance l c.edits.session.performance)
    (take_all c.edits.edit-index c.args.script.now (omega (arith, c.edits-test.false))) c.edits.invariant.3
