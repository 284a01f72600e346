-- What a round rules out changes nothing, neither now nor later.
use Rattle.std.proofs.Common.{◌≡◌, ◌⊎◌, inl, inr, ℕ, ◌<◌, ◌≤◌, Bool, true, false, List, [], ◌∷◌, ◌++◌, length, refl, ap, sym, ◌∙◌, subst, arith}
use Rattle.std.specs.Prelude.{All, Contains, Option, Some, fold, nat_lt, if◌then◌else◌}
use Rattle.std.specs.List.{filter_map}
use Rattle.std.proofs.lemmas.Bool.Decides.{nat_tests}
use Rattle.std.proofs.lemmas.List.Elements.{Contains-append_left, filter_map-append}
use Rattle.std.proofs.lemmas.List.Sums.{fold-append}
use Rattle.barline_follow.specs.Barring.{Barring, Course, barring_value, best_of, better, course_end, course_value}
use Rattle.barline_follow.specs.Gathered.{IsGathered, Round}
use Rattle.barline_follow.specs.Least.{AreFewLeast, AreFirstLeast}
use Rattle.barline_follow.specs.PassedOver.{ChangesNothing, RulesOut}
use Rattle.barline_follow.specs.Rounds.{Found, going, lost, whole, whole_one}
use Rattle.barline_follow.proofs.FewBelow.{AreFewBelow, below_later, below_of, below_still}
use Rattle.barline_follow.proofs.FewLeast.{kept_with_one, with_one}
use Rattle.barline_follow.proofs.FirstLeast.{cover, got_contained, same_kept}
use Rattle.barline_follow.proofs.Gathering.{going_more, lost_more, taken, whole_more}
use Rattle.barline_follow.proofs.OneAnswers.{one_first_least}

-- ---- the best only gets lower

better_than : (low : ℕ) (b x : Barring) → barring_value b ≤ low → (d : Barring) × (better (Some b) x ≡ Some d) × (barring_value d ≤ low)
better_than low b x le = by (nat_lt (barring_value x) (barring_value b)) refl
  where
    by : (t : Bool) → nat_lt (barring_value x) (barring_value b) ≡ t
        → (d : Barring) × ((if t then Some x else Some b) ≡ Some d) × (barring_value d ≤ low)
    by true is = (x, refl, grind (arith, nat_tests, is, le))
    by false is = (b, refl, le)

best_later : (low : ℕ) (xs : List Barring) (b : Barring) → barring_value b ≤ low
    → (d : Barring) × (fold better (Some b) xs ≡ Some d) × (barring_value d ≤ low)
best_later low [] b le = (b, refl, le)
best_later low (x ∷ xs) b le =
    let one = better_than low b x le in
    let rest = best_later low xs one.0 one.2 in
    (rest.0, ap (λ (o : Option Barring). fold better o xs) one.1 ∙ rest.1, rest.2)

not_better : (b x : Barring) → barring_value b ≤ barring_value x → better (Some b) x ≡ Some b
not_better b x le = by (nat_lt (barring_value x) (barring_value b)) refl
  where
    by : (t : Bool) → nat_lt (barring_value x) (barring_value b) ≡ t → (if t then Some x else Some b) ≡ Some b
    by true is = absurd (grind (arith, nat_tests, is, le))
    by false is = refl

-- ---- what rules out, of all that was gathered

abbrev Below : ℕ → List Course → Type 0
Below low all = AreFewBelow course_value course_end low 24 all

abbrev IsOut : Bool → ℕ → ℕ → Option Barring → List Found → List Course → Type 0
IsOut true tick low best found courses = (b : Barring) × (best_of best (filter_map whole_one found) ≡ Some b) × (barring_value b ≤ low)
IsOut false tick low best found courses =
    ((k : Course) × Contains courses k × (course_end k ≡ tick) × (course_value k ≤ low))
    ⊎ ((all : List Course) × AreFirstLeast course_value course_end courses all × Below low all)

module _ (tick low : ℕ) (best : Option Barring) (found : List Found) (courses : List Course) where
  out_now : (r : Round) → IsGathered best found courses r → (is_closed : Bool) → RulesOut is_closed tick low r → IsOut is_closed tick low best found courses
  out_now r h true out = (out.0, sym h.best_is ∙ out.1, out.2)
  out_now r h false (inl (k, there, at, le)) =
      let first = (h.kept.1.exactly k).0 (taken 24 h.kept.0 k (subst (λ (l : List Course). Contains l k) h.kept.2 there)) in
      inl (k, got_contained courses first.place k first.there, at, le)
  out_now r h false (inr (long, below)) =
      inr (
        h.kept.0,
        h.kept.1,
        below_of course_value course_end low 24 h.kept.0 (sym (ap length h.kept.2) ∙ long)
            (subst (λ (l : List Course). All (λ k. course_value k < low) l) h.kept.2 below),
      )

  out_later : (more : List Found) (others : List Course) (is_closed : Bool) → IsOut is_closed tick low best found courses
      → IsOut is_closed tick low best (found ++ more) (courses ++ others)
  out_later more others true (b, is, le) =
      let later = best_later low (filter_map whole_one more) b le in (
        later.0,
        ap (best_of best) (filter_map-append whole_one found more)
            ∙ fold-append better best (filter_map whole_one found) (filter_map whole_one more)
            ∙ ap (λ (o : Option Barring). fold better o (filter_map whole_one more)) is ∙ later.1,
        later.2,
      )
  out_later more others false (inl (k, there, at, le)) = inl (k, Contains-append_left courses others k there, at, le)
  out_later more others false (inr (all, first, few)) = inr (below_later course_value course_end low 24 others courses all first few)

  -- ---- what is ruled out changes nothing

  module _ (r : Round) (h : IsGathered best found courses r) where
    whole_out : IsOut true tick low best found courses → (barring : Barring) → low ≤ barring_value barring
        → IsGathered best (found ++ (whole barring ∷ [])) (courses ++ []) r
    whole_out (b, is, le) barring above =
        let same : better r.best barring ≡ r.best =
        ap (λ (o : Option Barring). better o barring) (h.best_is ∙ is) ∙ not_better b barring (omega (arith, le, above)) ∙ sym (h.best_is ∙ is) in
        subst (λ (o : Option Barring). IsGathered best (found ++ (whole barring ∷ [])) (courses ++ []) (record { kept = r.kept; best = o })) same
        (whole_more best found courses r h barring)

    few_out : (course : Course) → course_end course ≡ tick → low ≤ course_value course → IsOut false tick low best found courses
        → AreFewLeast course_value course_end 24 (courses ++ (course ∷ [])) r.kept
    few_out course at above (inl (k, there, same, le)) =
        let one = cover course_value course_end courses course h.kept.0 h.kept.1 k there in (
          h.kept.0,
          same_kept course_value course_end courses course h.kept.0 h.kept.1 one.0 one.1 (one.2 ∙ same ∙ sym at) (omega (arith, one.3, le, above)),
          h.kept.2,
        )
    few_out course at above (inr (all, first, few)) =
        let is : all ≡ h.kept.0 = one_first_least course_value course_end courses all h.kept.0 first h.kept.1 in (
          with_one course_value course_end course h.kept.0,
          kept_with_one course_value course_end course courses h.kept.0 h.kept.1,
          h.kept.2 ∙ sym (below_still course_value course_end low course 24 h.kept.0 (subst (Below low) is few) above),
        )

    going_out : IsOut false tick low best found courses → (course : Course) → course_end course ≡ tick → low ≤ course_value course
        → IsGathered best (found ++ (going course.barring ∷ [])) (courses ++ (course ∷ [])) r
    going_out out course at above = going_more best found courses r h course r.kept (few_out course at above out)

-- ---- nor later

pub lost_changes_nothing : (r : Round) → ChangesNothing r lost []
lost_changes_nothing r best found more courses others now h k = lost_more best (found ++ more) (courses ++ others) now k

pub whole_changes_nothing : (tick low : ℕ) (r : Round) → RulesOut true tick low r → (barring : Barring) → low ≤ barring_value barring
    → ChangesNothing r (whole barring) []
whole_changes_nothing tick low r out barring above best found more courses others now h k =
    whole_out tick low best (found ++ more) (courses ++ others) now k
    (out_later tick low best found courses more others true (out_now tick low best found courses r h true out)) barring above

pub going_changes_nothing : (tick low : ℕ) (r : Round) → RulesOut false tick low r → (course : Course) → course_end course ≡ tick
    → low ≤ course_value course → ChangesNothing r (going course.barring) (course ∷ [])
going_changes_nothing tick low r out course at above best found more courses others now h k =
    going_out tick low best (found ++ more) (courses ++ others) now k
    (out_later tick low best found courses more others false (out_now tick low best found courses r h false out)) course at above
