use Rattle.std.proofs.Common.{List, ◌≡◌, ◌++◌, ◌∷◌, [], ap, sym, ◌∙◌, subst}
use Rattle.std.specs.Prelude.{Option}
use Rattle.barline_follow.specs.declared.round.Outcome.{Outcome}
use Rattle.barline_follow.specs.declared.round.Outcome.TheVariants.{Whole}
use Rattle.barline_follow.specs.Barring.{Barring, Course, better, course_end, course_value}
use Rattle.barline_follow.specs.Gathered.{IsGathered, Round, found_of, going_in}
use Rattle.barline_follow.specs.Least.{AreFirstLeast}
use Rattle.barline_follow.proofs.FewLeast.{few_more, few_themselves}
use Rattle.barline_follow.proofs.Gathering.{going_more, lost_more, whole_more}
use Rattle.barline_follow.proofs.round.Round.add.Goals as goal

pub returns-in-Lost : goal.returns-in-Lost
returns-in-Lost c best found courses h =
    subst (λ (o : Outcome). IsGathered best (found ++ (found_of o ∷ [])) (courses ++ going_in o) c.args.self.now) (sym c.in-Lost.is)
    (lost_more best found courses c.args.self.now h)

pub keep-requires : goal.keep-requires
keep-requires c =
    let before : Round = record { kept = c.self.inside.kept.items; best = c.self.inside.best } in
    let was : IsGathered c.requires.0 c.requires.1 c.requires.2 before = subst (IsGathered c.requires.0 c.requires.1 c.requires.2) (sym c.self.view_is) c.requires.3 in (
      c.self.inside.kept.items,
      subst (λ (l : List Course). AreFirstLeast course_value course_end l l) (sym was.kept.2)
          (few_themselves course_value course_end 24 c.requires.2 was.kept.0 was.kept.1),
    )

pub returns-in_ok-keep-in-Going : goal.returns-in_ok-keep-in-Going
returns-in_ok-keep-in-Going c best found courses h =
    let before : Round = record { kept = c.self.inside.kept.items; best = c.self.inside.best } in
    let was : IsGathered best found courses before = subst (IsGathered best found courses) (sym c.self.view_is) h in
    let course : Course = c.in-Going.course in
    let old : List Course = c.self.inside.kept.items in
    let itself_kept = subst (λ (l : List Course). AreFirstLeast course_value course_end l l) (sym was.kept.2) (few_themselves course_value course_end 24 courses was.kept.0 was.kept.1) in
    let next : List Course = c.keep.new.kept.items in
    let kept = subst (λ (l : List Course). AreFirstLeast course_value course_end (l ++ (course ∷ [])) next) was.kept.2 (c.in_ok-keep-in-Going.ensures old itself_kept) in
    let more = few_more course_value course_end 24 courses was.kept.0 next course was.kept.1 kept in
    subst (λ (o : Outcome). IsGathered best (found ++ (found_of o ∷ [])) (courses ++ going_in o) (record { kept = c.truncate.new.self.items; best = c.self.inside.best })) (sym c.in-Going.is)
    (going_more best found courses before was course c.truncate.new.self.items (more.0, more.1, c.truncate.ensures.items ∙ more.2))

pub returns-in-Whole : goal.returns-in-Whole
returns-in-Whole c best found courses h =
    let before : Round = record { kept = c.self.inside.kept.items; best = c.self.inside.best } in
    let was : IsGathered best found courses before = subst (IsGathered best found courses) (sym c.self.view_is) h in
    let better_is : c.better.result ≡ better c.self.inside.best c.in-Whole.barring =
    c.better.ensures ∙ ap (λ (o : Option Barring). better o c.in-Whole.barring) c.take.ensures.value in
    subst (λ (o : Outcome). IsGathered best (found ++ (found_of o ∷ [])) (courses ++ going_in o) (record { kept = c.self.inside.kept.items; best = c.better.result })) (sym c.in-Whole.is)
    (subst (λ (o : Option Barring). IsGathered best (found ++ (found_of (Whole c.in-Whole.barring) ∷ [])) (courses ++ []) (record { kept = c.self.inside.kept.items; best = o })) (sym better_is)
    (whole_more best found courses before was c.in-Whole.barring))
