-- A worked case: the summary of the drill of the number 7, by the grammar that goes down to eighths.
use Rattle.std.specs.Fmt.{digits}
use Rattle.std.proofs.Common.{◌≡◌, refl, codes}
use Rattle.drill_run.specs.Summary.{summary_text}

summary_of_seven : summary_text (record { bars = 500; cells = 1000; accepted = 40; built = 70; cost = 233929; bytes = 22926 })
    ≡ codes "bars 500\ncells 1000\naccepted 40\nbuilt 70\ncost 233929\nbytes 22926\n"
unfolding digits
summary_of_seven = refl
