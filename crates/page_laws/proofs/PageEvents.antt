-- The page of a score says its events.
use Rattle.std.proofs.Common.{map}
use Rattle.voice_events.proofs.BarUnits.{signatures_kept, some_bar}
use Rattle.notation_laws.proofs.ScoreEvents.{spans_are_events}
use Rattle.page_laws.specs.Laws.{PagesSayTheEvents}
use Rattle.page_laws.proofs.Pages.{pages_read}

pub events_said : PagesSayTheEvents
events_said s channels text is count page =
    let bars = map some_bar s.bars in
    let signatures = signatures_kept s.bars in
    let back = pages_read s bars channels text is signatures count page in
    record { spans = back.spans; read = back.read; events = spans_are_events s bars back.spans signatures back.are }
