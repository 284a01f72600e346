use Rattle.std.proofs.Common.{◌≡◌, rules, sym}
use Rattle.rhythm_app.proofs.line.write_stop.Goals as goal

pub returns-in-ScoreTooLong : goal.returns-in-ScoreTooLong
returns-in-ScoreTooLong g c =
    let same : c.from.result ≡ c.in-ScoreTooLong.line = search rules in
    rw (c.in-ScoreTooLong.is, sym same) c.write_limit-in-ScoreTooLong.ensures

pub returns-in-LineTooLong : goal.returns-in-LineTooLong
returns-in-LineTooLong g c = rw c.in-LineTooLong.is c.write_limit-in-LineTooLong.ensures

pub returns-in-TooManyFiles : goal.returns-in-TooManyFiles
returns-in-TooManyFiles g c = rw c.in-TooManyFiles.is c.write_limit-in-TooManyFiles.ensures
