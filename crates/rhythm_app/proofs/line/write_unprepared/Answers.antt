use Rattle.rhythm_app.proofs.line.write_unprepared.Goals as goal

pub returns-in-TooManyVoices : goal.returns-in-TooManyVoices
returns-in-TooManyVoices g c = rw c.in-TooManyVoices.is c.write_limit.ensures

pub returns-in-WrongDivision : goal.returns-in-WrongDivision
returns-in-WrongDivision g c = rw c.in-WrongDivision.is c.write_limit-in-WrongDivision.ensures

pub returns-in-TooLate : goal.returns-in-TooLate
returns-in-TooLate g c = rw c.in-TooLate.is c.write_limit-in-TooLate.ensures
