use Rattle.spa_read.proofs.Readings.{lenient_front, lenient_opens}
use Rattle.spa_read.proofs.front.open_in.Goals as goal

pub returns-then-this-ne0-clause-there : goal.returns-then-this-ne0-clause-there
returns-then-this-ne0-clause-there g c =
    lenient_opens _ _ _ _ _ c.if-this-ne0.true
    (lenient_front _ _ _ _ _ _ _ c.in-Some.ensures.there c.read_as.ensures.reads c.read_as.ensures.rest)
