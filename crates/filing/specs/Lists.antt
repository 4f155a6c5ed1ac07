-- 02, No. 2 and No. 8: lists that go together, as what a writer is handed. Definitions only.
use Rattle.filing.specs.Given.{Given, given_of}
use Rattle.filing.specs.declared.Lists.{Lists}

abbrev pub given : Lists → Given
given l = given_of l.ids.now l.counts.now l.sets.now l.lasts.now l.numbers.now
