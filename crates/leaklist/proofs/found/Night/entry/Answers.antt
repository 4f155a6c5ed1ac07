-- Read at its place in the table.
use Rattle.leaklist.proofs.Gathered.{entry_is}
use Rattle.leaklist.proofs.found.Night.entry.Goals as goal

pub returns : goal.returns
returns c = let night = c.args.self.now in entry_is night.file.now c.args.k night.at night.place c.entry_at.ensures.0
