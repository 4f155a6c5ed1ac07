-- The comma and the space, and behind them the polygon.
use Rattle.chart.specs.Words.{comma}
use Rattle.polygons.proofs.Stores.{next_fits, put_then}
use Rattle.showing.proofs.Polygons.{was_put}
use Rattle.showing.proofs.put_other.Goals as goal

pub unwrap-requires : goal.unwrap-requires
unwrap-requires c = c.put_polygon.ensures.fits.1 (next_fits comma _ (was_put _ c.unwrap-p.ensures c.put_bytes.ensures.placed) c.requires)

pub returns : goal.returns
returns c = put_then comma _ (was_put _ c.unwrap-p.ensures c.put_bytes.ensures.placed) c.requires (was_put _ c.unwrap.ensures c.put_polygon.ensures.placed)
