-- Refused by its number, or its bytes are counted and put.
use Rattle.arrival.specs.Calls.{piece}
use Rattle.arriving.proofs.Said.{refused_call, piece_taken}
use Rattle.arriving.proofs.piece.Goals as goal

pub returns-in-Err : goal.returns-in-Err
returns-in-Err c = refused_call c.args.s c.args.buffer.now (piece c.args.bytes.now) c.in-Err.why c.in-Err.ensures c.refused.ensures

pub returns : goal.returns
returns c = piece_taken c.args.s c.args.buffer.now c.in_default.ensures c.args.bytes.now c.count-arrived.ensures c.put.ensures
