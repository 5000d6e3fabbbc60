use Rattle.wire.proofs.Held.{read_held, read_through}
use Rattle.wire.proofs.buffered.BufferedSource.read.Goals as goal

pub returns-then-buf-ge-ROOM-clause-bytes : goal.returns-then-buf-ge-ROOM-clause-bytes
returns-then-buf-ge-ROOM-clause-bytes g c =
    let self = c.args.self.now in
    read_through self.room self.at self.end _ _ _ _ c.if-self.true c.read.ensures.bytes

pub returns-clause-bytes : goal.returns-clause-bytes
returns-clause-bytes g c =
    let self = c.fill.new.self in
    read_held self.room self.at self.end c.copy_front-n.result c.copy_front-n.new.buf _ _ self.ordered self.within
    c.fill.ensures.bytes c.in_ok-fill.ensures.end c.copy_front-n.ensures.count c.copy_front-n.ensures.front
