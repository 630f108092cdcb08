use Rattle.std.proofs.Common.{arith}
use Rattle.maps.proofs.Hexed.{pair_past, ends_even, ends_odd}
use Rattle.maps.proofs.hex.HexSheet.pair_across.Goals as goal

pub returns-then-row-self : goal.returns-then-row-self
returns-then-row-self c = pair_past c.args.self.now.width c.args.self.now.height c.args.place (omega arith) c.if-row-self.true

pub returns-then-row-eq0 : goal.returns-then-row-eq0
returns-then-row-eq0 c =
    ends_even c.args.self.now.width c.args.self.now.height c.args.place _ _ (omega arith) c.if-row-self.false c.if-row-eq0.true c.space.ensures c.space-then-row-eq0.ensures

pub returns-else-row-eq0 : goal.returns-else-row-eq0
returns-else-row-eq0 c =
    ends_odd c.args.self.now.width c.args.self.now.height c.args.place _ _ (omega arith) c.if-row-self.false c.if-row-eq0.false c.space-else-row-eq0.ensures c.space-else-row-eq0-2.ensures
