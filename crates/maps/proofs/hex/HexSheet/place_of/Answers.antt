use Rattle.std.proofs.Common.{ℕ, ◌*◌, ◌/◌, ◌<◌, ◌≤◌, refl, mul_comm, arith}
use Rattle.std.proofs.lemmas.Nat.{div_below, mod_below}
use Rattle.maps.proofs.hex.HexSheet.place_of.Goals as goal

-- the row of a space on a sheet of at most 64 rows
row_below : (w h s : ℕ) → 1 ≤ w → h ≤ 64 → s < w * h → s / w < 64
row_below w h s z m l = omega (arith, div_below s w h z (omega (arith, mul_comm w h)))

pub overflow_cast-result : goal.overflow_cast-result
overflow_cast-result c = record { fits = omega (arith, row_below c.args.self.now.width c.args.self.now.height c.args.space (omega arith) (omega arith) c.requires) }

pub returns : goal.returns
returns c = (
  refl,
  refl,
  row_below c.args.self.now.width c.args.self.now.height c.args.space (omega arith) (omega arith) c.requires,
  omega (arith, mod_below c.args.space c.args.self.now.width (omega arith)),
)
