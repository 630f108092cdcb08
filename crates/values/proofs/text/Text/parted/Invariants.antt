use Rattle.std.proofs.Common.{◌≡◌, ◌-◌, ◌*◌, ◌≤◌, take, length}
use Rattle.std.specs.Fmt.{signed_decimal}
use Rattle.values.specs.Shown.{shown}
use Rattle.values.specs.Texts.{parted}
use Rattle.values.proofs.text.Text.parted.Given as goal

abbrev pub invariant-loop-i : goal.invariant-loop-i
invariant-loop-i l = (shown l.text ≡ parted signed_decimal (take l.i l.columns)) × (length (shown l.text) ≤ 12 * l.i - 1)
