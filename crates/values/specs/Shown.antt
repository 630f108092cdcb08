-- The bytes that a short text shows. Assumes nothing.
use Rattle.std.specs.Prelude.{ℕ, List}
use Rattle.values.specs.declared.text.Text.{Text}

abbrev pub shown : Text → List ℕ
shown t = t.text.bytes
