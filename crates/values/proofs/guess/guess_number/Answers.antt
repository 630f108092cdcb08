use Rattle.std.proofs.Common.{decimal, arith}
use Rattle.std.proofs.lemmas.Fmt.{IsAscii-decimal}
use Rattle.std.proofs.lemmas.Str.{IsUtf8-from_ascii}
use Rattle.values.specs.Guessing.{no_text}
use Rattle.values.proofs.guess.guess_number.Goals as goal

pub returns-in_err-ok : goal.returns-in_err-ok
returns-in_err-ok c =
    rw c.from_residual.ensures
    (no_text _ _ decimal _ c.args.bytes.now c.from_utf8.result c.from_utf8.ensures.cases c.in_err-ok.ensures.value (λ n l. IsUtf8-from_ascii (decimal n) (IsAscii-decimal n (omega arith))))
