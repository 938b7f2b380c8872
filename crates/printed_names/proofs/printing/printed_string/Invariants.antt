use Rattle.std.proofs.Common.{◌≡◌, string_bytes}
use Rattle.std.specs.Prelude.{encode_utf8_all}
use Rattle.printed_names.specs.Printed.{printed}
use Rattle.printed_names.proofs.printing.printed_string.Given as goal

abbrev pub invariant-loop-c : goal.invariant-loop-c
invariant-loop-c l = string_bytes l.shown ≡ printed (encode_utf8_all l.yielded)
