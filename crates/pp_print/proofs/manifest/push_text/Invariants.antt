use Rattle.std.proofs.Common.{◌≡◌, ◌++◌, drop}
use Rattle.pp_print.specs.Words.{text_from, text_of}
use Rattle.pp_print.proofs.manifest.push_text.Given as goal

abbrev pub invariant-loop-w : goal.invariant-loop-w
invariant-loop-w l = l.text.items ++ text_from l.held (drop l.w-index l.words) ≡ l.initial.text.items ++ text_of l.words
