use Rattle.std.proofs.Common.{◌≡◌, drop}
use Rattle.command_line.specs.Table.{ask_among}
use Rattle.command_line.proofs.table.ask_among.Given as goal

-- what the rest of the values has under the word is what all have
abbrev pub invariant-loop-ask : goal.invariant-loop-ask
invariant-loop-ask l = ask_among (drop l.ask-index l.asks) l.word ≡ ask_among l.asks l.word
