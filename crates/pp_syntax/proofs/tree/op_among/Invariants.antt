use Rattle.std.proofs.Common.{◌≡◌, drop}
use Rattle.pp_syntax.specs.Derivation.{op_among}
use Rattle.pp_syntax.proofs.tree.op_among.Given as goal

-- What is found from here on is what is found in all.
abbrev pub invariant-loop-op : goal.invariant-loop-op
invariant-loop-op l = op_among (drop l.op-index l.ops) l.text ≡ op_among l.ops l.text
