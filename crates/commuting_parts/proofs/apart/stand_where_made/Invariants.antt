use Rattle.std.specs.Prelude.{IsTrue}
use Rattle.fs_semantics.specs.FileTree.{Path, is_among}
use Rattle.effect_sets.specs.Members.{members}
use Rattle.commuting_parts.proofs.apart.stand_where_made.Given as goal

-- where those that follow stand, all do
abbrev pub invariant-loop-p : goal.invariant-loop-p
invariant-loop-p l = ((q : Path) → IsTrue (is_among q l.p-iterator) → IsTrue (members l.reads q) → IsTrue (members l.folders q))
    → (q : Path) → IsTrue (members l.made q) → IsTrue (members l.reads q) → IsTrue (members l.folders q)
