use Rattle.std.proofs.Common.{◌≡◌, ◌++◌, drop}
use Rattle.tried_trees.specs.Placing.{near, aside, those}
use Rattle.tried_trees.proofs.placing.parted.Given as goal

-- those found so far with those to come are all
abbrev pub invariant-loop-k : goal.invariant-loop-k
invariant-loop-k l =
    (l.near ++ those (near l.place l.order l.a l.b) (drop l.k-index l.list) ≡ those (near l.place l.order l.a l.b) l.list)
    × (l.others ++ those (aside l.place l.order l.a l.b) (drop l.k-index l.list) ≡ those (aside l.place l.order l.a l.b) l.list)
