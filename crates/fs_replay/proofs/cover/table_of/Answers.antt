use Rattle.std.proofs.Common.{sym, subst}
use Rattle.std.specs.Map.Iter.{deref_pair}
use Rattle.std.proofs.lemmas.Map.Iter.{rest_more, rest_all}
use Rattle.fs_lang.specs.Meaning.{entry_of}
use Rattle.fs_lang.specs.Trees.{entries_of}
use Rattle.fs_replay.proofs.CoverLaws.{keeps_same, keeps_more}
use Rattle.fs_replay.proofs.StandLaws.{HasEntries, node_later, has_tree}
use Rattle.fs_replay.proofs.cover.table_of.Goals as goal

pub loop-p-preserved : goal.loop-p-preserved
loop-p-preserved c = λ t k h.
    let next = rest_more deref_pair c.loop-p.p-iterator c.next.new.self c.next.result (c.in-Some.p, c.in-Some.entry) c.in-Some.is c.next.ensures.steps in
    c.loop-p.invariant t (keeps_more c.loop-p.table c.cover_node.new.table t c.cover_node.ensures.keeps k)
    (subst (λ es. HasEntries t (entries_of es)) (sym next) (node_later c.cover_node.new.table t c.in-Some.p.now (entry_of c.in-Some.entry.now) k c.in_ok-cover_node.ensures.has, h))

pub returns : goal.returns
returns c =
    let rest = rest_all deref_pair c.loop-p.p-iterator c.next.new.self c.next.result c.in-None.is c.next.ensures.steps in
    has_tree c.loop-p.table c.args.tree.now (c.loop-p.invariant c.loop-p.table (keeps_same c.loop-p.table) (subst (λ es. HasEntries c.loop-p.table (entries_of es)) (sym rest) tt))
