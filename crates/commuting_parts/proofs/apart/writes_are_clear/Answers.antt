use Rattle.std.proofs.Common.{sym, ◌∙◌}
use Rattle.std.proofs.lemmas.Bool.{and_parts}
use Rattle.commuting_parts.proofs.SetLaws.{disjoint_lists, none_of_three}
use Rattle.commuting_parts.proofs.apart.writes_are_clear.Goals as goal

pub returns : goal.returns
returns c h q w =
    let all = and_parts c.both.result c.is_disjoint-of_folders.result (sym c.both-2.ensures ∙ h) in
    let two = and_parts c.is_disjoint-of_reads.result c.is_disjoint-of_writes.result (sym c.both.ensures ∙ all.0) in
    none_of_three _ _ _
    (disjoint_lists c.writes.result.now c.reads.result.now c.args.f.now.writes c.args.g.now.reads c.writes.ensures c.reads.ensures (c.is_disjoint-of_reads.ensures.0 two.0) q w)
    (disjoint_lists c.writes-2.result.now c.writes-3.result.now c.args.f.now.writes c.args.g.now.writes c.writes-2.ensures c.writes-3.ensures (c.is_disjoint-of_writes.ensures.0 two.1) q w)
    (disjoint_lists c.writes-4.result.now c.folders.result.now c.args.f.now.writes c.args.g.now.folders c.writes-4.ensures c.folders.ensures (c.is_disjoint-of_folders.ensures.0 all.1) q w)
