use Rattle.std.specs.Map.Iter.{deref_pair}
use Rattle.std.proofs.lemmas.Map.Iter.{rest_more}
use Rattle.fs_lang.proofs.EntryLaws.{copied_next}
use Rattle.fs_lang.proofs.tree.copy_entries.Goals as goal

pub loop-p-preserved : goal.loop-p-preserved
loop-p-preserved c =
    let next = rest_more deref_pair c.loop-p.p-iterator c.next.new.self c.next.result (c.in-Some.p, c.in-Some.entry) c.in-Some.is c.next.ensures.steps in
    copied_next c.args.entries.now.entries c.loop-p.copies.entries c.loop-p.p-iterator c.next.new.self c.put_copy.new.entries.entries c.in-Some.p.now c.in-Some.entry.now c.into_iter-p-iterator.ensures.into_iter_gives.5 c.loop-p.invariant next c.in_ok-put_copy.ensures
