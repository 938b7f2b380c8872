use Rattle.std.proofs.Common.{sym, subst, take, take_all}
use Rattle.std.proofs.lemmas.List.{take_more}
use Rattle.dep_graph.specs.Files.{AreFiles}
use Rattle.dep_graph.proofs.files.files_of.Goals as goal

pub loop-place-preserved : goal.loop-place-preserved
loop-place-preserved c =
    subst (λ ps. AreFiles c.args.catalog.now ps c.push_file.new.files) (sym (take_more c.args.plain.now c.loop-place.place-index 0 c.loop-place-test.true))
    (c.in_ok-push_file.ensures (take c.loop-place.place-index c.args.plain.now) c.loop-place.invariant)

pub returns : goal.returns
returns c = subst (λ ps. AreFiles c.args.catalog.now ps c.loop-place.files) (take_all c.loop-place.place-index c.args.plain.now c.loop-place-test.false) c.loop-place.invariant
