use Rattle.compiled_relations.specs.Tables.{calls_by}
use Rattle.compiled_relations.proofs.TableLaws.{next_table}
use Rattle.compiled_relations.proofs.index.table_of.Goals as goal

pub loop-place-preserved : goal.loop-place-preserved
loop-place-preserved c =
    next_table (calls_by c.args.way) c.args.resources.now c.loop-place.place c.index-resources-place.result c.in_ok-calls.calls c.loop-place.table c.note_all.new.self c.loop-place-test.true c.index-resources-place.is
    c.in_ok-calls.ensures c.in_ok-note_all.ensures c.loop-place.invariant
