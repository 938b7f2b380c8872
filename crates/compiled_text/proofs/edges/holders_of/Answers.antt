-- That the containers of resources are noted edge by edge.
use Rattle.std.proofs.Common.{◌∙◌, sym}
use Rattle.compiled_text.specs.declared.catalog.Containment.{Containment}
use Rattle.compiled_text.proofs.HolderLaws.{class_next, slot_next, edge_next}
use Rattle.compiled_text.proofs.edges.holders_of.Goals as goal

-- what stands for an edge where there is none
none : Containment
none = record { outer = 0; inner = 0 }

pub loop-e-preserved-then-is_class_at : goal.loop-e-preserved-then-is_class_at
unfolding none
loop-e-preserved-then-is_class_at c =
    class_next c.args.resources.now c.args.edges.now c.loop-e.e-index none c.loop-e.holders c.loop-e-test.true (sym c.is_class_at.ensures ∙ c.if-is_class_at.true) c.loop-e.invariant

pub note_holder-requires : goal.note_holder-requires
unfolding none
note_holder-requires c = slot_next c.args.resources.now c.args.edges.now c.loop-e.e-index none c.loop-e.holders c.requires c.loop-e-test.true c.loop-e.invariant

pub loop-e-preserved : goal.loop-e-preserved
unfolding none
loop-e-preserved c =
    edge_next c.args.resources.now c.args.edges.now c.loop-e.e-index none c.loop-e.holders c.note_holder.new.holders c.requires c.loop-e-test.true (sym c.is_class_at.ensures ∙ c.if-is_class_at.false)
    (c.note_holder.ensures.free c.if-not-note_holder.false) (c.note_holder.ensures.noted c.if-not-note_holder.false) c.loop-e.invariant
