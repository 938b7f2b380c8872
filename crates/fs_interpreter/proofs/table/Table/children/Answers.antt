use Rattle.std.proofs.Common.{◌==◌, List, ℕ, [], length, sym, ap, ◌∙◌}
use Rattle.fs_interpreter.specs.Places.{Listed, children_in}
use Rattle.fs_interpreter.proofs.TableLaws.{children_seen, all_children_below, no_children_seen}
use Rattle.fs_interpreter.proofs.table.Table.children.Goals as goal

pub returns-in-Some-clause-places : goal.returns-in-Some-clause-places
returns-in-Some-clause-places c = c.deref.ensures.value
    ∙ children_seen c.self.inside c.args.self.now c.args.p.now c.in-Some.i c.index.result.now c.self.view_is c.self.invariant (sym c.position.ensures.place ∙ c.in-Some.is) c.in-Some.ensures.below c.index.ensures

pub returns-in-Some-clause-below : goal.returns-in-Some-clause-below
returns-in-Some-clause-below c = all_children_below c.args.self.now.paths c.args.p.now c.deref.result.now (returns-in-Some-clause-places c)

pub returns-then-is_empty-clause-below : goal.returns-then-is_empty-clause-below
returns-then-is_empty-clause-below c = all_children_below c.args.self.now.paths [] c.deref-then-is_empty.result.now
    (c.deref-then-is_empty.ensures.value ∙ c.self.invariant.top ∙ ap (λ (t : Listed). children_in t.paths []) c.self.view_is)

pub returns-else-is_empty-clause-places : goal.returns-else-is_empty-clause-places
returns-else-is_empty-clause-places c = no_children_seen c.self.inside c.args.self.now c.args.p.now c.self.view_is c.self.invariant (sym c.position.ensures.place ∙ c.in-None.is)
    (sym (c.is_empty.ensures ∙ ap (λ (q : List (List ℕ)). length q == 0) c.segments.ensures.value) ∙ c.if-is_empty.false)
