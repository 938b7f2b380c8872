use Rattle.std.proofs.Common.{Bool, true, false, ◌≡◌, sym, ◌∙◌}
use Rattle.fs_interpreter.proofs.TableLaws.{place_seen, no_place_seen, seen_below}
use Rattle.fs_interpreter.proofs.table.Table.position.Goals as goal

pub returns-then-is_at-clause-place : goal.returns-then-is_at-clause-place
returns-then-is_at-clause-place c = place_seen c.self.inside c.args.self.now c.args.p.now c.in-Some.found.now c.self.view_is c.self.invariant (c.is_at.ensures.0 c.if-is_at.true)

pub returns-then-is_at-clause-below : goal.returns-then-is_at-clause-below
returns-then-is_at-clause-below c = seen_below c.args.self.now c.args.p.now c.in-Some.found.now (returns-then-is_at-clause-place c)

pub returns-else-is_at-clause-place : goal.returns-else-is_at-clause-place
returns-else-is_at-clause-place c =
    no_place_seen c.self.inside c.args.self.now c.args.p.now c.in-Some.found.now c.self.view_is c.self.invariant c.in-Some.ensures.value
    (λ h. let no : ◌≡◌ {A = Bool} false true = sym c.if-is_at.false ∙ c.is_at.ensures.1 h in cc)
