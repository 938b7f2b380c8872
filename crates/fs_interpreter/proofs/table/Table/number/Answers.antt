use Rattle.std.proofs.Common.{Bool, true, false, ◌≡◌, sym, ◌∙◌}
use Rattle.fs_interpreter.proofs.TableLaws.{number_seen, no_number_seen}
use Rattle.fs_interpreter.proofs.table.Table.number.Goals as goal

pub returns-then-has_number : goal.returns-then-has_number
returns-then-has_number c = number_seen c.self.inside c.args.self.now c.args.c.now c.in-Some.found.now c.self.view_is c.self.invariant (c.has_number.ensures.0 c.if-has_number.true)

pub returns-else-has_number : goal.returns-else-has_number
returns-else-has_number c =
    no_number_seen c.self.inside c.args.self.now c.args.c.now c.in-Some.found.now c.self.view_is c.self.invariant c.in-Some.ensures.value
    (λ h. let no : ◌≡◌ {A = Bool} false true = sym c.if-has_number.false ∙ c.has_number.ensures.1 h in cc)
