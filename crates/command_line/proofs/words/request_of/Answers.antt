use Rattle.std.proofs.Common.{◌≡◌, Some, ap, codes, subst, ◌∙◌}
use Rattle.clap.specs.Words.{found_of, rows_of, first_of}
use Rattle.command_line.specs.declared.table.Task.TheVariants as task
use Rattle.command_line.specs.Table.{has}
use Rattle.command_line.specs.Words.{request_in, IsWanted}
use Rattle.command_line.proofs.words.request_of.Goals as goal

pub returns-clause-made : goal.returns-clause-made
returns-clause-made c =
    let rows = rows_of (found_of c.args.matches.now) in
    let r = c.in_ok-request.request in
    record {
      plain = subst (λ w. request_in rows ≡ Some (record r { wanted = w })) c.in_ok-request.ensures.plain c.in_ok-request.ensures.made;
      wanted = subst (λ may. IsWanted may (first_of (codes "path") rows) (first_of (codes "content") rows) c.in_ok-request-2.field-0) (c.has.ensures ∙ ap (has task.Want) c.tasks.ensures) c.in_ok-request-2.ensures.made;
    }
