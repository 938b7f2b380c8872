use Rattle.std.proofs.Common.{length, map, sym, subst, ◌<◌, ◌∙◌}
use Rattle.std.specs.List.{AllByRecursion}
use Rattle.fs_lang.specs.Meaning.{program_of}
use Rattle.equal_report.specs.Lines.{lines_of}
use Rattle.equal_report.proofs.telling.report_of.Goals as goal
use Rattle.equal_graphs.proofs.TryLaws.{below}

pub lines_of-requires-clause-left : goal.lines_of-requires-clause-left
lines_of-requires-clause-left c =
    let n = c.args.left.now in
    subst (λ o. AllByRecursion (λ k. k < length n.names.now) o) (sym c.as_slice.ensures) (below _ _ c.in_ok-one.one n.named c.in_ok-one.ensures.allowed.below)

pub lines_of-requires-clause-right : goal.lines_of-requires-clause-right
lines_of-requires-clause-right c =
    let n = c.args.right.now in
    subst (λ o. AllByRecursion (λ k. k < length n.names.now) o) (sym c.as_slice-2.ensures) (below _ _ c.in_ok-second.second n.named c.in_ok-second.ensures.allowed.below)

pub returns : goal.returns
returns c =
    let l = c.args.left.now in
    let r = c.args.right.now in
    record {
      first = c.in_ok-one.one;
      is_first = record { allowed = c.in_ok-one.ensures.allowed; least = c.in_ok-one.ensures.least };
      second = c.in_ok-second.second;
      is_second = record { allowed = c.in_ok-second.ensures.allowed; least = c.in_ok-second.ensures.least };
      status = c.status_of-status.ensures;
      text = c.in_ok-text.ensures
          ∙ (λ i. lines_of l.notes.now r.notes.now l.names.now (map program_of l.plan.now.programs.now) (c.as_slice.ensures i) r.names.now (map program_of r.plan.now.programs.now) (c.as_slice-2.ensures i) c.args.budget c.args.compared.now);
    }
