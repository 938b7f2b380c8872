use Rattle.std.proofs.Common.{◌+◌, subst, sym}
use Rattle.fs_semantics.specs.Orders.{Told, IsLinearExtension}
use Rattle.given_hosts.proofs.GuardLaws.{in_front, guard_first, ends_where_stand, fails_elsewhere, proper_with, goes_first}
use Rattle.given_hosts.proofs.guards.Goals as goal

pub returns : goal.returns
returns c = record {
  orders = λ n before after first o. (
    (λ l. guard_first n before after first o l),
    (λ x. subst (IsLinearExtension (n + 1) (Told after)) (sym x.1) (in_front n before after first x.0 x.2)),
  );
  stand = ends_where_stand;
  missing = fails_elsewhere;
  proper = proper_with;
  goes = goes_first;
}
