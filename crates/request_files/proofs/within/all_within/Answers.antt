use Rattle.std.proofs.Common.{◌≡◌, [], ◌∷◌, ◌++◌, sym, subst}
use Rattle.request_files.specs.Loading.{AreBytesOf}
use Rattle.request_files.proofs.FileLaws.{one_file, moved, refused}
use Rattle.request_files.proofs.within.all_within.Goals as goal

pub loop-role-preserved : goal.loop-role-preserved
loop-role-preserved c =
    let pushed : c.push.new.self ≡ c.loop-role.files ++ (c.in-Some.role, c.in-Ok.bytes) ∷ [] = c.in_ok-push-in-Ok.ensures.ok in (
      tt,
      tt,
      moved c.args.loads c.loop-role.yielded c.loop-role.role-iterator.rest.items c.next.new.self.rest.items (c.in-Some.role, c.in-Some.load) c.loop-role.invariant.2 c.in-Some.ensures.steps.0,
      subst (AreBytesOf (c.loop-role.yielded ++ (c.in-Some.role, c.in-Some.load) ∷ [])) (sym pushed)
          (one_file c.loop-role.yielded c.loop-role.files c.in-Some.role c.in-Some.load c.in-Ok.bytes c.loop-role.invariant.3 c.in-Ok.ensures.bytes),
    )

pub returns-in-Err-clause-long : goal.returns-in-Err-clause-long
returns-in-Err-clause-long c =
    refused c.args.loads c.loop-role.yielded c.loop-role.role-iterator.rest.items c.next.new.self.rest.items c.loop-role.files c.in-Some.role c.in-Some.load c.in-Err.fault
    c.loop-role.invariant.2 c.in-Some.ensures.steps.0 c.loop-role.invariant.3 c.in-Err.ensures.long
