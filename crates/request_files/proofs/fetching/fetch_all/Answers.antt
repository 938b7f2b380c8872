use Rattle.std.proofs.Common.{◌≡◌, [], ◌∷◌, ◌++◌, sym, subst, ◌∙◌}
use Rattle.command_line.specs.Table.{limit_of}
use Rattle.request_files.specs.Loading.{IsLoad, AreLoads}
use Rattle.request_files.proofs.FileLaws.{one_load, moved, failed}
use Rattle.request_files.proofs.fetching.fetch_all.Goals as goal

pub loop-role-preserved : goal.loop-role-preserved
loop-role-preserved g c =
    let held = g.S.Shelf.holds c.args.shelf.now in
    let read = c.in-Ok.ensures.reads in
    let pushed : c.push.new.self ≡ c.loop-role.loads ++ (c.in-Some.role, c.in-Ok.load) ∷ [] = c.in_ok-push-in-Ok.ensures.ok in
    let load = subst (λ h. IsLoad h (limit_of c.args.input c.in-Some.role) c.in-Some.name c.in-Ok.load) c.loop-role.invariant.4 read.1 in (
      tt,
      tt,
      moved c.args.names c.loop-role.yielded c.loop-role.role-iterator.rest.items c.next.new.self.rest.items (c.in-Some.role, c.in-Some.name) c.loop-role.invariant.2 c.in-Some.ensures.steps.0,
      subst (AreLoads held c.args.input (c.loop-role.yielded ++ (c.in-Some.role, c.in-Some.name) ∷ [])) (sym pushed)
          (one_load held c.args.input c.loop-role.yielded c.loop-role.loads c.in-Some.role c.in-Some.name c.in-Ok.load c.loop-role.invariant.3 load),
      c.in-Ok.ensures.held ∙ c.loop-role.invariant.4,
      read.0 ∙ c.loop-role.invariant.5,
    )

pub returns-in-Err-clause-reads : goal.returns-in-Err-clause-reads
returns-in-Err-clause-reads g c =
    failed c.args.input (limit_of c.args.input c.in-Some.role) c.args.names c.loop-role.yielded c.loop-role.role-iterator.rest.items c.next.new.self.rest.items
    c.loop-role.loads c.in-Some.role c.in-Some.name (g.S.Shelf.holds c.args.shelf.now) (g.S.Shelf.holds c.loop-role.shelf) (g.S.Shelf.faults c.args.shelf.now)
    (g.S.Shelf.faults c.loop-role.shelf) (g.S.Shelf.faults c.fetch.new.shelf) c.in-Err.fault c.loop-role.invariant.2 c.in-Some.ensures.steps.0
    c.loop-role.invariant.3 c.loop-role.invariant.4 c.loop-role.invariant.5 c.in-Err.ensures.reads
