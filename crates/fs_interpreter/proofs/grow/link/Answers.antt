use Rattle.std.proofs.Common.{◌<◌, length, ℕ, List, IfSome, ap, refl, subst, sym, ◌∙◌}
use Rattle.std.proofs.lemmas.Option.{slice_get_read}
use Rattle.fs_interpreter.specs.Growth.{seen_all, linked}
use Rattle.fs_interpreter.proofs.GrowthLaws.{on_err, set_same, set_more}
use Rattle.fs_interpreter.proofs.grow.link.Goals as goal

pub returns-in_err-push-in-Some-clause-same : goal.returns-in_err-push-in-Some-clause-same
returns-in_err-push-in-Some-clause-same c =
    let n = c.index_mut.result.now in
    let nodes = c.args.nodes.now.items in
    let below = subst (λ o. IfSome o (λ j. j < length nodes)) c.in-Some.is c.requires in
    on_err c.from_residual.result
    (set_same nodes c.in-Some.j n (record { path = n.path; parent = n.parent; children = c.push.new.self }) (slice_get_read nodes (length nodes) c.in-Some.j n refl below c.index_mut.ensures.value)
    (ap (λ (children : List ℕ). record { path = n.path; parent = n.parent; children = children }) c.in_err-push-in-Some.ensures.items))

pub returns-in_ok-push-in-Some-clause-nodes : goal.returns-in_ok-push-in-Some-clause-nodes
returns-in_ok-push-in-Some-clause-nodes c =
    let n = c.index_mut.result.now in
    let nodes = c.args.nodes.now.items in
    let below = subst (λ o. IfSome o (λ j. j < length nodes)) c.in-Some.is c.requires in
    set_more nodes c.in-Some.j c.args.i n (record { path = n.path; parent = n.parent; children = c.push.new.self }) (slice_get_read nodes (length nodes) c.in-Some.j n refl below c.index_mut.ensures.value)
    (ap (λ (children : List ℕ). record { path = n.path; parent = n.parent; children = children }) c.in_ok-push-in-Some.ensures.items)
    ∙ ap (λ o. linked o c.args.i (seen_all nodes)) (sym c.in-Some.is)
