use Rattle.std.proofs.Common.{◌≡◌, ◌∷◌, ◌++◌, [], None, Some, length, cond, sym, ap, subst, refl, arith, ◌∙◌}
use Rattle.indexmap.specs.IndexMap as hashed
use Rattle.fs_semantics.specs.FileTree.{path_eq, parent}
use Rattle.fs_interpreter.specs.Places.{Listed, IsTable, HasPath, place_in, or_added}
use Rattle.fs_interpreter.specs.Kept.{paths_of}
use Rattle.fs_interpreter.proofs.GrowthLaws.{on_err}
use Rattle.fs_interpreter.proofs.TableLaws.{length-paths}
use Rattle.fs_interpreter.proofs.KeptNodes.{same_kept, same_paths, path_kept, more_paths, last_place, places_more, absent}
use Rattle.fs_interpreter.proofs.table.Table.add_path.Goals as goal

pub invariant_of-self-in_err-push_node : goal.invariant_of-self-in_err-push_node
invariant_of-self-in_err-push_node c =
    let t = c.self.inside in
    let none : place_in (paths_of t.nodes.items) c.args.p ≡ None = ap (λ (x : Listed). place_in x.paths c.args.p) c.self.view_is ∙ sym c.position.ensures.place ∙ c.in_default.is in
    same_kept t (record { nodes = c.push_node.new.nodes; top = c.push_node.new.top; places = c.insert.new.self; contents = t.contents; numbers = t.numbers }) c.self.invariant
    c.in_err-push_node.ensures.same c.in_err-push_node.ensures.same_top refl
    (λ q i h. places_more t.places c.insert.new.self c.in_ok-key.key c.args.p c.len-i.result c.in_ok-key.ensures c.in_ok-insert.ensures.updates.0 q
    ∙ ap (λ b. cond b (Some c.len-i.result) (hashed.get path_eq t.places q)) (absent (paths_of t.nodes.items) c.args.p q i none h) ∙ c.self.invariant.places q i h)
    c.self.invariant.numbers

pub returns-in_err-push_node-clause-err : goal.returns-in_err-push_node-clause-err
returns-in_err-push_node-clause-err c =
    on_err c.from_residual-in_err-push_node.result
    (ap (λ ps. record { paths = ps; contents = c.self.inside.contents.items }) (same_paths c.self.inside.nodes.items c.push_node.new.nodes.items c.in_err-push_node.ensures.same) ∙ c.self.view_is)

pub invariant_of-self-2 : goal.invariant_of-self-2
invariant_of-self-2 c =
    let t = c.self.inside in
    let none : place_in (paths_of t.nodes.items) c.args.p ≡ None = ap (λ (x : Listed). place_in x.paths c.args.p) c.self.view_is ∙ sym c.position.ensures.place ∙ c.in_default.is in
    path_kept t (record { nodes = c.push_node.new.nodes; top = c.push_node.new.top; places = c.insert.new.self; contents = t.contents; numbers = t.numbers })
    c.args.p c.position-parent.result c.new.result.items c.len-i.result c.self.invariant c.requires.root
    (subst (λ (x : Listed). HasPath x (parent c.args.p)) (sym c.self.view_is) c.requires.above) none
    (ap (λ (x : Listed). place_in x.paths (parent c.args.p)) c.self.view_is ∙ ap (place_in c.args.self.now.paths) (sym c.in_ok-parent.ensures) ∙ sym c.position-parent.ensures.place)
    c.new.ensures.items (omega (arith, c.len-i.ensures))
    (places_more t.places c.insert.new.self c.in_ok-key.key c.args.p c.len-i.result c.in_ok-key.ensures c.in_ok-insert.ensures.updates.0)
    c.in_ok-push_node.ensures.nodes c.in_ok-push_node.ensures.top refl refl

pub returns-clause-ok : goal.returns-clause-ok
returns-clause-ok c =
    let t = c.self.inside in
    let none : place_in c.args.self.now.paths c.args.p ≡ None = sym c.position.ensures.place ∙ c.in_default.is in
    let paths = more_paths t.nodes.items c.push_node.new.nodes.items (record { path = c.args.p; parent = c.position-parent.result; children = c.new.result.items }) c.position-parent.result (length t.nodes.items) c.in_ok-push_node.ensures.nodes in
    ap (λ ps. record { paths = ps; contents = t.contents.items }) paths
    ∙ ap (λ (x : Listed). record { paths = x.paths ++ c.args.p ∷ []; contents = x.contents }) c.self.view_is
    ∙ ap (λ o. record { paths = or_added o c.args.self.now.paths c.args.p; contents = c.args.self.now.contents }) (sym none)

pub returns-clause-place : goal.returns-clause-place
returns-clause-place c =
    let t = c.self.inside in
    let paths = more_paths t.nodes.items c.push_node.new.nodes.items (record { path = c.args.p; parent = c.position-parent.result; children = c.new.result.items }) c.position-parent.result (length t.nodes.items) c.in_ok-push_node.ensures.nodes in
    let is = subst (λ ps. IsTable (record { paths = ps; contents = t.contents.items })) paths (invariant_of-self-2 c).table in
    ap (λ ps. place_in ps c.args.p) paths ∙ last_place (paths_of t.nodes.items) t.contents.items c.args.p is ∙ ap Some (length-paths t.nodes.items ∙ sym (omega (arith, c.len-i.ensures)))
