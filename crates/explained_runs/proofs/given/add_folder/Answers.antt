use Rattle.std.proofs.Common.{◌≡◌, false, true, length, sym, subst, ◌∙◌}
use Rattle.explained_runs.specs.GivenTree.{IsGrown}
use Rattle.explained_runs.proofs.GivenLaws.{not_free, on_ok, stood, added}
use Rattle.explained_runs.proofs.given.add_folder.Goals as goal

pub returns-then-free : goal.returns-then-free
returns-then-free c =
    let p = c.args.p in
    let t = c.args.tree.now in
    on_ok c.add.result (λ same. subst (IsGrown (length p) p t) (sym same) (added p t (c.is_free-free.ensures.0 c.if-free.true).1)) c.add.ensures.ok

pub returns : goal.returns
returns c = stood c.args.p c.args.tree.now (not_free c.args.p c.args.tree.now c.requires.folders (λ f. let on = c.is_free-free.ensures.1 f in let clash : false ≡ true = sym c.if-free.false ∙ on in cc))
