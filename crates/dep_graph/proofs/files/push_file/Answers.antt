use Rattle.std.proofs.Common.{◌∷◌, [], ◌++◌, sym, subst}
use Rattle.std.proofs.lemmas.Result.{on_ok_weaker}
use Rattle.dep_graph.specs.Files.{AreFiles, FilePathIs}
use Rattle.dep_graph.proofs.FileLaws.{no_resource, no_file, one_more_file}
use Rattle.dep_graph.proofs.files.push_file.Goals as goal

pub returns-in_default : goal.returns-in_default
returns-in_default c = λ places are. no_resource c.args.catalog.now places c.args.place c.args.files.now (sym c.in_default.ensures) are

pub returns-in-Some-2 : goal.returns-in-Some-2
returns-in-Some-2 c =
    let file = subst (FilePathIs c.in-Some.r.now) c.in-Some-2.is c.in_ok-path.ensures in
    on_ok_weaker c.push.result
    (λ is places are. subst (AreFiles c.args.catalog.now (places ++ c.args.place ∷ [])) (sym is)
    (one_more_file c.path_texts.ensures.once c.args.catalog.now places c.args.files.now (record { path = c.in-Some-2.path; place = c.args.place }) c.in-Some.r.now (sym c.in-Some.ensures) file are))
    c.push.ensures.ok

pub returns-in-None : goal.returns-in-None
returns-in-None c = λ places are.
    no_file c.args.catalog.now places c.args.place c.args.files.now c.in-Some.r.now (sym c.in-Some.ensures) (subst (FilePathIs c.in-Some.r.now) c.in-None.is c.in_ok-path.ensures) are
