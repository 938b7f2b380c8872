use Rattle.std.proofs.Common.{◌≡◌, ◌∷◌, ◌++◌, [], ◌∙◌, None, ap, map, List, ℕ}
use Rattle.pp_value.specs.Texts.{lowered}
use Rattle.pp_eval.specs.ClassNames.{place_among}
use Rattle.pp_eval.proofs.ClassNameLaws.{added, named}
use Rattle.pp_eval.proofs.classes.Classes.add.Goals as goal

pub returns-clause-ok : goal.returns-clause-ok
returns-clause-ok c =
    let entries = c.self.inside.places.entries in
    let free : place_among c.args.name.now (map named entries) ≡ None = ap (place_among c.args.name.now) c.self.view_is ∙ c.requires in
    ap (map named) c.in_ok-insert.ensures.entries ∙ added entries c.args.name.now c.in_ok-key.key c.args.place c.in_ok-key.ensures free ∙ ap (λ (cs : List (List ℕ × ℕ)). cs ++ (lowered c.args.name.now, c.args.place) ∷ []) c.self.view_is
