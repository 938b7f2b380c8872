use Rattle.std.proofs.Common.{◌≡◌, ◌∷◌, ◌++◌, [], ◌∙◌, None, ap, map, List, ℕ, string_bytes}
use Rattle.pp_value.specs.Keys.{place_among}
use Rattle.pp_value.proofs.PlaceLaws.{added, place_of}
use Rattle.pp_value.proofs.places.Places.add.Goals as goal

pub returns-clause-ok : goal.returns-clause-ok
returns-clause-ok c =
    let entries = c.self.inside.places.entries in
    let key = string_bytes c.args.key in
    let free : place_among key (map place_of entries) ≡ None = ap (place_among key) c.self.view_is ∙ c.requires in
    ap (map place_of) c.in_ok-insert.ensures.entries ∙ (added entries c.args.key c.args.place free ∙ ap (λ (ps : List (List ℕ × ℕ)). ps ++ (key, c.args.place) ∷ []) c.self.view_is)
