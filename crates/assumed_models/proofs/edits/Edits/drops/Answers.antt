use Rattle.std.proofs.Common.{map, ap, ◌∙◌}
use Rattle.fs_lang.specs.Meaning.{program_of}
use Rattle.assumed_models.proofs.EditLaws.{drops_found, none_found}
use Rattle.assumed_models.proofs.edits.Edits.drops.Goals as goal

pub returns-in-Some : goal.returns-in-Some
returns-in-Some c =
    drops_found c.args.place c.args.p.now c.as_str.result.now c.self.inside.edits c.as_slice.result.now c.args.self.now c.in-Some.places.now c.as_slice-in-Some.result.now c.self.inside.found c.drops_at.result c.self.invariant c.segments.ensures.segments
    c.in-Some.ensures (c.as_str.ensures ∙ c.in_ok-text.ensures) c.as_slice-in-Some.ensures c.as_slice.ensures c.self.view_is c.drops_at.ensures

pub returns : goal.returns
returns c =
    ap (map program_of) c.new.ensures
    ∙ none_found c.args.place c.args.p.now c.as_str.result.now c.self.inside.edits c.args.self.now c.self.inside.found c.self.invariant c.segments.ensures.segments c.in-None.ensures (c.as_str.ensures ∙ c.in_ok-text.ensures) c.self.view_is
