use Rattle.std.proofs.Common.{length, sym, subst, ◌∙◌, ◌<◌}
use Rattle.std.specs.Prelude.{IfSome}
use Rattle.fs_interpreter.proofs.SearchLaws.{place_below}
use Rattle.order_encode.proofs.wanted.has_wanted.Goals as goal

pub is_wanted_at-requires-clause-place : goal.is_wanted_at-requires-clause-place
is_wanted_at-requires-clause-place g c =
    let paths = c.args.table.now.paths in
    let below = subst (λ o. IfSome o (λ i. i < length paths)) (sym c.place.ensures ∙ c.in-Some.is) (place_below paths c.args.wanted.now.path) in
    subst (λ n. c.in-Some.i < n) (sym c.requires.places) below
