use Rattle.std.proofs.Common.{sym, ap, ◌∙◌, ◌++◌, ◌+◌, drop}
use Rattle.path_domain.specs.Gathered.{members}
use Rattle.path_domain.specs.Laid.{places_from}
use Rattle.path_domain.proofs.LaidLaws.{place_more, place_less}
use Rattle.path_domain.proofs.places.places_of.Goals as goal
use Rattle.path_domain.proofs.places.places_of.Goals.{then-contains+in_ok-push, else-contains}

pub loop-i-preserved : goal.loop-i-preserved
loop-i-preserved c =
    let f = members c.args.set.now in
    let ps = c.args.table.now.paths in
    let rest = places_from (c.loop-i.i + 1) f (drop (c.loop-i.i + 1) ps) in
    elim c.if-contains.branch [
      | then-contains+in_ok-push w ↦ ap (λ xs. xs ++ rest) (w.places-is ∙ w.in_ok-push.ensures.ok) ∙ place_more f ps c.loop-i.i c.path.result.now c.loop-i.places (places_from 0 f ps) c.path.ensures (sym c.contains.ensures ∙ w.if-contains.true) c.loop-i.invariant
      | else-contains w ↦ ap (λ xs. xs ++ rest) w.places-is ∙ place_less f ps c.loop-i.i c.path.result.now c.loop-i.places (places_from 0 f ps) c.path.ensures (sym c.contains.ensures ∙ w.if-contains.false) c.loop-i.invariant
    ]
