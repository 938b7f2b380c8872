use Rattle.std.proofs.Common.{Bool, ◌++◌, ◌∷◌, [], ◌+◌, cond, drop, sym, ap, ◌∙◌}
use Rattle.graph_semantics.specs.Graphs.{plain_from, plain_places}
use Rattle.dep_graph.proofs.Places.{plain_more}
use Rattle.dep_graph.proofs.structure.plain_places.Goals.{then-is_real_plain+in_ok-push, else-is_real_plain}
use Rattle.dep_graph.proofs.structure.plain_places.Goals as goal

pub loop-place-preserved : goal.loop-place-preserved
loop-place-preserved c =
    let n = c.loop-place.place in
    let rest = plain_from (n + 1) (drop (n + 1) c.args.catalog.now.resources) in
    let next = plain_more c.args.catalog.now.resources n c.get.result.now c.loop-place.places (plain_places c.args.catalog.now) c.get.ensures c.loop-place.invariant in
    let passes = λ (t : Bool). cond t (c.loop-place.places ++ n ∷ []) c.loop-place.places ++ rest in
    elim c.if-is_real_plain.branch [
      | then-is_real_plain+in_ok-push w ↦ ap (λ ps. ps ++ rest) (w.places-is ∙ w.in_ok-push.ensures.ok) ∙ sym (ap passes (sym c.is_real_plain.ensures ∙ w.if-is_real_plain.true)) ∙ next
      | else-is_real_plain w ↦ ap (λ ps. ps ++ rest) w.places-is ∙ sym (ap passes (sym c.is_real_plain.ensures ∙ w.if-is_real_plain.false)) ∙ next
    ]
