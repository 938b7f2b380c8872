use Rattle.std.proofs.Common.{List, ℕ, ◌∷◌, [], ◌++◌, take, get_or, sym, subst}
use Rattle.std.proofs.lemmas.List.{take_more}
use Rattle.placed_names.specs.Placed.{AreNamesAt}
use Rattle.placed_names.proofs.NameLaws.{one_more}
use Rattle.placed_names.proofs.placed_names.Goals as goal

pub loop-place-preserved : goal.loop-place-preserved
loop-place-preserved c =
    let text = c.args.text.now in
    let places = c.args.places.now in
    let i = c.loop-place.place-index in
    subst (λ (ps : List ℕ). AreNamesAt text c.args.catalog.now ps c.push.new.self) (sym (take_more places i 0 c.loop-place-test.true))
    (subst (λ (ns : List (List ℕ)). AreNamesAt text c.args.catalog.now (take i places ++ get_or places i 0 ∷ []) ns) (sym c.in_ok-push.ensures.ok)
    (one_more text c.args.catalog.now (take i places) c.loop-place.names (get_or places i 0) c.in_ok-name_at.field-0 c.loop-place.invariant c.in_ok-name_at.ensures))
