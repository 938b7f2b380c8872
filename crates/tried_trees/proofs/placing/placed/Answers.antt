use Rattle.std.proofs.Common.{◌≡◌, ◌∷◌, ◌++◌, refl, sym, subst}
use Rattle.tried_trees.specs.Placing.{near, aside, those, IsPlaced}
use Rattle.tried_trees.proofs.PlaceLaws.{placed_early, placed_late}
use Rattle.tried_trees.proofs.placing.placed.Goals as goal

pub returns-in-Early : goal.returns-in-Early
returns-in-Early c =
    let order = c.args.order.now in
    let a = c.args.a in
    let b = c.args.b in
    let list = c.args.list.now in
    let xs = c.in_ok-near.field-0.near in
    let ys = c.in_ok-near.field-0.others in
    subst (λ p. IsPlaced p order a b (xs ++ a ∷ b ∷ ys) (xs ++ b ∷ a ∷ ys)) (sym c.in-Early.is)
    (placed_early order c.count.ensures.ordered a b c.requires.free list c.requires.list c.requires.a c.requires.b (xs ++ a ∷ b ∷ ys) (xs ++ b ∷ a ∷ ys) xs ys refl refl
    (subst (λ p. xs ≡ those (near p order a b) list) c.in-Early.is c.in_ok-near.ensures.near)
    (subst (λ p. ys ≡ those (aside p order a b) list) c.in-Early.is c.in_ok-near.ensures.others))

pub returns-in-Late : goal.returns-in-Late
returns-in-Late c =
    let order = c.args.order.now in
    let a = c.args.a in
    let b = c.args.b in
    let list = c.args.list.now in
    let xs = c.in_ok-near.field-0.others in
    let ys = c.in_ok-near.field-0.near in
    subst (λ p. IsPlaced p order a b (xs ++ a ∷ b ∷ ys) (xs ++ b ∷ a ∷ ys)) (sym c.in-Late.is)
    (placed_late order c.count.ensures.ordered a b c.requires.free list c.requires.list c.requires.a c.requires.b (xs ++ a ∷ b ∷ ys) (xs ++ b ∷ a ∷ ys) xs ys refl refl
    (subst (λ p. xs ≡ those (aside p order a b) list) c.in-Late.is c.in_ok-near.ensures.others)
    (subst (λ p. ys ≡ those (near p order a b) list) c.in-Late.is c.in_ok-near.ensures.near))
