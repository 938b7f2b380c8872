use Rattle.std.proofs.Common.{◌≡◌, ℕ, ◌+◌, ◌-◌, ap, sym, ◌∙◌, subst, arith}
use Rattle.orders.specs.Relation.{Relation, comes, old_number}
use Rattle.orders.specs.Table.{relation_of, IsOrderTable}
use Rattle.orders.proofs.Tables.{rest_is, rest_ordered}
use Rattle.orders.proofs.order.Order.without.Goals as goal

pub invariant_of-result : goal.invariant_of-result
invariant_of-result c =
    let n = c.self.inside.count - 1 in
    let count = ap (λ (o : Relation). o.count) c.self.view_is in
    let more : c.self.inside.count ≡ n + 1 = omega (arith, c.requires, count) in
    let P : ℕ → Type 0 = λ m. IsOrderTable m c.self.inside.words.items in
    rest_ordered n c.args.r c.loop-a.a c.self.inside.words.items c.loop-a.words.items (omega arith) c.loop-a.invariant (subst P more c.self.invariant)

pub returns-clause-before : goal.returns-clause-before
returns-clause-before c = λ a b ha hb.
    let n = c.self.inside.count - 1 in
    let words = c.self.inside.words.items in
    let count = ap (λ (o : Relation). o.count) c.self.view_is in
    let more : n + 1 ≡ c.self.inside.count = omega (arith, c.requires, count) in
    let r = c.args.r in
    let is : comes (relation_of n c.loop-a.words.items) a b ≡ comes c.args.self.now (old_number r a) (old_number r b) =
    rest_is n r c.loop-a.a words c.loop-a.words.items (omega arith) c.loop-a.invariant a b ha hb
    ∙ ap (λ (m : ℕ). comes (relation_of m words) (old_number r a) (old_number r b)) more
    ∙ ap (λ (o : Relation). comes o (old_number r a) (old_number r b)) c.self.view_is in
    (λ h. sym is ∙ h, λ h. is ∙ h)
