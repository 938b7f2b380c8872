use Rattle.std.proofs.Common.{ap, sym, ◌∙◌, List, ℕ, arith}
use Rattle.orders.specs.Relation.{Relation, comes}
use Rattle.orders.specs.Table.{width_of, cell}
use Rattle.orders.proofs.Tables.{comes_cell}
use Rattle.orders.proofs.order.Order.comes.Goals as goal

pub returns : goal.returns
returns c =
    let count = ap (λ (o : Relation). o.count) c.self.view_is in
    c.is_set.ensures ∙ ap (λ (words : List ℕ). cell (width_of c.self.inside.count) words c.args.a c.args.b) c.as_slice.ensures.value
    ∙ sym (comes_cell c.self.inside.count c.self.inside.words.items c.args.a c.args.b (omega (arith, count)) (omega (arith, count)))
    ∙ ap (λ (o : Relation). comes o c.args.a c.args.b) c.self.view_is
