use Rattle.std.proofs.Common.{◌≡◌, ℕ, ◌+◌, ap, sym, ◌∙◌}
use Rattle.orders.specs.Relation.{old_number}
use Rattle.orders.specs.Table.{width_of, cell}
use Rattle.orders.proofs.Cells.{copied_set, copied_skip}
use Rattle.orders.proofs.bits.copy_row.Goals as goal
use Rattle.orders.proofs.bits.copy_row.Goals.{then-is_set, else-is_set}

pub loop-b-preserved : goal.loop-b-preserved
loop-b-preserved c =
    let a = c.args in
    let told : c.is_set.result ≡ cell (width_of (a.n + 1)) a.from.now (old_number a.r a.a) (old_number a.r c.loop-b.b) =
    c.is_set.ensures ∙ ap (λ (v : ℕ). cell (width_of (a.n + 1)) a.from.now v c.old_number_of.result) c.old_number_of-row.ensures
    ∙ ap (λ (v : ℕ). cell (width_of (a.n + 1)) a.from.now (old_number a.r a.a) v) c.old_number_of.ensures in
    elim c.if-is_set.branch [
      | then-is_set w ↦ copied_set a.n a.r a.a c.loop-b.b a.from.now a.into.now c.loop-b.into c.if-is_set.into c.loop-b.invariant (sym told ∙ w.if-is_set.true) (rw w.into-is w.insert.ensures)
      | else-is_set w ↦ copied_skip a.n a.r a.a c.loop-b.b a.from.now a.into.now c.loop-b.into c.if-is_set.into c.loop-b.invariant (sym told ∙ w.if-is_set.false) (λ x y hx hy. rw w.into-is)
    ]
