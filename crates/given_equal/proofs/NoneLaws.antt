-- Where no folder is given, an answer about the graphs says all that is said of one from given trees.
use Rattle.std.proofs.Common.{ℕ, List, []}
use Rattle.std.specs.Prelude.{◌↔◌}
use Rattle.fs_semantics.specs.Programs.{Program}
use Rattle.orders.specs.Relation.{Relation}
use Rattle.cnf.specs.Formulas.{Formula}
use Rattle.equal_graphs.specs.Questions.{StatesParting}
use Rattle.equal_graphs.specs.declared.compared.Compared.{Compared}
use Rattle.equal_graphs.specs.declared.compared.Compared.TheVariants as compared
use Rattle.equal_graphs.specs.Compared.{IsCompared}
use Rattle.given_verdict.proofs.NoneLaws.{settled, unsettled}
use Rattle.given_equal.specs.Questions.{StatesPartingFrom}
use Rattle.given_equal.specs.Answers.{IsComparedFrom}

module _ (es : List Program) (order : Relation) (fs : List Program) (other : Relation) where
  -- a formula that states the question states it from these
  states : (f : Formula) → StatesParting es order fs other f → StatesPartingFrom [] es order fs other f
  states f h d lay = (
    (λ sat. let p = (h d lay).0 sat in record { tree = p.tree; over = p.over; part = record { stand = tt; shows = p.part } }),
    (λ p. (h d lay).1 (record { tree = p.tree; over = p.over; part = p.part.shows })),
  )

  -- and all that is said of an answer is said from these
  pub compared_from : (budget : ℕ) (c : Compared) → IsCompared es order fs other budget c → IsComparedFrom [] es order fs other budget c
  compared_from budget (compared.Left f) h = unsettled es order budget f h
  compared_from budget (compared.Right l f) h = (settled es order l h.0, unsettled fs other budget f h.1)
  compared_from budget (compared.Equal l r v) h = (settled es order l h.0, settled fs other r h.1, (λ t g. h.2 t g.is_tree), record { states = states v.formula h.3.states; no_model = h.3.no_model })
  compared_from budget (compared.Differ l r t) h = (settled es order l h.0, settled fs other r h.1, record { stand = tt; shows = h.2 })
  compared_from budget (compared.Spent l r f log) h = (settled es order l h.0, settled fs other r h.1, (states f h.2.0, h.2.1))
