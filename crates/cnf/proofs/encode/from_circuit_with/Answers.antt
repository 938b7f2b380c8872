use Rattle.std.proofs.Common.{◌≡◌, ℕ, List, [], ◌∷◌, ◌++◌, Bool, length, subst, ap, ◌∙◌}
use Rattle.cnf.specs.declared.lit.Lit.{Lit}
use Rattle.cnf.specs.Defining.{Encodes, lit_at}
use Rattle.cnf.specs.Encoding.{StatesGoal}
use Rattle.cnf.proofs.Wires.{states_goal, goal_exact}
use Rattle.cnf.proofs.encode.from_circuit_with.Goals as goal
use Rattle.cnf.proofs.encode.from_circuit_with.Goals.{After-drop-needed-2}

states : (c : After-drop-needed-2) → StatesGoal c.args.circuit.now c.args.goal.0 c.add.new.self
states c =
    let lits = c.in_ok-lits.lits.items in
    let f = c.encode.new.cnf in
    let needed = c.in_ok-needed.needed.items in
    let e = subst (λ (ns : List Bool). Encodes c.args.circuit.now ns (length ns) lits f) c.deref.ensures.value c.in_ok-lits.ensures in
    let e' = subst (λ (n : ℕ). Encodes c.args.circuit.now needed n lits f) c.in_ok-needed.ensures.long e in
    let is : c.lit_at-lit.result ≡ lit_at lits c.args.goal.0 = c.lit_at-lit.ensures ∙ ap (λ (ls : List Lit). lit_at ls c.args.goal.0) c.deref-2.ensures.value in
    states_goal c.args.circuit.now needed c.args.goal.0 lits f c.add.new.self e' c.in_ok-needed.ensures.goal
    (c.in_ok-add.ensures.ok ∙ ap (λ (x : Lit). record { vars = f.vars; clauses = f.clauses ++ (x ∷ []) ∷ [] }) is)

pub returns-clause-states : goal.returns-clause-states
returns-clause-states c = states c

pub returns-clause-exact : goal.returns-clause-exact
returns-clause-exact c = goal_exact c.args.circuit.now c.args.goal.0 c.add.new.self (states c)
