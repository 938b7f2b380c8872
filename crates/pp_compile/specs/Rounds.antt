-- One round.
use Rattle.std.specs.Prelude.{ℕ, Bool, true, false, ◌++◌, map, take, drop, List, Option, Some, None, Result, Ok}
use Rattle.rh_base.specs.declared.fault.Refusal.{Refusal}
use Rattle.host_limits.specs.declared.limits.Limits.{Limits}
use Rattle.pp_eval.specs.Evaluating.{◌>>=◌}
use Rattle.pp_syntax.specs.declared.tree.Item.{Item}
use Rattle.pp_value.specs.declared.value.Value.{Value}
use Rattle.catalog_semantics.specs.declared.catalog.Resource.{Resource}
use Rattle.catalog_semantics.specs.declared.state.State.{State}
use Rattle.catalog_semantics.specs.Sites.{Site}
use Rattle.catalog_semantics.specs.Catalogs.{made_real, realized, next_due, resource_runs, main_code, rounds, first_state, all_there, few_enough, Catalog, catalog_in}
use Rattle.catalog.specs.Adding.{changed_at}

-- what is called for at a place is real
abbrev pub realized_at : ℕ → State → State
realized_at place s = record s { resources = changed_at place (made_real s) s.resources }

-- what is due runs, if anything is; whether something was
abbrev pub run_if_due : Site → Option (ℕ × Resource) → State → Result (Bool × State) Refusal
run_if_due site None s = Ok (false, s)
run_if_due site (Some x) s = do
  t ← resource_runs site x s
  Ok (true, t)

-- one round; whether something ran
abbrev pub one_round : Site → State → Result (Bool × State) Refusal
one_round site s = run_if_due site (next_due (realized s) 0 (realized s).resources) (realized s)

-- what is called for among the first resources is real
abbrev pub realized_below : ℕ → State → State
realized_below n s = record s { resources = map (made_real s) (take n s.resources) ++ drop n s.resources }

-- the main code, and so many rounds
abbrev pub run_all : ℕ → Site → List Item → State → Result State Refusal
run_all n site items s = do
  t ← main_code site items s
  rounds n site t

-- what is asked after the rounds
abbrev pub may_stand : State → Result State Refusal
may_stand s = do
  _ ← all_there s.pending s
  few_enough s

-- the catalog after so many rounds
abbrev pub catalog_after : ℕ → Site → List Item → Value → Limits → Result Catalog Refusal
catalog_after n site items facts limits = do
  t ← run_all n site items (first_state facts limits)
  u ← may_stand t
  Ok (catalog_in u)
