-- Bodies that are declared one after the other.
use Rattle.std.specs.Prelude.{ℕ, List, ◌++◌, Result, Ok}
use Rattle.rh_base.specs.declared.fault.Refusal.{Refusal}
use Rattle.pp_value.specs.declared.value.Ref.{Ref}
use Rattle.pp_eval.specs.Evaluating.{◌>>=◌}
use Rattle.catalog_semantics.specs.declared.state.State.{State}

-- a resource of a type
abbrev pub ref_to : List ℕ → List ℕ → Ref
ref_to kind title = record { kind = kind; title = title }

-- some references, and behind them those that are declared
abbrev pub declared_behind : List Ref → Result (List Ref × State) Refusal → Result (List Ref × State) Refusal
declared_behind before r = do
  x ← r
  Ok (before ++ x.0, x.1)
