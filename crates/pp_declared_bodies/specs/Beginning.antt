-- How the body of a class begins: all that is done before its first statement.
use Rattle.std.specs.Prelude.{ℕ, Bool, true, if◌then◌else◌, length, map, codes, Option, Result, Ok, Err}
use Rattle.rh_base.specs.declared.fault.Refusal.{Refusal}
use Rattle.pp_syntax.specs.declared.tree.Stmt.{Stmt}
use Rattle.pp_eval.specs.Evaluating.{◌>>=◌, refusal}
use Rattle.pp_eval.specs.Scoping.{class_scope}
use Rattle.catalog_semantics.specs.declared.catalog.Resource.{Resource}
use Rattle.catalog_semantics.specs.declared.state.State.{State}
use Rattle.catalog_semantics.specs.Sites.{Definition}
use Rattle.catalog_semantics.specs.States.{Effect, in_turn, is_new, added}
use Rattle.catalog_semantics.specs.Declaring.{body_begins, ended}

-- one more body may run
abbrev pub may_begin : ℕ → Bool → State → Result State Refusal
may_begin at may_run s = if may_run then Ok s else Err (refusal 32 at (codes "declared"))

-- A class becomes a resource, where one more body may run.
abbrev pub class_added : Bool → Resource → Effect
class_added may_run r s = do
  _ ← is_new r s
  _ ← may_begin r.at may_run s
  added r s

-- A class becomes a resource, and its body begins.
abbrev pub class_begins : Bool → Definition → Resource → Effect
class_begins may_run d r s = do
  t ← class_added may_run r s
  body_begins d (length s.resources) r (class_scope t.scopes.0 d.name d.parent) t

-- ---- the whole of a class

-- the statements of a body, and its end
abbrev pub body_ends : (Stmt → Effect) → Definition → Option ℕ → Effect
body_ends run d before t = do
  u ← in_turn (map run d.body) t
  Ok (ended (record t { running = before }) u)

-- a class becomes a resource, and its body runs to its end
abbrev pub class_goes : (Stmt → Effect) → Definition → Resource → Effect
class_goes run d r s = do
  t ← class_begins true d r s
  body_ends run d s.running t
