-- What the failures of the code tell.
use Rattle.std.specs.Prelude.{◌≡◌, ◌<◌, ℕ, List, length, take, slice_index_or, Option, Some, None}
use Rattle.fs_semantics.specs.FileTree.{Tree}
use Rattle.fs_semantics.specs.Programs.{Not, Program, Programs, Id, run}
use Rattle.fs_semantics.specs.Orders.{outcome}
use Rattle.fs_lang.specs.Meaning.{test_of, program_of}
use Rattle.failure_semantics.specs.Failures as model
use Rattle.failure_semantics.specs.Failures.{Choice, needed, FailsIn, FailInSteps}
use Rattle.failure_semantics.specs.Orders.{OrderFailsAt}
use Rattle.failure_search.specs.declared.failure.Reason.{Reason}
use Rattle.failure_search.specs.declared.failure.Reason.TheVariants as reason
use Rattle.failure_search.specs.declared.failure.Failure.{Failure}
use Rattle.failure_search.specs.declared.failure.Failed.{Failed}
use Rattle.failure_search.specs.declared.fronts.Searched.{Searched}
use Rattle.failure_search.specs.declared.fronts.Searched.TheVariants as searched

-- the reason of the definitions
abbrev pub reason_of : Reason → model.Reason
reason_of reason.Exists = model.Exists
reason_of reason.NoFolder = model.NoFolder
reason_of reason.NoFile = model.NoFile
reason_of reason.NothingThere = model.NothingThere
reason_of reason.NotEmpty = model.NotEmpty
reason_of reason.TheRoot = model.TheRoot
reason_of (reason.Needs a) = model.Needs (test_of a.now)
reason_of (reason.NeedsNot a) = model.Needs (Not (test_of a.now))
reason_of reason.Always = model.Always

-- it tells this failure: the construct and the reason
pub record Tells (r : Failure) (f : model.Failure) : Type 0 where
  pub construct : program_of r.construct.now ≡ f.construct
  pub reason : reason_of r.reason ≡ f.reason

-- The order ends in a tree, and nothing was found; or it ends in Error, and the resource and the failure are told.
abbrev pub IsFound : List Program → List ℕ → Tree → Option Failed → Type 0
IsFound es order t None = (u : Tree) × (outcome es order t ≡ Some u)
IsFound es order t (Some x) = (f : model.Failure) × OrderFailsAt es order t x.resource f × Tells x.failure f

-- ---- within the crate

-- the order ends in this tree; or the front of so many does, and the next program ends in Error from it
abbrev pub IsSearched : List Program → List ℕ → Tree → Searched → Type 0
IsSearched es order t (searched.Ends u) = outcome es order t ≡ Some u
IsSearched es order t (searched.Fails k u) = (k < length order) × (outcome es (take k order) t ≡ Some u)
    × (run (slice_index_or es (slice_index_or order k 0) Id) u ≡ None)

-- what fails in this step from this tree fails in the steps
abbrev pub LeadsInto : Program → Tree → Programs → Tree → Type 0
LeadsInto e u es t = (c : Choice) (f : model.Failure) → FailsIn c e u f → FailInSteps c es t f

-- it tells the failure of the program, in each choice for which `err` has the reason
abbrev pub Finds : model.Reason → Program → Tree → Failure → Type 0
Finds why e t r = (c : Choice) → why ≡ needed c → (f : model.Failure) × FailsIn c e t f × Tells r f

-- so of steps
abbrev pub FindsInSteps : model.Reason → Programs → Tree → Failure → Type 0
FindsInSteps why es t r = (c : Choice) → why ≡ needed c → (f : model.Failure) × FailInSteps c es t f × Tells r f
