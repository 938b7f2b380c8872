-- Names by role, and requests.
use Rattle.std.proofs.Common.{◌≡◌, ℕ, List, [], ◌∷◌, ◌++◌, Option, Some, None, Result, refl, sym, ap}
use Rattle.std.proofs.lemmas.List.{append-nil, append_assoc}
use Rattle.std.specs.Prelude.{codes}
use Rattle.rh_base.specs.Reading.{◌>>=◌}
use Rattle.clap.specs.Walk.{Row, Text, first_of}
use Rattle.command_line.specs.declared.table.Ask.{Ask}
use Rattle.command_line.specs.declared.table.Role.{Role}
use Rattle.command_line.specs.declared.table.Task.TheVariants as task
use Rattle.command_line.specs.declared.table.Tasks.{Tasks}
use Rattle.command_line.specs.declared.request.Request.{Request}
use Rattle.command_line.specs.declared.words.WordsFault.{WordsFault}
use Rattle.command_line.specs.declared.size.TheConstants.{MOST_WORKLOAD}
use Rattle.command_line.specs.Table.{has, beside, with_catalog, ask_row, role_row, ByRole}
use Rattle.command_line.specs.Words.{ask_in, taken, taken_number, with_name, names_in, request_for, request_in, IsMade}

-- names, and then others, if there are such
abbrev pub behind : ByRole Text → Option (ByRole Text) → Option (ByRole Text)
behind names None = None
behind names (Some more) = Some (names ++ more)

-- what the words give for the file of a role
abbrev pub told : Tasks → List Row → Role → Option (Option Text)
told tasks rows r = taken (has (role_row r).task tasks) (first_of (role_row r).word rows)

-- where the words of a role are refused the names are
pub refused : (tasks : Tasks) (rows : List Row) (r : Role) (rest : List Role) (names : ByRole Text) → told tasks rows r ≡ None
    → behind names (names_in tasks rows (r ∷ rest)) ≡ None
refused tasks rows r rest names h = rw (h) refl

-- where a role has no name the names are those of the others
pub not_given : (tasks : Tasks) (rows : List Row) (r : Role) (rest : List Role) (names : ByRole Text) → told tasks rows r ≡ Some None
    → behind names (names_in tasks rows (r ∷ rest)) ≡ behind names (names_in tasks rows rest)
not_given tasks rows r rest names h = rw (h) (same (names_in tasks rows rest))
  where
    same : (o : Option (ByRole Text)) → behind names (o >>= λ more. Some (with_name r None more)) ≡ behind names o
    same None = refl
    same (Some more) = refl

-- where it has one, that comes next
pub one_more : (tasks : Tasks) (rows : List Row) (r : Role) (rest : List Role) (names : ByRole Text) (name : Text) → told tasks rows r ≡ Some (Some name)
    → behind names (names_in tasks rows (r ∷ rest)) ≡ behind (names ++ (r, name) ∷ []) (names_in tasks rows rest)
one_more tasks rows r rest names name h = rw (h) (same (names_in tasks rows rest))
  where
    same : (o : Option (ByRole Text)) → behind names (o >>= λ more. Some (with_name r (Some name) more)) ≡ behind (names ++ (r, name) ∷ []) o
    same None = refl
    same (Some more) = ap (λ l. Some l) (sym (append_assoc names ((r, name) ∷ []) more))

-- where no roles are left the names so far are all
pub at_end : (names : ByRole Text) → behind names (Some []) ≡ Some names
at_end names = ap (λ l. Some l) (append-nil names)

-- what comes behind no names is all
pub from_start : (o : Option (ByRole Text)) → behind [] o ≡ o
from_start None = refl
from_start (Some names) = refl

-- the request, once what is asked and its workload are known
pub whole : (rows : List Row) (a : Ask) (workload : Option ℕ) (made : Result Request WordsFault) → ask_in (first_of (codes "ask") rows) ≡ Some a
    → taken_number (has task.Load (ask_row a).tasks) MOST_WORKLOAD (first_of (codes "workload") rows) ≡ Some workload
    → IsMade (request_for a workload (beside workload (with_catalog (first_of (codes "compiled") rows) (ask_row a).tasks)) rows) made → IsMade (request_in rows) made
whole rows a workload made asked counted is = rw (asked, counted) is
