-- What a question is asked of, as contracts see it.
use Rattle.std.specs.Prelude.{◌≡◌, ℕ, ◌<◌, List, length, map}
use Rattle.std.specs.List.{AllByRecursion}
use Rattle.fs_semantics.specs.Programs.{Outcome}
use Rattle.fs_semantics.specs.FileTree.{Tree}
use Rattle.fs_semantics.specs.Orders.{outcome}
use Rattle.fs_lang.specs.declared.program.Program.{Program}
use Rattle.fs_lang.specs.Meaning.{program_of, programs_in}
use Rattle.fs_interpreter.specs.Places.{CoversSteps}
use Rattle.path_domain.specs.declared.listed.Domain.{Domain}
use Rattle.orders.specs.Relation.{Relation}

-- Programs, which of them come before which, and the domain of their paths.
pub record Planned : Type 0 where
  pub domain : Domain
  pub programs : List Program
  pub order : Relation

-- Each program is a node of the order, and the domain has what they name.
pub record IsPlan (p : Planned) : Type 0 where
  pub count : length p.programs ≡ p.order.count
  pub covers : CoversSteps p.domain.table (programs_in p.programs)

-- Programs, the order in which they run, and the domain of their paths.
pub record Scheduled : Type 0 where
  pub domain : Domain
  pub programs : List Program
  pub order : List ℕ

-- The order is one of the programs, and the domain has what they name.
pub record IsSchedule (s : Scheduled) : Type 0 where
  pub nodes : AllByRecursion (λ k. k < length s.programs) s.order
  pub covers : CoversSteps s.domain.table (programs_in s.programs)

-- what the programs make of a tree in their order
abbrev pub end_of : Scheduled → Tree → Outcome
end_of s = outcome (map program_of s.programs) s.order
