-- The graph of what pruning keeps, between what goes first and what goes last, each as one program.
use Rattle.std.specs.Prelude.{◌≡◌, ◌≢◌, ◌⊎◌, ◌↔◌, ◌==◌, ℕ, zero, suc, ◌+◌, ◌<◌, List, [], ◌∷◌, ◌++◌, map, length, slice_index_or, if◌then◌else◌}
use Rattle.fs_semantics.specs.Programs.{Program, Programs, Steps, none, next}
use Rattle.fs_lang.specs.Meaning.{program_of}
use Rattle.orders.specs.Relation.{Relation, Comes}
use Rattle.commute_prune.specs.declared.settling.Pruned.{Pruned}
use Rattle.sure_folders.specs.Pruning.{chosen, between}
use Rattle.kept_graph.specs.declared.contracted.Contracted.{Contracted}

-- n nodes with an order, a node n that comes before all others, and a node n + 1 that comes after all others
abbrev pub Around : ℕ → (ℕ → ℕ → Type 0) → ℕ → ℕ → Type 0
Around n before a b = ((a ≡ n) × (b ≢ n)) ⊎ (((b ≡ n + 1) × (a ≢ n + 1)) ⊎ ((a < n) × (b < n) × before a b))

-- the edges from node n to each other one, and from each to node n + 1
abbrev pub star : ℕ → ℕ → List (ℕ × ℕ)
star n zero = (n, n + 1) ∷ []
star n (suc i) = star n i ++ (n, i) ∷ (i, n + 1) ∷ []

-- programs as the steps of one
abbrev pub steps_of : List Program → Programs
steps_of [] = none
steps_of (e ∷ es) = next e (steps_of es)

-- the programs with these numbers, one after the other, as one program
abbrev pub as_one : List Program → List ℕ → Program
as_one es ks = Steps (steps_of (chosen es ks))

-- the kept programs, what goes first, and what goes last
abbrev pub contracted_programs : List Program → Pruned → List Program
contracted_programs es p = chosen es p.kept ++ as_one es p.first ∷ as_one es p.last ∷ []

-- What goes first comes before all, what goes last comes after all, and the kept programs have the order that they had.
pub record IsContracted (es : List Program) (order : Relation) (p : Pruned) (c : Contracted) : Type 0 where
  pub programs : map program_of c.programs ≡ contracted_programs es p
  pub count : c.order.count ≡ length p.kept + 2
  pub before : (a b : ℕ) → a < length p.kept + 2 → b < length p.kept + 2 → Comes c.order a b
      ↔ Around (length p.kept) (between (Comes order) p.kept) a b

-- the programs that a node of the contracted graph stands for, by their numbers
abbrev pub members : Pruned → ℕ → List ℕ
members p i = if i == length p.kept then p.first else (if i == length p.kept + 1 then p.last else slice_index_or p.kept i 0 ∷ [])

-- the order of all programs that an order of the contracted graph stands for
abbrev pub expanded : Pruned → List ℕ → List ℕ
expanded p [] = []
expanded p (i ∷ order) = members p i ++ expanded p order
