-- Relations between nodes by their numbers, each with the refusal that it may meet.
use Rattle.std.specs.Prelude.{ℕ, ◌*◌, List, [], ◌∷◌, ◌++◌, Option, Some, None, Result, Ok, Err}
use Rattle.rh_base.specs.declared.fault.Refusal.{Refusal}
use Rattle.pp_value.specs.declared.value.Ref.{Ref}
use Rattle.pp_value.specs.Shown.{shown_ref}
use Rattle.pp_eval.specs.Evaluating.{◌>>=◌, refusal}
use Rattle.catalog_semantics.specs.declared.catalog.Relation.{Relation}
use Rattle.catalog_semantics.specs.Catalogs.{Catalog}
use Rattle.graph_semantics.specs.Relations.{target_of}
use Rattle.graph_semantics.specs.Graphs.{rank}
use Rattle.dep_graph.specs.Numbers.{last_at}
use Rattle.dep_graph.specs.declared.targets.Side.{Side}
use Rattle.dep_graph.specs.declared.targets.Side.TheVariants as side
use Rattle.dep_graph.specs.declared.links.Link.{Link}

-- the node of the resource at a place from which a relation leads, or to which
abbrev pub side_number : Side → Catalog → ℕ → ℕ
side_number side.From c place = rank (last_at c place)
side_number side.To c place = 2 * place

-- the node of the place that was found, or the refusal of a reference to nothing
abbrev pub numbered : Side → Catalog → ℕ → Ref → Option ℕ → Result ℕ Refusal
numbered s c at ref None = Err (refusal 40 at (shown_ref ref))
numbered s c at ref (Some place) = Ok (side_number s c place)

-- the node of what a reference names
abbrev pub node_of : Side → Catalog → ℕ → Ref → Result ℕ Refusal
node_of s c at ref = numbered s c at ref (target_of c ref)

-- these nodes, and behind them those that references name
abbrev pub with_nodes : Side → Catalog → ℕ → List Ref → List ℕ → Result (List ℕ) Refusal
with_nodes s c at [] nodes = Ok nodes
with_nodes s c at (ref ∷ refs) nodes = node_of s c at ref >>= λ n. with_nodes s c at refs (nodes ++ n ∷ [])

-- these links, and behind them the one of a relation
abbrev pub with_link : Catalog → Relation → List Link → Result (List Link) Refusal
with_link c q links = do
  from ← with_nodes side.From c q.at q.from []
  to ← with_nodes side.To c q.at q.to []
  Ok (links ++ record { from = from; to = to } ∷ [])

-- these links, and behind them those of relations
abbrev pub with_links : Catalog → List Relation → List Link → Result (List Link) Refusal
with_links c [] links = Ok links
with_links c (q ∷ relations) links = with_link c q links >>= λ more. with_links c relations more
