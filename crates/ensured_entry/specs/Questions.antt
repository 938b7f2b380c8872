-- The question whether a run of a deterministic graph ends without the wanted entry, and what its formula and its witness say.
use Rattle.std.specs.Prelude.{◌↔◌, ℕ, List, [], ◌∷◌, ◌++◌}
use Rattle.fs_semantics.specs.Programs.{Program}
use Rattle.fs_semantics.specs.Orders.{Told}
use Rattle.finite_domain.specs.Layouts.{IsLayout}
use Rattle.path_domain.specs.declared.listed.Domain.{Domain}
use Rattle.path_domain.specs.Laid.{layout_of}
use Rattle.orders.specs.Relation.{Relation, comes, Comes}
use Rattle.cnf.specs.Formulas.{Formula, IsSatisfiable}
use Rattle.proof_check.specs.Refuted.{HasNoModel}
use Rattle.order_encode.specs.Missing.{HasMissing}
use Rattle.order_encode.specs.declared.witness.Witness.{Witness}
use Rattle.order_encode.specs.declared.witness.Witness.TheVariants as witness
use Rattle.answering.specs.declared.answering.Answer.{Answer}
use Rattle.answering.specs.Answers.{AnswersBy}
use Rattle.wanted_entry.specs.declared.wanted.Wanted.{Wanted}
use Rattle.wanted_entry.specs.Entries.{Ensures, EndsWithout, probe_of}

-- The formula states whether a run ends without the entry: it can be true exactly where the first extension ends, from some tree
-- over the domain of the programs and the probe, in a tree without it.
abbrev pub StatesMissing : List Program → Relation → Wanted → Formula → Type 0
StatesMissing es order w f = (d : Domain) → IsLayout (es ++ probe_of w ∷ []) (layout_of d) → IsSatisfiable f ↔ HasMissing es order d w

-- the formula states it, and has no model
pub record IsEntryProof (es : List Program) (order : Relation) (w : Wanted) (f : Formula) : Type 0 where
  pub states : StatesMissing es order w f
  pub no_model : HasNoModel f

-- From the tree the order, which is allowed, ends in a tree without the entry.
abbrev pub IsMissed : List Program → Relation → Wanted → Witness → Type 0
IsMissed es order w (witness.Orders tree left right) = ⊥
IsMissed es order w (witness.Twice tree first) = ⊥
IsMissed es order w (witness.Ends tree first) = EndsWithout es (Comes order) w tree first

-- what comes of it
abbrev pub AnswersMissing : List Program → Relation → Wanted → ℕ → Answer → Type 0
AnswersMissing es order w budget a = AnswersBy (StatesMissing es order w) (Ensures es (Told (comes order)) w) (IsMissed es order w) budget a
