-- Where no folder is given, an answer about the graph says all that is said of one from given trees.
use Rattle.std.proofs.Common.{ℕ, List, []}
use Rattle.std.specs.Prelude.{◌↔◌}
use Rattle.fs_semantics.specs.Programs.{Program}
use Rattle.fs_semantics.specs.Orders.{Told}
use Rattle.given_hosts.proofs.NoneGiven as none
use Rattle.orders.specs.Relation.{Relation, comes}
use Rattle.cnf.specs.Formulas.{Formula}
use Rattle.cnf.specs.declared.log.Step.{Step}
use Rattle.order_encode.specs.declared.witness.Witness.{Witness}
use Rattle.order_encode.specs.declared.witness.Witness.TheVariants as witness
use Rattle.verdict.specs.declared.verdicts.Ends.{Ends}
use Rattle.verdict.specs.declared.verdicts.Ends.TheVariants as ends
use Rattle.wanted_entry.specs.declared.wanted.Wanted.{Wanted}
use Rattle.wanted_entry.specs.Entries.{Ensures}
use Rattle.ensured_entry.specs.declared.ensured.Late.{Late}
use Rattle.ensured_entry.specs.declared.ensured.Late.TheVariants as late
use Rattle.ensured_entry.specs.declared.ensured.Ensured.{Ensured}
use Rattle.ensured_entry.specs.declared.ensured.Ensured.TheVariants as ensured
use Rattle.ensured_entry.specs.Questions.{StatesMissing, IsEntryProof, IsMissed}
use Rattle.ensured_entry.specs.Ensured.{AreEnds, IsSpentOn, IsKnownBefore, IsEnsured}
use Rattle.given_verdict.proofs.NoneLaws.{states_end, end_proof, end_of, settled, unsettled}
use Rattle.given_entry.specs.Questions.{EnsuresFrom, StatesMissingFrom, IsEntryProofFrom, IsMissedFrom}
use Rattle.given_entry.specs.Answers.{AreEndsFrom, IsSpentOnFrom, IsKnownBeforeFrom, IsEnsuredFrom}

module _ (es : List Program) (order : Relation) (w : Wanted) where
  -- what ensures the entry does so from the trees of no given folders
  ensures : Ensures es (Told (comes order)) w → EnsuresFrom [] es (Told (comes order)) w
  ensures h t g o allowed u ends = h t g.is_tree o allowed u ends

  -- a formula that states the question states it from these
  states_missing : (f : Formula) → StatesMissing es order w f → StatesMissingFrom [] es order w f
  states_missing f h d lay = (
    (λ sat.
        let m = (h d lay).0 sat in
        record { tree = m.tree; first = m.first; over = m.missed.over; is_first = m.missed.is_first; missed = record { stand = tt; shows = m.missed.without } }),
    (λ m. (h d lay).1 (record { tree = m.tree; first = m.first; missed = record { is_first = m.is_first; over = m.over; without = m.missed.shows } })),
  )

  -- and a proof is one from these
  entry_proof : (f : Formula) → IsEntryProof es order w f → IsEntryProofFrom [] es order w f
  entry_proof f h = record { states = states_missing f h.states; no_model = h.no_model }

  -- and a witness of a run without the entry
  missed : (x : Witness) → IsMissed es order w x → IsMissedFrom [] es order w x
  missed (witness.Orders tree left right) h = h
  missed (witness.Twice tree first) h = h
  missed (witness.Ends tree first) h = record { stand = tt; shows = h }

  -- and what the budget was spent on
  spent_on : (budget : ℕ) (a : Late) (f : Formula) (steps : List Step) → IsSpentOn es order w budget a f steps → IsSpentOnFrom [] es order w budget a f steps
  spent_on budget late.Ensures f steps h = (states_missing f h.0, h.1)
  spent_on budget late.Succeeds f steps h = (states_end es order f h.0, h.1)

  -- and what is known before a later question
  known : (a : Late) → IsKnownBefore es order w a → IsKnownBeforeFrom [] es order w a
  known late.Ensures h = h
  known late.Succeeds h = ensures h

  -- and what is said of success
  ended : (end : Ends) → AreEnds es order end → AreEndsFrom [] es order end
  ended (ends.From x) h = ((none.succeeds es (Told (comes order))).1 h.0, end_of es order x h.1)
  ended (ends.Never v) h = ((λ k. h.0 ((none.succeeds es (Told (comes order))).0 k)), end_proof es order v.formula h.1)

  -- and all that is said of an answer
  pub ensured_from : (budget : ℕ) (e : Ensured) → IsEnsured es order w budget e → IsEnsuredFrom [] es order w budget e
  ensured_from budget (ensured.First f) h = unsettled es order budget f h
  ensured_from budget (ensured.Holds s v end) h = (settled es order s h.0, ensures h.1, entry_proof v.formula h.2, ended end h.3)
  ensured_from budget (ensured.Fails s x) h = (settled es order s h.0, missed x h.1)
  ensured_from budget (ensured.Spent s a f log) h = (settled es order s h.0, known a h.1, spent_on budget a f log.steps h.2)
