-- Where no folder is given, an answer about the graph says all that is said of one from given trees.
use Rattle.std.proofs.Common.{◌≡◌, ◌==◌, ℕ, true, inl, List, [], ◌∷◌, length, refl, eqb-true, arith}
use Rattle.std.specs.Prelude.{◌↔◌}
use Rattle.fs_semantics.specs.FileTree.{Path}
use Rattle.fs_semantics.specs.Programs.{Program}
use Rattle.fs_semantics.specs.Orders.{Told}
use Rattle.given_hosts.proofs.GraphLaws.{none_to_stand}
use Rattle.given_hosts.proofs.NoneGiven as none
use Rattle.orders.specs.Relation.{Relation, comes}
use Rattle.cnf.specs.Formulas.{Formula}
use Rattle.order_encode.specs.declared.witness.Witness.{Witness}
use Rattle.order_encode.specs.declared.witness.Witness.TheVariants as witness
use Rattle.determinism.specs.First.{IsDifference, IfSure, IfDiffers}
use Rattle.determinism.specs.Answers.{IsJudged}
use Rattle.determinism.specs.declared.first.First.{First}
use Rattle.determinism.specs.declared.first.First.TheVariants as first
use Rattle.answering.specs.declared.answering.Answer.{Answer}
use Rattle.answering.specs.declared.answering.Answer.TheVariants as answer
use Rattle.verdict.specs.declared.verdicts.Settled.{Settled}
use Rattle.verdict.specs.Settled.{IsSettled, IsUnsettled}
use Rattle.second_runs.specs.Questions.{StatesSecond, IsSecondChange}
use Rattle.second_runs.specs.Answers.{AnswersSecond}
use Rattle.success.specs.Questions.{StatesEnd, IsEndProof, IsEnd}
use Rattle.success.specs.Answers.{AnswersEnd}
use Rattle.given_verdict.specs.First.{IsDifferenceFrom, IsJudgedFrom}
use Rattle.given_verdict.specs.Settled.{IsSettledFrom, IsUnsettledFrom}
use Rattle.given_verdict.specs.Second.{StatesSecondFrom, IsChangeFrom, AnswersAgainFrom}
use Rattle.given_verdict.specs.Ends.{StatesEndFrom, IsEndProofFrom, IsEndFrom, AnswersEndFrom}

-- where the count of the given folders is zero, there are none
pub none_there : (given : List Path) → (length given == 0) ≡ true → given ≡ []
none_there [] h = refl
none_there (p ∷ given) h = absurd (let none = eqb-true (length (p ∷ given)) 0 h in omega (arith, none))

module _ (es : List Program) (order : Relation) where
  -- a witness of a difference is one from given trees
  pub difference : (w : Witness) → IsDifference es (Told (comes order)) w → IsDifferenceFrom [] es (Told (comes order)) w
  difference (witness.Orders tree left right) h = (record { stand = tt; shows = h.0 }, h.1)
  difference (witness.Twice tree o) h = h
  difference (witness.Ends tree o) h = h

  -- a formula that states the question about a second run states it from given trees
  states_second : (f : Formula) → StatesSecond es order f → StatesSecondFrom [] es order f
  states_second f h d lay = (
    (λ sat.
        let w = (h d lay).0 sat in
        record { tree = w.tree; first = w.first; over = w.changed.over; changed = record { is_first = w.changed.is_first; shows = record { stand = tt; shows = w.changed.counterexample } } }),
    (λ w. (h d lay).1 (record {
      tree = w.tree;
      first = w.first;
      changed = record { is_first = w.changed.is_first; over = w.over; counterexample = w.changed.shows.shows };
    })),
  )

  -- a formula that states whether the graph succeeds states it from given trees
  pub states_end : (f : Formula) → StatesEnd es order f → StatesEndFrom [] es order f
  states_end f h d lay = (
    (λ sat.
        let w = (h d lay).0 sat in
        record { tree = w.tree; first = w.first; over = w.ended.over; run = record { is_first = w.ended.is_first; is_tree = none_to_stand w.tree w.ended.is_tree; ends = w.ended.ends } }),
    (λ w. (h d lay).1 (record {
      tree = w.tree;
      first = w.first;
      ended = record { is_first = w.run.is_first; is_tree = w.run.is_tree.is_tree; over = w.over; ends = w.run.ends };
    })),
  )

  -- a proof that the graph never succeeds is one from given trees
  pub end_proof : (f : Formula) → IsEndProof es order f → IsEndProofFrom [] es order f
  end_proof f h = record { states = states_end f h.states; no_model = h.no_model }

  -- a witness of a second run that changes something is one from a given tree
  change : (w : Witness) → IsSecondChange es order w → IsChangeFrom [] es order w
  change (witness.Orders tree left right) h = h
  change (witness.Twice tree o) h = (record { stand = tt; shows = h.1 }, λ empty. h.0)
  change (witness.Ends tree o) h = h

  -- a witness of a run that ends in a tree is one from a given tree
  pub end_of : (w : Witness) → IsEnd es order w → IsEndFrom [] es order w
  end_of (witness.Orders tree left right) h = h
  end_of (witness.Twice tree o) h = h
  end_of (witness.Ends tree o) h = record { is_first = h.0; is_tree = none_to_stand tree h.1; ends = h.2 }

  -- ---- the answers

  -- a fact that follows of a deterministic graph follows of the answer
  if_sure : (P Q : Type 0) → (P → Q) → (a : First) → IfSure a P → IfSure a Q
  if_sure P Q f (first.Sure n s) h = f h
  if_sure P Q f (first.Differs n w) h = tt
  if_sure P Q f (first.Spent n cnf log) h = tt

  -- a difference that an answer shows is one from given trees
  differs : (a : First) → IfDiffers a (IsDifference es (Told (comes order))) → IfDiffers a (IsDifferenceFrom [] es (Told (comes order)))
  differs (first.Sure n s) h = tt
  differs (first.Differs n w) h = difference w h
  differs (first.Spent n cnf log) h = tt

  -- a graph that is known to be deterministic is known to be so from given trees
  pub settled : (s : Settled) → IsSettled es order s → IsSettledFrom [] es order s
  settled s h = record { pruned = h.pruned; deterministic = (none.deterministic es (Told (comes order))).1 h.deterministic; alone = h.alone; proved = h.proved }

  module _ (budget : ℕ) where
    -- and one that isn't known to be so isn't from these
    pub unsettled : (f : First) → IsUnsettled es order budget f → IsUnsettledFrom [] es order budget f
    unsettled (first.Sure n s) h = h
    unsettled (first.Differs n w) h = (h.0, difference w h.1)
    unsettled (first.Spent n cnf log) h = h

    -- what is said of the answer to the first question
    pub judged : (a : First) → IsJudged es order budget a → IsJudgedFrom [] es order budget a
    judged a h = record {
      pruned = h.pruned;
      alone = h.alone;
      deterministic = if_sure _ _ (none.deterministic es (Told (comes order))).1 a h.deterministic;
      proved = h.proved;
      differs = differs a h.differs;
      spent = h.spent;
    }

    -- what comes of the question of a second run
    pub again : (a : Answer) → AnswersSecond es order budget a → AnswersAgainFrom [] es order budget a
    again (answer.Refuted v) h = ((none.idempotent es (Told (comes order))).1 h.0, record { states = states_second v.formula h.1; no_model = h.2 })
    again (answer.Shown w) h = change w h
    again (answer.Spent cnf log) h = inl (states_second cnf h.0, h.1)

    -- what comes of the question whether the graph succeeds
    pub ended : (a : Answer) → AnswersEnd es order budget a → AnswersEndFrom [] es order budget a
    ended (answer.Refuted v) h = ((λ s. h.0 ((none.succeeds es (Told (comes order))).0 s)), states_end v.formula h.1, h.2)
    ended (answer.Shown w) h = end_of w h
    ended (answer.Spent cnf log) h = (states_end cnf h.0, h.1)
