use Rattle.std.proofs.Common.{map, subst}
use Rattle.std.proofs.lemmas.Result.{IfOk-weaker}
use Rattle.fs_semantics.specs.Orders.{Told, IsDeterministic}
use Rattle.fs_lang.specs.Meaning.{program_of}
use Rattle.finite_domain.specs.Layouts.{IsLayout}
use Rattle.path_domain.specs.declared.listed.Domain.{Domain}
use Rattle.path_domain.specs.Laid.{layout_of}
use Rattle.orders.specs.Relation.{comes}
use Rattle.proof_check.specs.Refuted.{HasNoModel}
use Rattle.order_encode.specs.Asked.{CanShow}
use Rattle.order_encode.specs.declared.witness.Witness.{Witness}
use Rattle.answering.specs.Answers.{in_its_words}
use Rattle.kept_graph.specs.Contracted.{expanded}
use Rattle.determinism.specs.Questions.{States}
use Rattle.determinism.specs.First.{IsDifference}
use Rattle.determinism.proofs.QuestionLaws.{other_states}
use Rattle.determinism.proofs.whole.ask_contracted.Goals as goal

pub returns : goal.returns
returns c = IfOk-weaker c.answer_to.result _ _ (λ found is.
    let es = map program_of c.args.plan.now.programs.now in
    let order = c.args.plan.now.order.now in
    let before = Told (comes order) in
    let k = c.args.contracted.now in
    let p = c.args.kept.now.pruned in
    let fs = map program_of k.programs in
    let after = Told (comes k.order) in
    let q = c.in_ok-question.question in
    let posed = subst (λ ps. ((d : Domain) × IsLayout (map program_of ps) (layout_of d)) × States (map program_of ps) after q.formula × (HasNoModel q.formula → IsDeterministic (map program_of ps) after)
    × ((w : Witness) → CanShow q w → IsDifference (map program_of ps) after w)) c.as_slice.ensures
    (c.in_ok-question.ensures.laid, c.in_ok-question.ensures.states, c.in_ok-question.ensures.sure, c.in_ok-question.ensures.models) in
    let proper = c.are_proper.ensures in
    let pruned = c.requires.kept.pruned in
    let contracted = c.requires.contracted in
    let law = c.contractions.ensures in
    let states = other_states c.domains.ensures.laid_out c.witnesses_over_the_domain.ensures.orders es fs (comes order) (comes k.order)
    (λ t o x. law.counterexample es proper order p pruned k contracted t o x)
    (λ t o x h. (expanded p o, expanded p x, law.expanded es proper order p pruned k contracted t o x h)) posed.0.0 posed.0.1 q.formula posed.1 in
    in_its_words q c.args.budget (States es before) (IsDeterministic es before) (IsDifference fs after) states
    (λ none. law.deterministic es proper order p pruned k contracted (posed.2 none)) posed.3 found is) c.answer_to.ensures
