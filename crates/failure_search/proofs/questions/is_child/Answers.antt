use Rattle.failure_search.proofs.QuestionLaws.{not_root, is_next, was_next, is_above}
use Rattle.failure_search.proofs.questions.is_child.Goals as goal
use Rattle.failure_semantics.proofs.Found.{off}

pub returns-then-above : goal.returns-then-above
returns-then-above c = (
  (λ h. is_next c.args.p.now c.args.q.now c.segments-2.result.now c.segments-3.result.now c.segments-2.ensures.value c.segments-3.ensures.value (c.is_ancestor-above.ensures.0 c.if-above.true) h),
  (λ h. was_next c.args.p.now c.args.q.now c.segments-2.result.now c.segments-3.result.now c.segments-2.ensures.value c.segments-3.ensures.value
      (not_root c.segments.result.now c.args.q.now c.is_empty.result c.segments.ensures.value c.is_empty.ensures c.if-is_empty.false) h),
)

pub returns-else-above : goal.returns-else-above
returns-else-above c = (
  (λ h. absurd (off c.is_ancestor-above.result c.if-above.false h)),
  (λ h. c.is_ancestor-above.ensures.1 (is_above c.args.p.now c.args.q.now (not_root c.segments.result.now c.args.q.now c.is_empty.result c.segments.ensures.value c.is_empty.ensures c.if-is_empty.false) h)),
)
