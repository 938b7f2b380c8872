use Rattle.std.proofs.Common.{false, true, refl, sym, subst, ◌∙◌, arith, lit≤}
use Rattle.pp_value.specs.Texts.{lowered}
use Rattle.pp_value.proofs.TextLaws.{from_front}
use Rattle.pp_value.proofs.WindowLaws.{Window, first_window, goes_on_by, ahead_is_left, at_end, in_shorter, behind_front, told_apart}
use Rattle.pp_value.proofs.texts.is_part.Goals as goal

pub returns-in_default : goal.returns-in_default
returns-in_default c = sym (in_shorter c.args.part.now c.args.text.now c.in_default.ensures.cases)

pub loop-next-init : goal.loop-next-init
loop-next-init c = (
  refl,
  subst (λ e. Window (lowered c.args.part.now) (lowered c.args.text.now) (lowered c.in-Some.after.now) 0 e) (sym c.hash_from-end.ensures.hash) (first_window c.args.part.now c.args.text.now c.in-Some.window.now c.in-Some.after.now c.in-Some.ensures.cases),
  lit≤ tt,
  c.hash_from-end.ensures.reduced,
  c.power_of-power.ensures.power,
  c.hash_from-sought.ensures.hash,
)

pub stands_first-requires : goal.stands_first-requires
stands_first-requires c =
    let inv = c.loop-next.invariant in
    λ no. told_apart c.args.part.now c.loop-next.rest.now c.loop-next.ahead.now _ _ _ _ inv.1 inv.2 inv.4 inv.5 (sym c.goes_on.ensures ∙ no)

pub returns-then-stands_first : goal.returns-then-stands_first
returns-then-stands_first c = sym (from_front (lowered c.args.part.now) (lowered c.loop-next.rest.now) (sym c.stands_first.ensures ∙ c.if-stands_first.true)) ∙ c.loop-next.invariant.0

pub returns-in_default-split_first-2 : goal.returns-in_default-split_first-2
returns-in_default-split_first-2 c =
    absurd (omega (arith, ahead_is_left c.args.part.now c.loop-next.rest.now c.loop-next.ahead.now _ _ c.loop-next.invariant.1, c.in_default-split_first-2.ensures.cases, c.in-Some-split_first.ensures.cases.1))

pub loop-next-preserved : goal.loop-next-preserved
loop-next-preserved c =
    let inv = c.loop-next.invariant in
    let first = c.in-Some-split_first-2.ensures.cases.0 in (
      behind_front c.args.part.now c.loop-next.rest.now _ c.in-Some-split_first-2.more.now first (sym c.stands_first.ensures ∙ c.if-stands_first.false) ∙ inv.0,
      goes_on_by c.args.part.now c.loop-next.rest.now c.loop-next.ahead.now _ _ c.in-Some-split_first-2.more.now c.in-Some-split_first.beyond.now _ _ _ _ first c.in-Some-split_first.ensures.cases.0 c.next_hash-front.ensures.hash c.next_hash-end.ensures.hash inv.1,
      c.next_hash-front.ensures.reduced,
      c.next_hash-end.ensures.reduced,
      inv.4,
      inv.5,
    )

pub stands_first-requires-2 : goal.stands_first-requires-2
stands_first-requires-2 c =
    let inv = c.loop-next.invariant in
    λ no. told_apart c.args.part.now c.loop-next.rest.now c.loop-next.ahead.now _ _ _ _ inv.1 inv.2 inv.4 inv.5 (sym c.goes_on-2.ensures ∙ no)

pub returns : goal.returns
returns c =
    let inv = c.loop-next.invariant in
    c.stands_first-2.ensures ∙ at_end c.args.part.now c.loop-next.rest.now c.loop-next.ahead.now _ _ c.in_default-split_first.ensures.cases inv.1 ∙ inv.0
