use Rattle.std.proofs.Common.{◌≡◌, ℕ, ◌∷◌, ◌++◌, List, length, map, sym, ap, ap₂, subst, ◌∙◌}
use Rattle.std.proofs.lemmas.Result.{IfOk-weaker}
use Rattle.std.specs.Prelude.{◌↔◌}
use Rattle.std.proofs.lemmas.List.{length-map}
use Rattle.fs_semantics.specs.Programs.{Program}
use Rattle.fs_lang.specs.Meaning.{program_of}
use Rattle.given_hosts.specs.Guard.{guarded}
use Rattle.finite_domain.specs.Layouts.{IsLayout}
use Rattle.path_domain.specs.Laid.{layout_of}
use Rattle.cnf.specs.Formulas.{IsSatisfiable}
use Rattle.order_encode.specs.Witnesses.{IsFirstExtension}
use Rattle.order_encode.specs.Parting.{HaveParting, ShowsParting}
use Rattle.given_verdict.proofs.SecondLaws.{states, never, shown, once_below, twice_below}
use Rattle.given_verdict.proofs.second.second_question.Goals as goal

-- what holds of two lists of programs holds of what they are
both_guarded : (P : List Program → List Program → Type 0) {gs hs es : List Program} → gs ≡ es → hs ≡ es → P gs hs → P es es
both_guarded P {gs} {hs} {es} left right p = subst (P es) right (subst (λ fs. P fs hs) left p)

pub ask_parting-requires-clause-nodes : goal.ask_parting-requires-clause-nodes
ask_parting-requires-clause-nodes c =
    let es = map program_of c.args.plan.now.programs.now in
    let order = c.args.plan.now.order.now in
    let long : length es ≡ order.count = length-map c.args.plan.now.programs.now program_of ∙ c.args.plan.now.count in
    let is_first : IsFirstExtension order c.in_ok-first.first = record { allowed = c.in_ok-first.ensures.allowed; least = c.in_ok-first.ensures.least } in
    once_below c.args.given.now es order long c.in_ok-first.first is_first c.as_slice-4.result.now (ap (map program_of) c.as_slice-4.ensures ∙ c.in_ok-all.ensures) c.in_ok-once.once
    (c.in_ok-once.ensures ∙ ap₂ (λ a l. a ∷ l) (c.count-guard.ensures.count ∙ sym long) c.as_slice.ensures)

pub ask_parting-requires-clause-others : goal.ask_parting-requires-clause-others
ask_parting-requires-clause-others c =
    let es = map program_of c.args.plan.now.programs.now in
    let order = c.args.plan.now.order.now in
    let long : length es ≡ order.count = length-map c.args.plan.now.programs.now program_of ∙ c.args.plan.now.count in
    let is_first : IsFirstExtension order c.in_ok-first.first = record { allowed = c.in_ok-first.ensures.allowed; least = c.in_ok-first.ensures.least } in
    twice_below c.args.given.now es order long c.in_ok-first.first is_first c.as_slice-5.result.now (ap (map program_of) c.as_slice-5.ensures ∙ c.in_ok-all.ensures) c.as_slice-6.result.now
    (c.as_slice-6.ensures ∙ c.in_ok-twice.ensures ∙ ap₂ (λ a l. a ∷ (l ++ l)) (c.count-guard.ensures.count ∙ sym long) c.as_slice-2.ensures)

pub returns : goal.returns
returns c =
    let es = map program_of c.args.plan.now.programs.now in
    let order = c.args.plan.now.order.now in
    let given = c.args.given.now in
    let d = c.in_ok-d.d in
    let first = c.in_ok-first.first in
    let once = c.in_ok-once.once in
    let twice = c.as_slice-6.result.now in
    let long : length es ≡ order.count = length-map c.args.plan.now.programs.now program_of ∙ c.args.plan.now.count in
    let is_first : IsFirstExtension order first = record { allowed = c.in_ok-first.ensures.allowed; least = c.in_ok-first.ensures.least } in
    let same = c.count-guard.ensures.count ∙ sym long in
    let one = c.in_ok-once.ensures ∙ ap₂ (λ a l. a ∷ l) same c.as_slice.ensures in
    let two = c.as_slice-6.ensures ∙ c.in_ok-twice.ensures ∙ ap₂ (λ a l. a ∷ (l ++ l)) same c.as_slice-2.ensures in
    let left : map program_of c.as_slice-4.result.now ≡ guarded given es = ap (map program_of) c.as_slice-4.ensures ∙ c.in_ok-all.ensures in
    let right : map program_of c.as_slice-5.result.now ≡ guarded given es = ap (map program_of) c.as_slice-5.ensures ∙ c.in_ok-all.ensures in
    let lay : IsLayout (guarded given es) (layout_of d) = subst (λ gs. IsLayout gs (layout_of d)) (ap (map program_of) c.as_slice-3.ensures ∙ c.in_ok-all.ensures) c.in_ok-d.ensures.layout in
    record {
      states = IfOk-weaker c.ask_parting.result _ _ (λ q asked.
          states given es order long first is_first c.domains.ensures.laid_out c.shadows.ensures.exist c.shadows.ensures.tell c.allowed_orders.ensures.long d lay once twice one two q.formula
          (both_guarded (λ gs hs. IsSatisfiable q.formula ↔ HaveParting gs once hs twice d) left right asked) c.requires) c.ask_parting.ensures.exact;
      never = IfOk-weaker c.ask_parting.result _ _ (λ q asked.
          never given es order long first is_first c.domains.ensures.laid_out c.shadows.ensures.exist c.shadows.ensures.tell c.allowed_orders.ensures.long d lay once twice one two q.formula
          (both_guarded (λ gs hs. IsSatisfiable q.formula ↔ HaveParting gs once hs twice d) left right asked)) c.ask_parting.ensures.exact;
      models = IfOk-weaker c.ask_parting.result _ _ (λ q models w shows.
          shown given es order long first is_first d once twice one two w
          (both_guarded (λ gs hs. ShowsParting gs once hs twice d w) left right (models w shows))) c.ask_parting.ensures.models;
    }
