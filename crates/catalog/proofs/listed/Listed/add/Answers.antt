use Rattle.std.proofs.Common.{◌≡◌, ◌<◌, ◌≤◌, [], ◌∷◌, ◌++◌, Ok, length, ap, sym, ◌∙◌, subst, arith}
use Rattle.catalog_semantics.proofs.Ending.{under_bound}
use Rattle.catalog_semantics.specs.States.{attributes_limit, size_of_attributes, references_of}
use Rattle.catalog.specs.Places.{place_among, IsListed}
use Rattle.catalog.proofs.RefLaws.{place_is, stands_is}
use Rattle.catalog.proofs.SizeLaws.{sum_is, sum_over, listed_more, listed_as}
use Rattle.catalog.proofs.Listing.{refused_with, twice, no_room, too_large, fits}
use Rattle.catalog.proofs.listed.Listed.add.Goals as goal

pub returns-then-is_some-clause-answers : goal.returns-then-is_some-clause-answers
returns-then-is_some-clause-answers c =
    let h = subst (IsListed c.self.inside.refs c.self.inside.size) c.self.view_is c.self.invariant in
    let found = c.find.ensures ∙ (ap (place_among c.args.r.id) h.refs_are ∙ place_is 0 c.args.r.id (references_of c.args.self.now)) in
    refused_with _ _ (twice c.args.limits c.args.r c.args.self.now (sym (stands_is c.args.r.id (references_of c.args.self.now) c.find.result found) ∙ (sym c.is_some.ensures ∙ c.if-is_some.true))) c.stands_twice.result c.stands_twice.ensures

pub returns-then-is_full-clause-answers : goal.returns-then-is_full-clause-answers
returns-then-is_full-clause-answers c =
    let h = subst (IsListed c.self.inside.refs c.self.inside.size) c.self.view_is c.self.invariant in
    let found = c.find.ensures ∙ (ap (place_among c.args.r.id) h.refs_are ∙ place_is 0 c.args.r.id (references_of c.args.self.now)) in
    let new = sym (stands_is c.args.r.id (references_of c.args.self.now) c.find.result found) ∙ (sym c.is_some.ensures ∙ c.if-is_some.false) in
    let count = c.len.ensures in
    let viewed : length c.self.inside.resources.items ≡ length c.args.self.now = ap length c.self.view_is in
    let full = c.is_full.ensures.full c.if-is_full.true in
    refused_with _ _ (no_room c.args.limits c.args.r c.args.self.now new (omega arith)) c.refusal.result c.refusal.ensures

pub returns-then-size-gt-ATTRIBUTES_SIZE-clause-answers : goal.returns-then-size-gt-ATTRIBUTES_SIZE-clause-answers
returns-then-size-gt-ATTRIBUTES_SIZE-clause-answers c =
    let h = subst (IsListed c.self.inside.refs c.self.inside.size) c.self.view_is c.self.invariant in
    let found = c.find.ensures ∙ (ap (place_among c.args.r.id) h.refs_are ∙ place_is 0 c.args.r.id (references_of c.args.self.now)) in
    let new = sym (stands_is c.args.r.id (references_of c.args.self.now) c.find.result found) ∙ (sym c.is_some.ensures ∙ c.if-is_some.false) in
    let count = c.len.ensures in
    let viewed : length c.self.inside.resources.items ≡ length c.args.self.now = ap length c.self.view_is in
    let room = c.is_full.ensures.room c.if-is_full.false in
    let size_is = h.size_is in
    let large : attributes_limit < c.saturating_add-size.result = c.if-size-gt-ATTRIBUTES_SIZE.true in
    let same : size_of_attributes c.as_slice.result.now ≡ size_of_attributes c.args.r.attrs = ap size_of_attributes c.as_slice.ensures.pairs in
    let over = sum_over c.self.inside.size (size_of_attributes c.as_slice.result.now) c.size_of_attributes.result c.saturating_add-size.result c.size_of_attributes.ensures c.saturating_add-size.ensures large in
    refused_with _ _ (too_large c.args.limits c.args.r c.args.self.now new (omega arith) (omega arith)) c.refusal-then-size-gt-ATTRIBUTES_SIZE.result
    c.refusal-then-size-gt-ATTRIBUTES_SIZE.ensures

pub invariant_of-self-2 : goal.invariant_of-self-2
invariant_of-self-2 c =
    let room = c.is_full.ensures.room c.if-is_full.false in
    let count = c.len.ensures in
    let bound = under_bound c.args.limits in
    let small : c.saturating_add-size.result ≤ attributes_limit = omega arith in
    let same : size_of_attributes c.as_slice.result.now ≡ size_of_attributes c.args.r.attrs = ap size_of_attributes c.as_slice.ensures.pairs in
    let sum = sum_is c.self.inside.size (size_of_attributes c.as_slice.result.now) c.size_of_attributes.result c.saturating_add-size.result c.size_of_attributes.ensures c.saturating_add-size.ensures small in
    listed_as _ _ _ _ _ c.in_ok-push.ensures.refs_ok c.in_ok-push.ensures.resources_ok
    (listed_more c.self.inside.refs c.self.inside.size c.saturating_add-size.result c.self.inside.resources.items c.args.r c.self.invariant (omega arith) (omega arith) small)

pub returns-clause-answers : goal.returns-clause-answers
returns-clause-answers c =
    let h = subst (IsListed c.self.inside.refs c.self.inside.size) c.self.view_is c.self.invariant in
    let found = c.find.ensures ∙ (ap (place_among c.args.r.id) h.refs_are ∙ place_is 0 c.args.r.id (references_of c.args.self.now)) in
    let new = sym (stands_is c.args.r.id (references_of c.args.self.now) c.find.result found) ∙ (sym c.is_some.ensures ∙ c.if-is_some.false) in
    let count = c.len.ensures in
    let viewed : length c.self.inside.resources.items ≡ length c.args.self.now = ap length c.self.view_is in
    let room = c.is_full.ensures.room c.if-is_full.false in
    let size_is = h.size_is in
    let small : c.saturating_add-size.result ≤ attributes_limit = omega arith in
    let same : size_of_attributes c.as_slice.result.now ≡ size_of_attributes c.args.r.attrs = ap size_of_attributes c.as_slice.ensures.pairs in
    let sum = sum_is c.self.inside.size (size_of_attributes c.as_slice.result.now) c.size_of_attributes.result c.saturating_add-size.result c.size_of_attributes.ensures c.saturating_add-size.ensures small in
    fits c.args.limits c.args.r c.args.self.now new (omega arith) (omega arith) ∙ ap Ok (sym (c.in_ok-push.ensures.resources_ok ∙ ap (λ rs. rs ++ c.args.r ∷ []) c.self.view_is))
