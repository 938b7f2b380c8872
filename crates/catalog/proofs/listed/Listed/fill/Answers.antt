-- That defaults are filled in, where there is room for them, and what stands beside the list stays right.
use Rattle.std.proofs.Common.{◌≡◌, ◌+◌, ◌<◌, ◌≤◌, filter, List, Ok, ap, sym, ◌∙◌, subst, arith}
use Rattle.std.proofs.Common.{Some, get_or}
use Rattle.std.specs.Prelude.{slice_get}
use Rattle.pp_value.specs.Values.{Pair}
use Rattle.catalog_semantics.specs.declared.catalog.Resource.{Resource}
use Rattle.catalog_semantics.specs.States.{attributes_limit, size_of_attributes, lacks}
use Rattle.catalog.specs.Places.{IsListed}
use Rattle.catalog.specs.Adding.{with_attributes, changed_at}
use Rattle.catalog.proofs.SizeLaws.{sum_is, sum_over, listed_filled, size_filled, changed_same, there}
use Rattle.catalog.proofs.Listing.{refused_with, filled_large, filled_fits}
use Rattle.catalog.proofs.listed.Listed.fill.Goals as goal

pub returns-then-size-gt-ATTRIBUTES_SIZE-clause-answers : goal.returns-then-size-gt-ATTRIBUTES_SIZE-clause-answers
returns-then-size-gt-ATTRIBUTES_SIZE-clause-answers c =
    let h = subst (IsListed c.self.inside.refs c.self.inside.size) c.self.view_is c.self.invariant in
    let at = there c.args.self.now c.args.place c.index-r.result.now (c.index-r.ensures ∙ ap (λ (rs : List Resource). get_or rs c.args.place c.index-r.result.now) c.self.view_is) c.requires in
    let size_is = h.size_is in
    let large : attributes_limit < c.saturating_add-size.result = c.if-size-gt-ATTRIBUTES_SIZE.true in
    let same : size_of_attributes (filter (lacks c.index-r.result.now.attrs) c.as_slice.result.now) ≡ size_of_attributes (filter (lacks c.index-r.result.now.attrs) c.args.pairs.now) =
    ap (λ ps. size_of_attributes (filter (lacks c.index-r.result.now.attrs) ps)) c.as_slice.ensures.pairs in
    let over = sum_over c.self.inside.size (size_of_attributes (filter (lacks c.index-r.result.now.attrs) c.as_slice.result.now)) c.size_of_lacking.result c.saturating_add-size.result c.size_of_lacking.ensures c.saturating_add-size.ensures large in
    let after = size_filled c.args.place c.args.pairs.now c.args.self.now c.index-r.result.now at in
    refused_with _ _ (filled_large c.args.place c.args.pairs.now c.args.self.now c.index-r.result.now at (omega arith)) c.refusal.result c.refusal.ensures

module _ (c : goal.After-self-1) where
  -- the new size isn't over the limit
  small : c.saturating_add-size.result ≤ attributes_limit
  small = let over = c.if-size-gt-ATTRIBUTES_SIZE.false in omega arith

  -- the new size is the old one and that of the defaults that were lacked
  sum : c.saturating_add-size.result ≡ c.self.inside.size + size_of_attributes (filter (lacks c.index-r.result.now.attrs) c.args.pairs.now)
  sum =
      let same : size_of_attributes (filter (lacks c.index-r.result.now.attrs) c.as_slice.result.now) ≡ size_of_attributes (filter (lacks c.index-r.result.now.attrs) c.args.pairs.now) =
      ap (λ ps. size_of_attributes (filter (lacks c.index-r.result.now.attrs) ps)) c.as_slice.ensures.pairs in
      let total = sum_is c.self.inside.size (size_of_attributes (filter (lacks c.index-r.result.now.attrs) c.as_slice.result.now)) c.size_of_lacking.result c.saturating_add-size.result c.size_of_lacking.ensures c.saturating_add-size.ensures small in
      omega arith

  -- the resource stands at the place
  at : slice_get c.args.self.now c.args.place ≡ Some c.index-r.result.now
  at = there c.args.self.now c.args.place c.index-r.result.now (c.index-r.ensures ∙ ap (λ (rs : List Resource). get_or rs c.args.place c.index-r.result.now) c.self.view_is) c.requires

  -- the one at the place has its defaults now
  changed : c.set_attributes.new.resources.items ≡ changed_at c.args.place (with_attributes c.args.pairs.now) c.args.self.now
  changed =
      c.set_attributes.ensures
      ∙ (ap (changed_at c.args.place (λ r. record r { attrs = c.in_ok-attributes.attributes })) c.self.view_is
      ∙ changed_same c.args.place (λ r. record r { attrs = c.in_ok-attributes.attributes }) (with_attributes c.args.pairs.now) c.args.self.now c.index-r.result.now at
      (ap (λ (more : List Pair). record c.index-r.result.now { attrs = more }) c.in_ok-attributes.ensures))

  -- what stood beside the list was right
  listed : IsListed c.self.inside.refs c.self.inside.size c.args.self.now
  listed = subst (IsListed c.self.inside.refs c.self.inside.size) c.self.view_is c.self.invariant

pub invariant_of-self : goal.invariant_of-self
invariant_of-self c =
    subst (IsListed c.self.inside.refs c.saturating_add-size.result) (sym (changed c))
    (listed_filled c.self.inside.refs c.self.inside.size c.saturating_add-size.result c.args.place c.args.pairs.now c.args.self.now c.index-r.result.now (listed c) (at c) (sum c) (small c))

pub returns-clause-answers : goal.returns-clause-answers
returns-clause-answers c =
    let h = listed c in
    let size_is = h.size_is in
    let total = sum c in
    let fits = small c in
    let after = size_filled c.args.place c.args.pairs.now c.args.self.now c.index-r.result.now (at c) in
    filled_fits c.args.place c.args.pairs.now c.args.self.now c.index-r.result.now (at c) (omega arith) ∙ ap Ok (sym (changed c))
