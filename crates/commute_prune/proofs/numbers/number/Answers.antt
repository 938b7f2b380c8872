use Rattle.std.proofs.Common.{◌≡◌, ◌+◌, cond, Some, None, ap, sym, subst, subst₂, ◌∙◌}
use Rattle.std.specs.Prelude.{option_copied, is_some}
use Rattle.std.specs.BTreeMap.{Updates, btree_map_len}
use Rattle.fs_semantics.specs.FileTree.{path_cmp}
use Rattle.commute_prune.specs.Numbers.{number_in}
use Rattle.commute_prune.proofs.NumberLaws.{numbering_more, extends_more}
use Rattle.commute_prune.proofs.numbers.number.Goals as goal

pub returns-clause-numbering : goal.returns-clause-numbering
returns-clause-numbering c =
    let m = c.args.numbers.now in
    let more = c.insert.new.self in
    let p = c.args.p.now in
    let new : number_in m p ≡ None = sym c.get.ensures.value ∙ ap option_copied c.in_default.is in
    let updates = subst₂ (λ k n. Updates path_cmp m more k (Some n)) c.in_ok-key.ensures c.len-n.ensures.len c.in_ok-insert.ensures.updates in
    let none = c.in_ok-insert.ensures.old ∙ ap (number_in m) c.in_ok-key.ensures ∙ new in
    let long : btree_map_len more ≡ btree_map_len m + 1 = c.in_ok-insert.ensures.len ∙ ap (λ o. btree_map_len m + cond (is_some o) 0 1) none in
    numbering_more m more p c.requires new updates long

pub returns-clause-extends : goal.returns-clause-extends
returns-clause-extends c =
    let m = c.args.numbers.now in
    let more = c.insert.new.self in
    let p = c.args.p.now in
    let new : number_in m p ≡ None = sym c.get.ensures.value ∙ ap option_copied c.in_default.is in
    extends_more m more p c.len-n.result new (subst (λ k. Updates path_cmp m more k (Some c.len-n.result)) c.in_ok-key.ensures c.in_ok-insert.ensures.updates)
