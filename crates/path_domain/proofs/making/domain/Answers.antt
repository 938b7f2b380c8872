use Rattle.std.proofs.Common.{◌≤◌, ◌^◌, ◌++◌, map, length, sym, ap, subst, ◌∙◌, refl}
use Rattle.std.specs.List.Sorted.{IsStrictlySortedBy}
use Rattle.fs_semantics.specs.FileTree.{IsSegment, path_cmp}
use Rattle.fs_lang.specs.Meaning.{program_of}
use Rattle.finite_domain.specs.Matters.{all_matters}
use Rattle.finite_domain.specs.Layouts.{stem, numbered}
use Rattle.path_domain.specs.Gathered.{Gathered, members, nothing}
use Rattle.path_domain.specs.Laid.{places_from, layout_of}
use Rattle.path_domain.proofs.UseLaws.{table_paths, contents_are}
use Rattle.path_domain.proofs.DomainLaws.{parts_of, have_parents, is_layout}
use Rattle.path_domain.proofs.CoverLaws.{all_covered}
use Rattle.path_domain.proofs.making.domain.Goals as goal
use Rattle.finite_domain.proofs.Laid.{other_is_segment}

pub children-requires : goal.children-requires
children-requires c = subst IsSegment (sym c.in_ok-name.ensures.1) (other_is_segment c.in_ok-name.ensures.0)

pub lay-requires-clause-empty : goal.lay-requires-clause-empty
lay-requires-clause-empty c = ap (λ (g : Gathered). g.table.paths) c.in_ok-found.ensures ∙ table_paths (all_matters (map program_of c.args.programs.now)) nothing

pub lay-requires-clause-parents : goal.lay-requires-clause-parents
lay-requires-clause-parents c =
    let es = map program_of c.args.programs.now in
    let f = c.in_ok-found.found in
    let fresh = members c.in_ok-fresh.fresh in
    let ks = c.in_ok-all.all.keys in
    let name = c.in_ok-name.ensures in
    have_parents es f.paths.keys f.watched.keys ks fresh name.0 (parts_of es f ks c.in_ok-name.name fresh c.in_ok-found.ensures name c.in_ok-fresh.ensures c.in_ok-all.ensures)

pub returns-clause-layout : goal.returns-clause-layout
returns-clause-layout c =
    let es = map program_of c.args.programs.now in
    let f = c.in_ok-found.found in
    let fresh = members c.in_ok-fresh.fresh in
    let ks = c.in_ok-all.all.keys in
    let name = c.in_ok-name.ensures in
    let laid = c.in_ok-lay.ensures in
    let added = c.in_ok-add_fresh_texts.ensures in
    is_layout es f.paths.keys f.watched.keys ks fresh name.0 (parts_of es f ks c.in_ok-name.name fresh c.in_ok-found.ensures name c.in_ok-fresh.ensures c.in_ok-all.ensures)
    (layout_of (record { table = c.add_fresh_texts.new.table; fresh = c.in_ok-places.places })) added.contents.0 c.lay.new.table.contents
    (added.paths ∙ laid.paths) (subst (IsStrictlySortedBy path_cmp) laid.paths laid.in_order) (c.in_ok-places.ensures ∙ ap (places_from 0 fresh) laid.paths)
    (laid.contents ∙ ap (λ (g : Gathered). g.table.contents) c.in_ok-found.ensures ∙ contents_are (all_matters es)) added.contents.1
    (added.contents.2 ∙ ap (λ ps. c.lay.new.table.contents ++ numbered (stem added.contents.0) 0 ps) laid.paths) (subst (λ ps. length ps ≤ 2 ^ 64) laid.paths laid.few)

pub returns-clause-domain : goal.returns-clause-domain
returns-clause-domain c = c.domains.ensures.laid_out (map program_of c.args.programs.now) (layout_of (record { table = c.add_fresh_texts.new.table; fresh = c.in_ok-places.places })) (returns-clause-layout c)

pub returns-clause-covers : goal.returns-clause-covers
returns-clause-covers c =
    all_covered c.args.programs.now (layout_of (record { table = c.add_fresh_texts.new.table; fresh = c.in_ok-places.places })) (returns-clause-layout c) c.add_fresh_texts.new.table refl refl
