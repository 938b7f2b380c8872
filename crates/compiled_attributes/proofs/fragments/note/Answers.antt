use Rattle.std.proofs.Common.{ap, ap₂, ◌∙◌}
use Rattle.std.specs.Map.{lookup}
use Rattle.std.specs.Str.{bytes_eq}
use Rattle.indexmap.specs.IndexMap.{insert_entry}
use Rattle.compiled_attributes.specs.Places.{or_none}
use Rattle.compiled_attributes.proofs.TableLaws.{noted}
use Rattle.compiled_attributes.proofs.fragments.note.Goals as goal

pub returns : goal.returns
returns c =
    let old = c.args.by_target.now.entries in
    let mid = c.insert.new.self.entries in
    noted old mid c.insert-2.new.self.entries c.args.target.now c.push.new.self c.or_none-places.result c.args.place
    (c.in_ok-before.ensures.entries ∙ ap₂ (insert_entry bytes_eq old) c.in_ok-name.ensures c.new.ensures)
    (c.in_ok-insert.ensures.entries ∙ ap (λ k. insert_entry bytes_eq mid k c.push.new.self) c.in_ok-name-2.ensures)
    (c.or_none-places.ensures ∙ ap or_none (c.in_ok-before.ensures.old ∙ ap (λ k. lookup (bytes_eq k) old) c.in_ok-name.ensures)) c.in_ok-push.ensures.ok
