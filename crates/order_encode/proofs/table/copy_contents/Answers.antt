use Rattle.std.proofs.Common.{◌≡◌, take, Some, slice_get, ap, sym, ◌∙◌}
use Rattle.fs_interpreter.specs.Places.{Listed, content_place, or_added}
use Rattle.order_encode.proofs.TableLaws.{added}
use Rattle.order_encode.proofs.table.copy_contents.Goals as goal

pub loop-n-preserved : goal.loop-n-preserved
loop-n-preserved c =
    let before = c.loop-n.invariant in
    let xs = c.args.table.now.contents in
    let n = c.loop-n.n in
    let x = c.in_ok-content.content in
    let at : slice_get xs n ≡ Some x = c.content.ensures ∙ sym (ap Some c.in_ok-content.ensures) in
    record {
      paths = ap (λ (t : Listed). t.paths) c.in_ok-add_content.ensures.ok ∙ before.paths;
      contents = ap (λ (t : Listed). t.contents) c.in_ok-add_content.ensures.ok ∙ (λ t. or_added (content_place (before.contents t) x) (before.contents t) x)
          ∙ added xs n x (content_place (take n xs) x) (λ j e. c.searches.ensures.content (take n xs) x j e) c.is_table.ensures.contents_once at;
    }
