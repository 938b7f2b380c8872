use Rattle.std.proofs.Common.{◌≡◌, take, Some, slice_get, ap, sym, ◌∙◌}
use Rattle.fs_interpreter.specs.Places.{Listed, place_in, or_added}
use Rattle.order_encode.proofs.TableLaws.{added}
use Rattle.order_encode.proofs.table.copy_paths.Goals as goal

pub loop-i-preserved : goal.loop-i-preserved
loop-i-preserved c =
    let before = c.loop-i.invariant in
    let xs = c.args.table.now.paths in
    let i = c.loop-i.i in
    let p = c.in_ok-path.path in
    let at : slice_get xs i ≡ Some p = c.path.ensures ∙ sym (ap Some c.in_ok-path.ensures) in
    record {
      paths = ap (λ (t : Listed). t.paths) c.in_ok-add_path.ensures.ok ∙ (λ t. or_added (place_in (before.paths t) p) (before.paths t) p)
          ∙ added xs i p (place_in (take i xs) p) (λ j e. c.searches.ensures.path (take i xs) p j e) c.is_table.ensures.once at;
      contents = ap (λ (t : Listed). t.contents) c.in_ok-add_path.ensures.ok ∙ before.contents;
    }
