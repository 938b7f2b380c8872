use Rattle.std.proofs.Common.{◌++◌, map, refl, subst₂}
use Rattle.given_text.specs.Folders.{HasJust}
use Rattle.given_text.proofs.reading.closed.Goals as goal

pub returns : goal.returns
returns c = record {
  links = refl;
  tree = c.in_ok-tree.tree;
  just = subst₂ (λ fs ls. HasJust (fs ++ map (λ l. l.target) ls) c.in_ok-tree.tree) c.as_slice.ensures c.as_slice-2.ensures c.in_ok-tree.ensures;
  folders = c.in_ok-folders.ensures;
}
