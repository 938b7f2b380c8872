use Rattle.std.proofs.Common.{◌≡◌, ◌++◌, Option, Some, None, Ok, refl, sym, ◌∙◌}
use Rattle.fs_semantics.specs.FileTree.{Path}
use Rattle.fs_lang.specs.Reading.{piece_of, Adds}
use Rattle.fs_lang.proofs.Pieces.{last_piece}
use Rattle.fs_lang.proofs.reading.segments_of.Goals as goal

-- a piece that was added without a fault was good, and its segments came behind the others
added : (r : Option Path) (old new : Path) → Adds (Ok tt) r old new → (k : Path) × (r ≡ Some k) × (new ≡ old ++ k)
added None old new h = absurd h
added (Some k) old new h = (k, refl, h)

pub returns : goal.returns
returns c =
    let k = added (piece_of c.loop-piece.rest.now) c.loop-piece.segments c.add_piece-2.new.segments c.in_ok-add_piece-2.ensures in
    sym c.loop-piece.invariant.is ∙ last_piece c.loop-piece.segments c.add_piece-2.new.segments k.0 c.loop-piece.rest.now c.in_default.ensures k.1 k.2
