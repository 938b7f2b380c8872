use Rattle.std.proofs.Common.{ℕ, List, ◌++◌}
use Rattle.std.specs.List.{flat_map}
use Rattle.std.proofs.lemmas.Map.Iter.{rest_more, rest_all}
use Rattle.compiled_attributes.specs.Fragments.{Position, piece_text}
use Rattle.compiled_attributes.proofs.PieceLaws.{next_added, all_added}
use Rattle.compiled_attributes.proofs.content.push_pieces.Goals as goal

pub loop-position-preserved : goal.loop-position-preserved
loop-position-preserved c =
    let piece : Position × List ℕ = (c.in-Some.position, c.in-Some.content) in
    let next = rest_more (λ p. p) c.loop-position.position-iterator c.next.new.self c.next.result piece c.in-Some.is c.next.ensures.steps in
    next_added piece_text c.loop-position.into c.push_piece.new.into (c.args.into.now ++ flat_map piece_text c.args.pieces.entries) piece c.loop-position.position-iterator c.next.new.self next c.loop-position.invariant
    c.in_ok-push_piece.ensures

pub returns : goal.returns
returns c =
    all_added piece_text c.loop-position.into (c.args.into.now ++ flat_map piece_text c.args.pieces.entries) c.loop-position.position-iterator
    (rest_all (λ p. p) c.loop-position.position-iterator c.next.new.self c.next.result c.in-None.is c.next.ensures.steps) c.loop-position.invariant
