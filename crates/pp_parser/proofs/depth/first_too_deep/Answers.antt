use Rattle.std.proofs.Common.{◌≤◌, ◌+◌, sym, subst, ◌∙◌, arith}
use Rattle.pp_parser.specs.Nested.{depth_of}
use Rattle.pp_parser.proofs.Rows.{passes, behind_below, IsBelow}
use Rattle.pp_parser.specs.declared.depth.Nesting.{Nesting}
use Rattle.pp_parser.proofs.depth.first_too_deep.Goals as goal

pub loop-t-preserved : goal.loop-t-preserved
loop-t-preserved c =
    let shallow : depth_of c.loop-t.nesting c.shape_of-shape.result ≤ 64 = omega (arith, c.depth_of.ensures, c.from.ensures, c.if-depth_of-from.false) in
    record {
      first = passes c.loop-t.nesting c.pass.new.self c.args.tokens.now c.loop-t.t-index _ c.shape_of-shape.result (omega arith) c.shape_of-shape.ensures
          shallow c.in_ok-pass.ensures ∙ c.loop-t.invariant.first;
      below = subst (λ (n : Nesting). IsBelow n (c.loop-t.t-index + 1)) (sym c.in_ok-pass.ensures) (behind_below c.loop-t.nesting c.shape_of-shape.result c.loop-t.t-index c.loop-t.invariant.below);
    }
