use Rattle.std.proofs.Common.{◌≡◌, true}
use Rattle.pp_declarations.proofs.OwnBlocks.{arm_is_own, option_is_own}
use Rattle.pp_declarations.proofs.laws.chosen_blocks_are_own.Goals as goal

pub returns : goal.returns
returns c = record {
  arm = λ test s b arms other h k e. arm_is_own (λ x. test x ≡ true) s b arms other h k e;
  option = λ test s b e arms h k. option_is_own (λ x. test x ≡ true) s b e arms h k;
}
