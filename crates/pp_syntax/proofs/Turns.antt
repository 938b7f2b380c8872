-- One turn of a loop that has so many.
use Rattle.std.proofs.Common.{◌≡◌, ℕ, suc, ◌+◌, ◌-◌, ◌<◌, List, Some, ap, ◌∙◌, arith}
use Rattle.pp_syntax.specs.declared.lexer.bytes.Style.{Style}
use Rattle.pp_syntax.specs.Scanning.{next_segment, go_on, more_segments}

-- the turn reads one more segment and leaves the turns behind it the rest
pub another_segment : (how : Style) (n i : ℕ) (rest next : List ℕ) → i < n → next_segment how rest ≡ Some next → more_segments (n - i) how rest ≡ more_segments (n - (i + 1)) how next
another_segment how n i rest next below found =
    let e : n - i ≡ suc (n - (i + 1)) = omega arith in
    ap (λ k. more_segments k how rest) e ∙ ap (go_on (more_segments (n - (i + 1)) how) rest) found
