-- Before what can't go on behind an expression no index stands.
use Rattle.std.proofs.Common.{◌≡◌, ℕ, false, List, Some, None, refl, ap, arith}
use Rattle.std.specs.Prelude.{codes}
use Rattle.pp_syntax.specs.declared.token.Kind.TheVariants as kind
use Rattle.pp_syntax.specs.Tokens.{Lexeme}
use Rattle.pp_readers.specs.Marks.{Found, mark, reach}
use Rattle.pp_readers.proofs.Tokens.{mark_found}
use Rattle.pp_readers.specs.Combining.{begins, is_found}
use Rattle.pp_readers.proofs.ReadBodies.{Quiet}

-- no tight `[` stands first there
pub tight_none : (rest : List Lexeme) → Quiet rest → begins kind.Tight (codes "[") rest ≡ false
tight_none rest q = by_mark (mark kind.Tight (codes "[") rest) refl
  where
    by_mark : (r : Found ℕ) → mark kind.Tight (codes "[") rest ≡ r → is_found r ≡ false
    by_mark None p = refl
    by_mark (Some x) p =
        let far : reach rest ≡ 8 = ap reach (mark_found kind.Tight (codes "[") rest x p) in
        absurd (omega (arith, q, far))
