-- One step of the code: a level of depth, and a turn of a loop.
use Rattle.std.proofs.Common.{◌≡◌, ℕ, zero, suc, ◌+◌, ◌-◌, ◌<◌, ◌==◌, false, List, None, ap, arith, ◌∙◌}
use Rattle.pp_syntax.specs.Tokens.{Lexeme}
use Rattle.rh_base.specs.Reading.{◌>>=◌}
use Rattle.pp_readers.specs.Marks.{Found}
use Rattle.pp_readers.specs.Expressions.{with_front, with_first, separator, more_items, items}
use Rattle.pp_parser.specs.TypeReading.{type_with, type_at}

-- a type at a depth is read with types one less deep in its brackets
pub type_step : (depth : ℕ) (ts : List Lexeme) → (depth == 0) ≡ false → type_with (type_at (depth - 1)) ts ≡ type_at depth ts
type_step zero ts h = cc
type_step (suc depth) ts h = let e : suc depth - 1 ≡ depth = omega arith in ap (λ k. type_with (type_at k) ts) e

-- a turn that finds no item finds nothing
pub item_stops : {X : Type 0} (close : List ℕ) (item : List Lexeme → Found X) (front : List X) (n i : ℕ) (ts : List Lexeme) → i < n → item ts ≡ None → with_front front (items close item (n - i) ts) ≡ None
item_stops close item front n i ts h p =
    let e : n - i ≡ suc (n - (i + 1)) = omega arith in
    ap (with_front front) (ap (λ k. items close item k ts) e
    ∙ ap (λ r. r >>= λ x. separator close x.1 >>= λ s. with_first x.0 (more_items s.0 (items close item (n - (i + 1))) s.1)) p)
