-- The token that is found too deep is the first.
use Rattle.std.proofs.Common.{◌≡◌, true, List, Some, None}
use Rattle.std.proofs.lemmas.Bool.{ltb-true, lt-ltb}
use Rattle.rh_base.specs.declared.limits.TheConstants.{NESTING}
use Rattle.pp_syntax.specs.Tokens.{Lexeme}
use Rattle.pp_syntax.specs.LeftOut.{IsFirst, IsNowhere}
use Rattle.pp_syntax.specs.Depth.{IsTooDeep}
use Rattle.pp_parser.specs.Nested.{at_start, shape_of, depth_of}
use Rattle.pp_parser.specs.Scanning.{behind, is_too_deep, first_too_deep}
use Rattle.pp_parser.proofs.First.{folded, found_all, nowhere_all}
use Rattle.pp_parser.proofs.Counting.{counted, deep}

-- a token that is found too deep is
tells : (before : List Lexeme) (t : Lexeme) (rest : List Lexeme) → is_too_deep (folded behind at_start before) t rest ≡ true → IsTooDeep before t rest
tells before t rest h = counted NESTING before t (ltb-true NESTING (depth_of (folded behind at_start before) (shape_of t.kind t.text)) h)

-- and one that is too deep is found so
told_by : (before : List Lexeme) (t : Lexeme) (rest : List Lexeme) → IsTooDeep before t rest → is_too_deep (folded behind at_start before) t rest ≡ true
told_by before t rest h = lt-ltb NESTING (depth_of (folded behind at_start before) (shape_of t.kind t.text)) (deep NESTING before t h.0 h.1 h.2)

-- the token that is found is the first that is too deep
pub too_deep_found : (tokens : List Lexeme) (t : Lexeme) → first_too_deep at_start tokens ≡ Some t → IsFirst IsTooDeep tokens t
too_deep_found = found_all behind is_too_deep at_start IsTooDeep tells told_by

-- where none is found, none is too deep
pub none_too_deep : (tokens : List Lexeme) → first_too_deep at_start tokens ≡ None → IsNowhere IsTooDeep tokens
none_too_deep = nowhere_all behind is_too_deep at_start IsTooDeep tells told_by
