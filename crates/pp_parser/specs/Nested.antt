-- The depth, counted from left to right.
use Rattle.std.specs.Prelude.{ℕ, ◌+◌, if◌then◌else◌, List, [], ◌∷◌, length, codes}
use Rattle.std.specs.Str.{bytes_eq}
use Rattle.pp_syntax.specs.declared.token.Kind.{Kind}
use Rattle.pp_syntax.specs.declared.token.Kind.TheVariants as kind
use Rattle.pp_syntax.specs.Tokens.{is_among}
use Rattle.pp_parser.specs.declared.depth.Shape.{Shape}
use Rattle.pp_parser.specs.declared.depth.Shape.TheVariants.{Opens, Indexes, Braces, Closes, Asks, Prefixes, Other}
use Rattle.pp_parser.specs.declared.depth.Nesting.{Nesting}

-- what counts before the first token
abbrev pub at_start : Nesting
at_start = record { opened = []; run = 0; row = 0; asked = 0 }

abbrev pub sign_shape : List ℕ → Shape
sign_shape text = if is_among (codes "(" ∷ codes "<|" ∷ []) text then Opens
    else (if bytes_eq text (codes "{") then Braces
    else (if is_among (codes ")" ∷ codes "]" ∷ codes "}" ∷ codes "|>" ∷ []) text then Closes
    else (if bytes_eq text (codes "?") then Asks
    else (if is_among (codes "!" ∷ codes "-" ∷ []) text then Prefixes
    else Other))))

-- what a token is for the depth
abbrev pub shape_of : Kind → List ℕ → Shape
shape_of kind.Loose text = Opens
shape_of kind.Hole text = Opens
shape_of kind.Tight text = Indexes
shape_of kind.HoleEnd text = Closes
shape_of kind.Sign text = sign_shape text
shape_of _ text = Other

abbrev pub innermost : List ℕ → ℕ
innermost [] = 0
innermost (r ∷ outer) = r

abbrev pub outer_of : List ℕ → List ℕ
outer_of [] = []
outer_of (r ∷ outer) = outer

-- what counts behind a token of this shape
abbrev pub behind_shape : Nesting → Shape → Nesting
behind_shape n Opens = record { opened = 0 ∷ n.opened; run = 0; row = 0; asked = 0 }
behind_shape n Indexes = record { opened = (n.row + 1) ∷ n.opened; run = 0; row = 0; asked = 0 }
behind_shape n Braces = record { opened = n.asked ∷ n.opened; run = 0; row = 0; asked = 0 }
behind_shape n Closes = record { opened = outer_of n.opened; run = 0; row = innermost n.opened; asked = 0 }
behind_shape n Asks = record { opened = n.opened; run = 0; row = 0; asked = n.row + 1 }
behind_shape n Prefixes = record { opened = n.opened; run = n.run + 1; row = 0; asked = 0 }
behind_shape n Other = record { opened = n.opened; run = 0; row = 0; asked = 0 }

-- the depth at a token of this shape, where so much counts before it
abbrev pub depth_of : Nesting → Shape → ℕ
depth_of n Opens = length n.opened + 1
depth_of n Indexes = length n.opened + 1 + n.row
depth_of n Braces = length n.opened + 1
depth_of n Closes = length n.opened
depth_of n Asks = length n.opened + n.row
depth_of n Prefixes = length n.opened + n.run + 1
depth_of n Other = length n.opened
