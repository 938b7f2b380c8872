-- Reading the types of parameters from tokens. Each function takes the reader of the types within brackets.
use Rattle.std.specs.Prelude.{ℕ, zero, suc, ◌+◌, Bool, ℤ, pos, if◌then◌else◌, List, length, Option, Some, None, codes}
use Rattle.std.specs.Str.{bytes_eq}
use Rattle.pp_syntax.specs.declared.token.Kind.{Kind}
use Rattle.pp_syntax.specs.declared.token.Kind.TheVariants as kind
use Rattle.pp_syntax.specs.declared.tree.TypeName.{TypeName}
use Rattle.pp_syntax.specs.declared.tree.TypeName.TheVariants as type
use Rattle.pp_syntax.specs.Tokens.{Lexeme}
use Rattle.rh_base.specs.Reading.{◌>>=◌}
use Rattle.pp_readers.specs.Values.{number, sq}
use Rattle.pp_readers.specs.Expressions.{items}
use Rattle.pp_readers.specs.Combining.{Reader, both, behind, before, begins}
use Rattle.pp_readers.specs.Names.{taken}
use Rattle.pp_parser.specs.declared.words.TypeWord.{TypeWord}
use Rattle.pp_parser.specs.declared.words.TypeWord.TheVariants as word

-- what the test says begins here, or nothing
abbrev pub optional : {X : Type 0} → (List Lexeme → Bool) → Reader X → Reader (Option X)
optional test f ts = if test ts then (f ts >>= λ x. Some (Some x.0, x.1)) else Some (None, ts)

-- ---- words

abbrev pub type_word : List ℕ → Option TypeWord
type_word s = if bytes_eq s (codes "Any") then Some word.Any else (if bytes_eq s (codes "Boolean") then Some word.Boolean else (
    if bytes_eq s (codes "Hash") then Some word.Hash else (if bytes_eq s (codes "String") then Some word.Text else (
    if bytes_eq s (codes "Integer") then Some word.Number else (if bytes_eq s (codes "Array") then Some word.Array else (
    if bytes_eq s (codes "Optional") then Some word.Optional else (if bytes_eq s (codes "Enum") then Some word.Enum else (
    if bytes_eq s (codes "Variant") then Some word.Variant else None))))))))

abbrev pub type_word_by : Kind → List ℕ → Option TypeWord
type_word_by kind.Ref s = type_word s
type_word_by _ s = None

abbrev pub number_by : Kind → List ℕ → Option ℤ
number_by kind.Int s = number s
number_by _ s = None

abbrev pub quoted_by : Kind → List ℕ → Option (List ℕ)
quoted_by kind.Sq s = sq s
quoted_by _ s = None

-- ---- bounds

abbrev pub upper_with : Reader (Option ℤ)
upper_with = optional (begins kind.Sign (codes ",")) (behind kind.Sign (codes ",") (taken number_by))

-- one number or two, and the bracket that closes them
abbrev pub bounds_with : Reader (ℤ × Option ℤ)
bounds_with = before (both (taken number_by) upper_with) kind.Sign (codes "]")

abbrev pub maybe_bounds : Reader (Option (ℤ × Option ℤ))
maybe_bounds = optional (begins kind.Tight (codes "[")) (behind kind.Tight (codes "[") bounds_with)

abbrev pub text_type : Option (ℤ × Option ℤ) → TypeName
text_type None = type.Str (pos 0) None
text_type (Some b) = type.Str b.0 b.1

abbrev pub number_type : Option (ℤ × Option ℤ) → TypeName
number_type None = type.Int None None
number_type (Some b) = type.Int (Some b.0) b.1

-- ---- types within brackets

abbrev pub member_with : Reader TypeName → Reader TypeName
member_with t = behind kind.Tight (codes "[") (before t kind.Sign (codes "]"))

abbrev pub maybe_member : Reader TypeName → Reader (Option TypeName)
maybe_member t = optional (begins kind.Tight (codes "[")) (member_with t)

abbrev pub members_in : Reader TypeName → Reader (List TypeName)
members_in t ts = items (codes "]") t (length ts + 1) ts

abbrev pub members_with : Reader TypeName → Reader (List TypeName)
members_with t = behind kind.Tight (codes "[") (members_in t)

abbrev pub texts_in : Reader (List (List ℕ))
texts_in ts = items (codes "]") (taken quoted_by) (length ts + 1) ts

abbrev pub texts_with : Reader (List (List ℕ))
texts_with = behind kind.Tight (codes "[") texts_in

-- what is made of what is read
abbrev pub shaped : {X Y : Type 0} → (X → Y) → Reader X → Reader Y
shaped h f ts = f ts >>= λ x. Some (h x.0, x.1)

-- behind the name of a type
abbrev pub type_by : Reader TypeName → TypeWord → Reader TypeName
type_by t word.Any ts = Some (type.Any, ts)
type_by t word.Boolean ts = Some (type.Boolean, ts)
type_by t word.Hash ts = Some (type.Hash, ts)
type_by t word.Text ts = shaped text_type maybe_bounds ts
type_by t word.Number ts = shaped number_type maybe_bounds ts
type_by t word.Array ts = shaped type.Array (maybe_member t) ts
type_by t word.Optional ts = shaped type.Optional (member_with t) ts
type_by t word.Enum ts = shaped type.Enum texts_with ts
type_by t word.Variant ts = shaped type.Variant (members_with t) ts

abbrev pub type_with : Reader TypeName → Reader TypeName
type_with t ts = taken type_word_by ts >>= λ w. type_by t w.0 w.1

-- with brackets nested less deep than this
abbrev pub type_at : ℕ → Reader TypeName
type_at zero ts = None
type_at (suc depth) ts = type_with (type_at depth) ts
