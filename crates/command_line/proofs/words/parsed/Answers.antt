use Rattle.std.proofs.Common.{◌≡◌, [], refl, Bool, true, false, map, string_bytes, sym, subst, ◌∙◌, inl, inr}
use Rattle.clap.specs.Simple.{is_simple, HasMatchesOf}
use Rattle.clap.specs.Words.{is_simple_and_free, fault_of, kind_of, HasKind, IsAmong}
use Rattle.clap.proofs.OnLiterals.{clap_on_literals}
use Rattle.command_line.specs.Words.{synopsis}
use Rattle.command_line.proofs.words.parsed.Goals as goal

-- the command of these options is simple
plain : is_simple synopsis ≡ true
unfolding clap_on_literals
plain = refl

-- and none of its arguments has a rule on another
free : is_simple_and_free synopsis ≡ true
unfolding clap_on_literals
free = refl

pub returns-in-Ok-clause-rows : goal.returns-in-Ok-clause-rows
returns-in-Ok-clause-rows c =
    (subst (λ a. HasMatchesOf a (map string_bytes c.args.words.now) c.in-Ok.matches) c.in_ok-command.ensures c.in-Ok.ensures.matches plain).0

pub returns-in-Ok-clause-taken : goal.returns-in-Ok-clause-taken
returns-in-Ok-clause-taken c =
    subst (λ a. is_simple_and_free a ≡ true → fault_of a (map string_bytes c.args.words.now) ≡ []) c.in_ok-command.ensures c.in-Ok.ensures.kinds free

pub returns-else-lacks_memory-clause-refused : goal.returns-else-lacks_memory-clause-refused
returns-else-lacks_memory-clause-refused c none =
    let kinds = subst (λ a. is_simple_and_free a ≡ true → HasKind (fault_of a (map string_bytes c.args.words.now)) c.in-Err.fault) c.in_ok-command.ensures c.in-Err.ensures.kinds free in
    elim kinds [
      | inl memory ↦ (let no : ◌≡◌ {A = Bool} false true = sym c.if-lacks_memory.false ∙ c.lacks_memory.ensures.1 memory in cc)
      | inr among ↦ subst (IsAmong (kind_of c.in-Err.fault)) none among
    ]
